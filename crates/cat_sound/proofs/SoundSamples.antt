-- Samples that meet the premises of laws.
use Rattle.std.proofs.Common.{◌≡◌, ℕ, zero, suc, pos, Bool, true, false, IsTrue, List, [], ◌∷◌, Option, Some, None, Ok}
use Rattle.std.proofs.Common.{refl, sym, ap, ◌∙◌, subst, rules, arith}
use Rattle.cat_value.specs.declared.value.Value.{Value}
use Rattle.cat_value.specs.declared.value.Value.TheVariants as flat
use Rattle.cat_value.specs.declared.value.Value.TheViews as value
use Rattle.cat_value.specs.declared.ty.Ty.TheVariants as flat_ty
use Rattle.cat_value.specs.declared.decls.Decls.{Decls}
use Rattle.cat_value.specs.declared.declaration.Kind.TheVariants as kind
use Rattle.cat_value.specs.declared.declaration.ItemDecl.{ItemDecl}
use Rattle.cat_scope.specs.declared.defs.Except.TheVariants as except
use Rattle.cat_scope.specs.declared.defs.Def.{Def}
use Rattle.cat_scope.specs.declared.expr.Expr.TheVariants as leaf
use Rattle.cat_scope.specs.Names.{Names, AllHave}
use Rattle.cat_scope.specs.Judging.{Held}
use Rattle.cat_scope.specs.Targets.{judge_target}
use Rattle.cat_scope.specs.Eval.{Env, eval}
use Rattle.cat_scope.specs.Mentions.{items_named, scopes_named}
use Rattle.cat_scope.specs.Naming.{is_defined}
use Rattle.cat_scope.specs.Same.{Standing, Same}
use Rattle.cat_scope.specs.Same as same
use Rattle.cat_scope.proofs.Exported.{equations}
use Rattle.cat_scope.proofs.Exported.{namings}
use Rattle.cat_scope.proofs.Samples.{at, n_in, x_out, whole, def, x}
use Rattle.cat_sound.specs.Endings.{Allowed, Ended}
use Rattle.cat_sound.specs.Settled.{IsHeldOf, MayStand, AreSettled}
use Rattle.cat_sound.specs.Rests.{TellSame, CallSame, AgreeOn}
use Rattle.cat_sound.proofs.FormTypes.{same_some, not_true}
use Rattle.cat_sound.proofs.FlatTypes.{of-Integer}

-- ---- a scope whose one variable is defined without a condition: no target stops, and the definition alone decides

abbrev defs : List Def
defs = def x None except.No None (whole 5) (at 7 3) ∷ []

-- a log may hold what comes of a definition, and nothing that is Empty
abbrev held : Allowed
held = record { may_stop = λ target. false; may_decide = λ target by. is_there by }
  where
    is_there : {A : Type 0} → Option A → Bool
    is_there None = false
    is_there (Some a) = true

abbrev five : Held Value
five = record { number = 0; pos = at 7 3; value = flat.Integer (pos 5) }

it_holds : (env : Env) (arguments : List Value) → (judge_target (λ e. eval env e arguments) x defs).end ≡ Ok (Some five)
unfolding judge_target
it_holds env arguments = search (rules, equations, value.the_lemmas)

held_typed : (ds : Decls) → Ended held (IsHeldOf false ds flat_ty.Integer) (Ok (Some five))
held_typed ds = of-Integer ds (pos 5) refl

module _ (ds : Decls) where
  abbrev names : Names
  names = record { decls = ds; items = n_in ∷ x_out ∷ [] }

  -- an input has no definitions, and x is the only other target
  pub x_is_settled : AreSettled held names 0 defs
  x_is_settled env arguments zero None ps t target are stand =
      not_true (subst (λ (i : ItemDecl). IsTrue (is_defined i)) (sym (same_some n_in target.decl target.decl_is))
      target.defined)
  x_is_settled env arguments (suc zero) None ps t target are stand =
      let ty_is : t ≡ flat_ty.Integer =
      target.ty_is ∙ sym (ap (λ (i : ItemDecl). i.ty) (same_some x_out target.decl target.decl_is)) in
      record {
        ends = λ stops. subst (Ended held (IsHeldOf false ds t)) (sym (it_holds env arguments))
            (subst (λ u. Ended held (IsHeldOf false ds u) (Ok (Some five))) (sym ty_is) (held_typed ds));
        stands = λ none. subst (MayStand held x) (sym (it_holds env arguments)) refl;
      }
  x_is_settled env arguments (suc (suc item)) None ps t target are stand = absurd (cc (target.decl_is))
  x_is_settled env arguments zero (Some inner) ps t target are stand =
      let is_kind : kind.Input ≡ kind.Called target.scope =
      ap (λ (i : ItemDecl). i.kind) (same_some n_in target.called target.called_is) ∙ target.kind_is in
      absurd (cc (is_kind))
  x_is_settled env arguments (suc zero) (Some inner) ps t target are stand =
      let is_kind : kind.Output ≡ kind.Called target.scope =
      ap (λ (i : ItemDecl). i.kind) (same_some x_out target.called target.called_is) ∙ target.kind_is in
      absurd (cc (is_kind))
  x_is_settled env arguments (suc (suc item)) (Some inner) ps t target are stand = absurd (cc (target.called_is))

-- ---- environments that differ in what an expression doesn't name

names_nothing : (named : List ℕ) (P : ℕ → Type 0) → named ≡ [] → AllHave P named
names_nothing named P none = subst (AllHave P) (sym none) tt

five_names_nothing : (a b : Env) → a.rounding ≡ b.rounding → AgreeOn a b (whole 5)
five_names_nothing a b r = record {
  rounding = r;
  items = names_nothing (items_named (whole 5)) (TellSame a b) (search (rules, namings));
  scopes = names_nothing (scopes_named (whole 5)) (CallSame a b) (search (rules, namings));
}

-- ---- names in definitions of a variable and of a function with one parameter

abbrev of_variable : Standing
of_variable = record { function = 1; params = 0 }

abbrev pub of_function : Standing
of_function = record { function = 2; params = 1 }

-- the first name that is bound inside is counted from its binder
bound_ones_are_same : Same of_variable of_function (leaf.Local (at 1 1) 0) (leaf.Local (at 2 2) 1)
bound_ones_are_same = same.bound 0

pub parameters_of_one_function_are_same : Same of_function of_function (leaf.Local (at 1 1) 0) (leaf.Local (at 2 2) 0)
parameters_of_one_function_are_same = same.parameter refl (omega arith) (omega arith)
