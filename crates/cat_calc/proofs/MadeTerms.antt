-- Terms are made of definitions.
use Rattle.std.proofs.Common.{◌≡◌, ℕ, ◌+◌, List, [], ◌∷◌, Option, Some, None, refl, inl, inr, IfSome}
use Rattle.cat_value.specs.declared.decls.Decls.{Decls}
use Rattle.cat_value.specs.declared.declaration.ItemDecl.{ItemDecl}
use Rattle.cat_value.specs.declared.declaration.Scope.{Scope}
use Rattle.cat_scope.specs.declared.expr.Expr.{Expr}
use Rattle.cat_scope.specs.declared.defs.Def.{Def}
use Rattle.cat_scope.specs.declared.defs.Body.{Body}
use Rattle.cat_scope.specs.Names.{AllHave, IsOneOf}
use Rattle.cat_scope.specs.Targets.{defs_from}
use Rattle.cat_sound.proofs.Exported.{groups-all, defs-all, all_more}
use Rattle.cat_calc.specs.declared.term.DefaultTerm.{DefaultTerm}
use Rattle.cat_calc.specs.Desugared.{IsConditionOf, IsConsequenceOf, IsTermOf, AreMadeOf}
use Rattle.cat_calc.specs.WellFormed.{all_terms}
use Rattle.cat_calc.specs.inside.Numbered.{groups_in}
use Rattle.cat_calc.specs.inside.Items.{target_at, term_at, inner_terms, inner_items, terms_of_items, calc_scopes}
use Rattle.cat_calc.proofs.TermParts.{TermHas, DefHas, has_target}

all_among : {A : Type 0} (all xs : List A) → ((x : A) → IsOneOf x xs → IsOneOf x all) → AllHave (λ x. IsOneOf x all) xs
all_among all [] among = tt
all_among all (x ∷ xs) among = (among x (inl refl), all_among all xs (λ y one. among y (inr one)))

more_all : {A : Type 0} (P R : A → Type 0) (xs : List A) → AllHave P xs → ((x : A) → P x → R x) → AllHave R xs
more_all P R [] h go = tt
more_all P R (x ∷ xs) h go = (go x h.0, more_all P R xs h.1 go)

module _ (defs : List Def) where
  abbrev Has : DefaultTerm → Type 0
  Has = TermHas (IsConditionOf defs) (IsConsequenceOf defs)

  condition_of : (d : Def) → IsOneOf d defs → (o : Option Expr) → d.condition ≡ o → IfSome o (IsConditionOf defs)
  condition_of d there None is = tt
  condition_of d there (Some e) is = record { def = d; there = there; is = is }

  def_has : (n : ℕ) (d : Def) → IsOneOf d defs → DefHas (IsConditionOf defs) (IsConsequenceOf defs) (n, d)
  def_has n d there = record {
    condition = condition_of d there d.condition refl;
    consequence = record { def = d; there = there; pos = refl; value = refl };
  }

  made_at : (item : ℕ) (inner : Option ℕ) → IsTermOf defs (term_at defs item inner)
  made_at item inner =
      let target = target_at item inner in
      let has =
      has_target (IsConditionOf defs) (IsConsequenceOf defs) (groups_in defs target)
      (groups-all (DefHas (IsConditionOf defs) (IsConsequenceOf defs)) (defs_from target 0 defs) []
      (defs_from target 0 defs)
      (all_more (λ d. IsOneOf d.1 defs) (DefHas (IsConditionOf defs) (IsConsequenceOf defs))
      (defs_from target 0 defs)
      (defs-all (λ d. IsOneOf d defs) target 0 defs
      (more_all (λ d. IsOneOf d defs) _ defs (all_among defs defs (λ d one. one)) (λ d one same. one)))
      (λ d there. def_has d.0 d.1 there))) in
      record { conditions = has.conditions; consequences = has.consequences }

  inner_made : (item n : ℕ) (decls : List ItemDecl) → AllHave (IsTermOf defs) (inner_terms defs item n decls)
  inner_made item n [] = tt
  inner_made item n (decl ∷ decls) = (made_at item (Some n), inner_made item (n + 1) decls)

  terms_made : (ds : Decls) (n : ℕ) (items : List ItemDecl)
      → AllHave (λ terms. AllHave (IsTermOf defs) (all_terms terms)) (terms_of_items ds defs n items)
  terms_made ds n [] = tt
  terms_made ds n (decl ∷ items) =
      ((made_at n None, inner_made n 0 (inner_items ds decl.kind)), terms_made ds (n + 1) items)

pub scopes_made : (ds : Decls) (scopes : List Scope) (bodies : List Body)
    → AreMadeOf bodies (calc_scopes ds scopes bodies)
scopes_made ds [] bodies = tt
scopes_made ds (scope ∷ scopes) [] = tt
scopes_made ds (scope ∷ scopes) (body ∷ bodies) = (
  record { terms = terms_made body.defs ds 0 scope.items; assertions = refl },
  scopes_made ds scopes bodies,
)
