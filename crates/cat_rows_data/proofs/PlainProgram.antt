-- A program whose definitions are plain is well formed.
use Rattle.std.proofs.Common.{◌≡◌, ◌<◌, ◌&&◌, ◌∙◌, ℕ, zero, suc, nat_eq, Bool, true, false, if◌then◌else◌}
use Rattle.std.proofs.Common.{IsTrue, List, [], ◌∷◌, ◌++◌, ◌+◌}
use Rattle.std.proofs.Common.{length, replicate, Some, None, codes, refl, sym, ap, subst, arith, rules, true≢false}
use Rattle.std.proofs.lemmas.List.{replicate_more}
use Rattle.cat_pos.specs.declared.pos.Pos.{Pos}
use Rattle.cat_order.specs.Order.{IsOrder, is_ready}
use Rattle.cat_order.specs.Cycle.{DependsOn}
use Rattle.cat_order.specs.Computed.{order_of}
use Rattle.cat_order.proofs.Exported.{order_of-iff_IsOrder}
use Rattle.cat_value.specs.declared.ty.Ty.TheVariants as ty
use Rattle.cat_value.specs.declared.decls.Decls.{Decls}
use Rattle.cat_value.specs.declared.declaration.ItemDecl.{ItemDecl}
use Rattle.cat_value.specs.declared.declaration.Scope.{Scope}
use Rattle.cat_value.specs.declared.declaration.Structure.{Structure}
use Rattle.cat_value.specs.declared.declaration.Enumeration.{Enumeration}
use Rattle.cat_value.specs.declared.outcome.Target.{Target}
use Rattle.cat_value.specs.Heights.{height_to}
use Rattle.cat_value.specs.Declarations.{are_sound, highest}
use Rattle.cat_value.specs.Dependencies.{are_ordered}
use Rattle.cat_value.proofs.Exported as value
use Rattle.cat_scope.specs.declared.expr.Expr.{Expr}
use Rattle.cat_scope.specs.declared.expr.Expr.TheVariants as leaf
use Rattle.cat_scope.specs.declared.expr.Literal.TheVariants as literal
use Rattle.cat_scope.specs.declared.defs.Def.{Def}
use Rattle.cat_scope.specs.declared.defs.Body.{Body}
use Rattle.cat_scope.specs.declared.defs.SourcePart.{SourcePart}
use Rattle.cat_scope.specs.declared.defs.SourcePart.TheVariants.{Declaration, Definition}
use Rattle.cat_scope.specs.Names.{Names, AllHave}
use Rattle.cat_scope.specs.Naming.{IsTargetAt}
use Rattle.cat_scope.specs.HasType.{HasType, literal as literal_has_type}
use Rattle.cat_scope.specs.Mentions.{items_named, functions_named, scopes_named}
use Rattle.cat_scope.specs.Expected.{lists_placed, condition_placed, parts_placed, defs_placed}
use Rattle.cat_scope.specs.Orders.{in_condition, in_def, in_defs_of, item_dependencies, called_in, calls_in, once}
use Rattle.cat_scope.specs.Orders.{scope_dependencies}
use Rattle.cat_scope.specs.Chains.{HasShortChains}
use Rattle.cat_scope.specs.WellFormed.{DefTyped, ConditionTyped, PartTyped, IsWhole}
use Rattle.cat_scope.specs.WellFormed.{IsBodyOf, AreBodiesOf, IsWellFormed}
use Rattle.cat_scope.proofs.Exported.{namings, placed_Literal}
use Rattle.cat_rows_data.specs.inside.Plain.{IsPlain, variable, scope, body_of}

-- ---- plain definitions

pub made_plain : (d : Def) (item : ℕ) → d.target ≡ record { scope = 0; item = item; inner = None } → item < 2
    → d.condition ≡ None → d.consequence ≡ leaf.Literal d.pos (literal.Boolean true) → d.params ≡ 0 → IsPlain d
made_plain d item target below condition consequence params =
    let same : d.target.item ≡ item = ap (λ (t : Target). t.item) target in
    record {
      item = subst (λ (n : ℕ). n < 2) (sym same) below;
      target = subst (λ (n : ℕ). d.target ≡ record { scope = 0; item = n; inner = None }) (sym same) target;
      condition = condition;
      consequence = consequence;
      params = params;
    }

plain_behind : (defs : List Def) (d : Def) → AllHave IsPlain defs → IsPlain d → AllHave IsPlain (defs ++ d ∷ [])
plain_behind [] d all plain = (plain, tt)
plain_behind (e ∷ es) d all plain = (all.0, plain_behind es d all.1 plain)

pub plain_more : (defs more : List Def) (d : Def) → AllHave IsPlain defs → IsPlain d → more ≡ defs ++ d ∷ []
    → AllHave IsPlain more
plain_more defs more d all plain is = subst (AllHave IsPlain) (sym is) (plain_behind defs d all plain)

-- ---- they name nothing

abbrev NameNothing : (Expr → List ℕ) → Type 0
NameNothing named = (p : Pos) → named (leaf.Literal p (literal.Boolean true)) ≡ []

no_items : NameNothing items_named
no_items p = search (rules, namings)

no_functions : NameNothing functions_named
no_functions p = search (rules, namings)

no_scopes : NameNothing scopes_named
no_scopes p = search (rules, namings)

both_none : (xs ys : List ℕ) → xs ≡ [] → ys ≡ [] → xs ++ ys ≡ []
both_none xs ys x y = rw (x, y) refl

either_none : (b : Bool) (xs ys : List ℕ) → xs ≡ [] → ys ≡ [] → (if b then xs else ys) ≡ []
either_none true xs ys x y = x
either_none false xs ys x y = y

two_none : (xs ys : List ℕ) → xs ≡ [] → ys ≡ [] → xs ∷ ys ∷ [] ≡ [] ∷ [] ∷ []
two_none xs ys x y = rw (x, y) refl

none_in_def : (named : Expr → List ℕ) → NameNothing named → (d : Def) → IsPlain d → in_def named d ≡ []
none_in_def named nothing d plain =
    both_none (in_condition named d.condition) (named d.consequence) (ap (in_condition named) plain.condition)
    (ap named plain.consequence ∙ nothing d.pos)

none_in_defs : (named : Expr → List ℕ) → NameNothing named → (item : ℕ) (defs : List Def) → AllHave IsPlain defs
    → in_defs_of named item defs ≡ []
none_in_defs named nothing item [] plain = refl
none_in_defs named nothing item (d ∷ ds) plain =
    let more = none_in_defs named nothing item ds plain.1 in
    let all = both_none (in_def named d) (in_defs_of named item ds) (none_in_def named nothing d plain.0) more in
    either_none (nat_eq d.target.item item) (in_def named d ++ in_defs_of named item ds) (in_defs_of named item ds) all
    more

no_dependencies : (defs : List Def) → AllHave IsPlain defs → item_dependencies scope.items defs ≡ [] ∷ [] ∷ []
no_dependencies defs plain =
    two_none (in_defs_of items_named 0 defs) (in_defs_of items_named 1 defs)
    (none_in_defs items_named no_items 0 defs plain) (none_in_defs items_named no_items 1 defs plain)

none_called : (items : List ItemDecl) (defs : List Def) → AllHave IsPlain defs
    → called_in items (replicate (length defs) Definition) defs [] ≡ []
none_called items [] plain = refl
none_called items (d ∷ ds) plain =
    both_none (in_def scopes_named d) (called_in items (replicate (length ds) Definition) ds [])
    (none_in_def scopes_named no_scopes d plain.0) (none_called items ds plain.1)

no_calls : (defs : List Def) → AllHave IsPlain defs → calls_in scope.items (body_of defs) ≡ []
no_calls defs plain = none_called scope.items defs plain

-- ---- orders and chains where nothing leads anywhere

ordered : (deps closed : List (List ℕ)) (order : List ℕ) → deps ≡ closed → order_of closed ≡ Some order
    → IsOrder deps order
ordered deps closed order is computed =
    subst (λ d. IsOrder d order) (sym is) ((order_of-iff_IsOrder closed order).0 computed)

two_lead_nowhere : (n m : ℕ) → DependsOn ([] ∷ [] ∷ []) n m → ⊥
two_lead_nowhere zero m leads = true≢false (sym leads)
two_lead_nowhere (suc zero) m leads = true≢false (sym leads)
two_lead_nowhere (suc (suc n)) m leads = true≢false (sym leads)

two_are_short : HasShortChains ([] ∷ [] ∷ [])
two_are_short [] chain = omega arith
two_are_short (n ∷ []) chain = omega arith
two_are_short (n ∷ m ∷ ns) chain = absurd (two_lead_nowhere n m chain.0)

one_leads_nowhere : (n m : ℕ) → DependsOn ([] ∷ []) n m → ⊥
one_leads_nowhere zero m leads = true≢false (sym leads)
one_leads_nowhere (suc n) m leads = true≢false (sym leads)

one_is_short : HasShortChains ([] ∷ [])
one_is_short [] chain = omega arith
one_is_short (n ∷ []) chain = omega arith
one_is_short (n ∷ m ∷ ns) chain = absurd (one_leads_nowhere n m chain.0)

-- ---- the source

pub one_more : (n : ℕ) (source more : List SourcePart) → source ≡ Declaration ∷ replicate n Definition
    → more ≡ source ++ Definition ∷ [] → more ≡ Declaration ∷ replicate (n + 1) Definition
one_more n source more is pushed =
    pushed ∙ ap (λ (parts : List SourcePart). parts ++ Definition ∷ []) is
    ∙ ap (λ (parts : List SourcePart). Declaration ∷ parts) (replicate_more n Definition)

whole : (n : ℕ) → IsWhole (replicate n Definition) 0 n 0
whole zero = (refl, refl, refl)
whole (suc n) = whole n

no_conditions : (names : Names) (n : ℕ) → AllHave (PartTyped names) (replicate n Definition)
no_conditions names zero = tt
no_conditions names (suc n) = (tt, no_conditions names n)

parts_are_placed : (n : ℕ) → parts_placed (replicate n Definition) ≡ true
parts_are_placed zero = refl
parts_are_placed (suc n) = parts_are_placed n

both_true : (a b : Bool) → a ≡ true → b ≡ true → (a && b) ≡ true
both_true a b x y = rw (x, y) refl

all_true : (a b : Bool) → a ≡ true → b ≡ true → (a && b && true) ≡ true
all_true a b x y = rw (x, y) refl

placed_there : (p : Pos) → lists_placed (leaf.Literal p (literal.Boolean true)) true ≡ true
placed_there p = ap (λ (f : Bool → Bool). f true) (placed_Literal p (literal.Boolean true))

defs_are_placed : (defs : List Def) → AllHave IsPlain defs → defs_placed defs ≡ true
defs_are_placed [] plain = refl
defs_are_placed (d ∷ ds) plain =
    both_true (condition_placed d.condition && lists_placed d.consequence true) (defs_placed ds)
    (both_true (condition_placed d.condition) (lists_placed d.consequence true) (ap condition_placed plain.0.condition)
    (ap (λ (e : Expr). lists_placed e true) plain.0.consequence ∙ placed_there d.pos)) (defs_are_placed ds plain.1)

-- ---- types

abbrev names_of : Decls → Names
names_of decls = record { decls = decls; items = scope.items }

own_at : (decls : Decls) (n : ℕ) → n < 2 → IsTargetAt (names_of decls) n None [] ty.Boolean
own_at decls zero below =
    record { decl = variable (codes "x"); decl_is = refl; defined = refl; params_are = refl; ty_is = refl }
own_at decls (suc zero) below =
    record { decl = variable (codes "y"); decl_is = refl; defined = refl; params_are = refl; ty_is = refl }
own_at decls (suc (suc n)) below = absurd (omega arith)

def_typed : (decls : Decls) (d : Def) → IsPlain d → DefTyped (names_of decls) 0 d
def_typed decls d plain = record {
  params = [];
  ty = ty.Boolean;
  scope_is = ap (λ (t : Target). t.scope) plain.target;
  target =
      subst (λ inner. IsTargetAt (names_of decls) d.target.item inner [] ty.Boolean)
      (sym (ap (λ (t : Target). t.inner) plain.target)) (own_at decls d.target.item plain.item);
  counted = plain.params;
  condition = subst (ConditionTyped (names_of decls) []) (sym plain.condition) tt;
  consequence =
      subst (λ e. HasType (names_of decls) [] e ty.Boolean) (sym plain.consequence) (literal_has_type refl);
}

defs_typed : (decls : Decls) (defs : List Def) → AllHave IsPlain defs → AllHave (DefTyped (names_of decls) 0) defs
defs_typed decls [] plain = tt
defs_typed decls (d ∷ ds) plain = (def_typed decls d plain.0, defs_typed decls ds plain.1)

-- ---- the whole

body_is : (decls : Decls) (defs : List Def) → AllHave IsPlain defs → IsBodyOf decls 0 scope (body_of defs)
unfolding order_of is_ready
body_is decls defs plain = record {
  placed = (refl, (refl, tt));
  defs = defs_typed decls defs plain;
  assertions = tt;
  source = whole (length defs);
  lists =
      all_true (parts_placed (replicate (length defs) Definition)) (defs_placed defs) (parts_are_placed (length defs))
      (defs_are_placed defs plain);
  conditions = (tt, no_conditions (names_of decls) (length defs));
  order = ordered (item_dependencies scope.items defs) ([] ∷ [] ∷ []) (0 ∷ 1 ∷ []) (no_dependencies defs plain) refl;
  calls = sym (ap (once []) (no_calls defs plain));
  functions = two_are_short;
}

plain_program : (decls : Decls) (defs : List Def) → AllHave IsPlain defs → decls.scopes ≡ scope ∷ []
    → IsWellFormed decls (body_of defs ∷ []) (0 ∷ [])
unfolding order_of is_ready
plain_program decls defs plain is =
    let alone : scope_dependencies (scope ∷ []) (body_of defs ∷ []) ≡ [] ∷ [] =
    ap (λ (calls : List ℕ). once [] calls ∷ []) (no_calls defs plain) in
    let deps : scope_dependencies decls.scopes (body_of defs ∷ []) ≡ [] ∷ [] =
    ap (λ (ss : List Scope). scope_dependencies ss (body_of defs ∷ [])) is ∙ alone in
    record {
      counted = ap (λ (ss : List Scope). length ss) (sym is);
      bodies_are =
          subst (λ (ss : List Scope). AreBodiesOf decls 0 ss (body_of defs ∷ [])) (sym is)
          (body_is decls defs plain, tt);
      order = ordered (scope_dependencies decls.scopes (body_of defs ∷ [])) ([] ∷ []) (0 ∷ []) deps refl;
      chains = subst HasShortChains (sym deps) one_is_short;
    }

pub plain_requires : (decls : Decls) (bodies : List Body) (order : List ℕ) (defs : List Def) → AllHave IsPlain defs
    → decls.scopes ≡ scope ∷ [] → bodies ≡ body_of defs ∷ [] → order ≡ 0 ∷ [] → ∥ IsWellFormed decls bodies order ∥₁
plain_requires decls bodies order defs plain is are stands = rw (are, stands) (∣ plain_program decls defs plain is ∣₁)

boolean_is_low : height_to [] [] highest ty.Boolean ≡ 1
boolean_is_low = value.height_Boolean [] [] 63

this_is_sound : IsTrue (are_sound [] [] (scope ∷ []))
unfolding are_sound are_ordered order_of
this_is_sound = search (rules, value.declared, boolean_is_low)

pub scope_is_sound : (ss : List Structure) (es : List Enumeration) (all : List Scope) → ss ≡ [] → es ≡ []
    → all ≡ scope ∷ [] → IsTrue (are_sound ss es all)
scope_is_sound ss es all s e is = rw (s, e, is) this_is_sound
