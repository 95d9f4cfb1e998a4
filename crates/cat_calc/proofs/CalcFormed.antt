-- The terms of a program are well formed.
use Rattle.std.proofs.Common.{◌≡◌, ◌∙◌, ℕ, suc, ◌+◌, ◌<◌, nat_eq, Bool, true, false, ◌&&◌, IsTrue, List, []}
use Rattle.std.proofs.Common.{◌∷◌, ◌++◌, length, map, Option, Some, None, slice_get, refl, sym, ap, subst, arith}
use Rattle.std.proofs.Common.{true≢false, if◌then◌else◌, IfSome}
use Rattle.std.proofs.lemmas.Option.{slice_get_within}
use Rattle.cat_order.specs.Order.{dependencies_of}
use Rattle.cat_value.specs.declared.ty.Ty.{Ty}
use Rattle.cat_value.specs.declared.ty.Ty.TheVariants.{Boolean}
use Rattle.cat_value.specs.declared.decls.Decls.{Decls}
use Rattle.cat_value.specs.declared.declaration.ItemDecl.{ItemDecl}
use Rattle.cat_value.specs.declared.declaration.Scope.{Scope}
use Rattle.cat_scope.specs.declared.expr.Expr.{Expr}
use Rattle.cat_scope.specs.declared.defs.Def.{Def}
use Rattle.cat_scope.specs.declared.defs.Assertion.{Assertion}
use Rattle.cat_scope.specs.declared.defs.Body.{Body}
use Rattle.cat_scope.specs.Names.{AllHave, Names, is_in, items_in}
use Rattle.cat_scope.specs.Naming.{IsTargetAt}
use Rattle.cat_scope.specs.HasType.{HasType}
use Rattle.cat_scope.specs.Judging.{Held}
use Rattle.cat_scope.specs.Targets.{same_inner, same_target, defs_from}
use Rattle.cat_scope.specs.Mentions.{items_named, joined, scopes_named}
use Rattle.cat_scope.specs.Orders.{in_condition, in_def, in_defs_of, called_by_items, calls_in, once}
use Rattle.cat_scope.specs.Orders.{scope_dependencies}
use Rattle.cat_scope.specs.Expected.{lists_placed, condition_placed, def_placed, defs_placed, assertions_placed, parts_placed}
use Rattle.cat_scope.specs.WellFormed.{ConditionTyped, DefTyped, IsBodyOf, AreBodiesOf, IsWellFormed}
use Rattle.cat_sound.proofs.Exported.{Ahead, ahead_as, ahead-of_IsOrder, all_back, all_front, all_more}
use Rattle.cat_sound.proofs.Exported.{all_once}
use Rattle.cat_sound.proofs.Exported.{called-all, defs-all, dependencies-length, groups-all, items_ahead}
use Rattle.cat_sound.proofs.Exported.{same_some, scopes-at, scopes-length, unique_target, body_at}
use Rattle.cat_calc.specs.declared.term.DefaultTerm.{DefaultTerm}
use Rattle.cat_calc.specs.Terms.{conditions_in, consequences_in, named_in}
use Rattle.cat_calc.specs.Reducing.{term_of}
use Rattle.cat_calc.specs.WellFormed.{AreCalcScopes, IsCalc, IsCalcScope, StandBehind, TermPlaced, TermTyped, all_terms}
use Rattle.cat_calc.specs.WellFormed.{items_needed, named_by_items, named_by_terms, named_in_all, scopes_called}
use Rattle.cat_calc.specs.inside.Numbered.{groups_in}
use Rattle.cat_calc.specs.inside.Items.{target_at, term_at, inner_terms, inner_items, item_terms, terms_of_items}
use Rattle.cat_calc.specs.inside.Items.{calc_scope, calc_scope_at, calc_scopes}
use Rattle.cat_calc.proofs.Tables.{same_parts}
use Rattle.cat_calc.proofs.SameRuns.{IsTermAt, there, missing, term_found, scopes_at, item_terms_at, terms_at}
use Rattle.cat_calc.proofs.TermParts.{TermHas, DefHas, has_target, joined_have}
use Rattle.cat_scope.proofs.Exported.{all_append}
use Rattle.cat_calc.proofs.Counts.{numbers_differ}

-- ---- what holds of the definitions of a target holds of its term

has_at : (C V : Expr → Type 0) (defs : List Def) (item : ℕ) (inner : Option ℕ)
    → AllHave (λ d. IsTrue (same_target d.target (target_at item inner)) → IfSome d.condition C × V d.consequence) defs
    → TermHas C (λ h. V h.value) (term_at defs item inner)
has_at C V defs item inner all =
    let target = target_at item inner in
    has_target C (λ h. V h.value) (groups_in defs target)
    (groups-all (DefHas C (λ h. V h.value)) (defs_from target 0 defs) [] (defs_from target 0 defs)
    (all_more (λ d. IfSome d.1.condition C × V d.1.consequence) (DefHas C (λ h. V h.value)) (defs_from target 0 defs)
    (defs-all (λ d. IfSome d.condition C × V d.consequence) target 0 defs all)
    (λ d has. record { condition = has.0; consequence = has.1 })))

-- ---- types

condition_typed : (names : Names) (ps : List Ty) (o : Option Expr) → ConditionTyped names ps o
    → IfSome o (λ e. HasType names ps e Boolean)
condition_typed names ps None typed = tt
condition_typed names ps (Some e) typed = typed

def_typed : (names : Names) (scope item : ℕ) (inner : Option ℕ) (ps : List Ty) (t : Ty)
    → IsTargetAt names item inner ps t
    → (d : Def) → DefTyped names scope d → IsTrue (same_target d.target (target_at item inner))
    → IfSome d.condition (λ e. HasType names ps e Boolean) × HasType names ps d.consequence t
def_typed names scope item inner ps t target d typed same =
    let parts = same_parts d.target (target_at item inner) same in
    let own : IsTargetAt names item inner typed.params typed.ty =
    subst (λ o. IsTargetAt names item o typed.params typed.ty) parts.1
    (subst (λ (n : ℕ). IsTargetAt names n d.target.inner typed.params typed.ty) parts.0 typed.target) in
    let unique = unique_target names item inner typed.params ps typed.ty t own target in (
      condition_typed names ps d.condition
          (subst (λ us. ConditionTyped names us d.condition) unique.0 typed.condition),
      subst (λ u. HasType names ps d.consequence u) unique.1
          (subst (λ us. HasType names us d.consequence typed.ty) unique.0 typed.consequence),
    )

term_typed : (names : Names) (scope : ℕ) (defs : List Def) → AllHave (DefTyped names scope) defs → (item : ℕ)
    (inner : Option ℕ) (ps : List Ty) (t : Ty) → IsTargetAt names item inner ps t
    → TermTyped names ps t (term_at defs item inner)
term_typed names scope defs typed item inner ps t target =
    let has = has_at (λ e. HasType names ps e Boolean) (λ e. HasType names ps e t) defs item inner
    (all_more (DefTyped names scope) (λ d. IsTrue (same_target d.target (target_at item inner))
    → IfSome d.condition (λ e. HasType names ps e Boolean) × HasType names ps d.consequence t) defs typed
    (def_typed names scope item inner ps t target)) in
    record { conditions = has.conditions; consequences = has.consequences }

found_typed : (ds : Decls) (scope : ℕ) (items : List ItemDecl) (defs : List Def)
    → AllHave (DefTyped (record { decls = ds; items = items }) scope) defs → (item : ℕ) (inner : Option ℕ)
    (ps : List Ty) (t : Ty)
    → IsTargetAt (record { decls = ds; items = items }) item inner ps t → (found : Option DefaultTerm)
    → IsTermAt ds defs items item inner found → IfSome found (TermTyped (record { decls = ds; items = items }) ps t)
found_typed ds scope items defs typed item inner ps t target found (there is) =
    subst (λ o. IfSome o (TermTyped (record { decls = ds; items = items }) ps t)) (sym is)
    (term_typed (record { decls = ds; items = items }) scope defs typed item inner ps t target)
found_typed ds scope items defs typed item inner ps t target found (missing is none) =
    absurd (none (record { params = ps; ty = t; is = target }))

-- ---- where empty lists stand

both_hold : (a b : Bool) → IsTrue (a && b) → IsTrue a × IsTrue b
both_hold true b h = (refl, h)
both_hold false b h = absurd (true≢false (sym h))

-- a definition whose empty lists stand where a type is expected
abbrev Placed : Def → Type 0
Placed d = IfSome d.condition (λ e. IsTrue (lists_placed e false)) × IsTrue (lists_placed d.consequence true)

its_condition : (o : Option Expr) → IsTrue (condition_placed o) → IfSome o (λ e. IsTrue (lists_placed e false))
its_condition None h = tt
its_condition (Some e) h = h

each_placed : (defs : List Def) → IsTrue (defs_placed defs) → AllHave Placed defs
each_placed [] h = tt
each_placed (d ∷ defs) h =
    let parts = both_hold (def_placed d) (defs_placed defs) h in
    let own = both_hold (condition_placed d.condition) (lists_placed d.consequence true) parts.0 in
    ((its_condition d.condition own.0, own.1), each_placed defs parts.1)

term_placed : (defs : List Def) → IsTrue (defs_placed defs) → (item : ℕ) (inner : Option ℕ) → TermPlaced (term_at defs item inner)
term_placed defs placed item inner =
    let has = has_at (λ e. IsTrue (lists_placed e false)) (λ e. IsTrue (lists_placed e true)) defs item inner
    (all_more Placed (λ d. IsTrue (same_target d.target (target_at item inner)) → Placed d) defs (each_placed defs placed)
    (λ d h same. h)) in
    record { conditions = has.conditions; consequences = has.consequences }

found_placed : (ds : Decls) (items : List ItemDecl) (defs : List Def) → IsTrue (defs_placed defs) → (item : ℕ)
    (inner : Option ℕ) (ps : List Ty) (t : Ty)
    → IsTargetAt (record { decls = ds; items = items }) item inner ps t → (found : Option DefaultTerm)
    → IsTermAt ds defs items item inner found → IfSome found TermPlaced
found_placed ds items defs placed item inner ps t target found (there is) =
    subst (λ o. IfSome o TermPlaced) (sym is) (term_placed defs placed item inner)
found_placed ds items defs placed item inner ps t target found (missing is none) =
    absurd (none (record { params = ps; ty = t; is = target }))

assertions_all : (all : List Assertion) → IsTrue (assertions_placed all)
    → AllHave (λ a. IsTrue (lists_placed a.condition false)) all
assertions_all [] h = tt
assertions_all (a ∷ all) h =
    let parts = both_hold (lists_placed a.condition false) (assertions_placed all) h in
    (parts.0, assertions_all all parts.1)

-- ---- what is named

module _ (P : ℕ → Type 0) (named : Expr → List ℕ) where
  abbrev AllNamed : Expr → Type 0
  AllNamed e = AllHave P (named e)

  in_its_condition : (o : Option Expr) → AllHave P (in_condition named o) → IfSome o AllNamed
  in_its_condition None h = tt
  in_its_condition (Some e) h = h

  def_names : (d : Def) → AllHave P (in_def named d) → IfSome d.condition AllNamed × AllNamed d.consequence
  def_names d all = (
    in_its_condition d.condition (all_front P (in_condition named d.condition) (named d.consequence) all),
    all_back P (in_condition named d.condition) (named d.consequence) all,
  )

  term_names : (defs : List Def) (item : ℕ) (inner : Option ℕ)
      → AllHave (λ d. nat_eq d.target.item item ≡ true → AllHave P (in_def named d)) defs
      → AllHave P (named_in named (term_at defs item inner))
  term_names defs item inner all =
      let has = has_at AllNamed AllNamed defs item inner
      (all_more (λ d. nat_eq d.target.item item ≡ true → AllHave P (in_def named d))
      (λ d. IsTrue (same_target d.target (target_at item inner))
      → IfSome d.condition AllNamed × AllNamed d.consequence) defs all
      (λ d names same. def_names d
      (names (first (nat_eq d.target.item item) (same_inner d.target.inner inner) same)))) in
      all_append P (joined (map named (conditions_in (term_at defs item inner))))
      (joined (map (λ (h : Held Expr). named h.value) (consequences_in (term_at defs item inner))))
      (joined_have P named (conditions_in (term_at defs item inner)) has.conditions)
      (joined_have P (λ (h : Held Expr). named h.value) (consequences_in (term_at defs item inner)) has.consequences)
    where
      first : (a b : Bool) → (a && b) ≡ true → a ≡ true
      first true b h = refl
      first false b h = h

  inner_names : (defs : List Def) (item n : ℕ) (items : List ItemDecl)
      → AllHave (λ d. nat_eq d.target.item item ≡ true → AllHave P (in_def named d)) defs
      → AllHave P (named_in_all named (inner_terms defs item n items))
  inner_names defs item n [] all = tt
  inner_names defs item n (decl ∷ items) all =
      all_append P (named_in named (term_at defs item (Some n)))
      (named_in_all named (inner_terms defs item (n + 1) items)) (term_names defs item (Some n) all)
      (inner_names defs item (n + 1) items all)

  item_names : (ds : Decls) (defs : List Def) (item : ℕ) (decl : ItemDecl)
      → AllHave (λ d. nat_eq d.target.item item ≡ true → AllHave P (in_def named d)) defs
      → AllHave P (named_in_all named (all_terms (item_terms ds defs item decl)))
  item_names ds defs item decl all =
      all_append P (named_in named (term_at defs item None))
      (named_in_all named (inner_terms defs item 0 (inner_items ds decl.kind))) (term_names defs item None all)
      (inner_names defs item 0 (inner_items ds decl.kind) all)

  items_names : (ds : Decls) (defs : List Def) (n : ℕ) (items : List ItemDecl)
      → AllHave (λ d. AllHave P (in_def named d)) defs
      → AllHave P (named_by_items named (terms_of_items ds defs n items))
  items_names ds defs n [] all = tt
  items_names ds defs n (decl ∷ items) all =
      all_append P (named_in_all named (all_terms (item_terms ds defs n decl)))
      (named_by_items named (terms_of_items ds defs (n + 1) items))
      (item_names ds defs n decl (all_more (λ d. AllHave P (in_def named d))
      (λ d. nat_eq d.target.item n ≡ true → AllHave P (in_def named d)) defs all (λ d names same. names)))
      (items_names ds defs (n + 1) items all)

  -- the definitions of an item
  defs_of : (item : ℕ) (defs : List Def) → AllHave P (in_defs_of named item defs)
      → AllHave (λ d. nat_eq d.target.item item ≡ true → AllHave P (in_def named d)) defs
  defs_of item [] all = tt
  defs_of item (d ∷ defs) all = by (nat_eq d.target.item item) refl all (defs_of item defs)
    where
      by : (b : Bool) → nat_eq d.target.item item ≡ b
          → AllHave P (if b then in_def named d ++ in_defs_of named item defs else in_defs_of named item defs)
          → (AllHave P (in_defs_of named item defs)
          → AllHave (λ d. nat_eq d.target.item item ≡ true → AllHave P (in_def named d)) defs)
          → AllHave (λ d. nat_eq d.target.item item ≡ true → AllHave P (in_def named d)) (d ∷ defs)
      by true is h rest = (
        λ same. all_front P (in_def named d) (in_defs_of named item defs) h,
        rest (all_back P (in_def named d) (in_defs_of named item defs) h),
      )
      by false is h rest = (λ same. absurd (true≢false (sym same ∙ is)), rest h)

  pub needed : (ds : Decls) (defs : List Def) (items : List ItemDecl) (item : ℕ)
      → AllHave P (in_defs_of named item defs)
      → AllHave P (named_by_terms named (slice_get (terms_of_items ds defs 0 items) item))
  needed ds defs items item all =
      subst (λ o. AllHave P (named_by_terms named o))
      (sym (terms_at ds defs 0 items item
      ∙ ap (λ (m : ℕ). item_terms_at ds defs m (slice_get items item)) (omega arith))) (by (slice_get items item))
    where
      by : (o : Option ItemDecl) → AllHave P (named_by_terms named (item_terms_at ds defs item o))
      by None = tt
      by (Some decl) = item_names ds defs item decl (defs_of item defs all)

-- ---- orders

stand_behind : (bound : ℕ) (needs : ℕ → List ℕ) (before order : List ℕ) → Ahead bound needs before order
    → StandBehind bound needs before order
stand_behind bound needs before [] ahead = tt
stand_behind bound needs before (n ∷ order) ahead =
    (ahead.0, ahead.1, stand_behind bound needs (n ∷ before) order ahead.2)

counted_items : (ds : Decls) (defs : List Def) (n : ℕ) (items : List ItemDecl)
    → length (terms_of_items ds defs n items) ≡ length items
counted_items ds defs n [] = refl
counted_items ds defs n (decl ∷ items) = ap suc (counted_items ds defs (n + 1) items)

pub is_calc_scope : (ds : Decls) (n : ℕ) (scope : Scope) (body : Body) → IsBodyOf ds n scope body
    → IsCalcScope ds scope (calc_scope ds scope body)
is_calc_scope ds n scope body is = record {
  placed = is.placed;
  counted = counted_items ds body.defs 0 scope.items;
  typed = λ target ps t at. found_typed ds n scope.items body.defs is.defs target.item target.inner ps t at
      (term_of (terms_of_items ds body.defs 0 scope.items) target)
      (term_found ds body.defs scope.items target.item target.inner);
  assertions = is.assertions;
  lists = λ target ps t at. found_placed ds scope.items body.defs
      (both_hold (parts_placed body.source) (defs_placed body.defs)
      (both_hold (parts_placed body.source && defs_placed body.defs) (assertions_placed body.assertions) is.lists).0).1
      target.item target.inner ps t at
      (term_of (terms_of_items ds body.defs 0 scope.items) target)
      (term_found ds body.defs scope.items target.item target.inner);
  assertion_lists = assertions_all body.assertions
      (both_hold (parts_placed body.source && defs_placed body.defs) (assertions_placed body.assertions) is.lists).1;
  order = record {
    once = λ k below. is.order.once k
        (omega (arith, below, dependencies-length items_named body.defs 0 scope.items));
    behind =
        stand_behind (length scope.items) (items_needed (calc_scope ds scope body)) [] body.order
        (ahead_as (length scope.items) (length scope.items) (λ item. in_defs_of items_named item body.defs)
        (items_needed (calc_scope ds scope body)) refl
        (λ k below before all. needed (λ m. IsTrue (is_in m before)) items_named ds body.defs scope.items k all) []
        body.order (items_ahead scope.items body.defs body.order is.order));
  };
  numbers = numbers_differ ds body.defs scope.items;
}

are_calc_scopes : (ds : Decls) (n : ℕ) (scopes : List Scope) (bodies : List Body) → AreBodiesOf ds n scopes bodies
    → AreCalcScopes ds scopes (calc_scopes ds scopes bodies)
are_calc_scopes ds n [] [] are = tt
are_calc_scopes ds n [] (body ∷ bodies) are = tt
are_calc_scopes ds n (scope ∷ scopes) [] are = elim are [ ]
are_calc_scopes ds n (scope ∷ scopes) (body ∷ bodies) are =
    (is_calc_scope ds n scope body are.0, are_calc_scopes ds (n + 1) scopes bodies are.1)

-- ---- the order of scopes

module _ (ds : Decls) (bodies : List Body) (order : List ℕ) (formed : IsWellFormed ds bodies order) where
  -- a scope with its body
  pub is_body : (k : ℕ) (scope : Scope) (body : Body) → slice_get ds.scopes k ≡ Some scope
      → slice_get bodies k ≡ Some body → IsBodyOf ds k scope body
  is_body k scope body is also =
      let at = body_at ds 0 ds.scopes bodies k formed.bodies_are (slice_get_within ds.scopes k scope is) in
      subst (λ (b : Body). IsBodyOf ds k scope b) (same_some at.body body (sym at.body_is ∙ also))
      (subst (λ (s : Scope). IsBodyOf ds k s at.body) (same_some at.scope scope (sym at.scope_is ∙ is))
      (subst (λ (m : ℕ). IsBodyOf ds m at.scope at.body) (omega arith) at.is))

  abbrev calls : ℕ → List ℕ
  calls k = dependencies_of (scope_dependencies ds.scopes bodies) k

  abbrev called : ℕ → List ℕ
  called k = scopes_called (items_in (slice_get ds.scopes k)) (slice_get (calc_scopes ds ds.scopes bodies) k)

  called_within : (P : ℕ → Type 0) (k : ℕ) → k < length ds.scopes → AllHave P (calls k) → AllHave P (called k)
  called_within P k below all =
      let at = body_at ds 0 ds.scopes bodies k formed.bodies_are below in
      let those = all_once P [] (calls_in at.scope.items at.body) tt
      (subst (λ (ks : List ℕ). AllHave P ks) (scopes-at ds.scopes bodies k at.scope at.body at.scope_is at.body_is)
      all) in
      let parts = called-all P at.scope.items at.body.source 1 at.body.defs at.body.assertions at.is.source those in
      subst (λ (ks : List ℕ). AllHave P ks)
      (sym (ap (λ o. scopes_called (items_in o) (slice_get (calc_scopes ds ds.scopes bodies) k)) at.scope_is
      ∙ ap (scopes_called at.scope.items) (scopes_at ds ds.scopes bodies k
      ∙ ap (λ o. calc_scope_at ds o (slice_get bodies k)) at.scope_is
      ∙ ap (calc_scope_at ds (Some at.scope)) at.body_is)))
      (all_append P
      (called_by_items at.scope.items
      ++ named_by_items scopes_named (terms_of_items ds at.body.defs 0 at.scope.items))
      (joined (map (λ (a : Assertion). scopes_named a.condition) at.body.assertions))
      (all_append P (called_by_items at.scope.items)
      (named_by_items scopes_named (terms_of_items ds at.body.defs 0 at.scope.items)) (parts.by_items (omega arith))
      (items_names P scopes_named ds at.body.defs 0 at.scope.items parts.by_defs))
      (joined_have P (λ (a : Assertion). scopes_named a.condition) at.body.assertions parts.by_assertions))

  pub is_calc : IsCalc ds (calc_scopes ds ds.scopes bodies) order
  is_calc =
      let many : length (scope_dependencies ds.scopes bodies) ≡ length ds.scopes =
      scopes-length ds.scopes bodies formed.counted in
      record {
        scopes_are = are_calc_scopes ds 0 ds.scopes bodies formed.bodies_are;
        order = record {
          once = λ k below. formed.order.once k (omega (arith, many, below));
          behind = stand_behind (length ds.scopes) called [] order
              (ahead_as (length (scope_dependencies ds.scopes bodies)) (length ds.scopes) calls called many
              (λ k below before all. called_within (λ m. IsTrue (is_in m before)) k (omega (arith, many, below)) all)
              [] order (ahead-of_IsOrder (scope_dependencies ds.scopes bodies) order formed.order));
        };
      }
