-- A program's terms are well formed, and come to what it means.
use Rattle.std.proofs.Common.{◌≡◌, ◌∙◌, ℕ, ◌+◌, ◌<◌, ◌≤◌, true, IsTrue, List, [], ◌∷◌, ◌++◌, length, drop}
use Rattle.std.proofs.Common.{Option, Some, None, slice_get, get_or, refl, sym, ap, subst, arith, IfSome}
use Rattle.std.proofs.lemmas.List.{drop_more, append_assoc, drop_all, append-nil}
use Rattle.std.proofs.lemmas.Option.{slice_get_within, slice_get-get_or}
use Rattle.std.proofs.Math.Bool.{Bool-set}
use Rattle.std.proofs.Math.Logic.{⊎_elim, ∥∥₁_elim, ∥∥₁_prop}
use Rattle.std.proofs.Props.{props}
use Rattle.cat_pos.specs.declared.limits.TheConstants.{ENTRIES_BOUND}
use Rattle.cat_value.specs.declared.decls.Decls.{Decls}
use Rattle.cat_value.specs.declared.declaration.ItemDecl.{ItemDecl}
use Rattle.cat_value.specs.declared.declaration.Scope.{Scope}
use Rattle.cat_value.specs.declared.outcome.Target.{Target}
use Rattle.cat_scope.specs.declared.defs.Def.{Def}
use Rattle.cat_scope.specs.declared.defs.Body.{Body}
use Rattle.cat_scope.specs.declared.forest.Forest.{Forest}
use Rattle.cat_scope.specs.declared.forest.ForestTarget.{ForestTarget}
use Rattle.cat_scope.specs.declared.programs.Program.{Program}
use Rattle.cat_scope.specs.Names.{AllHave, IsOneOf, has_none, items_in, scope_items}
use Rattle.cat_scope.specs.Targets.{defs_from}
use Rattle.cat_scope.specs.WellFormed.{IsWellFormed}
use Rattle.cat_scope.specs.Forests.{are_low, forest_of, targets_of, StandsFor}
use Rattle.cat_scope.specs.Calls.{Items}
use Rattle.cat_scope.specs.Running.{scope_run}
use Rattle.cat_sound.proofs.Exported.{all_at, same_some, target_listed}
use Rattle.cat_calc.specs.declared.calcs.CalcScope.{CalcScope}
use Rattle.cat_calc.specs.declared.calcs.Calc.{Calc}
use Rattle.cat_calc.specs.Calculus.{calc_run, run_of_terms}
use Rattle.cat_calc.specs.WellFormed.{IsCalc}
use Rattle.cat_scope.specs.AllForests.{AreForestsOf}
use Rattle.cat_calc.specs.inside.Items.{target_at, calc_scope, calc_scope_at, calc_scopes}
use Rattle.cat_calc.specs.inside.Tabled.{AreTargetsOf}
use Rattle.cat_calc.proofs.CalcFormed.{is_body, is_calc}
use Rattle.cat_calc.proofs.Listed.{IsTarget, target_or_none}
use Rattle.cat_calc.proofs.Lows.{IsListed, are_targets, steady_at}
use Rattle.cat_calc.proofs.SameRuns.{AreSteady, AllSteady, runs_same}
use Rattle.cat_calc.proofs.TargetTerms.{there}

-- ---- a scope of a program

module _ (ds : Decls) (bodies : List Body) (order : List ℕ) (formed : ∥ IsWellFormed ds bodies order ∥₁) (n : ℕ)
    (scope : Scope) (body : Body) (scope_is : slice_get ds.scopes n ≡ Some scope)
    (body_is : slice_get bodies n ≡ Some body) where
  abbrev targets : List Target
  targets = targets_of ds n (scope_items ds n) body.order

  -- what is no target has no definition
  no_target : (item : ℕ) (inner : Option ℕ) → (IsTarget (record { decls = ds; items = scope.items }) item inner → ⊥)
      → has_none (defs_from (target_at item inner) 0 body.defs) ≡ true
  no_target item inner not = ∥∥₁_elim formed (Bool-set (has_none (defs_from (target_at item inner) 0 body.defs)) true)
      (λ f. ⊎_elim (λ target. absurd (not target)) (λ none. none 0)
      (target_or_none (record { decls = ds; items = scope.items }) n item inner body.defs
      (is_body ds bodies order f n scope body scope_is body_is).defs))

  -- nor has what isn't listed
  not_listed : (item : ℕ) (inner : Option ℕ) → (IsListed body.defs targets item inner → ⊥)
      → has_none (defs_from (target_at item inner) 0 body.defs) ≡ true
  not_listed item inner not = ∥∥₁_elim formed (Bool-set (has_none (defs_from (target_at item inner) 0 body.defs)) true)
      (λ f. no_target item inner (λ target. not (
        n,
        subst
            (λ (items : List ItemDecl). IsOneOf (record { scope = n; item = item; inner = inner })
            (targets_of ds n items body.order))
            (sym (ap items_in scope_is))
            (target_listed (record { decls = ds; items = scope.items }) n body.defs body.order
            (is_body ds bodies order f n scope body scope_is body_is).order item inner target.params
            target.ty target.is),
      )))

  module _ (forest : List ForestTarget) (low : IsTrue (are_low forest))
      (is : forest ≡ forest_of body.defs targets) where
    pub forest_targets : length body.defs < ENTRIES_BOUND → AreTargetsOf body.defs forest
    forest_targets few = are_targets body.defs targets forest few low is not_listed

    pub forest_steady : AreSteady ds scope.items body.defs
    forest_steady = record {
      steady = steady_at body.defs targets forest low is not_listed;
      others = no_target;
    }

-- a scope is declared where it has a body
pub scope_there : (ds : Decls) (bodies : List Body) (order : List ℕ) → ∥ IsWellFormed ds bodies order ∥₁
    → length bodies ≡ length ds.scopes
scope_there ds bodies order formed = ∥∥₁_elim formed (hlevel props) (λ f. f.counted)

-- the forest of a scope
pub stands_at : (program : Program) (n : ℕ) (body : Body) (forest : List ForestTarget) → StandsFor program n forest
    → slice_get program.bodies n ≡ Some body
    → forest ≡ forest_of body.defs (targets_of program.decls n (scope_items program.decls n) body.order)
stands_at program n body forest stands there =
    stands.2 ∙ ap (λ (b : Body). forest_of b.defs (targets_of program.decls n (scope_items program.decls n) b.order))
    (same_some stands.0 body (sym stands.1 ∙ there))

-- ---- the scopes in turn

-- one scope more
pub one_scope_more : (ds : Decls) (scopes : List Scope) (bodies : List Body) (made new whole : List CalcScope) (n : ℕ)
    (found : CalcScope) → n < length scopes → n < length bodies
    → Some found ≡ calc_scope_at ds (slice_get scopes n) (slice_get bodies n) → new ≡ made ++ found ∷ []
    → made ++ calc_scopes ds (drop n scopes) (drop n bodies) ≡ whole
    → new ++ calc_scopes ds (drop (n + 1) scopes) (drop (n + 1) bodies) ≡ whole
one_scope_more ds scopes bodies made new whole n found here there is more before =
    let next : calc_scopes ds (drop n scopes) (drop n bodies)
    ≡ found ∷ calc_scopes ds (drop (n + 1) scopes) (drop (n + 1) bodies) =
    at_next (slice_get scopes n) (slice_get bodies n) refl refl is in
    ap (λ (made : List CalcScope). made ++ calc_scopes ds (drop (n + 1) scopes) (drop (n + 1) bodies)) more
    ∙ append_assoc made (found ∷ []) (calc_scopes ds (drop (n + 1) scopes) (drop (n + 1) bodies))
    ∙ ap (λ rest. made ++ rest) (sym next) ∙ before
  where
    at_next : (s : Option Scope) (b : Option Body) → slice_get scopes n ≡ s → slice_get bodies n ≡ b
        → Some found ≡ calc_scope_at ds s b
        → calc_scopes ds (drop n scopes) (drop n bodies)
        ≡ found ∷ calc_scopes ds (drop (n + 1) scopes) (drop (n + 1) bodies)
    at_next None b at also same = absurd (cc same)
    at_next (Some s) None at also same = absurd (cc same)
    at_next (Some s) (Some b) at also same =
        let one : drop n scopes ≡ s ∷ drop (n + 1) scopes = drop_more scopes n s here
        ∙ ap (λ x. x ∷ drop (n + 1) scopes)
        (same_some (get_or scopes n s) s (sym (slice_get-get_or scopes n s here) ∙ at)) in
        let two : drop n bodies ≡ b ∷ drop (n + 1) bodies = drop_more bodies n b there
        ∙ ap (λ x. x ∷ drop (n + 1) bodies)
        (same_some (get_or bodies n b) b (sym (slice_get-get_or bodies n b there) ∙ also)) in
        ap (λ xs. calc_scopes ds xs (drop n bodies)) one
        ∙ ap (λ xs. calc_scopes ds (s ∷ drop (n + 1) scopes) xs) two
        ∙ ap (λ x. x ∷ calc_scopes ds (drop (n + 1) scopes) (drop (n + 1) bodies))
        (sym (same_some found (calc_scope ds s b) same))

pub no_scope_more : (ds : Decls) (scopes : List Scope) (bodies : List Body) (made whole : List CalcScope) (n : ℕ)
    → length scopes ≤ n → made ++ calc_scopes ds (drop n scopes) (drop n bodies) ≡ whole → made ≡ whole
no_scope_more ds scopes bodies made whole n past is =
    sym (append-nil made)
    ∙ ap (λ xs. made ++ calc_scopes ds xs (drop n bodies)) (sym (drop_all n scopes past)) ∙ is

-- ---- the whole program

pub calc_formed : (ds copied : Decls) (bodies : List Body) (order copied_order : List ℕ) (scopes : List CalcScope)
    → ∥ IsWellFormed ds bodies order ∥₁ → copied ≡ ds → copied_order ≡ order → scopes ≡ calc_scopes ds ds.scopes bodies
    → ∥ IsCalc copied scopes copied_order ∥₁
calc_formed ds copied bodies order copied_order scopes formed same also is =
    ∥∥₁_elim formed ∥∥₁_prop
    (λ f. (∣ subst (λ (xs : List CalcScope). IsCalc copied xs copied_order) (sym is)
    (subst (λ (ns : List ℕ). IsCalc copied (calc_scopes ds ds.scopes bodies) ns) (sym also)
    (subst (λ (c : Decls). IsCalc c (calc_scopes ds ds.scopes bodies) order) (sym same)
    (is_calc ds bodies order f))) ∣₁))

-- ---- what is asked of a scope

pub targets_of_scope : (program : Program) (n : ℕ) (scope : Scope) (body : Body) (forest : Forest) (defs : List Def)
    (targets : List ForestTarget)
    → ∥ IsWellFormed program.decls program.bodies program.scope_order ∥₁
    → AllHave (λ b. length b.defs < ENTRIES_BOUND) program.bodies
    → slice_get program.decls.scopes n ≡ Some scope → slice_get program.bodies n ≡ Some body
    → StandsFor program n forest.targets → defs ≡ body.defs → targets ≡ forest.targets → AreTargetsOf defs targets
targets_of_scope program n scope body forest defs targets formed few scope_is body_is stands same also =
    subst (λ (ds : List Def). AreTargetsOf ds targets) (sym same)
    (subst (λ (ts : List ForestTarget). AreTargetsOf body.defs ts) (sym also)
    (forest_targets program.decls program.bodies program.scope_order formed n scope body scope_is body_is forest.targets
    forest.low (stands_at program n body forest.targets stands body_is)
    (all_at (λ b. length b.defs < ENTRIES_BOUND) program.bodies n body few body_is)))

-- each scope is steady
steady_scopes : (program : Program) (forests : List Forest)
    → ∥ IsWellFormed program.decls program.bodies program.scope_order ∥₁ → AreForestsOf program forests
    → AllSteady program.decls program.decls.scopes program.bodies
steady_scopes program forests formed are n scope body scope_is body_is =
    by (slice_get forests n) refl
  where
    by : (o : Option Forest) → slice_get forests n ≡ o → AreSteady program.decls scope.items body.defs
    by None none = absurd (there forests n (omega (arith, are.counted, slice_get_within program.bodies n body body_is))
        none)
    by (Some forest) is =
        forest_steady program.decls program.bodies program.scope_order formed n scope body scope_is body_is
        forest.targets forest.low (stands_at program n body forest.targets
        (subst (λ (o : Option Forest). IfSome o (λ forest. StandsFor program n forest.targets)) is (are.stand n))
        body_is)

-- a scope of the calculus is run as that of the program
pub program_runs : (program : Program) (forests : List Forest) (calc : Calc)
    → ∥ IsWellFormed program.decls program.bodies program.scope_order ∥₁ → AreForestsOf program forests
    → calc.decls ≡ program.decls → calc.scopes ≡ calc_scopes program.decls program.decls.scopes program.bodies
    → calc.scope_order ≡ program.scope_order → (scope : ℕ) (input : Items)
    → calc_run calc scope input ≡ scope_run program scope input
program_runs program forests calc formed are same is also scope input =
    ap (λ (ds : Decls). run_of_terms ds.scopes calc.scopes calc.scope_order scope input) same
    ∙ ap (λ (xs : List CalcScope). run_of_terms program.decls.scopes xs calc.scope_order scope input) is
    ∙ ap (λ (ns : List ℕ). run_of_terms program.decls.scopes
    (calc_scopes program.decls program.decls.scopes program.bodies) ns scope input) also
    ∙ runs_same program.decls program.decls.scopes program.bodies program.scope_order
    (steady_scopes program forests formed are) scope input
