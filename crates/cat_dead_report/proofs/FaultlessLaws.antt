-- What wins in a region of free terms alone decides in the run on its input, where its target is faultless; and runs go
-- on behind a faultless target that each valuation covers.
use Rattle.std.proofs.Common.{◌≡◌, ℕ, nat_eq, Bool, true, false, not, ◌&&◌, IsTrue, List, [], ◌∷◌, map, length}
use Rattle.std.proofs.Common.{Option, Some, None, Ok, take, ◌+◌, slice_get, refl, sym, ap, ◌∙◌, subst, true≢false}
use Rattle.std.proofs.lemmas.Bool.Decides.{nat_tests}
use Rattle.std.proofs.Common.{arith}
use Rattle.std.proofs.Math.Bool.{Bool-set}
use Rattle.std.proofs.Math.Logic.{∥∥₁_elim}
use Rattle.std.specs.Prelude.{is_ok}
use Rattle.std.specs.List.{list_all}
use Rattle.cat_pos.specs.declared.pos.Pos.{Pos}
use Rattle.cat_value.specs.declared.value.Value.{Value}
use Rattle.cat_value.specs.declared.declaration.Kind.TheVariants as kind
use Rattle.cat_value.specs.declared.declaration.ItemDecl.{ItemDecl}
use Rattle.cat_value.specs.declared.declaration.Scope.{Scope}
use Rattle.cat_value.specs.declared.decls.Decls.{Decls}
use Rattle.cat_value.specs.declared.outcome.Target.{Target}
use Rattle.cat_value.specs.Inputs.{are_given_for, may_be_given, must_be_given, IsWellTyped}
use Rattle.cat_region.specs.declared.dim.Dim.{Dim}
use Rattle.cat_region.specs.Chosen.{point_at}
use Rattle.cat_region.specs.Regions.{Constraints, Valuation, IsInhabited, IsRegion, IsValuation, Admits}
use Rattle.cat_region.proofs.Exported.{Admits-point_at}
use Rattle.cat_scope.specs.declared.defs.Body.{Body}
use Rattle.cat_scope.specs.declared.defs.Def.{Def}
use Rattle.cat_scope.specs.declared.programs.Program.{Program}
use Rattle.cat_scope.specs.Calls.{Items, Scoped}
use Rattle.cat_scope.specs.Forests.{targets_of}
use Rattle.cat_scope.specs.Names.{AllHave, IsOneOf, has_none, is_called, is_plain, scope_items}
use Rattle.cat_scope.specs.Naming.{IsOwn}
use Rattle.cat_scope.specs.Outcomes.{deciders}
use Rattle.cat_scope.specs.Running.{backwards, entry_at, run_scoped, scope_run, scoped_of}
use Rattle.cat_scope.specs.Runs.{Decider, Run}
use Rattle.cat_scope.specs.Groups.{Numbered}
use Rattle.cat_scope.specs.Targets.{defs_from, same_inner}
use Rattle.cat_scope.specs.WellFormed.{IsWellFormed}
use Rattle.cat_sound.specs.Given.{values_at}
use Rattle.cat_sound.proofs.Exported.{scopes_by_rule}
use Rattle.cat_guard.specs.declared.table.Atom.{Atom}
use Rattle.cat_guard.specs.declared.table.Table.{Table}
use Rattle.cat_guard.specs.declared.table.TableTarget.{TableTarget}
use Rattle.cat_guard.specs.declared.table.Term.{Term}
use Rattle.cat_guard.specs.Questions.{Question}
use Rattle.cat_guard.specs.Soundness.{target_is_sound}
use Rattle.cat_guard.specs.TableJudging.{Covers, IsCovered}
use Rattle.cat_guard.specs.Tables.{TablesScope, guard_def, is_condition, questions_of, target_of}
use Rattle.cat_guard.specs.Terms.{atoms_of, terms_of}
use Rattle.cat_guard.specs.Valuations.{dims_of, holds_at}
use Rattle.cat_guard.proofs.Exported.{all_and, both_true, sound_parts, targets_sound}
use Rattle.cat_audit_sound.specs.Failing.{IsOfFreeTerms, Shows}
use Rattle.cat_audit_sound.specs.PointInputs.{input_at}
use Rattle.cat_audit_sound.proofs.Failures.{points_give_none}
use Rattle.cat_audit_sound.proofs.RunValues.{and_both}
use Rattle.cat_audit_sound.proofs.Lists.{all_mapped, all_of, among_all}
use Rattle.cat_audit_sound.proofs.Numbered.{all_are}
use Rattle.cat_audit_sound.proofs.ScopeTargets.{targets_have}
use Rattle.cat_audit_sound.proofs.TableGroups.{IsAt, defs_at}
use Rattle.cat_audit_sound.proofs.StandingDefs as standing
use Rattle.cat_audit_sound.proofs.StandingDefs.{typed_given}
use Rattle.cat_dead.specs.Winners.{winner_in}
use Rattle.cat_dead_report.specs.RunLines.{decides_in}
use Rattle.cat_dead_report.proofs.DeciderLemmas.{none_of}
use Rattle.cat_dead_report.specs.inside.Faultless.{IsCoveredByEach, IsFaultless, IsReached, def_cannot_fault}
use Rattle.cat_dead_report.specs.inside.Faultless.{is_harmless}
use Rattle.cat_dead_report.specs.inside.Faultless.{is_harmless_at}
use Rattle.cat_dead_report.specs.inside.Faultless.{is_judged, is_of}
use Rattle.cat_dead_report.proofs.FaultlessTargets.{JudgedSo, covered, held}
use Rattle.cat_dead_report.proofs.ReachedRuns.{entry_comes, logged, reached_on}
use Rattle.cat_dead_report.proofs.ReachedScopes.{ok_there, reached_by}

-- ---- what the test of a target tells

number_is : (a b : ℕ) → nat_eq a b ≡ true → a ≡ b
number_is a b h = grind (arith, nat_tests, h)

-- the target is the item that is the first
of_item : (o : Option ℕ) (target : Target) → is_of o target ≡ true → o ≡ Some target.item
of_item None target is = absurd (true≢false (sym is))
of_item (Some n) target is =
    ap Some (number_is n target.item (both_true (nat_eq n target.item) (same_inner None target.inner) is).0)

-- none within a called scope is
of_inner : (o : Option ℕ) (scope item k : ℕ) (d : Option ItemDecl) (b : Bool)
    → (is_of o (record { scope = scope; item = item; inner = Some k }) && is_judged d && b) ≡ true → ⊥
of_inner o scope item k d b is =
    let three = both_true (is_of o (record { scope = scope; item = item; inner = Some k }) && is_judged d) b is in
    by o (both_true (is_of o (record { scope = scope; item = item; inner = Some k })) (is_judged d) three.0).0
  where
    by : (o : Option ℕ) → is_of o (record { scope = scope; item = item; inner = Some k }) ≡ true → ⊥
    by None is = true≢false (sym is)
    by (Some n) is = true≢false (sym (both_true (nat_eq n item) false is).1)

judged_there : (o : Option ItemDecl) (i : ItemDecl) → o ≡ Some i → is_judged o ≡ true → IsTrue (is_plain i)
judged_there o i is judged =
    (both_true (is_plain i) (not (must_be_given i.kind)) (subst (λ x. is_judged x ≡ true) is judged)).0

no_params : {A : Type 0} (ps : List A) → IsTrue (has_none ps) → [] ≡ ps
no_params [] none = refl
no_params (p ∷ ps) none = absurd (true≢false (sym none))

-- the definitions of a target are those of their numbers
harmless_all : (ds : Decls) (qs : List Question) (defs : List Def) (xs : List Numbered) → AllHave (IsAt defs 0) xs
    → list_all (λ g. is_harmless (slice_get defs g.number)) (map (guard_def ds qs) xs) ≡ true
    → AllHave (λ d. def_cannot_fault d.1 ≡ true) xs
harmless_all ds qs defs [] at all = tt
harmless_all ds qs defs (x ∷ xs) at all =
    let two = both_true (is_harmless (slice_get defs x.0))
    (list_all (λ g. is_harmless (slice_get defs g.number)) (map (guard_def ds qs) xs)) all in
    let is = at.0.1 in
    let number : x.0 ≡ at.0.0 = omega (arith, is) in
    (ap is_harmless (sym (ap (slice_get defs) number ∙ at.0.2)) ∙ two.0, harmless_all ds qs defs xs at.1 two.1)

-- ---- a scope of a program

module _ (ds : Decls) (bodies : List Body) (order : List ℕ) (formed : IsWellFormed ds bodies order) (scope : ℕ)
    (decl : Scope) (body : Body) (at : slice_get ds.scopes scope ≡ Some decl)
    (also : slice_get bodies scope ≡ Some body) (input : Items) (given : IsTrue (are_given_for ds decl.items input))
    (index : ℕ) (values : Items)
    (comes : (values_at (standing.scoped ds bodies order formed scope decl body at also) input index).end ≡ Ok values)
  where
    abbrev scoped : Scoped
    scoped = standing.scoped ds bodies order formed scope decl body at also

    abbrev targets : List Target
    targets = targets_of ds scope decl.items body.order

    abbrev questions : List Question
    questions = questions_of ds body.defs targets

    abbrev in_table : Target → TableTarget
    in_table t = target_of ds decl.items body.defs questions t

    abbrev terms : List Term
    terms = terms_of decl.items questions

    abbrev atoms : List Atom
    atoms = atoms_of questions

    -- a target that is harmless at the index is one that is judged there
    record IsJudged (item : ℕ) (i : ItemDecl) : Type 0 where
      there : slice_get body.order index ≡ Some item
      variable : IsTrue (is_plain i)
      target : IsOwn (record { decls = ds; items = decl.items }) item [] i.ty
      harmless : AllHave (λ d. def_cannot_fault d.1 ≡ true)
          (defs_from (record { scope = scope; item = item; inner = None }) 0 body.defs)

    is_judged_there : (item : ℕ) (i : ItemDecl) → slice_get decl.items item ≡ Some i → is_called i.kind ≡ false
        → must_be_given i.kind ≡ false
        → is_harmless_at decl.items body.order body.defs index
        (in_table (record { scope = scope; item = item; inner = None })) ≡ true → IsJudged item i
    is_judged_there item i is free open_one harmless =
        let here : Target = record { scope = scope; item = item; inner = None } in
        let first = is_of (slice_get body.order index) here in
        let three = both_true (first && is_judged (slice_get decl.items item))
        (list_all (λ g. is_harmless (slice_get body.defs g.number)) (in_table here).defs) harmless in
        let two = both_true first (is_judged (slice_get decl.items item)) three.0 in
        let variable = judged_there (slice_get decl.items item) i is two.1 in
        record {
          there = of_item (slice_get body.order index) here two.0;
          variable = variable;
          target = record {
            decl = i;
            decl_is = is;
            defined = and_both _ _ (ap not free) (ap not open_one);
            params_are = no_params i.params (both_true (not (is_called i.kind)) (has_none i.params) variable).1;
            ty_is = refl;
          };
          harmless = harmless_all ds questions body.defs (defs_from here 0 body.defs)
              (defs_at here 0 body.defs) three.1;
        }

    -- ---- what wins

    module _ (shown : Valuation) (region : Constraints) (p : Pos) (is_region : IsRegion region)
        (admits : Admits region shown) where
      -- what wins in a region of free terms is logged, where the target is harmless at the index
      abbrev pub Logs : List Term → List Atom → TableTarget → Type 0
      Logs ts xs t =
          IsTrue (target_is_sound (length xs) t) → region.dims ≡ dims_of ts → IsOfFreeTerms ts region
          → IsValuation (dims_of ts) shown → Shows ts input shown → entry_at t.target.item input ≡ None
          → JudgedSo ts xs t → is_harmless_at decl.items body.order body.defs index t ≡ true
          → winner_in xs t region ≡ p ∷ []
          → IsOneOf (record { target = t.target; by = Some p }) (run_scoped scoped input).log

      abbrev LogClaim : Target → Type 0
      LogClaim t = IsOneOf t targets → Logs terms atoms (in_table t)

      own_logs : (k item : ℕ) → slice_get body.order k ≡ Some item → (i : ItemDecl) → slice_get decl.items item ≡ Some i
          → is_called i.kind ≡ false → must_be_given i.kind ≡ false
          → LogClaim (record { scope = scope; item = item; inner = None })
      own_logs k item there i is free open_one listed sound dims of_free valid shows none so harmless wins =
          let here : Target = record { scope = scope; item = item; inner = None } in
          let j = is_judged_there item i is free open_one harmless in
          let one = held ds bodies order formed scope decl body at also input given index item j.there i.ty j.target
          listed (sound_parts (length atoms) (in_table here) sound).1 values comes j.harmless shown valid shows region p
          is_region dims of_free admits so wins in
          subst (λ (q : Pos). IsOneOf (record { target = here; by = Some q }) (run_scoped scoped input).log) one.2
          (logged scoped input index item i values (Some one.0) j.there is j.variable none comes one.1)

      within_logs : (k item : ℕ) → slice_get body.order k ≡ Some item → (i : ItemDecl) (s n : ℕ) (x : ItemDecl)
          → slice_get decl.items item ≡ Some i → i.kind ≡ kind.Called s → slice_get (scope_items ds s) n ≡ Some x
          → IsTrue (may_be_given x.kind) → LogClaim (record { scope = scope; item = item; inner = Some n })
      within_logs k item there i s n x is called has may listed sound dims of_free valid shows none so harmless wins =
          elim (of_inner (slice_get body.order index) scope item n (slice_get decl.items item)
          (list_all (λ g. is_harmless (slice_get body.defs g.number))
          (in_table (record { scope = scope; item = item; inner = Some n })).defs) harmless) [ ]

      pub each_logs : AllHave (Logs terms atoms) (map in_table targets)
      each_logs =
          all_mapped (Logs terms atoms) in_table targets
          (all_and (λ t. IsOneOf t targets) LogClaim (λ t. Logs terms atoms (in_table t)) targets (all_are targets)
          (targets_have ds scope decl.items LogClaim body.order own_logs within_logs) (λ t among claim. claim among))

    -- ---- what is covered

    -- the run comes to the next index, where a target is harmless at the index and covered by each valuation
    abbrev pub GoesOn : List Term → List Atom → TableTarget → Type 0
    GoesOn ts xs t =
        IsTrue (target_is_sound (length xs) t) → is_harmless_at decl.items body.order body.defs index t ≡ true
        → ((v : Valuation) → IsValuation (dims_of ts) v → Covers t (holds_at xs v))
        → (final : Items) × ((values_at scoped input (index + 1)).end ≡ Ok final)

    abbrev Claim : Target → Type 0
    Claim t = IsOneOf t targets → GoesOn terms atoms (in_table t)

    own : (k item : ℕ) → slice_get body.order k ≡ Some item → (i : ItemDecl) → slice_get decl.items item ≡ Some i
        → is_called i.kind ≡ false → must_be_given i.kind ≡ false
        → Claim (record { scope = scope; item = item; inner = None })
    own k item there i is free open_one listed sound harmless each =
        let here : Target = record { scope = scope; item = item; inner = None } in
        let j = is_judged_there item i is free open_one harmless in
        let one = covered ds bodies order formed scope decl body at also input given index item j.there i.ty j.target
        listed (sound_parts (length atoms) (in_table here) sound).1 values comes j.harmless each in
        reached_on scoped input index item j.there values comes
        (entry_comes scoped (backwards (take index body.order)) values item i one.0 one.1 is j.variable
        (subst (λ o. IsCovered {A = Value} (is_condition o) (Ok one.0)) is one.2) (entry_at item input))

    within : (k item : ℕ) → slice_get body.order k ≡ Some item → (i : ItemDecl) (s n : ℕ) (x : ItemDecl)
        → slice_get decl.items item ≡ Some i → i.kind ≡ kind.Called s → slice_get (scope_items ds s) n ≡ Some x
        → IsTrue (may_be_given x.kind) → Claim (record { scope = scope; item = item; inner = Some n })
    within k item there i s n x is called has may listed sound harmless each =
        elim (of_inner (slice_get body.order index) scope item n (slice_get decl.items item)
        (list_all (λ g. is_harmless (slice_get body.defs g.number))
        (in_table (record { scope = scope; item = item; inner = Some n })).defs) harmless) [ ]

    pub each_goes_on : AllHave (GoesOn terms atoms) (map in_table targets)
    each_goes_on =
        all_mapped (GoesOn terms atoms) in_table targets
        (all_and (λ t. IsOneOf t targets) Claim (λ t. GoesOn terms atoms (in_table t)) targets (all_are targets)
        (targets_have ds scope decl.items Claim body.order own within) (λ t among claim. claim among))

-- ---- a program

module _ (program : Program) (formed : ∥ IsWellFormed program.decls program.bodies program.scope_order ∥₁)
    (table : Table) (tabled : TablesScope program table.scope table) where
  -- the scope, as its runs go through it
  abbrev scoped_here : Scoped
  scoped_here = scoped_of table.scope tabled.0.items tabled.1 program.decls.scopes (scope_run program)

  goes_on_there : IsWellFormed program.decls program.bodies program.scope_order → (t : TableTarget)
      → IsOneOf t table.targets → (index : ℕ) → IsFaultless program table.scope index t
      → IsCoveredByEach table t → (input : Items) → IsWellTyped program.decls table.scope input
      → (final : Items) × ((values_at scoped_here input (index + 1)).end ≡ Ok final)
  goes_on_there well t among index faultless each input typed =
      let ds = program.decls in
      let decl = tabled.0 in
      let body = tabled.1 in
      let at = tabled.2 in
      let also = tabled.3 in
      let is = tabled.4 in
      let given = typed_given ds table.scope decl input at typed in
      let comes = ok_there (values_at scoped_here input index).end (faultless.reached decl body at also input typed) in
      let targets = targets_of ds table.scope decl.items body.order in
      let qs = questions_of ds body.defs targets in
      let On = GoesOn ds program.bodies program.scope_order well table.scope decl body at also input given index comes.0
      comes.1 in
      let goes = each_goes_on ds program.bodies program.scope_order well table.scope decl body at also input given index
      comes.0 comes.1 in
      let all : AllHave (On table.terms table.atoms) table.targets =
      subst (AllHave (On table.terms table.atoms)) (sym is.targets_are)
      (subst (λ (ts : List Term). AllHave (On ts table.atoms) (map (target_of ds decl.items body.defs qs) targets))
      (sym is.terms_are)
      (subst (λ (atoms : List Atom). AllHave (On (terms_of decl.items qs) atoms)
      (map (target_of ds decl.items body.defs qs) targets)) (sym is.atoms_are) goes)) in
      among_all (On table.terms table.atoms) table.targets t all among
      (among_all (λ u. IsTrue (target_is_sound (length table.atoms) u)) table.targets t
      (targets_sound table.terms table.atoms table.targets table.sound) among)
      (faultless.harmless decl body at also) each

  pub runs_go_on : (index : ℕ) → AllHave (λ t. IsFaultless program table.scope index t
      → IsCoveredByEach table t → IsReached program table.scope (index + 1)) table.targets
  runs_go_on index =
      all_of (λ t. IsFaultless program table.scope index t → IsCoveredByEach table t
      → IsReached program table.scope (index + 1)) table.targets
      (λ t among faultless each. reached_by program table.scope (index + 1) tabled.0 tabled.1 tabled.2 tabled.3
      (λ input typed. ∥∥₁_elim formed (Bool-set (is_ok (values_at scoped_here input (index + 1)).end) true)
      (λ well. let one = goes_on_there well t among index faultless each input typed in ap is_ok one.1)))

  module _ (so : AllHave (JudgedSo table.terms table.atoms) table.targets) (region : Constraints) (p : Pos)
      (is_region : IsRegion region) (dims : region.dims ≡ dims_of table.terms) (some : IsInhabited region)
      (of_free : IsOfFreeTerms table.terms region)
      (shows : Shows table.terms (input_at program.decls table (point_at region)) (point_at region))
      (typed : IsWellTyped program.decls table.scope (input_at program.decls table (point_at region))) where
    abbrev input : Items
    input = input_at program.decls table (point_at region)

    abbrev that : TableTarget → Decider
    that t = record { target = t.target; by = Some p }

    logged_there : IsWellFormed program.decls program.bodies program.scope_order → (t : TableTarget)
        → IsOneOf t table.targets → (index : ℕ) → IsFaultless program table.scope index t
        → winner_in table.atoms t region ≡ p ∷ []
        → IsOneOf (that t) (deciders program table.scope input)
    logged_there well t among index faultless wins =
        let ds = program.decls in
        let decl = tabled.0 in
        let body = tabled.1 in
        let at = tabled.2 in
        let also = tabled.3 in
        let is = tabled.4 in
        let admits = Admits-point_at region is_region some in
        let given = typed_given ds table.scope decl input at typed in
        let comes = ok_there (values_at scoped_here input index).end (faultless.reached decl body at also input typed)
        in
        let targets = targets_of ds table.scope decl.items body.order in
        let qs = questions_of ds body.defs targets in
        let LogsOf = Logs ds program.bodies program.scope_order well table.scope decl body at also input given
        index comes.0 comes.1 (point_at region) region p is_region admits in
        let each = each_logs ds program.bodies program.scope_order well table.scope decl body at also input given
        index comes.0 comes.1 (point_at region) region p is_region admits in
        let all : AllHave (LogsOf table.terms table.atoms) table.targets =
        subst (AllHave (LogsOf table.terms table.atoms)) (sym is.targets_are)
        (subst (λ (ts : List Term). AllHave (LogsOf ts table.atoms)
        (map (target_of ds decl.items body.defs qs) targets))
        (sym is.terms_are)
        (subst (λ (atoms : List Atom). AllHave (LogsOf (terms_of decl.items qs) atoms)
        (map (target_of ds decl.items body.defs qs) targets)) (sym is.atoms_are) each)) in
        let run = scopes_by_rule ds program.bodies program.scope_order formed table.scope decl body input at also in
        subst (λ (r : Run (List Value)). IsOneOf (that t) r.log) (sym run)
        (among_all (LogsOf table.terms table.atoms) table.targets t all among
        (among_all (λ u. IsTrue (target_is_sound (length table.atoms) u)) table.targets t
        (targets_sound table.terms table.atoms table.targets table.sound) among)
        dims of_free (subst (λ (xs : List Dim). IsValuation xs (point_at region)) dims admits.valuation) shows
        (among_all (λ u. entry_at u.target.item input ≡ None) table.targets t
        (points_give_none ds program.bodies table.scope table tabled (point_at region)) among)
        (among_all (JudgedSo table.terms table.atoms) table.targets t so among)
        (faultless.harmless decl body at also) wins)

    pub winners_decide : AllHave (λ t. (index : ℕ) → IsFaultless program table.scope index t
        → winner_in table.atoms t region ≡ p ∷ [] → decides_in program table t p region ≡ true) table.targets
    winners_decide =
        all_of (λ t. (index : ℕ) → IsFaultless program table.scope index t → winner_in table.atoms t region ≡ p ∷ []
        → decides_in program table t p region ≡ true) table.targets
        (λ t among index faultless wins. ∥∥₁_elim formed (Bool-set (decides_in program table t p region) true)
        (λ well. by t (decides_in program table t p region) refl (logged_there well t among index faultless wins)))
      where
        by : (t : TableTarget) (b : Bool) → decides_in program table t p region ≡ b
            → IsOneOf (that t) (deciders program table.scope input) → decides_in program table t p region ≡ true
        by t true e is = e
        by t false e is = absurd (none_of t.target p (deciders program table.scope input) e is)
