-- Regions that hang on what a run computes alone have one input, and its run says the same of each.
use Rattle.std.proofs.Common.{◌≡◌, ℕ, suc, ◌+◌, Bool, true, false, not, ◌||◌, if◌then◌else◌, List, [], ◌∷◌}
use Rattle.std.proofs.Common.{◌++◌, take, Option, Some, None, slice_get, refl, sym, ap, ◌∙◌, subst, arith}
use Rattle.std.proofs.Common.{true≢false}
use Rattle.std.specs.Prelude.{reverse, ◌==◌, ◌&&◌}
use Rattle.std.specs.List.{list_all}
use Rattle.std.proofs.lemmas.List.{reverse-append}
use Rattle.std.proofs.lemmas.List.Folds.{list_all-append}
use Rattle.std.proofs.lemmas.Bool.Decides.{nat_tests}
use mathlib.Core.Path.{fun_ext}
use Rattle.cat_pos.specs.declared.pos.Pos.{Pos}
use Rattle.cat_value.specs.declared.value.Value.{Value}
use Rattle.cat_value.specs.declared.outcome.Outcome.{Outcome}
use Rattle.cat_value.specs.declared.outcome.Outcome.TheVariants as outcome
use Rattle.cat_region.specs.declared.dim.Dim.{Dim}
use Rattle.cat_region.specs.declared.extent.Extent.{Extent}
use Rattle.cat_region.specs.declared.narrowing.Narrowing.{Narrowing}
use Rattle.cat_region.specs.Regions.{Constraints, Valuation}
use Rattle.cat_region.specs.Extents.{start, after, narrowed}
use Rattle.cat_region.specs.Chosen.{point_in, point_of, point_at}
use Rattle.cat_scope.specs.declared.programs.Program.{Program}
use Rattle.cat_scope.specs.Names.{scope_items}
use Rattle.cat_scope.specs.Outcomes.{scope_outcome}
use Rattle.cat_guard.specs.declared.table.Atom.{Atom}
use Rattle.cat_guard.specs.declared.table.InputPath.{InputPath}
use Rattle.cat_guard.specs.declared.table.Term.{Term}
use Rattle.cat_guard.specs.declared.table.Table.{Table}
use Rattle.cat_guard.specs.declared.table.TableTarget.{TableTarget}
use Rattle.cat_guard.specs.declared.tree.TreeNode.{TreeNode}
use Rattle.cat_guard.specs.Trees.{with_answer}
use Rattle.cat_guard.specs.Valuations.{dims_of}
use Rattle.cat_guard.proofs.Exported.{both_true}
use Rattle.cat_search.specs.Searched.{everything}
use Rattle.cat_search.specs.declared.bad.BadLeaf.{BadLeaf}
use Rattle.cat_search.specs.declared.way.Answer.{Answer}
use Rattle.cat_search.specs.Ways.{led_to, way_from}
use Rattle.cat_audit_sound.specs.PointInputs.{is_at, point_from, given_from}
use Rattle.cat_audit.specs.declared.finding.Finding.{Finding}
use Rattle.cat_audit.specs.declared.finding.Finding.TheVariants as finding
use Rattle.cat_audit.specs.Causes.{is_failure}
use Rattle.cat_audit.specs.Findings.{is_no_path, is_derived, derived_in, least, position_in, undecided_at}
use Rattle.cat_audit.specs.Findings.{finding_of, finding_from, finding_in, shown_input}
use Rattle.cat_audit.specs.Lines.{is_found, is_hanging}
use Rattle.cat_audit.specs.Hanging.{is_of_derived, asks_derived, are_derived, are_some, hang_alone}
use Rattle.cat_audit.specs.inside.Hanging.{IsQuiet, default_input}
use Rattle.cat_audit.specs.inside.Tried.{region_at}
use Rattle.cat_audit.proofs.FindingLemmas.{position_there, least_derived}

-- each narrowing is of a derived term
abbrev pub of_derived : List Term → List Narrowing → Bool
of_derived terms ns = list_all (λ n. is_derived (slice_get terms n.dim)) ns

-- ---- their points are those of everything

-- narrowings of other dimensions leave one as it is
untouched : (i : ℕ) (e : Extent) (ns : List Narrowing) → list_all (λ n. not (n.dim == i)) ns ≡ true → after i e ns ≡ e
unfolding after
untouched i e [] apart = refl
untouched i e (n ∷ ns) apart =
    let two = both_true (not (n.dim == i)) (list_all (λ m. not (m.dim == i)) ns) apart in
    by (n.dim == i) two.0 ∙ untouched i e ns two.1
  where
    by : (b : Bool) → not b ≡ true → after i (if b then narrowed e n.cut n.yes else e) ns ≡ after i e ns
    by true h = absurd (true≢false (sym h))
    by false h = refl

-- a free term isn't that of a narrowing of a derived one
apart_from : (terms : List Term) (i : ℕ) (ns : List Narrowing) → is_derived (slice_get terms i) ≡ false
    → of_derived terms ns ≡ true → list_all (λ n. not (n.dim == i)) ns ≡ true
apart_from terms i [] free derived = refl
apart_from terms i (n ∷ ns) free derived =
    let two = both_true (is_derived (slice_get terms n.dim)) (of_derived terms ns) derived in
    ap (λ b. b && list_all (λ m. not (m.dim == i)) ns) (by (n.dim == i) refl two.0)
    ∙ apart_from terms i ns free two.1
  where
    by : (b : Bool) → (n.dim == i) ≡ b → is_derived (slice_get terms n.dim) ≡ true → not b ≡ true
    by true e h =
        let same : n.dim ≡ i = grind (arith, nat_tests, e) in
        absurd (true≢false (sym h ∙ ap (λ k. is_derived (slice_get terms k)) same ∙ free))
    by false e h = refl

same_point : (terms : List Term) (region : Constraints) (i : ℕ) → region.dims ≡ dims_of terms
    → list_all (λ n. not (n.dim == i)) region.narrowings ≡ true → point_at region i ≡ point_at (everything terms) i
unfolding point_at after
same_point terms region i dims apart =
    ap (λ ds. point_of i (slice_get ds i) region) dims ∙ by (slice_get (dims_of terms) i)
  where
    by : (o : Option Dim) → point_of i o region ≡ point_of i o (everything terms)
    by None = refl
    by (Some d) = ap (point_in d) (untouched i (start d) region.narrowings apart)

-- ---- and so is their input

same_points_from : (v w : Valuation) (n : ℕ) (terms : List Term) (path : InputPath)
    → ((k : ℕ) → is_derived (slice_get terms k) ≡ false → v (n + k) ≡ w (n + k))
    → point_from v n terms path ≡ point_from w n terms path
same_points_from v w n [] path same = refl
same_points_from v w n (term ∷ terms) path same =
    by term.path refl (same_points_from v w (n + 1) terms path further)
  where
    further : (k : ℕ) → is_derived (slice_get terms k) ≡ false → v (n + 1 + k) ≡ w (n + 1 + k)
    further k free =
        let next : n + suc k ≡ n + 1 + k = omega arith in
        subst (λ (j : ℕ). v j ≡ w j) next (same (suc k) free)

    by : (o : Option InputPath) → term.path ≡ o
        → point_from v (n + 1) terms path ≡ point_from w (n + 1) terms path
        → (if is_at path o then Some (v n) else point_from v (n + 1) terms path)
        ≡ (if is_at path o then Some (w n) else point_from w (n + 1) terms path)
    by None e rest = rest
    by (Some p) e rest =
        let none : n + 0 ≡ n = omega arith in
        let here = subst (λ (j : ℕ). v j ≡ w j) none (same 0 (ap is_no_path e)) in
        ap (λ x. if is_at path (Some p) then Some x else point_from v (n + 1) terms path) here
        ∙ ap (λ r. if is_at path (Some p) then Some (w n) else r) rest

module _ (program : Program) (table : Table) (region : Constraints) (dims : region.dims ≡ dims_of table.terms)
    (derived : of_derived table.terms region.narrowings ≡ true) where
  pub same_input : shown_input program table region ≡ default_input program table
  same_input =
      ap (λ points. given_from program.decls points 0 (scope_items program.decls table.scope))
      (fun_ext (λ path. same_points_from (point_at region) (point_at (everything table.terms)) 0 table.terms path
      (λ k free. let same : k ≡ 0 + k = omega arith in
      subst (λ (j : ℕ). point_at region j ≡ point_at (everything table.terms) j) same
      (same_point table.terms region k dims (apart_from table.terms k region.narrowings free derived)))))

-- ---- they hang on something

any_derived : (terms : List Term) (ns : List Narrowing) → of_derived terms ns ≡ true
    → least (derived_in terms ns) ≡ None → ns ≡ []
any_derived terms [] derived none = refl
any_derived terms (n ∷ ns) derived none =
    by (is_derived (slice_get terms n.dim))
    (both_true (is_derived (slice_get terms n.dim)) (of_derived terms ns) derived).0 none
  where
    by : (b : Bool) → b ≡ true → least (if b then n.dim ∷ derived_in terms ns else derived_in terms ns) ≡ None
        → n ∷ ns ≡ []
    by true e h = absurd (cc)
    by false e h = absurd (true≢false (sym e))

-- where a region hangs on what a run computes
pub record Hangs (terms : List Term) (t : TableTarget) (region : Constraints) : Type 0 where
  pub at : Pos
  pub is : undecided_at terms t region ≡ Some at

pub hangs : (terms : List Term) (t : TableTarget) (region : Constraints) → of_derived terms region.narrowings ≡ true
    → (region.narrowings ≡ [] → ⊥) → Hangs terms t region
hangs terms t region derived some = by t.function refl
  where
    here : Bool → Option Pos
    here b = if b then Some t.pos else position_in terms (least (derived_in terms region.narrowings))

    there : (o : Option ℕ) → least (derived_in terms region.narrowings) ≡ o → (p : Option Pos)
        → position_in terms o ≡ p → here t.function ≡ p → Hangs terms t region
    there None e p h is = absurd (some (any_derived terms region.narrowings derived e))
    there (Some i) e None h is = absurd (position_there terms i (least_derived terms region.narrowings i e) h)
    there (Some i) e (Some at) h is = record { at = at; is = is }

    by : (b : Bool) → t.function ≡ b → Hangs terms t region
    by true e = record { at = t.pos; is = ap here e }
    by false e =
        there (least (derived_in terms region.narrowings)) refl
        (position_in terms (least (derived_in terms region.narrowings))) refl (ap here e)

-- ---- what the run on the one input says

no_failure : (at : Option Pos) (input : List (Option Value)) (o : Outcome) (f : Finding)
    → finding_of at input o ≡ Some f → is_found f ≡ false → is_failure o ≡ false
no_failure at input (outcome.Conflict target positions) f says unfound =
    let same : finding.Found (outcome.Conflict target positions) input ≡ f = cc in
    absurd (true≢false (ap is_found same ∙ unfound))
no_failure at input (outcome.NoValue target pos) f says unfound =
    let same : finding.Found (outcome.NoValue target pos) input ≡ f = cc in
    absurd (true≢false (ap is_found same ∙ unfound))
no_failure at input (outcome.Fault kind pos) f says unfound = refl
no_failure at input (outcome.Value outputs) f says unfound = refl

-- a finding that hangs on what a run computes
pub record IsHanging (o : Option Finding) : Type 0 where
  pub found : Finding
  pub is : o ≡ Some found
  pub hanging : is_hanging found ≡ true

hanging_of : (at : Pos) (input : List (Option Value)) (o : Outcome) → is_failure o ≡ false
    → IsHanging (finding_of (Some at) input o)
hanging_of at input (outcome.Conflict target positions) quiet = absurd (true≢false quiet)
hanging_of at input (outcome.NoValue target pos) quiet = absurd (true≢false quiet)
hanging_of at input (outcome.Fault kind pos) quiet = record {
  found = finding.Derived at input (outcome.Fault kind pos);
  is = refl;
  hanging = refl;
}
hanging_of at input (outcome.Value outputs) quiet = record {
  found = finding.Derived at input (outcome.Value outputs);
  is = refl;
  hanging = refl;
}

module _ (program : Program) (table : Table) (region : Constraints) (dims : region.dims ≡ dims_of table.terms)
    (derived : of_derived table.terms region.narrowings ≡ true) where
  -- one that isn't found tells what the run came to
  pub is_quiet : (t : TableTarget) (f : Finding) → finding_in program table t region ≡ Some f → is_found f ≡ false
      → IsQuiet program table
  is_quiet t f says unfound = by (scope_outcome program table.scope shown) refl says
    where
      shown : List (Option Value)
      shown = shown_input program table region

      by : (o : Option Outcome) → scope_outcome program table.scope shown ≡ o
          → finding_from (undecided_at table.terms t region) shown o ≡ Some f → IsQuiet program table
      by None e h = absurd (cc)
      by (Some o) e h = record {
        outcome = o;
        comes_to = ap (scope_outcome program table.scope) (sym (same_input program table region dims derived)) ∙ e;
        quiet = no_failure (undecided_at table.terms t region) shown o f h unfound;
      }

  -- and then each of them hangs
  pub all_hang : (t : TableTarget) → (region.narrowings ≡ [] → ⊥) → IsQuiet program table
      → IsHanging (finding_in program table t region)
  all_hang t some quiet =
      let at = hangs table.terms t region derived some in
      let shown = shown_input program table region in
      let comes : scope_outcome program table.scope shown ≡ Some quiet.outcome =
      ap (scope_outcome program table.scope) (same_input program table region dims derived) ∙ quiet.comes_to in
      let is : finding_in program table t region ≡ finding_of (Some at.at) shown quiet.outcome =
      ap (λ p. finding_from p shown (scope_outcome program table.scope shown)) at.is
      ∙ ap (finding_from (Some at.at) shown) comes in
      subst IsHanging (sym is) (hanging_of at.at shown quiet.outcome quiet.quiet)

-- ---- the way there

all_reversed : (test : Answer → Bool) (ns : List Answer) → list_all test (reverse ns) ≡ list_all test ns
all_reversed test [] = refl
all_reversed test (n ∷ ns) =
    ap (list_all test) (reverse-append (n ∷ []) ns) ∙ list_all-append test (reverse ns) (n ∷ [])
    ∙ ap (λ b. b && (test n && true)) (all_reversed test ns) ∙ by (list_all test ns) (test n)
  where
    by : (a b : Bool) → (a && (b && true)) ≡ (b && a)
    by true true = refl
    by true false = refl
    by false true = refl
    by false false = refl

module _ (table : Table) (base : Constraints) (nothing : base.narrowings ≡ []) where
  abbrev Led : List Answer → Constraints
  Led way = led_to table.atoms base way

  led_derived : (way : List Answer) → list_all (asks_derived table) way ≡ true
      → of_derived table.terms (Led way).narrowings ≡ true
  led_derived [] all = ap (of_derived table.terms) nothing
  led_derived (n ∷ way) all =
      let two = both_true (asks_derived table n) (list_all (asks_derived table) way) all in
      by (slice_get table.atoms n.atom) two.0 (led_derived way two.1)
    where
      by : (o : Option Atom) → is_of_derived table.terms o ≡ true → of_derived table.terms (Led way).narrowings ≡ true
          → of_derived table.terms (with_answer (Led way) o n.yes).narrowings ≡ true
      by None h before = absurd (true≢false (sym h))
      by (Some atom) h before =
          list_all-append (λ m. is_derived (slice_get table.terms m.dim)) (Led way).narrowings
          (record { dim = atom.term; cut = atom.cut; yes = n.yes } ∷ [])
          ∙ ap (λ b. b && (is_derived (slice_get table.terms atom.term) && true)) before
          ∙ ap (λ b. b && true) h

  led_some : (way : List Answer) → list_all (asks_derived table) way ≡ true → (way ≡ [] → ⊥)
      → (Led way).narrowings ≡ [] → ⊥
  led_some [] all some none = some refl
  led_some (n ∷ way) all some none =
      by (slice_get table.atoms n.atom)
      (both_true (asks_derived table n) (list_all (asks_derived table) way) all).0 none
    where
      by : (o : Option Atom) → is_of_derived table.terms o ≡ true → (with_answer (Led way) o n.yes).narrowings ≡ [] → ⊥
      by None h e = absurd (true≢false (sym h))
      by (Some atom) h e = behind (Led way).narrowings e
        where
          behind : (ns : List Narrowing) → ns ++ record { dim = atom.term; cut = atom.cut; yes = n.yes } ∷ [] ≡ [] → ⊥
          behind [] h = absurd (cc)
          behind (m ∷ ns) h = absurd (cc)

  -- answers that hang alone, in their order, and the way that they are
  pub alone_derived : (answers way : List Answer) → way ≡ reverse answers → hang_alone table answers ≡ true
      → of_derived table.terms (Led way).narrowings ≡ true
  alone_derived answers way is alone =
      led_derived way (ap (list_all (asks_derived table)) is ∙ all_reversed (asks_derived table) answers
      ∙ (both_true (are_some answers) (are_derived table answers) alone).1)

  pub alone_some : (answers way : List Answer) → way ≡ reverse answers → hang_alone table answers ≡ true
      → (Led way).narrowings ≡ [] → ⊥
  alone_some answers way is alone =
      led_some way (ap (list_all (asks_derived table)) is ∙ all_reversed (asks_derived table) answers
      ∙ (both_true (are_some answers) (are_derived table answers) alone).1)
      (λ none. there answers (both_true (are_some answers) (are_derived table answers) alone).0 (sym is ∙ none))
    where
      last : (ns : List Answer) (n : Answer) → ns ++ n ∷ [] ≡ [] → ⊥
      last [] n h = absurd (cc)
      last (m ∷ ns) n h = absurd (cc)

      there : (ns : List Answer) → are_some ns ≡ true → reverse ns ≡ [] → ⊥
      there [] some none = true≢false (sym some)
      there (n ∷ ns) some none = last (reverse ns) n (sym (reverse-append (n ∷ []) ns) ∙ none)

-- ---- bad leaves to which they lead

module _ (program : Program) (table : Table) (nodes : List TreeNode) (b : BadLeaf) (answers way : List Answer)
    (is : way ≡ reverse answers) (here : way ≡ way_from [] (take b.leaf nodes))
    (alone : hang_alone table answers ≡ true)
    (dims : (region_at table nodes b).dims ≡ dims_of table.terms) where
  derived_there : of_derived table.terms (region_at table nodes b).narrowings ≡ true
  derived_there =
      subst (λ w. of_derived table.terms (led_to table.atoms (everything table.terms) w).narrowings ≡ true) here
      (alone_derived table (everything table.terms) refl answers way is alone)

  some_there : (region_at table nodes b).narrowings ≡ [] → ⊥
  some_there none =
      alone_some table (everything table.terms) refl answers way is alone
      (ap (λ w. (led_to table.atoms (everything table.terms) w).narrowings) here ∙ none)

  pub quiet_by : (t : TableTarget) (f : Finding) → finding_in program table t (region_at table nodes b) ≡ Some f
      → is_found f ≡ false → IsQuiet program table
  quiet_by = is_quiet program table (region_at table nodes b) dims derived_there

  pub hangs_there : (t : TableTarget) → IsQuiet program table
      → IsHanging (finding_in program table t (region_at table nodes b))
  hangs_there t quiet = all_hang program table (region_at table nodes b) dims derived_there t some_there quiet

-- the default was run before, or now
pub quiet_on : {P : Type 0} (before now : Bool) → (before || now) ≡ true → (before ≡ true → P) → (now ≡ true → P) → P
quiet_on true now run one other = one refl
quiet_on false now run one other = other run
