-- Each line of a target has its cause.
use Rattle.std.proofs.Common.{◌≡◌, ℕ, ◌≤◌, Bool, true, false, ◌||◌, List}
use Rattle.std.proofs.Common.{[], ◌∷◌}
use Rattle.std.proofs.Common.{map, Option, Some, None, slice_get, refl, sym, ap, ◌∙◌, subst, true≢false}
use Rattle.std.proofs.Common.{if◌then◌else◌, arith}
use Rattle.std.specs.List.{list_any}
use Rattle.std.specs.Prelude.{option_map}
use Rattle.std.proofs.lemmas.List.Folds.{list_any-append}
use Rattle.std.proofs.lemmas.Option.{slice_get-map}
use Rattle.cat_pos.specs.declared.pos.Pos.{Pos}
use Rattle.cat_value.specs.declared.outcome.Outcome.{Outcome}
use Rattle.cat_value.specs.Inputs.{IsWellTyped}
use Rattle.cat_region.specs.declared.dim.Dim.{Dim}
use Rattle.cat_region.specs.Chosen.{point_at}
use Rattle.cat_region.specs.Decided.{admits_none}
use Rattle.cat_region.specs.Regions.{Constraints, Valuation, IsRegion, IsInhabited, IsValuation, Admits}
use Rattle.cat_scope.specs.declared.programs.Program.{Program}
use Rattle.cat_scope.specs.Names.{AllHave}
use Rattle.cat_scope.specs.Outcomes.{deciders, scope_outcome}
use Rattle.cat_guard.specs.declared.guard.GuardDef.{GuardDef}
use Rattle.cat_guard.specs.declared.table.Table.{Table}
use Rattle.cat_guard.specs.declared.table.TableTarget.{TableTarget}
use Rattle.cat_guard.specs.declared.tree.TreeNode.{TreeNode}
use Rattle.cat_guard.specs.Judged.{judged_in}
use Rattle.cat_guard.specs.Verdicts.{Verdict, Holds, Empty, Conflict, Open}
use Rattle.cat_guard.specs.Valuations.{dims_of}
use Rattle.cat_search.specs.Searched.{Reached}
use Rattle.cat_audit_sound.specs.PointInputs.{input_at}
use Rattle.cat_audit.specs.Findings.{undecided_at, shown_input}
use Rattle.cat_dead_report.specs.declared.found.Known.{Known}
use Rattle.cat_dead_report.specs.declared.found.Won.{Won}
use Rattle.cat_dead.specs.declared.judged.LeafJudgement.{LeafJudgement}
use Rattle.cat_dead.specs.declared.judged.LeafJudgement.TheVariants as leaf
use Rattle.cat_dead_report.specs.declared.line.DeadLine.{DeadLine}
use Rattle.cat_dead_report.specs.declared.line.DeadLine.TheVariants as line
use Rattle.cat_dead_report.specs.Causes.{HasDeadLine, IsTried}
use Rattle.cat_dead_report.specs.DeadReports.{HasFirstLine, HaveDeadLines}
use Rattle.cat_dead.specs.Winners.{is_same, place_of, holder_of, winner_in, winners_in}
use Rattle.cat_dead_report.specs.RunLines.{line_from, decides_in, line_in, weight, weight_of, SaysMost}
use Rattle.cat_dead_report.specs.inside.Knowing.{IsLineIf, IsKnownOf, AreKnownOf, known_weight}
use Rattle.cat_dead_report.specs.inside.WonLeaves.{won_of, won_by, way_of, led, Covers, IsTold}
use Rattle.cat_dead.specs.Leaves.{judgement_of, judged_at}
use Rattle.cat_dead_report.specs.inside.Places.{number_of, AreNumbered}
use Rattle.cat_dead_report.specs.inside.Said.{IsWon, IsLineOf}
use Rattle.cat_dead_report.specs.inside.Tries.{last_line, last_lines}
use Rattle.cat_dead_report.proofs.DeciderLemmas.{one_of, none_of}
use Rattle.cat_audit.proofs.FindingLemmas.{is_free}
use Rattle.cat_dead.proofs.Exported.{same_is, same_self, some_same}
use Rattle.cat_dead_report.proofs.KnownLemmas.{known_at}
use Rattle.cat_dead_report.proofs.PlaceLemmas.{numbered_at}
use Rattle.cat_dead_report.proofs.ReachedLemmas.{judged_leaf}

-- ---- a line that a run gives

module _ (program : Program) (table : Table) (t : TableTarget) (nodes : List TreeNode)
    (typed : (v : Valuation) → IsValuation (dims_of table.terms) v
    → IsWellTyped program.decls table.scope (input_at program.decls table v))
    (admitted : (region : Constraints) → IsRegion region → IsInhabited region → Admits region (point_at region))
    (p : Pos) where
  module _ (region : Constraints) (won : IsWon table t nodes p region) where
    admits : Admits region (point_at region)
    admits = admitted region won.region_is won.inhabited

    input_typed : IsWellTyped program.decls table.scope (shown_input program table region)
    input_typed =
        typed (point_at region)
        (subst (λ (ds : List Dim). IsValuation ds (point_at region)) won.dims admits.valuation)

    tried : (o : Outcome) → decides_in program table t p region ≡ false
        → scope_outcome program table.scope (shown_input program table region) ≡ Some o
        → IsTried program table t p nodes (shown_input program table region) o region
    tried o not_there comes = record {
      leaf = won.leaf;
      wins = won.wins;
      admits = admits;
      input_is = refl;
      typed = input_typed;
      comes_to = comes;
      no_decider = none_of t.target p (deciders program table.scope (shown_input program table region)) not_there;
    }

    by_run : (budget : ℕ) (b : Bool) (at : Option Pos) (o : Option Outcome) (l : DeadLine)
        → decides_in program table t p region ≡ b → undecided_at table.terms t region ≡ at
        → scope_outcome program table.scope (shown_input program table region) ≡ o
        → line_from b at (shown_input program table region) o ≡ Some l
        → HasDeadLine program table t budget nodes p l
    by_run budget b at None l decides hangs comes is = absurd (cc)
    by_run budget true at (Some o) l decides hangs comes is =
        subst (HasDeadLine program table t budget nodes p)
        (some_same (line.Decides (shown_input program table region)) l is)
        (input_typed, one_of t.target p (deciders program table.scope (shown_input program table region)) decides)
    by_run budget false None (Some o) l decides hangs comes is =
        let free = is_free table.terms t region won.region_is won.dims hangs in
        subst (HasDeadLine program table t budget nodes p)
        (some_same (line.Masked (shown_input program table region) o) l is)
        (free.0, (region, tried o decides comes, free.1))
    by_run budget false (Some at) (Some o) l decides hangs comes is =
        subst (HasDeadLine program table t budget nodes p)
        (some_same (line.Derived at (shown_input program table region) o) l is)
        (region, tried o decides comes, hangs)

  pub run_cause : (budget : ℕ) (l : DeadLine) → IsLineOf program table t nodes p l
      → HasDeadLine program table t budget nodes p l
  run_cause budget l of =
      by_run of.region of.won budget (decides_in program table t p of.region)
      (undecided_at table.terms t of.region)
      (scope_outcome program table.scope (shown_input program table of.region)) l refl refl refl of.says

-- ---- what the leaves tell

-- a definition that stands there is judged to win
pub record IsHolder (t : TableTarget) (p : Pos) (j : LeafJudgement) : Type 0 where
  pub number : ℕ
  pub def : GuardDef
  pub wins : j ≡ leaf.Wins number
  pub def_is : slice_get t.defs number ≡ Some def
  pub same : is_same p def.pos ≡ true

-- the winner of a region is judged to win there
winner_judged : (t : TableTarget) (p : Pos) (b : Bool) (j : Verdict)
    → list_any (is_same p) (if b then [] else holder_of t j) ≡ true
    → IsHolder t p (if b then leaf.Nothing else judgement_of j)
winner_judged t p true j h = absurd (true≢false (sym h))
winner_judged t p false Empty h = absurd (true≢false (sym h))
winner_judged t p false Conflict h = absurd (true≢false (sym h))
winner_judged t p false Open h = absurd (true≢false (sym h))
winner_judged t p false (Holds d) h = by (slice_get t.defs d) refl h
  where
    one : (c : Bool) → (c || false) ≡ true → c ≡ true
    one true h = refl
    one false h = h

    by : (o : Option GuardDef) → slice_get t.defs d ≡ o → list_any (is_same p) (place_of o) ≡ true
        → IsHolder t p (leaf.Wins d)
    by None e h = absurd (true≢false (sym h))
    by (Some def) e h =
        record { number = d; def = def; wins = refl; def_is = e; same = one (is_same p def.pos) h }

module _ (program : Program) (table : Table) (t : TableTarget) (nodes : List TreeNode) (positions : List Pos)
    (numbers : List ℕ) (known : List Known) (are : AreNumbered positions t.defs numbers) (p : Pos) (n : ℕ)
    (number : n ≡ number_of positions p) where
  abbrev Told : Reached → Type 0
  Told r = IsTold program table t nodes numbers known (judged_leaf table.atoms t r)

  abbrev here : Won
  here = record { place = n; pos = p }

  -- where it wins it is covered
  covered : (r : Reached) → Told r → list_any (is_same p) (winner_in table.atoms t r.region) ≡ true
      → Covers program table t nodes known (judged_leaf table.atoms t r) here
  covered r told wins =
      let holder = winner_judged t p (admits_none r.region) (judged_in table.atoms r.region t) wins in
      let one = numbered_at positions t.defs numbers are holder.number holder.def holder.def_is in
      let pos_is : p ≡ holder.def.pos = same_is p holder.def.pos holder.same in
      let number_is : one.number ≡ n =
      one.number_is ∙ ap (number_of positions) (sym pos_is) ∙ sym number in
      let w : Won = record { place = one.number; pos = holder.def.pos } in
      let won : won_by numbers t.defs (judged_at table.atoms t r.region) ≡ Some w =
      ap (won_by numbers t.defs) holder.wins ∙ ap (λ o. won_of o (slice_get t.defs holder.number)) one.is
      ∙ ap (won_of (Some one.number)) holder.def_is in
      let same : w ≡ here =
      ap (λ (k : ℕ). record { place = k; pos = holder.def.pos }) number_is
      ∙ ap (λ (q : Pos). record { place = n; pos = q }) (sym pos_is) in
      subst (Covers program table t nodes known (judged_leaf table.atoms t r)) same (told w won)

  -- where nothing is known it wins in none
  pub lost : known_weight (slice_get known n) ≡ 0 → (ls : List Reached) → AllHave Told ls
      → list_any (is_same p) (winners_in table.atoms t (map (λ (r : Reached). r.region) ls)) ≡ false
  lost none [] told = refl
  lost none (r ∷ ls) told =
      list_any-append (is_same p) (winner_in table.atoms t r.region)
      (winners_in table.atoms t (map (λ (x : Reached). x.region) ls))
      ∙ ap (λ b. b || list_any (is_same p) (winners_in table.atoms t (map (λ (x : Reached). x.region) ls)))
      (by (list_any (is_same p) (winner_in table.atoms t r.region)) refl)
      ∙ lost none ls told.1
    where
      by : (b : Bool) → list_any (is_same p) (winner_in table.atoms t r.region) ≡ b → b ≡ false
      by true e =
          let covers = covered r told.0 e in
          let some : 1 ≤ known_weight (slice_get known n) = covers.some in
          absurd (omega (arith, some, none))
      by false e = refl

  -- no run says more of it than what is known
  pub said_most : t.function ≡ false → (most : ℕ) → known_weight (slice_get known n) ≡ most → (ls : List Reached)
      → AllHave Told ls
      → AllHave (λ (r : Reached). r.region ≡ led table (way_of nodes (judged_leaf table.atoms t r))) ls
      → AllHave (λ region. winner_in table.atoms t region ≡ p ∷ []
      → weight_of (line_in program table t p region) ≤ most) (map (λ (r : Reached). r.region) ls)
  said_most plain most is [] told on = tt
  said_most plain most is (r ∷ ls) told on = (one, said_most plain most is ls told.1 on.1)
    where
      one : winner_in table.atoms t r.region ≡ p ∷ [] → weight_of (line_in program table t p r.region) ≤ most
      one wins =
          let among : list_any (is_same p) (winner_in table.atoms t r.region) ≡ true =
          ap (list_any (is_same p)) wins ∙ ap (λ b. b || false) (same_self p) in
          let covers : weight_of (line_in program table t p
          (led table (way_of nodes (judged_leaf table.atoms t r)))) ≤ known_weight (slice_get known n) =
          (covered r told.0 among).most plain in
          let there : weight_of (line_in program table t p r.region)
          ≡ weight_of (line_in program table t p (led table (way_of nodes (judged_leaf table.atoms t r)))) =
          ap (λ region. weight_of (line_in program table t p region)) on.0 in
          omega (arith, covers, there, is)

-- ---- the lines of a target

last_weight : (whole : Bool) (o : Option DeadLine) → weight (last_line whole o) ≡ weight_of o
last_weight whole (Some l) = refl
last_weight true None = refl
last_weight false None = refl

module _ (program : Program) (table : Table) (t : TableTarget) (budget : ℕ) (nodes : List TreeNode) (whole : Bool)
    (runs : (p : Pos) (l : DeadLine) → IsLineOf program table t nodes p l
    → HasDeadLine program table t budget nodes p l)
    (positions : List Pos) (known : List Known) (each : AreKnownOf program table t nodes positions known)
    (rest : (p : Pos) (n : ℕ) → n ≡ number_of positions p → known_weight (slice_get known n) ≡ 0
    → HasDeadLine program table t budget nodes p (if whole then line.Never else line.Budget))
    (most : (p : Pos) (n : ℕ) → n ≡ number_of positions p → t.function ≡ false → (l : DeadLine)
    → known_weight (slice_get known n) ≡ weight l → SaysMost program table t nodes p l) where
  cause_of : (p : Pos) (n : ℕ) → n ≡ number_of positions p → (k : Known) → slice_get known n ≡ Some k
      → IsKnownOf program table t nodes p k → HasDeadLine program table t budget nodes p (last_line whole k.line)
  cause_of p n number k at of = by k.line refl
    where
      by : (o : Option DeadLine) → k.line ≡ o → HasDeadLine program table t budget nodes p (last_line whole o)
      by None e = rest p n number (ap known_weight at ∙ ap weight_of e)
      by (Some l) e = runs p l (subst (IsLineIf program table t nodes p) e of.line)

  first_of : (p : Pos) (n : ℕ) → n ≡ number_of positions p → (k : Known) → slice_get known n ≡ Some k
      → IsKnownOf program table t nodes p k → HasFirstLine program table t budget nodes p (last_line whole k.line)
  first_of p n number k at of = (
    cause_of p n number k at of,
    λ plain. most p n number plain (last_line whole k.line)
        (ap known_weight at ∙ sym (last_weight whole k.line)),
  )

  pub lines_said : (defs : List GuardDef) (numbers : List ℕ) → AreNumbered positions defs numbers
      → HaveDeadLines program table t budget nodes defs
      (map (λ (place : ℕ). slice_get (last_lines whole known) place) numbers)
  lines_said [] [] are = tt
  lines_said [] (n ∷ ns) are = absurd (are)
  lines_said (d ∷ defs) [] are = absurd (are)
  lines_said (d ∷ defs) (n ∷ ns) are =
      let at = known_at program table t nodes positions known each n d.pos are.1 in
      let line_is : slice_get (last_lines whole known) n ≡ Some (last_line whole at.there.line) =
      slice_get-map (λ (k : Known). last_line whole k.line) known n
      ∙ ap (option_map (λ (k : Known). last_line whole k.line)) at.is in
      subst (λ (o : Option DeadLine). HaveDeadLines program table t budget nodes (d ∷ defs)
      (o ∷ map (λ (place : ℕ). slice_get (last_lines whole known) place) ns)) (sym line_is)
      (first_of d.pos n are.0 at.there at.is at.known_of, lines_said defs ns are.2)
