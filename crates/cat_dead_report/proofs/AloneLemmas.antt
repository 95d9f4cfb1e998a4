-- What the one run on the input of regions that hang on what a run computes alone says of them.
use Rattle.std.proofs.Common.{◌≡◌, ◌≤◌, Bool, true, false, if◌then◌else◌, List, [], Option}
use Rattle.std.proofs.Common.{Some, None, refl, sym, ap, ◌∙◌, subst, arith}
use Rattle.std.specs.Prelude.{reverse}
use Rattle.cat_pos.specs.declared.pos.Pos.{Pos}
use Rattle.cat_value.specs.declared.value.Value.{Value}
use Rattle.cat_value.specs.declared.outcome.Outcome.{Outcome}
use Rattle.cat_scope.specs.declared.programs.Program.{Program}
use Rattle.cat_scope.specs.Outcomes.{deciders, scope_outcome}
use Rattle.cat_guard.specs.declared.table.Table.{Table}
use Rattle.cat_guard.specs.declared.table.TableTarget.{TableTarget}
use Rattle.cat_guard.specs.Valuations.{dims_of}
use Rattle.cat_search.specs.Searched.{everything}
use Rattle.cat_search.specs.declared.way.Answer.{Answer}
use Rattle.cat_audit.specs.Hanging.{hang_alone}
use Rattle.cat_audit.specs.Findings.{undecided_at, shown_input}
use Rattle.cat_dead_report.specs.declared.line.DeadLine.{DeadLine}
use Rattle.cat_dead_report.specs.Deciders.{has_decider}
use Rattle.cat_dead_report.specs.RunLines.{line_by, line_from, decides_in, line_in, weight, weight_of}
use Rattle.cat_dead_report.specs.inside.Knowing.{default_weight}
use Rattle.cat_dead_report.specs.inside.WonLeaves.{led}
use Rattle.cat_audit.proofs.HangingLemmas.{Hangs, of_derived, same_input, hangs, alone_derived, alone_some}
use Rattle.cat_dead.proofs.Exported.{some_same}

-- ---- what the run on it says

weighs_at_most : (b : Bool) (at : Pos) (input : List (Option Value)) (o : Option Outcome)
    → weight_of (line_from b (Some at) input o) ≤ (if b then 3 else 1)
weighs_at_most true at input None = let fine : 0 ≤ 3 = omega arith in fine
weighs_at_most false at input None = let fine : 0 ≤ 1 = omega arith in fine
weighs_at_most true at input (Some o) = let fine : 3 ≤ 3 = omega arith in fine
weighs_at_most false at input (Some o) = let fine : 1 ≤ 1 = omega arith in fine

weighs : (b : Bool) (at : Pos) (input : List (Option Value)) (o : Option Outcome) (l : DeadLine)
    → line_from b (Some at) input o ≡ Some l → (if b then 3 else 1) ≤ weight l
weighs b at input None l is = absurd (cc)
weighs true at input (Some o) l is =
    let fine : 3 ≤ 3 = omega arith in
    subst (λ (m : DeadLine). 3 ≤ weight m) (some_same (line_by true (Some at) input o) l is) fine
weighs false at input (Some o) l is =
    let fine : 1 ≤ 1 = omega arith in
    subst (λ (m : DeadLine). 1 ≤ weight m) (some_same (line_by false (Some at) input o) l is) fine

pub some_default : (program : Program) (table : Table) (t : TableTarget) (p : Pos)
    → 1 ≤ default_weight program table t p
some_default program table t p = by (decides_in program table t p (everything table.terms))
  where
    by : (b : Bool) → 1 ≤ (if b then 3 else 1)
    by true = let fine : 1 ≤ 3 = omega arith in fine
    by false = let fine : 1 ≤ 1 = omega arith in fine

module _ (program : Program) (table : Table) (t : TableTarget) (p : Pos) (answers way : List Answer)
    (is : way ≡ reverse answers) (alone : hang_alone table answers ≡ true)
    (dims : (led table way).dims ≡ dims_of table.terms) where
  derived : of_derived table.terms (led table way).narrowings ≡ true
  derived = alone_derived table (everything table.terms) refl answers way is alone

  at : Hangs table.terms t (led table way)
  at = hangs table.terms t (led table way) derived (alone_some table (everything table.terms) refl answers way is alone)

  decides_same : decides_in program table t p (led table way) ≡ decides_in program table t p (everything table.terms)
  decides_same =
      ap (λ input. has_decider t.target p (deciders program table.scope input))
      (same_input program table (led table way) dims derived)

  abbrev shown : List (Option Value)
  shown = shown_input program table (led table way)

  line_is : line_in program table t p (led table way)
      ≡ line_from (decides_in program table t p (everything table.terms)) (Some at.at) shown
      (scope_outcome program table.scope shown)
  line_is =
      ap (λ b. line_from b (undecided_at table.terms t (led table way)) shown
      (scope_outcome program table.scope shown)) decides_same
      ∙ ap (λ o. line_from (decides_in program table t p (everything table.terms)) o shown
      (scope_outcome program table.scope shown)) at.is

  pub within_default : weight_of (line_in program table t p (led table way)) ≤ default_weight program table t p
  within_default =
      subst (λ o. weight_of o ≤ default_weight program table t p) (sym line_is)
      (weighs_at_most (decides_in program table t p (everything table.terms)) at.at shown
      (scope_outcome program table.scope shown))

  pub says_default : (l : DeadLine) → line_in program table t p (led table way) ≡ Some l
      → default_weight program table t p ≤ weight l
  says_default l says =
      weighs (decides_in program table t p (everything table.terms)) at.at shown
      (scope_outcome program table.scope shown) l (sym line_is ∙ says)
