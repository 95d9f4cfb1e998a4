use Rattle.std.proofs.Common.{rules, ◌≡◌, ◌∷◌, [], ◌++◌, ◌+◌, ◌≤◌, ◌∙◌, List, ℕ, Some, take, length, slice_get, refl}
use Rattle.std.proofs.Common.{sym, ap}
use Rattle.std.proofs.Common.{subst, arith}
use Rattle.std.proofs.lemmas.List.{take_all}
use Rattle.std.proofs.lemmas.Option.{slice_get_read, slice_get_within}
use Rattle.cat_guard.specs.declared.table.TableTarget.{TableTarget}
use Rattle.cat_audit_sound.proofs.Exported.{all_at}
use Rattle.cat_dead_report.specs.DeadReports.{AreDeadLines}
use Rattle.cat_dead_report.specs.inside.Faultless.{IsCoveredByEach, IsFaultless, IsReached}
use Rattle.cat_dead_report.proofs.ReachedScopes.{reached_first}
use Rattle.cat_dead_report.proofs.WritingLemmas.{dead_more, take_next}
use Rattle.cat_dead_report.proofs.report.report_lines.Goals as goal

pub loop-number-preserved : goal.loop-number-preserved
loop-number-preserved c =
    let program = c.args.program.now in
    let table = c.args.table.now in
    let budget = c.args.budget in
    let items = c.as_slice-target-items.result.now in
    let l = c.loop-number in
    let i = l.number in
    let t = c.target-item.result in
    let f = c.in_ok-found.found in
    let at : slice_get table.targets i ≡ Some t =
    ap (λ (ts : List TableTarget). slice_get ts i) (sym c.as_slice-target-items.ensures)
    ∙ slice_get_read items (length items) i t refl c.loop-number-test.true c.target-item.is in
    record {
      lines = subst (λ (ts : List TableTarget). AreDeadLines program table budget ts c.push.new.self)
          (sym (take_next table.targets i t at))
          (subst (AreDeadLines program table budget (take i table.targets ++ t ∷ [])) (sym c.in_ok-push.ensures.ok)
          (dead_more program table budget (take i table.targets) l.lines l.invariant.lines t f
          c.in_ok-found.ensures.said));
      whole = c.in_ok-found.ensures.back ∙ l.invariant.whole;
      front = c.past_target-front.ensures;
    }

pub loop-number-init : goal.loop-number-init
loop-number-init c = record {
  lines = search rules;
  whole = search rules;
  front = reached_first c.args.program.now c.args.table.now.scope;
}

pub past_given-front-requires-clause-scopes : goal.past_given-front-requires-clause-scopes
past_given-front-requires-clause-scopes c =
    slice_get_within c.args.program.now.decls.scopes c.args.table.now.scope c.requires.tabled.0 c.requires.tabled.2

pub past_given-front-requires-clause-bodies : goal.past_given-front-requires-clause-bodies
past_given-front-requires-clause-bodies c =
    slice_get_within c.args.program.now.bodies c.args.table.now.scope c.requires.tabled.1 c.requires.tabled.3

pub past_given-front-requires-clause-reached : goal.past_given-front-requires-clause-reached
past_given-front-requires-clause-reached c = c.loop-number.invariant.front

pub is_faultless-faultless-requires-clause-reached : goal.is_faultless-faultless-requires-clause-reached
is_faultless-faultless-requires-clause-reached c = c.past_given-front.ensures

pub past_target-front-requires-clause-bodies : goal.past_target-front-requires-clause-bodies
past_target-front-requires-clause-bodies c =
    slice_get_within c.args.program.now.bodies c.args.table.now.scope c.requires.tabled.1 c.requires.tabled.3

pub past_target-front-requires-clause-reached : goal.past_target-front-requires-clause-reached
past_target-front-requires-clause-reached c = c.past_given-front.ensures

pub past_target-front-requires-clause-passed : goal.past_target-front-requires-clause-passed
past_target-front-requires-clause-passed c faultless covered =
    let program = c.args.program.now in
    let table = c.args.table.now in
    let items = c.as_slice-target-items.result.now in
    let i = c.loop-number.number in
    let t = c.target-item.result in
    let front = c.past_given-front.result in
    let at : slice_get table.targets i ≡ Some t =
    ap (λ (ts : List TableTarget). slice_get ts i) (sym c.as_slice-target-items.ensures)
    ∙ slice_get_read items (length items) i t refl c.loop-number-test.true c.target-item.is in
    all_at (λ (u : TableTarget). IsFaultless program table.scope front u → IsCoveredByEach table u
    → IsReached program table.scope (front + 1)) table.targets i t
    (c.runs_go_on_behind_covered_targets.ensures front) at
    (c.is_faultless-faultless.ensures faultless) (c.in_ok-found.ensures.covered covered)

pub target_lines-requires-clause-scene : goal.target_lines-requires-clause-scene
target_lines-requires-clause-scene c =
    let table = c.args.table.now in
    let items = c.as_slice-target-items.result.now in
    let i = c.loop-number.number in
    let t = c.target-item.result in
    let at : slice_get table.targets i ≡ Some t =
    ap (λ (ts : List TableTarget). slice_get ts i) (sym c.as_slice-target-items.ensures)
    ∙ slice_get_read items (length items) i t refl c.loop-number-test.true c.target-item.is in
    let same : c.in-Ok.number ≡ i = search rules in
    record {
      tabled = c.requires.tabled;
      code = c.requires.code;
      target = ap (λ (k : ℕ). slice_get table.targets k) same ∙ at;
      faultless = λ is. (c.past_given-front.result, c.is_faultless-faultless.ensures is);
    }

pub is_faultless-faultless-requires-clause-scopes : goal.is_faultless-faultless-requires-clause-scopes
is_faultless-faultless-requires-clause-scopes c =
    slice_get_within c.args.program.now.decls.scopes c.args.table.now.scope c.requires.tabled.0 c.requires.tabled.2

pub is_faultless-faultless-requires-clause-bodies : goal.is_faultless-faultless-requires-clause-bodies
is_faultless-faultless-requires-clause-bodies c =
    slice_get_within c.args.program.now.bodies c.args.table.now.scope c.requires.tabled.1 c.requires.tabled.3

pub returns : goal.returns
returns c =
    let table = c.args.table.now in
    let l = c.loop-number in
    let all = ap length c.as_slice-target-items.ensures in
    let past : length table.targets ≤ l.number = omega (arith, all, c.loop-number-test.false) in
    subst (λ (ts : List TableTarget). AreDeadLines c.args.program.now table c.args.budget ts l.lines)
    (take_all l.number table.targets past) l.invariant.lines
