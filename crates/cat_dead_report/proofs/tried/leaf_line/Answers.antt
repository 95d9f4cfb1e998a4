use Rattle.std.proofs.Common.{◌≡◌, ◌∙◌, ◌∷◌, ℕ, [], true, List, Option, Some, slice_get, sym, ap, subst}
use Rattle.std.proofs.lemmas.Option.{slice_get_within}
use Rattle.cat_value.specs.declared.decls.Decls.{Decls}
use Rattle.cat_value.specs.declared.value.Value.{Value}
use Rattle.cat_value.specs.Inputs.{IsWellTyped}
use Rattle.cat_region.specs.Chosen.{point_at}
use Rattle.cat_scope.specs.Names.{scope_items}
use Rattle.cat_scope.specs.Outcomes.{deciders, scope_outcome}
use Rattle.cat_guard.specs.declared.table.TableTarget.{TableTarget}
use Rattle.cat_machine.specs.declared.log.LogEntry.{LogEntry}
use Rattle.cat_machine.specs.States.{decided}
use Rattle.cat_machine.proofs.Exported.{comes_to, is_given}
use Rattle.cat_audit_sound.specs.PointInputs.{input_at}
use Rattle.cat_audit_sound.proofs.Exported.{all_at}
use Rattle.cat_audit.specs.Findings.{undecided_at, shown_input}
use Rattle.cat_cert.proofs.Lists.{some_at}
use Rattle.cat_dead.specs.Winners.{winner_in}
use Rattle.cat_dead_report.specs.Deciders.{has_decider}
use Rattle.cat_dead_report.specs.RunLines.{decides_in}
use Rattle.cat_dead_report.specs.inside.Faultless.{IsFaultless}
use Rattle.cat_audit.proofs.FindingLemmas.{is_free}
use Rattle.cat_dead_report.proofs.RunLemmas.{line_said, logged, some_outcome, sure_parts}
use Rattle.cat_dead_report.proofs.tried.leaf_line.Goals as goal

pub input_of-requires-clause-scope : goal.input_of-requires-clause-scope
input_of-requires-clause-scope c =
    let here = c.args.here.now in
    slice_get_within c.decls.result.now.scopes here.table.now.scope c.requires.scene.tabled.0
    (ap (λ (ds : Decls). slice_get ds.scopes here.table.now.scope) c.decls.ensures ∙ c.requires.scene.tabled.2)

pub input_of-requires-clause-dims : goal.input_of-requires-clause-dims
input_of-requires-clause-dims c = c.requires.won.dims

pub input_of-requires-clause-inhabited : goal.input_of-requires-clause-inhabited
input_of-requires-clause-inhabited c = c.requires.won.inhabited

pub run_logged-requires : goal.run_logged-requires
run_logged-requires c =
    let here = c.args.here.now in
    is_given here.program.now here.code.now c.requires.scene.code here.table.now.scope c.in_ok-input.input
    (subst (λ (ds : Decls). IsWellTyped ds here.table.now.scope c.in_ok-input.input) c.decls.ensures
    c.in_ok-input.ensures.typed)

pub undecided_at-at-requires : goal.undecided_at-at-requires
undecided_at-at-requires c =
    let here = c.args.here.now in
    slice_get_within here.table.now.targets here.number here.target.now c.requires.scene.target

-- it is known without a run
pub returns-then-is_sure : goal.returns-then-is_sure
returns-then-is_sure c =
    let here = c.args.here.now in
    let program = here.program.now in
    let table = here.table.now in
    let t = here.target.now in
    let p = c.args.pos in
    let region = c.args.region in
    let won = c.requires.won in
    let input = c.in_ok-input.input in
    let at = c.undecided_at-at.result in
    let typed = subst (λ (ds : Decls). IsWellTyped ds table.scope input) c.decls.ensures c.in_ok-input.ensures.typed in
    let shown : input ≡ shown_input program table region = c.in_ok-input.ensures.value
    ∙ ap (λ (ds : Decls). input_at ds table (point_at region)) c.decls.ensures in
    let hangs = some_at (slice_get table.targets here.number) t
    (λ (u : TableTarget). at ≡ undecided_at table.terms u region) c.requires.scene.target c.undecided_at-at.ensures in
    let sure = sure_parts here.faultless at (sym c.is_sure.ensures ∙ c.if-is_sure.true) in
    let faultless = c.requires.scene.faultless sure.0 in
    let free = is_free table.terms t region won.region_is won.dims (sym hangs ∙ sure.1) in
    let decides = all_at (λ (u : TableTarget). (index : ℕ) → IsFaultless program table.scope index u
    → winner_in table.atoms u region ≡ p ∷ [] → decides_in program table u p region ≡ true) table.targets here.number t
    (c.winners_of_faultless_targets_decide.ensures region p won.region_is won.dims won.inhabited free.1)
    c.requires.scene.target faultless.0 faultless.1 won.wins in
    let comes = some_outcome program.decls (scope_items program.decls table.scope)
    (scope_outcome program table.scope input) (c.programs_go_on.ensures table.scope input typed) in
    line_said program table t p region true at input comes.0 shown
    (sym (ap (λ (i : List (Option Value)). has_decider t.target p (deciders program table.scope i)) shown ∙ decides))
    hangs comes.1

pub returns : goal.returns
returns c =
    let here = c.args.here.now in
    let program = here.program.now in
    let table = here.table.now in
    let t = here.target.now in
    let region = c.args.region in
    let input = c.in_ok-input.input in
    let outcome = c.in_ok-outcome.outcome in
    let log = c.in_ok-outcome.log in
    let typed = subst (λ (ds : Decls). IsWellTyped ds table.scope input) c.decls.ensures c.in_ok-input.ensures.typed in
    let shown : input ≡ shown_input program table region = c.in_ok-input.ensures.value
    ∙ ap (λ (ds : Decls). input_at ds table (point_at region)) c.decls.ensures in
    let comes : scope_outcome program table.scope input ≡ Some outcome =
    comes_to program here.code.now c.requires.scene.code table.scope input typed outcome
    c.in_ok-outcome.ensures.outcome in
    let decides = c.has_decider-decides.ensures
    ∙ ap (λ (entries : List LogEntry). has_decider t.target c.args.pos (decided here.code.now.tables entries))
    c.as_slice.ensures
    ∙ logged program here.code.now c.requires.scene.code table.scope input typed t.target c.args.pos log
    c.in_ok-outcome.ensures.log in
    let hangs = some_at (slice_get table.targets here.number) t
    (λ (u : TableTarget). c.undecided_at-at.result ≡ undecided_at table.terms u region) c.requires.scene.target
    c.undecided_at-at.ensures in
    line_said program table t c.args.pos region c.has_decider-decides.result c.undecided_at-at.result input outcome
    shown decides hangs comes ∙ ap Some (sym c.line_by.ensures)
