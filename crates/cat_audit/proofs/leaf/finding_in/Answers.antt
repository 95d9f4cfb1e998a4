use Rattle.std.proofs.Common.{◌≡◌, Some, slice_get, sym, ap, ◌∙◌, subst, IsTrue}
use Rattle.cat_value.proofs.Exported.{found}
use Rattle.cat_value.specs.declared.decls.Decls.{Decls}
use Rattle.cat_value.specs.Inputs.{IsWellTyped}
use Rattle.cat_machine.proofs.Exported.{comes_to, is_given}
use Rattle.cat_region.specs.Chosen.{point_at}
use Rattle.cat_scope.specs.Outcomes.{scope_outcome}
use Rattle.cat_guard.specs.Judged.{judged_in}
use Rattle.cat_guard.specs.Judgements.{is_bad}
use Rattle.cat_audit_sound.specs.PointInputs.{input_at}
use Rattle.cat_audit_sound.specs.Failing.{HasNoValue}
use Rattle.cat_audit.specs.Findings.{undecided_at, shown_input}
use Rattle.cat_audit.proofs.FindingLemmas.{finding_is, says, is_free}
use Rattle.cat_sound.proofs.Exported.{all_at}
use Rattle.cat_audit.proofs.TargetThere.{at_some, if_some}
use Rattle.cat_audit.proofs.leaf.finding_in.Goals as goal

pub execute_clean-requires : goal.execute_clean-requires
execute_clean-requires c =
    is_given c.args.program.now c.args.code.now c.requires.code c.args.table.now.scope c.in_ok-input.input
    (subst (λ (ds : Decls). IsWellTyped ds c.args.table.now.scope c.in_ok-input.input) c.decls.ensures
    c.in_ok-input.ensures.typed)

pub finding_of-requires : goal.finding_of-requires
finding_of-requires c =
    let program = c.args.program.now in
    let table = c.args.table.now in
    let region = c.args.region in
    let input = c.in_ok-input.input in
    let one = found table.targets c.args.target c.requires.target in
    let hangs = at_some (λ t. c.undecided_at-at.result ≡ undecided_at table.terms t region)
    (slice_get table.targets c.args.target) one.0 one.1 c.undecided_at-at.ensures in
    let bad = at_some (λ t. IsTrue (is_bad t.may_be_empty (judged_in table.atoms region t)))
    (slice_get table.targets c.args.target) one.0 one.1 c.requires.bad in
    let typed = subst (λ (ds : Decls). IsWellTyped ds table.scope input) c.decls.ensures c.in_ok-input.ensures.typed in
    let shown : input ≡ shown_input program table region = c.in_ok-input.ensures.value
    ∙ ap (λ (ds : Decls). input_at ds table (point_at region)) c.decls.ensures in
    let comes : scope_outcome program table.scope (shown_input program table region) ≡ Some c.in_ok-outcome.outcome =
    ap (scope_outcome program table.scope) (sym shown)
    ∙ comes_to program c.args.code.now c.requires.code table.scope input typed c.in_ok-outcome.outcome
    c.in_ok-outcome.ensures.outcome in
    says c.undecided_at-at.result input c.in_ok-outcome.outcome (λ none.
    let free = is_free table.terms one.0 region c.regions_are_sound.ensures c.requires.dims (sym hangs ∙ none) in
    subst HasNoValue comes (all_at _ table.targets c.args.target one.0
    (c.bad_regions_of_free_terms_fail.ensures.points table.scope region c.requires.tabled c.regions_are_sound.ensures
    c.requires.dims free.1 c.requires.inhabited) one.1 free.0 bad))

pub returns : goal.returns
returns c =
    let program = c.args.program.now in
    let table = c.args.table.now in
    let region = c.args.region in
    let input = c.in_ok-input.input in
    let typed = subst (λ (ds : Decls). IsWellTyped ds table.scope input) c.decls.ensures c.in_ok-input.ensures.typed in
    let shown : input ≡ shown_input program table region = c.in_ok-input.ensures.value
    ∙ ap (λ (ds : Decls). input_at ds table (point_at region)) c.decls.ensures in
    let comes : scope_outcome program table.scope input ≡ Some c.in_ok-outcome.outcome =
    comes_to program c.args.code.now c.requires.code table.scope input typed c.in_ok-outcome.outcome
    c.in_ok-outcome.ensures.outcome in
    if_some (slice_get table.targets c.args.target) (λ t is.
    finding_is program table t region c.undecided_at-at.result input c.in_ok-outcome.outcome
    (at_some (λ t. c.undecided_at-at.result ≡ undecided_at table.terms t region)
    (slice_get table.targets c.args.target) t is c.undecided_at-at.ensures) shown comes ∙ c.finding_of.ensures)
