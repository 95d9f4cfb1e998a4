use Rattle.std.proofs.Common.{◌≡◌, ◌<◌, length, ap, sym, subst, List, ℕ}
use Rattle.std.specs.Prelude.{Err}
use Rattle.cat_value.specs.declared.decls.Decls.{Decls}
use Rattle.cat_json.specs.InputsRead.{inputs_read}
use Rattle.cat_app.specs.Modes.{reads_extra}
use Rattle.cat_app.specs.inside.AskedWords.{asked_of}
use Rattle.cat_app.proofs.Replies.{asked_for, named_within, no_array, no_extra, not_memory}
use Rattle.cat_app.proofs.scoped.read_many.Goals as goal

pub read_inputs-requires : goal.read_inputs-requires
read_inputs-requires g c =
    subst (λ (ds : Decls). c.args.scope < length ds.scopes) (sym c.decls.ensures)
    (named_within c.args.asked.scope.now c.args.scope c.args.built.program.decls.scopes c.requires.named)

pub returns-in-Err-clause-may : goal.returns-in-Err-clause-may
returns-in-Err-clause-may g c cases are =
    no_extra (asked_of cases c.args.asked) _ _ c.args.source c.args.built.program c.args.scope c.in-Err.fault
    c.in_ok-refuse_file-in-Err.field-0 c.in-Err.ensures c.in_ok-refuse_file-in-Err.ensures
    (asked_for (asked_of cases c.args.asked) _ c.args.source c.args.built c.args.scope
    c.requires.gathered c.requires.built c.requires.named) (ap reads_extra c.requires.mode)

pub returns-in_ok-refuse_input-in-Err-read_inputs-clause-may :
    goal.returns-in_ok-refuse_input-in-Err-read_inputs-clause-may
returns-in_ok-refuse_input-in-Err-read_inputs-clause-may g c cases are =
    let refusal = c.in-Err-read_inputs.refusal in
    let reply = c.in_ok-refuse_input-in-Err-read_inputs.field-0 in
    let says = c.in_ok-refuse_input-in-Err-read_inputs.ensures in
    let bytes : c.deref.result.now ≡ c.in-Ok.bytes.items = cc (c.deref.ensures.value) in
    no_array (asked_of cases c.args.asked) _ _ c.args.source c.args.built.program c.args.scope c.in-Ok.bytes.items
    refusal reply c.in-Ok.ensures.1 c.in-Ok.ensures.0
    (subst (λ (b : List ℕ). inputs_read c.args.built.program.decls c.args.scope b ≡ Err refusal) bytes
    (subst (λ (ds : Decls). inputs_read ds c.args.scope c.deref.result.now ≡ Err refusal) c.decls.ensures
    (c.in-Err-read_inputs.ensures.refused (not_memory refusal reply says)))) says
    (asked_for (asked_of cases c.args.asked) _ c.args.source c.args.built c.args.scope
    c.requires.gathered c.requires.built c.requires.named) c.requires.mode
