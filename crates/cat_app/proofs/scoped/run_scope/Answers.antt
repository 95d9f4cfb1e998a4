use Rattle.std.proofs.Common.{◌≡◌, ◌<◌, length, sym, subst, List, ℕ}
use Rattle.std.specs.Prelude.{Ok, Err}
use Rattle.cat_value.specs.declared.decls.Decls.{Decls}
use Rattle.cat_json.specs.InputsRead.{input_read}
use Rattle.cat_app.specs.inside.AskedWords.{asked_of}
use Rattle.cat_app.proofs.Replies.{if_ok, asked_for, no_extra, no_input, not_memory, an_outcome, named_within}
use Rattle.cat_app.proofs.Replies.{run_reads}
use Rattle.cat_app.proofs.scoped.run_scope.Goals as goal

pub returns-in-Err-clause-may : goal.returns-in-Err-clause-may
returns-in-Err-clause-may g c =
    if_ok c.refuse_file.result c.refuse_file.ensures (λ reply says cases most.
    no_extra (asked_of cases c.args.asked) _ _ c.args.source.now c.args.built.now.program c.args.scope
    c.in-Err.fault reply c.in-Err.ensures says
    (asked_for (asked_of cases c.args.asked) _ c.args.source.now c.args.built.now c.args.scope
    c.requires.gathered c.requires.built c.requires.named) (run_reads c.args.asked.mode c.requires.mode))

pub read_input-requires : goal.read_input-requires
read_input-requires g c =
    subst (λ (ds : Decls). c.args.scope < length ds.scopes) (sym c.decls.ensures)
    (named_within c.args.asked.scope.now c.args.scope c.args.built.now.program.decls.scopes c.requires.named)

pub ran-requires-clause-scope : goal.ran-requires-clause-scope
ran-requires-clause-scope g c =
    named_within c.args.asked.scope.now c.args.scope c.args.built.now.program.decls.scopes c.requires.named

pub returns-in-Ok-read_input-clause-may : goal.returns-in-Ok-read_input-clause-may
returns-in-Ok-read_input-clause-may g c =
    let bytes : c.deref.result.now ≡ c.in-Ok.bytes.items = cc (c.deref.ensures.value) in
    let known : input_read c.args.built.now.program.decls c.args.scope c.in-Ok.bytes.items
    ≡ Ok c.in-Ok-read_input.input =
    subst (λ (b : List ℕ). input_read c.args.built.now.program.decls c.args.scope b ≡ Ok c.in-Ok-read_input.input) bytes
    (subst (λ (ds : Decls). input_read ds c.args.scope c.deref.result.now ≡ Ok c.in-Ok-read_input.input)
    c.decls.ensures c.in-Ok-read_input.ensures.read) in
    if_ok c.ran.result c.ran.ensures (λ reply says cases most.
    an_outcome (asked_of cases c.args.asked) _ _ c.args.source.now c.args.built.now.program c.args.scope
    c.in-Ok.bytes.items c.in-Ok-read_input.input reply c.in-Ok.ensures.1 c.in-Ok.ensures.0 known says
    (asked_for (asked_of cases c.args.asked) _ c.args.source.now c.args.built.now c.args.scope
    c.requires.gathered c.requires.built c.requires.named) c.requires.mode)

pub returns-clause-may : goal.returns-clause-may
returns-clause-may g c =
    let bytes : c.deref.result.now ≡ c.in-Ok.bytes.items = cc (c.deref.ensures.value) in
    if_ok c.refuse_input.result c.refuse_input.ensures (λ reply says cases most.
    no_input (asked_of cases c.args.asked) _ _ c.args.source.now c.args.built.now.program c.args.scope
    c.in-Ok.bytes.items
    c.in-Err-read_input.refusal reply c.in-Ok.ensures.1 c.in-Ok.ensures.0
    (subst (λ (b : List ℕ). input_read c.args.built.now.program.decls c.args.scope b ≡ Err c.in-Err-read_input.refusal)
    bytes (subst (λ (ds : Decls). input_read ds c.args.scope c.deref.result.now ≡ Err c.in-Err-read_input.refusal)
    c.decls.ensures (c.in-Err-read_input.ensures.refused
    (not_memory c.in-Err-read_input.refusal reply says)))) says
    (asked_for (asked_of cases c.args.asked) _ c.args.source.now c.args.built.now c.args.scope
    c.requires.gathered c.requires.built c.requires.named) c.requires.mode)
