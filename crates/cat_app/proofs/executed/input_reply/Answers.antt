use Rattle.std.proofs.Common.{◌≡◌, ◌<◌, List, ℕ, length, subst, sym}
use Rattle.std.specs.Prelude.{Ok, Err}
use Rattle.cat_value.specs.declared.decls.Decls.{Decls}
use Rattle.cat_json.specs.InputsRead.{input_read}
use Rattle.cat_app.specs.inside.AskedWords.{listing_asked}
use Rattle.cat_app.proofs.Replies.{if_ok, named_within, not_memory}
use Rattle.cat_app.proofs.ExecReplies.{an_execution, no_extra, no_input}
use Rattle.cat_app.proofs.executed.input_reply.Goals as goal

pub returns-in-Err-clause-may : goal.returns-in-Err-clause-may
returns-in-Err-clause-may g c =
    if_ok c.refuse_file.result c.refuse_file.ensures (λ reply says.
    no_extra (listing_asked c.args.asked) _ _ reply c.args.verified.now.code c.args.verified.now.files c.args.scope
    c.in-Err.fault c.requires c.in-Err.ensures says)

pub read_input-requires : goal.read_input-requires
read_input-requires g c =
    subst (λ (ds : Decls). c.args.scope < length ds.scopes) (sym c.decls.ensures)
    (named_within c.args.asked.scope.now c.args.scope c.args.verified.now.code.tables.decls.scopes c.requires.named)

pub executed-requires-clause-scope : goal.executed-requires-clause-scope
executed-requires-clause-scope g c =
    named_within c.args.asked.scope.now c.args.scope c.args.verified.now.code.tables.decls.scopes c.requires.named

pub returns-in-Ok-read_input-clause-may : goal.returns-in-Ok-read_input-clause-may
returns-in-Ok-read_input-clause-may g c =
    let ds = c.args.verified.now.code.tables.decls in
    let bytes : c.deref.result.now ≡ c.in-Ok.bytes.items = cc (c.deref.ensures.value) in
    if_ok c.executed.result c.executed.ensures (λ reply says.
    an_execution (listing_asked c.args.asked) _ _ reply c.args.verified.now.code c.args.verified.now.files c.args.scope
    c.in-Ok.bytes.items c.in-Ok-read_input.input c.requires c.in-Ok.ensures.1 c.in-Ok.ensures.0
    (subst (λ (b : List ℕ). input_read ds c.args.scope b ≡ Ok c.in-Ok-read_input.input) bytes
    (subst (λ (x : Decls). input_read x c.args.scope c.deref.result.now ≡ Ok c.in-Ok-read_input.input)
    c.decls.ensures c.in-Ok-read_input.ensures.read)) says)

pub returns-clause-may : goal.returns-clause-may
returns-clause-may g c =
    let ds = c.args.verified.now.code.tables.decls in
    let bytes : c.deref.result.now ≡ c.in-Ok.bytes.items = cc (c.deref.ensures.value) in
    if_ok c.refuse_input.result c.refuse_input.ensures (λ reply says.
    no_input (listing_asked c.args.asked) _ _ reply c.args.verified.now.code c.args.verified.now.files c.args.scope
    c.in-Ok.bytes.items c.in-Err-read_input.refusal c.requires c.in-Ok.ensures.1 c.in-Ok.ensures.0
    (subst (λ (b : List ℕ). input_read ds c.args.scope b ≡ Err c.in-Err-read_input.refusal) bytes
    (subst (λ (x : Decls). input_read x c.args.scope c.deref.result.now ≡ Err c.in-Err-read_input.refusal)
    c.decls.ensures (c.in-Err-read_input.ensures.refused
    (not_memory c.in-Err-read_input.refusal reply says)))) says)
