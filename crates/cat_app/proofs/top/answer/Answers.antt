use Rattle.std.proofs.Common.{subst}
use Rattle.std.specs.Prelude.{IsSomeAnd}
use Rattle.cat_io.specs.Stored.{texts_of}
use Rattle.cat_app.specs.Words.{request_of}
use Rattle.cat_app.specs.inside.Reading.{IsRead, MayBeWritten}
use Rattle.cat_app.specs.declared.reply.ToWrite.{ToWrite}
use Rattle.cat_app.proofs.Answering.{asked_here, lines_answer}
use Rattle.cat_app.proofs.Replies.{named_within}
use Rattle.cat_app.proofs.top.answer.Goals as goal

pub put_lines-requires-clause-scope : goal.put_lines-requires-clause-scope
put_lines-requires-clause-scope g c =
    let old = g.S.Shelf.state c.args.shelf.now in
    let new = g.S.Shelf.state c.reply_of.new.shelf in
    let read : IsSomeAnd (request_of (texts_of c.args.words.now)) (λ r. IsRead r old new c.in-Lines.many) =
    subst (λ (w : ToWrite). MayBeWritten (texts_of c.args.words.now) old new w) c.in-Lines.is c.in-Ok.ensures.may in
    let here = asked_here (λ r. IsRead r old new c.in-Lines.many) (request_of (texts_of c.args.words.now)) read in
    named_within here.0.scope c.in-Lines.many.scope c.in-Lines.many.built.program.decls.scopes here.2.asked.named

pub put_lines-requires-clause-read : goal.put_lines-requires-clause-read
put_lines-requires-clause-read g c =
    let old = g.S.Shelf.state c.args.shelf.now in
    let new = g.S.Shelf.state c.reply_of.new.shelf in
    let read : IsSomeAnd (request_of (texts_of c.args.words.now)) (λ r. IsRead r old new c.in-Lines.many) =
    subst (λ (w : ToWrite). MayBeWritten (texts_of c.args.words.now) old new w) c.in-Lines.is c.in-Ok.ensures.may in
    let here = asked_here (λ r. IsRead r old new c.in-Lines.many) (request_of (texts_of c.args.words.now)) read in
    (here.2.extra, here.2.inputs)

pub returns-in-Lines-clause-answers : goal.returns-in-Lines-clause-answers
returns-in-Lines-clause-answers g c =
    lines_answer (texts_of c.args.words.now) (g.S.Shelf.state c.args.shelf.now) (g.S.Shelf.state c.reply_of.new.shelf)
    (g.K.Sink.state c.args.sink.now) (g.K.Sink.state c.put_lines.new.sink) c.put_lines.result c.in-Lines.many
    (subst (λ (w : ToWrite). MayBeWritten (texts_of c.args.words.now) (g.S.Shelf.state c.args.shelf.now)
    (g.S.Shelf.state c.reply_of.new.shelf) w) c.in-Lines.is c.in-Ok.ensures.may) c.put_lines.ensures
