use Rattle.std.proofs.Common.{◌≡◌, ◌∙◌, sym, true≢false}
use Rattle.cat_image.proofs.EndingLemmas.{ended_none, ended_rest, ended_whole}
use Rattle.cat_image.proofs.read.ended.Goals as goal

pub returns-then-is_empty : goal.returns-then-is_empty
returns-then-is_empty c =
    ended_none c.args.reading c.args.reading.instructions c.args.rest.now (c.is_empty.ensures.0 c.if-is_empty.true)

pub returns-then-not-is_empty : goal.returns-then-not-is_empty
returns-then-not-is_empty c =
    ended_rest c.args.reading c.args.reading.instructions c.args.rest.now
    (sym c.is_empty-2.ensures ∙ c.if-not-is_empty.true)

pub returns : goal.returns
returns c =
    ended_whole c.args.reading c.args.reading.instructions c.args.rest.now
    (λ none. true≢false (sym (c.is_empty.ensures.1 none) ∙ c.if-is_empty.false))
    (sym c.is_empty-2.ensures ∙ c.if-not-is_empty.false)
