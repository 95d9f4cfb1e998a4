use Rattle.std.proofs.Common.{◌∙◌, refl, sym, arith}
use Rattle.cat_cert.proofs.FeedLemmas.{none_at}
use Rattle.cat_dead.proofs.TextLemmas.{line_is}
use Rattle.cat_dead.proofs.reading.line_from.Goals as goal

pub returns-then-end-bytes : goal.returns-then-end-bytes
returns-then-end-bytes c =
    none_at c.args.bytes.now c.args.start (sym c.if-end-bytes.true ∙ c.feed_from-end.ensures.feed)

pub returns : goal.returns
returns c =
    let bytes = c.args.bytes.now in
    let end = c.feed_from-end.result in
    let other = c.if-end-bytes.false in
    let most = c.feed_from-end.ensures.within in
    line_is bytes c.args.start end c.feed_from-end.ensures.feed (omega (arith, other, most))
    (c.feed_from-end.ensures.stands (omega (arith, other, most))) _ refl
