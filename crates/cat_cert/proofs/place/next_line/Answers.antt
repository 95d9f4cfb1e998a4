use Rattle.std.proofs.Common.{◌∙◌, sym, arith}
use Rattle.cat_cert.proofs.FeedLemmas.{line_at, none_at}
use Rattle.cat_cert.proofs.place.next_line.Goals as goal

pub returns-then-end-bytes-clause-next : goal.returns-then-end-bytes-clause-next
returns-then-end-bytes-clause-next c =
    none_at c.args.bytes.now c.args.place.now.at (sym c.if-end-bytes.true ∙ c.feed_from-end.ensures.feed)

pub returns-clause-next : goal.returns-clause-next
returns-clause-next c =
    let bytes = c.args.bytes.now in
    let start = c.args.place.now.at in
    let end = c.feed_from-end.result in
    let at = line_at bytes start end c.feed_from-end.ensures.feed
    (let other = c.if-end-bytes.false in let most = c.feed_from-end.ensures.within in omega (arith, other, most)) in
    (at.ended, at.rest, omega arith)
