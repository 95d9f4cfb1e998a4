use Rattle.std.proofs.Common.{arith, sym}
use Rattle.cat_image.proofs.FeedLemmas.{cut_behind, not_cut}
use Rattle.cat_image.proofs.LineLemmas.{first_at, no_first}
use Rattle.cat_image.proofs.read.next_line.Goals as goal

pub returns-in_default-clause-cut : goal.returns-in_default-clause-cut
returns-in_default-clause-cut c =
    let all = no_first 10 c.args.bytes.now c.in_default.ensures in
    sym (not_cut 10 c.args.bytes.now (omega (arith, all)))

pub returns-clause-cut : goal.returns-clause-cut
returns-clause-cut c =
    let is = c.in-Some.ensures in
    sym (cut_behind 10 c.args.bytes.now c.in-Some.feed (first_at 10 c.args.bytes.now c.in-Some.feed is) is.0.high)
