use Rattle.std.proofs.Common.{◌≡◌, ◌∙◌, refl, sym, ap, false, arith}
use Rattle.cat_cert.specs.Texts.{is_first, passed_over, lines_read}
use Rattle.cat_cert.specs.inside.Outcomes.{lines_at}
use Rattle.cat_cert.proofs.FeedLemmas.{pass_line}
use Rattle.cat_cert.proofs.place.first_place.Goals as goal

pub loop-line-preserved : goal.loop-line-preserved
loop-line-preserved c =
    let bytes = c.args.bytes.now in
    let next = c.in-Some.ensures.next in
    let known = c.loop-line.invariant in
    let other : is_first c.in-Some.line.now ≡ false = sym c.begins.ensures ∙ c.if-begins.false in
    let pass = pass_line c.in-Some.line.now (lines_at bytes c.next_line.new.place) other in
    let count = ap passed_over next.0 in
    let before = known.passed in
    let one = next.2 in
    let more = pass.1 in
    record {
      same = refl;
      within = c.in-Some.ensures.within;
      lines = sym (ap lines_read next.0 ∙ pass.0) ∙ known.lines;
      passed = omega (arith, count, before, one, more);
      rest = sym next.1 ∙ known.rest;
    }
