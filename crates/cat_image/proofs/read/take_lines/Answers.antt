use Rattle.std.proofs.Common.{◌≡◌, ◌∙◌, ◌+◌, subst, sym, ap, arith, Bool, length}
use Rattle.std.specs.Prelude.{Result}
use Rattle.cat_image.specs.declared.refusal.ImageRefusal.{ImageRefusal}
use Rattle.cat_image.specs.declared.reading.Reading.{Reading}
use Rattle.cat_image.specs.inside.Reading.{Takes}
use Rattle.cat_image.specs.inside.Endings.{taken, EndsSo}
use Rattle.cat_image.proofs.EndingLemmas.{taken_on, bad_line, at_end}
use Rattle.cat_image.proofs.read.take_lines.Goals as goal

pub loop-line-smaller : goal.loop-line-smaller
loop-line-smaller c = c.in-Some.ensures.shorter

pub loop-line-preserved : goal.loop-line-preserved
loop-line-preserved c =
    let l = c.loop-line in
    let count = l.invariant.counted in
    let less = c.in-Some.ensures.shorter in
    record {
      ends = taken_on l.rest.now (c.in-Some.line.now, c.in-Some.more.now) l.reading c.take_line.new.reading l.number
          c.in-Some.ensures.cut
          (subst (λ (took : Bool). Takes
          (taken l.reading c.in-Some.line.now) took c.take_line.new.reading) c.if-not-taken.false
          c.in_ok-taken.ensures)
          ∙ l.invariant.ends;
      counted = omega (arith, count, less);
    }

pub returns-then-not-taken : goal.returns-then-not-taken
returns-then-not-taken c =
    let l = c.loop-line in
    sym l.invariant.ends
    ∙ bad_line l.rest.now (c.in-Some.line.now, c.in-Some.more.now) l.reading c.take_line.new.reading l.number
    c.in-Some.ensures.cut
    (subst (λ (took : Bool). Takes
    (taken l.reading c.in-Some.line.now) took c.take_line.new.reading) c.if-not-taken.true
    c.in_ok-taken.ensures)

pub returns : goal.returns
returns c =
    let l = c.loop-line in
    subst (λ (e : Result Reading ImageRefusal). EndsSo e c.ended.result)
    (sym (at_end l.rest.now l.reading l.number c.in_default.ensures.cut) ∙ l.invariant.ends) c.ended.ensures
