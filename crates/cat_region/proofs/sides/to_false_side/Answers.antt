use Rattle.std.proofs.Common.{◌∙◌, ◌+◌, ap, arith, false, if◌then◌else◌}
use Rattle.cat_region.specs.Regions.{narrowed_to}
use Rattle.cat_region.specs.Sides.{true_sides}
use Rattle.cat_region.proofs.SideLemmas.{passes_back, turns_over, no_turn, sides_more}
use Rattle.cat_region.proofs.sides.to_false_side.Goals as goal

pub returns-then-yes-clause-turns : goal.returns-then-yes-clause-turns
returns-then-yes-clause-turns c = λ base path whole at.
    turns_over base path c.undone.new.region (c.in-Some.dim, c.in-Some.cut, c.in-Some.yes) c.loop-dim.region
    c.narrow.new.self (c.loop-dim.invariant.back base path whole at)
    (λ left here. c.in-Some.ensures.undone base left whole here) c.if-yes.true c.narrow.ensures.dims
    c.narrow.ensures.narrowings c.narrow.ensures.room

pub returns-then-yes-clause-fewer : goal.returns-then-yes-clause-fewer
returns-then-yes-clause-fewer c so =
    let before = c.loop-dim.invariant.sides in
    let less = c.in-Some.ensures.sides
    ∙ ap (λ b. true_sides c.undone.new.region.narrowings + (if b then 1 else 0)) c.if-yes.true in
    let now = ap true_sides c.narrow.ensures.narrowings
    ∙ sides_more c.undone.new.region.narrowings (narrowed_to c.in-Some.dim c.in-Some.cut false) in
    omega (arith, before, less, now)

pub loop-dim-preserved : goal.loop-dim-preserved
loop-dim-preserved c = record {
  back = λ base path whole at. passes_back base path c.undone.new.region
      (c.in-Some.dim, c.in-Some.cut, c.in-Some.yes) c.loop-dim.region (c.loop-dim.invariant.back base path whole at)
      (λ left here. c.in-Some.ensures.undone base left whole here) c.if-yes.false;
  dims = c.in-Some.ensures.dims ∙ c.loop-dim.invariant.dims;
  sides = let before = c.loop-dim.invariant.sides in
      let same = c.in-Some.ensures.sides
      ∙ ap (λ b. true_sides c.undone.new.region.narrowings + (if b then 1 else 0)) c.if-yes.false in
      omega (arith, before, same);
}

pub returns-clause-turns : goal.returns-clause-turns
returns-clause-turns c = λ base path whole at.
    no_turn base path c.undone.new.region c.loop-dim.region (c.loop-dim.invariant.back base path whole at)
    (λ left here. c.in_default.ensures.undone base left whole here)
