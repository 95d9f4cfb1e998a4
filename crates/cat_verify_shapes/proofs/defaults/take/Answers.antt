use Rattle.std.proofs.Common.{List, ap}
use Rattle.std.proofs.lemmas.Bool.{not-true, not-false}
use Rattle.cat_verify_shapes.specs.inside.Taking.{own_frames}
use Rattle.cat_verify_shapes.specs.declared.shape.FrameShape.{FrameShape}
use Rattle.cat_verify_shapes.proofs.CountLemmas.{fewer_so, fewer_not}
use Rattle.cat_verify_shapes.proofs.DefaultSteps.{take_outside, take_nothing, take_unchecked, take_so}
use Rattle.cat_verify_shapes.proofs.defaults.take.Goals as goal

pub returns-then-own_frames-lt1 : goal.returns-then-own_frames-lt1
returns-then-own_frames-lt1 c =
    let tables = c.args.tables.now in
    let forms = c.args.forms.now in
    let p = c.args.place in
    let s = c.args.shape in
    take_outside tables forms p s c.args.other
    (fewer_so 1 c.own_frames.result (own_frames s) c.own_frames.ensures c.if-own_frames-lt1.true)

pub returns-in_default : goal.returns-in_default
returns-in_default c =
    let tables = c.args.tables.now in
    let forms = c.args.forms.now in
    let p = c.args.place in
    let s = c.args.shape in
    take_nothing tables forms p s c.args.other
    (fewer_not 1 c.own_frames.result
    (own_frames s) c.own_frames.ensures c.if-own_frames-lt1.false) c.in_default.ensures.0

pub returns-then-not-frame : goal.returns-then-not-frame
returns-then-not-frame c =
    let tables = c.args.tables.now in
    let forms = c.args.forms.now in
    let p = c.args.place in
    let s = c.args.shape in
    take_unchecked tables forms p s (record s { defaults = c.pop.new.self }) c.args.other c.in-Some.frame
    (fewer_not 1 c.own_frames.result (own_frames s) c.own_frames.ensures c.if-own_frames-lt1.false)
    (ap (λ (fs : List FrameShape). record s { defaults = fs }) c.in-Some.ensures)
    (not-true c.in-Some.frame.checked c.if-not-frame.true)

pub returns : goal.returns
returns c =
    let tables = c.args.tables.now in
    let forms = c.args.forms.now in
    let p = c.args.place in
    let s = c.args.shape in
    take_so tables forms p s (record s { defaults = c.pop.new.self }) c.in_ok-without.without c.args.other
    c.in-Some.frame c.push.new.self
    (fewer_not 1 c.own_frames.result (own_frames s) c.own_frames.ensures c.if-own_frames-lt1.false)
    (ap (λ (fs : List FrameShape). record s { defaults = fs }) c.in-Some.ensures)
    (not-false c.in-Some.frame.checked c.if-not-frame.false)
    c.in_ok-without.ensures c.in_ok-push.ensures.ok
