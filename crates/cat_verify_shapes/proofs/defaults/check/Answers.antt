use Rattle.std.proofs.Common.{List, ap, length}
use Rattle.cat_verify_shapes.specs.inside.Taking.{own_frames}
use Rattle.cat_verify_shapes.specs.declared.shape.FrameShape.{FrameShape}
use Rattle.cat_verify_shapes.proofs.CountLemmas.{past_all, within_all, fewer_so, fewer_not}
use Rattle.cat_verify_shapes.proofs.DefaultSteps.{check_nowhere, check_outside, check_nothing, check_so}
use Rattle.cat_verify_shapes.proofs.defaults.check.Goals as goal

pub returns-then-target-len : goal.returns-then-target-len
returns-then-target-len c =
    let tables = c.args.tables.now in
    let forms = c.args.forms.now in
    let p = c.args.place in
    let s = c.args.shape in
    check_nowhere tables forms p s c.args.target
    (past_all c.args.target c.len.result (length tables.targets) c.len.ensures
    c.if-target-len.true)

pub returns-then-own_frames-lt1 : goal.returns-then-own_frames-lt1
returns-then-own_frames-lt1 c =
    let tables = c.args.tables.now in
    let forms = c.args.forms.now in
    let p = c.args.place in
    let s = c.args.shape in
    check_outside tables forms p s c.args.target
    (within_all c.args.target c.len.result (length tables.targets) c.len.ensures
    c.if-target-len.false)
    (fewer_so 1 c.own_frames.result (own_frames s) c.own_frames.ensures c.if-own_frames-lt1.true)

pub returns-in_default : goal.returns-in_default
returns-in_default c =
    let tables = c.args.tables.now in
    let forms = c.args.forms.now in
    let p = c.args.place in
    let s = c.args.shape in
    check_nothing tables forms p s c.args.target
    (within_all c.args.target c.len.result (length tables.targets) c.len.ensures
    c.if-target-len.false)
    (fewer_not 1 c.own_frames.result
    (own_frames s) c.own_frames.ensures c.if-own_frames-lt1.false) c.in_default.ensures.0

pub returns : goal.returns
returns c =
    let tables = c.args.tables.now in
    let forms = c.args.forms.now in
    let p = c.args.place in
    let s = c.args.shape in
    check_so tables forms p s (record s { defaults = c.pop.new.self }) c.args.target c.in-Some.frame
    c.in_ok-with_frame.field-0
    (within_all c.args.target c.len.result (length tables.targets) c.len.ensures
    c.if-target-len.false)
    (fewer_not 1 c.own_frames.result (own_frames s) c.own_frames.ensures c.if-own_frames-lt1.false)
    (ap (λ (fs : List FrameShape). record s { defaults = fs }) c.in-Some.ensures) c.in_ok-with_frame.ensures
