use Rattle.std.proofs.Common.{List, ap, length, true, false}
use Rattle.cat_verify_shapes.specs.inside.Taking.{own_frames}
use Rattle.cat_verify_shapes.specs.declared.shape.FrameShape.{FrameShape}
use Rattle.cat_verify_shapes.proofs.StepLemmas.{takes_as}
use Rattle.cat_verify_shapes.proofs.CountLemmas.{past_all, within_all, fewer_so, fewer_not}
use Rattle.cat_verify_shapes.proofs.DefaultSteps.{hold_nowhere, hold_outside, hold_nothing, hold_unlike, hold_so}
use Rattle.cat_verify_shapes.proofs.defaults.hold.Goals as goal

pub returns-then-definition-len : goal.returns-then-definition-len
returns-then-definition-len c =
    let tables = c.args.tables.now in
    let forms = c.args.forms.now in
    let p = c.args.place in
    let s = c.args.shape in
    hold_nowhere tables forms p s c.args.definition
    (past_all c.args.definition c.len.result (length tables.definitions) c.len.ensures
    c.if-definition-len.true)

pub returns-then-own_frames-lt1 : goal.returns-then-own_frames-lt1
returns-then-own_frames-lt1 c =
    let tables = c.args.tables.now in
    let forms = c.args.forms.now in
    let p = c.args.place in
    let s = c.args.shape in
    hold_outside tables forms p s c.args.definition
    (within_all c.args.definition c.len.result (length tables.definitions) c.len.ensures
    c.if-definition-len.false)
    (fewer_so 1 c.own_frames.result (own_frames s) c.own_frames.ensures c.if-own_frames-lt1.true)

pub returns-in_default : goal.returns-in_default
returns-in_default c =
    let tables = c.args.tables.now in
    let forms = c.args.forms.now in
    let p = c.args.place in
    let s = c.args.shape in
    hold_nothing tables forms p s c.args.definition
    (within_all c.args.definition c.len.result (length tables.definitions) c.len.ensures
    c.if-definition-len.false)
    (fewer_not 1 c.own_frames.result
    (own_frames s) c.own_frames.ensures c.if-own_frames-lt1.false) c.in_default.ensures.0

pub returns-then-not-pop_as : goal.returns-then-not-pop_as
returns-then-not-pop_as c =
    let tables = c.args.tables.now in
    let forms = c.args.forms.now in
    let p = c.args.place in
    let s = c.args.shape in
    hold_unlike tables forms p s (record s { defaults = c.pop.new.self }) c.pop_as.new.shape c.args.definition
    c.in-Some.frame
    (within_all c.args.definition c.len.result (length tables.definitions) c.len.ensures
    c.if-definition-len.false)
    (fewer_not 1 c.own_frames.result (own_frames s) c.own_frames.ensures c.if-own_frames-lt1.false)
    (ap (λ (fs : List FrameShape). record s { defaults = fs }) c.in-Some.ensures)
    (takes_as (record s { defaults = c.pop.new.self }) c.pop_as.new.shape c.in-Some.frame.holds c.pop_as.result
    false c.pop_as.ensures c.if-not-pop_as.true)

pub returns : goal.returns
returns c =
    let tables = c.args.tables.now in
    let forms = c.args.forms.now in
    let p = c.args.place in
    let s = c.args.shape in
    hold_so tables forms p s (record s { defaults = c.pop.new.self }) c.pop_as.new.shape c.args.definition
    c.in-Some.frame c.in_ok-with_frame.field-0
    (within_all c.args.definition c.len.result (length tables.definitions) c.len.ensures
    c.if-definition-len.false)
    (fewer_not 1 c.own_frames.result (own_frames s) c.own_frames.ensures c.if-own_frames-lt1.false)
    (ap (λ (fs : List FrameShape). record s { defaults = fs }) c.in-Some.ensures)
    (takes_as (record s { defaults = c.pop.new.self }) c.pop_as.new.shape c.in-Some.frame.holds c.pop_as.result
    true c.pop_as.ensures c.if-not-pop_as.false)
    c.in_ok-with_frame.ensures
