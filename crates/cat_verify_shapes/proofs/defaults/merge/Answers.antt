use Rattle.std.proofs.Common.{List, ap}
use Rattle.cat_verify_shapes.specs.inside.Taking.{own_frames}
use Rattle.cat_verify_shapes.specs.declared.shape.FrameShape.{FrameShape}
use Rattle.cat_verify_shapes.proofs.CountLemmas.{fewer_so, fewer_not, same_so, same_not}
use Rattle.cat_verify_shapes.proofs.DefaultSteps.{merge_outside, merge_nothing, merge_one, merge_unchecked}
use Rattle.cat_verify_shapes.proofs.DefaultSteps.{merge_unlike, merge_so}
use Rattle.cat_verify_shapes.proofs.defaults.merge.Goals as goal

pub returns-then-own_frames-lt2 : goal.returns-then-own_frames-lt2
returns-then-own_frames-lt2 c =
    let tables = c.args.tables.now in
    let forms = c.args.forms.now in
    let p = c.args.place in
    let s = c.args.shape in
    merge_outside tables forms p s
    (fewer_so 2 c.own_frames.result (own_frames s) c.own_frames.ensures c.if-own_frames-lt2.true)

pub returns-in_default : goal.returns-in_default
returns-in_default c =
    let tables = c.args.tables.now in
    let forms = c.args.forms.now in
    let p = c.args.place in
    let s = c.args.shape in
    merge_nothing tables forms p s
    (fewer_not 2 c.own_frames.result
    (own_frames s) c.own_frames.ensures c.if-own_frames-lt2.false) c.in_default.ensures.0

pub returns-in_default-pop : goal.returns-in_default-pop
returns-in_default-pop c =
    let tables = c.args.tables.now in
    let forms = c.args.forms.now in
    let p = c.args.place in
    let s = c.args.shape in
    merge_one tables forms p s (record s { defaults = c.pop.new.self }) c.in-Some.top
    (fewer_not 2 c.own_frames.result (own_frames s) c.own_frames.ensures c.if-own_frames-lt2.false)
    (ap (λ (fs : List FrameShape). record s { defaults = fs }) c.in-Some.ensures) c.in_default-pop.ensures.0

pub returns-then-not-top : goal.returns-then-not-top
returns-then-not-top c =
    let tables = c.args.tables.now in
    let forms = c.args.forms.now in
    let p = c.args.place in
    let s = c.args.shape in
    merge_unchecked tables forms p s (record s { defaults = c.pop.new.self }) (record s {
      defaults = c.pop-2.new.self;
    }) c.in-Some.top c.in-Some-pop.below
    (fewer_not 2 c.own_frames.result (own_frames s) c.own_frames.ensures c.if-own_frames-lt2.false)
    (ap (λ (fs : List FrameShape). record s { defaults = fs }) c.in-Some.ensures) (ap (λ (fs : List FrameShape).
    record s { defaults = fs }) c.in-Some-pop.ensures) c.if-not-top.true

pub returns-then-top-below : goal.returns-then-top-below
returns-then-top-below c =
    let tables = c.args.tables.now in
    let forms = c.args.forms.now in
    let p = c.args.place in
    let s = c.args.shape in
    merge_unlike tables forms p s (record s { defaults = c.pop.new.self }) (record s {
      defaults = c.pop-2.new.self;
    }) c.in-Some.top c.in-Some-pop.below
    (fewer_not 2 c.own_frames.result (own_frames s) c.own_frames.ensures c.if-own_frames-lt2.false)
    (ap (λ (fs : List FrameShape). record s { defaults = fs }) c.in-Some.ensures) (ap (λ (fs : List FrameShape).
    record s { defaults = fs }) c.in-Some-pop.ensures) c.if-not-top.false
    (same_not c.in-Some.top.holds c.in-Some-pop.below.holds c.if-top-below.true)

pub returns : goal.returns
returns c =
    let tables = c.args.tables.now in
    let forms = c.args.forms.now in
    let p = c.args.place in
    let s = c.args.shape in
    merge_so tables forms p s (record s { defaults = c.pop.new.self }) (record s {
      defaults = c.pop-2.new.self;
    }) c.in-Some.top c.in-Some-pop.below c.in_ok-with_frame.field-0
    (fewer_not 2 c.own_frames.result (own_frames s) c.own_frames.ensures c.if-own_frames-lt2.false)
    (ap (λ (fs : List FrameShape). record s { defaults = fs }) c.in-Some.ensures) (ap (λ (fs : List FrameShape).
    record s { defaults = fs }) c.in-Some-pop.ensures) c.if-not-top.false
    (same_so c.in-Some.top.holds c.in-Some-pop.below.holds c.if-top-below.false) c.in_ok-with_frame.ensures
