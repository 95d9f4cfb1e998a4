use Rattle.std.proofs.Common.{◌≡◌, Some, slice_get, length, refl, rules, arith}
use Rattle.std.proofs.lemmas.Option.{slice_get_read}
use Rattle.cat_audit_sound.specs.PointInputs.{given_from, given_for}
use Rattle.cat_audit_sound.specs.inside.PointTables.{found_in}
use Rattle.cat_audit_sound.proofs.TypedLaws.{given_more, made_more}
use Rattle.cat_audit_sound.proofs.input.given.Goals as goal

pub loop-number-preserved : goal.loop-number-preserved
loop-number-preserved c =
    let items = c.args.items.now in
    let ds = c.args.decls.now in
    let points = found_in c.args.points.now in
    let at : slice_get items c.loop-number.number ≡ Some c.index-items-number.result =
    slice_get_read items (length items) c.loop-number.number c.index-items-number.result refl
    (omega (arith, c.loop-number-test.true)) c.index-items-number.is in
    let is : c.in_ok-given_for.field-0 ≡ given_for ds points c.loop-number.number c.index-items-number.result =
    search rules in
    rw c.in_ok-push.ensures.ok (record {
      made = made_more ds points (given_from ds points 0 items) c.loop-number.input c.in_ok-given_for.field-0 items
          c.loop-number.number c.index-items-number.result c.loop-number.invariant.made at is;
      typed = given_more ds c.loop-number.input c.in_ok-given_for.field-0 items c.loop-number.number
          c.index-items-number.result c.loop-number.invariant.typed at c.in_ok-given_for.ensures.typed;
    })

pub given_for-requires : goal.given_for-requires
given_for-requires c =
    c.requires.items c.loop-number.number c.index-items-number.result
    (slice_get_read c.args.items.now (length c.args.items.now) c.loop-number.number c.index-items-number.result refl
    (omega (arith, c.loop-number-test.true)) c.index-items-number.is)
