use Rattle.std.proofs.Common.{ℕ, ◌+◌, ◌++◌, List, drop, length, slice_index_or, sym, subst}
use Rattle.cat_verify_shapes.specs.Unshaped.{HasCause}
use Rattle.cat_verify_shapes.specs.inside.States.{AreInOrder, IsState}
use Rattle.cat_verify_shapes.proofs.FrontLemmas.{slot_is}
use Rattle.cat_verify_shapes.proofs.LookSteps.{place_next, place_order}
use Rattle.cat_verify_shapes.proofs.PlaceSteps.{place_cause}
use Rattle.cat_verify_shapes.proofs.shapes.look_at_all.Goals as goal

pub returns-in-Err-clause-looked : goal.returns-in-Err-clause-looked
returns-in-Err-clause-looked c = λ left order state.
    let tables = c.args.tables.now in
    let code = c.args.code.now in
    let places = c.args.places.now in
    let k = c.loop-place.place-index in
    let place = slice_index_or places k 0 in
    let rest : List ℕ = drop (k + 1) places ++ left in
    let next = place_next places left k place (slot_is places k 0 c.loop-place-test.true) in
    subst (HasCause tables code) (sym c.refused.ensures)
    (place_cause tables code c.look_at.new.forms c.look_at.new.found.items rest place c.in-Err.stuck
    (c.in-Err.ensures.looked rest (subst (AreInOrder tables code) next (place_order tables code places left k order))
    (subst (IsState tables code c.loop-place.forms c.loop-place.found.items (length tables.decls.scopes)) next
    (c.loop-place.invariant.looked left order state))))

pub loop-place-preserved : goal.loop-place-preserved
loop-place-preserved c =
    let tables = c.args.tables.now in
    let code = c.args.code.now in
    let places = c.args.places.now in
    let k = c.loop-place.place-index in
    let place = slice_index_or places k 0 in
    record {
      looked = λ left order state.
          let rest : List ℕ = drop (k + 1) places ++ left in
          let next = place_next places left k place (slot_is places k 0 c.loop-place-test.true) in
          c.in_default.ensures.looked rest
          (subst (AreInOrder tables code) next (place_order tables code places left k order))
          (subst (IsState tables code c.loop-place.forms c.loop-place.found.items (length tables.decls.scopes)) next
          (c.loop-place.invariant.looked left order state));
      long = c.in_default.ensures.long;
    }
