use Rattle.std.proofs.Common.{◌<◌, ℕ, ◌+◌, ◌++◌, ◌∙◌, List, All, drop, length, refl, sym, ap, subst}
use Rattle.std.proofs.lemmas.Option.{slice_get_read}
use Rattle.std.proofs.lemmas.Result.{err_from_is_err_and}
use Rattle.cat_verify_shapes.specs.declared.owner.OwnerPlaces.{OwnerPlaces}
use Rattle.cat_verify_shapes.specs.inside.States.{AreInOrder, IsState, all_places}
use Rattle.cat_verify_shapes.proofs.LookSteps.{owner_next, owner_order}
use Rattle.cat_verify_shapes.proofs.StateSteps.{state_long}
use Rattle.cat_verify_shapes.proofs.shapes.look_at_owners.Goals as goal

pub look_at_all-requires-clause-inside : goal.look_at_all-requires-clause-inside
look_at_all-requires-clause-inside c =
    let l = c.loop-one in
    let one = c.one-item.result in
    let inside : All (λ p. p < length c.args.code.now) one.places =
    subst (λ (x : OwnerPlaces). All (λ p. p < length c.args.code.now) x.places) (sym c.one-item.is)
    (c.requires.inside l.one-index one c.loop-one-test.true) in
    subst (All (λ p. p < length c.args.code.now)) (sym c.as_slice.ensures) inside

pub look_at_all-requires-clause-long : goal.look_at_all-requires-clause-long
look_at_all-requires-clause-long c =
    let l = c.loop-one in
    state_long c.args.tables.now c.args.code.now l.forms l.found.items (length c.args.tables.now.decls.scopes)
    (all_places (drop l.one-index c.args.owners.now)) l.invariant

pub returns-in_err-look_at_all : goal.returns-in_err-look_at_all
returns-in_err-look_at_all c =
    let owners = c.args.owners.now in
    let l = c.loop-one in
    let one = c.one-item.result in
    let rest : List ℕ = all_places (drop (l.one-index + 1) owners) in
    let at = slice_get_read owners (length owners) l.one-index one refl c.loop-one-test.true c.one-item.is in
    let next = owner_next owners l.one-index one at ∙ ap (λ (ps : List ℕ). ps ++ rest) (sym c.as_slice.ensures) in
    let p = err_from_is_err_and c.from_residual.result c.from_residual.ensures.1 in
    rw (p.1, p.2) (c.in_err-look_at_all.ensures.looked rest
    (subst (AreInOrder c.args.tables.now c.args.code.now) next
    (owner_order c.args.tables.now c.args.code.now owners l.one-index c.requires.order))
    (subst (IsState c.args.tables.now c.args.code.now l.forms l.found.items (length c.args.tables.now.decls.scopes))
    next
    l.invariant))

pub loop-one-preserved : goal.loop-one-preserved
loop-one-preserved c =
    let owners = c.args.owners.now in
    let l = c.loop-one in
    let one = c.one-item.result in
    let rest : List ℕ = all_places (drop (l.one-index + 1) owners) in
    let at = slice_get_read owners (length owners) l.one-index one refl c.loop-one-test.true c.one-item.is in
    let next = owner_next owners l.one-index one at ∙ ap (λ (ps : List ℕ). ps ++ rest) (sym c.as_slice.ensures) in
    c.in_ok-look_at_all.ensures.looked rest
    (subst (AreInOrder c.args.tables.now c.args.code.now) next
    (owner_order c.args.tables.now c.args.code.now owners l.one-index c.requires.order))
    (subst (IsState c.args.tables.now c.args.code.now l.forms l.found.items (length c.args.tables.now.decls.scopes))
    next
    l.invariant)
