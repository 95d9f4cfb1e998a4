use Rattle.std.proofs.Common.{rules, arith, ◌<◌, ◌^◌, ◌∙◌, List, None, slice_get, map, length}
use Rattle.std.proofs.Common.{refl, sym, ap, subst}
use Rattle.std.proofs.lemmas.Option.{slice_get_read}
use Rattle.cat_value.specs.declared.declaration.ItemDecl.{ItemDecl}
use Rattle.cat_value.specs.declared.declaration.Scope.{Scope}
use Rattle.cat_value.specs.declared.decls.Decls.{Decls}
use Rattle.cat_value.specs.Inputs.{must_be_given}
use Rattle.cat_verify_shapes.specs.Unshaped.{HasCause}
use Rattle.cat_verify_shapes.specs.inside.States.{all_places}
use Rattle.cat_verify_shapes.proofs.StateSteps.{entered_state}
use Rattle.cat_verify_shapes.proofs.PlaceSteps.{scopes_few, entry_is, entry_cause}
use Rattle.cat_verify_shapes.proofs.shapes.enter_scopes.Goals as goal

pub at-entry-requires : goal.at-entry-requires
at-entry-requires c =
    let scopes_are = c.as_slice-scope-items.ensures ∙ ap (λ (ds : Decls). ds.scopes) c.get.ensures in
    let below = subst (λ (ss : List Scope). c.loop-number.number < length ss) scopes_are c.loop-number-test.true in
    omega (arith, below, c.requires.settled.scopes)

pub overflow_cast-owner : goal.overflow_cast-owner
overflow_cast-owner c =
    let scopes_are = c.as_slice-scope-items.ensures ∙ ap (λ (ds : Decls). ds.scopes) c.get.ensures in
    let below = subst (λ (ss : List Scope). c.loop-number.number < length ss) scopes_are c.loop-number-test.true in
    let few : c.loop-number.number < 2 ^ 32 = omega (arith, below, scopes_few c.args.tables.now.decls) in
    search rules

pub returns-in-Err : goal.returns-in-Err
returns-in-Err c =
    let tables = c.args.tables.now in
    let code = c.args.code.now in
    let n = c.loop-number.number in
    let one = c.scope-item.result in
    let scopes = c.as_slice-scope-items.result.now in
    let scopes_are = c.as_slice-scope-items.ensures ∙ ap (λ (ds : Decls). ds.scopes) c.get.ensures in
    let at = slice_get_read scopes (length scopes) n one refl c.loop-number-test.true c.scope-item.is in
    subst (HasCause tables code) (sym c.refused.ensures)
    (entry_cause tables code c.args.forms.now c.loop-number.found.items c.arrive.new.found.items n
    c.at-entry.result.now c.args.owners.now one c.entered-shape.result c.in-Err.stuck c.requires.owners
    c.loop-number.invariant (ap (λ (ss : List Scope). slice_get ss n) (sym scopes_are) ∙ at)
    c.at-entry.ensures
    (entry_is n one.items (record { scope = n; function = None }) c.new.result c.in_ok-filled.filled
    c.entered-shape.result refl c.new.ensures
    (c.in_ok-filled.ensures ∙ ap (map (λ (item : ItemDecl). must_be_given item.kind)) c.as_slice.ensures)
    c.entered-shape.ensures) c.in-Err.ensures)

pub loop-number-preserved : goal.loop-number-preserved
loop-number-preserved c =
    let tables = c.args.tables.now in
    let code = c.args.code.now in
    let n = c.loop-number.number in
    let one = c.scope-item.result in
    let scopes = c.as_slice-scope-items.result.now in
    let scopes_are = c.as_slice-scope-items.ensures ∙ ap (λ (ds : Decls). ds.scopes) c.get.ensures in
    let at = slice_get_read scopes (length scopes) n one refl c.loop-number-test.true c.scope-item.is in
    entered_state tables code c.args.forms.now c.loop-number.found.items c.arrive.new.found.items n
    c.at-entry.result.now (all_places c.args.owners.now) one c.entered-shape.result c.loop-number.invariant
    (ap (λ (ss : List Scope). slice_get ss n) (sym scopes_are) ∙ at) c.at-entry.ensures
    (entry_is n one.items (record { scope = n; function = None }) c.new.result c.in_ok-filled.filled
    c.entered-shape.result refl c.new.ensures
    (c.in_ok-filled.ensures ∙ ap (map (λ (item : ItemDecl). must_be_given item.kind)) c.as_slice.ensures)
    c.entered-shape.ensures) c.in_default.ensures
