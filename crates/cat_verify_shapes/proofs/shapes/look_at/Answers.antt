use Rattle.std.proofs.Common.{◌∙◌, Some, None, length, slice_index_or, subst}
use Rattle.std.proofs.lemmas.Result.{err_from_is_err_and}
use Rattle.cat_code.specs.declared.instr.Instr.TheVariants as instr
use Rattle.cat_verify_shapes.specs.inside.Looking.{IsOpened}
use Rattle.cat_verify_shapes.proofs.FrontLemmas.{slot_is}
use Rattle.cat_verify_shapes.proofs.SpotTests.{opened_long, arrived_long}
use Rattle.cat_verify_shapes.proofs.LookSteps.{passed_state}
use Rattle.cat_verify_shapes.proofs.PlaceSteps.{step_stuck, step_led}
use Rattle.cat_verify_shapes.proofs.shapes.look_at.Goals as goal

pub returns-in_default-clause-looked : goal.returns-in_default-clause-looked
returns-in_default-clause-looked c = λ left order state.
    let i = slice_index_or c.args.code.now c.args.place (instr.Const 0) in
    passed_state c.args.tables.now c.args.code.now c.args.forms.now c.args.found.now.items c.open.new.found.items
    (length c.args.tables.now.decls.scopes) c.args.place left i order state
    (subst (IsOpened c.args.found.now.items c.open.new.found.items c.args.place i) c.in_default.is
    c.in_ok-shape.ensures)

pub returns-in_default-clause-long : goal.returns-in_default-clause-long
returns-in_default-clause-long c =
    let i = slice_index_or c.args.code.now c.args.place (instr.Const 0) in
    opened_long c.args.found.now.items c.open.new.found.items c.args.place i None
    (subst (IsOpened c.args.found.now.items c.open.new.found.items c.args.place i) c.in_default.is
    c.in_ok-shape.ensures) ∙ c.requires.long

pub returns-in_err-leads-clause-looked : goal.returns-in_err-leads-clause-looked
returns-in_err-leads-clause-looked c = λ left order state.
    let code = c.args.code.now in
    let found = c.args.found.now.items in
    let now = c.open.new.found.items in
    let i = slice_index_or code c.args.place (instr.Const 0) in
    let p = err_from_is_err_and c.from_residual-in_err-leads.result c.from_residual-in_err-leads.ensures.1 in
    rw (p.1, p.2) (step_stuck c.args.tables.now code c.requires.settled c.args.forms.now c.prepare.new.self
    c.in_ok-prepare.ensures found now c.args.place left i c.in-Some.shape order state
    (subst (IsOpened found now c.args.place i) c.in-Some.is c.in_ok-shape.ensures)
    (slot_is code c.args.place (instr.Const 0) c.requires.inside) now c.in_err-leads.field-0.0
    c.in_err-leads.ensures)

pub returns-clause-looked : goal.returns-clause-looked
returns-clause-looked c = λ left order state.
    let code = c.args.code.now in
    let found = c.args.found.now.items in
    let now = c.open.new.found.items in
    let i = slice_index_or code c.args.place (instr.Const 0) in
    step_led c.args.tables.now code c.requires.settled c.args.forms.now c.prepare.new.self c.in_ok-prepare.ensures found
    now c.args.place left i c.in-Some.shape order state
    (subst (IsOpened found now c.args.place i) c.in-Some.is c.in_ok-shape.ensures)
    (slot_is code c.args.place (instr.Const 0) c.requires.inside) c.arrive_all.new.found.items c.in_ok-leads.leads
    c.arrive_all.result c.in_ok-leads.ensures c.arrive_all.ensures

pub returns-clause-long : goal.returns-clause-long
returns-clause-long c =
    let found = c.args.found.now.items in
    let now = c.open.new.found.items in
    let i = slice_index_or c.args.code.now c.args.place (instr.Const 0) in
    arrived_long now c.arrive_all.new.found.items c.in_ok-leads.leads (length c.args.code.now)
    (opened_long found now c.args.place i (Some c.in-Some.shape)
    (subst (IsOpened found now c.args.place i) c.in-Some.is c.in_ok-shape.ensures) ∙ c.requires.long)
    c.arrive_all.result c.arrive_all.ensures
