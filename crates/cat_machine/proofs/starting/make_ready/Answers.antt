use Rattle.std.proofs.Common.{[], ◌∷◌, ◌∙◌, None, ap, subst}
use Rattle.cat_pool.specs.Loading.{Extends}
use Rattle.cat_machine.specs.declared.machine.Machine.{Machine}
use Rattle.cat_machine.specs.inside.Begun.{HasInput}
use Rattle.cat_machine.proofs.Loads.{made_ready}
use Rattle.cat_machine.proofs.starting.make_ready.Goals as goal

pub returns-clause-ready : goal.returns-clause-ready
returns-clause-ready c =
    let taken = c.in_ok-take_constants.ensures.taken in
    made_ready c.args.code.now c.args.input.now c.args.m.now c.load_input.new.m c.args.constants.now c.open.new.self
    c.requires.empty c.requires.constants (c.in_ok-open.ensures.ok ∙ ap (λ (n : Machine). (None, []) ∷ n.locals) taken)
    (subst (λ (n : Machine). HasInput c.args.input.now (record n { locals = c.open.new.self }) c.load_input.new.m) taken
    c.in_ok-load_input.ensures.loaded)
    (subst (λ (n : Machine). Extends n.pool c.load_input.new.m.pool) taken c.in_ok-load_input.ensures.pool)
