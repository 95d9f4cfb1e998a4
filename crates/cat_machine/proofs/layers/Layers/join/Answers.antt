use Rattle.cat_machine.proofs.Layering.{popped_joined, popped_still}
use Rattle.cat_machine.proofs.layers.Layers.join.Goals as goal

pub invariant_of-self : goal.invariant_of-self
invariant_of-self g c =
    popped_still c.pop.result c.self.inside.starts c.pop.new.self c.self.inside.items.items c.pop.ensures
    c.self.invariant (rw c.self.view_is c.requires)

pub returns : goal.returns
returns g c =
    rw (← c.self.view_is)
    (popped_joined c.pop.result c.self.inside.starts c.pop.new.self c.self.inside.items.items c.pop.ensures
    c.self.invariant (rw c.self.view_is c.requires))
