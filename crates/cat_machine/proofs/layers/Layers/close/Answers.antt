use Rattle.std.proofs.Common.{◌≡◌, ◌∙◌, ap, length}
use Rattle.cat_machine.specs.inside.Layered.{start_of}
use Rattle.cat_machine.proofs.Layering.{popped_closed, popped_nested}
use Rattle.cat_machine.proofs.layers.Layers.close.Goals as goal

pub invariant_of-self : goal.invariant_of-self
invariant_of-self g c =
    let start : c.start_of-start.result ≡ start_of c.self.inside.starts (length c.self.inside.items.items)
    = c.start_of-start.ensures ∙ ap (start_of c.self.inside.starts) (c.len.ensures ∙ c.self.inside.items.ok.0) in
    rw c.truncate.ensures.items
    (popped_nested c.pop.result c.self.inside.starts c.pop.new.self c.self.inside.items.items c.start_of-start.result
    c.pop.ensures start c.self.invariant)

pub returns : goal.returns
returns g c =
    let start : c.start_of-start.result ≡ start_of c.self.inside.starts (length c.self.inside.items.items)
    = c.start_of-start.ensures ∙ ap (start_of c.self.inside.starts) (c.len.ensures ∙ c.self.inside.items.ok.0) in
    rw (c.truncate.ensures.items, ← c.self.view_is)
    (popped_closed c.pop.result c.self.inside.starts c.pop.new.self c.self.inside.items.items c.start_of-start.result
    c.pop.ensures start)
