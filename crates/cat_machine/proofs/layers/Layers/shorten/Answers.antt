use Rattle.std.proofs.Common.{◌≡◌, ◌∙◌, ◌+◌, ◌-◌, ap, arith, length, take}
use Rattle.cat_machine.specs.inside.Layered.{layers_of, start_of}
use Rattle.cat_machine.proofs.Layering.{shorter}
use Rattle.cat_machine.proofs.layers.Layers.shorten.Goals as goal

pub returns : goal.returns
returns g c =
    let start : c.start_of-start.result ≡ start_of c.self.inside.starts (length c.self.inside.items.items)
    = c.start_of-start.ensures ∙ ap (start_of c.self.inside.starts) (c.len.ensures ∙ c.self.inside.items.ok.0) in
    let many : c.start_of-start.result + c.saturating_sub.result
    ≡ start_of c.self.inside.starts (length c.self.inside.items.items) +
    (length c.self.inside.items.items - start_of c.self.inside.starts (length c.self.inside.items.items) - c.args.n)
    = omega (arith, start, c.saturating_sub.ensures, c.len-2.ensures, c.self.inside.items.ok.0) in
    rw (c.truncate.ensures.items, ← c.self.view_is)
    (ap (λ k. layers_of c.self.inside.starts (take k c.self.inside.items.items)) many
    ∙ shorter c.self.inside.starts c.self.inside.items.items c.args.n c.self.invariant)
