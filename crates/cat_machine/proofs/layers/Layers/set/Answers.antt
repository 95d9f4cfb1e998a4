use Rattle.std.proofs.Common.{◌≡◌, ◌∙◌, ◌+◌, ◌-◌, ◌<◌, ap, arith, length, set}
use Rattle.cat_machine.specs.inside.Layered.{layers_of, start_of}
use Rattle.cat_machine.proofs.Layering.{with_set}
use Rattle.cat_machine.proofs.layers.Layers.set.Goals as goal

pub returns : goal.returns
returns g c =
    let start : c.start_of-start.result ≡ start_of c.self.inside.starts (length c.self.inside.items.items)
    = c.start_of-start.ensures ∙ ap (start_of c.self.inside.starts) (c.len.ensures ∙ c.self.inside.items.ok.0) in
    let within : c.args.i < length c.self.inside.items.items - start_of c.self.inside.starts
    (length c.self.inside.items.items)
    = omega (arith, start, c.if-i-len.false, c.len-2.ensures, c.self.inside.items.ok.0) in
    rw (← c.self.view_is)
    (ap (λ k. layers_of c.self.inside.starts (set c.self.inside.items.items (k + c.args.i) c.args.item)) start
    ∙ with_set c.self.inside.starts c.self.inside.items.items c.args.i c.args.item within)
