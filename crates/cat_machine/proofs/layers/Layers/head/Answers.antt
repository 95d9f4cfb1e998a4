use Rattle.std.proofs.Common.{◌∙◌, ap, sym}
use Rattle.std.specs.Option.{option_copied}
use Rattle.cat_machine.proofs.Layering.{head_on_top, no_head}
use Rattle.cat_machine.proofs.layers.Layers.head.Goals as goal

pub returns-in-Some : goal.returns-in-Some
returns-in-Some g c =
    rw (← c.self.view_is)
    (sym
    (head_on_top c.self.inside.starts c.self.inside.items.items c.in-Some.top.now
    (sym c.top.ensures ∙ ap option_copied c.in-Some.is)))

pub returns-in-None : goal.returns-in-None
returns-in-None g c =
    rw (← c.self.view_is)
    (sym (no_head c.self.inside.starts c.self.inside.items.items (sym c.top.ensures ∙ ap option_copied c.in-None.is)))
