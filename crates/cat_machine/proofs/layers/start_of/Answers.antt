use Rattle.std.proofs.Common.{◌∙◌, ap, sym}
use Rattle.std.specs.Option.{option_copied}
use Rattle.cat_machine.proofs.Layering.{start_none, start_top}
use Rattle.cat_machine.proofs.layers.start_of.Goals as goal

pub returns-in-Some : goal.returns-in-Some
returns-in-Some g c =
    start_top c.args.starts.now c.args.items c.in-Some.top.now (sym c.top.ensures ∙ ap option_copied c.in-Some.is)

pub returns-in-None : goal.returns-in-None
returns-in-None g c = start_none c.args.starts.now c.args.items (sym c.top.ensures ∙ ap option_copied c.in-None.is)
