use Rattle.std.proofs.Common.{rules, string_bytes}
use Rattle.cat_app.proofs.Growing.{grown}
use Rattle.cat_app.proofs.source.add_definitions.Goals as goal

pub loop-band-preserved : goal.loop-band-preserved
loop-band-preserved c =
    grown c.args.bands c.loop-band.band (string_bytes c.args.text.now) (string_bytes c.loop-band.text) _
    c.loop-band.invariant (search rules)
