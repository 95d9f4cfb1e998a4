use Rattle.std.proofs.Common.{◌≡◌, ◌++◌, string_bytes}
use Rattle.cat_app.specs.Texts.{definitions_to}
use Rattle.cat_app.proofs.source.add_definitions.Given as goal

abbrev pub invariant-loop-band : goal.invariant-loop-band
invariant-loop-band l =
    string_bytes l.text ≡ string_bytes l.initial.text ++ definitions_to l.bands l.band
