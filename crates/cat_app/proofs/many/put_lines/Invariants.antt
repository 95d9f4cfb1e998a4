use Rattle.std.proofs.Common.{◌≡◌, ◌++◌}
use Rattle.std.specs.Vec.Iter.{into_iter_items}
use Rattle.cat_machine.specs.Running.{constant_values}
use Rattle.cat_app.specs.inside.Reading.{GathersLines}
use Rattle.cat_app.proofs.many.put_lines.Given as goal

-- the lines of the elements that were passed were taken or are gathered, and the constants are there for the next one
abbrev pub invariant-loop-read : goal.invariant-loop-read
invariant-loop-read g l =
    GathersLines l.built.program l.scope l.source.files l.yielded l.gathered (g.K.Sink.state l.initial.sink)
    (g.K.Sink.state l.sink)
    × (l.yielded ++ into_iter_items l.read-iterator ≡ l.fn.many.inputs)
    × (l.loaded ≡ constant_values l.built.code.tables.constants)
