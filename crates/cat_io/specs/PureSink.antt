-- What a `PureSink` means.
use Rattle.std.specs.Prelude.{Some}
use Rattle.cat_io.specs.Sink.{Sunk}
use Rattle.cat_io.specs.declared.pure_sink.PureSink.{PureSink}

-- what it took, its room and its faults
abbrev pub sunk_of : PureSink → Sunk
sunk_of sink = record { taken = Some sink.taken.items; room = Some sink.spare; faults = sink.faults }
