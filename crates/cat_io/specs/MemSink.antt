-- What a `MemSink` means and what else it keeps, and which of its puts fail.
use Rattle.std.specs.Prelude.{None}
use Rattle.cat_io.specs.Sink.{Sunk}
use Rattle.cat_io.specs.Numbered.{Numbered, numbered}
use Rattle.cat_io.specs.PureSink as Pure
use Rattle.cat_io.specs.declared.mem_sink.MemSink.{MemSink}

-- what it took, its faults, and its room too, which it doesn't tell
abbrev pub kept_of : MemSink → Sunk
kept_of sink = Pure.sunk_of sink.sink

-- what it tells
abbrev pub sunk_of : MemSink → Sunk
sunk_of sink = record (kept_of sink) { room = None }

-- the puts made so far, and those that fail
abbrev pub puts_of : MemSink → Numbered
puts_of sink = numbered sink.puts
