-- The lines of the definitions of a target by their numbers.
use Rattle.std.specs.Prelude.{ℕ, List, Option, None, Some, slice_get}
use Rattle.cat_dead_report.specs.declared.line.DeadLine.{DeadLine}
use Rattle.cat_dead_report.specs.declared.line.TargetLines.{TargetLines}

-- the line of that place, where there is one
abbrev pub line_at : List DeadLine → Option ℕ → Option DeadLine
line_at lines None = None
line_at lines (Some place) = slice_get lines place

-- the line of the definition of that number
abbrev pub line_of : TargetLines → ℕ → Option DeadLine
line_of found number = line_at found.lines (slice_get found.places number)
