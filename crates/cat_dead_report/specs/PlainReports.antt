-- What a report says of the definitions of a plain scope.
use Rattle.std.specs.Prelude.{Option, None, Some}
use Rattle.cat_scope.specs.Names.{AllHave}
use Rattle.cat_dead_report.specs.declared.line.DeadLine.{DeadLine}
use Rattle.cat_dead_report.specs.declared.line.DeadLine.TheVariants as line
use Rattle.cat_dead_report.specs.declared.line.TargetLines.{TargetLines}
use Rattle.cat_dead_report.specs.ReportLines.{lines_of}

-- a definition has a line, and this is `decides`, Masked or `never decides`
abbrev pub IsDecidedLine : Option DeadLine → Type 0
IsDecidedLine None = ⊥
IsDecidedLine (Some (line.Decides input)) = Unit {0}
IsDecidedLine (Some (line.Masked input o)) = Unit {0}
IsDecidedLine (Some (line.Derived at input o)) = ⊥
IsDecidedLine (Some line.Budget) = ⊥
IsDecidedLine (Some line.Never) = Unit {0}

-- so has each definition of a target
abbrev pub AreDecidedLines : TargetLines → Type 0
AreDecidedLines f = AllHave IsDecidedLine (lines_of f)
