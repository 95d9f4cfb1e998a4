-- The lines of a log, where it is known where each definition stands.
use Rattle.std.specs.Prelude.{ℕ, List, [], ◌∷◌, ◌++◌, Option, Some, None, slice_get}
use Rattle.cat_weave.specs.declared.segment.Heading.{Heading}
use Rattle.cat_code.specs.declared.code.TargetEntry.{TargetEntry}
use Rattle.cat_code.specs.declared.code.Tables.{Tables}
use Rattle.cat_answer.specs.Answer.{target_text}
use Rattle.cat_machine.specs.declared.log.LogEntry.{LogEntry}
use Rattle.cat_trace.specs.declared.placing.Placed.{Placed}
use Rattle.cat_trace.specs.Traces.{Text, by_text, decided_line}

-- where a definition stands that holds, where one does
abbrev pub place_of : List Placed → Option ℕ → Option Placed
place_of places None = None
place_of places (Some d) = slice_get places d

-- the line of a target, where it is in the tables
abbrev pub entry_line : Tables → List Text → List Heading → Option Placed → Option TargetEntry → Text
entry_line tables names headings place None = []
entry_line tables names headings place (Some entry) =
    decided_line (target_text tables.decls entry.target) (by_text names headings place)

-- the line of an entry of a log
abbrev pub log_line : Tables → List Text → List Heading → List Placed → LogEntry → Text
log_line tables names headings places l =
    entry_line tables names headings (place_of places l.definition) (slice_get tables.targets l.target)

-- the lines of a log
abbrev pub log_text : Tables → List Text → List Heading → List Placed → List LogEntry → Text
log_text tables names headings places [] = []
log_text tables names headings places (l ∷ ls) =
    log_line tables names headings places l ++ log_text tables names headings places ls
