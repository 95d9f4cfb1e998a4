use Rattle.std.proofs.Common.{◌≡◌, ◌++◌, drop, string_bytes}
use Rattle.cat_trace.specs.inside.Entries.{log_text}
use Rattle.cat_trace.proofs.deciding.log_text.Given as goal

abbrev pub invariant-loop-entry : goal.invariant-loop-entry
invariant-loop-entry l =
    string_bytes l.text ++ log_text l.tables l.files l.headings l.places (drop l.entry-index l.log)
    ≡ log_text l.tables l.files l.headings l.places l.log
