use Rattle.std.proofs.Common.{◌≡◌, ◌++◌, drop, string_bytes}
use Rattle.cat_listing.specs.Texts.{lines_of}
use Rattle.cat_listing.specs.Listing.{function_line}
use Rattle.cat_listing.proofs.whole.push_functions.Given as goal

abbrev pub invariant-loop-entry : goal.invariant-loop-entry
invariant-loop-entry l =
    string_bytes l.text ++ lines_of function_line (drop l.entry-index l.functions)
    ≡ string_bytes l.initial.text ++ lines_of function_line l.functions
