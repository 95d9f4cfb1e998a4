use Rattle.std.proofs.Common.{◌≡◌, ◌++◌, drop, string_bytes}
use Rattle.cat_listing.specs.Texts.{lines_of}
use Rattle.cat_listing.specs.Listing.{file_line}
use Rattle.cat_listing.proofs.whole.push_files.Given as goal

abbrev pub invariant-loop-n : goal.invariant-loop-n
invariant-loop-n l =
    string_bytes l.text ++ lines_of file_line (drop l.n l.files)
    ≡ string_bytes l.initial.text ++ lines_of file_line l.files
