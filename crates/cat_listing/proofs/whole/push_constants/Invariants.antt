use Rattle.std.proofs.Common.{◌≡◌, ◌++◌, drop, string_bytes}
use Rattle.cat_listing.specs.Texts.{lines_of}
use Rattle.cat_listing.specs.Listing.{constant_line}
use Rattle.cat_listing.proofs.whole.push_constants.Given as goal

abbrev pub invariant-loop-constant : goal.invariant-loop-constant
invariant-loop-constant l =
    string_bytes l.text ++ lines_of (constant_line l.decls) (drop l.constant-index l.constants)
    ≡ string_bytes l.initial.text ++ lines_of (constant_line l.decls) l.constants
