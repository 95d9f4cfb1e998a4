use Rattle.std.proofs.Common.{◌≡◌, ◌++◌, drop, string_bytes}
use Rattle.cat_listing.specs.Texts.{lines_of}
use Rattle.cat_listing.specs.Listing.{target_line}
use Rattle.cat_listing.proofs.whole.push_targets.Given as goal

abbrev pub invariant-loop-entry : goal.invariant-loop-entry
invariant-loop-entry l =
    string_bytes l.text ++ lines_of (target_line l.decls) (drop l.entry-index l.targets)
    ≡ string_bytes l.initial.text ++ lines_of (target_line l.decls) l.targets
