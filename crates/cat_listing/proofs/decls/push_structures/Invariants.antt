use Rattle.std.proofs.Common.{◌≡◌, ◌++◌, drop, string_bytes}
use Rattle.cat_listing.specs.Texts.{lines_of}
use Rattle.cat_listing.specs.DeclarationLines.{structure_lines}
use Rattle.cat_listing.proofs.decls.push_structures.Given as goal

abbrev pub invariant-loop-structure : goal.invariant-loop-structure
invariant-loop-structure l =
    string_bytes l.text ++ lines_of (structure_lines l.decls) (drop l.structure-index l.structures)
    ≡ string_bytes l.initial.text ++ lines_of (structure_lines l.decls) l.structures
