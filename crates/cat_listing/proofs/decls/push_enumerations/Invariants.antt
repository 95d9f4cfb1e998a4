use Rattle.std.proofs.Common.{◌≡◌, ◌++◌, drop, string_bytes}
use Rattle.cat_listing.specs.Texts.{lines_of}
use Rattle.cat_listing.specs.DeclarationLines.{enumeration_lines}
use Rattle.cat_listing.proofs.decls.push_enumerations.Given as goal

abbrev pub invariant-loop-enumeration : goal.invariant-loop-enumeration
invariant-loop-enumeration l =
    string_bytes l.text ++ lines_of (enumeration_lines l.decls) (drop l.enumeration-index l.enumerations)
    ≡ string_bytes l.initial.text ++ lines_of (enumeration_lines l.decls) l.enumerations
