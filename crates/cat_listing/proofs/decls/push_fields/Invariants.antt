use Rattle.std.proofs.Common.{◌≡◌, ◌++◌, drop, string_bytes}
use Rattle.cat_listing.specs.Texts.{lines_of}
use Rattle.cat_listing.specs.DeclarationLines.{field_line}
use Rattle.cat_listing.proofs.decls.push_fields.Given as goal

abbrev pub invariant-loop-field : goal.invariant-loop-field
invariant-loop-field l =
    string_bytes l.text ++ lines_of (field_line l.decls) (drop l.field-index l.fields)
    ≡ string_bytes l.initial.text ++ lines_of (field_line l.decls) l.fields
