use Rattle.std.proofs.Common.{◌≡◌, ◌++◌, drop, string_bytes}
use Rattle.cat_table.specs.Conditions.{fields_text}
use Rattle.cat_table.proofs.term.push_fields.Given as goal

abbrev pub invariant-loop-number : goal.invariant-loop-number
invariant-loop-number l =
    string_bytes l.text ++ fields_text l.here.decls.now l.of (drop l.number-index l.fields)
    ≡ string_bytes l.fn.text ++ fields_text l.here.decls.now l.fn.of l.fields
