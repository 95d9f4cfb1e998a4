use Rattle.std.proofs.Common.{◌≡◌, ◌++◌, drop}
use Rattle.cat_audit_keys.specs.inside.Fronts.{fields_in}
use Rattle.cat_audit_keys.proofs.spell.fields_in.Given as goal

abbrev pub invariant-loop-field : goal.invariant-loop-field
invariant-loop-field l = l.numbers ++ fields_in (drop l.field-index l.fields) ≡ fields_in l.fields
