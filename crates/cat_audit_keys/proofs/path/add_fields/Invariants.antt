use Rattle.std.proofs.Common.{◌≡◌, ◌++◌, drop}
use Rattle.cat_audit_keys.proofs.path.add_fields.Given as goal

abbrev pub invariant-loop-field : goal.invariant-loop-field
invariant-loop-field l = l.numbers ++ drop l.field-index l.fields ≡ l.fn.numbers ++ l.fields
