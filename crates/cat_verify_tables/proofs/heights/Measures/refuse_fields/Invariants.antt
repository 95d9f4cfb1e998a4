use Rattle.std.proofs.Common.{◌≡◌, ◌+◌, take}
use Rattle.cat_value.specs.declared.declaration.Field.{Field}
use Rattle.cat_scope.specs.Names.{AllHave}
use Rattle.cat_verify_tables.specs.inside.HighWords.{IsLowPart}
use Rattle.cat_verify_tables.proofs.heights.Measures.refuse_fields.Given as goal

abbrev pub invariant-loop-field : goal.invariant-loop-field
invariant-loop-field l = record {
  line : l.line ≡ l.first + 1 + l.field-index;
  low : AllHave (λ (x : Field). IsLowPart l.self x.ty) (take l.field-index l.structure.fields);
}
