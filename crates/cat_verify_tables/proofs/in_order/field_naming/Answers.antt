use Rattle.std.proofs.Common.{◌∙◌, sym, refl, length, arith}
use Rattle.std.proofs.lemmas.Option.{slice_get_read}
use Rattle.cat_value.specs.declared.declaration.Field.{Field}
use Rattle.cat_value.specs.Dependencies.{named_by, named_by_fields}
use Rattle.cat_verify_tables.proofs.OrderLemmas.{none_names, others_name}
use Rattle.cat_verify_tables.proofs.in_order.field_naming.Goals as goal

pub returns-then-names : goal.returns-then-names
returns-then-names c =
    let xs = c.args.fields.now in
    let x = c.index-fields-index.result in
    record {
      field = x;
      at = slice_get_read xs (length xs) c.loop-index.index x refl c.loop-index-test.true c.index-fields-index.is;
      names = sym c.names.ensures ∙ c.if-names.true;
    }

pub loop-index-preserved : goal.loop-index-preserved
loop-index-preserved c =
    others_name (λ (f : Field). named_by c.args.structures f.ty) (named_by_fields c.args.structures)
    (λ x xs. refl) c.args.fields.now c.loop-index.index c.index-fields-index.result c.args.number c.loop-index-test.true
    (sym c.index-fields-index.is) c.loop-index.invariant
    (sym c.names.ensures ∙ c.if-names.false)

pub unreachable-requires : goal.unreachable-requires
unreachable-requires c =
    none_names (named_by_fields c.args.structures) refl c.args.fields.now c.loop-index.index c.args.number
    (omega (arith, c.loop-index-test.false)) c.loop-index.invariant
