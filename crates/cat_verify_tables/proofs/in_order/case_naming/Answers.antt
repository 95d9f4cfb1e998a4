use Rattle.std.proofs.Common.{◌∙◌, sym, refl, length, arith}
use Rattle.std.proofs.lemmas.Option.{slice_get_read}
use Rattle.cat_value.specs.declared.declaration.Case.{Case}
use Rattle.cat_value.specs.Dependencies.{named_by_content, named_by_cases}
use Rattle.cat_verify_tables.proofs.OrderLemmas.{none_names, others_name}
use Rattle.cat_verify_tables.proofs.in_order.case_naming.Goals as goal

pub returns-then-content_names : goal.returns-then-content_names
returns-then-content_names c =
    let xs = c.args.cases.now in
    let x = c.index-cases-index.result in
    record {
      case = x;
      at = slice_get_read xs (length xs) c.loop-index.index x refl c.loop-index-test.true c.index-cases-index.is;
      names = sym c.content_names.ensures ∙ c.if-content_names.true;
    }

pub loop-index-preserved : goal.loop-index-preserved
loop-index-preserved c =
    others_name (λ (k : Case). named_by_content c.args.structures k.content) (named_by_cases c.args.structures)
    (λ x xs. refl) c.args.cases.now c.loop-index.index c.index-cases-index.result c.args.number c.loop-index-test.true
    (sym c.index-cases-index.is) c.loop-index.invariant
    (sym c.content_names.ensures ∙ c.if-content_names.false)

pub unreachable-requires : goal.unreachable-requires
unreachable-requires c =
    none_names (named_by_cases c.args.structures) refl c.args.cases.now c.loop-index.index c.args.number
    (omega (arith, c.loop-index-test.false)) c.loop-index.invariant
