use Rattle.std.proofs.Common.{◌≡◌, ◌≤◌, ◌+◌, ◌-◌, ◌∙◌, ℕ, List, length, take, slice_get, IsTrue, sym, ap, subst, arith}
use Rattle.std.proofs.lemmas.List.{take_all}
use Rattle.cat_order.specs.Order.{is_listed}
use Rattle.cat_value.specs.declared.declaration.Field.{Field}
use Rattle.cat_value.specs.declared.declaration.Structure.{Structure}
use Rattle.cat_value.specs.declared.declaration.Case.{Case}
use Rattle.cat_value.specs.declared.declaration.Enumeration.{Enumeration}
use Rattle.cat_value.specs.Dependencies.{named_by_cases}
use Rattle.cat_verify_tables.specs.inside.Causes.{lines_in}
use Rattle.cat_verify_tables.specs.inside.Ordering.{NamesAt, HasNamingAt, field, content, fields_of, cases_of}
use Rattle.cat_verify_tables.proofs.OrderLemmas.{cases_name}
use Rattle.cat_verify_tables.proofs.in_order.part_line.Goals as goal

pub returns-then-number-count : goal.returns-then-number-count
returns-then-number-count c =
    let ss = c.args.structures.now in
    let line_is = c.in_ok-line.ensures in
    let begin = c.in_ok-behind_all.ensures
    ∙ ap (λ (xs : List Structure). c.args.first + lines_in fields_of (take c.args.number xs)) c.as_slice.ensures in
    field c.at.result.now c.field_naming-index.result c.at.ensures
    (subst (λ (n : ℕ). NamesAt n c.at.result.now.fields c.args.part c.field_naming-index.result) c.len-count.ensures
    (subst (λ (fs : List Field). NamesAt c.len-count.result fs c.args.part c.field_naming-index.result)
    c.as_slice-then-number-count.ensures c.field_naming-index.ensures))
    (omega (arith, line_is, begin))

pub case_naming-place-requires : goal.case_naming-place-requires
case_naming-place-requires c =
    let ss = c.args.structures.now in
    let es = c.args.enumerations.now in
    let past : length ss ≤ c.args.number =
    let count = c.len-count.ensures in let more = c.if-number-count.false in omega (arith, count, more) in
    let own : c.args.number - c.len-count.result ≡ c.args.number - length ss =
    ap (λ (n : ℕ). c.args.number - n) c.len-count.ensures in
    let named = cases_name ss es c.args.number c.args.part c.requires c.at-2.result.now past
    (ap (λ (n : ℕ). slice_get es n) (sym own) ∙ c.at-2.ensures) in
    subst (λ (n : ℕ). IsTrue (is_listed (named_by_cases n c.as_slice-3.result.now) c.args.part))
    (sym c.len-count.ensures)
    (subst (λ (cs : List Case). IsTrue (is_listed (named_by_cases (length ss) cs) c.args.part))
    (sym c.as_slice-3.ensures)
    named)

pub returns : goal.returns
returns c =
    let ss = c.args.structures.now in
    let es = c.args.enumerations.now in
    let count = c.len-count.ensures in
    let more = c.if-number-count.false in
    let own = c.args.number - c.len-count.result in
    let line_is = c.in_ok-end.ensures in
    let begin = c.in_ok-begin.ensures
    ∙ ap (λ (xs : List Enumeration). c.in_ok-behind_all.behind_all + lines_in cases_of (take own xs))
    c.as_slice-2.ensures
    in
    let behind = c.in_ok-behind_all.ensures
    ∙ ap (λ (xs : List Structure). c.args.first + lines_in fields_of xs)
    (ap (take c.args.number) c.as_slice.ensures ∙ take_all c.args.number ss (omega (arith, count, more))) in
    content own c.at-2.result.now c.case_naming-place.result (omega (arith, count, more)) c.at-2.ensures
    (subst (λ (n : ℕ). HasNamingAt n c.at-2.result.now.cases c.args.part c.case_naming-place.result) c.len-count.ensures
    (subst (λ (cs : List Case). HasNamingAt c.len-count.result cs c.args.part c.case_naming-place.result)
    c.as_slice-3.ensures c.case_naming-place.ensures))
    (omega (arith, line_is, begin, behind))
