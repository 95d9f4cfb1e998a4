use Rattle.std.proofs.Common.{◌≡◌, ◌∙◌, ◌+◌, ◌<◌, arith, ap, subst, sym, length, get_or, List, ℕ, Some, None, Option}
use Rattle.cat_value.specs.declared.value.Value.{Value}
use Rattle.cat_value.specs.declared.value.Value.TheVariants as flat
use Rattle.cat_value.specs.declared.value.Value.TheViews as value
use Rattle.cat_pool.specs.Nodes.{at, values}
use Rattle.cat_pool.specs.Loading.{node_count, node_counts}
use Rattle.cat_pool.proofs.Reading.{length-values}
use Rattle.cat_pool.proofs.Counting.{count_List, count_Structure, count_Some, count_None, count_Boolean, count_Integer}
use Rattle.cat_pool.proofs.Counting.{count_Decimal, count_Money, count_Date, count_Duration}
use Rattle.cat_pool.proofs.LoadingLemmas.{AreLoaded, at_is, below_is, counted, one_loaded, valued}
use Rattle.cat_pool.proofs.loading.+loading.Goals as goal

pub load_all-loop-value-preserved : goal.load_all-loop-value-preserved
load_all-loop-value-preserved t c =
    let items = c.as_slice-value-items.ensures in
    let i = c.loop-value.value-index in
    let within : i < length c.args.values.now = omega (arith, c.loop-value-test.true, ap length items) in
    let is : c.value-item.result ≡ get_or c.args.values.now i c.value-item.result
    = c.value-item.is ∙ ap (λ (l : List Value). get_or l i c.value-item.result) items in
    subst (λ (l : List ℕ). AreLoaded c.args.pool.now c.load_behind.new.pool c.args.values.now (i + 1) l)
    (sym c.in_ok-push.ensures.ok)
    (one_loaded c.args.pool.now c.loop-value.pool c.load_behind.new.pool c.args.values.now i c.loop-value.parts
    c.value-item.result c.in_ok-load_behind.field-0 c.loop-value.invariant within is
    c.in_ok-load_behind.ensures.value c.in_ok-load_behind.ensures.count c.in_ok-load_behind.ensures.kept)

pub load_behind-returns-in-Boolean-clause-count : goal.load_behind-returns-in-Boolean-clause-count
load_behind-returns-in-Boolean-clause-count t c =
    counted c.put_node.result (length c.args.pool.now) (length c.args.pool.now) (length c.put_node.new.pool) 0
    c.args.value.now (flat.Boolean c.in-Boolean.truth) c.in-Boolean.is (count_Boolean c.in-Boolean.truth)
    (omega arith) c.put_node.ensures.count

pub load_behind-returns-in-Integer-clause-count : goal.load_behind-returns-in-Integer-clause-count
load_behind-returns-in-Integer-clause-count t c =
    counted c.put_node-in-Integer.result (length c.args.pool.now) (length c.args.pool.now)
    (length c.put_node-in-Integer.new.pool) 0
    c.args.value.now (flat.Integer c.in-Integer.whole) c.in-Integer.is (count_Integer c.in-Integer.whole)
    (omega arith) c.put_node-in-Integer.ensures.count

pub load_behind-returns-in-Decimal-clause-count : goal.load_behind-returns-in-Decimal-clause-count
load_behind-returns-in-Decimal-clause-count t c =
    counted c.put_node-in-Decimal.result (length c.args.pool.now) (length c.args.pool.now)
    (length c.put_node-in-Decimal.new.pool) 0
    c.args.value.now (flat.Decimal c.in-Decimal.frac) c.in-Decimal.is (count_Decimal c.in-Decimal.frac)
    (omega arith) c.put_node-in-Decimal.ensures.count

pub load_behind-returns-in-Money-clause-count : goal.load_behind-returns-in-Money-clause-count
load_behind-returns-in-Money-clause-count t c =
    counted c.put_node-in-Money.result (length c.args.pool.now) (length c.args.pool.now)
    (length c.put_node-in-Money.new.pool) 0
    c.args.value.now (flat.Money c.in-Money.money) c.in-Money.is (count_Money c.in-Money.money)
    (omega arith) c.put_node-in-Money.ensures.count

pub load_behind-returns-in-Date-clause-count : goal.load_behind-returns-in-Date-clause-count
load_behind-returns-in-Date-clause-count t c =
    counted c.put_node-in-Date.result (length c.args.pool.now) (length c.args.pool.now)
    (length c.put_node-in-Date.new.pool) 0
    c.args.value.now (flat.Date c.in-Date.day) c.in-Date.is (count_Date c.in-Date.day)
    (omega arith) c.put_node-in-Date.ensures.count

pub load_behind-returns-in-Duration-clause-count : goal.load_behind-returns-in-Duration-clause-count
load_behind-returns-in-Duration-clause-count t c =
    counted c.put_node-in-Duration.result (length c.args.pool.now) (length c.args.pool.now)
    (length c.put_node-in-Duration.new.pool) 0
    c.args.value.now (flat.Duration c.in-Duration.span) c.in-Duration.is (count_Duration c.in-Duration.span)
    (omega arith) c.put_node-in-Duration.ensures.count

pub load_behind-returns-in_ok-parts-in-List-clause-count :
    goal.load_behind-returns-in_ok-parts-in-List-clause-count
load_behind-returns-in_ok-parts-in-List-clause-count t c =
    counted c.put_elements.result (length c.args.pool.now) (length c.load_all.new.pool) (length c.put_elements.new.pool)
    (node_counts c.in-List.elements) c.args.value.now (value.List c.in-List.elements) c.in-List.is
    (count_List c.in-List.elements)
    c.in_ok-parts-in-List.ensures.count c.put_elements.ensures.count

pub load_behind-returns-in_ok-parts-in-Structure-clause-count :
    goal.load_behind-returns-in_ok-parts-in-Structure-clause-count
load_behind-returns-in_ok-parts-in-Structure-clause-count t c =
    counted c.put_fields.result (length c.args.pool.now) (length c.load_all-in-Structure.new.pool)
    (length c.put_fields.new.pool)
    (node_counts c.in-Structure.fields) c.args.value.now (value.Structure c.in-Structure.fields) c.in-Structure.is
    (count_Structure c.in-Structure.fields)
    c.in_ok-parts-in-Structure.ensures.count c.put_fields.ensures.count

pub load_behind-put_node-requires-in-Some : goal.load_behind-put_node-requires-in-Some
load_behind-put_node-requires-in-Some t c =
    subst (λ n. c.in_ok-content-in-Some.content < n) (length-values c.load_behind.new.pool)
    (below_is (values c.load_behind.new.pool) c.in_ok-content-in-Some.content _ c.in_ok-content-in-Some.ensures.value)

pub load_behind-returns-in-None-clause-count : goal.load_behind-returns-in-None-clause-count
load_behind-returns-in-None-clause-count t c =
    counted c.put_node-in-None.result (length c.args.pool.now) (length c.args.pool.now)
    (length c.put_node-in-None.new.pool) 0 c.args.value.now (value.Case c.in-Case.case None)
    (c.in-Case.is ∙ ap (λ (o : Option Value). value.Case c.in-Case.case o) c.in-None.is)
    (count_None c.in-Case.case) (omega arith) c.put_node-in-None.ensures.count

pub load_behind-returns-in_ok-content-in-Some-clause-value :
    goal.load_behind-returns-in_ok-content-in-Some-clause-value
load_behind-returns-in_ok-content-in-Some-clause-value t c =
    let is : c.args.value.now ≡ value.Case c.in-Case.case (Some c.get.result.now)
    = c.in-Case.is ∙ ap (λ (o : Option Value). value.Case c.in-Case.case o) c.in-Some.is
    ∙ ap (λ (w : Value). value.Case c.in-Case.case (Some w)) (sym c.get.ensures) in
    valued c.put_node-in-Some.result c.put_node-in-Some.new.pool c.args.value.now
    (value.Case c.in-Case.case (Some (at (values c.load_behind.new.pool) c.in_ok-content-in-Some.content)))
    (ap (λ (w : Value). value.Case c.in-Case.case (Some w))
    (at_is (values c.load_behind.new.pool) c.in_ok-content-in-Some.content c.get.result.now
    c.in_ok-content-in-Some.ensures.value) ∙ sym is)
    c.put_node-in-Some.ensures.value

pub load_behind-returns-in_ok-content-in-Some-clause-count :
    goal.load_behind-returns-in_ok-content-in-Some-clause-count
load_behind-returns-in_ok-content-in-Some-clause-count t c =
    let is : c.args.value.now ≡ value.Case c.in-Case.case (Some c.get.result.now)
    = c.in-Case.is ∙ ap (λ (o : Option Value). value.Case c.in-Case.case o) c.in-Some.is
    ∙ ap (λ (w : Value). value.Case c.in-Case.case (Some w)) (sym c.get.ensures) in
    counted c.put_node-in-Some.result (length c.args.pool.now) (length c.load_behind.new.pool)
    (length c.put_node-in-Some.new.pool) (node_count c.get.result.now) c.args.value.now
    (value.Case c.in-Case.case (Some c.get.result.now)) is
    (count_Some c.in-Case.case c.get.result.now) c.in_ok-content-in-Some.ensures.count c.put_node-in-Some.ensures.count
