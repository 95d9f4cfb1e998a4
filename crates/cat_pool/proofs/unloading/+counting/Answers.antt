use Rattle.std.proofs.Common.{◌∙◌, ◌<◌, ◌-◌, arith, ap, get_or, List, ℕ, Option}
use Rattle.cat_pool.specs.declared.node.PoolNode.{PoolNode}
use Rattle.cat_pool.specs.declared.node.PoolNode.TheVariants as node
use Rattle.cat_pool.specs.Nodes.{at, in_range, kept_parts, seen_at, value_in, values}
use Rattle.cat_pool.specs.Loading.{node_count, node_counts}
use Rattle.cat_pool.proofs.Counting.{count_List, count_Structure, count_Some, count_None, count_Boolean, count_Integer}
use Rattle.cat_pool.proofs.Counting.{count_Decimal, count_Money, count_Date, count_Duration}
use Rattle.cat_pool.proofs.LoadingLemmas.{flat_left, left_behind, part_below}
use Rattle.cat_pool.proofs.unloading.+counting.Goals as goal

pub left_by-returns-in-Boolean : goal.left_by-returns-in-Boolean
left_by-returns-in-Boolean t c =
    flat_left c.args.pool.now c.args.r c.args.left (value_in c.args.pool.now c.look.result.now) c.look.ensures.value
    (ap (λ (n : PoolNode). node_count (value_in c.args.pool.now n)) c.in-Boolean.is ∙ count_Boolean _)

pub left_by-returns-in-Integer : goal.left_by-returns-in-Integer
left_by-returns-in-Integer t c =
    flat_left c.args.pool.now c.args.r c.args.left (value_in c.args.pool.now c.look.result.now) c.look.ensures.value
    (ap (λ (n : PoolNode). node_count (value_in c.args.pool.now n)) c.in-Integer.is ∙ count_Integer _)

pub left_by-returns-in-Decimal : goal.left_by-returns-in-Decimal
left_by-returns-in-Decimal t c =
    flat_left c.args.pool.now c.args.r c.args.left (value_in c.args.pool.now c.look.result.now) c.look.ensures.value
    (ap (λ (n : PoolNode). node_count (value_in c.args.pool.now n)) c.in-Decimal.is ∙ count_Decimal _)

pub left_by-returns-in-Money : goal.left_by-returns-in-Money
left_by-returns-in-Money t c =
    flat_left c.args.pool.now c.args.r c.args.left (value_in c.args.pool.now c.look.result.now) c.look.ensures.value
    (ap (λ (n : PoolNode). node_count (value_in c.args.pool.now n)) c.in-Money.is ∙ count_Money _)

pub left_by-returns-in-Date : goal.left_by-returns-in-Date
left_by-returns-in-Date t c =
    flat_left c.args.pool.now c.args.r c.args.left (value_in c.args.pool.now c.look.result.now) c.look.ensures.value
    (ap (λ (n : PoolNode). node_count (value_in c.args.pool.now n)) c.in-Date.is ∙ count_Date _)

pub left_by-returns-in-Duration : goal.left_by-returns-in-Duration
left_by-returns-in-Duration t c =
    flat_left c.args.pool.now c.args.r c.args.left (value_in c.args.pool.now c.look.result.now) c.look.ensures.value
    (ap (λ (n : PoolNode). node_count (value_in c.args.pool.now n)) c.in-Duration.is ∙ count_Duration _)

pub left_by-returns-in-List : goal.left_by-returns-in-List
left_by-returns-in-List t c =
    left_behind c.args.pool.now c.args.r c.args.left c.left_by_all.result
    (node_counts (seen_at c.args.pool.now (in_range (kept_parts c.args.pool.now) c.in-List.refs)))
    (value_in c.args.pool.now c.look.result.now) c.look.ensures.value
    (ap (λ (n : PoolNode). node_count (value_in c.args.pool.now n)) c.in-List.is ∙ count_List _)
    (c.left_by_all.ensures ∙ ap (λ (rs : List ℕ). c.args.left - 1 - node_counts (seen_at c.args.pool.now rs))
    c.parts.ensures.parts)

pub left_by-returns-in-Structure : goal.left_by-returns-in-Structure
left_by-returns-in-Structure t c =
    left_behind c.args.pool.now c.args.r c.args.left c.left_by_all-in-Structure.result
    (node_counts (seen_at c.args.pool.now (in_range (kept_parts c.args.pool.now) c.in-Structure.refs)))
    (value_in c.args.pool.now c.look.result.now) c.look.ensures.value
    (ap (λ (n : PoolNode). node_count (value_in c.args.pool.now n)) c.in-Structure.is ∙ count_Structure _)
    (c.left_by_all-in-Structure.ensures ∙ ap (λ (rs : List ℕ). c.args.left - 1 - node_counts
    (seen_at c.args.pool.now rs)) c.parts-in-Structure.ensures.parts)

pub left_by_all-left_by-left-requires : goal.left_by_all-left_by-left-requires
left_by_all-left_by-left-requires t c =
    let lower : get_or c.args.parts.now c.loop-part.part-index 0 < c.args.of
    = part_below c.args.of c.args.parts.now c.loop-part.part-index c.requires.parts c.loop-part-test.true in
    let below = c.requires.of in
    (omega (arith, lower), omega (arith, lower, below))

pub left_by-returns-in-None : goal.left_by-returns-in-None
left_by-returns-in-None t c =
    flat_left c.args.pool.now c.args.r c.args.left (value_in c.args.pool.now c.look.result.now) c.look.ensures.value
    (ap (λ (n : PoolNode). node_count (value_in c.args.pool.now n)) (c.in-Case.is
    ∙ ap (λ (o : Option ℕ). node.Case c.in-Case.field-0 o) c.in-None.is)
    ∙ count_None c.in-Case.field-0)

pub left_by-returns-in-Some : goal.left_by-returns-in-Some
left_by-returns-in-Some t c =
    left_behind c.args.pool.now c.args.r c.args.left c.left_by.result
    (node_count (at (values c.args.pool.now) c.in-Some.content)) (value_in c.args.pool.now c.look.result.now)
    c.look.ensures.value
    (ap (λ (n : PoolNode). node_count (value_in c.args.pool.now n)) (c.in-Case.is
    ∙ ap (λ (o : Option ℕ). node.Case c.in-Case.field-0 o) c.in-Some.is)
    ∙ count_Some c.in-Case.field-0 (at (values c.args.pool.now) c.in-Some.content))
    c.left_by.ensures
