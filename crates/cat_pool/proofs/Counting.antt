-- How many nodes a value of each form has, and what a pool has behind values that are loaded.
use Rattle.std.proofs.Common.{◌≡◌, ℕ, ℤ, ◌+◌, Bool, List, ◌++◌, length, None, Some, ◌∙◌, arith}
use Rattle.std.proofs.Common.{rules}
use Rattle.std.proofs.lemmas.List.{take-append-le, take_all}
use Rattle.cat_num.specs.Frac.{Fraction}
use Rattle.cat_date.specs.Span.{SpanOf}
use Rattle.cat_value.specs.declared.value.Value.{Value}
use Rattle.cat_value.specs.declared.value.Value.TheVariants as flat
use Rattle.cat_value.specs.declared.value.Value.TheViews as value
use Rattle.cat_value.specs.declared.value.Value.TheFolds.{fold_out-Value}
use Rattle.cat_pool.specs.Nodes.{Standing}
use Rattle.cat_pool.specs.Loading.{Extends, count_at, node_count, node_counts}

pub count_List : (vs : List Value) → node_count (value.List vs) ≡ 1 + node_counts vs
unfolding node_count
count_List vs = search (rules, value.the_lemmas, fold_out-Value ℕ count_at)

pub count_Structure : (vs : List Value) → node_count (value.Structure vs) ≡ 1 + node_counts vs
unfolding node_count
count_Structure vs = search (rules, value.the_lemmas, fold_out-Value ℕ count_at)

pub count_Some : (k : ℕ) (v : Value) → node_count (value.Case k (Some v)) ≡ 1 + node_count v
unfolding node_count
count_Some k v = search (rules, value.the_lemmas, fold_out-Value ℕ count_at)

pub count_None : (k : ℕ) → node_count (value.Case k None) ≡ 1
unfolding node_count
count_None k = search (rules, value.the_lemmas, fold_out-Value ℕ count_at)

pub count_Boolean : (b : Bool) → node_count (flat.Boolean b) ≡ 1
unfolding node_count
count_Boolean b = search (rules, value.the_lemmas, fold_out-Value ℕ count_at)

pub count_Integer : (n : ℤ) → node_count (flat.Integer n) ≡ 1
unfolding node_count
count_Integer n = search (rules, value.the_lemmas, fold_out-Value ℕ count_at)

pub count_Decimal : (f : Fraction) → node_count (flat.Decimal f) ≡ 1
unfolding node_count
count_Decimal f = search (rules, value.the_lemmas, fold_out-Value ℕ count_at)

pub count_Money : (cents : ℤ) → node_count (flat.Money cents) ≡ 1
unfolding node_count
count_Money cents = search (rules, value.the_lemmas, fold_out-Value ℕ count_at)

pub count_Date : (day : ℤ) → node_count (flat.Date day) ≡ 1
unfolding node_count
count_Date day = search (rules, value.the_lemmas, fold_out-Value ℕ count_at)

pub count_Duration : (span : SpanOf) → node_count (flat.Duration span) ≡ 1
unfolding node_count
count_Duration span = search (rules, value.the_lemmas, fold_out-Value ℕ count_at)

-- ---- pools that extend others

pub extends_itself : (nodes : List Standing) → Extends nodes nodes
extends_itself nodes = take_all (length nodes) nodes (omega arith)

pub extends_more : (nodes more : List Standing) → Extends nodes (nodes ++ more)
extends_more nodes more =
    take-append-le (length nodes) nodes more (omega arith) ∙ take_all (length nodes) nodes (omega arith)
