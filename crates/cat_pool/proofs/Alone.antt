-- Values that one node alone stands for.
use Rattle.std.proofs.Common.{◌≡◌, ◌∙◌, ℕ, ℤ, ◌+◌, Bool, List, Some, slice_get, sym, ap, arith}
use Rattle.cat_num.specs.Frac.{Fraction}
use Rattle.cat_date.specs.Span.{SpanOf}
use Rattle.cat_value.specs.declared.value.Value.{Value}
use Rattle.cat_value.specs.declared.value.Value.TheVariants as flat
use Rattle.cat_pool.specs.declared.node.PoolNode.{PoolNode}
use Rattle.cat_pool.specs.declared.node.PoolNode.TheVariants as node
use Rattle.cat_pool.specs.Nodes.{IsPlain, Standing, value_in, values}
use Rattle.cat_pool.specs.Loading.{node_count}
use Rattle.cat_pool.specs.inside.Alone.{IsAlone}
use Rattle.cat_pool.proofs.Counting.{count_Boolean, count_Date, count_Decimal, count_Duration, count_Integer}
use Rattle.cat_pool.proofs.Counting.{count_Money}
use Rattle.cat_pool.proofs.Cutting.{given_back, given_back_extends, marked}

pub alone_Boolean : (v : Value) (b : Bool) → v ≡ flat.Boolean b → IsAlone v (node.Boolean b)
alone_Boolean v b is =
    record { plain = λ nodes. tt; value = λ nodes. sym is; count = ap node_count is ∙ count_Boolean b }

pub alone_Integer : (v : Value) (n : ℤ) → v ≡ flat.Integer n → IsAlone v (node.Integer n)
alone_Integer v n is =
    record { plain = λ nodes. tt; value = λ nodes. sym is; count = ap node_count is ∙ count_Integer n }

pub alone_Decimal : (v : Value) (f : Fraction) → v ≡ flat.Decimal f → IsAlone v (node.Decimal f)
alone_Decimal v f is =
    record { plain = λ nodes. tt; value = λ nodes. sym is; count = ap node_count is ∙ count_Decimal f }

pub alone_Money : (v : Value) (cents : ℤ) → v ≡ flat.Money cents → IsAlone v (node.Money cents)
alone_Money v cents is =
    record { plain = λ nodes. tt; value = λ nodes. sym is; count = ap node_count is ∙ count_Money cents }

pub alone_Date : (v : Value) (day : ℤ) → v ≡ flat.Date day → IsAlone v (node.Date day)
alone_Date v day is =
    record { plain = λ nodes. tt; value = λ nodes. sym is; count = ap node_count is ∙ count_Date day }

pub alone_Duration : (v : Value) (span : SpanOf) → v ≡ flat.Duration span → IsAlone v (node.Duration span)
alone_Duration v span is =
    record { plain = λ nodes. tt; value = λ nodes. sym is; count = ap node_count is ∙ count_Duration span }

pub ruleset alone = (alone_Boolean, alone_Integer, alone_Decimal, alone_Money, alone_Date, alone_Duration)

-- ---- it is put into a pool

pub alone_plain : (v : Value) (n : PoolNode) (nodes : List Standing) → IsAlone v n → IsPlain nodes n
alone_plain v n nodes is = is.plain nodes

pub alone_value : (v : Value) (n : PoolNode) (old new : List Standing) (r : ℕ) → IsAlone v n
    → slice_get (values new) r ≡ Some (value_in old n) → slice_get (values new) r ≡ Some v
alone_value v n old new r is stands = stands ∙ ap Some (is.value old)

pub alone_count : (v : Value) (n : PoolNode) (before after : ℕ) → IsAlone v n → after ≡ before + 1
    → after ≡ before + node_count v
alone_count v n before after is one = let own = is.count in omega (arith, own, one)

pub ruleset loading = (marked, given_back, given_back_extends, alone_plain, alone_value, alone_count)
