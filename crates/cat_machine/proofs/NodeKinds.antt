-- Which nodes stand for values of a kind.
use Rattle.std.proofs.Common.{◌≡◌, ◌≢◌, ℕ, zero, suc, Bool, true≢false, List, [], ◌∷◌, Some, None, Result, Ok, Err}
use Rattle.std.proofs.Common.{IsOk, slice_get, refl, sym, ap, ◌∙◌, rules}
use Rattle.cat_value.specs.declared.value.Value.{Value}
use Rattle.cat_value.specs.declared.value.Value.TheOpen.{Value-F}
use Rattle.cat_value.specs.declared.value.Value.TheVariants as flat
use Rattle.cat_value.specs.declared.value.Value.TheViews.{out-Value}
use Rattle.cat_value.specs.declared.value.Value.TheViews as value
use Rattle.cat_scope.specs.declared.stop.Stop.{Stop}
use Rattle.cat_scope.specs.declared.stop.Stop.TheVariants.{Stuck}
use Rattle.cat_scope.specs.Projections.{elements, elements_in, parts, parts_in, truth, truth_in}
use Rattle.cat_code.specs.Moves.{with_part}
use Rattle.cat_code.specs.States.{Next, stuck}
use Rattle.cat_pool.specs.declared.node.PoolNode.{PoolNode}
use Rattle.cat_pool.specs.declared.node.PoolNode.TheVariants as node
use Rattle.cat_pool.specs.declared.node.Refs.{Refs}
use Rattle.cat_pool.specs.Nodes.{Standing, at, value_in}

pub at_is : (vs : List Value) (r : ℕ) (v : Value) → slice_get vs r ≡ Some v → at vs r ≡ v
at_is [] r v is = absurd (cc is)
at_is (w ∷ vs) zero v is = cc is
at_is (w ∷ vs) (suc r) v is = at_is vs r v is

pub truth_is : (b : Bool) → truth (flat.Boolean b) ≡ Ok b
truth_is b = search (rules, value.the_lemmas)

pub elements_are : (vs : List Value) → elements (value.List vs) ≡ Ok vs
elements_are vs = search (rules, value.the_lemmas)

pub fields_are : (vs : List Value) → parts (value.Structure vs) ≡ Ok vs
fields_are vs = search (rules, value.the_lemmas)

pub no_truth : (nodes : List Standing) (n : PoolNode) → ((b : Bool) → n ≡ node.Boolean b → ⊥)
    → truth (value_in nodes n) ≡ Err Stuck
no_truth nodes (node.Boolean b) other = absurd (other b refl)
no_truth nodes (node.Case k None) other = search (rules, value.the_lemmas)
no_truth nodes (node.Case k (Some r)) other = search (rules, value.the_lemmas)
no_truth nodes _ other = search (rules, value.the_lemmas)

pub no_list : (nodes : List Standing) (n : PoolNode) → ((refs : Refs) → n ≡ node.List refs → ⊥)
    → elements (value_in nodes n) ≡ Err Stuck
no_list nodes (node.List refs) other = absurd (other refs refl)
no_list nodes (node.Case k None) other = search (rules, value.the_lemmas)
no_list nodes (node.Case k (Some r)) other = search (rules, value.the_lemmas)
no_list nodes _ other = search (rules, value.the_lemmas)

pub no_structure : (nodes : List Standing) (n : PoolNode) → ((refs : Refs) → n ≡ node.Structure refs → ⊥)
    → parts (value_in nodes n) ≡ Err Stuck
no_structure nodes (node.Structure refs) other = absurd (other refs refl)
no_structure nodes (node.Case k None) other = search (rules, value.the_lemmas)
no_structure nodes (node.Case k (Some r)) other = search (rules, value.the_lemmas)
no_structure nodes _ other = search (rules, value.the_lemmas)

-- ---- where a step isn't stuck

truth_needs_in : (o : Value-F Value) (go : Bool → Next) → with_part (truth_in o) go ≢ stuck → IsOk (truth_in o)
truth_needs_in (Value-F.Boolean b) go going = refl
truth_needs_in _ go going = absurd (going refl)

pub truth_needs : (v : Value) (go : Bool → Next) → with_part (truth v) go ≢ stuck → IsOk (truth v)
truth_needs v go going = truth_needs_in (out-Value v) go going

elements_need_in : (o : Value-F Value) (go : List Value → Next) → with_part (elements_in o) go ≢ stuck
    → IsOk (elements_in o)
elements_need_in (Value-F.List vs) go going = refl
elements_need_in _ go going = absurd (going refl)

pub elements_need : (v : Value) (go : List Value → Next) → with_part (elements v) go ≢ stuck → IsOk (elements v)
elements_need v go going = elements_need_in (out-Value v) go going

pub no_ok : {A : Type 0} (r : Result A Stop) → r ≡ Err Stuck → IsOk r → ⊥
no_ok (Ok a) is ok = absurd (cc is)
no_ok (Err stop) is ok = true≢false (sym ok)

-- ---- which value it is

-- one of this level
by_level : {v : Value} {y : Value-F Value} → value.out-Value v ≡ y → v ≡ value.roll-Value y
by_level {v} {y} q = sym (value.roll-out-Value v) ∙ ap value.roll-Value q

pub fields_of : (v : Value) (vs : List Value) → parts v ≡ Ok vs → v ≡ value.Structure vs
fields_of v vs is = by (value.out-Value v) refl is
  where
    by : (y : Value-F Value) → value.out-Value v ≡ y → parts_in y ≡ Ok vs → v ≡ value.Structure vs
    by (Value-F.Structure ws) q g =
        let same : ws ≡ vs = cc g in by_level q ∙ value.rolls-Structure ws
        ∙ ap (λ (us : List Value). value.Structure us) same
    by _ q g = absurd (cc g)
