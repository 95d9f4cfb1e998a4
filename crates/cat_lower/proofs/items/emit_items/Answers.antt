use Rattle.std.proofs.Common.{rules, ℕ, List, ap}
use Rattle.std.proofs.lemmas.List.{drop_all}
use Rattle.cat_lower.specs.Scopes.{items_code}
use Rattle.cat_lower.specs.Told.{scope_standing}
use Rattle.cat_lower.proofs.Rests.{next_number, step_on, end_on}
use Rattle.cat_lower.proofs.items.emit_items.Goals as goal

pub loop-item-preserved : goal.loop-item-preserved
loop-item-preserved c =
    let order : List ℕ = c.args.scope.now.terms.now.order in
    let read : List ℕ = c.as_slice-item-items.result.now in
    let left = next_number order read c.loop-item.item-index 0 c.as_slice-item-items.ensures c.loop-item-test.true in
    λ new. step_on _ _ _ new _ _ _ _
    (ap (λ (ns : List ℕ). items_code (scope_standing c.args.here.now c.args.scope.now) ns) left)
    c.loop-item.invariant c.in_ok-emit_item.ensures

pub returns : goal.returns
returns c =
    end_on _ _ _ _
    (ap (λ (ns : List ℕ). items_code (scope_standing c.args.here.now c.args.scope.now) ns)
    (drop_all c.loop-item.item-index c.args.scope.now.terms.now.order (search rules))) c.loop-item.invariant
