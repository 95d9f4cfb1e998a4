-- Each phase's refusal is one of the tree, where the phases before it have passed.
use Rattle.std.proofs.Common.{◌≡◌, List, ℕ, map, subst}
use Rattle.cat_order.specs.Order.{IsOrder}
use Rattle.cat_value.specs.declared.decls.Decls.{Decls}
use Rattle.cat_value.specs.Laws.{AreSound}
use Rattle.cat_tree.specs.declared.program.Tree.{Tree}
use Rattle.cat_scope.specs.declared.defs.Body.{Body}
use Rattle.cat_scope.specs.Chains.{HasShortChains}
use Rattle.cat_scope.specs.Orders.{scope_dependencies}
use Rattle.cat_names.specs.declared.fault.Refusal.{Refusal}
use Rattle.cat_names.specs.Accepted.{unordered, IsMeant, IsProgramOf, IsRefused}
use Rattle.cat_names.specs.Accepted as refused
use Rattle.cat_names.specs.Cycles.{IsScopeCycle, IsItemCycle, past_functions}
use Rattle.cat_names.proofs.Exported.{in_front}
use Rattle.cat_check.specs.Cause.{Because}
use Rattle.cat_check.specs.inside.Ordered.{AreInOrder, AreItemized}
use Rattle.cat_check.specs.inside.Chained.{AreShort, IsChainFault, IsFunctionFault}
use Rattle.cat_check.proofs.Ordering.{all_itemized, because}
use Rattle.cat_check.proofs.Chaining.{CyclesLeaveNone, no_cycle, no_cycles, made_meant, dependencies_kept, program}

module _ (none : CyclesLeaveNone) (ds : Decls) (sound : AreSound ds) (tree : Tree) (bodies : List Body)
    (meant : IsMeant tree ds bodies) where
  pub scope_refused : (r : Refusal) → Because (IsScopeCycle tree ds bodies) r → Because (IsRefused tree) r
  scope_refused r h =
      because (IsScopeCycle tree ds bodies) (IsRefused tree) (λ fault is. refused.scope_cycle ds bodies meant is) r h

  module _ (order : List ℕ) (is : IsOrder (scope_dependencies ds.scopes bodies) order) where
    pub item_refused : (r : Refusal) → Because (IsItemCycle ds bodies) r → Because (IsRefused tree) r
    item_refused r h = because (IsItemCycle ds bodies) (IsRefused tree) (λ fault cycle.
        refused.item_cycle ds bodies meant (no_cycle none (scope_dependencies ds.scopes bodies) order is) cycle) r h

    module _ (made : List Body) (kept : map unordered made ≡ map unordered bodies)
        (in_order : AreInOrder ds.scopes made) where
      pub meant_still : IsMeant tree ds made
      meant_still = made_meant ds sound tree bodies made meant kept

      pub order_still : IsOrder (scope_dependencies ds.scopes made) order
      order_still = subst (λ deps. IsOrder deps order) (dependencies_kept ds sound tree bodies made meant kept) is

      pub chain_refused : (r : Refusal) → Because (IsChainFault tree ds made) r → Because (IsRefused tree) r
      chain_refused r h = because (IsChainFault tree ds made) (IsRefused tree) (λ fault there.
          refused.chain ds made meant_still (no_cycle none (scope_dependencies ds.scopes made) order order_still)
          (no_cycles none ds.scopes made in_order) there) r h

      pub itemized_still : AreItemized ds.scopes made
      itemized_still = all_itemized ds sound tree made meant_still

      pub function_refused : (r : Refusal) → Because (IsFunctionFault ds.scopes made) r → Because (IsRefused tree) r
      function_refused r h = chain_refused r (because (IsFunctionFault ds.scopes made) (IsChainFault tree ds made)
          (λ fault there. in_front fault (past_functions ds.scopes made) _ there) r h)

      pub arranged_program : AreShort ds.scopes made → HasShortChains (scope_dependencies ds.scopes made)
          → IsProgramOf tree ds made order
      arranged_program short chains = program ds sound tree made order meant_still in_order short order_still chains
