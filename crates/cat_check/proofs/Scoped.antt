-- Scopes in order, and the calls on a cycle.
use Rattle.std.proofs.Common.{◌≡◌, ◌⊎◌, ◌<◌, ℕ, List, length, sym, ap, subst, inl, inr}
use Rattle.std.proofs.Common.{arith}
use Rattle.std.proofs.lemmas.List.{length-map}
use Rattle.cat_pos.specs.declared.pos.Pos.{Pos}
use Rattle.cat_pos.specs.declared.limits.TheConstants.{ENTRIES_BOUND}
use Rattle.cat_order.specs.Order.{AreItems}
use Rattle.cat_value.specs.declared.declaration.Kind.TheVariants as kind
use Rattle.cat_value.specs.declared.declaration.ItemDecl.{ItemDecl}
use Rattle.cat_value.specs.declared.decls.Decls.{Decls}
use Rattle.cat_value.specs.Laws.{AreSound}
use Rattle.cat_tree.specs.declared.program.Tree.{Tree}
use Rattle.cat_scope.specs.declared.defs.Body.{Body}
use Rattle.cat_scope.specs.Names.{IsOneOf, items_in, scope_items}
use Rattle.cat_scope.specs.Orders.{scope_dependencies}
use Rattle.cat_names.specs.declared.fault.Fault.TheVariants.{ScopeCycle}
use Rattle.cat_names.specs.Accepted.{IsMeant}
use Rattle.cat_names.specs.Cycles.{IsScopeCycle, IsCallOnCycle}
use Rattle.cat_names.specs.ScopeWords.{words_in, IsWordOf}
use Rattle.cat_names.proofs.Exported.{CallOf, meant_called, meant_calls, meant_counted, meant_scopes}
use Rattle.cat_depend.specs.Listed.{listed_calls}
use Rattle.cat_check.specs.inside.Calls.{IsCall, IsCallAt}

module _ (ds : Decls) (sound : AreSound ds) (tree : Tree) (bodies : List Body) (meant : IsMeant tree ds bodies) where
  pub few : length bodies < ENTRIES_BOUND
  few = omega (arith, meant_counted ds sound tree bodies meant, sound.scopes_counted)

  pub listed : listed_calls bodies ≡ scope_dependencies ds.scopes bodies
  listed = meant_calls ds sound tree bodies meant

  pub scopes_are : AreItems (listed_calls bodies)
  scopes_are = subst AreItems (sym listed) (meant_scopes ds sound tree bodies meant)

  pub caller_there : (n : ℕ) → n < length (listed_calls bodies) → n < length ds.scopes
  caller_there n less = omega (
    arith,
    less,
    length-map bodies (λ (b : Body). b.calls),
    meant_counted ds sound tree bodies meant,
  )

  module _ (caller called : ℕ) (on : IsCallOnCycle (listed_calls bodies) caller called) where
    on_cycle : IsCallOnCycle (scope_dependencies ds.scopes bodies) caller called
    on_cycle = subst (λ deps. IsCallOnCycle deps caller called) listed on

    call : CallOf ds sound tree bodies meant caller called
    call = meant_called ds sound tree bodies meant caller called on_cycle.0

    items_are : scope_items ds caller ≡ call.scope.items
    items_are = ap items_in call.scope_is

    pub there_is_a_call : IsCall tree ds caller called
    there_is_a_call = by call.source
      where
        by : (((i : ItemDecl) × IsOneOf i call.scope.items × (i.kind ≡ kind.Called called))
            ⊎ IsWordOf ds (words_in ds caller tree.items) called) → IsCall tree ds caller called
        by (inl (i, among, is)) = inl (i, subst (λ (items : List ItemDecl). IsOneOf i items) (sym items_are) among, is)
        by (inr word) = inr word

    pub call_is_cycle : (p : Pos) → IsCallAt tree ds caller called p → IsScopeCycle tree ds bodies (ScopeCycle p)
    call_is_cycle p (inl (i, among, is, at)) = inl (record {
      caller = caller;
      called = called;
      scope = call.scope;
      item = i;
      scope_is = call.scope_is;
      item_is = subst (λ (items : List ItemDecl). IsOneOf i items) items_are among;
      kind_is = is;
      on_cycle = on_cycle;
      fault_is = ap ScopeCycle at;
    })
    call_is_cycle p (inr word) = inr (record {
      caller = caller;
      called = word.found;
      word = word.word;
      word_is = word.there;
      called_is = word.found_is;
      on_cycle = subst (λ m. IsCallOnCycle (scope_dependencies ds.scopes bodies) caller m) (sym word.number) on_cycle;
      fault_is = ap ScopeCycle word.position_is;
    })
