-- A scope is pending: its slots are empty, one after the other.
use Rattle.std.proofs.Common.{◌≡◌, ◌≢◌, ℕ, zero, suc, ◌+◌, ◌≤◌, List, [], ◌∷◌, ◌++◌, length, map, Option, Some, None}
use Rattle.std.proofs.Common.{slice_get, refl, sym, ap, ◌∙◌, subst, arith}
use Rattle.cat_value.specs.declared.declaration.ItemDecl.{ItemDecl}
use Rattle.cat_value.specs.declared.declaration.Scope.{Scope}
use Rattle.cat_value.specs.declared.decls.Decls.{Decls}
use Rattle.cat_scope.specs.Calls.{Items}
use Rattle.cat_scope.specs.Names.{items_in, scope_items}
use Rattle.cat_scope.specs.Running.{no_values}
use Rattle.cat_code.specs.declared.code.Tables.{Tables}
use Rattle.cat_code.specs.declared.instr.Instr.TheVariants as instr
use Rattle.cat_code.specs.Machine.{act}
use Rattle.cat_code.specs.States.{Goes}
use Rattle.cat_pool.specs.Nodes.{Standing}
use Rattle.cat_machine.specs.declared.machine.Machine.{Machine}
use Rattle.cat_machine.specs.Layers.{extended}
use Rattle.cat_machine.specs.States.{decided, pending_of, slots_of, state_at}
use Rattle.cat_machine.specs.Steps.{OneMore, behind}
use Rattle.cat_machine.specs.inside.Calling.{empties}
use Rattle.cat_machine.specs.inside.Machines.{IsMachine, SlotLayersBelow, SlotsBelow}
use Rattle.cat_machine.proofs.Growth.{no_more}
use Rattle.cat_machine.proofs.Holding.{with_pending}
use Rattle.cat_machine.proofs.Popping.{quietly}

empties_more : (n : ℕ) → empties n ++ None ∷ [] ≡ empties (n + 1)
empties_more zero = refl
empties_more (suc n) =
    let next : suc n + 1 ≡ suc (n + 1) = omega arith in
    ap (λ (l : List (Option ℕ)). None ∷ l) (empties_more n) ∙ ap empties (sym next)

empties_are : (nodes : List Standing) (items : List ItemDecl)
    → slots_of nodes (empties (length items)) ≡ no_values items
empties_are nodes [] = refl
empties_are nodes (item ∷ items) = ap (λ (l : Items). None ∷ l) (empties_are nodes items)

empties_below : (n k : ℕ) → SlotsBelow n (empties k)
empties_below n zero = tt
empties_below n (suc k) = empties_below n k

module _ (tables : Tables) (place : ℕ) (m : Machine) where
  scope_told : (n : ℕ) (pending : List (ℕ × List (Option ℕ)))
      → pending ≡ (n, empties (length (scope_items tables.decls n))) ∷ m.pending
      → behind (decided tables m.log) (act tables (instr.Scope n) (state_at tables place m))
      ≡ Goes (decided tables m.log) (state_at tables (place + 1) (record m { pending = pending }))
  scope_told n pending opened =
      quietly (decided tables m.log) (act tables (instr.Scope n) (state_at tables place m))
      (state_at tables (place + 1) (record m { pending = pending }))
      (ap (λ (vs : Items). Goes [] (record (state_at tables (place + 1) m) {
        pending = record { scope = n; slots = vs } ∷ map (pending_of m.pool) m.pending;
      })) (sym (empties_are m.pool (scope_items tables.decls n)))
      ∙ ap (λ (l : List (ℕ × List (Option ℕ))). Goes [] (state_at tables (place + 1) (record m { pending = l })))
      (sym opened))

  scope_machine : (n k : ℕ) (pending : List (ℕ × List (Option ℕ))) → IsMachine tables m
      → pending ≡ (n, empties k) ∷ m.pending
      → IsMachine tables (record m { pending = pending })
  scope_machine n k pending is opened =
      with_pending tables m is pending
      (subst (λ (l : List (ℕ × List (Option ℕ))). SlotLayersBelow (length m.pool) l) (sym opened)
      (empties_below (length m.pool) k, is.pending))

-- ---- one slot after the other

-- the slots of a scope that is not entered yet, up to one of its items
pub record Opening (old new : Machine) (n i all : ℕ) : Type 0 where
  pub same : new ≡ record old { pending = new.pending }
  pub opened : new.pending ≡ (n, empties i) ∷ old.pending
  pub few : i ≤ all

pub opening : (m : Machine) (n all : ℕ) (pending : List (ℕ × List (Option ℕ))) → pending ≡ (n, []) ∷ m.pending
    → Opening m (record m { pending = pending }) n 0 all
opening m n all pending first = record { same = refl; opened = first; few = omega arith }

pub opening_more : (old new : Machine) (n i all : ℕ) (pending : List (ℕ × List (Option ℕ))) → Opening old new n i all
    → suc i ≤ all → pending ≡ extended (None ∷ []) new.pending
    → Opening old (record new { pending = pending }) n (i + 1) all
opening_more old new n i all pending are next pushed = record {
  same = ap (λ (m : Machine). record m { pending = pending }) are.same;
  opened = pushed
      ∙ ap (λ (l : List (ℕ × List (Option ℕ))). extended (None ∷ []) l) are.opened
      ∙ ap (λ (l : List (Option ℕ)). (n, l) ∷ old.pending) (empties_more i);
  few = omega (arith, next);
}

pub opening_some : (old new : Machine) (n i all : ℕ) → Opening old new n i all → new.pending ≢ []
opening_some old new n i all are none = absurd (cc (sym are.opened ∙ none))

pub opening_pool : (old new : Machine) (n i all : ℕ) → Opening old new n i all → OneMore old.pool new.pool
opening_pool old new n i all are =
    subst (λ (l : List Standing). OneMore old.pool l) (sym (ap (λ (m : Machine). m.pool) are.same)) (no_more old.pool)

-- ---- all of them

-- the slots of a scope of the tables
pub items_are : (ds : Decls) (n : ℕ) (scope : Scope) (items : List ItemDecl) → slice_get ds.scopes n ≡ Some scope
    → items ≡ scope.items
    → length items ≡ length (scope_items ds n)
items_are ds n scope items there are = ap length are ∙ sym (ap (λ (o : Option Scope). length (items_in o)) there)

module _ (tables : Tables) (place : ℕ) (old new : Machine) (n : ℕ) where
  pub opened_told : (i all : ℕ) → Opening old new n i all → all ≤ i → all ≡ length (scope_items tables.decls n)
      → behind (decided tables old.log) (act tables (instr.Scope n) (state_at tables place old))
      ≡ Goes (decided tables new.log) (state_at tables (place + 1) new)
  opened_told i all are past long =
      let few = are.few in
      let as_many : i ≡ length (scope_items tables.decls n) = omega (arith, past, few, long) in
      subst (λ (m : Machine). behind (decided tables old.log) (act tables (instr.Scope n) (state_at tables place old))
      ≡ Goes (decided tables m.log) (state_at tables (place + 1) m)) (sym are.same)
      (scope_told tables place old n new.pending (are.opened ∙ ap (λ k. (n, empties k) ∷ old.pending) as_many))

  pub opened_machine : (i all : ℕ) → Opening old new n i all → IsMachine tables old → IsMachine tables new
  opened_machine i all are is =
      subst (λ (m : Machine). IsMachine tables m) (sym are.same)
      (scope_machine tables place old n i new.pending is are.opened)
