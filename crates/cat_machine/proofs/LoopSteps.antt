-- What instructions do with loops, to a machine and to the state that it stands for.
use Rattle.std.proofs.Common.{◌≡◌, ◌≢◌, ℕ, suc, ◌+◌, ◌-◌, ◌<◌, ◌≤◌, Bool, true, false, List, [], ◌∷◌, ◌++◌}
use Rattle.std.proofs.Common.{length, map, take, drop, Some}
use Rattle.std.proofs.Common.{Result, slice_get, refl, sym, ap, ◌∙◌, subst, arith}
use Rattle.std.proofs.lemmas.List.{map-append}
use Rattle.cat_value.specs.declared.value.Value.{Value}
use Rattle.cat_scope.specs.declared.stop.Stop.{Stop}
use Rattle.cat_scope.specs.Projections.{elements}
use Rattle.cat_scope.specs.Replies.{known}
use Rattle.cat_code.specs.declared.code.Tables.{Tables}
use Rattle.cat_code.specs.declared.instr.Instr.TheVariants as instr
use Rattle.cat_code.specs.Machine.{act}
use Rattle.cat_code.specs.Moves.{next_of, of_top, pop, starts, with_collected, with_part}
use Rattle.cat_code.specs.States.{Goes, Loop, Next, State, at as placed, on, stuck, to}
use Rattle.cat_pool.specs.declared.node.PoolNode.{PoolNode}
use Rattle.cat_pool.specs.declared.node.PoolNode.TheVariants as node
use Rattle.cat_pool.specs.declared.node.Refs.{Refs}
use Rattle.cat_pool.proofs.Exported.{below-more}
use Rattle.cat_pool.specs.Nodes.{Standing, IsPlaced, at, in_range, kept_parts, listed, seen_at, value_in}
use Rattle.cat_pool.specs.Nodes.{values}
use Rattle.cat_machine.specs.declared.machine.Machine.{Machine}
use Rattle.cat_machine.specs.declared.machine.LoopHead.{LoopHead}
use Rattle.cat_machine.specs.Layers.{extended, rest_of, top_head, top_items}
use Rattle.cat_machine.specs.States.{collected_of, decided, loop_of, state_at}
use Rattle.cat_machine.specs.Steps.{behind}
use Rattle.cat_machine.specs.inside.Looping.{BeginsLoop, TopIsList}
use Rattle.cat_machine.specs.inside.Machines.{IsMachine, LayersBelow, LoopsWithin}
use Rattle.cat_machine.proofs.Holding.{below_split, layers_extended, layers_rest, loops_extended}
use Rattle.cat_machine.proofs.Holding.{loops_rest, with_loops, without_operand}
use Rattle.cat_machine.proofs.NodeKinds.{at_is, elements_are, elements_need, no_list, no_ok}
use Rattle.cat_machine.proofs.Growth.{machine_put, state_put}
use Rattle.cat_machine.proofs.Popping.{going_on, popped_so, quietly}

-- ---- a loop begins

module _ (tables : Tables) (place : ℕ) (m : Machine) where
  -- the instruction that begins a loop
  abbrev begun_by : Bool → Next
  begun_by collects = pop (state_at tables place m) (λ v s. starts (collected_of collects []) v s)

  top_is_list : (collects : Bool) → begun_by collects ≢ stuck → TopIsList m
  top_is_list collects going = by m.operands refl
    where
      by : (operands : List ℕ) → m.operands ≡ operands → TopIsList m
      by [] is =
          absurd
          (going
          (ap (λ (l : List Value). of_top l
          (λ v vs. starts (collected_of collects []) v (record (state_at tables place m) { operands = vs })))
          (ap (seen_at m.pool) is)))
      by (r ∷ rest) is = record {
        top = r;
        rest = rest;
        operands = is;
        list = elements_need (at (values m.pool) r)
            (λ vs. on (record (state_at tables place (record m { operands = rest })) {
              loops = record { left = vs; collected = collected_of collects [] } ∷ map (loop_of m.pool) m.loops;
            }))
            (going_on (begun_by collects)
            (starts (collected_of collects []) (at (values m.pool) r)
            (state_at tables place (record m { operands = rest })))
            (popped_so tables place r rest m (λ v s. starts (collected_of collects []) v s) is) going);
      }

  begun_told : (new : Machine) (collects : Bool) → BeginsLoop m new collects
      → begun_by collects ≡ Goes [] (state_at tables (place + 1) new)
  begun_told new collects b =
      popped_so tables place b.top new.operands m (λ v s. starts (collected_of collects []) v s) b.popped
      ∙ ap (λ (v : Value). starts (collected_of collects []) v
      (state_at tables place (record m { operands = new.operands }))) b.list
      ∙ ap (λ (o : Result (List Value) Stop). with_part o
      (λ vs. on (record (state_at tables place (record m { operands = new.operands })) {
        loops = record { left = vs; collected = collected_of collects [] } ∷ map (loop_of m.pool) m.loops;
      }))) (elements_are (seen_at m.pool (in_range (kept_parts m.pool) b.left)))
      ∙ ap (λ (n : Machine). Goes [] (state_at tables (place + 1) n)) (sym b.same)

  pub iter_needs : act tables instr.Iter (state_at tables place m) ≢ stuck → TopIsList m
  iter_needs going = top_is_list false going

  pub iter_list_needs : (k : ℕ) → act tables (instr.IterList k) (state_at tables place m) ≢ stuck → TopIsList m
  iter_list_needs k going = top_is_list true going

  pub iter_told : (new : Machine) → BeginsLoop m new false
      → behind (decided tables m.log) (act tables instr.Iter (state_at tables place m))
      ≡ Goes (decided tables new.log) (state_at tables (place + 1) new)
  iter_told new b =
      quietly (decided tables m.log) (act tables instr.Iter (state_at tables place m)) (state_at tables (place + 1) new)
      (begun_told new false b)
      ∙ ap (λ (n : Machine). Goes (decided tables n.log) (state_at tables (place + 1) new)) (sym b.same)

  pub iter_list_told : (k : ℕ) (new : Machine) → BeginsLoop m new true
      → behind (decided tables m.log) (act tables (instr.IterList k) (state_at tables place m))
      ≡ Goes (decided tables new.log) (state_at tables (place + 1) new)
  iter_list_told k new b =
      quietly (decided tables m.log) (act tables (instr.IterList k) (state_at tables place m))
      (state_at tables (place + 1) new)
      (begun_told new true b)
      ∙ ap (λ (n : Machine). Goes (decided tables n.log) (state_at tables (place + 1) new)) (sym b.same)

pub begun_machine : (tables : Tables) (m new : Machine) (collects : Bool) → IsMachine tables m
    → BeginsLoop m new collects
    → IsMachine tables new
begun_machine tables m new collects is b =
    subst (λ (n : Machine). IsMachine tables n) (sym b.same)
    (with_loops tables (record m { operands = new.operands }) (without_operand tables m is b.top new.operands b.popped)
    ((record { left = b.left; collects = collects }, []) ∷ m.loops) (b.within, is.loops) (tt, is.collected))

-- ---- the loop on top

pub head_is : {H T : Type 0} (ls : List (H × List T)) (h : H) → top_head ls ≡ Some h
    → ls ≡ (h, top_items ls) ∷ rest_of ls
head_is [] h is = absurd (cc is)
head_is (l ∷ ls) h is = let same : l.0 ≡ h = cc is in ap (λ g. (g, l.1) ∷ ls) same

-- none is left
pub range_over : (kept : List ℕ) (left : Refs) → left.end ≤ left.start → in_range kept left ≡ []
range_over kept left over = let none : left.end - left.start ≡ 0 =
    omega (arith, over) in ap (λ k. take k (drop left.start kept)) none

-- a loop less
pub closed_machine : (tables : Tables) (m : Machine) → IsMachine tables m
    → IsMachine tables (record m { loops = rest_of m.loops })
closed_machine tables m is =
    with_loops tables m is (rest_of m.loops) (loops_rest m.pool m.loops is.loops)
    (layers_rest (length m.pool) m.loops is.collected)

module _ (tables : Tables) (place t : ℕ) (m : Machine) where
  abbrev next_go : Loop → List Loop → Next
  next_go loop loops = next_of loop.left t loop loops (state_at tables place m)

  next_is : (head : LoopHead) → top_head m.loops ≡ Some head → (vs : List Value)
      → seen_at m.pool (in_range (kept_parts m.pool) head.left) ≡ vs
      → act tables (instr.Next t) (state_at tables place m)
      ≡ next_of vs t (record { left = vs; collected = collected_of head.collects (seen_at m.pool (top_items m.loops)) })
      (map (loop_of m.pool) (rest_of m.loops)) (state_at tables place m)
  next_is head is vs seen =
      ap (λ (l : List (LoopHead × List ℕ)). of_top (map (loop_of m.pool) l) next_go) (head_is m.loops head is)
      ∙ ap (λ (ws : List Value). next_go
      (record { left = ws; collected = collected_of head.collects (seen_at m.pool (top_items m.loops)) })
      (map (loop_of m.pool) (rest_of m.loops))) seen

  -- the end of one that does
  pub next_collected : (head : LoopHead) (loops : List (LoopHead × List ℕ)) (r : ℕ) (pool : List Standing)
      (operands : List ℕ)
      → IsMachine tables m → top_head m.loops ≡ Some head → head.left.end ≤ head.left.start → head.collects ≡ true
      → loops ≡ rest_of m.loops → pool ≡ m.pool ++ listed m.pool (top_items m.loops) ∷ [] → r ≡ length m.pool
      → operands ≡ r ∷ m.operands
      → behind (decided tables m.log) (act tables (instr.Next t) (state_at tables place m))
      ≡ Goes (decided tables m.log) (state_at tables t (record m { pool = pool; operands = operands; loops = loops }))
  next_collected head loops r pool operands machine is over collecting closed put place_is pushed =
      quietly (decided tables m.log) (act tables (instr.Next t) (state_at tables place m))
      (state_at tables t (record m { pool = pool; operands = operands; loops = loops }))
      (next_is head is [] (ap (seen_at m.pool) (range_over (kept_parts m.pool) head.left over))
      ∙ ap (λ (b : Bool). to t (with_collected (collected_of b (seen_at m.pool (top_items m.loops)))
      (record (state_at tables place m) { loops = map (loop_of m.pool) (rest_of m.loops) }))) collecting
      ∙ ap (Goes [])
      (state_put tables (record m { loops = rest_of m.loops }) (listed m.pool (top_items m.loops)) r pool operands
      (closed_machine tables m machine) put place_is pushed t)
      ∙ ap (λ (l : List (LoopHead × List ℕ)). Goes []
      (state_at tables t (record m { pool = pool; operands = operands; loops = l }))) (sym closed))

-- ---- another value is collected

abbrev collect_go : Value → State → List Loop → Next
collect_go v s ls =
    of_top ls
    (λ loop loops. with_part (known loop.collected)
    (λ vs. on (record s { loops = record loop { collected = Some (vs ++ v ∷ []) } ∷ loops })))

abbrev loop_at : List Standing → Refs → Bool → List ℕ → Loop
loop_at pool left collects items = loop_of pool (record { left = left; collects = collects }, items)

collect_in : (pool : List Standing) (r : ℕ) (s : State) (ls : List (LoopHead × List ℕ))
    → collect_go (at (values pool) r) s (map (loop_of pool) ls) ≢ stuck
    → collect_go (at (values pool) r) s (map (loop_of pool) ls)
    ≡ on (record s { loops = map (loop_of pool) (extended (r ∷ []) ls) })
collect_in pool r s [] going = absurd (going refl)
collect_in pool r s (l ∷ ls) going = by l.0.collects going
  where
    by : (collects : Bool)
        → collect_go (at (values pool) r) s (loop_at pool l.0.left collects l.1 ∷ map (loop_of pool) ls) ≢ stuck
        → collect_go (at (values pool) r) s (loop_at pool l.0.left collects l.1 ∷ map (loop_of pool) ls)
        ≡ on (record s { loops = loop_at pool l.0.left collects (l.1 ++ r ∷ []) ∷ map (loop_of pool) ls })
    by false going = absurd (going refl)
    by true going =
        ap (λ (vs : List Value). on (record s {
          loops = record { left = seen_at pool (in_range (kept_parts pool) l.0.left); collected = Some vs } ∷ map
              (loop_of pool) ls;
        })) (sym (map-append (at (values pool)) l.1 (r ∷ [])))

module _ (tables : Tables) (place : ℕ) (m : Machine) where
  abbrev collecting : Value → State → Next
  collecting v s = collect_go v s s.loops

  pub collect_needs : (r : ℕ) (operands : List ℕ) → m.operands ≡ r ∷ operands
      → act tables instr.Collect (state_at tables place m) ≢ stuck
      → 1 ≤ length m.loops
  collect_needs r operands popped going =
      by m.loops (going_on (act tables instr.Collect (state_at tables place m))
      (collecting (at (values m.pool) r) (state_at tables place (record m { operands = operands })))
      (popped_so tables place r operands m collecting popped) going)
    where
      by : (ls : List (LoopHead × List ℕ))
          → collect_go (at (values m.pool) r) (state_at tables place (record m { operands = operands }))
          (map (loop_of m.pool) ls) ≢ stuck → 1 ≤ length ls
      by [] going = absurd (going refl)
      by (l ∷ ls) going = omega arith

  pub collect_told : (r : ℕ) (operands : List ℕ) (loops : List (LoopHead × List ℕ)) → m.operands ≡ r ∷ operands
      → loops ≡ extended (r ∷ []) m.loops → act tables instr.Collect (state_at tables place m) ≢ stuck
      → behind (decided tables m.log) (act tables instr.Collect (state_at tables place m))
      ≡ Goes (decided tables m.log) (state_at tables (place + 1) (record m { operands = operands; loops = loops }))
  collect_told r operands loops popped longer going =
      quietly (decided tables m.log) (act tables instr.Collect (state_at tables place m))
      (state_at tables (place + 1) (record m { operands = operands; loops = loops }))
      (popped_so tables place r operands m collecting popped
      ∙ collect_in m.pool r (state_at tables place (record m { operands = operands })) m.loops
      (going_on (act tables instr.Collect (state_at tables place m))
      (collecting (at (values m.pool) r) (state_at tables place (record m { operands = operands })))
      (popped_so tables place r operands m collecting popped) going)
      ∙ ap (λ (l : List (LoopHead × List ℕ)). Goes []
      (record (state_at tables (place + 1) (record m { operands = operands })) { loops = map (loop_of m.pool) l }))
      (sym longer))

  -- ---- a loop is left

  pub leave_needs : act tables instr.Leave (state_at tables place m) ≢ stuck → 1 ≤ length m.loops
  leave_needs going = by m.loops refl
    where
      by : (ls : List (LoopHead × List ℕ)) → m.loops ≡ ls → 1 ≤ length m.loops
      by [] is =
          absurd (going (ap (λ (l : List (LoopHead × List ℕ)). of_top (map (loop_of m.pool) l)
          (λ loop loops. on (record (state_at tables place m) { loops = loops }))) is))
      by (l ∷ ls) is = let long : length m.loops ≡ suc (length ls) = ap length is in omega (arith, long)

  pub leave_told : (loops : List (LoopHead × List ℕ)) → 1 ≤ length m.loops → loops ≡ rest_of m.loops
      → behind (decided tables m.log) (act tables instr.Leave (state_at tables place m))
      ≡ Goes (decided tables m.log) (state_at tables (place + 1) (record m { loops = loops }))
  leave_told loops some closed =
      quietly (decided tables m.log) (act tables instr.Leave (state_at tables place m))
      (state_at tables (place + 1) (record m { loops = loops }))
      (by m.loops some
      ∙ ap (λ (l : List (LoopHead × List ℕ)). Goes [] (state_at tables (place + 1) (record m { loops = l })))
      (sym closed))
    where
      by : (ls : List (LoopHead × List ℕ)) → 1 ≤ length ls
          → of_top (map (loop_of m.pool) ls) (λ loop loops. on (record (state_at tables place m) { loops = loops }))
          ≡ on (record (state_at tables place m) { loops = map (loop_of m.pool) (rest_of ls) })
      by [] some = absurd (omega (arith, some))
      by (l ∷ ls) some = refl

-- ---- machines

module _ (tables : Tables) (m : Machine) (is : IsMachine tables m) where
  pub left_machine : (loops : List (LoopHead × List ℕ)) → loops ≡ rest_of m.loops
      → IsMachine tables (record m { loops = loops })
  left_machine loops closed =
      subst (λ (l : List (LoopHead × List ℕ)). IsMachine tables (record m { loops = l })) (sym closed)
      (closed_machine tables m is)

  pub ended_machine : (loops : List (LoopHead × List ℕ)) (r : ℕ) (pool : List Standing) (operands : List ℕ)
      (refs : List ℕ)
      → loops ≡ rest_of m.loops → pool ≡ m.pool ++ listed m.pool refs ∷ [] → r ≡ length m.pool
      → operands ≡ r ∷ m.operands
      → IsMachine tables (record m { pool = pool; operands = operands; loops = loops })
  ended_machine loops r pool operands refs closed put place_is pushed =
      machine_put tables (record m { loops = loops }) (listed m.pool refs) r pool operands (left_machine loops closed)
      put place_is pushed

  pub collected_machine : (r : ℕ) (operands : List ℕ) (loops : List (LoopHead × List ℕ)) → m.operands ≡ r ∷ operands
      → loops ≡ extended (r ∷ []) m.loops → IsMachine tables (record m { operands = operands; loops = loops })
  collected_machine r operands loops popped longer =
      with_loops tables (record m { operands = operands }) (without_operand tables m is r operands popped) loops
      (subst (λ (l : List (LoopHead × List ℕ)). LoopsWithin m.pool l) (sym longer)
      (loops_extended m.pool (r ∷ []) m.loops is.loops))
      (subst (λ (l : List (LoopHead × List ℕ)). LayersBelow (length m.pool) l) (sym longer)
      (layers_extended (length m.pool) (r ∷ []) m.loops is.collected
      ((below_split (length m.pool) m.operands r operands popped is.operands).0, tt)))

-- ---- the list that is gone over

-- a node that is no list isn't on top
pub begin_list : (m : Machine) (t : TopIsList m) (r : ℕ) (rest : List ℕ) (n : PoolNode) → m.operands ≡ r ∷ rest
    → slice_get (values m.pool) r ≡ Some (value_in m.pool n) → ((refs : Refs) → n ≡ node.List refs → ⊥) → ⊥
begin_list m t r rest n popped there other =
    let both : t.top ∷ t.rest ≡ r ∷ rest = sym t.operands ∙ popped in
    let same : t.top ≡ r = cc both in
    no_ok (elements (at (values m.pool) t.top))
    (ap (λ k. elements (at (values m.pool) k)) same
    ∙ ap elements (at_is (values m.pool) r (value_in m.pool n) there)
    ∙ no_list m.pool n other) t.list

pub begins : (m : Machine) (r : ℕ) (operands : List ℕ) (loops : List (LoopHead × List ℕ)) (left : Refs) (n : PoolNode)
    (collects : Bool)
    → m.operands ≡ r ∷ operands → slice_get (values m.pool) r ≡ Some (value_in m.pool n) → n ≡ node.List left
    → IsPlaced m.pool r n
    → r < length m.pool → loops ≡ (record { left = left; collects = collects }, []) ∷ m.loops
    → BeginsLoop m (record m { operands = operands; loops = loops }) collects
begins m r operands loops left n collects popped there is placed below opened = record {
  top = r;
  left = left;
  popped = popped;
  same = ap (λ (l : List (LoopHead × List ℕ)). record m { operands = operands; loops = l }) opened;
  list = at_is (values m.pool) r (value_in m.pool n) there ∙ ap (λ (k : PoolNode). value_in m.pool k) is;
  within = let lies : IsPlaced m.pool r (node.List left) = subst (λ (k : PoolNode). IsPlaced m.pool r k) is placed in
      record {
        within = lies.0;
        below = below-more r (length m.pool) (in_range (kept_parts m.pool) left) (omega (arith, below)) lies.1;
      };
}
