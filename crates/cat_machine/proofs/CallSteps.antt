-- What instructions do with frames, to a machine and to the state that it stands for.
use Rattle.std.proofs.Common.{◌≡◌, ◌≢◌, ℕ, zero, suc, ◌+◌, ◌<◌, ◌≤◌, Bool, true, false, List, [], ◌∷◌, ◌++◌, length}
use Rattle.std.proofs.Common.{map, take, drop, reverse, Option, Some, None}
use Rattle.std.proofs.Common.{slice_get, refl, sym, ap, ◌∙◌, subst, arith, append-nil, append_assoc}
use Rattle.std.proofs.lemmas.List.{length-map, reverse-append}
use Rattle.cat_value.specs.declared.value.Value.{Value}
use Rattle.cat_scope.specs.Calls.{Items}
use Rattle.cat_scope.specs.Replies.{known}
use Rattle.cat_scope.specs.Running.{with_entry}
use Rattle.cat_code.specs.declared.code.Tables.{Tables}
use Rattle.cat_code.specs.declared.instr.Instr.TheVariants as instr
use Rattle.cat_code.specs.Machine.{act}
use Rattle.cat_code.specs.Moves.{enters, of_top, pop_all, popped, with_part}
use Rattle.cat_code.specs.States.{Goes, Next, Pending, State, on, stuck}
use Rattle.cat_pool.specs.Nodes.{Standing, AreBelow, at, seen_at, values}
use Rattle.cat_pool.proofs.Exported.{below-drop, below-take}
use Rattle.cat_machine.specs.declared.machine.Machine.{Machine}
use Rattle.cat_machine.specs.declared.machine.Return.{Return}
use Rattle.cat_machine.specs.Layers.{extended, rest_of, top_head, top_items, with_item}
use Rattle.cat_machine.specs.States.{decided, pending_of, slots_of, state_at}
use Rattle.cat_machine.specs.Steps.{behind}
use Rattle.cat_machine.specs.inside.Machines.{AreFrames, IsMachine, LayersBelow, SlotLayersBelow}
use Rattle.cat_machine.proofs.Growth.{rest_slots_below, top_slots_below}
use Rattle.cat_machine.proofs.Holding.{below_reverse, below_split, layers_rest, slot_layers_set}
use Rattle.cat_machine.proofs.Holding.{with_locals}
use Rattle.cat_machine.proofs.Holding.{with_operands, with_pending, with_slots, without_operand}
use Rattle.cat_machine.proofs.LoopSteps.{head_is}
use Rattle.cat_machine.proofs.MoveSteps.{top-with_item}
use Rattle.cat_machine.proofs.Popping.{going_on, popped_so, quietly, read_so}
use Rattle.cat_machine.proofs.Unstuck.{entry_needs}

-- ---- operands that are popped together

-- n values off a stack, in front of those that are off already
abbrev moved : {A : Type 0} → ℕ → List A → List A → List A
moved zero vs stack = vs
moved (suc n) vs [] = vs
moved (suc n) vs (v ∷ stack) = moved n (v ∷ vs) stack

-- where there are as many, they are popped
popped_are : (n : ℕ) (vs : List Value) (s : State) (stack : List Value) (go : List Value → State → Next)
    → n ≤ length stack
    → popped n vs s stack go ≡ go (moved n vs stack) (record s { operands = drop n stack })
popped_are zero vs s stack go enough = refl
popped_are (suc n) vs s [] go enough = absurd (omega (arith, enough))
popped_are (suc n) vs s (v ∷ stack) go enough = popped_are n (v ∷ vs) s stack go (omega (arith, enough))

-- and else the step is stuck
popped_enough : (n : ℕ) (vs : List Value) (s : State) (stack : List Value) (go : List Value → State → Next)
    → popped n vs s stack go ≢ stuck → n ≤ length stack
popped_enough zero vs s stack go going = omega arith
popped_enough (suc n) vs s [] go going = absurd (going refl)
popped_enough (suc n) vs s (v ∷ stack) go going =
    let rest = popped_enough n (v ∷ vs) s stack go going in omega (arith, rest)

moved-map : (vs : List Value) (n : ℕ) (first stack : List ℕ)
    → moved n (map (at vs) first) (map (at vs) stack) ≡ map (at vs) (moved n first stack)
moved-map vs zero first stack = refl
moved-map vs (suc n) first [] = refl
moved-map vs (suc n) first (r ∷ stack) = moved-map vs n (r ∷ first) stack

moved_reversed : (n : ℕ) (first stack : List ℕ) → moved n first stack ≡ reverse (take n stack) ++ first
moved_reversed zero first stack = refl
moved_reversed (suc n) first [] = refl
moved_reversed (suc n) first (r ∷ stack) =
    moved_reversed n (r ∷ first) stack
    ∙ sym (append_assoc (reverse (take n stack)) (r ∷ []) first)
    ∙ ap (λ (l : List ℕ). l ++ first) (sym (reverse-append (r ∷ []) (take n stack)))

drop_seen : (vs : List Value) (n : ℕ) (refs : List ℕ) → drop n (map (at vs) refs) ≡ map (at vs) (drop n refs)
drop_seen vs zero refs = refl
drop_seen vs (suc n) [] = refl
drop_seen vs (suc n) (r ∷ refs) = drop_seen vs n refs

module _ (tables : Tables) (place n : ℕ) (m : Machine) where
  pub all_needed : (go : List Value → State → Next) → pop_all n (state_at tables place m) go ≢ stuck
      → n ≤ length m.operands
  all_needed go going =
      let enough = popped_enough n [] (state_at tables place m) (seen_at m.pool m.operands) go going in
      omega (arith, enough, length-map m.operands (at (values m.pool)))

  -- the n on top are popped, in the order in which they were pushed
  pub all_popped : (operands : List ℕ) (go : List Value → State → Next) → n ≤ length m.operands
      → operands ≡ drop n m.operands
      → pop_all n (state_at tables place m) go
      ≡ go (seen_at m.pool (reverse (take n m.operands))) (state_at tables place (record m { operands = operands }))
  all_popped operands go enough dropped =
      let many : n ≤ length (seen_at m.pool m.operands) =
      omega (arith, enough, length-map m.operands (at (values m.pool))) in
      popped_are n [] (state_at tables place m) (seen_at m.pool m.operands) go many
      ∙ ap (λ (vs : List Value). go vs
      (record (state_at tables place m) { operands = drop n (seen_at m.pool m.operands) }))
      (moved-map (values m.pool) n [] m.operands
      ∙ ap (seen_at m.pool) (moved_reversed n [] m.operands ∙ append-nil (reverse (take n m.operands))))
      ∙ ap (λ (vs : List Value). go (seen_at m.pool (reverse (take n m.operands)))
      (record (state_at tables place m) { operands = vs }))
      (drop_seen (values m.pool) n m.operands ∙ ap (seen_at m.pool) (sym dropped))

-- ---- calls

module _ (tables : Tables) (place : ℕ) (m : Machine) where
  abbrev call_go : ℕ → List Value → State → Next
  call_go f vs s = with_part (known (slice_get tables.functions f)) (λ entry. enters entry None s.slots vs s)

  pub call_enough : (f n : ℕ) → act tables (instr.Call f n) (state_at tables place m) ≢ stuck → n ≤ length m.operands
  call_enough f n going = all_needed tables place n m (call_go f) going

  pub call_needs : (f n : ℕ) → act tables (instr.Call f n) (state_at tables place m) ≢ stuck
      → f < length tables.functions
  call_needs f n going =
      entry_needs tables.functions f
      (λ entry. enters entry None (slots_of m.pool (top_items m.slots)) (seen_at m.pool (reverse (take n m.operands)))
      (state_at tables place (record m { operands = drop n m.operands })))
      (going_on (act tables (instr.Call f n) (state_at tables place m))
      (call_go f (seen_at m.pool (reverse (take n m.operands)))
      (state_at tables place (record m { operands = drop n m.operands })))
      (all_popped tables place n m (drop n m.operands) (call_go f) (call_enough f n going) refl) going)

  pub call_told : (f n entry : ℕ) (operands : List ℕ) (locals : List (Option Return × List ℕ)) → n ≤ length m.operands
      → slice_get tables.functions f ≡ Some entry → operands ≡ drop n m.operands
      → locals ≡ (Some (record { back = place + 1; own = false }), reverse (take n m.operands)) ∷ m.locals
      → behind (decided tables m.log) (act tables (instr.Call f n) (state_at tables place m))
      ≡ Goes (decided tables m.log) (state_at tables entry (record m { operands = operands; locals = locals }))
  call_told f n entry operands locals enough there dropped opened =
      quietly (decided tables m.log) (act tables (instr.Call f n) (state_at tables place m))
      (state_at tables entry (record m { operands = operands; locals = locals }))
      (all_popped tables place n m operands (call_go f) enough dropped
      ∙ read_so tables.functions f entry
      (λ entry. enters entry None (slots_of m.pool (top_items m.slots)) (seen_at m.pool (reverse (take n m.operands)))
      (state_at tables place (record m { operands = operands }))) there
      ∙ ap (λ (l : List (Option Return × List ℕ)). Goes []
      (state_at tables entry (record m { operands = operands; locals = l }))) (sym opened))

  pub call_machine : (n back : ℕ) (operands : List ℕ) (locals : List (Option Return × List ℕ)) → IsMachine tables m
      → operands ≡ drop n m.operands
      → locals ≡ (Some (record { back = back; own = false }), reverse (take n m.operands)) ∷ m.locals
      → IsMachine tables (record m { operands = operands; locals = locals })
  call_machine n back operands locals is dropped opened =
      with_locals tables (record m { operands = operands })
      (with_operands tables m is operands
      (subst (λ (l : List ℕ). AreBelow (length m.pool) l) (sym dropped)
      (below-drop (length m.pool) n m.operands is.operands))) locals
      (subst (λ (l : List (Option Return × List ℕ)). LayersBelow (length m.pool) l) (sym opened) (
        below_reverse (length m.pool) (take n m.operands) (below-take (length m.pool) n m.operands is.operands),
        is.locals,
      ))
      (subst (λ (l : List (Option Return × List ℕ)). AreFrames l) (sym opened) is.framed)

-- ---- a slot of the scope on top

abbrev pass_go : ℕ → Value → State → List Pending → Next
pass_go i v s ps =
    of_top ps (λ p ps. on (record s { pending = record p { slots = with_entry i (Some v) p.slots } ∷ ps }))

passes_in : (pool : List Standing) (i r : ℕ) (s : State) (ps : List (ℕ × List (Option ℕ)))
    → pass_go i (at (values pool) r) s (map (pending_of pool) ps) ≢ stuck
    → pass_go i (at (values pool) r) s (map (pending_of pool) ps)
    ≡ on (record s { pending = map (pending_of pool) (with_item i (Some r) ps) })
passes_in pool i r s [] going = absurd (going refl)
passes_in pool i r s (p ∷ ps) going =
    ap (λ (vs : Items). on (record s { pending = record { scope = p.0; slots = vs } ∷ map (pending_of pool) ps }))
    (sym (top-with_item pool i r (p ∷ ps)))

module _ (tables : Tables) (place : ℕ) (m : Machine) where
  abbrev passing : ℕ → Value → State → Next
  passing i v s = pass_go i v s s.pending

  pub pass_told : (i r : ℕ) (operands : List ℕ) (pending : List (ℕ × List (Option ℕ))) → m.operands ≡ r ∷ operands
      → pending ≡ with_item i (Some r) m.pending → act tables (instr.Pass i) (state_at tables place m) ≢ stuck
      → behind (decided tables m.log) (act tables (instr.Pass i) (state_at tables place m))
      ≡ Goes (decided tables m.log) (state_at tables (place + 1) (record m { operands = operands; pending = pending }))
  pass_told i r operands pending popped filled going =
      quietly (decided tables m.log) (act tables (instr.Pass i) (state_at tables place m))
      (state_at tables (place + 1) (record m { operands = operands; pending = pending }))
      (popped_so tables place r operands m (passing i) popped
      ∙ passes_in m.pool i r (state_at tables place (record m { operands = operands })) m.pending
      (going_on (act tables (instr.Pass i) (state_at tables place m))
      (passing i (at (values m.pool) r) (state_at tables place (record m { operands = operands })))
      (popped_so tables place r operands m (passing i) popped) going)
      ∙ ap (λ (l : List (ℕ × List (Option ℕ))). Goes []
      (record (state_at tables (place + 1) (record m { operands = operands })) {
        pending = map (pending_of m.pool) l;
      })) (sym filled))

  pub pass_machine : (i r : ℕ) (operands : List ℕ) (pending : List (ℕ × List (Option ℕ))) → IsMachine tables m
      → m.operands ≡ r ∷ operands
      → pending ≡ with_item i (Some r) m.pending
      → IsMachine tables (record m { operands = operands; pending = pending })
  pass_machine i r operands pending is popped filled =
      with_pending tables (record m { operands = operands }) (without_operand tables m is r operands popped) pending
      (subst (λ (l : List (ℕ × List (Option ℕ))). SlotLayersBelow (length m.pool) l) (sym filled)
      (slot_layers_set (length m.pool) i r m.pending
      (below_split (length m.pool) m.operands r operands popped is.operands).0 is.pending))

  -- ---- the scope on top is entered

  abbrev enter_go : Pending → List Pending → Next
  enter_go p ps =
      with_part (known (slice_get tables.scopes p.scope))
      (λ entry. enters entry (Some (slots_of m.pool (top_items m.slots))) p.slots []
      (record (state_at tables place m) { pending = ps }))

  enter_is : (scope : ℕ) → top_head m.pending ≡ Some scope
      → act tables instr.Enter (state_at tables place m)
      ≡ enter_go (pending_of m.pool (scope, top_items m.pending)) (map (pending_of m.pool) (rest_of m.pending))
  enter_is scope is =
      ap (λ (l : List (ℕ × List (Option ℕ))). of_top (map (pending_of m.pool) l) enter_go) (head_is m.pending scope is)

  pub enter_needs : (scope : ℕ) → top_head m.pending ≡ Some scope
      → act tables instr.Enter (state_at tables place m) ≢ stuck
      → scope < length tables.scopes
  enter_needs scope is going =
      entry_needs tables.scopes scope
      (λ entry. enters entry (Some (slots_of m.pool (top_items m.slots))) (slots_of m.pool (top_items m.pending)) []
      (record (state_at tables place m) { pending = map (pending_of m.pool) (rest_of m.pending) }))
      (going_on (act tables instr.Enter (state_at tables place m))
      (enter_go (pending_of m.pool (scope, top_items m.pending)) (map (pending_of m.pool) (rest_of m.pending)))
      (enter_is scope is) going)

  pub enter_told : (scope entry : ℕ) (locals : List (Option Return × List ℕ))
      (slots : List (Unit {0} × List (Option ℕ)))
      (pending : List (ℕ × List (Option ℕ))) → top_head m.pending ≡ Some scope
      → slice_get tables.scopes scope ≡ Some entry
      → locals ≡ (Some (record { back = place + 1; own = true }), []) ∷ m.locals
      → slots ≡ (tt, top_items m.pending) ∷ m.slots
      → pending ≡ rest_of m.pending
      → behind (decided tables m.log) (act tables instr.Enter (state_at tables place m))
      ≡ Goes (decided tables m.log)
      (state_at tables entry (record m { locals = locals; slots = slots; pending = pending }))
  enter_told scope entry locals slots pending is there opened filled closed =
      quietly (decided tables m.log) (act tables instr.Enter (state_at tables place m))
      (state_at tables entry (record m { locals = locals; slots = slots; pending = pending }))
      (enter_is scope is
      ∙ read_so tables.scopes scope entry
      (λ entry. enters entry (Some (slots_of m.pool (top_items m.slots))) (slots_of m.pool (top_items m.pending)) []
      (record (state_at tables place m) { pending = map (pending_of m.pool) (rest_of m.pending) })) there
      ∙ ap (λ (l : List (Option Return × List ℕ)). Goes [] (state_at tables entry (record m {
        locals = l;
        slots = (tt, top_items m.pending) ∷ m.slots;
        pending = rest_of m.pending;
      }))) (sym opened)
      ∙ ap (λ (l : List (Unit {0} × List (Option ℕ))). Goes []
      (state_at tables entry (record m { locals = locals; slots = l; pending = rest_of m.pending })))
      (sym filled)
      ∙ ap (λ (l : List (ℕ × List (Option ℕ))). Goes []
      (state_at tables entry (record m { locals = locals; slots = slots; pending = l }))) (sym closed))

  pub enter_machine : (back : ℕ) (locals : List (Option Return × List ℕ)) (slots : List (Unit {0} × List (Option ℕ)))
      (pending : List (ℕ × List (Option ℕ))) → IsMachine tables m
      → locals ≡ (Some (record { back = back; own = true }), []) ∷ m.locals
      → slots ≡ (tt, top_items m.pending) ∷ m.slots
      → pending ≡ rest_of m.pending → IsMachine tables (record m { locals = locals; slots = slots; pending = pending })
  enter_machine back locals slots pending is opened filled closed =
      with_pending tables (record m { locals = locals; slots = slots })
      (with_slots tables (record m { locals = locals })
      (with_locals tables m is locals
      (subst (λ (l : List (Option Return × List ℕ)). LayersBelow (length m.pool) l) (sym opened) (tt, is.locals))
      (subst (λ (l : List (Option Return × List ℕ)). AreFrames l) (sym opened) is.framed)) slots
      (subst (λ (l : List (Unit {0} × List (Option ℕ))). SlotLayersBelow (length m.pool) l) (sym filled)
      (top_slots_below (length m.pool) m.pending is.pending, is.slots))) pending
      (subst (λ (l : List (ℕ × List (Option ℕ))). SlotLayersBelow (length m.pool) l) (sym closed)
      (rest_slots_below (length m.pool) m.pending is.pending))

  -- ---- a frame is left

  pub back_machine : (frame : Return) (locals : List (Option Return × List ℕ)) → IsMachine tables m
      → top_head m.locals ≡ Some (Some frame)
      → locals ≡ rest_of m.locals → IsMachine tables (record m { locals = locals })
  back_machine frame locals is at_top closed =
      with_locals tables m is locals
      (subst (λ (l : List (Option Return × List ℕ)). LayersBelow (length m.pool) l) (sym closed)
      (layers_rest (length m.pool) m.locals is.locals))
      (subst (λ (l : List (Option Return × List ℕ)). AreFrames l) (sym closed)
      (subst (λ (l : List (Option Return × List ℕ)). AreFrames l) (head_is m.locals (Some frame) at_top) is.framed))

  pub back_own_machine : (frame : Return) (locals : List (Option Return × List ℕ))
      (slots : List (Unit {0} × List (Option ℕ)))
      → IsMachine tables m → top_head m.locals ≡ Some (Some frame) → locals ≡ rest_of m.locals → slots ≡ rest_of m.slots
      → IsMachine tables (record m { locals = locals; slots = slots })
  back_own_machine frame locals slots is at_top closed emptied =
      with_slots tables (record m { locals = locals }) (back_machine frame locals is at_top closed) slots
      (subst (λ (l : List (Unit {0} × List (Option ℕ))). SlotLayersBelow (length m.pool) l) (sym emptied)
      (rest_slots_below (length m.pool) m.slots is.slots))

-- ---- what is opened and filled

-- the way back to a frame below
abbrev pub way_back : ℕ → Bool → Option Return
way_back back own = Some (record { back = back; own = own })

pub opened_with : {H A : Type 0} (h : H) (ls opened filled : List (H × List A)) (more all : List A)
    → opened ≡ (h, []) ∷ ls
    → filled ≡ extended more opened → more ≡ all → filled ≡ (h, all) ∷ ls
opened_with {H = H} {A = A} h ls opened filled more all first fill same =
    fill
    ∙ ap (λ (l : List (H × List A)). extended more l) first
    ∙ ap (λ (l : List A). (h, l) ∷ ls) same

pub some_opened : {H A : Type 0} (h : H) (ls opened : List (H × List A)) → opened ≡ (h, []) ∷ ls → opened ≢ []
some_opened h ls opened first none = absurd (cc (sym first ∙ none))
