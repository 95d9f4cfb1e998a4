-- What instructions do with slots, locals and places, to a machine and to the state that it stands for.
use Rattle.std.proofs.Common.{◌≡◌, ◌≢◌, ℕ, zero, suc, ◌+◌, ◌-◌, ◌<◌, Bool, true, false, List, [], ◌∷◌, ◌++◌, length}
use Rattle.std.proofs.Common.{map, take, Option, Some, None}
use Rattle.std.proofs.Common.{Result, IsOk, slice_get, refl, sym, ap, ◌∙◌, subst, arith}
use Rattle.std.proofs.lemmas.List.{length-map, map-append}
use Rattle.cat_value.specs.declared.value.Value.{Value}
use Rattle.cat_value.specs.declared.value.Value.TheVariants as flat
use Rattle.cat_scope.specs.declared.stop.Stop.{Stop}
use Rattle.cat_scope.specs.Calls.{Items}
use Rattle.cat_scope.specs.Projections.{truth}
use Rattle.cat_scope.specs.Replies.{evaluated, known}
use Rattle.cat_scope.specs.Running.{with_entry}
use Rattle.cat_code.specs.declared.code.Constant.{Constant}
use Rattle.cat_code.specs.declared.code.Tables.{Tables}
use Rattle.cat_code.specs.declared.instr.Instr.TheVariants as instr
use Rattle.cat_code.specs.Machine.{act}
use Rattle.cat_code.specs.Moves.{by_truth, if_filled, pushes, with_part}
use Rattle.cat_code.specs.States.{Frame, Goes, Next, State, on, push, stuck, to}
use Rattle.cat_pool.specs.Nodes.{Standing, at, seen_at, values}
use Rattle.cat_machine.specs.declared.machine.Machine.{Machine}
use Rattle.cat_machine.specs.declared.machine.Return.{Return}
use Rattle.cat_machine.specs.Layers.{extended, shortened, top_items, with_at, with_item}
use Rattle.cat_machine.specs.States.{decided, frames_of, slot, slots_of, state_at}
use Rattle.cat_machine.specs.Steps.{behind}
use Rattle.cat_machine.specs.Running.{constant_values}
use Rattle.cat_machine.specs.inside.Machines.{AreFrames, IsMachine, LayersBelow, SlotLayersBelow}
use Rattle.cat_machine.proofs.Holding.{below_split, frames_extended, frames_shortened, layers_extended}
use Rattle.cat_machine.proofs.Holding.{layers_shortened, slot_layers_set}
use Rattle.cat_machine.proofs.Holding.{with_locals, with_slots, without_operand}
use Rattle.cat_machine.proofs.Popping.{going_on, popped_so, pushed_so, quietly}
use Rattle.cat_machine.proofs.NodeKinds.{truth_is, truth_needs}
use Rattle.cat_machine.proofs.Unstuck as needs

-- ---- constants

constant_at : (vs : List Value) (refs : List ℕ) (cs : List Constant) (k r : ℕ) → map (at vs) refs ≡ constant_values cs
    → slice_get refs k ≡ Some r → (c : Constant) × (slice_get cs k ≡ Some c) × (c.value ≡ at vs r)
constant_at vs [] cs k r are is = absurd (cc is)
constant_at vs (q ∷ refs) [] k r are is = absurd (cc are)
constant_at vs (q ∷ refs) (c ∷ cs) zero r are is =
    let same : q ≡ r = cc is in
    let here : at vs q ≡ c.value = cc are in
    (c, refl, sym here ∙ ap (at vs) same)
constant_at vs (q ∷ refs) (c ∷ cs) (suc k) r are is =
    let rest : map (at vs) refs ≡ constant_values cs = cc are in constant_at vs refs cs k r rest is

module _ (tables : Tables) (place : ℕ) (m : Machine) where
  pub constant_needs : (k : ℕ) → IsMachine tables m → act tables (instr.Const k) (state_at tables place m) ≢ stuck
      → k < length m.constants
  constant_needs k is going =
      needs.constant_needs m.pool m.constants tables.constants k (λ c. on (push c.value (state_at tables place m)))
      is.constants going

  pub constant_told : (k r : ℕ) (operands : List ℕ) → IsMachine tables m → slice_get m.constants k ≡ Some r
      → operands ≡ r ∷ m.operands
      → behind (decided tables m.log) (act tables (instr.Const k) (state_at tables place m))
      ≡ Goes (decided tables m.log) (state_at tables (place + 1) (record m { operands = operands }))
  constant_told k r operands is at_k more =
      let c = constant_at (values m.pool) m.constants tables.constants k r is.constants at_k in
      quietly (decided tables m.log) (act tables (instr.Const k) (state_at tables place m))
      (state_at tables (place + 1) (record m { operands = operands }))
      (ap (λ (o : Option Constant). with_part (known o) (λ c. on (push c.value (state_at tables place m)))) c.1
      ∙ pushed_so tables place r operands m c.0.value c.2 more)

-- ---- slots and locals

slot_at : (nodes : List Standing) (refs : List (Option ℕ)) (i : ℕ) (r : Option ℕ) → slice_get refs i ≡ Some r
    → slice_get (slots_of nodes refs) i ≡ Some (slot (values nodes) r)
slot_at nodes [] i r is = absurd (cc is)
slot_at nodes (o ∷ refs) zero r is = let same : o ≡ r = cc is in ap (λ p. Some (slot (values nodes) p)) same
slot_at nodes (o ∷ refs) (suc i) r is = slot_at nodes refs i r is

local_at : (nodes : List Standing) (refs : List ℕ) (i r : ℕ) → slice_get refs i ≡ Some r
    → slice_get (seen_at nodes refs) i ≡ Some (at (values nodes) r)
local_at nodes [] i r is = absurd (cc is)
local_at nodes (q ∷ refs) zero r is = let same : q ≡ r = cc is in ap (λ p. Some (at (values nodes) p)) same
local_at nodes (q ∷ refs) (suc i) r is = local_at nodes refs i r is

module _ (tables : Tables) (place : ℕ) (m : Machine) where
  pub slot_needs : (i : ℕ) → act tables (instr.Slot i) (state_at tables place m) ≢ stuck
      → (r : ℕ) × (slice_get (top_items m.slots) i ≡ Some (Some r))
  slot_needs i going = needs.slot_needs m.pool (top_items m.slots) i (state_at tables place m) going

  pub slot_told : (i r : ℕ) (operands : List ℕ) → slice_get (top_items m.slots) i ≡ Some (Some r)
      → operands ≡ r ∷ m.operands
      → behind (decided tables m.log) (act tables (instr.Slot i) (state_at tables place m))
      ≡ Goes (decided tables m.log) (state_at tables (place + 1) (record m { operands = operands }))
  slot_told i r operands is more =
      quietly (decided tables m.log) (act tables (instr.Slot i) (state_at tables place m))
      (state_at tables (place + 1) (record m { operands = operands }))
      (ap (λ (o : Option (Option Value)). pushes (evaluated o) (state_at tables place m))
      (slot_at m.pool (top_items m.slots) i (Some r) is)
      ∙ pushed_so tables place r operands m (at (values m.pool) r) refl more)

  pub local_needs : (i : ℕ) → act tables (instr.Local i) (state_at tables place m) ≢ stuck
      → i < length (top_items m.locals)
  local_needs i going =
      needs.local_needs m.pool (top_items m.locals) i (λ v. on (push v (state_at tables place m))) going

  pub local_told : (i r : ℕ) (operands : List ℕ) → slice_get (top_items m.locals) i ≡ Some r → operands ≡ r ∷ m.operands
      → behind (decided tables m.log) (act tables (instr.Local i) (state_at tables place m))
      ≡ Goes (decided tables m.log) (state_at tables (place + 1) (record m { operands = operands }))
  local_told i r operands is more =
      quietly (decided tables m.log) (act tables (instr.Local i) (state_at tables place m))
      (state_at tables (place + 1) (record m { operands = operands }))
      (ap (λ (o : Option Value). pushes (known o) (state_at tables place m))
      (local_at m.pool (top_items m.locals) i r is)
      ∙ pushed_so tables place r operands m (at (values m.pool) r) refl more)

  -- ---- a slot that is filled

  pub given_needs : (i t : ℕ) → act tables (instr.Given i t) (state_at tables place m) ≢ stuck
      → i < length (top_items m.slots)
  given_needs i t going =
      needs.given_needs m.pool (top_items m.slots) i
      (λ entry. if_filled entry (to t (state_at tables place m)) (on (state_at tables place m))) going

  given_is : (i t : ℕ) (r : Option ℕ) → slice_get (top_items m.slots) i ≡ Some r
      → act tables (instr.Given i t) (state_at tables place m)
      ≡ if_filled (slot (values m.pool) r) (to t (state_at tables place m)) (on (state_at tables place m))
  given_is i t r is =
      ap (λ (o : Option (Option Value)). with_part (known o)
      (λ entry. if_filled entry (to t (state_at tables place m)) (on (state_at tables place m))))
      (slot_at m.pool (top_items m.slots) i r is)

  pub given_filled : (i t r : ℕ) → slice_get (top_items m.slots) i ≡ Some (Some r)
      → behind (decided tables m.log) (act tables (instr.Given i t) (state_at tables place m))
      ≡ Goes (decided tables m.log) (state_at tables t m)
  given_filled i t r is =
      quietly (decided tables m.log) (act tables (instr.Given i t) (state_at tables place m)) (state_at tables t m)
      (given_is i t (Some r) is)

  pub given_empty : (i t : ℕ) → slice_get (top_items m.slots) i ≡ Some None
      → behind (decided tables m.log) (act tables (instr.Given i t) (state_at tables place m))
      ≡ Goes (decided tables m.log) (state_at tables (place + 1) m)
  given_empty i t is =
      quietly (decided tables m.log) (act tables (instr.Given i t) (state_at tables place m))
      (state_at tables (place + 1) m) (given_is i t None is)

  -- ---- a truth value

  abbrev jump_go : ℕ → Value → State → Next
  jump_go t v s = with_part (truth v) (λ b. by_truth b (on s) (to t s))

  jump_is : (t r : ℕ) (b : Bool) (operands : List ℕ) → m.operands ≡ r ∷ operands → at (values m.pool) r ≡ flat.Boolean b
      → act tables (instr.JumpFalse t) (state_at tables place m)
      ≡ by_truth b (on (state_at tables place (record m { operands = operands })))
      (to t (state_at tables place (record m { operands = operands })))
  jump_is t r b operands popped is =
      popped_so tables place r operands m (jump_go t) popped
      ∙ ap (λ (v : Value). jump_go t v (state_at tables place (record m { operands = operands }))) is
      ∙ ap (λ (o : Result Bool Stop). with_part o
      (λ b. by_truth b (on (state_at tables place (record m { operands = operands })))
      (to t (state_at tables place (record m { operands = operands }))))) (truth_is b)

  -- the operand is a truth value
  pub jump_needs : (t r : ℕ) (operands : List ℕ) → m.operands ≡ r ∷ operands
      → act tables (instr.JumpFalse t) (state_at tables place m) ≢ stuck → IsOk (truth (at (values m.pool) r))
  jump_needs t r operands popped going =
      truth_needs (at (values m.pool) r)
      (λ b. by_truth b (on (state_at tables place (record m { operands = operands })))
      (to t (state_at tables place (record m { operands = operands }))))
      (going_on (act tables (instr.JumpFalse t) (state_at tables place m))
      (jump_go t (at (values m.pool) r) (state_at tables place (record m { operands = operands })))
      (popped_so tables place r operands m (jump_go t) popped) going)

  pub jump_true : (t r : ℕ) (operands : List ℕ) → m.operands ≡ r ∷ operands → at (values m.pool) r ≡ flat.Boolean true
      → behind (decided tables m.log) (act tables (instr.JumpFalse t) (state_at tables place m))
      ≡ Goes (decided tables m.log) (state_at tables (place + 1) (record m { operands = operands }))
  jump_true t r operands popped is =
      quietly (decided tables m.log) (act tables (instr.JumpFalse t) (state_at tables place m))
      (state_at tables (place + 1) (record m { operands = operands })) (jump_is t r true operands popped is)

  pub jump_false : (t r : ℕ) (operands : List ℕ) → m.operands ≡ r ∷ operands → at (values m.pool) r ≡ flat.Boolean false
      → behind (decided tables m.log) (act tables (instr.JumpFalse t) (state_at tables place m))
      ≡ Goes (decided tables m.log) (state_at tables t (record m { operands = operands }))
  jump_false t r operands popped is =
      quietly (decided tables m.log) (act tables (instr.JumpFalse t) (state_at tables place m))
      (state_at tables t (record m { operands = operands })) (jump_is t r false operands popped is)

-- ---- another slot, more and fewer locals

-- more locals change no frame that waits
pub frames-extended : (nodes : List Standing) (more : List ℕ) (locals : List (Option Return × List ℕ))
    (slots : List (Unit {0} × List (Option ℕ)))
    → frames_of nodes (extended more locals) slots ≡ frames_of nodes locals slots
frames-extended nodes more [] slots = refl
frames-extended nodes more ((None, here) ∷ locals) slots = refl
frames-extended nodes more ((Some r, here) ∷ locals) slots = refl

pub frames-shortened : (nodes : List Standing) (n : ℕ) (locals : List (Option Return × List ℕ))
    (slots : List (Unit {0} × List (Option ℕ)))
    → frames_of nodes (shortened n locals) slots ≡ frames_of nodes locals slots
frames-shortened nodes n [] slots = refl
frames-shortened nodes n ((None, here) ∷ locals) slots = refl
frames-shortened nodes n ((Some r, here) ∷ locals) slots = refl

-- another slot changes no frame that waits
pub frames-with_item : (nodes : List Standing) (i : ℕ) (o : Option ℕ) (locals : List (Option Return × List ℕ))
    (slots : List (Unit {0} × List (Option ℕ)))
    → frames_of nodes locals (with_item i o slots) ≡ frames_of nodes locals slots
frames-with_item nodes i o locals [] = refl
frames-with_item nodes i o [] (l ∷ slots) = refl
frames-with_item nodes i o ((None, here) ∷ locals) (l ∷ slots) = refl
frames-with_item nodes i o ((Some r, here) ∷ locals) (l ∷ slots) =
    by r.own (frames-with_item nodes i o locals (l ∷ slots))
  where
    by : (own : Bool) → frames_of nodes locals (with_item i o (l ∷ slots)) ≡ frames_of nodes locals (l ∷ slots)
        → frames_of nodes ((Some (record { back = r.back; own = own }), here) ∷ locals) (with_item i o (l ∷ slots))
        ≡ frames_of nodes ((Some (record { back = r.back; own = own }), here) ∷ locals) (l ∷ slots)
    by true same = refl
    by false same =
        ap (λ (fs : List Frame). record { slots = None; locals = seen_at nodes (top_items locals); back = r.back } ∷ fs)
        same

slots-with_at : (nodes : List Standing) (i r : ℕ) (refs : List (Option ℕ))
    → slots_of nodes (with_at i (Some r) refs) ≡ with_entry i (Some (at (values nodes) r)) (slots_of nodes refs)
slots-with_at nodes i r [] = refl
slots-with_at nodes zero r (o ∷ refs) = refl
slots-with_at nodes (suc i) r (o ∷ refs) = ap (λ (l : Items). slot (values nodes) o ∷ l) (slots-with_at nodes i r refs)

pub top-with_item : {H : Type 0} (nodes : List Standing) (i r : ℕ) (slots : List (H × List (Option ℕ)))
    → slots_of nodes (top_items (with_item i (Some r) slots))
    ≡ with_entry i (Some (at (values nodes) r)) (slots_of nodes (top_items slots))
top-with_item nodes i r [] = refl
top-with_item nodes i r (l ∷ slots) = slots-with_at nodes i r l.1

seen-extended : (nodes : List Standing) (more : List ℕ) (locals : List (Option Return × List ℕ)) → AreFrames locals
    → seen_at nodes (top_items locals) ++ seen_at nodes more ≡ seen_at nodes (top_items (extended more locals))
seen-extended nodes more [] are = absurd are
seen-extended nodes more (l ∷ locals) are = sym (map-append (at (values nodes)) l.1 more)

take-map_at : (vs : List Value) (n : ℕ) (refs : List ℕ) → take n (map (at vs) refs) ≡ map (at vs) (take n refs)
take-map_at vs zero refs = refl
take-map_at vs (suc n) [] = refl
take-map_at vs (suc n) (r ∷ refs) = ap (λ (l : List Value). at vs r ∷ l) (take-map_at vs n refs)

seen-shortened : (nodes : List Standing) (n : ℕ) (locals : List (Option Return × List ℕ))
    → take (length (seen_at nodes (top_items locals)) - n) (seen_at nodes (top_items locals))
    ≡ seen_at nodes (top_items (shortened n locals))
seen-shortened nodes n [] = let none : 0 - n ≡ 0 = omega arith in ap (λ k. take k (seen_at nodes [])) none
seen-shortened nodes n (l ∷ locals) =
    ap (λ k. take (k - n) (seen_at nodes l.1)) (length-map l.1 (at (values nodes)))
    ∙ take-map_at (values nodes) (length l.1 - n) l.1

module _ (tables : Tables) (place : ℕ) (m : Machine) where
  -- the same with other locals, as the frames that wait stay
  with_seen : (vs : List Value) (locals : List (Option Return × List ℕ)) → vs ≡ seen_at m.pool (top_items locals)
      → frames_of m.pool m.locals m.slots ≡ frames_of m.pool locals m.slots
      → record (state_at tables place m) { locals = vs } ≡ state_at tables place (record m { locals = locals })
  with_seen vs locals seen frames =
      ap (λ (ws : List Value). record (state_at tables place m) { locals = ws }) seen
      ∙ ap (λ (fs : List Frame). record (state_at tables place m) {
        locals = seen_at m.pool (top_items locals);
        frames =
            fs;
      }) frames

  with_filled : (vs : Items) (slots : List (Unit {0} × List (Option ℕ))) → vs ≡ slots_of m.pool (top_items slots)
      → frames_of m.pool m.locals m.slots ≡ frames_of m.pool m.locals slots
      → record (state_at tables place m) { slots = vs } ≡ state_at tables place (record m { slots = slots })
  with_filled vs slots seen frames =
      ap (λ (ws : Items). record (state_at tables place m) { slots = ws }) seen
      ∙ ap (λ (fs : List Frame). record (state_at tables place m) {
        slots = slots_of m.pool (top_items slots);
        frames =
            fs;
      }) frames

module _ (tables : Tables) (place : ℕ) (m : Machine) where
  abbrev store_go : ℕ → Value → State → Next
  store_go i v s = on (record s { slots = with_entry i (Some v) s.slots })

  pub store_told : (i r : ℕ) (operands : List ℕ) (slots : List (Unit {0} × List (Option ℕ))) → m.operands ≡ r ∷ operands
      → slots ≡ with_item i (Some r) m.slots
      → behind (decided tables m.log) (act tables (instr.Store i) (state_at tables place m))
      ≡ Goes (decided tables m.log) (state_at tables (place + 1) (record m { operands = operands; slots = slots }))
  store_told i r operands slots popped is =
      quietly (decided tables m.log) (act tables (instr.Store i) (state_at tables place m))
      (state_at tables (place + 1) (record m { operands = operands; slots = slots }))
      (popped_so tables place r operands m (store_go i) popped
      ∙ ap (Goes []) (with_filled tables (place + 1) (record m { operands = operands })
      (with_entry i (Some (at (values m.pool) r)) (slots_of m.pool (top_items m.slots))) slots
      (sym (top-with_item m.pool i r m.slots)
      ∙ ap (λ (l : List (Unit {0} × List (Option ℕ))). slots_of m.pool (top_items l)) (sym is))
      (sym (frames-with_item m.pool i (Some r) m.locals m.slots)
      ∙ ap (λ (l : List (Unit {0} × List (Option ℕ))). frames_of m.pool m.locals l) (sym is))))

  abbrev bind_go : Value → State → Next
  bind_go v s = on (record s { locals = s.locals ++ v ∷ [] })

  pub bind_told : (r : ℕ) (operands : List ℕ) (locals : List (Option Return × List ℕ)) → AreFrames m.locals
      → m.operands ≡ r ∷ operands
      → locals ≡ extended (r ∷ []) m.locals
      → behind (decided tables m.log) (act tables instr.Bind (state_at tables place m))
      ≡ Goes (decided tables m.log) (state_at tables (place + 1) (record m { operands = operands; locals = locals }))
  bind_told r operands locals are popped is =
      quietly (decided tables m.log) (act tables instr.Bind (state_at tables place m))
      (state_at tables (place + 1) (record m { operands = operands; locals = locals }))
      (popped_so tables place r operands m bind_go popped
      ∙ ap (Goes []) (with_seen tables (place + 1) (record m { operands = operands })
      (seen_at m.pool (top_items m.locals) ++ at (values m.pool) r ∷ []) locals
      (seen-extended m.pool (r ∷ []) m.locals are
      ∙ ap (λ (l : List (Option Return × List ℕ)). seen_at m.pool (top_items l)) (sym is))
      (sym (frames-extended m.pool (r ∷ []) m.locals m.slots)
      ∙ ap (λ (l : List (Option Return × List ℕ)). frames_of m.pool l m.slots) (sym is))))

  pub unbind_told : (n : ℕ) (locals : List (Option Return × List ℕ)) → locals ≡ shortened n m.locals
      → behind (decided tables m.log) (act tables (instr.Drop n) (state_at tables place m))
      ≡ Goes (decided tables m.log) (state_at tables (place + 1) (record m { locals = locals }))
  unbind_told n locals is =
      quietly (decided tables m.log) (act tables (instr.Drop n) (state_at tables place m))
      (state_at tables (place + 1) (record m { locals = locals }))
      (ap (Goes []) (with_seen tables (place + 1) m
      (take (length (seen_at m.pool (top_items m.locals)) - n) (seen_at m.pool (top_items m.locals))) locals
      (seen-shortened m.pool n m.locals ∙ ap (λ (l : List (Option Return × List ℕ)). seen_at m.pool (top_items l))
      (sym is))
      (sym (frames-shortened m.pool n m.locals m.slots)
      ∙ ap (λ (l : List (Option Return × List ℕ)). frames_of m.pool l m.slots) (sym is))))

-- ---- machines

module _ (tables : Tables) (m : Machine) where
  pub store_machine : (i r : ℕ) (operands : List ℕ) (slots : List (Unit {0} × List (Option ℕ))) → IsMachine tables m
      → m.operands ≡ r ∷ operands
      → slots ≡ with_item i (Some r) m.slots → IsMachine tables (record m { operands = operands; slots = slots })
  store_machine i r operands slots is popped filled =
      with_slots tables (record m { operands = operands }) (without_operand tables m is r operands popped) slots
      (subst (λ (l : List (Unit {0} × List (Option ℕ))). SlotLayersBelow (length m.pool) l) (sym filled)
      (slot_layers_set (length m.pool) i r m.slots
      (below_split (length m.pool) m.operands r operands popped is.operands).0 is.slots))

  pub bind_machine : (r : ℕ) (operands : List ℕ) (locals : List (Option Return × List ℕ)) → IsMachine tables m
      → m.operands ≡ r ∷ operands
      → locals ≡ extended (r ∷ []) m.locals → IsMachine tables (record m { operands = operands; locals = locals })
  bind_machine r operands locals is popped longer =
      with_locals tables (record m { operands = operands }) (without_operand tables m is r operands popped) locals
      (subst (λ (l : List (Option Return × List ℕ)). LayersBelow (length m.pool) l) (sym longer)
      (layers_extended (length m.pool) (r ∷ []) m.locals is.locals
      ((below_split (length m.pool) m.operands r operands popped is.operands).0, tt)))
      (subst (λ (l : List (Option Return × List ℕ)). AreFrames l) (sym longer)
      (frames_extended (r ∷ []) m.locals is.framed))

  pub unbind_machine : (n : ℕ) (locals : List (Option Return × List ℕ)) → IsMachine tables m
      → locals ≡ shortened n m.locals
      → IsMachine tables (record m { locals = locals })
  unbind_machine n locals is shorter =
      with_locals tables m is locals
      (subst (λ (l : List (Option Return × List ℕ)). LayersBelow (length m.pool) l) (sym shorter)
      (layers_shortened (length m.pool) n m.locals is.locals))
      (subst (λ (l : List (Option Return × List ℕ)). AreFrames l) (sym shorter) (frames_shortened n m.locals is.framed))
