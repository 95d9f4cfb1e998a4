-- Constants, slots, local names and jumps finish where they flow.
use Rattle.std.proofs.Common.{◌≡◌, ◌<◌, ℕ, ◌+◌, ◌-◌, nat_le, nat_lt, Bool, true, false, List, [], ◌∷◌, ◌++◌, length}
use Rattle.std.proofs.Common.{take, Option, Some, None, slice_get, slice_set, refl, sym, ap, ◌∙◌, subst}
use Rattle.std.proofs.lemmas.Bool.{ltb-true}
use Rattle.cat_value.specs.declared.value.Value.{Value}
use Rattle.cat_value.specs.declared.declaration.ItemDecl.{ItemDecl}
use Rattle.cat_value.proofs.Exported.{found}
use Rattle.cat_scope.specs.Replies.{evaluated}
use Rattle.cat_scope.specs.Projections as read
use Rattle.cat_scope.specs.Names.{scope_items}
use Rattle.cat_scope.specs.Running.{with_entry}
use Rattle.cat_sound.proofs.Exported.{same_some}
use Rattle.cat_code.specs.declared.instr.Instr.{Instr}
use Rattle.cat_code.specs.declared.instr.Instr.TheVariants as instr
use Rattle.cat_code.specs.declared.code.Constant.{Constant}
use Rattle.cat_code.specs.States.{State, Next, on, to, push}
use Rattle.cat_code.specs.Moves as move
use Rattle.cat_code.specs.Machine.{act}
use Rattle.cat_code.specs.Forms.{Form, form_of, item_form, slot_form}
use Rattle.cat_code.specs.Forms as forms
use Rattle.cat_code.specs.Shapes.{Owner, Shape}
use Rattle.cat_code.specs.Wanted.{is_so}
use Rattle.cat_code.specs.Leads.{leads, leads_two, with, pushed}
use Rattle.cat_code.specs.Leads as lead
use Rattle.cat_code.specs.Told.{constant_form, is_scope}
use Rattle.cat_code.specs.Flow.{flow}
use Rattle.cat_code_sound.proofs.ValueKinds.{IsOf, reads_truth}
use Rattle.cat_code_sound.proofs.Fitting.{Setting, Fits, slots_fit, locals_fit}
use Rattle.cat_code_sound.proofs.SlotLemmas.{filled_there, stored_fits, found_fits, slots_long, free_slots, slot_item}
use Rattle.cat_code_sound.proofs.SlotLemmas.{constant_item, local_typed, bound_typed, dropped_typed}
use Rattle.cat_code_sound.proofs.Stepping.{Finishes, GoesOn, Fine, fine_where, fine_with, fine_one, fine_two, finish_on}
use Rattle.cat_code_sound.proofs.Stepping.{finish_to, finish_push, finish_ok, finish_known, finish_pop, finish_pop_as}

module _ (here : Setting) (code : List Instr) (Good : State → Type 0) where
  -- a state that fits a shape from which an instruction flows is finished by it
  abbrev pub Sound : Instr → Type 0
  Sound i = (turns : List ℕ) (shape : Shape) (s : State) → Fits here turns shape s
      → Fine here Good i s.place (flow here.tables code i s.place shape) → Finishes Good (act here.tables i s)

  pub sound_const : ((k : ℕ) (c : Constant) → slice_get here.tables.constants k ≡ Some c
      → IsOf here.tables.decls (form_of here.tables.decls c.ty) c.value)
      → (k : ℕ) → Sound (instr.Const k)
  sound_const typed k turns shape s fits fine =
      let i : Instr = instr.Const k in
      let c =
      fine_with here Good i s.place (constant_form here.tables k)
      (λ t. leads (s.place + 1) (pushed t shape)) fine in
      let is = constant_item here.tables k c.0 c.1 in
      finish_known here Good i s.place (slice_get here.tables.constants k) is.0
      (λ (x : Constant). on (push x.value s)) is.1
      (finish_push here Good i s.place turns shape s c.0 is.0.value refl fits
      (subst (λ (t : Form). IsOf here.tables.decls t is.0.value) is.2 (typed k is.0 is.1))
      (fine_one here Good i s.place (s.place + 1) (pushed c.0 shape) c.2))

  -- the item of a slot, as its owner has it
  pub slot_told : (turns : List ℕ) (shape : Shape) (s : State) → Fits here turns shape s → (k : ℕ) (t : Form)
      → slot_form here.tables.decls shape.owner.scope k ≡ Some t
      → (item : ItemDecl) × (slice_get (scope_items here.tables.decls here.owner.scope) k ≡ Some item)
      × (item_form here.tables.decls item ≡ t)
  slot_told turns shape s fits k t told =
      slot_item here.tables.decls here.owner.scope k t
      (ap (λ (o : Owner). slot_form here.tables.decls o.scope k) (sym fits.owner) ∙ told)

  pub sound_slot : (k : ℕ) → Sound (instr.Slot k)
  sound_slot k turns shape s fits fine =
      let i : Instr = instr.Slot k in
      let w = fine_where here Good i s.place (is_so (slice_get shape.filled k))
      (with (slot_form here.tables.decls shape.owner.scope k) (λ t. leads (s.place + 1) (pushed t shape))) fine in
      let c = fine_with here Good i s.place (slot_form here.tables.decls shape.owner.scope k)
      (λ t. leads (s.place + 1) (pushed t shape)) w.1 in
      let slot =
      filled_there here.tables.decls
      (scope_items here.tables.decls here.owner.scope) shape.filled s.slots k fits.slots w.0 in
      let item = slot_told turns shape s fits k c.0 c.1 in
      let same : slot.item ≡ item.0 = same_some slot.item item.0 (sym slot.item_is ∙ item.1) in
      finish_ok here Good i s.place (evaluated (slice_get s.slots k)) slot.value (λ (v : Value). on (push v s))
      (ap evaluated slot.slot_is)
      (finish_push here Good i s.place turns shape s c.0 slot.value refl fits
      (subst (λ (t : Form). IsOf here.tables.decls t slot.value)
      (ap (λ (d : ItemDecl). item_form here.tables.decls d) same ∙ item.2) slot.typed)
      (fine_one here Good i s.place (s.place + 1) (pushed c.0 shape) c.2))

  pub sound_local : (k : ℕ) → Sound (instr.Local k)
  sound_local k turns shape s fits fine =
      let i : Instr = instr.Local k in
      let c =
      fine_with here Good i s.place (slice_get shape.locals k) (λ t. leads (s.place + 1) (pushed t shape)) fine in
      let v = local_typed here.tables.decls shape.locals s.locals k c.0 fits.locals c.1 in
      finish_known here Good i s.place (slice_get s.locals k) v.0 (λ (x : Value). on (push x s)) v.1
      (finish_push here Good i s.place turns shape s c.0 v.0 refl fits v.2
      (fine_one here Good i s.place (s.place + 1) (pushed c.0 shape) c.2))

  pub sound_store : (k : ℕ) → Sound (instr.Store k)
  sound_store k turns shape s fits fine =
      let i : Instr = instr.Store k in
      let w = fine_where here Good i s.place (is_scope shape.owner)
      (with (slot_form here.tables.decls shape.owner.scope k)
      (λ t. lead.pop_as t shape (λ r. leads (s.place + 1) (record r { filled = slice_set r.filled k true })))) fine in
      let c = fine_with here Good i s.place (slot_form here.tables.decls shape.owner.scope k)
      (λ t. lead.pop_as t shape (λ r. leads (s.place + 1) (record r { filled = slice_set r.filled k true }))) w.1 in
      let item = slot_told turns shape s fits k c.0 c.1 in
      finish_pop_as here Good i s.place turns shape s c.0
      (λ r. leads (s.place + 1) (record r { filled = slice_set r.filled k true }))
      (λ v r. on (record r { slots = with_entry k (Some v) r.slots })) fits c.2
      (λ ts v vs is left f.
      finish_on here Good i s.place turns (record shape { operands = ts; filled = slice_set shape.filled k true })
      (record s { operands = vs; slots = with_entry k (Some v) s.slots }) refl
      (slots_fit here turns (record shape { operands = ts }) (record s { operands = vs })
      (slice_set shape.filled k true) (with_entry k (Some v) s.slots) left
      (stored_fits here.tables.decls
      (scope_items here.tables.decls here.owner.scope) shape.filled s.slots k item.0 v item.1
      (subst (λ (t : Form). IsOf here.tables.decls t v) (sym item.2) is) fits.slots)
      (free_slots here.owner.function (with_entry k (Some v) s.slots) here.below.slots
      (ap is_scope (sym fits.owner) ∙ w.0)))
      (fine_one here Good i s.place (s.place + 1)
      (record shape { operands = ts; filled = slice_set shape.filled k true }) f))

  pub sound_bind : Sound instr.Bind
  sound_bind turns shape s fits fine =
      let i : Instr = instr.Bind in
      finish_pop here Good i s.place turns shape s
      (λ t r. leads (s.place + 1) (record r { locals = r.locals ++ t ∷ [] }))
      (λ v r. on (record r { locals = r.locals ++ v ∷ [] })) fits fine
      (λ t ts v vs is left f.
      finish_on here Good i s.place turns (record shape { operands = ts; locals = shape.locals ++ t ∷ [] })
      (record s { operands = vs; locals = s.locals ++ v ∷ [] }) refl
      (locals_fit here turns (record shape { operands = ts }) (record s { operands = vs }) (shape.locals ++ t ∷ [])
      (s.locals ++ v ∷ []) left
      (bound_typed here.tables.decls shape.locals s.locals t v fits.locals is))
      (fine_one here Good i s.place (s.place + 1) (record shape { operands = ts; locals = shape.locals ++ t ∷ [] }) f))

  pub sound_drop : (n : ℕ) → Sound (instr.Drop n)
  sound_drop n turns shape s fits fine =
      let i : Instr = instr.Drop n in
      let after : Shape = record shape { locals = take (length shape.locals - n) shape.locals } in
      let w = fine_where here Good i s.place (nat_le n (length shape.locals)) (leads (s.place + 1) after) fine in
      finish_on here Good i s.place turns after (record s { locals = take (length s.locals - n) s.locals }) refl
      (locals_fit here turns shape s (take (length shape.locals - n) shape.locals)
      (take (length s.locals - n) s.locals) fits
      (dropped_typed here.tables.decls shape.locals s.locals n fits.locals))
      (fine_one here Good i s.place (s.place + 1) after w.1)

  pub sound_given : (k t : ℕ) → Sound (instr.Given k t)
  sound_given k t turns shape s fits fine =
      let i : Instr = instr.Given k t in
      let there : Shape = record shape { filled = slice_set shape.filled k true } in
      let w =
      fine_where here Good i s.place (nat_lt k (length shape.filled))
      (leads_two (s.place + 1) shape t there) fine in
      let two = fine_two here Good i s.place (s.place + 1) shape t there w.1 in
      let long =
      slots_long here.tables.decls
      (scope_items here.tables.decls here.owner.scope) shape.filled s.slots fits.slots in
      let o = found s.slots k (subst (λ (n : ℕ). k < n) long (ltb-true k (length shape.filled) w.0)) in
      finish_known here Good i s.place (slice_get s.slots k) o.0
      (λ (entry : Option Value). move.if_filled entry (to t s) (on s)) o.1 (by o.0 o.1 two)
    where
      by : (o : Option Value) → slice_get s.slots k ≡ Some o
          → GoesOn here Good (instr.Given k t) s.place (s.place + 1, shape)
          × GoesOn here Good (instr.Given k t) s.place (t, record shape { filled = slice_set shape.filled k true })
          → Finishes Good (move.if_filled o (to t s) (on s))
      by None is two = finish_on here Good (instr.Given k t) s.place turns shape s refl fits two.0
      by (Some v) is two =
          finish_to here Good (instr.Given k t) s.place turns
          (record shape { filled = slice_set shape.filled k true }) s t refl
          (slots_fit here turns shape s (slice_set shape.filled k true) s.slots fits
          (found_fits here.tables.decls
          (scope_items here.tables.decls here.owner.scope) shape.filled s.slots k v is fits.slots) fits.kept)
          two.1

  pub sound_jump : (t : ℕ) → Sound (instr.Jump t)
  sound_jump t turns shape s fits fine =
      finish_to here Good (instr.Jump t) s.place turns shape s t refl fits
      (fine_one here Good (instr.Jump t) s.place t shape fine)

  -- one of two ways by a boolean
  pub finish_truth : (i : Instr) (p : ℕ) (v : Value) (one other : Next) → IsOf here.tables.decls forms.Truth v
      → Finishes Good one → Finishes Good other
      → Finishes Good (move.with_part (read.truth v) (λ b. move.by_truth b one other))
  finish_truth i p v one other is yes_way no_way =
      let b = reads_truth here.tables.decls v is in
      finish_ok here Good i p (read.truth v) b.0 (λ b. move.by_truth b one other) (ap read.truth_in b.1) (by b.0)
    where
      by : (b : Bool) → Finishes Good (move.by_truth b one other)
      by true = yes_way
      by false = no_way

  pub sound_jump_false : (t : ℕ) → Sound (instr.JumpFalse t)
  sound_jump_false t turns shape s fits fine =
      let i : Instr = instr.JumpFalse t in
      finish_pop_as here Good i s.place turns shape s forms.Truth (λ r. leads_two (s.place + 1) r t r)
      (λ v r. move.with_part (read.truth v) (λ b. move.by_truth b (on r) (to t r))) fits fine
      (λ ts v vs is left f.
      let two =
      fine_two here Good i s.place (s.place + 1) (record shape { operands = ts }) t
      (record shape { operands = ts }) f in
      finish_truth i s.place v (on (record s { operands = vs })) (to t (record s { operands = vs })) is
      (finish_on here Good i s.place turns (record shape { operands = ts })
      (record s { operands = vs }) refl left two.0)
      (finish_to here Good i s.place turns (record shape { operands = ts })
      (record s { operands = vs }) t refl left two.1))
