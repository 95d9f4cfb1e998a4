-- Slots and local names that fit, read and written.
use Rattle.std.proofs.Common.{◌≡◌, ℕ, zero, suc, ◌-◌, Bool, true, false, true≢false, List, [], ◌∷◌, ◌++◌, length, take}
use Rattle.std.proofs.Common.{Option, Some, None, slice_get, slice_set, is_none, refl, sym, ap, subst}
use Rattle.cat_value.specs.declared.value.Value.{Value}
use Rattle.cat_value.specs.declared.declaration.ItemDecl.{ItemDecl}
use Rattle.cat_value.specs.declared.decls.Decls.{Decls}
use Rattle.cat_scope.specs.Names.{scope_items}
use Rattle.cat_scope.specs.Calls.{Items}
use Rattle.cat_scope.specs.Running.{with_entry}
use Rattle.cat_code.specs.declared.code.Constant.{Constant}
use Rattle.cat_code.specs.declared.code.Tables.{Tables}
use Rattle.cat_code.specs.Forms.{Form, form_of, item_form, slot_form}
use Rattle.cat_code.specs.Wanted.{is_so}
use Rattle.cat_code.specs.Told.{constant_form}
use Rattle.cat_code_sound.proofs.ValueKinds.{IsOf}
use Rattle.cat_code_sound.proofs.Fitting.{OnTop, SlotFits, SlotsFit, KeepsSlots}

-- ---- slots

-- a slot that is filled
pub record Filled (ds : Decls) (items : List ItemDecl) (slots : Items) (i : ℕ) : Type 0 where
  pub item : ItemDecl
  pub value : Value
  pub item_is : slice_get items i ≡ Some item
  pub slot_is : slice_get slots i ≡ Some (Some value)
  pub typed : IsOf ds (item_form ds item) value

filled_first : (ds : Decls) (item : ItemDecl) (items : List ItemDecl) (o : Option Value) (slots : Items)
    → SlotFits ds item true o → Filled ds (item ∷ items) (o ∷ slots) 0
filled_first ds item items None slots fits = absurd (true≢false fits)
filled_first ds item items (Some v) slots fits =
    record { item = item; value = v; item_is = refl; slot_is = refl; typed = fits }

pub filled_there : (ds : Decls) (items : List ItemDecl) (filled : List Bool) (slots : Items) (i : ℕ)
    → SlotsFit ds items filled slots → is_so (slice_get filled i) ≡ true → Filled ds items slots i
filled_there ds items [] slots i fits so = absurd (true≢false (sym so))
filled_there ds [] (b ∷ filled) slots i fits so = absurd (none slots fits)
  where
    none : (os : Items) → SlotsFit ds [] (b ∷ filled) os → ⊥
    none [] h = h
    none (o ∷ os) h = h
filled_there ds (item ∷ items) (b ∷ filled) [] i fits so = absurd fits
filled_there ds (item ∷ items) (true ∷ filled) (o ∷ slots) zero fits so = filled_first ds item items o slots fits.0
filled_there ds (item ∷ items) (false ∷ filled) (o ∷ slots) zero fits so = absurd (true≢false (sym so))
filled_there ds (item ∷ items) (b ∷ filled) (o ∷ slots) (suc i) fits so =
    let rest = filled_there ds items filled slots i fits.1 so in
    record { item = rest.item; value = rest.value; item_is = rest.item_is; slot_is = rest.slot_is; typed = rest.typed }

-- a value put into a slot
pub stored_fits : (ds : Decls) (items : List ItemDecl) (filled : List Bool) (slots : Items) (i : ℕ) (item : ItemDecl)
    (v : Value)
    → slice_get items i ≡ Some item → IsOf ds (item_form ds item) v → SlotsFit ds items filled slots
    → SlotsFit ds items (slice_set filled i true) (with_entry i (Some v) slots)
stored_fits ds [] filled slots i item v is typed fits = absurd (cc is)
stored_fits ds (x ∷ items) [] [] i item v is typed fits = fits
stored_fits ds (x ∷ items) [] (o ∷ slots) i item v is typed fits = absurd fits
stored_fits ds (x ∷ items) (b ∷ filled) [] i item v is typed fits = absurd fits
stored_fits ds (x ∷ items) (b ∷ filled) (o ∷ slots) zero item v is typed fits =
    let same : item ≡ x = cc is in (subst (λ (d : ItemDecl). IsOf ds (item_form ds d) v) same typed, fits.1)
stored_fits ds (x ∷ items) (b ∷ filled) (o ∷ slots) (suc i) item v is typed fits =
    (fits.0, stored_fits ds items filled slots i item v is typed fits.1)

-- a slot that is found to be filled is known to be so
pub found_fits : (ds : Decls) (items : List ItemDecl) (filled : List Bool) (slots : Items) (i : ℕ) (v : Value)
    → slice_get slots i ≡ Some (Some v) → SlotsFit ds items filled slots
    → SlotsFit ds items (slice_set filled i true) slots
found_fits ds items filled [] i v is fits = absurd (cc is)
found_fits ds [] filled (o ∷ slots) i v is fits = absurd (none filled fits)
  where
    none : (bs : List Bool) → SlotsFit ds [] bs (o ∷ slots) → ⊥
    none [] h = h
    none (b ∷ bs) h = h
found_fits ds (x ∷ items) [] (o ∷ slots) i v is fits = absurd fits
found_fits ds (x ∷ items) (b ∷ filled) (None ∷ slots) zero v is fits = absurd (cc is)
found_fits ds (x ∷ items) (b ∷ filled) (Some w ∷ slots) zero v is fits = fits
found_fits ds (x ∷ items) (b ∷ filled) (o ∷ slots) (suc i) v is fits =
    (fits.0, found_fits ds items filled slots i v is fits.1)

pub slots_long : (ds : Decls) (items : List ItemDecl) (filled : List Bool) (slots : Items)
    → SlotsFit ds items filled slots
    → length filled ≡ length slots
slots_long ds [] [] [] fits = refl
slots_long ds [] [] (o ∷ slots) fits = absurd fits
slots_long ds [] (b ∷ filled) [] fits = absurd fits
slots_long ds [] (b ∷ filled) (o ∷ slots) fits = absurd fits
slots_long ds (x ∷ items) [] [] fits = absurd fits
slots_long ds (x ∷ items) [] (o ∷ slots) fits = absurd fits
slots_long ds (x ∷ items) (b ∷ filled) [] fits = absurd fits
slots_long ds (x ∷ items) (b ∷ filled) (o ∷ slots) fits = ap suc (slots_long ds items filled slots fits.1)

-- a scope's own code may write slots
pub free_slots : (f : Option ℕ) (slots before : Items) → is_none f ≡ true → KeepsSlots f slots before
free_slots None slots before is = tt
free_slots (Some f) slots before is = absurd (true≢false (sym is))

-- the item of a slot whose type is told
pub slot_item : (ds : Decls) (scope i : ℕ) (t : Form) → slot_form ds scope i ≡ Some t
    → (item : ItemDecl) × (slice_get (scope_items ds scope) i ≡ Some item) × (item_form ds item ≡ t)
slot_item ds scope i t told = by (slice_get (scope_items ds scope) i) refl
  where
    by : (o : Option ItemDecl) → slice_get (scope_items ds scope) i ≡ o
        → (item : ItemDecl) × (slice_get (scope_items ds scope) i ≡ Some item) × (item_form ds item ≡ t)
    by None is = let none : None ≡ Some t = rw is at told in absurd (cc none)
    by (Some item) is = let some : Some (item_form ds item) ≡ Some t = rw is at told in (item, is, cc some)

-- a constant whose type is told
pub constant_item : (tables : Tables) (k : ℕ) (t : Form) → constant_form tables k ≡ Some t
    → (c : Constant) × (slice_get tables.constants k ≡ Some c) × (form_of tables.decls c.ty ≡ t)
constant_item tables k t told = by (slice_get tables.constants k) refl
  where
    by : (o : Option Constant) → slice_get tables.constants k ≡ o
        → (c : Constant) × (slice_get tables.constants k ≡ Some c) × (form_of tables.decls c.ty ≡ t)
    by None is = let none : None ≡ Some t = rw is at told in absurd (cc none)
    by (Some c) is = let some : Some (form_of tables.decls c.ty) ≡ Some t = rw is at told in (c, is, cc some)

-- ---- local names

pub local_typed : (ds : Decls) (ts : List Form) (vs : List Value) (k : ℕ) (t : Form) → OnTop (IsOf ds) ts vs []
    → slice_get ts k ≡ Some t → (v : Value) × (slice_get vs k ≡ Some v) × IsOf ds t v
local_typed ds [] vs k t are is = absurd (cc is)
local_typed ds (u ∷ ts) [] k t are is = absurd are
local_typed ds (u ∷ ts) (v ∷ vs) zero t are is =
    let same : u ≡ t = cc is in (v, refl, subst (λ (f : Form). IsOf ds f v) same are.0)
local_typed ds (u ∷ ts) (v ∷ vs) (suc k) t are is = local_typed ds ts vs k t are.1 is

pub bound_typed : (ds : Decls) (ts : List Form) (vs : List Value) (t : Form) (v : Value) → OnTop (IsOf ds) ts vs []
    → IsOf ds t v → OnTop (IsOf ds) (ts ++ t ∷ []) (vs ++ v ∷ []) []
bound_typed ds [] [] t v are is = (is, refl)
bound_typed ds [] (w ∷ vs) t v are is = absurd (cc are)
bound_typed ds (u ∷ ts) [] t v are is = absurd are
bound_typed ds (u ∷ ts) (w ∷ vs) t v are is = (are.0, bound_typed ds ts vs t v are.1 is)

pub locals_long : (ds : Decls) (ts : List Form) (vs : List Value) → OnTop (IsOf ds) ts vs [] → length ts ≡ length vs
locals_long ds [] [] are = refl
locals_long ds [] (v ∷ vs) are = absurd (cc are)
locals_long ds (t ∷ ts) [] are = absurd are
locals_long ds (t ∷ ts) (v ∷ vs) are = ap suc (locals_long ds ts vs are.1)

taken_typed : (ds : Decls) (ts : List Form) (vs : List Value) (k : ℕ) → OnTop (IsOf ds) ts vs []
    → OnTop (IsOf ds) (take k ts) (take k vs) []
taken_typed ds ts vs zero are = refl
taken_typed ds [] [] (suc k) are = refl
taken_typed ds [] (v ∷ vs) (suc k) are = absurd (cc are)
taken_typed ds (t ∷ ts) [] (suc k) are = absurd are
taken_typed ds (t ∷ ts) (v ∷ vs) (suc k) are = (are.0, taken_typed ds ts vs k are.1)

pub dropped_typed : (ds : Decls) (ts : List Form) (vs : List Value) (n : ℕ) → OnTop (IsOf ds) ts vs []
    → OnTop (IsOf ds) (take (length ts - n) ts) (take (length vs - n) vs) []
dropped_typed ds ts vs n are =
    subst (λ (m : ℕ). OnTop (IsOf ds) (take (length ts - n) ts) (take (m - n) vs) []) (locals_long ds ts vs are)
    (taken_typed ds ts vs (length ts - n) are)
