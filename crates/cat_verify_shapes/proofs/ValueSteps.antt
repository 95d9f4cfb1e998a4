-- Where instructions of values, slots and jumps lead.
use Rattle.std.proofs.Common.{◌≡◌, ℕ, zero, suc, ◌+◌, ◌-◌, nat_le, nat_lt, Bool, true, false, List, []}
use Rattle.std.proofs.Common.{◌∷◌, ◌++◌}
use Rattle.std.proofs.Common.{length, map, take, Option, Some, None, slice_get, slice_set, refl, sym, ap, ◌∙◌}
use Rattle.std.specs.Prelude.{Result, Ok, Err, is_none}
use Rattle.std.specs.Option.{option_map}
use Rattle.cat_code.specs.declared.instr.Instr.TheVariants as instr
use Rattle.cat_code.specs.declared.code.Tables.{Tables}
use Rattle.cat_code.specs.Forms.{Form, Truth, slot_form}
use Rattle.cat_code.specs.Wanted.{is_so}
use Rattle.cat_code.specs.Leads.{leads, leads_two, with, pushed, pop_as}
use Rattle.cat_code.specs.Told.{is_scope}
use Rattle.cat_code.specs.Flow.{flow}
use Rattle.cat_verify_shapes.specs.declared.forms.Forms.{Forms}
use Rattle.cat_verify_shapes.specs.declared.forms.Form.TheVariants as form
use Rattle.cat_verify_shapes.specs.declared.shape.Shape.{Shape}
use Rattle.cat_verify_shapes.specs.declared.leads.Leads.{Leads}
use Rattle.cat_verify_shapes.specs.declared.leads.Leads.TheVariants as to
use Rattle.cat_verify_shapes.specs.declared.leads.Stuck.{Stuck}
use Rattle.cat_verify_shapes.specs.declared.leads.Stuck.TheVariants as stuck
use Rattle.cat_verify_shapes.specs.Owned.{owner_of}
use Rattle.cat_verify_shapes.specs.inside.Senses.{Senses, AreSenses, StandsIn}
use Rattle.cat_verify_shapes.specs.inside.Told.{shape_of, leads_of, Tells, GivesOne}
use Rattle.cat_verify_shapes.specs.inside.Taking.{Takes}
use Rattle.cat_verify_shapes.proofs.ListLemmas.{get_map, long_map}
use Rattle.cat_verify_shapes.proofs.StepLemmas.{with_is, with_not, where_is, where_not, pop_none, pop_some, as_so}
use Rattle.cat_verify_shapes.proofs.StepLemmas.{as_not}
use Rattle.cat_verify_shapes.proofs.StepLemmas.{comes_by, gives_comes}

module _ (tables : Tables) (forms : Forms) (p : ℕ) where
  -- ---- constants, slots and locals

  pub slot_unfilled : (s : Shape) (i : ℕ) → is_so (slice_get s.filled i) ≡ false
      → Tells tables forms (Err stuck.Bad) (flow tables [] (instr.Slot i) p) s
  slot_unfilled s i e = λ d h.
      where_not (is_so (slice_get s.filled i))
      (with (slot_form tables.decls s.owner.scope i) (λ t. leads (p + 1) (pushed t (shape_of d s)))) e

  pub slot_filled : (r : Result Leads Stuck) (s : Shape) (i : ℕ) (n : Option ℕ) → is_so (slice_get s.filled i) ≡ true
      → StandsIn tables.decls forms n (slot_form tables.decls s.owner.scope i) → GivesOne p s n r
      → Tells tables forms r (flow tables [] (instr.Slot i) p) s
  slot_filled r s i n e stands gives =
      comes_by tables forms r (λ d. flow tables [] (instr.Slot i) p (shape_of d s))
      (λ d. with (slot_form tables.decls s.owner.scope i) (λ t. leads (p + 1) (pushed t (shape_of d s))))
      (λ d h. where_is (is_so (slice_get s.filled i))
      (with (slot_form tables.decls s.owner.scope i) (λ t. leads (p + 1) (pushed t (shape_of d s)))) e)
      (gives_comes tables forms r p s n (slot_form tables.decls s.owner.scope i) gives stands)

  pub local_gives : (r : Result Leads Stuck) (s : Shape) (i : ℕ) (n : Option ℕ) → n ≡ slice_get s.locals i
      → GivesOne p s n r → Tells tables forms r (flow tables [] (instr.Local i) p) s
  local_gives (Ok to) s i n e gives = λ d h.
      with_is (slice_get (map d.one s.locals) i) (d.one gives.0) (λ t. leads (p + 1) (pushed t (shape_of d s)))
      (sym (get_map d.one s.locals i ∙ ap (λ (o : Option ℕ). option_map d.one o) (sym e ∙ gives.1)))
      ∙ ap (λ (l : Leads). Some (leads_of d l)) (sym gives.2)
  local_gives (Err stuck.Bad) s i n e gives = λ d h.
      with_not (slice_get (map d.one s.locals) i) (λ t. leads (p + 1) (pushed t (shape_of d s)))
      (sym (get_map d.one s.locals i ∙ ap (λ (o : Option ℕ). option_map d.one o) (sym e ∙ gives)))
  local_gives (Err stuck.Memory) s i n e gives = tt

  -- ---- what is stored

  pub store_in_function : (s : Shape) (i : ℕ) → is_none s.owner.function ≡ false
      → Tells tables forms (Err stuck.Bad) (flow tables [] (instr.Store i) p) s
  store_in_function s i e = λ d h.
      where_not (is_scope (owner_of s.owner)) (with (slot_form tables.decls s.owner.scope i)
      (λ t. pop_as t (shape_of d s) (λ x. leads (p + 1) (record x { filled = slice_set x.filled i true })))) e

  pub store_nowhere : (s : Shape) (i : ℕ) → is_none s.owner.function ≡ true
      → StandsIn tables.decls forms None (slot_form tables.decls s.owner.scope i)
      → Tells tables forms (Err stuck.Bad) (flow tables [] (instr.Store i) p) s
  store_nowhere s i e stands = λ d h.
      where_is (is_scope (owner_of s.owner)) (with (slot_form tables.decls s.owner.scope i)
      (λ t. pop_as t (shape_of d s) (λ x. leads (p + 1) (record x { filled = slice_set x.filled i true })))) e
      ∙ with_not (slot_form tables.decls s.owner.scope i)
      (λ t. pop_as t (shape_of d s) (λ x. leads (p + 1) (record x { filled = slice_set x.filled i true }))) (stands d h)

  store_to : (s : Shape) (i n : ℕ) → is_none s.owner.function ≡ true
      → StandsIn tables.decls forms (Some n) (slot_form tables.decls s.owner.scope i)
      → (d : Senses) → AreSenses tables.decls forms d
      → flow tables [] (instr.Store i) p (shape_of d s)
      ≡ pop_as (d.one n) (shape_of d s) (λ x. leads (p + 1) (record x { filled = slice_set x.filled i true }))
  store_to s i n e stands d h =
      where_is (is_scope (owner_of s.owner)) (with (slot_form tables.decls s.owner.scope i)
      (λ t. pop_as t (shape_of d s) (λ x. leads (p + 1) (record x { filled = slice_set x.filled i true })))) e
      ∙ with_is (slot_form tables.decls s.owner.scope i) (d.one n)
      (λ t. pop_as t (shape_of d s) (λ x. leads (p + 1) (record x { filled = slice_set x.filled i true }))) (stands d h)

  pub store_other : (s r : Shape) (i n : ℕ) → is_none s.owner.function ≡ true
      → StandsIn tables.decls forms (Some n) (slot_form tables.decls s.owner.scope i) → Takes s r n false
      → Tells tables forms (Err stuck.Bad) (flow tables [] (instr.Store i) p) s
  store_other s r i n e stands takes = λ d h.
      store_to s i n e stands d h
      ∙ as_not d h.apart s r n (d.one n) (λ x. leads (p + 1) (record x { filled = slice_set x.filled i true })) refl
      takes

  pub store_so : (s r : Shape) (i n : ℕ) (filled : List Bool) → is_none s.owner.function ≡ true
      → StandsIn tables.decls forms (Some n) (slot_form tables.decls s.owner.scope i) → Takes s r n true
      → filled ≡ slice_set r.filled i true
      → Tells tables forms (Ok (to.One (p + 1) (record r { filled = filled }))) (flow tables [] (instr.Store i) p) s
  store_so s r i n filled e stands takes set = λ d h.
      store_to s i n e stands d h
      ∙ as_so d h.apart s r n (d.one n) (λ x. leads (p + 1) (record x { filled = slice_set x.filled i true })) refl
      takes
      ∙ ap (λ (bs : List Bool). Some ((p + 1, record (shape_of d r) { filled = bs }) ∷ [])) (sym set)

  -- ---- locals

  pub bind_nothing : (s : Shape) → s.operands ≡ [] → Tells tables forms (Err stuck.Bad) (flow tables [] instr.Bind p) s
  bind_nothing s e = λ d h. pop_none d s (λ t x. leads (p + 1) (record x { locals = x.locals ++ t ∷ [] })) e

  map_last : (d : Senses) (xs : List ℕ) (n : ℕ) → map d.one xs ++ d.one n ∷ [] ≡ map d.one (xs ++ n ∷ [])
  map_last d [] n = refl
  map_last d (x ∷ xs) n = ap (λ (ts : List Form). d.one x ∷ ts) (map_last d xs n)

  pub bind_so : (s r : Shape) (n : ℕ) (locals : List ℕ) → s ≡ record r { operands = n ∷ r.operands }
      → locals ≡ r.locals ++ n ∷ []
      → Tells tables forms (Ok (to.One (p + 1) (record r { locals = locals }))) (flow tables [] instr.Bind p) s
  bind_so s r n locals e more = λ d h.
      pop_some d s r n (λ t x. leads (p + 1) (record x { locals = x.locals ++ t ∷ [] })) e
      ∙ ap (λ (ts : List Form). Some ((p + 1, record (shape_of d r) { locals = ts }) ∷ []))
      (map_last d r.locals n ∙ ap (map d.one) (sym more))

  map_take : (d : Senses) (n : ℕ) (xs : List ℕ) → take n (map d.one xs) ≡ map d.one (take n xs)
  map_take d zero xs = refl
  map_take d (suc n) [] = refl
  map_take d (suc n) (x ∷ xs) = ap (λ (ts : List Form). d.one x ∷ ts) (map_take d n xs)

  pub drop_too_many : (s : Shape) (n : ℕ) → nat_le n (length s.locals) ≡ false
      → Tells tables forms (Err stuck.Bad) (flow tables [] (instr.Drop n) p) s
  drop_too_many s n e = λ d h.
      where_not (nat_le n (length (map d.one s.locals)))
      (leads (p + 1) (record (shape_of d s) {
        locals = take (length (map d.one s.locals) - n) (map d.one s.locals);
      }))
      (ap (nat_le n) (long_map d.one s.locals) ∙ e)

  pub drop_so : (s : Shape) (n : ℕ) (locals : List ℕ) → nat_le n (length s.locals) ≡ true
      → locals ≡ take (length s.locals - n) s.locals
      → Tells tables forms (Ok (to.One (p + 1) (record s { locals = locals }))) (flow tables [] (instr.Drop n) p) s
  drop_so s n locals e is = λ d h.
      where_is (nat_le n (length (map d.one s.locals)))
      (leads (p + 1) (record (shape_of d s) {
        locals = take (length (map d.one s.locals) - n) (map d.one s.locals);
      }))
      (ap (nat_le n) (long_map d.one s.locals) ∙ e)
      ∙ ap (λ (ts : List Form). Some ((p + 1, record (shape_of d s) { locals = ts }) ∷ []))
      (ap (λ (k : ℕ). take (k - n) (map d.one s.locals)) (long_map d.one s.locals)
      ∙ map_take d (length s.locals - n) s.locals ∙ ap (map d.one) (sym is))

  -- ---- jumps

  pub given_nowhere : (s : Shape) (i t : ℕ) → nat_lt i (length s.filled) ≡ false
      → Tells tables forms (Err stuck.Bad) (flow tables [] (instr.Given i t) p) s
  given_nowhere s i t e = λ d h.
      where_not (nat_lt i (length s.filled))
      (leads_two (p + 1) (shape_of d s) t (record (shape_of d s) { filled = slice_set s.filled i true })) e

  pub given_so : (s c : Shape) (i t : ℕ) (filled : List Bool) → nat_lt i (length s.filled) ≡ true → c ≡ s
      → filled ≡ slice_set c.filled i true
      → Tells tables forms (Ok (to.Two (p + 1) s t (record c { filled = filled })))
      (flow tables [] (instr.Given i t) p) s
  given_so s c i t filled e copy set = λ d h.
      where_is (nat_lt i (length s.filled))
      (leads_two (p + 1) (shape_of d s) t (record (shape_of d s) { filled = slice_set s.filled i true })) e
      ∙ ap (λ (x : Shape). Some ((p + 1, shape_of d s) ∷ (t, shape_of d x) ∷ []))
      (sym (ap (λ (bs : List Bool). record c { filled = bs }) set
      ∙ ap (λ (x : Shape). record x { filled = slice_set x.filled i true }) copy))

  pub jump_unlike : (s r : Shape) (n t : ℕ) → slice_get forms.kinds.keys n ≡ Some form.Truth → Takes s r n false
      → Tells tables forms (Err stuck.Bad) (flow tables [] (instr.JumpFalse t) p) s
  jump_unlike s r n t is takes = λ d h.
      as_not d h.apart s r n Truth (λ x. leads_two (p + 1) x t x) (h.means n form.Truth is) takes

  pub jump_so : (s r : Shape) (n t : ℕ) (l : Leads) → slice_get forms.kinds.keys n ≡ Some form.Truth → Takes s r n true
      → l ≡ to.Two (p + 1) r t r → Tells tables forms (Ok l) (flow tables [] (instr.JumpFalse t) p) s
  jump_so s r n t l is takes e = λ d h.
      as_so d h.apart s r n Truth (λ x. leads_two (p + 1) x t x) (h.means n form.Truth is) takes
      ∙ ap (λ (x : Leads). Some (leads_of d x)) (sym e)

  pub assert_nowhere : (s : Shape) (q : ℕ) → nat_lt q (length tables.positions) ≡ false
      → Tells tables forms (Err stuck.Bad) (flow tables [] (instr.Assert q) p) s
  assert_nowhere s q e = λ d h.
      where_not (nat_lt q (length tables.positions)) (pop_as Truth (shape_of d s) (λ x. leads (p + 1) x)) e

  pub assert_unlike : (s r : Shape) (q n : ℕ) → nat_lt q (length tables.positions) ≡ true
      → slice_get forms.kinds.keys n ≡ Some form.Truth → Takes s r n false
      → Tells tables forms (Err stuck.Bad) (flow tables [] (instr.Assert q) p) s
  assert_unlike s r q n e is takes = λ d h.
      where_is (nat_lt q (length tables.positions)) (pop_as Truth (shape_of d s) (λ x. leads (p + 1) x)) e
      ∙ as_not d h.apart s r n Truth (λ x. leads (p + 1) x) (h.means n form.Truth is) takes

  pub assert_so : (s r : Shape) (q n : ℕ) → nat_lt q (length tables.positions) ≡ true
      → slice_get forms.kinds.keys n ≡ Some form.Truth → Takes s r n true
      → Tells tables forms (Ok (to.One (p + 1) r)) (flow tables [] (instr.Assert q) p) s
  assert_so s r q n e is takes = λ d h.
      where_is (nat_lt q (length tables.positions)) (pop_as Truth (shape_of d s) (λ x. leads (p + 1) x)) e
      ∙ as_so d h.apart s r n Truth (λ x. leads (p + 1) x) (h.means n form.Truth is) takes
