-- Where instructions of loops lead.
use Rattle.std.proofs.Common.{◌≡◌, ℕ, ◌+◌, nat_eq, true, false, List, [], ◌∷◌, length, map}
use Rattle.std.proofs.Common.{Option, Some}
use Rattle.std.proofs.Common.{None, slice_get, refl, sym, ap, ◌∙◌}
use Rattle.std.specs.Prelude.{Ok, Err}
use Rattle.std.specs.Option.{option_map}
use Rattle.cat_code.specs.declared.instr.Instr.TheVariants as instr
use Rattle.cat_code.specs.declared.code.Tables.{Tables}
use Rattle.cat_code.specs.Forms.{Form, Whole, Many, same_form}
use Rattle.cat_code.specs.Shapes as meant
use Rattle.cat_code.specs.Leads.{Flow, leads, leads_two, with, where_so, top, pushed, elements_of, begins}
use Rattle.cat_code.specs.Leads.{loop_ended}
use Rattle.cat_code.specs.Told.{collected_by, constant_form}
use Rattle.cat_code.specs.Flow.{flow}
use Rattle.cat_verify_shapes.specs.declared.forms.Forms.{Forms}
use Rattle.cat_verify_shapes.specs.declared.forms.Form.{Form as Entry}
use Rattle.cat_verify_shapes.specs.declared.forms.Form.TheVariants as form
use Rattle.cat_verify_shapes.specs.declared.shape.Shape.{Shape}
use Rattle.cat_verify_shapes.specs.declared.shape.LoopShape.{LoopShape}
use Rattle.cat_verify_shapes.specs.declared.leads.Leads.{Leads}
use Rattle.cat_verify_shapes.specs.declared.leads.Leads.TheVariants as to
use Rattle.cat_verify_shapes.specs.declared.leads.Stuck.TheVariants as stuck
use Rattle.cat_verify_shapes.specs.inside.Senses.{Senses, IsOther, Means, StandsIn}
use Rattle.cat_verify_shapes.specs.inside.Told.{frame_of, loop_of, pending_of, shape_of, leads_of, Tells}
use Rattle.cat_verify_shapes.specs.inside.Loops.{PopsList, IsCollected, with_loop, Ends, collected_in}
use Rattle.cat_verify_shapes.proofs.ListLemmas.{long_map}
use Rattle.cat_verify_shapes.proofs.StepLemmas.{where_is, where_not, pop_none, pop_some}

-- ---- what is popped

no_elements : (t : Form) (go : Form → Flow) → IsOther t → elements_of t go ≡ None
no_elements t go other = ap (λ (u : Form). elements_of u go) other.1

-- an entry that is no list has no elements
abbrev pub IsNoList : Entry → Type 0
IsNoList (form.Many n) = ⊥
IsNoList _ = Unit {0}

pub elements_not : (d : Senses) (n : ℕ) (f : Entry) (go : Form → Flow) → Means d n f → IsNoList f
    → elements_of (d.one n) go ≡ None
elements_not d n form.Truth go m off = ap (λ (u : Form). elements_of u go) m
elements_not d n form.Whole go m off = ap (λ (u : Form). elements_of u go) m
elements_not d n form.Fraction go m off = ap (λ (u : Form). elements_of u go) m
elements_not d n form.Amount go m off = ap (λ (u : Form). elements_of u go) m
elements_not d n form.Day go m off = ap (λ (u : Form). elements_of u go) m
elements_not d n form.Span go m off = ap (λ (u : Form). elements_of u go) m
elements_not d n (form.Many k) go m off = absurd off
elements_not d n (form.Fields k) go m off = ap (λ (u : Form). elements_of u go) m
elements_not d n (form.OneOf k) go m off = ap (λ (u : Form). elements_of u go) m
elements_not d n form.Last go m off = no_elements (d.one n) go m.1
elements_not d n (form.More k l) go m off = no_elements (d.one n) go m.1

module _ (tables : Tables) (forms : Forms) where
  pub pops_nothing : (s r : Shape) → s.operands ≡ [] → PopsList tables forms s r None
  pops_nothing s r e d h go = pop_none d s (λ t x. elements_of t (λ u. go u x)) e

  pub pops_other : (s r : Shape) (n : ℕ) (f : Entry) → s ≡ record r { operands = n ∷ r.operands }
      → slice_get forms.kinds.keys n ≡ Some f → IsNoList f → PopsList tables forms s r None
  pops_other s r n f e is off d h go =
      pop_some d s r n (λ t x. elements_of t (λ u. go u x)) e
      ∙ elements_not d n f (λ u. go u (shape_of d r)) (h.means n f is) off

  pub pops_list : (s r : Shape) (n m : ℕ) → s ≡ record r { operands = n ∷ r.operands }
      → slice_get forms.kinds.keys n ≡ Some (form.Many m) → PopsList tables forms s r (Some m)
  pops_list s r n m e is d h go =
      pop_some d s r n (λ t x. elements_of t (λ u. go u x)) e
      ∙ ap (λ (t : Form). elements_of t (λ u. go u (shape_of d r))) (h.means n (form.Many m) is)

  pub collected_nothing : (k : ℕ) → StandsIn tables.decls forms None (constant_form tables k)
      → IsCollected tables forms k None
  collected_nothing k stands d h go = ap (λ (o : Option Form). collected_by o go) (sym (stands d h))

  pub collected_other : (k n : ℕ) (f : Entry) → StandsIn tables.decls forms (Some n) (constant_form tables k)
      → slice_get forms.kinds.keys n ≡ Some f → IsNoList f → IsCollected tables forms k None
  collected_other k n f stands is off d h go =
      ap (λ (o : Option Form). collected_by o go) (sym (stands d h)) ∙ elements_not d n f go (h.means n f is) off

  pub collected_list : (k n m : ℕ) → StandsIn tables.decls forms (Some n) (constant_form tables k)
      → slice_get forms.kinds.keys n ≡ Some (form.Many m) → IsCollected tables forms k (Some m)
  collected_list k n m stands is d h go =
      ap (λ (o : Option Form). collected_by o go) (sym (stands d h))
      ∙ ap (λ (t : Form). elements_of t go) (h.means n (form.Many m) is)

  pub ends_plain : (s : Shape) → Ends tables forms s None s
  ends_plain s d h = refl

  pub ends_list : (s : Shape) (c n : ℕ) (operands : List ℕ) → slice_get forms.kinds.keys n ≡ Some (form.Many c)
      → operands ≡ n ∷ s.operands → Ends tables forms s (Some c) (record s { operands = operands })
  ends_list s c n operands is e d h =
      ap (λ (ops : List ℕ). shape_of d (record s { operands = ops })) e
      ∙ ap (λ (t : Form). pushed t (shape_of d s)) (h.means n (form.Many c) is)

module _ (tables : Tables) (forms : Forms) (p : ℕ) where
  pub length_nothing : (s r : Shape) → PopsList tables forms s r None
      → Tells tables forms (Err stuck.Bad) (flow tables [] instr.Length p) s
  length_nothing s r pops = λ d h. pops d h (λ u x. leads (p + 1) (pushed Whole x))

  pub length_so : (s r : Shape) (m n : ℕ) (l : Leads) → PopsList tables forms s r (Some m)
      → slice_get forms.kinds.keys n ≡ Some form.Whole → l ≡ to.One (p + 1) (record r { operands = n ∷ r.operands })
      → Tells tables forms (Ok l) (flow tables [] instr.Length p) s
  length_so s r m n l pops is led = λ d h.
      pops d h (λ u x. leads (p + 1) (pushed Whole x))
      ∙ ap (λ (t : Form). leads (p + 1) (pushed t (shape_of d r))) (sym (h.means n form.Whole is))
      ∙ ap (λ (x : Leads). Some (leads_of d x)) (sym led)

  begins_is : (d : Senses) (s : Shape) (e : ℕ) (c : Option ℕ)
      → begins p (d.one e) (option_map d.one c) (shape_of d s) ≡ leads (p + 1) (shape_of d (with_loop p e c s))
  begins_is d s e c =
      ap (λ (n : ℕ). leads (p + 1) (record (shape_of d s) {
        loops = record {
          begun = p;
          element = d.one e;
          collected = option_map d.one c;
          frames = n;
          pending = length (map pending_of s.pending);
        } ∷ map (loop_of d) s.loops;
      })) (long_map (frame_of d) s.defaults)
      ∙ ap (λ (n : ℕ). leads (p + 1) (record (shape_of d s) {
        loops = record {
          begun = p;
          element = d.one e;
          collected = option_map d.one c;
          frames = length s.defaults;
          pending = n;
        } ∷ map (loop_of d) s.loops;
      })) (long_map pending_of s.pending)

  pub iter_nothing : (s r : Shape) → PopsList tables forms s r None
      → Tells tables forms (Err stuck.Bad) (flow tables [] instr.Iter p) s
  iter_nothing s r pops = λ d h. pops d h (λ u x. begins p u None x)

  pub iter_so : (s r : Shape) (e : ℕ) (l : Leads) → PopsList tables forms s r (Some e)
      → l ≡ to.One (p + 1) (with_loop p e None r) → Tells tables forms (Ok l) (flow tables [] instr.Iter p) s
  iter_so s r e l pops led = λ d h.
      pops d h (λ u x. begins p u None x) ∙ begins_is d r e None ∙ ap (λ (x : Leads). Some (leads_of d x)) (sym led)

  pub iter_list_nothing : (s r : Shape) (k : ℕ) → PopsList tables forms s r None
      → Tells tables forms (Err stuck.Bad) (flow tables [] (instr.IterList k) p) s
  iter_list_nothing s r k pops = λ d h.
      pops d h (λ u x. collected_by (constant_form tables k) (λ c. begins p u (Some c) x))

  pub iter_list_other : (s r : Shape) (k e : ℕ) → PopsList tables forms s r (Some e) → IsCollected tables forms k None
      → Tells tables forms (Err stuck.Bad) (flow tables [] (instr.IterList k) p) s
  iter_list_other s r k e pops none = λ d h.
      pops d h (λ u x. collected_by (constant_form tables k) (λ c. begins p u (Some c) x))
      ∙ none d h (λ c. begins p (d.one e) (Some c) (shape_of d r))

  pub iter_list_so : (s r : Shape) (k e c : ℕ) (l : Leads) → PopsList tables forms s r (Some e)
      → IsCollected tables forms k (Some c) → l ≡ to.One (p + 1) (with_loop p e (Some c) r)
      → Tells tables forms (Ok l) (flow tables [] (instr.IterList k) p) s
  iter_list_so s r k e c l pops some led = λ d h.
      pops d h (λ u x. collected_by (constant_form tables k) (λ c. begins p u (Some c) x))
      ∙ some d h (λ c. begins p (d.one e) (Some c) (shape_of d r))
      ∙ begins_is d r e (Some c) ∙ ap (λ (x : Leads). Some (leads_of d x)) (sym led)

  -- ---- turns

  abbrev turned : ℕ → Senses → Shape → Flow
  turned t d s = top (map (loop_of d) s.loops) (λ l ls. where_so (nat_eq (l.begun + 1) p)
      (leads_two (p + 1) (pushed l.element (shape_of d s)) t
      (loop_ended l.collected (record (shape_of d s) { loops = ls }))))

  pub next_nothing : (s c : Shape) (t : ℕ) → c ≡ s → c.loops ≡ []
      → Tells tables forms (Err stuck.Bad) (flow tables [] (instr.Next t) p) s
  next_nothing s c t copy none = λ d h.
      ap (turned t d) (sym copy)
      ∙ ap (λ (ls : List LoopShape). top (map (loop_of d) ls) (λ l ls. where_so (nat_eq (l.begun + 1) p)
      (leads_two (p + 1) (pushed l.element (shape_of d c)) t
      (loop_ended l.collected (record (shape_of d c) { loops = ls }))))) none

  turned_is : (d : Senses) (s c r : Shape) (t : ℕ) (l : LoopShape) → c ≡ s → c ≡ record r { loops = l ∷ r.loops }
      → flow tables [] (instr.Next t) p (shape_of d s)
      ≡ where_so (nat_eq (l.begun + 1) p)
      (leads_two (p + 1) (pushed (d.one l.element) (shape_of d s)) t
      (loop_ended (option_map d.one l.collected) (shape_of d r)))
  turned_is d s c r t l copy is =
      ap (turned t d) (sym copy ∙ is)
      ∙ ap (λ (x : Shape). where_so (nat_eq (l.begun + 1) p)
      (leads_two (p + 1) (pushed (d.one l.element) (shape_of d x)) t
      (loop_ended (option_map d.one l.collected) (shape_of d r)))) (sym is ∙ copy)

  pub next_apart : (s c r : Shape) (t : ℕ) (l : LoopShape) → c ≡ s → c ≡ record r { loops = l ∷ r.loops }
      → nat_eq (l.begun + 1) p ≡ false → Tells tables forms (Err stuck.Bad) (flow tables [] (instr.Next t) p) s
  next_apart s c r t l copy is other = λ d h.
      turned_is d s c r t l copy is
      ∙ where_not (nat_eq (l.begun + 1) p) (leads_two (p + 1) (pushed (d.one l.element) (shape_of d s)) t
      (loop_ended (option_map d.one l.collected) (shape_of d r))) other

  pub next_so : (s c r q : Shape) (t : ℕ) (l : LoopShape) (operands : List ℕ) → c ≡ s
      → c ≡ record r { loops = l ∷ r.loops } → nat_eq (l.begun + 1) p ≡ true → Ends tables forms r l.collected q
      → operands ≡ l.element ∷ s.operands
      → Tells tables forms (Ok (to.Two (p + 1) (record s { operands = operands }) t q))
      (flow tables [] (instr.Next t) p) s
  next_so s c r q t l operands copy is same ends pushed_is = λ d h.
      turned_is d s c r t l copy is
      ∙ where_is (nat_eq (l.begun + 1) p) (leads_two (p + 1) (pushed (d.one l.element) (shape_of d s)) t
      (loop_ended (option_map d.one l.collected) (shape_of d r))) same
      ∙ ap (λ (x : meant.Shape). leads_two (p + 1) (pushed (d.one l.element) (shape_of d s)) t x) (sym (ends d h))
      ∙ ap (λ (ops : List ℕ). leads_two (p + 1) (shape_of d (record s { operands = ops })) t (shape_of d q))
      (sym pushed_is)

  -- ---- what is collected

  collects : (d : Senses) (ls : List LoopShape) (go : Form → Flow)
      → top (map (loop_of d) ls) (λ l rest. with l.collected go) ≡ with (option_map d.one (collected_in ls)) go
  collects d [] go = refl
  collects d (l ∷ ls) go = refl

  abbrev collecting : Form → meant.Shape → Flow
  collecting t x = top x.loops (λ l ls. with l.collected (λ c. where_so (same_form t c) (leads (p + 1) x)))

  pub collect_nothing : (s : Shape) → s.operands ≡ []
      → Tells tables forms (Err stuck.Bad) (flow tables [] instr.Collect p) s
  collect_nothing s none = λ d h. pop_none d s collecting none

  collect_is : (d : Senses) (s r : Shape) (n : ℕ) → s ≡ record r { operands = n ∷ r.operands }
      → flow tables [] instr.Collect p (shape_of d s)
      ≡ with (option_map d.one (collected_in r.loops))
      (λ c. where_so (same_form (d.one n) c) (leads (p + 1) (shape_of d r)))
  collect_is d s r n is =
      pop_some d s r n collecting is
      ∙ collects d r.loops (λ c. where_so (same_form (d.one n) c) (leads (p + 1) (shape_of d r)))

  pub collect_other : (s r : Shape) (n c : ℕ) → s ≡ record r { operands = n ∷ r.operands }
      → collected_in r.loops ≡ Some c → nat_eq n c ≡ false
      → Tells tables forms (Err stuck.Bad) (flow tables [] instr.Collect p) s
  collect_other s r n c is some other = λ d h.
      collect_is d s r n is
      ∙ ap (λ (o : Option ℕ). with (option_map d.one o)
      (λ c. where_so (same_form (d.one n) c) (leads (p + 1) (shape_of d r)))) some
      ∙ where_not (same_form (d.one n) (d.one c)) (leads (p + 1) (shape_of d r)) (h.apart n c ∙ other)

  pub collect_so : (s r : Shape) (n c : ℕ) → s ≡ record r { operands = n ∷ r.operands }
      → collected_in r.loops ≡ Some c → nat_eq n c ≡ true
      → Tells tables forms (Ok (to.One (p + 1) r)) (flow tables [] instr.Collect p) s
  collect_so s r n c is some same = λ d h.
      collect_is d s r n is
      ∙ ap (λ (o : Option ℕ). with (option_map d.one o)
      (λ c. where_so (same_form (d.one n) c) (leads (p + 1) (shape_of d r)))) some
      ∙ where_is (same_form (d.one n) (d.one c)) (leads (p + 1) (shape_of d r)) (h.apart n c ∙ same)

  pub leave_nothing : (s : Shape) → s.loops ≡ []
      → Tells tables forms (Err stuck.Bad) (flow tables [] instr.Leave p) s
  leave_nothing s none = λ d h.
      ap (λ (ls : List LoopShape). top (map (loop_of d) ls)
      (λ l ls. leads (p + 1) (record (shape_of d s) { loops = ls }))) none

  pub leave_so : (s r : Shape) (l : LoopShape) → s ≡ record r { loops = l ∷ r.loops }
      → Tells tables forms (Ok (to.One (p + 1) r)) (flow tables [] instr.Leave p) s
  leave_so s r l is = λ d h. ap (λ (x : Shape). flow tables [] instr.Leave p (shape_of d x)) is
