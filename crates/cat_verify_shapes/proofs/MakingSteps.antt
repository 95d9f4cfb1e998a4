-- Where instructions of structures, lists and cases lead.
use Rattle.std.proofs.Common.{◌≡◌, ◌≤◌, ℕ, zero, suc, ◌+◌, ◌-◌, Bool, true, false, List, [], ◌∷◌, ◌++◌, map}
use Rattle.std.proofs.Common.{Option, Some}
use Rattle.std.proofs.Common.{None, slice_get, replicate, refl, sym, ap, ◌∙◌, arith}
use Rattle.std.specs.Prelude.{Result, Ok, Err, is_none}
use Rattle.std.specs.Option.{option_map}
use Rattle.cat_value.specs.declared.ty.Ty.{Ty}
use Rattle.cat_value.specs.Entries.{content_of}
use Rattle.cat_code.specs.declared.instr.Instr.{Instr}
use Rattle.cat_code.specs.declared.instr.Instr.TheVariants as instr
use Rattle.cat_code.specs.declared.code.CasePlace.{CasePlace}
use Rattle.cat_code.specs.declared.code.Tables.{Tables}
use Rattle.cat_code.specs.Forms.{Form, Forms as Row, Truth, Many, Fields, OneOf, form_at, form_of}
use Rattle.cat_code.specs.Shapes as meant
use Rattle.cat_code.specs.Wanted.{all_same}
use Rattle.cat_code.specs.Leads.{Flow, leads, with, where_so, top, pushed, pop_as, popped, fields_of}
use Rattle.cat_code.specs.Told.{case_asked}
use Rattle.cat_code.specs.Flow.{flow}
use Rattle.cat_verify_shapes.specs.declared.forms.Forms.{Forms}
use Rattle.cat_verify_shapes.specs.declared.forms.Form.{Form as Entry}
use Rattle.cat_verify_shapes.specs.declared.forms.Form.TheVariants as form
use Rattle.cat_verify_shapes.specs.declared.making.CaseForm.{CaseForm}
use Rattle.cat_verify_shapes.specs.declared.shape.Shape.{Shape}
use Rattle.cat_verify_shapes.specs.declared.leads.Leads.{Leads}
use Rattle.cat_verify_shapes.specs.declared.leads.Leads.TheVariants as to
use Rattle.cat_verify_shapes.specs.declared.leads.Stuck.{Stuck}
use Rattle.cat_verify_shapes.specs.declared.leads.Stuck.TheVariants as stuck
use Rattle.cat_verify_shapes.specs.inside.Senses.{Senses, AreSenses, Means}
use Rattle.cat_verify_shapes.specs.inside.Told.{shape_of, leads_of, Comes, Tells, GivesOne}
use Rattle.cat_verify_shapes.specs.inside.Taking.{Takes, TakesAll}
use Rattle.cat_verify_shapes.specs.inside.Making.{PopsRow, IsInRow, IsCaseOf}
use Rattle.cat_verify_shapes.proofs.StepLemmas.{with_is, with_not, where_is, where_not, pop_none, pop_some, as_so}
use Rattle.cat_verify_shapes.proofs.StepLemmas.{as_not}
use Rattle.cat_verify_shapes.proofs.StepLemmas.{comes_by}
use Rattle.cat_verify_shapes.proofs.PopLemmas.{alike_so, alike_not}

-- an entry that is no structure has no fields
abbrev pub IsNoFields : Entry → Type 0
IsNoFields (form.Fields n) = ⊥
IsNoFields _ = Unit {0}

fields_not : (d : Senses) (n : ℕ) (f : Entry) (go : Row → Flow) → Means d n f → IsNoFields f
    → fields_of (d.one n) go ≡ None
fields_not d n form.Truth go m off = ap (λ (u : Form). fields_of u go) m
fields_not d n form.Whole go m off = ap (λ (u : Form). fields_of u go) m
fields_not d n form.Fraction go m off = ap (λ (u : Form). fields_of u go) m
fields_not d n form.Amount go m off = ap (λ (u : Form). fields_of u go) m
fields_not d n form.Day go m off = ap (λ (u : Form). fields_of u go) m
fields_not d n form.Span go m off = ap (λ (u : Form). fields_of u go) m
fields_not d n (form.Many k) go m off = ap (λ (u : Form). fields_of u go) m
fields_not d n (form.Fields k) go m off = absurd off
fields_not d n (form.OneOf k) go m off = ap (λ (u : Form). fields_of u go) m
fields_not d n form.Last go m off = ap (λ (u : Form). fields_of u go) m.1.1
fields_not d n (form.More k l) go m off = ap (λ (u : Form). fields_of u go) m.1.1

module _ (tables : Tables) (forms : Forms) (p : ℕ) where
  pub pack_few : (s r : Shape) (n : ℕ) → PopsRow tables forms s r n None
      → Tells tables forms (Err stuck.Bad) (flow tables [] (instr.Pack n) p) s
  pack_few s r n pops = λ d h. pops d h (λ ts x. leads (p + 1) (pushed (Fields ts) x))

  pub pack_so : (s r : Shape) (n row m : ℕ) (l : Leads) → PopsRow tables forms s r n (Some row)
      → slice_get forms.kinds.keys m ≡ Some (form.Fields row)
      → l ≡ to.One (p + 1) (record r { operands = m ∷ r.operands })
      → Tells tables forms (Ok l) (flow tables [] (instr.Pack n) p) s
  pack_so s r n row m l pops is led = λ d h.
      pops d h (λ ts x. leads (p + 1) (pushed (Fields ts) x))
      ∙ ap (λ (t : Form). leads (p + 1) (pushed t (shape_of d r))) (sym (h.means m (form.Fields row) is))
      ∙ ap (λ (x : Leads). Some (leads_of d x)) (sym led)

  -- ---- fields

  abbrev fielded : ℕ → Form → meant.Shape → Flow
  fielded i t x = fields_of t (λ ts. with (form_at ts i) (λ u. leads (p + 1) (pushed u x)))

  pub field_nothing : (s : Shape) (i : ℕ) → s.operands ≡ []
      → Tells tables forms (Err stuck.Bad) (flow tables [] (instr.Field i) p) s
  field_nothing s i none = λ d h. pop_none d s (fielded i) none

  pub field_other : (s r : Shape) (i n : ℕ) (f : Entry) → s ≡ record r { operands = n ∷ r.operands }
      → slice_get forms.kinds.keys n ≡ Some f → IsNoFields f
      → Tells tables forms (Err stuck.Bad) (flow tables [] (instr.Field i) p) s
  field_other s r i n f e is off = λ d h.
      pop_some d s r n (fielded i) e
      ∙ fields_not d n f (λ ts. with (form_at ts i) (λ u. leads (p + 1) (pushed u (shape_of d r)))) (h.means n f is) off

  pub field_gives : (result : Result Leads Stuck) (s r : Shape) (i n row : ℕ) (m : Option ℕ)
      → s ≡ record r { operands = n ∷ r.operands } → slice_get forms.kinds.keys n ≡ Some (form.Fields row)
      → IsInRow tables forms row i m → GivesOne p r m result
      → Tells tables forms result (flow tables [] (instr.Field i) p) s
  field_gives result s r i n row m e is at gives =
      comes_by tables forms result (λ d. flow tables [] (instr.Field i) p (shape_of d s))
      (λ d. with (option_map d.one m) (λ u. leads (p + 1) (pushed u (shape_of d r))))
      (λ d h. pop_some d s r n (fielded i) e
      ∙ ap (λ (t : Form). fielded i t (shape_of d r)) (h.means n (form.Fields row) is)
      ∙ ap (λ (o : Option Form). with o (λ u. leads (p + 1) (pushed u (shape_of d r)))) (at d h))
      (given result gives)
    where
      given : (result : Result Leads Stuck) → GivesOne p r m result
          → Comes tables forms result (λ d. with (option_map d.one m) (λ u. leads (p + 1) (pushed u (shape_of d r))))
      given (Ok l) gives = λ d h.
          ap (λ (o : Option ℕ). with (option_map d.one o) (λ u. leads (p + 1) (pushed u (shape_of d r)))) gives.1
          ∙ ap (λ (x : Leads). Some (leads_of d x)) (sym gives.2)
      given (Err stuck.Bad) gives = λ d h.
          ap (λ (o : Option ℕ). with (option_map d.one o) (λ u. leads (p + 1) (pushed u (shape_of d r)))) gives
      given (Err stuck.Memory) gives = tt

  -- ---- cases

  cased : (k : ℕ) (c : CaseForm) (go : CasePlace → Option Ty → Flow) (is : IsCaseOf tables forms k (Some c))
      → with (slice_get tables.cases k)
      (λ place. with (content_of tables.decls place.enumeration place.case) (λ content. go place content))
      ≡ go is.0 is.1
  cased k c go is =
      with_is (slice_get tables.cases k) is.0
      (λ place. with (content_of tables.decls place.enumeration place.case) (λ content. go place content)) (sym is.2)
      ∙ with_is (content_of tables.decls is.0.enumeration is.0.case) is.1 (go is.0) (sym is.3)

  abbrev tagging : meant.Shape → CasePlace → Option Ty → Flow
  tagging s place content = with content
      (λ t. pop_as (form_of tables.decls t) s (λ s. leads (p + 1) (pushed (OneOf place.enumeration) s)))

  pub tag_nowhere : (s : Shape) (k : ℕ) → IsCaseOf tables forms k None
      → Tells tables forms (Err stuck.Bad) (flow tables [] (instr.Tag k) p) s
  tag_nowhere s k none = λ d h. none (tagging (shape_of d s))

  content_none : (d : Senses) (c : Option ℕ) (content : Option Ty) (go : Form → Flow)
      → option_map d.one c ≡ option_map (form_of tables.decls) content
      → with content (λ t. go (form_of tables.decls t)) ≡ with (option_map d.one c) go
  content_none d c None go e = ap (λ (o : Option Form). with o go) (sym e)
  content_none d c (Some t) go e = ap (λ (o : Option Form). with o go) (sym e)

  tag_is : (d : Senses) → AreSenses tables.decls forms d → (s : Shape) (k : ℕ) (c : CaseForm)
      → IsCaseOf tables forms k (Some c)
      → flow tables [] (instr.Tag k) p (shape_of d s)
      ≡ with (option_map d.one c.content)
      (λ t. pop_as t (shape_of d s) (λ x. leads (p + 1) (pushed (d.one c.whole) x)))
  tag_is d h s k c is =
      cased k c (tagging (shape_of d s)) is
      ∙ content_none d c.content is.1
      (λ t. pop_as t (shape_of d s) (λ x. leads (p + 1) (pushed (OneOf is.0.enumeration) x)))
      (is.4 d h).1
      ∙ ap (λ (w : Form). with (option_map d.one c.content)
      (λ t. pop_as t (shape_of d s) (λ x. leads (p + 1) (pushed w x)))) (sym (is.4 d h).0)

  pub tag_empty : (s : Shape) (k : ℕ) (c : CaseForm) → IsCaseOf tables forms k (Some c) → c.content ≡ None
      → Tells tables forms (Err stuck.Bad) (flow tables [] (instr.Tag k) p) s
  tag_empty s k c is none = λ d h.
      tag_is d h s k c is
      ∙ ap (λ (o : Option ℕ). with (option_map d.one o)
      (λ t. pop_as t (shape_of d s) (λ x. leads (p + 1) (pushed (d.one c.whole) x)))) none

  pub tag_unlike : (s r : Shape) (k n : ℕ) (c : CaseForm) → IsCaseOf tables forms k (Some c) → c.content ≡ Some n
      → Takes s r n false → Tells tables forms (Err stuck.Bad) (flow tables [] (instr.Tag k) p) s
  tag_unlike s r k n c is some takes = λ d h.
      tag_is d h s k c is
      ∙ ap (λ (o : Option ℕ). with (option_map d.one o)
      (λ t. pop_as t (shape_of d s) (λ x. leads (p + 1) (pushed (d.one c.whole) x)))) some
      ∙ as_not d h.apart s r n (d.one n) (λ x. leads (p + 1) (pushed (d.one c.whole) x)) refl takes

  pub tag_so : (s r : Shape) (k n : ℕ) (c : CaseForm) (l : Leads) → IsCaseOf tables forms k (Some c)
      → c.content ≡ Some n → Takes s r n true → l ≡ to.One (p + 1) (record r { operands = c.whole ∷ r.operands })
      → Tells tables forms (Ok l) (flow tables [] (instr.Tag k) p) s
  tag_so s r k n c l is some takes led = λ d h.
      tag_is d h s k c is
      ∙ ap (λ (o : Option ℕ). with (option_map d.one o)
      (λ t. pop_as t (shape_of d s) (λ x. leads (p + 1) (pushed (d.one c.whole) x)))) some
      ∙ as_so d h.apart s r n (d.one n) (λ x. leads (p + 1) (pushed (d.one c.whole) x)) refl takes
      ∙ ap (λ (x : Leads). Some (leads_of d x)) (sym led)

  abbrev tagging_none : meant.Shape → CasePlace → Option Ty → Flow
  tagging_none s place content = where_so (is_none content) (leads (p + 1) (pushed (OneOf place.enumeration) s))

  pub tag_none_nowhere : (s : Shape) (k : ℕ) → IsCaseOf tables forms k None
      → Tells tables forms (Err stuck.Bad) (flow tables [] (instr.TagNone k) p) s
  tag_none_nowhere s k none = λ d h. none (tagging_none (shape_of d s))

  same_none : (d : Senses) (c : Option ℕ) (content : Option Ty)
      → option_map d.one c ≡ option_map (form_of tables.decls) content → is_none content ≡ is_none c
  same_none d None None e = refl
  same_none d (Some n) (Some t) e = refl
  same_none d None (Some t) e = ap is_none (sym e)
  same_none d (Some n) None e = ap is_none (sym e)

  tag_none_is : (d : Senses) → AreSenses tables.decls forms d → (s : Shape) (k : ℕ) (c : CaseForm)
      → IsCaseOf tables forms k (Some c)
      → flow tables [] (instr.TagNone k) p (shape_of d s)
      ≡ where_so (is_none c.content) (leads (p + 1) (pushed (d.one c.whole) (shape_of d s)))
  tag_none_is d h s k c is =
      cased k c (tagging_none (shape_of d s)) is
      ∙ ap (λ (b : Bool). where_so b (leads (p + 1) (pushed (OneOf is.0.enumeration) (shape_of d s))))
      (same_none d c.content is.1 (is.4 d h).1)
      ∙ ap (λ (w : Form). where_so (is_none c.content) (leads (p + 1) (pushed w (shape_of d s)))) (sym (is.4 d h).0)

  pub tag_none_full : (s : Shape) (k : ℕ) (c : CaseForm) → IsCaseOf tables forms k (Some c) → is_none c.content ≡ false
      → Tells tables forms (Err stuck.Bad) (flow tables [] (instr.TagNone k) p) s
  tag_none_full s k c is full = λ d h.
      tag_none_is d h s k c is
      ∙ where_not (is_none c.content) (leads (p + 1) (pushed (d.one c.whole) (shape_of d s))) full

  pub tag_none_so : (s : Shape) (k : ℕ) (c : CaseForm) (l : Leads) → IsCaseOf tables forms k (Some c)
      → is_none c.content ≡ true → l ≡ to.One (p + 1) (record s { operands = c.whole ∷ s.operands })
      → Tells tables forms (Ok l) (flow tables [] (instr.TagNone k) p) s
  tag_none_so s k c l is empty led = λ d h.
      tag_none_is d h s k c is
      ∙ where_is (is_none c.content) (leads (p + 1) (pushed (d.one c.whole) (shape_of d s))) empty
      ∙ ap (λ (x : Leads). Some (leads_of d x)) (sym led)

  pub is_case_nowhere : (s : Shape) (k : ℕ) → slice_get tables.cases k ≡ None
      → Tells tables forms (Err stuck.Bad) (flow tables [] (instr.IsCase k) p) s
  is_case_nowhere s k e = λ d h.
      with_not (slice_get tables.cases k)
      (λ place. pop_as (OneOf place.enumeration) (shape_of d s) (λ x. leads (p + 1) (pushed Truth x))) (sym e)

  pub is_case_unlike : (s r : Shape) (k n : ℕ) (place : CasePlace) → slice_get tables.cases k ≡ Some place
      → slice_get forms.kinds.keys n ≡ Some (form.OneOf place.enumeration) → Takes s r n false
      → Tells tables forms (Err stuck.Bad) (flow tables [] (instr.IsCase k) p) s
  is_case_unlike s r k n place e is takes = λ d h.
      with_is (slice_get tables.cases k) place
      (λ place. pop_as (OneOf place.enumeration) (shape_of d s) (λ x. leads (p + 1) (pushed Truth x))) (sym e)
      ∙ as_not d h.apart s r n (OneOf place.enumeration) (λ x. leads (p + 1) (pushed Truth x))
      (h.means n (form.OneOf place.enumeration) is) takes

  pub is_case_so : (s r : Shape) (k n m : ℕ) (place : CasePlace) (l : Leads) → slice_get tables.cases k ≡ Some place
      → slice_get forms.kinds.keys n ≡ Some (form.OneOf place.enumeration) → Takes s r n true
      → slice_get forms.kinds.keys m ≡ Some form.Truth → l ≡ to.One (p + 1) (record r { operands = m ∷ r.operands })
      → Tells tables forms (Ok l) (flow tables [] (instr.IsCase k) p) s
  is_case_so s r k n m place l e is takes truth led = λ d h.
      with_is (slice_get tables.cases k) place
      (λ place. pop_as (OneOf place.enumeration) (shape_of d s) (λ x. leads (p + 1) (pushed Truth x))) (sym e)
      ∙ as_so d h.apart s r n (OneOf place.enumeration) (λ x. leads (p + 1) (pushed Truth x))
      (h.means n (form.OneOf place.enumeration) is) takes
      ∙ ap (λ (t : Form). leads (p + 1) (pushed t (shape_of d r))) (sym (h.means m form.Truth truth))
      ∙ ap (λ (x : Leads). Some (leads_of d x)) (sym led)

  -- ---- contents

  abbrev opened : meant.Shape → CasePlace → Option Ty → Flow
  opened s place content = with content
      (λ t. pop_as (OneOf place.enumeration) s (λ s. leads (p + 1) (pushed (form_of tables.decls t) s)))

  pub content_unasked : (code : List Instr) (s : Shape) → case_asked (slice_get code (p - 3)) ≡ None
      → Tells tables forms (Err stuck.Bad) (flow tables code instr.Content p) s
  content_unasked code s e = λ d h.
      with_not (case_asked (slice_get code (p - 3))) (λ c. with (slice_get tables.cases c)
      (λ place. with (content_of tables.decls place.enumeration place.case) (opened (shape_of d s) place))) (sym e)

  content_at : (d : Senses) (code : List Instr) (s : Shape) (k : ℕ) → case_asked (slice_get code (p - 3)) ≡ Some k
      → flow tables code instr.Content p (shape_of d s)
      ≡ with (slice_get tables.cases k)
      (λ place. with (content_of tables.decls place.enumeration place.case) (opened (shape_of d s) place))
  content_at d code s k e =
      with_is (case_asked (slice_get code (p - 3))) k (λ c. with (slice_get tables.cases c)
      (λ place. with (content_of tables.decls place.enumeration place.case) (opened (shape_of d s) place))) (sym e)

  pub content_nowhere : (code : List Instr) (s : Shape) (k : ℕ) → case_asked (slice_get code (p - 3)) ≡ Some k
      → IsCaseOf tables forms k None → Tells tables forms (Err stuck.Bad) (flow tables code instr.Content p) s
  content_nowhere code s k e none = λ d h. content_at d code s k e ∙ none (opened (shape_of d s))

  content_is : (d : Senses) → AreSenses tables.decls forms d → (code : List Instr) (s : Shape) (k : ℕ) (c : CaseForm)
      → case_asked (slice_get code (p - 3)) ≡ Some k → IsCaseOf tables forms k (Some c)
      → flow tables code instr.Content p (shape_of d s)
      ≡ with (option_map d.one c.content)
      (λ t. pop_as (d.one c.whole) (shape_of d s) (λ x. leads (p + 1) (pushed t x)))
  content_is d h code s k c e is =
      content_at d code s k e ∙ cased k c (opened (shape_of d s)) is
      ∙ content_none d c.content is.1
      (λ t. pop_as (OneOf is.0.enumeration) (shape_of d s) (λ x. leads (p + 1) (pushed t x))) (is.4 d h).1
      ∙ ap (λ (w : Form). with (option_map d.one c.content)
      (λ t. pop_as w (shape_of d s) (λ x. leads (p + 1) (pushed t x)))) (sym (is.4 d h).0)

  pub content_empty : (code : List Instr) (s : Shape) (k : ℕ) (c : CaseForm)
      → case_asked (slice_get code (p - 3)) ≡ Some k → IsCaseOf tables forms k (Some c) → c.content ≡ None
      → Tells tables forms (Err stuck.Bad) (flow tables code instr.Content p) s
  content_empty code s k c e is none = λ d h.
      content_is d h code s k c e is
      ∙ ap (λ (o : Option ℕ). with (option_map d.one o)
      (λ t. pop_as (d.one c.whole) (shape_of d s) (λ x. leads (p + 1) (pushed t x)))) none

  pub content_unlike : (code : List Instr) (s r : Shape) (k n : ℕ) (c : CaseForm)
      → case_asked (slice_get code (p - 3)) ≡ Some k → IsCaseOf tables forms k (Some c) → c.content ≡ Some n
      → Takes s r c.whole false → Tells tables forms (Err stuck.Bad) (flow tables code instr.Content p) s
  content_unlike code s r k n c e is some takes = λ d h.
      content_is d h code s k c e is
      ∙ ap (λ (o : Option ℕ). with (option_map d.one o)
      (λ t. pop_as (d.one c.whole) (shape_of d s) (λ x. leads (p + 1) (pushed t x)))) some
      ∙ as_not d h.apart s r c.whole (d.one c.whole) (λ x. leads (p + 1) (pushed (d.one n) x)) refl takes

  pub content_so : (code : List Instr) (s r : Shape) (k n : ℕ) (c : CaseForm) (l : Leads)
      → case_asked (slice_get code (p - 3)) ≡ Some k → IsCaseOf tables forms k (Some c) → c.content ≡ Some n
      → Takes s r c.whole true → l ≡ to.One (p + 1) (record r { operands = n ∷ r.operands })
      → Tells tables forms (Ok l) (flow tables code instr.Content p) s
  content_so code s r k n c l e is some takes led = λ d h.
      content_is d h code s k c e is
      ∙ ap (λ (o : Option ℕ). with (option_map d.one o)
      (λ t. pop_as (d.one c.whole) (shape_of d s) (λ x. leads (p + 1) (pushed t x)))) some
      ∙ as_so d h.apart s r c.whole (d.one c.whole) (λ x. leads (p + 1) (pushed (d.one n) x)) refl takes
      ∙ ap (λ (x : Leads). Some (leads_of d x)) (sym led)

  -- ---- lists

  abbrev listed : Form → meant.Shape → Flow
  listed t x = leads (p + 1) (pushed (Many t) x)

  pub list_nothing : (s : Shape) (n : ℕ) → s.operands ≡ []
      → Tells tables forms (Err stuck.Bad) (flow tables [] (instr.List n) p) s
  list_nothing s n none = λ d h.
      ap (λ (ops : List ℕ). popped n [] (shape_of d s) (map d.one ops)
      (λ ts x. top ts (λ t us. where_so (all_same t us) (listed t x)))) none
      ∙ by_count n d
    where
      by_count : (n : ℕ) (d : Senses)
          → popped n [] (shape_of d s) [] (λ ts x. top ts (λ t us. where_so (all_same t us) (listed t x))) ≡ None
      by_count zero d = refl
      by_count (suc n) d = refl

  pub list_zero : (s : Shape) (n : ℕ) → n ≡ 0 → Tells tables forms (Err stuck.Bad) (flow tables [] (instr.List n) p) s
  list_zero s n none = λ d h. ap (λ (k : ℕ). flow tables [] (instr.List k) p (shape_of d s)) none

  pub list_unlike : (s r : Shape) (n e : ℕ) (rest : List ℕ) → s.operands ≡ e ∷ rest → 1 ≤ n
      → TakesAll s r (replicate n e) false → Tells tables forms (Err stuck.Bad) (flow tables [] (instr.List n) p) s
  list_unlike s r n e rest is some other = λ d h.
      alike_not d h.apart listed (n - 1) e s.operands rest (shape_of d s) n (less n some) is other
    where
      less : (n : ℕ) → 1 ≤ n → n ≡ suc (n - 1)
      less n h = omega (arith, h)

  pub list_so : (s r : Shape) (n e m : ℕ) (l : Leads) → 1 ≤ n → TakesAll s r (replicate n e) true
      → slice_get forms.kinds.keys m ≡ Some (form.Many e)
      → l ≡ to.One (p + 1) (record r { operands = m ∷ r.operands })
      → Tells tables forms (Ok l) (flow tables [] (instr.List n) p) s
  list_so s r n e m l some takes is led = λ d h.
      ap (λ (x : Shape). flow tables [] (instr.List n) p (shape_of d x)) takes
      ∙ alike_so d h.apart listed (n - 1) e r.operands
      (shape_of d (record r { operands = replicate n e ++ r.operands })) n
      (less n some)
      ∙ ap (λ (t : Form). leads (p + 1) (pushed t (shape_of d r))) (sym (h.means m (form.Many e) is))
      ∙ ap (λ (x : Leads). Some (leads_of d x)) (sym led)
    where
      less : (n : ℕ) → 1 ≤ n → n ≡ suc (n - 1)
      less n h = omega (arith, h)
