-- How a step finishes where its instruction flows from a shape that the state fits.
use Rattle.std.proofs.Common.{◌≡◌, ◌⊎◌, inl, inr, ℕ, zero, suc, ◌+◌, Bool, true, false, List, [], ◌∷◌, Option, Some}
use Rattle.std.proofs.Common.{None, Result, Ok, Err, refl, sym, ap, subst}
use Rattle.cat_value.specs.declared.value.Value.{Value}
use Rattle.cat_scope.specs.declared.stop.Stop.{Stop}
use Rattle.cat_scope.specs.Replies.{known}
use Rattle.cat_scope.specs.Names.{AllHave}
use Rattle.cat_scope.specs.Runs.{Decider}
use Rattle.cat_sound.specs.Endings.{Ended}
use Rattle.cat_sound.proofs.Exported.{anything, same_some}
use Rattle.cat_sound.proofs.Results.{Any}
use Rattle.cat_code.specs.declared.instr.Instr.{Instr}
use Rattle.cat_code.specs.Jumps.{jump_of}
use Rattle.cat_code.specs.States.{State, Next, Goes, Over, at, on, to, push}
use Rattle.cat_code.specs.Moves as move
use Rattle.cat_code.specs.Forms.{Form, Forms, same_form}
use Rattle.cat_code.specs.Forms as forms
use Rattle.cat_code.specs.Shapes.{Shape}
use Rattle.cat_code.specs.Leads.{Flow, leads, leads_two, with, where_so, pushed}
use Rattle.cat_code.specs.Leads as lead
use Rattle.cat_code.proofs.FormLaws.{same_is}
use Rattle.cat_code_sound.proofs.ValueKinds.{IsOf}
use Rattle.cat_code_sound.proofs.Fitting.{OnTop, Setting, Fits, placed_fits, pushed_fits, operands_fit}

-- a step that ends the run with what an outcome may be, or leads to a good state
pub data Finishes (Good : State → Type 0) : Next → Type 0 where
  goes : {log : List Decider} {s : State} → Good s → Finishes Good (Goes log s)
  over : {end : Result (List Value) Stop} → Ended anything Any end → Finishes Good (Over end)

-- where an instruction leads by itself: to the following one, or where it jumps
abbrev pub IsNext : Instr → ℕ → ℕ → Type 0
IsNext i p q = (q ≡ p + 1) ⊎ (jump_of i ≡ Some q)

module _ (here : Setting) (Good : State → Type 0) (i : Instr) (p : ℕ) where
  -- the shape is met there, and where the instruction leads there by itself each state that fits the shape is good
  abbrev pub GoesOn : ℕ × Shape → Type 0
  GoesOn next =
      here.Met next.0 next.1
      × (IsNext i p next.0 → (turns : List ℕ) (s : State) → s.place ≡ next.0 → Fits here turns next.1 s → Good s)

  -- an instruction flows, and only to where states are good
  pub record Fine (flows : Flow) : Type 0 where
    pub into : List (ℕ × Shape)
    pub is : flows ≡ Some into
    pub good : AllHave GoesOn into

  pub fine_where : (b : Bool) (go : Flow) → Fine (where_so b go) → (b ≡ true) × Fine go
  fine_where true go f = (refl, f)
  fine_where false go f = absurd (cc f.is)

  pub fine_with : {A : Type 0} (o : Option A) (go : A → Flow) → Fine (with o go) → (a : A) × (o ≡ Some a) × Fine (go a)
  fine_with None go f = absurd (cc f.is)
  fine_with (Some a) go f = (a, refl, f)

  pub fine_one : (q : ℕ) (s : Shape) → Fine (leads q s) → GoesOn (q, s)
  fine_one q s f =
      let there : AllHave GoesOn ((q, s) ∷ [])
      = subst (λ (l : List (ℕ × Shape)). AllHave GoesOn l) (sym (same_some ((q, s) ∷ []) f.into f.is)) f.good in
      there.0

  pub fine_two : (q : ℕ) (s : Shape) (r : ℕ) (t : Shape) → Fine (leads_two q s r t) → GoesOn (q, s) × GoesOn (r, t)
  fine_two q s r t f =
      let there : AllHave GoesOn ((q, s) ∷ (r, t) ∷ [])
      = subst (λ (l : List (ℕ × Shape)). AllHave GoesOn l)
      (sym (same_some ((q, s) ∷ (r, t) ∷ []) f.into f.is)) f.good in
      (there.0, there.1.0)

  -- ---- states

  pub finish_on : (turns : List ℕ) (shape : Shape) (s : State) → s.place ≡ p → Fits here turns shape s
      → GoesOn (p + 1, shape)
      → Finishes Good (on s)
  finish_on turns shape s is fits go =
      goes (go.1 (inl refl) turns (at (s.place + 1) s) (ap (λ n. n + 1) is)
      (placed_fits here turns shape s (s.place + 1) fits))

  pub finish_to : (turns : List ℕ) (shape : Shape) (s : State) (t : ℕ) → jump_of i ≡ Some t → Fits here turns shape s
      → GoesOn (t, shape) → Finishes Good (to t s)
  finish_to turns shape s t is fits go =
      goes (go.1 (inr is) turns (at t s) refl (placed_fits here turns shape s t fits))

  pub finish_push : (turns : List ℕ) (shape : Shape) (s : State) (t : Form) (v : Value) → s.place ≡ p
      → Fits here turns shape s
      → IsOf here.tables.decls t v → GoesOn (p + 1, pushed t shape) → Finishes Good (on (push v s))
  finish_push turns shape s t v is fits typed go =
      finish_on turns (pushed t shape) (push v s) is (pushed_fits here turns shape s t v fits typed) go

  -- ---- what is there

  pub finish_with : {A : Type 0} (P : A → Type 0) (r : Result A Stop) (go : A → Next) → Ended anything P r
      → ((a : A) → P a → Finishes Good (go a)) → Finishes Good (move.with_part r go)
  finish_with P (Ok a) go h next = next a h
  finish_with P (Err stop) go h next = over h

  pub finish_ok : {A : Type 0} (r : Result A Stop) (a : A) (go : A → Next) → r ≡ Ok a → Finishes Good (go a)
      → Finishes Good (move.with_part r go)
  finish_ok r a go is next = subst (λ x. Finishes Good (move.with_part x go)) (sym is) next

  pub finish_known : {A : Type 0} (o : Option A) (a : A) (go : A → Next) → o ≡ Some a → Finishes Good (go a)
      → Finishes Good (move.with_part (known o) go)
  finish_known o a go is next = subst (λ x. Finishes Good (move.with_part (known x) go)) (sym is) next

  -- ---- operands

  pub finish_pop : (turns : List ℕ) (shape : Shape) (s : State) (go : Form → Shape → Flow) (next : Value → State → Next)
      → Fits here turns shape s → Fine (lead.pop shape go)
      → ((t : Form) (ts : List Form) (v : Value) (vs : List Value) → IsOf here.tables.decls t v
      → Fits here turns (record shape { operands = ts }) (record s { operands = vs })
      → Fine (go t (record shape { operands = ts })) → Finishes Good (next v (record s { operands = vs })))
      → Finishes Good (move.pop s next)
  finish_pop turns shape s go next fits fine each = by shape.operands s.operands fits.operands fine
    where
      by : (ts : List Form) (vs : List Value) → OnTop (IsOf here.tables.decls) ts vs here.below.operands
          → Fine (lead.top ts (λ u us. go u (record shape { operands = us })))
          → Finishes Good (move.of_top vs (λ w ws. next w (record s { operands = ws })))
      by [] vs are f = absurd (cc f.is)
      by (t ∷ ts) [] are f = absurd are
      by (t ∷ ts) (v ∷ vs) are f = each t ts v vs are.0 (operands_fit here turns shape s ts vs fits are.1) f

  pub finish_pop_as : (turns : List ℕ) (shape : Shape) (s : State) (t : Form) (go : Shape → Flow)
      (next : Value → State → Next) → Fits here turns shape s → Fine (lead.pop_as t shape go)
      → ((ts : List Form) (v : Value) (vs : List Value) → IsOf here.tables.decls t v
      → Fits here turns (record shape { operands = ts }) (record s { operands = vs })
      → Fine (go (record shape { operands = ts })) → Finishes Good (next v (record s { operands = vs })))
      → Finishes Good (move.pop s next)
  finish_pop_as turns shape s t go next fits fine each =
      finish_pop turns shape s (λ u r. where_so (same_form u t) (go r)) next fits fine
      (λ u ts v vs is left f.
      let so = fine_where (same_form u t) (go (record shape { operands = ts })) f in
      each ts v vs (subst (λ (k : Form). IsOf here.tables.decls k v) (same_is u t so.0) is) left so.1)

  -- the top of a stack of shapes is there
  pub fine_top : {A : Type 0} (ts : List A) (go : A → List A → Flow) → Fine (lead.top ts go)
      → (t : A) × (us : List A) × (ts ≡ t ∷ us) × Fine (go t us)
  fine_top [] go f = absurd (cc f.is)
  fine_top (t ∷ us) go f = (t, us, refl, f)

  -- so the top of the stack itself is there
  pub finish_over : {A B : Type 0} (Is : A → B → Type 0) (ts : List A) (t : A) (us : List A) (xs below : List B)
      (next : B → List B → Next) → ts ≡ t ∷ us → OnTop Is ts xs below
      → ((x : B) (ys : List B) → xs ≡ x ∷ ys → Is t x → OnTop Is us ys below → Finishes Good (next x ys))
      → Finishes Good (move.of_top xs next)
  finish_over {A} {B} Is ts t us xs below next are on each =
      by xs (subst (λ (l : List A). OnTop Is l xs below) are on) each
    where
      by : (xs : List B) → OnTop Is (t ∷ us) xs below
          → ((x : B) (ys : List B) → xs ≡ x ∷ ys → Is t x → OnTop Is us ys below → Finishes Good (next x ys))
          → Finishes Good (move.of_top xs next)
      by [] fit go = absurd fit
      by (x ∷ ys) fit go = go x ys refl fit.0 fit.1

  -- n operands
  pub finish_pop_all : (turns : List ℕ) (shape : Shape) (s : State) (n : ℕ) (go : List Form → Shape → Flow)
      (next : List Value → State → Next) → Fits here turns shape s → Fine (lead.pop_all n shape go)
      → ((ts us : List Form) (vs ws : List Value) → OnTop (IsOf here.tables.decls) ts vs []
      → Fits here turns (record shape { operands = us }) (record s { operands = ws })
      → Fine (go ts (record shape { operands = us })) → Finishes Good (next vs (record s { operands = ws })))
      → Finishes Good (move.pop_all n s next)
  finish_pop_all turns shape s n go next fits fine each = by n [] [] shape.operands s.operands refl fits.operands fine
    where
      by : (n : ℕ) (ts : List Form) (vs : List Value) (us : List Form) (ws : List Value)
          → OnTop (IsOf here.tables.decls) ts vs [] → OnTop (IsOf here.tables.decls) us ws here.below.operands
          → Fine (lead.popped n ts shape us go) → Finishes Good (move.popped n vs s ws next)
      by zero ts vs us ws taken are f = each ts us vs ws taken (operands_fit here turns shape s us ws fits are) f
      by (suc n) ts vs [] ws taken are f = absurd (cc f.is)
      by (suc n) ts vs (u ∷ us) [] taken are f = absurd are
      by (suc n) ts vs (u ∷ us) (w ∷ ws) taken are f = by n (u ∷ ts) (w ∷ vs) us ws (are.0, taken) are.1 f

  -- the type of the elements of a list, and those of the fields of a structure
  pub fine_elements : (t : Form) (go : Form → Flow) → Fine (lead.elements_of t go)
      → (u : Form) × (t ≡ forms.Many u) × Fine (go u)
  fine_elements (forms.Many u) go f = (u, refl, f)
  fine_elements forms.Truth go f = absurd (cc f.is)
  fine_elements forms.Whole go f = absurd (cc f.is)
  fine_elements forms.Fraction go f = absurd (cc f.is)
  fine_elements forms.Amount go f = absurd (cc f.is)
  fine_elements forms.Day go f = absurd (cc f.is)
  fine_elements forms.Span go f = absurd (cc f.is)
  fine_elements (forms.Fields ts) go f = absurd (cc f.is)
  fine_elements (forms.OneOf n) go f = absurd (cc f.is)

  pub fine_fields : (t : Form) (go : Forms → Flow) → Fine (lead.fields_of t go)
      → (ts : Forms) × (t ≡ forms.Fields ts) × Fine (go ts)
  fine_fields (forms.Fields ts) go f = (ts, refl, f)
  fine_fields forms.Truth go f = absurd (cc f.is)
  fine_fields forms.Whole go f = absurd (cc f.is)
  fine_fields forms.Fraction go f = absurd (cc f.is)
  fine_fields forms.Amount go f = absurd (cc f.is)
  fine_fields forms.Day go f = absurd (cc f.is)
  fine_fields forms.Span go f = absurd (cc f.is)
  fine_fields (forms.Many t) go f = absurd (cc f.is)
  fine_fields (forms.OneOf n) go f = absurd (cc f.is)
