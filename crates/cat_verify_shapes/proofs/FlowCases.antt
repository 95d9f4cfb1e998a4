-- What holds of the places to which a flow leads, by the combinations of flows.
use Rattle.std.proofs.Common.{◌≡◌, ℕ, zero, suc, Bool, true, false, List, [], ◌∷◌, Option, Some, None, refl}
use Rattle.cat_code.specs.Forms.{Form, Forms, Many, Fields, same_form}
use Rattle.cat_code.specs.Shapes.{Shape}
use Rattle.cat_code.specs.Leads.{Flow, leads, with, where_so, top, pushed, pop, pop_as, popped, elements_of, fields_of}
use Rattle.cat_code.specs.Told.{collected_by}

module _ (Lead : List (ℕ × Shape) → Type 0) where
  -- where it goes on, this holds of the places with the shapes that are left there
  abbrev pub FlowAll : Flow → Type 0
  FlowAll None = Unit {0}
  FlowAll (Some to) = Lead to

  pub with_all : {A : Type 0} (o : Option A) (go : A → Flow) → ((a : A) → FlowAll (go a)) → FlowAll (with o go)
  with_all None go h = tt
  with_all (Some a) go h = h a

  pub where_all : (b : Bool) (go : Flow) → (b ≡ true → FlowAll go) → FlowAll (where_so b go)
  where_all true go h = h refl
  where_all false go h = tt

  pub top_all : {A : Type 0} (xs : List A) (go : A → List A → Flow)
      → ((x : A) (more : List A) → xs ≡ x ∷ more → FlowAll (go x more)) → FlowAll (top xs go)
  top_all [] go h = tt
  top_all (x ∷ xs) go h = h x xs refl

  pub pop_all_of : (s : Shape) (go : Form → Shape → Flow)
      → ((t : Form) (ts : List Form) → FlowAll (go t (record s { operands = ts }))) → FlowAll (pop s go)
  pop_all_of s go h = top_all s.operands (λ t ts. go t (record s { operands = ts })) (λ t ts e. h t ts)

  pub as_all : (t : Form) (s : Shape) (go : Shape → Flow)
      → ((ts : List Form) → FlowAll (go (record s { operands = ts }))) → FlowAll (pop_as t s go)
  as_all t s go h =
      pop_all_of s (λ u s. where_so (same_form u t) (go s))
      (λ u ts. where_all (same_form u t) (go (record s { operands = ts })) (λ e. h ts))

  pub popped_all : (n : ℕ) (ts : List Form) (s : Shape) (stack : List Form) (go : List Form → Shape → Flow)
      → ((us rest : List Form) → FlowAll (go us (record s { operands = rest }))) → FlowAll (popped n ts s stack go)
  popped_all zero ts s stack go h = h ts stack
  popped_all (suc n) ts s [] go h = tt
  popped_all (suc n) ts s (t ∷ stack) go h = popped_all n (t ∷ ts) s stack go h

  pub elements_all : (t : Form) (go : Form → Flow) → ((u : Form) → FlowAll (go u)) → FlowAll (elements_of t go)
  elements_all (Many u) go h = h u
  elements_all _ go h = tt

  pub fields_all : (t : Form) (go : Forms → Flow) → ((us : Forms) → FlowAll (go us)) → FlowAll (fields_of t go)
  fields_all (Fields us) go h = h us
  fields_all _ go h = tt

  pub collected_all : (t : Option Form) (go : Form → Flow) → ((u : Form) → FlowAll (go u))
      → FlowAll (collected_by t go)
  collected_all None go h = tt
  collected_all (Some t) go h = elements_all t go h

  pub gives_all : (o : Option Form) (q : ℕ) (s : Shape) → ((t : Form) → Lead ((q, pushed t s) ∷ []))
      → FlowAll (with o (λ t. leads q (pushed t s)))
  gives_all None q s h = tt
  gives_all (Some t) q s h = h t
