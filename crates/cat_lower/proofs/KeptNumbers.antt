-- Code whose instructions are kept at their spots names only entries of its tables.
use Rattle.std.proofs.Common.{◌≡◌, ℕ, zero, suc, ◌+◌, nat_eq, nat_le, nat_lt, ◌&&◌, Bool, true, false, List, [], ◌∷◌}
use Rattle.std.proofs.Common.{length, Option, Some, None, slice_get, refl, sym, ap, ◌∙◌, arith}
use Rattle.std.specs.List.{list_all}
use Rattle.std.proofs.lemmas.Bool.Decides.{nat_tests}
use Rattle.cat_value.specs.declared.declaration.Scope.{Scope}
use Rattle.cat_code.specs.declared.instr.Instr.{Instr}
use Rattle.cat_code.specs.declared.instr.Instr.TheVariants as instr
use Rattle.cat_code.specs.declared.code.Constant.{Constant}
use Rattle.cat_code.specs.declared.code.Tables.{Tables}
use Rattle.cat_code.specs.Forms.{Form, form_of}
use Rattle.cat_code.specs.Forms as forms
use Rattle.cat_code.specs.Operations.{Operation, operation, operations, roundings}
use Rattle.cat_code.specs.Shapes.{Owner, Shape}
use Rattle.cat_code.specs.Wanted.{frames_inside, are_params}
use Rattle.cat_code.specs.Places.{FunctionPlace, function_places}
use Rattle.cat_code.specs.Leads.{Flow, leads_two, with, where_so, pop, pop_all, pushed, elements_of, begins}
use Rattle.cat_code.specs.Leads.{function_entry}
use Rattle.cat_code.specs.Flow.{flow}
use Rattle.cat_code.specs.Told.{constant_form, collected_by}
use Rattle.cat_code.specs.Jumps.{is_within}
use Rattle.cat_lower.proofs.TypesAgree.{both_so}
use Rattle.cat_lower.proofs.Spots.{Spots, Marked, IsKept, AreKept}
use Rattle.cat_lower.proofs.ShapedForms.{within_so}
use Rattle.cat_lower.proofs.KeptCode.{both_true}

-- ---- what a flow that goes on tells

module _ (to : List (ℕ × Shape)) where
  with_there : {A : Type 0} (o : Option A) (go : A → Flow) → with o go ≡ Some to
      → (a : A) × (o ≡ Some a) × (go a ≡ Some to)
  with_there None go is = absurd (cc is)
  with_there (Some a) go is = (a, refl, is)

  where_there : (b : Bool) (go : Flow) → where_so b go ≡ Some to → (b ≡ true) × (go ≡ Some to)
  where_there true go is = (refl, is)
  where_there false go is = absurd (cc is)

  pop_there : (s : Shape) (go : Form → Shape → Flow) → pop s go ≡ Some to
      → (t : Form) × (r : Shape) × (go t r ≡ Some to)
  pop_there s go is = by s.operands refl
    where
      by : (ts : List Form) → s.operands ≡ ts → (t : Form) × (r : Shape) × (go t r ≡ Some to)
      by [] none = let told : None ≡ Some to = rw none at is in absurd (cc told)
      by (t ∷ ts) some =
          let told : go t (record s { operands = ts }) ≡ Some to = rw some at is in
          (t, record s { operands = ts }, told)

constant_within : (tables : Tables) (k : ℕ) (t : Form) → constant_form tables k ≡ Some t
    → nat_lt k (length tables.constants) ≡ true
constant_within tables k t is = by (slice_get tables.constants k) refl
  where
    by : (o : Option Constant) → slice_get tables.constants k ≡ o → nat_lt k (length tables.constants) ≡ true
    by None there = let told : None ≡ Some t = rw there at is in absurd (cc told)
    by (Some c) there = within_so tables.constants k c there

operation_within : (n : ℕ) (o : Operation) → operation n ≡ Some o → (nat_lt 0 n && nat_le n (length operations)) ≡ true
operation_within zero o is = absurd (cc is)
operation_within (suc n) o is =
    both_true (nat_lt 0 (suc n)) (nat_le (suc n) (length operations)) (some n)
    (less n (length operations) (within_so operations n o is))
  where
    some : (n : ℕ) → nat_lt 0 (suc n) ≡ true
    some n = grind (arith, nat_tests)

    less : (n m : ℕ) → nat_lt n m ≡ true → nat_le (suc n) m ≡ true
    less n m e = grind (arith, nat_tests)

module _ (tables : Tables) (code : List Instr) (Calls : Owner → Owner → Type 0) (entry : ℕ → Shape) (all : Spots)
    (long : length all ≡ length code) (scopes_long : length tables.scopes ≡ length tables.decls.scopes) where
  jump_within : (t : ℕ) → Marked true all t → nat_lt t (length code) ≡ true
  jump_within t free = ap (nat_lt t) (sym long) ∙ within_so all t free.spot free.is

  elements_there : (to : List (ℕ × Shape)) (t : Form) (go : Form → Flow) → elements_of t go ≡ Some to
      → (u : Form) × (go u ≡ Some to)
  elements_there to (forms.Many t) go is = (t, is)
  elements_there to forms.Truth go is = absurd (cc is)
  elements_there to forms.Whole go is = absurd (cc is)
  elements_there to forms.Fraction go is = absurd (cc is)
  elements_there to forms.Amount go is = absurd (cc is)
  elements_there to forms.Day go is = absurd (cc is)
  elements_there to forms.Span go is = absurd (cc is)
  elements_there to (forms.Fields ts) go is = absurd (cc is)
  elements_there to (forms.OneOf n) go is = absurd (cc is)

  collected_there : (to : List (ℕ × Shape)) (o : Option Form) (go : Form → Flow) → collected_by o go ≡ Some to
      → (t : Form) × (o ≡ Some t)
  collected_there to None go is = absurd (cc is)
  collected_there to (Some t) go is = (t, refl)

  iter_there : (to : List (ℕ × Shape)) (k p : ℕ) (s : Shape) → flow tables code (instr.IterList k) p s ≡ Some to
      → (t : Form) × (constant_form tables k ≡ Some t)
  iter_there to k p s is =
      let popped =
      pop_there to s (λ t r. elements_of t
      (λ u. collected_by (constant_form tables k) (λ c. begins p u (Some c) r))) is in
      let element =
      elements_there to popped.0
      (λ u. collected_by (constant_form tables k) (λ c. begins p u (Some c) popped.1)) popped.2 in
      collected_there to (constant_form tables k) (λ c. begins p element.0 (Some c) popped.1) element.1

  abbrev call_from : ℕ → ℕ → ℕ → Shape → FunctionPlace → ℕ → Flow
  call_from f n p s place start =
      where_so (nat_eq place.scope s.owner.scope && nat_eq n (length place.decl.params))
      (pop_all n s (λ ts s. where_so (are_params (form_of tables.decls) place.decl.params ts)
      (leads_two (p + 1) (pushed (form_of tables.decls place.decl.ty) s) start
      (function_entry (form_of tables.decls) f place s))))

  call_there : (to : List (ℕ × Shape)) (f n p : ℕ) (s : Shape) → flow tables code (instr.Call f n) p s ≡ Some to
      → (start : ℕ) × (slice_get tables.functions f ≡ Some start)
  call_there to f n p s is =
      let place =
      with_there to (slice_get (function_places tables.decls) f)
      (λ place. with (slice_get tables.functions f) (call_from f n p s place)) is in
      let start = with_there to (slice_get tables.functions f) (call_from f n p s place.0) place.2 in
      (start.0, start.1)

  scope_within : (n : ℕ) (s : Scope) → slice_get tables.decls.scopes n ≡ Some s → nat_lt n (length tables.scopes) ≡ true
  scope_within n s is = ap (nat_lt n) scopes_long ∙ within_so tables.decls.scopes n s is

  one_within : (p : ℕ) (i : Instr) (s : Shape) → IsKept tables code Calls entry all i p s
      → is_within tables (length code) i ≡ true
  one_within p (instr.Const k) s h = let c = with_there h.to (constant_form tables k) _ h.flows in
      constant_within tables k c.0 c.1
  one_within p (instr.Slot k) s h = refl
  one_within p (instr.Local k) s h = refl
  one_within p (instr.Store k) s h = refl
  one_within p instr.Bind s h = refl
  one_within p (instr.Drop k) s h = refl
  one_within p (instr.Given k t) s h = jump_within t h.keeps.0.0
  one_within p (instr.Jump t) s h = jump_within t h.keeps.0.0
  one_within p (instr.JumpFalse t) s h = jump_within t h.keeps.0.0
  one_within p (instr.Op n r q) s h =
      let parts = where_there h.to (nat_lt r (length roundings) && nat_lt q (length tables.positions)) _ h.flows in
      let both = both_so (nat_lt r (length roundings)) (nat_lt q (length tables.positions)) parts.0 in
      let o = with_there h.to (operation n) _ parts.1 in
      both_true (nat_lt 0 n && nat_le n (length operations) && nat_lt r (length roundings))
      (nat_lt q (length tables.positions))
      (both_true (nat_lt 0 n && nat_le n (length operations)) (nat_lt r (length roundings))
      (operation_within n o.0 o.1) both.0) both.1
  one_within p (instr.Pack n) s h = refl
  one_within p (instr.List n) s h = refl
  one_within p (instr.Field n) s h = refl
  one_within p (instr.Tag c) s h = let x = with_there h.to (slice_get tables.cases c) _ h.flows in
      within_so tables.cases c x.0 x.1
  one_within p (instr.TagNone c) s h = let x = with_there h.to (slice_get tables.cases c) _ h.flows in
      within_so tables.cases c x.0 x.1
  one_within p (instr.IsCase c) s h = let x = with_there h.to (slice_get tables.cases c) _ h.flows in
      within_so tables.cases c x.0 x.1
  one_within p instr.Content s h = refl
  one_within p instr.Length s h = refl
  one_within p instr.Iter s h = refl
  one_within p (instr.IterList k) s h = let c = iter_there h.to k p s h.flows in constant_within tables k c.0 c.1
  one_within p (instr.Next t) s h = jump_within t h.keeps.0.0
  one_within p instr.Collect s h = refl
  one_within p instr.Leave s h = refl
  one_within p (instr.Call f n) s h = let c = call_there h.to f n p s h.flows in within_so tables.functions f c.0 c.1
  one_within p (instr.Scope n) s h = let x = with_there h.to (slice_get tables.decls.scopes n) _ h.flows in
      scope_within n x.0 x.1
  one_within p (instr.Pass n) s h = refl
  one_within p instr.Enter s h = refl
  one_within p instr.Return s h = refl
  one_within p (instr.Begin v) s h = let x = with_there h.to (slice_get tables.targets v) _ h.flows in
      within_so tables.targets v x.0 x.1
  one_within p (instr.Hold d) s h =
      let x = where_there h.to (nat_lt d (length tables.definitions) && frames_inside 1 s.loops s.defaults) _ h.flows in
      (both_so (nat_lt d (length tables.definitions)) (frames_inside 1 s.loops s.defaults) x.0).0
  one_within p instr.Merge s h = refl
  one_within p (instr.Check v) s h =
      let x = where_there h.to (nat_lt v (length tables.targets) && frames_inside 1 s.loops s.defaults) _ h.flows in
      (both_so (nat_lt v (length tables.targets)) (frames_inside 1 s.loops s.defaults) x.0).0
  one_within p (instr.Held t) s h = jump_within t h.keeps.0.0
  one_within p (instr.Take t) s h = jump_within t h.keeps.0.0
  one_within p (instr.NoValue v) s h = (where_there h.to (nat_lt v (length tables.targets)) _ h.flows).0
  one_within p (instr.Assert q) s h = (where_there h.to (nat_lt q (length tables.positions)) _ h.flows).0

  -- each number is that of an entry
  pub all_within : (p : ℕ) (is : List Instr) (ss : Spots) → AreKept tables code Calls entry all p is ss
      → list_all (is_within tables (length code)) is ≡ true
  all_within p [] [] h = refl
  all_within p [] (s ∷ ss) h = absurd h
  all_within p (i ∷ is) [] h = absurd h
  all_within p (i ∷ is) (s ∷ ss) h =
      both_true (is_within tables (length code) i) (list_all (is_within tables (length code)) is)
      (one_within p i s.shape h.0) (all_within (p + 1) is ss h.1)
