-- Where code has shapes, each place to which a run may come has one, of the owner in whose code it is.
use Rattle.std.proofs.Common.{◌≡◌, ◌∙◌, inl, inr, ℕ, List, [], ◌∷◌, Option, Some, None, slice_get, map, refl, sym}
use Rattle.std.proofs.Common.{ap, subst}
use Rattle.std.specs.Prelude.{option_map}
use Rattle.cat_scope.specs.Names.{AllHave, IsOneOf}
use Rattle.cat_code.specs.declared.instr.Instr.{Instr}
use Rattle.cat_code.specs.declared.instr.Instr.TheVariants as instr
use Rattle.cat_code.specs.declared.code.Tables.{Tables}
use Rattle.cat_code.specs.Places.{FunctionPlace, function_places}
use Rattle.cat_code.specs.Shapes.{Owner, Shape}
use Rattle.cat_code.specs.Shaped.{Shapes, IsMet, IsFine, IsShapedBy}
use Rattle.cat_verify_shapes.specs.Belonging.{Belongs, Begins, MayRun, MayComeTo, begins, follows, scope, called}
use Rattle.cat_verify_shapes.specs.Belonging.{function_owner, called_in, leads_on}
use Rattle.cat_verify_shapes.proofs.FineLemmas.{fine_there, entry_there}
use Rattle.cat_verify_shapes.proofs.FlowCases.{FlowAll}
use Rattle.cat_verify_shapes.proofs.FlowPlaces.{owned, owned_places, EntersFunction, LeadsTo, GoesTo, flow_goes}
use Rattle.cat_verify_shapes.proofs.ListLemmas.{none_some, some_is}

-- an owner's place is one of those to which a flow leads
abbrev IsLedTo : ℕ → Owner → List (ℕ × Owner) → Type 0
IsLedTo q owner places = IsOneOf (owned q owner) places

one_owned : (owner : Owner) (q : ℕ) (qs : List ℕ) → IsOneOf q qs → IsLedTo q owner (map (λ r. owned r owner) qs)
one_owned owner q [] one = absurd one
one_owned owner q (r ∷ qs) (inl same) = inl (ap (λ (p : ℕ). owned p owner) same)
one_owned owner q (r ∷ qs) (inr more) = inr (one_owned owner q qs more)

led_on : (tables : Tables) (i : Instr) (p q : ℕ) (owner : Owner) (to : List (ℕ × Shape)) → LeadsTo tables i p owner to
    → IsOneOf q (leads_on i p) → IsLedTo q owner (owned_places to)
led_on tables (instr.Call f n) p q owner to led (inl same) =
    subst (IsLedTo q owner) (sym led.places) (inl (ap (λ (r : ℕ). owned r owner) same))
led_on tables (instr.Call f n) p q owner to led (inr none) = absurd none
led_on tables i p q owner to led on = subst (IsLedTo q owner) (sym led) (one_owned owner q (leads_on i p) on)

led_in : (tables : Tables) (f p : ℕ) (owner : Owner) (to : List (ℕ × Shape))
    → (enters : EntersFunction tables f p owner to)
    → IsLedTo enters.entry (function_owner f enters.place) (owned_places to)
led_in tables f p owner to enters =
    subst (IsLedTo enters.entry (function_owner f enters.place)) (sym enters.places) (inr (inl refl))

module _ (tables : Tables) (code : List Instr) (shapes : Shapes) (fit : IsShapedBy tables code shapes) where
  -- a place has a shape of an owner
  pub record HasOwn (owner : Owner) (p : ℕ) : Type 0 where
    pub shape : Shape
    pub is : slice_get shapes p ≡ Some (Some shape)
    pub owner_is : shape.owner ≡ owner

  met_own : (owner : Owner) (p : ℕ) (left : Shape) → left.owner ≡ owner → IsMet shapes p left → HasOwn owner p
  met_own owner p left own met =
      record { shape = met.shape; is = met.is; owner_is = sym met.meets.owner ∙ own }

  -- ---- what is led to

  led_met : (owner : Owner) (q : ℕ) (to : List (ℕ × Shape)) → IsLedTo q owner (owned_places to)
      → AllHave (λ next. IsMet shapes next.0 next.1) to → HasOwn owner q
  led_met owner q [] led met = absurd led
  led_met owner q (next ∷ to) (inl here) met =
      subst (HasOwn owner) (sym (ap (λ (x : ℕ × Owner). x.0) here))
      (met_own owner next.0 next.1 (sym (ap (λ (x : ℕ × Owner). x.1) here)) met.0)
  led_met owner q (next ∷ to) (inr more) met = led_met owner q to more met.1

  -- where an instruction that goes on leads to
  pub leads_fine : (i : Instr) (p : ℕ) (s : Shape) (fine : IsFine tables code shapes i p s)
      → LeadsTo tables i p s.owner fine.to
  leads_fine i p s fine = (subst (FlowAll (GoesTo tables i p s)) fine.flows (flow_goes tables code i p s)).0

  pub belongs_own : (owner : Owner) → ((p : ℕ) → Begins tables owner p → HasOwn owner p) → (p : ℕ)
      → Belongs tables code owner p → HasOwn owner p
  belongs_own owner first p (begins at) = first p at
  belongs_own owner first q (follows {p} i b at on) =
      let own = belongs_own owner first p b in
      let fine = fine_there tables code shapes fit p i own.shape at own.is in
      let leads = subst (λ (w : Owner). LeadsTo tables i p w fine.to) own.owner_is (leads_fine i p own.shape fine) in
      led_met owner q fine.to (led_on tables i p q owner fine.to leads on) fine.met

  -- ---- what is called

  scope_own : (n p : ℕ) → slice_get tables.scopes n ≡ Some p → HasOwn (record { scope = n; function = None }) p
  scope_own n p at =
      let met = entry_there tables code shapes fit n p at in
      record { shape = met.2.shape; is = met.2.is; owner_is = sym met.2.meets.owner }

  function_own : (f n p : ℕ) (s : Shape) → IsFine tables code shapes (instr.Call f n) p s → (place : FunctionPlace)
      → slice_get (function_places tables.decls) f ≡ Some place → (q : ℕ) → slice_get tables.functions f ≡ Some q
      → HasOwn (function_owner f place) q
  function_own f n p s fine place at q entry =
      let enters : EntersFunction tables f p s.owner fine.to = leads_fine (instr.Call f n) p s fine in
      let same : enters.place ≡ place = some_is enters.place place (sym enters.place_is ∙ at) in
      let here : enters.entry ≡ q = some_is enters.entry q (sym enters.entry_is ∙ entry) in
      subst (λ (t : FunctionPlace). HasOwn (function_owner f t) q) same
      (subst (HasOwn (function_owner f enters.place)) here
      (led_met (function_owner f enters.place) enters.entry fine.to (led_in tables f p s.owner fine.to enters)
      fine.met))

  entered : (b : Owner) (i : Instr) (p : ℕ) (s : Shape) → IsFine tables code shapes i p s
      → called_in tables i ≡ Some b → (q : ℕ) → Begins tables b q → HasOwn b q
  entered b (instr.Call f n) p s fine is q begin = by_place (slice_get (function_places tables.decls) f) refl is
    where
      by_place : (o : Option FunctionPlace) → slice_get (function_places tables.decls) f ≡ o
          → option_map (function_owner f) o ≡ Some b → HasOwn b q
      by_place None at is = absurd (none_some b is)
      by_place (Some place) at is =
          let same = some_is (function_owner f place) b is in
          let first = subst (λ (w : Owner). Begins tables w q) (sym same) begin in
          subst (λ (w : Owner). HasOwn w q) same (function_own f n p s fine place at q first.1)
  entered b (instr.Scope n) p s fine is q begin =
      let same = some_is (record { scope = n; function = None }) b is in
      subst (λ (w : Owner). HasOwn w q) same
      (scope_own n q (subst (λ (w : Owner). Begins tables w q) (sym same) begin))
  entered b _ p s fine is q begin = absurd (none_some b is)

  pub runs_own : (owner : Owner) → MayRun tables code owner → (p : ℕ) → Begins tables owner p → HasOwn owner p
  runs_own owner (scope {n} at) p begin = scope_own n p begin
  runs_own owner (called {a} {b} {place} i runs belongs at is) q begin =
      let own = belongs_own a (runs_own a runs) place belongs in
      entered owner i place own.shape (fine_there tables code shapes fit place i own.shape at own.is) is q begin

  -- each place to which a run may come
  pub comes_own : (owner : Owner) (p : ℕ) → MayComeTo tables code owner p → HasOwn owner p
  comes_own owner p comes = belongs_own owner (runs_own owner comes.may_run) p comes.belongs

  -- no two owners share a place
  pub one_owner : (one other : Owner) (p : ℕ) → MayComeTo tables code one p → MayComeTo tables code other p
      → one ≡ other
  one_owner one other p of_one of_other =
      let a = comes_own one p of_one in
      let b = comes_own other p of_other in
      let same = some_is a.shape b.shape (some_is (Some a.shape) (Some b.shape) (sym a.is ∙ b.is)) in
      sym a.owner_is ∙ (ap (λ (s : Shape). s.owner) same ∙ b.owner_is)
