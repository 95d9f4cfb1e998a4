-- An instruction leads only to places that belong to the owners of the shapes which are left there.
use Rattle.std.proofs.Common.{◌≡◌, inl, inr, ℕ, ◌+◌, nat_eq, true}
use Rattle.std.proofs.Common.{List, [], ◌∷◌, Some, slice_get, refl, sym}
use Rattle.std.proofs.Common.{subst, map}
use Rattle.cat_scope.specs.Names.{AllHave, IsOneOf}
use Rattle.cat_code.specs.declared.instr.Instr.{Instr}
use Rattle.cat_code.specs.declared.instr.Instr.TheVariants as instr
use Rattle.cat_code.specs.declared.code.Tables.{Tables}
use Rattle.cat_code.specs.Shapes.{Owner, Shape}
use Rattle.cat_code.specs.Places.{FunctionPlace, function_places}
use Rattle.cat_code.specs.Leads.{Flow}
use Rattle.cat_code.specs.Flow.{flow}
use Rattle.cat_verify_shapes.specs.Belonging.{Belongs, begins as begun, follows, leads_on, function_owner}
use Rattle.cat_verify_shapes.proofs.FlowCases.{FlowAll}
use Rattle.cat_verify_shapes.proofs.FlowPlaces.{LeadsTo, flow_to, owned, owned_places}

-- a flow leads only where something holds of the owner and of the place
abbrev pub FlowHas : (Owner → ℕ → Type 0) → Flow → Type 0
FlowHas Has f = FlowAll (AllHave (λ (next : ℕ × Shape). Has next.1.owner next.0)) f

module _ (Has : Owner → ℕ → Type 0) where
  -- what holds of an owner and a place
  abbrev HasOwned : ℕ × Owner → Type 0
  HasOwned at = Has at.1 at.0

  have_on : (owner : Owner) (qs : List ℕ) → ((q : ℕ) → IsOneOf q qs → Has owner q)
      → AllHave HasOwned (map (λ q. owned q owner) qs)
  have_on owner [] on = tt
  have_on owner (q ∷ qs) on = (on q (inl refl), have_on owner qs (λ r one. on r (inr one)))

  have_places : (to : List (ℕ × Shape)) → AllHave HasOwned (owned_places to)
      → AllHave (λ (next : ℕ × Shape). Has next.1.owner next.0) to
  have_places [] h = tt
  have_places (next ∷ to) h = (h.0, have_places to h.1)

  -- what is asked of where a function begins that is called
  abbrev Enters : Tables → Instr → Owner → Type 0
  Enters tables i owner = (f n : ℕ) → i ≡ instr.Call f n → (entry : ℕ) (place : FunctionPlace)
      → slice_get (function_places tables.decls) f ≡ Some place → slice_get tables.functions f ≡ Some entry
      → nat_eq place.scope owner.scope ≡ true → Has (function_owner f place) entry

  have_led : (tables : Tables) (i : Instr) (p : ℕ) (owner : Owner) (to : List (ℕ × Shape))
      → LeadsTo tables i p owner to → ((q : ℕ) → IsOneOf q (leads_on i p) → Has owner q) → Enters tables i owner
      → AllHave HasOwned (owned_places to)
  have_led tables (instr.Call f n) p owner to led on enters =
      subst (AllHave HasOwned) (sym led.places) (
        on (p + 1) (inl refl),
        (enters f n refl led.entry led.place led.place_is led.entry_is led.home, tt),
      )
  have_led tables i p owner to led on enters =
      subst (AllHave HasOwned) (sym led) (have_on owner (leads_on i p) on)

  pub flow_has : (tables : Tables) (code : List Instr) (i : Instr) (p : ℕ) (s : Shape)
      → ((q : ℕ) → IsOneOf q (leads_on i p) → Has s.owner q) → Enters tables i s.owner
      → FlowHas Has (flow tables code i p s)
  flow_has tables code i p s on enters =
      flow_to tables p s (AllHave (λ (next : ℕ × Shape). Has next.1.owner next.0)) code i (λ to goes.
      have_places to (have_led tables i p s.owner to goes.0 on enters))

module _ (tables : Tables) (code : List Instr) where
  -- each place belongs to the owner of its shape
  abbrev pub FlowBelongs : Flow → Type 0
  FlowBelongs f = FlowHas (Belongs tables code) f

  entry_begins : (f entry : ℕ) (place : FunctionPlace) → slice_get (function_places tables.decls) f ≡ Some place
      → slice_get tables.functions f ≡ Some entry
      → Belongs tables code (record { scope = place.scope; function = Some f }) entry
  entry_begins f entry place is at = begun (record { place = place; place_is = is; scope_is = refl }, at)

  pub flow_belongs : (i : Instr) (p : ℕ) (s : Shape) → Belongs tables code s.owner p → slice_get code p ≡ Some i
      → FlowBelongs (flow tables code i p s)
  flow_belongs i p s b is =
      flow_has (Belongs tables code) tables code i p s (λ q on. follows i b is on)
      (λ f n call entry place at of home. entry_begins f entry place at of)
