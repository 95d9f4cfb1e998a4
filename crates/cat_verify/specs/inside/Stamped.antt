-- Stamps that are led on from where scopes begin, also by calls, and which of them come to each instruction.
use Rattle.std.specs.Prelude.{◌≡◌, ℕ, List, length, Some, slice_get}
use Rattle.cat_scope.specs.Names.{IsOneOf}
use Rattle.cat_code.specs.declared.instr.Instr.{Instr}
use Rattle.cat_code.specs.declared.instr.Instr.TheVariants as instr
use Rattle.cat_verify_shapes.specs.Belonging.{leads_on}
use Rattle.cat_verify.specs.declared.stamps.Arrival.{Arrival}
use Rattle.cat_verify.specs.declared.stamps.Stamps.{Stamps}
use Rattle.cat_verify.specs.declared.stamps.Stamps.TheVariants.{Nobody, One, Two}

-- a stamp comes to a place: it starts there, or is led on to it, or is that of a function which is called from where
-- some stamp comes
pub data ComesTo (code : List Instr) (starts calls : List Arrival) : ℕ → ℕ → Type 0 where
  enters : {stamp p : ℕ} → IsOneOf (record { place = p; stamp = stamp }) starts → ComesTo code starts calls stamp p
  goes : {stamp p q : ℕ} (i : Instr) → ComesTo code starts calls stamp p → slice_get code p ≡ Some i
      → IsOneOf q (leads_on i p) → ComesTo code starts calls stamp q
  called : {stamp p f count : ℕ} {entry : Arrival} → ComesTo code starts calls stamp p
      → slice_get code p ≡ Some (instr.Call f count) → slice_get calls f ≡ Some entry
      → ComesTo code starts calls entry.stamp entry.place

-- what is marked tells which stamps come to a place: none, one alone, or two of several
abbrev pub Tells : List Instr → List Arrival → List Arrival → ℕ → Stamps → Type 0
Tells code starts calls p Nobody = (stamp : ℕ) → ComesTo code starts calls stamp p → ⊥
Tells code starts calls p (One a) =
    ComesTo code starts calls a p × ((stamp : ℕ) → ComesTo code starts calls stamp p → stamp ≡ a)
Tells code starts calls p (Two a b) =
    ComesTo code starts calls a p × ComesTo code starts calls b p × (a ≡ b → ⊥)

-- each mark tells so of its place
pub record AreStamps (code : List Instr) (starts calls : List Arrival) (marks : List Stamps) : Type 0 where
  pub one_each : length marks ≡ length code
  pub tell : (p : ℕ) (m : Stamps) → slice_get marks p ≡ Some m → Tells code starts calls p m
