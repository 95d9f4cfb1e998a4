-- Owners with their instructions, each owner in front of those that it calls.
use Rattle.std.specs.Prelude.{◌≡◌, ◌<◌, ℕ, List, [], ◌∷◌, map, length, Some, slice_get, All}
use Rattle.cat_scope.specs.Names.{IsOneOf, AllHave}
use Rattle.cat_code.specs.declared.instr.Instr.{Instr}
use Rattle.cat_code.specs.declared.instr.Instr.TheVariants as instr
use Rattle.cat_code.specs.declared.code.Tables.{Tables}
use Rattle.cat_code.specs.Shapes as shapes
use Rattle.cat_verify_shapes.specs.declared.owner.Owner.{Owner}
use Rattle.cat_verify_shapes.specs.declared.owner.OwnerPlaces.{OwnerPlaces}
use Rattle.cat_verify_shapes.specs.Belonging.{IsFunctionOf, Begins, Calls, MayRun, MayComeTo}

-- an owner as code has it
abbrev pub owner_of : Owner → shapes.Owner
owner_of owner = record { scope = owner.scope; function = owner.function }

-- each number is less than all behind it
abbrev pub IsRising : List ℕ → Type 0
IsRising [] = Unit {0}
IsRising (n ∷ ns) = AllHave (λ m. n < m) ns × IsRising ns

-- the instructions in the code of an owner to which a run may come, by their places in order
pub record HasPlaces (tables : Tables) (code : List Instr) (owner : shapes.Owner) (places : List ℕ) : Type 0 where
  pub entry : ℕ
  pub begins : Begins tables owner entry
  pub rising : IsRising places
  pub inside : All (λ p. p < length code) places
  pub come : AllHave (MayComeTo tables code owner) places
  pub all : (p : ℕ) → p < length code → MayComeTo tables code owner p → IsOneOf p places

-- an owner is one of these
abbrev pub IsAmong : shapes.Owner → List OwnerPlaces → Type 0
IsAmong owner owners = IsOneOf owner (map (λ one. owner_of one.owner) owners)

-- each stands once, in front of all that it calls where a run may come to it
abbrev pub AreCallersFirst : Tables → List Instr → List OwnerPlaces → Type 0
AreCallersFirst tables code [] = Unit {0}
AreCallersFirst tables code (one ∷ more) =
    (IsAmong (owner_of one.owner) more → ⊥)
    × ((p : ℕ) (called : shapes.Owner) → MayRun tables code (owner_of one.owner)
    → Calls tables code p (owner_of one.owner) called → IsAmong called more)
    × AreCallersFirst tables code more

-- all owners: where a run may come to an instruction, it belongs to one of them alone, and a function is called by its
-- own scope's code
pub record AreOwners (tables : Tables) (code : List Instr) (owners : List OwnerPlaces) : Type 0 where
  pub all : (owner : shapes.Owner) (entry : ℕ) → Begins tables owner entry → IsAmong owner owners
  pub places : AllHave (λ one. HasPlaces tables code (owner_of one.owner) one.places) owners
  pub first : AreCallersFirst tables code owners
  pub apart : (p : ℕ) (one other : shapes.Owner) → MayComeTo tables code one p → MayComeTo tables code other p
      → one ≡ other
  pub home : (p f count : ℕ) (owner : shapes.Owner) → MayComeTo tables code owner p
      → slice_get code p ≡ Some (instr.Call f count) → IsFunctionOf tables.decls owner.scope f
