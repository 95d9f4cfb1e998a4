-- Owners by their numbers: functions are numbered behind scopes.
use Rattle.std.specs.Prelude.{◌≡◌, ℕ, ◌+◌, ◌-◌, nat_lt, if◌then◌else◌, Bool, true, false, List, [], ◌∷◌, Option, Some}
use Rattle.std.specs.Prelude.{None, slice_get, slice_index_or}
use Rattle.cat_verify_tables.specs.declared.places.FunctionPlace.{FunctionPlace}
use Rattle.cat_verify_shapes.specs.declared.owner.Owner.{Owner}
use Rattle.cat_verify_shapes.specs.declared.owner.OwnerPlaces.{OwnerPlaces}
use Rattle.cat_verify.specs.declared.buckets.Member.{Member}
use Rattle.cat_verify.specs.declared.stamps.Stamps.{Stamps}
use Rattle.cat_verify.specs.declared.stamps.Stamps.TheVariants.{Nobody, One, Two}
use Rattle.cat_verify.specs.declared.refusal.VerifyRefusal.{VerifyRefusal}
use Rattle.cat_verify.specs.declared.refusal.VerifyRefusal.TheVariants as refusal
use Rattle.cat_verify.specs.inside.Buckets.{numbers_of, with_member}

-- whether several owners come to an instruction
abbrev pub is_shared : Stamps → Bool
is_shared Nobody = false
is_shared (One a) = false
is_shared (Two a b) = true

abbrev pub IsSharedMark : List Stamps → ℕ → Type 0
IsSharedMark marks k = (m : Stamps) × (slice_get marks k ≡ Some m) × (is_shared m ≡ true)

abbrev pub NoneShared : List Stamps → Type 0
NoneShared marks = (k : ℕ) → IsSharedMark marks k → ⊥

abbrev pub OneShared : List Stamps → VerifyRefusal → Type 0
OneShared marks (refusal.Endless k) = IsSharedMark marks k
OneShared marks _ = ⊥

-- a place among those of the owner that comes to it alone
abbrev pub placed_by : ℕ → Stamps → Option Member
placed_by p Nobody = None
placed_by p (One a) = Some (record { bucket = a; number = p })
placed_by p (Two a b) = None

-- such places from p on
abbrev pub placed_from : ℕ → List Stamps → List Member
placed_from p [] = []
placed_from p (m ∷ ms) = with_member (placed_by p m) (placed_from (p + 1) ms)

-- the owner of a number, behind so many scopes
abbrev pub owner_at : ℕ → List FunctionPlace → ℕ → Owner
owner_at scopes functions n =
    if nat_lt n scopes
    then record { scope = n; function = None }
    else record {
      scope = (slice_index_or functions (n - scopes) (record { scope = 0; item = 0 })).scope;
      function = Some (n - scopes);
    }

-- the same with its places
abbrev pub with_places : ℕ → List FunctionPlace → List Member → ℕ → OwnerPlaces
with_places scopes functions members n = record {
  owner = owner_at scopes functions n;
  places = numbers_of n members;
}
