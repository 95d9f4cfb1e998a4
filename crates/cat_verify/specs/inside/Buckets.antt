-- Numbers in buckets.
use Rattle.std.specs.Prelude.{◌≡◌, ◌<◌, ℕ, nat_eq, if◌then◌else◌, List, [], ◌∷◌, ◌++◌, length, Option, Some, None}
use Rattle.std.specs.Prelude.{slice_index_or}
use Rattle.cat_verify.specs.declared.buckets.Member.{Member}

-- a member in front of others, where there is one
abbrev pub with_member : Option Member → List Member → List Member
with_member None ms = ms
with_member (Some m) ms = m ∷ ms

-- the numbers of a bucket, in their order
abbrev pub numbers_of : ℕ → List Member → List ℕ
numbers_of n [] = []
numbers_of n (m ∷ ms) = if nat_eq m.bucket n then m.number ∷ numbers_of n ms else numbers_of n ms

-- the numbers of members stand behind those that were in the buckets
abbrev pub HaveMembers : List (List ℕ) → List (List ℕ) → List Member → Type 0
HaveMembers old new members = (n : ℕ) → n < length old
    → slice_index_or new n [] ≡ slice_index_or old n [] ++ numbers_of n members

-- the numbers of each of so many buckets
pub record AreBuckets (count : ℕ) (members : List Member) (buckets : List (List ℕ)) : Type 0 where
  pub one_each : length buckets ≡ count
  pub numbers : (n : ℕ) → slice_index_or buckets n [] ≡ numbers_of n members
