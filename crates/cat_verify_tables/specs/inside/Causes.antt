-- Why a line is refused.
use Rattle.std.specs.Prelude.{◌≡◌, ◌+◌, ℕ, List, [], ◌∷◌, take, slice_get, Some}
use Rattle.cat_verify_tables.specs.declared.refusal.TableRefusal.{TableRefusal}
use Rattle.cat_verify_tables.specs.declared.refusal.TableRefusal.TheVariants as refusal

-- the refused line is such a one
abbrev pub Refuses : (ℕ → Type 0) → TableRefusal → Type 0
Refuses Wrong (refusal.BadTable n) = Wrong n
Refuses Wrong refusal.Memory = Unit {0}

-- that line has this fault
abbrev pub AtLine : ℕ → Type 0 → TableRefusal → Type 0
AtLine n Fault (refusal.BadTable m) = (m ≡ n) × Fault
AtLine n Fault refusal.Memory = Unit {0}

-- a line is that of one of some entries, from line `first` on, which has a fault behind those in front of it
pub record IsFaulty {A : Type 0} (Fault : List A → A → Type 0) (first : ℕ) (entries : List A) (line : ℕ) : Type 0 where
  pub index : ℕ
  pub entry : A
  pub at : slice_get entries index ≡ Some entry
  pub line_is : line ≡ first + index
  pub fault : Fault (take index entries) entry

-- how many lines entries have: each one for itself, and one for each of its parts
abbrev pub lines_in : {A : Type 0} → (A → ℕ) → List A → ℕ
lines_in parts [] = 0
lines_in parts (x ∷ xs) = 1 + parts x + lines_in parts xs

-- the same of entries with parts, where a fault is told of the entry's first line and the refused one
pub record IsFaultyIn {A : Type 0} (parts : A → ℕ) (Fault : List A → A → ℕ → ℕ → Type 0) (first : ℕ)
    (entries : List A) (line : ℕ) : Type 0 where
  pub index : ℕ
  pub entry : A
  pub at : slice_get entries index ≡ Some entry
  pub fault : Fault (take index entries) entry (first + lines_in parts (take index entries)) line
