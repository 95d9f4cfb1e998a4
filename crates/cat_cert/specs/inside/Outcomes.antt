-- How reading ends from a place in a text.
use Rattle.std.specs.Prelude.{◌≡◌, ℕ, suc, ◌≤◌, ◌⊎◌, List, [], ◌∷◌, Option, Some, None, drop, length, Result, Ok, Err}
use Rattle.cat_cert.specs.declared.certificate.Certificate.{Certificate}
use Rattle.cat_cert.specs.declared.refusal.CertRefusal.{CertRefusal}
use Rattle.cat_cert.specs.declared.refusal.CertRefusal.TheVariants as refusal
use Rattle.cat_cert.specs.Texts.{parted, passed_over, lines_read}
use Rattle.cat_cert.specs.declared.place.Place.{Place}
use Rattle.cat_cert.specs.Lines.{Due}
use Rattle.cat_cert.specs.inside.States.{State, First}
use Rattle.cat_cert.specs.inside.Steps.{outcome}

-- ---- places

-- a place within a text, with no more lines before it than bytes
abbrev pub IsWithin : List ℕ → Place → Type 0
IsWithin bytes place = (place.at ≤ length bytes) × (place.line ≤ place.at)

-- the lines from a place on
abbrev pub lines_at : List ℕ → Place → List (List ℕ)
lines_at bytes place = (parted (drop place.at bytes)).ended

-- what follows the last
abbrev pub rest_at : List ℕ → Place → List ℕ
rest_at bytes place = (parted (drop place.at bytes)).rest

-- no line comes next, or this one
abbrev pub IsNext : List ℕ → Place → Place → Option (List ℕ) → Type 0
IsNext bytes old new None = lines_at bytes old ≡ []
IsNext bytes old new (Some line) =
    (lines_at bytes old ≡ line ∷ lines_at bytes new) × (rest_at bytes old ≡ rest_at bytes new)
    × (new.line ≡ suc old.line)

-- a place where the lines begin that are read
pub record IsStart (bytes : List ℕ) (place : Place) : Type 0 where
  pub lines : lines_at bytes place ≡ lines_read (parted bytes).ended
  pub passed : place.line ≡ passed_over (parted bytes).ended
  pub rest : rest_at bytes place ≡ (parted bytes).rest

-- there is none
abbrev pub HasNoStart : List ℕ → Type 0
HasNoStart bytes = lines_read (parted bytes).ended ≡ []

-- ---- how reading ends

-- in a state at a place
unfoldable pub ending : State → List ℕ → Place → Result Certificate CertRefusal
ending s bytes place = outcome (lines_at bytes place) s place.line (rest_at bytes place)

-- reading ends in that refusal, where it isn't for want of memory
abbrev pub StopsIn : CertRefusal → Result Certificate CertRefusal → Type 0
StopsIn why end = (why ≡ refusal.Memory) ⊎ (end ≡ Err why)

-- reading goes on with what was read of a part, or ends in its refusal
abbrev pub Passes : {A : Type 0} → Result Certificate CertRefusal → Result A CertRefusal
    → (A → Result Certificate CertRefusal) → Type 0
Passes end (Ok x) further = end ≡ further x
Passes end (Err why) further = StopsIn why end

-- how the whole of a text is read, where that is due
abbrev pub whole_ending : List Due → List ℕ → Result Certificate CertRefusal
whole_ending dues bytes =
    outcome (lines_read (parted bytes).ended) (First dues) (passed_over (parted bytes).ended) (parted bytes).rest
