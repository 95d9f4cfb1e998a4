-- Where the lines of a text stand, and what it is as a certificate.
use Rattle.std.specs.Prelude.{◌≡◌, ℕ, suc, ◌+◌, List, [], ◌∷◌, drop, length, Option, None, Some}
use Rattle.std.specs.Prelude.{true, false}
use Rattle.std.specs.Str.{bytes_eq}
use Rattle.cat_cert.specs.declared.refusal.CertRefusal.{CertRefusal}
use Rattle.cat_cert.specs.declared.refusal.CertRefusal.TheVariants as refusal
use Rattle.cat_cert.specs.declared.certificate.Version.TheVariants as version
use Rattle.cat_cert.specs.Lines as lines
use Rattle.cat_cert.specs.Texts.{parted}
use Rattle.cat_cert.specs.Texts as certificate
use Rattle.cat_dead.specs.DeadTexts.{first_line, is_first, passed_over, lines_read, lines_of}

-- the lines of a text from a place on
abbrev pub lines_from : List ℕ → ℕ → List (List ℕ)
lines_from bytes at = (parted (drop at bytes)).ended

-- what follows the last of them
abbrev pub rest_from : List ℕ → ℕ → List ℕ
rest_from bytes at = (parted (drop at bytes)).rest

-- the line that begins there, or none
abbrev pub IsLineAt : List ℕ → ℕ → Option (List ℕ) → Type 0
IsLineAt bytes at None = lines_from bytes at ≡ []
IsLineAt bytes at (Some line) =
    (lines_from bytes at ≡ line ∷ lines_from bytes (suc (at + length line)))
    × (rest_from bytes at ≡ rest_from bytes (suc (at + length line)))
    × (drop (at + length line) bytes ≡ 10 ∷ drop (suc (at + length line)) bytes)

-- a text has the lines and the rest of another one, as a certificate of version 1
pub record IsCertificateOf (bytes text : List ℕ) : Type 0 where
  pub passed : certificate.passed_over (parted text).ended ≡ passed_over (parted bytes).ended
  pub lines_are : certificate.lines_read (parted text).ended ≡ lines_of (parted bytes)
  pub rest : (parted text).rest ≡ (parted bytes).rest
  pub more : List (List ℕ)
  pub first : certificate.lines_read (parted text).ended ≡ lines.first_line version.One ∷ more

-- there is none: no line may be the first, or the first that may be is another one
abbrev pub HasNoCertificate : List ℕ → CertRefusal → Type 0
HasNoCertificate bytes refusal.Short = lines_read (parted bytes).ended ≡ []
HasNoCertificate bytes (refusal.BadLine n) =
    (line : List ℕ) × (lines : List (List ℕ)) × (lines_read (parted bytes).ended ≡ line ∷ lines)
    × (is_first line ≡ true) × (bytes_eq line first_line ≡ false) × (n ≡ suc (passed_over (parted bytes).ended))
HasNoCertificate bytes refusal.Memory = Unit {0}
HasNoCertificate bytes (refusal.WrongName n) = ⊥
HasNoCertificate bytes (refusal.NotCovered n) = ⊥
HasNoCertificate bytes (refusal.Trailing n) = ⊥
HasNoCertificate bytes (refusal.TooWide n) = ⊥
