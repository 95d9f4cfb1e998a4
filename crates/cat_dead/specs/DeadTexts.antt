-- The lines of a certificate of dead definitions: those of a certificate of version 1, with another first line.
use Rattle.std.specs.Prelude.{◌≡◌, ℕ, nat_eq, not, Bool, List, [], ◌∷◌, drop, codes, if◌then◌else◌}
use Rattle.std.specs.List.{starts_with, prefix_len}
use Rattle.std.specs.Str.{bytes_eq}
use Rattle.cat_guard.specs.declared.table.Table.{Table}
use Rattle.cat_cert.specs.declared.certificate.Version.TheVariants as version
use Rattle.cat_cert.specs.declared.certificate.Certificate.{Certificate}
use Rattle.cat_cert.specs.declared.refusal.CertRefusal.{CertRefusal}
use Rattle.cat_cert.specs.Lines as certificate
use Rattle.cat_cert.specs.Texts.{Parted, parted}
use Rattle.cat_cert.specs.Causes.{IsReadBehind, RefusedBehind}

-- what the first line begins with
abbrev pub first_words : List ℕ
first_words = codes "catala-dead"

-- the first line
abbrev pub first_line : List ℕ
first_line = codes "catala-dead 1"

-- a line with which a certificate of dead definitions may begin
abbrev pub is_first : List ℕ → Bool
is_first line = starts_with nat_eq line first_words

-- how many lines are passed over: those before the first with which one may begin
abbrev pub passed_over : List (List ℕ) → ℕ
passed_over lines = prefix_len (λ line. not (is_first line)) lines

-- the lines from there on
abbrev pub lines_read : List (List ℕ) → List (List ℕ)
lines_read lines = drop (passed_over lines) lines

-- the first line of a certificate of version 1 for the first line; any other line stays, and begins none
abbrev pub as_first : List ℕ → List ℕ
as_first line = if bytes_eq line first_line then certificate.first_line version.One else line

-- the lines of a certificate of dead definitions as those of one of version 1
abbrev pub as_certificate : List (List ℕ) → List (List ℕ)
as_certificate [] = []
as_certificate (line ∷ lines) = as_first line ∷ lines

-- the lines that are read of a text, as those of a certificate
abbrev pub lines_of : Parted → List (List ℕ)
lines_of text = as_certificate (lines_read text.ended)

-- what a text is read as, with its trees and where these are written
abbrev pub IsDeadRead : Table → List ℕ → Certificate → Type 0
IsDeadRead table bytes c =
    IsReadBehind (table ∷ []) (passed_over (parted bytes).ended) (lines_of (parted bytes)) c
    × ((parted bytes).rest ≡ [])

-- why a text is no certificate of dead definitions, as one of version 1 would be none
abbrev pub IsDeadRefused : Table → List ℕ → CertRefusal → Type 0
IsDeadRefused table bytes why =
    RefusedBehind (table ∷ []) (passed_over (parted bytes).ended) (lines_of (parted bytes)) (parted bytes).rest why
