-- What is answered of a text that is to be a certificate of dead definitions.
use Rattle.std.specs.Prelude.{◌≡◌, ℕ, List, ◌∷◌}
use Rattle.cat_pos.specs.declared.pos.Pos.{Pos}
use Rattle.cat_guard.specs.declared.table.Table.{Table}
use Rattle.cat_cert.specs.declared.certificate.Certificate.{Certificate}
use Rattle.cat_cert.specs.declared.refusal.CertRefusal.{CertRefusal}
use Rattle.cat_cert.specs.declared.refusal.CertRefusal.TheVariants as refusal
use Rattle.cat_cert.specs.Uncovered.{everything}
use Rattle.cat_dead.specs.DeadTexts.{IsDeadRead, IsDeadRefused}
use Rattle.cat_dead.specs.Winners.{AreKnown, open_lines, dead_in}

-- a text is a certificate none of whose leaves is open, and these are the definitions that win in none
abbrev pub IsDeadChecked : Table → List ℕ → List Pos → Type 0
IsDeadChecked table bytes positions =
    (c : Certificate) × IsDeadRead table bytes c
    × AreKnown table.atoms (everything table.terms) table.targets c.trees × (positions ≡ dead_in table c.trees)

-- the leaf of that line is the first that is open
abbrev pub IsOpenAt : Table → List ℕ → ℕ → Type 0
IsOpenAt table bytes n =
    (c : Certificate) × IsDeadRead table bytes c × ((more : List ℕ) × (open_lines table c.trees ≡ n ∷ more))

-- a text is no certificate of dead definitions, or its first open leaf stands in that line
abbrev pub HasDeadCause : Table → List ℕ → CertRefusal → Type 0
HasDeadCause table bytes (refusal.BadLine n) = IsDeadRefused table bytes (refusal.BadLine n)
HasDeadCause table bytes (refusal.WrongName n) = IsDeadRefused table bytes (refusal.WrongName n)
HasDeadCause table bytes (refusal.NotCovered n) = IsOpenAt table bytes n
HasDeadCause table bytes refusal.Short = IsDeadRefused table bytes refusal.Short
HasDeadCause table bytes (refusal.Trailing n) = IsDeadRefused table bytes (refusal.Trailing n)
HasDeadCause table bytes (refusal.TooWide n) = IsDeadRefused table bytes (refusal.TooWide n)
HasDeadCause table bytes refusal.Memory = Unit {0}
