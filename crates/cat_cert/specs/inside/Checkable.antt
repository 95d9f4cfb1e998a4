-- Trees that can be checked, and what is found of them.
use Rattle.std.specs.Prelude.{◌≡◌, ◌-◌, ◌^◌, ℕ, List, ◌∷◌, map, Option}
use Rattle.cat_guard.specs.declared.table.Table.{Table}
use Rattle.cat_guard.specs.Trees.{Tree, expanded}
use Rattle.cat_walk.specs.LeafPlaces.{lists_of}
use Rattle.cat_walk.specs.Walkable.{IsWalkable}
use Rattle.cat_cert.specs.declared.certificate.Version.{Version}
use Rattle.cat_cert.specs.declared.certificate.CertTree.{CertTree}
use Rattle.cat_cert.specs.declared.refusal.CertRefusal.{CertRefusal}
use Rattle.cat_cert.specs.declared.refusal.CertRefusal.TheVariants as refusal
use Rattle.cat_cert.specs.Lines.{TargetDue, dues_of}
use Rattle.cat_cert.specs.ReadTrees.{AreWithin, AreReadTrees}

-- the greatest number that a line can have
abbrev pub last_line : ℕ
last_line = 2 ^ 64 - 1

-- one tree for each target of a table, of some version
abbrev pub AreOfTable : Table → List CertTree → Type 0
AreOfTable table cs = (v : Version) × AreReadTrees last_line v (map TargetDue table.targets) cs

-- the same for all tables
abbrev pub AreOfTables : List Table → List CertTree → Type 0
AreOfTables tables cs = (v : Version) × AreReadTrees last_line v (dues_of tables) cs

-- a tree can be walked that splits on the first atoms, of that number, and its lines have numbers
pub record IsCheckable (atoms room : ℕ) (c : CertTree) : Type 0 where
  pub walkable : IsWalkable atoms room (expanded c.tree)
  pub within : AreWithin last_line c.heads (lists_of c.tree)

-- a refusal names the first of some lines
abbrev pub NamesFirst : List ℕ → CertRefusal → Type 0
NamesFirst lines (refusal.NotCovered n) = (more : List ℕ) × (lines ≡ n ∷ more)
NamesFirst lines refusal.Memory = Unit {0}
NamesFirst lines (refusal.BadLine n) = ⊥
NamesFirst lines (refusal.WrongName n) = ⊥
NamesFirst lines refusal.Short = ⊥
NamesFirst lines (refusal.Trailing n) = ⊥
NamesFirst lines (refusal.TooWide n) = ⊥

-- the trees that some trees of a certificate stand for
abbrev pub found_in : List CertTree → List (Option Tree)
found_in cs = map (λ c. expanded c.tree) cs
