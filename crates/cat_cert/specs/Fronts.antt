-- What may be read of a certificate: its lines up to some place.
use Rattle.std.specs.Prelude.{◌≡◌, ℕ, ◌≤◌, List, ◌∷◌, ◌++◌, All, take, length}
use Rattle.cat_guard.specs.declared.table.Table.{Table}
use Rattle.cat_guard.specs.declared.tree.CitedTree.{CitedTree}
use Rattle.cat_cert.specs.declared.certificate.Version.{Version}
use Rattle.cat_walk.specs.Sizes.{most_leaves}
use Rattle.cat_cert.specs.Lines.{dues_of, certificate_lines}
use Rattle.cat_cert.specs.Certified.{AreTreesOf, due_widths}

-- lines with which a certificate of these trees goes on
pub record IsFrontOf (tables : List Table) (lines : List (List ℕ)) (v : Version) (trees : List CitedTree) : Type 0 where
  pub more : List (List ℕ)
  pub trees_are : AreTreesOf v (dues_of tables) trees
  pub lines_are : certificate_lines v tables trees ≡ lines ++ more

-- no tree passes the most leaves in the first lines, of that number
abbrev pub AreSmall : List Table → ℕ → Version → List CitedTree → Type 0
AreSmall tables count v trees = All (λ n. n ≤ most_leaves) (take count (0 ∷ due_widths v (dues_of tables) trees))

-- lines with which some certificate goes on, whatever the number of leaves
abbrev pub IsFront : List Table → List (List ℕ) → Type 0
IsFront tables lines = (v : Version) × (trees : List CitedTree) × IsFrontOf tables lines v trees

-- the same, where no tree passes the most leaves in them
abbrev pub IsSmallFront : List Table → List (List ℕ) → Type 0
IsSmallFront tables lines =
    (v : Version) × (trees : List CitedTree) × IsFrontOf tables lines v trees × AreSmall tables (length lines) v trees

-- lines that are a certificate, of trees that don't pass the most leaves
pub record IsCertificate (tables : List Table) (lines : List (List ℕ)) (v : Version) (trees : List CitedTree) : Type 0
  where
    pub trees_are : AreTreesOf v (dues_of tables) trees
    pub lines_are : lines ≡ certificate_lines v tables trees
    pub small : AreSmall tables (length lines) v trees
