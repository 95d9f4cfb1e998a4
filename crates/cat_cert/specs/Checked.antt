-- What is answered of a text that is to be a certificate.
use Rattle.std.specs.Prelude.{◌≡◌, ℕ, List, ◌∷◌, map, Option, None, Some}
use Rattle.cat_scope.specs.Names.{AllHave}
use Rattle.cat_guard.specs.declared.table.Table.{Table}
use Rattle.cat_guard.specs.declared.table.TableTarget.{TableTarget}
use Rattle.cat_guard.specs.declared.tree.CitedTree.{CitedTree}
use Rattle.cat_guard.specs.Trees.{IsCitedClosed, expanded}
use Rattle.cat_cert.specs.Uncovered.{everything}
use Rattle.cat_cert.specs.declared.certificate.Version.TheVariants as version
use Rattle.cat_cert.specs.declared.certificate.CertTree.{CertTree}
use Rattle.cat_cert.specs.declared.certificate.Certificate.{Certificate}
use Rattle.cat_cert.specs.declared.refusal.CertRefusal.{CertRefusal}
use Rattle.cat_cert.specs.declared.refusal.CertRefusal.TheVariants as refusal
use Rattle.cat_cert.specs.Certifiable.{shared_tree}
use Rattle.cat_cert.specs.Texts.{certificate_text}
use Rattle.cat_cert.specs.Causes.{IsRead, IsRefused}
use Rattle.cat_cert.specs.Uncovered.{AllCovered, uncovered}

-- ---- what a yes says

-- a target of a table has a tree that is closed in the region that admits every valuation
abbrev pub HasClosedTree : Table → TableTarget → Type 0
HasClosedTree table t = (tree : CitedTree) × IsCitedClosed table.atoms t (everything table.terms) tree

-- each target of some tables has one
abbrev pub HaveClosedTrees : List Table → Type 0
HaveClosedTrees tables = AllHave (λ table. AllHave (HasClosedTree table) table.targets) tables

-- a text is a certificate each of whose leaves is covered
abbrev pub IsChecked : List Table → List ℕ → Certificate → Type 0
IsChecked tables bytes c = IsRead tables bytes c × AllCovered tables (map (λ t. expanded t.tree) c.trees)

-- there is such a certificate
abbrev pub IsCertified : List Table → List ℕ → Type 0
IsCertified tables bytes = (c : Certificate) × IsChecked tables bytes c

-- ---- why not

-- the leaf of that line is the first that isn't covered
abbrev pub IsNotCovered : List Table → List ℕ → ℕ → Type 0
IsNotCovered tables bytes n =
    (c : Certificate) × IsRead tables bytes c × ((more : List ℕ) × (uncovered tables c.trees ≡ n ∷ more))

-- a text is no certificate, or its first leaf that isn't covered stands in that line
abbrev pub HasCause : List Table → List ℕ → CertRefusal → Type 0
HasCause tables bytes (refusal.BadLine n) = IsRefused tables bytes (refusal.BadLine n)
HasCause tables bytes (refusal.WrongName n) = IsRefused tables bytes (refusal.WrongName n)
HasCause tables bytes (refusal.NotCovered n) = IsNotCovered tables bytes n
HasCause tables bytes refusal.Short = IsRefused tables bytes refusal.Short
HasCause tables bytes (refusal.Trailing n) = IsRefused tables bytes (refusal.Trailing n)
HasCause tables bytes (refusal.TooWide n) = IsRefused tables bytes (refusal.TooWide n)
HasCause tables bytes refusal.Memory = Unit {0}

-- ---- written over

-- the text of version 2 with the same trees
abbrev pub text_over : List Table → List CertTree → List ℕ
text_over tables cs = certificate_text version.Two tables (map (λ c. shared_tree (expanded c.tree)) cs)

-- a text is a certificate whose leaves are covered, of version 2 where nothing is written, and else of version 1 with
-- this
-- text over it
abbrev pub IsOver : List Table → List ℕ → Option (List ℕ) → Type 0
IsOver tables bytes None = (c : Certificate) × IsChecked tables bytes c × (c.version ≡ version.Two)
IsOver tables bytes (Some text) =
    (c : Certificate) × IsChecked tables bytes c × (c.version ≡ version.One) × (text ≡ text_over tables c.trees)
