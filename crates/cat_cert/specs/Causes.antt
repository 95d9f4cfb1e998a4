-- What is read of a text, and why it is refused: in order of lines, with numbers from the text's first line.
use Rattle.std.specs.Prelude.{◌≡◌, ◌≢◌, ◌⊎◌, ◌<◌, ℕ, suc, ◌+◌, IsTrue, List, [], ◌∷◌, ◌++◌, map, take, length}
use Rattle.std.specs.Prelude.{Some, slice_get}
use Rattle.std.specs.Str.{is_utf8}
use Rattle.cat_guard.specs.declared.table.Table.{Table}
use Rattle.cat_guard.specs.declared.tree.CitedTree.{CitedTree}
use Rattle.cat_cert.specs.declared.certificate.Version.{Version}
use Rattle.cat_cert.specs.declared.certificate.Certificate.{Certificate}
use Rattle.cat_cert.specs.declared.refusal.CertRefusal.{CertRefusal}
use Rattle.cat_cert.specs.declared.refusal.CertRefusal.TheVariants as refusal
use Rattle.cat_cert.specs.Lines.{Due, heading_word, dues_of, due_heads}
use Rattle.cat_cert.specs.Texts.{Parted, parted, passed_over, lines_read}
use Rattle.cat_cert.specs.Fronts.{IsFront, IsSmallFront, IsCertificate}

-- ---- what is read

-- a certificate with its trees, and where these are written; so many lines were passed over
pub record IsReadBehind (tables : List Table) (passed : ℕ) (lines : List (List ℕ)) (c : Certificate) : Type 0 where
  pub trees : List CitedTree
  pub trees_are : map (λ t. t.tree) c.trees ≡ trees
  pub certificate : IsCertificate tables lines c.version trees
  pub heads : map (λ t. t.heads) c.trees ≡ due_heads c.version (passed + 2) (dues_of tables) trees

-- the same of a text with these lines, behind which nothing follows
abbrev pub IsReadOf : List Table → Parted → Certificate → Type 0
IsReadOf tables text c =
    IsReadBehind tables (passed_over text.ended) (lines_read text.ended) c × (text.rest ≡ [])

-- the certificate that a text is
abbrev pub IsRead : List Table → List ℕ → Certificate → Type 0
IsRead tables bytes c = IsReadOf tables (parted bytes) c

-- ---- why not

-- a line with another name than the one that is due there
pub record IsMisnamed (tables : List Table) (before : List (List ℕ)) (line : List ℕ) : Type 0 where
  pub due : Due
  pub name : List ℕ
  pub other : List ℕ
  pub due_there : IsFront tables (before ++ (heading_word due ++ name) ∷ [])
  pub line_is : line ≡ heading_word due ++ other
  pub differs : other ≢ name
  pub text : IsTrue (is_utf8 line)

-- a line with which no certificate goes on behind these
abbrev pub IsStray : List Table → List (List ℕ) → List ℕ → Type 0
IsStray tables before line = ¬ IsFront tables (before ++ line ∷ [])

-- the line of index i of these is met first: those before it are read
pub record IsMet (tables : List Table) (lines : List (List ℕ)) (i : ℕ) (line : List ℕ) : Type 0 where
  pub line_is : slice_get lines i ≡ Some line
  pub before : IsSmallFront tables (take i lines)

-- these lines are no certificate
abbrev pub IsNone : List Table → List (List ℕ) → Type 0
IsNone tables lines = (v : Version) (trees : List CitedTree) → IsCertificate tables lines v trees → ⊥

-- why lines are refused behind which so many bytes follow without a line feed; so many lines were passed over
abbrev pub RefusedBehind : List Table → ℕ → List (List ℕ) → List ℕ → CertRefusal → Type 0
RefusedBehind tables passed lines rest (refusal.BadLine n) =
    (i : ℕ) × (line : List ℕ) × (n ≡ passed + suc i) × IsMet tables lines i line × IsNone tables (take i lines)
    × IsStray tables (take i lines) line × (¬ IsMisnamed tables (take i lines) line)
RefusedBehind tables passed lines rest (refusal.WrongName n) =
    (i : ℕ) × (line : List ℕ) × (n ≡ passed + suc i) × IsMet tables lines i line
    × IsStray tables (take i lines) line × IsMisnamed tables (take i lines) line
RefusedBehind tables passed lines rest (refusal.NotCovered n) = ⊥
RefusedBehind tables passed lines rest refusal.Short = IsSmallFront tables lines × IsNone tables lines
RefusedBehind tables passed lines rest (refusal.Trailing n) =
    (i : ℕ) × (v : Version) × (trees : List CitedTree) × (n ≡ passed + suc i)
    × IsCertificate tables (take i lines) v trees × ((i < length lines) ⊎ ((i ≡ length lines) × (rest ≢ [])))
RefusedBehind tables passed lines rest (refusal.TooWide n) =
    (i : ℕ) × (line : List ℕ) × (n ≡ passed + suc i) × IsMet tables lines i line
    × IsFront tables (take (suc i) lines) × (¬ IsSmallFront tables (take (suc i) lines))
RefusedBehind tables passed lines rest refusal.Memory = Unit {0}

-- the same of a text with these lines
abbrev pub IsRefusedOf : List Table → Parted → CertRefusal → Type 0
IsRefusedOf tables text why =
    RefusedBehind tables (passed_over text.ended) (lines_read text.ended) text.rest why

-- why a text is no certificate
abbrev pub IsRefused : List Table → List ℕ → CertRefusal → Type 0
IsRefused tables bytes why = IsRefusedOf tables (parted bytes) why
