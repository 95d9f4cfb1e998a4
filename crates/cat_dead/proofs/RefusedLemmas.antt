-- Why a text is no certificate of dead definitions, and what is read of one.
use Rattle.std.proofs.Common.{◌≡◌, ℕ, zero, suc, ◌^◌, ◌<◌, ◌≤◌, Bool, true, false, not, List, [], ◌∷◌}
use Rattle.std.proofs.Common.{map, length, get_or, codes, if◌then◌else◌, None, Result, Ok, Err, IfOk, IfErr, refl}
use Rattle.std.proofs.Common.{sym, ap, ◌∙◌, subst, arith, true≢false}
use Rattle.std.proofs.Common.{length-drop, append-nil}
use Rattle.std.proofs.lemmas.Fmt.{decimal_digit}
use Rattle.std.specs.Prelude.{All}
use Rattle.std.specs.Str.{bytes_eq}
use Rattle.std.proofs.lemmas.List.Sums.{prefix_len-le-length}
use Rattle.std.proofs.lemmas.Slice.Eq.{bytes_eq-Decides}
use Rattle.cat_guard.specs.declared.table.Table.{Table}
use Rattle.cat_cert.specs.declared.certificate.Certificate.{Certificate}
use Rattle.cat_cert.specs.declared.certificate.CertTree.{CertTree}
use Rattle.cat_cert.specs.declared.certificate.Version.{Version}
use Rattle.cat_cert.specs.declared.certificate.Version.TheVariants as version
use Rattle.cat_cert.specs.declared.refusal.CertRefusal.{CertRefusal}
use Rattle.cat_cert.specs.declared.refusal.CertRefusal.TheVariants as refusal
use Rattle.cat_cert.specs.Causes.{IsRead, IsRefused, RefusedBehind}
use Rattle.cat_cert.specs.Lines.{Due, ScopeDue, TargetDue, dues_of}
use Rattle.cat_cert.specs.Lines as lines
use Rattle.cat_cert.specs.ReadTrees.{AreReadTrees}
use Rattle.cat_cert.specs.Texts.{parted}
use Rattle.cat_cert.specs.Texts as certificate
use Rattle.cat_cert.specs.inside.Checkable.{last_line}
use Rattle.cat_cert.specs.inside.States.{First}
use Rattle.cat_cert.specs.inside.Steps.{outcome, step, met, Plain}
use Rattle.cat_cert.proofs.AtomReadLemmas.{tables_low}
use Rattle.cat_cert.proofs.CertifiedLemmas.{can_be_checked}
use Rattle.cat_cert.proofs.FrontLemmas.{none_small, start}
use Rattle.cat_cert.proofs.ReadLemmas.{ended_few}
use Rattle.cat_cert.proofs.WhyLemmas.{Explains, explained}
use Rattle.cat_dead.specs.DeadTexts.{is_first, passed_over, lines_read, first_line, as_certificate, lines_of}
use Rattle.cat_dead.specs.DeadTexts.{IsDeadRead, IsDeadRefused}
use Rattle.cat_dead.specs.inside.Reading.{IsCertificateOf, HasNoCertificate}
use Rattle.cat_dead.proofs.TextLemmas.{first_bytes, first_is, read_as, refused_as}

-- ---- how many lines there are

same_count : (ls : List (List ℕ)) → length (as_certificate ls) ≡ length ls
same_count [] = refl
same_count (line ∷ more) = refl

-- ---- why a text is none

-- another first line is none of a certificate
not_one : (line : List ℕ) → is_first line ≡ true → bytes_eq line (lines.first_line version.One) ≡ false
not_one line first = by (bytes_eq line (lines.first_line version.One)) refl
  where
    by : (b : Bool) → bytes_eq line (lines.first_line version.One) ≡ b → b ≡ false
    by false is = refl
    by true is =
        let same : line ≡ lines.first_line version.One =
        (bytes_eq-Decides line (lines.first_line version.One)).0 is in
        absurd (true≢false (sym first ∙ ap is_first same))

not_two : (line : List ℕ) → is_first line ≡ true → bytes_eq line (lines.first_line version.Two) ≡ false
not_two line first = by (bytes_eq line (lines.first_line version.Two)) refl
  where
    by : (b : Bool) → bytes_eq line (lines.first_line version.Two) ≡ b → b ≡ false
    by false is = refl
    by true is =
        let same : line ≡ lines.first_line version.Two =
        (bytes_eq-Decides line (lines.first_line version.Two)).0 is in
        absurd (true≢false (sym first ∙ ap is_first same))

module _ (table : Table) (bytes : List ℕ)
    (numbered : All (λ (t : Table). length t.atoms ≤ 2 ^ 64) (table ∷ [])) (size : length bytes < 2 ^ 64) where
  abbrev tables : List Table
  tables = table ∷ []

  abbrev passed : ℕ
  passed = passed_over (parted bytes).ended

  why_by : (ls : List (List ℕ)) → lines_of (parted bytes) ≡ ls
      → Explains tables passed ls (parted bytes).rest
      (outcome ls (First (dues_of tables)) passed (parted bytes).rest)
  why_by ls is =
      let few = ended_few bytes in
      let within = prefix_len-le-length (λ (line : List ℕ). not (is_first line)) (parted bytes).ended in
      let left = length-drop passed (parted bytes).ended in
      let count : length ls ≡ length (lines_read (parted bytes).ended) =
      sym (ap length is) ∙ same_count (lines_read (parted bytes).ended) in
      let low = tables_low tables numbered in
      explained tables low passed (parted bytes).rest ls [] [] (start tables low passed) (refl, refl) none_small passed
      (omega arith) (omega (arith, few, within, left, size, count))

  no_lines : lines_read (parted bytes).ended ≡ [] → IsDeadRefused table bytes refusal.Short
  no_lines none =
      let is : lines_of (parted bytes) ≡ [] = ap as_certificate none in
      subst (λ (ls : List (List ℕ)). RefusedBehind tables passed ls (parted bytes).rest refusal.Short) (sym is)
      (why_by [] is)

  other_line : (line : List ℕ) (more : List (List ℕ)) → lines_read (parted bytes).ended ≡ line ∷ more
      → is_first line ≡ true → bytes_eq line first_line ≡ false
      → IsDeadRefused table bytes (refusal.BadLine (suc passed))
  unfolding step
  other_line line more here first other =
      let is : lines_of (parted bytes) ≡ line ∷ more =
      ap as_certificate here ∙ ap (λ b. (if b then lines.first_line version.One else line) ∷ more) other in
      let stops : step (First (dues_of tables)) (suc passed) (Plain line) ≡ None = rw (
        not_one line first,
        not_two line
            first,
      ) refl in
      subst (λ (ls : List (List ℕ)). RefusedBehind tables passed ls (parted bytes).rest (refusal.BadLine (suc passed)))
      (sym is)
      (subst (Explains tables passed (line ∷ more) (parted bytes).rest)
      (ap (λ o. met (First (dues_of tables)) (suc passed) line o
      (λ next. outcome more next (suc passed) (parted bytes).rest)) stops) (why_by (line ∷ more) is))

  pub none_refused : (why : CertRefusal) → HasNoCertificate bytes why → IsDeadRefused table bytes why
  none_refused refusal.Short none = no_lines none
  none_refused (refusal.BadLine n) (line, more, here, first, other, number) =
      subst (λ (k : ℕ). IsDeadRefused table bytes (refusal.BadLine k)) (sym number)
      (other_line line more here first other)
  none_refused refusal.Memory none = tt
  none_refused (refusal.WrongName n) none = absurd (none)
  none_refused (refusal.NotCovered n) none = absurd (none)
  none_refused (refusal.Trailing n) none = absurd (none)
  none_refused (refusal.TooWide n) none = absurd (none)

-- one table's atoms are numbered
pub one_numbered : (table : Table) → length table.atoms ≤ 2 ^ 64
    → All (λ (t : Table). length t.atoms ≤ 2 ^ 64) (table ∷ [])
one_numbered table few zero d within = few
one_numbered table few (suc k) d within = absurd (omega (arith, within))

-- ---- what is read of one

second_is : lines.first_line version.Two ≡ codes "catala-certificate 2"
second_is = rw (decimal_digit 2 (omega arith)) refl

one_version : (v : Version) → lines.first_line v ≡ lines.first_line version.One → v ≡ version.One
one_version version.One same = refl
one_version version.Two same =
    let last : get_or (codes "catala-certificate 2") 19 0 ≡ get_or first_bytes 19 0 =
    ap (λ l. get_or l 19 0) (sym second_is ∙ same ∙ first_is) in
    absurd (omega (arith, last))

abbrev first_of : List (List ℕ) → List ℕ
first_of [] = []
first_of (line ∷ more) = line

-- trees of one version, that are known to be within all lines
within_all : (most : ℕ) (v w : Version) (dues : List Due) (cs : List CertTree) → AreReadTrees most v dues cs
    → AreReadTrees last_line w dues cs → AreReadTrees last_line v dues cs
within_all most v w [] [] are also = tt
within_all most v w [] (c ∷ cs) are also = absurd (are)
within_all most v w (ScopeDue name ∷ dues) cs are also = within_all most v w dues cs are also
within_all most v w (TargetDue t ∷ dues) [] are also = absurd (are)
within_all most v w (TargetDue t ∷ dues) (c ∷ cs) are also = (
  record { is_tree = are.0.is_tree; few = are.0.few; within = also.0.within },
  within_all most v w dues cs are.1 also.1,
)

pub trees_read : (table : Table) (bytes text : List ℕ) → IsCertificateOf bytes text → (c : Certificate)
    → IsRead (table ∷ []) text c
    → AreReadTrees (length text) c.version (dues_of (table ∷ [])) c.trees → length text < 2 ^ 64
    → AreReadTrees last_line version.One (map TargetDue table.targets) c.trees
trees_read table bytes text is c read are size =
    let most : length text ≤ last_line = omega (arith, size) in
    let checked = can_be_checked (table ∷ []) text c are most in
    let lines_same : lines.first_line version.One ∷ is.more ≡ certificate.lines_read (parted text).ended =
    sym is.first in
    let one : c.version ≡ version.One =
    one_version c.version (sym (ap first_of (lines_same ∙ read.0.certificate.lines_are))) in
    subst (λ (v : Version). AreReadTrees last_line v (map TargetDue table.targets) c.trees) one
    (subst (λ ds. AreReadTrees last_line c.version ds c.trees) (append-nil (map TargetDue table.targets))
    (within_all (length text) c.version checked.0 (dues_of (table ∷ [])) c.trees are checked.1))

-- ---- what a reader answers

pub all_read : (table : Table) (bytes text : List ℕ) → IsCertificateOf bytes text → (r : Result Certificate CertRefusal)
    → IfOk r (IsRead (table ∷ []) text) → IfOk r (IsDeadRead table bytes)
all_read table bytes text is (Ok c) read = read_as table bytes text is c read
all_read table bytes text is (Err why) read = tt

pub all_trees : (table : Table) (bytes text : List ℕ) → IsCertificateOf bytes text
    → ((c : Certificate) → IsRead (table ∷ []) text c
    → AreReadTrees (length text) c.version (dues_of (table ∷ [])) c.trees) → length text < 2 ^ 64
    → (r : Result Certificate CertRefusal) → IfOk r (IsRead (table ∷ []) text)
    → IfOk r (λ c. AreReadTrees last_line version.One (map TargetDue table.targets) c.trees)
all_trees table bytes text is law size (Ok c) read = trees_read table bytes text is c read (law c read) size
all_trees table bytes text is law size (Err why) read = tt

pub all_refused : (table : Table) (bytes text : List ℕ) → IsCertificateOf bytes text
    → (r : Result Certificate CertRefusal) → IfErr r (IsRefused (table ∷ []) text) → IfErr r (IsDeadRefused table bytes)
all_refused table bytes text is (Ok c) refused = tt
all_refused table bytes text is (Err why) refused = refused_as table bytes text is why refused
