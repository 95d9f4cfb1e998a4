-- A certificate is read behind lines with which none begins; and its version is that of its first line.
use Rattle.std.proofs.Common.{◌≡◌, ℕ, suc, ◌+◌, Bool, true, false, not, cond}
use Rattle.std.proofs.Common.{List, [], ◌∷◌, ◌++◌, drop, map, refl, sym, ap}
use Rattle.std.proofs.Common.{◌∙◌, subst, append_assoc, true≢false, arith}
use Rattle.std.specs.Prelude.{bytes_eq}
use Rattle.std.specs.List.{list_all}
use Rattle.std.specs.Fmt.{digits}
use Rattle.cat_guard.specs.declared.table.Table.{Table}
use Rattle.cat_guard.specs.declared.tree.CitedTree.{CitedTree}
use Rattle.cat_cert.specs.declared.certificate.Version.{Version}
use Rattle.cat_cert.specs.declared.certificate.Version.TheVariants as version
use Rattle.cat_cert.specs.declared.certificate.Certificate.{Certificate}
use Rattle.cat_cert.specs.Lines.{due_lines, dues_of}
use Rattle.cat_cert.specs.Lines.{first_line}
use Rattle.cat_cert.specs.Texts.{Parted, certificate_text, is_first, is_line, lines_read, parted}
use Rattle.cat_cert.specs.Texts.{passed_over, text_of}
use Rattle.cat_cert.specs.Fronts.{IsCertificate}
use Rattle.cat_cert.specs.Causes.{IsRead, IsReadBehind, IsReadOf}
use Rattle.cat_cert.specs.ReadTrees.{IsReadAs}
use Rattle.cat_cert.proofs.Exported.{parted_line, placed, placed_heads, placed_trees}
use Rattle.cat_laws.proofs.TableNames.{first_of, second_of}
use Rattle.cat_laws.proofs.PassedLines.{IsPassed, is_passed}

-- ---- texts by their lines

abbrev lines_before : List (List ℕ) → Parted → Parted
lines_before lines p = record { ended = lines ++ p.ended; rest = p.rest }

passed_is_line : (line : List ℕ) → is_passed line ≡ true → is_line line ≡ true
passed_is_line line h = first_of (is_line line) (not (is_first line)) h

parted_lines : (lines : List (List ℕ)) (rest : List ℕ) → list_all is_passed lines ≡ true
    → parted (text_of lines ++ rest) ≡ lines_before lines (parted rest)
parted_lines [] rest is = refl
parted_lines (line ∷ lines) rest is =
    ap parted (append_assoc line (10 ∷ text_of lines) rest)
    ∙ parted_line line (text_of lines ++ rest)
    (passed_is_line line (first_of (is_passed line) (list_all is_passed lines) is))
    ∙ ap (lines_before (line ∷ []))
    (parted_lines lines rest (second_of (is_passed line) (list_all is_passed lines) is))

drop_one : {A : Type 0} (n : ℕ) (x : A) (xs : List A) → drop (1 + n) (x ∷ xs) ≡ drop n xs
drop_one n x xs = let one : 1 + n ≡ suc n = omega arith in ap (λ m. drop m (x ∷ xs)) one

-- the lines that are read stay the same
read_behind : (lines more : List (List ℕ)) → list_all is_passed lines ≡ true
    → lines_read (lines ++ more) ≡ lines_read more
read_behind [] more is = refl
read_behind (line ∷ lines) more is =
    ap (λ (b : Bool). drop (cond b (1 + passed_over (lines ++ more)) 0) (line ∷ lines ++ more))
    (second_of (is_line line) (not (is_first line)) (first_of (is_passed line) (list_all is_passed lines) is))
    ∙ drop_one (passed_over (lines ++ more)) line (lines ++ more)
    ∙ read_behind lines more (second_of (is_passed line) (list_all is_passed lines) is)

-- ---- the certificate that is read

module _ (tables : List Table) (v : Version) (trees : List CitedTree) where
  -- a certificate of those trees, whose lines stand behind that many
  abbrev certificate_at : ℕ → Certificate
  certificate_at passed = record { version = v; trees = placed v (passed + 2) (dues_of tables) trees }

  abbrev moved : (lines : List (List ℕ)) (c : Certificate) (passed other : ℕ) → IsReadBehind tables passed lines c
      → c.version ≡ v → map (λ t. t.tree) c.trees ≡ trees → IsReadBehind tables other lines (certificate_at other)
  moved lines c passed other is version_is trees_are =
      let certificate = subst (λ (w : Version). IsCertificate tables lines w is.trees) version_is is.certificate in
      let these = subst (IsCertificate tables lines v) (sym is.trees_are ∙ trees_are) certificate in
      record {
        trees = trees;
        trees_are = placed_trees v (other + 2) (dues_of tables) trees these.trees_are;
        certificate = these;
        heads = placed_heads v (other + 2) (dues_of tables) trees;
      }

  -- what is read as a certificate is read so behind lines with which none begins
  pub read_as_behind : (front bytes : List ℕ) → IsPassed front → IsReadAs tables bytes v trees
      → IsReadAs tables (front ++ bytes) v trees
  read_as_behind front bytes passes read =
      let p = parted bytes in
      let ended = passes.lines ++ p.ended in
      let here = moved (lines_read p.ended) read.c (passed_over p.ended) (passed_over ended) read.is.0 read.version_is
      read.trees_are in
      let there : IsReadOf tables (lines_before passes.lines p) (certificate_at (passed_over ended)) = (
        subst (λ (ls : List (List ℕ)). IsReadBehind tables (passed_over ended) ls (certificate_at (passed_over ended)))
            (sym (read_behind passes.lines p.ended passes.passed)) here,
        read.is.1,
      ) in
      record {
        c = certificate_at (passed_over ended);
        is = subst (λ (q : Parted). IsReadOf tables q (certificate_at (passed_over ended)))
            (sym (ap (λ (t : List ℕ). parted (t ++ bytes)) passes.text_is
            ∙ parted_lines passes.lines bytes passes.passed)) there;
        version_is = refl;
        trees_are = here.trees_are;
      }

-- ---- versions

-- whether a first line is that of version 2
abbrev is_second : List (List ℕ) → Bool
is_second [] = false
is_second (line ∷ lines) = bytes_eq line (first_line version.Two)

first_differ : (v w : Version) (lines more : List (List ℕ)) → first_line v ∷ lines ≡ first_line w ∷ more → v ≡ w
unfolding digits
first_differ version.One version.One lines more e = refl
first_differ version.Two version.Two lines more e = refl
first_differ version.One version.Two lines more e = absurd (true≢false (sym (ap is_second e)))
first_differ version.Two version.One lines more e = absurd (true≢false (ap is_second e))

-- what is read of one text is of one version
pub one_version : (tables : List Table) (bytes : List ℕ) (c d : Certificate) → IsRead tables bytes c
    → IsRead tables bytes d → c.version ≡ d.version
one_version tables bytes c d one other =
    first_differ c.version d.version (due_lines c.version (dues_of tables) one.0.trees)
    (due_lines d.version (dues_of tables) other.0.trees)
    (sym one.0.certificate.lines_are ∙ other.0.certificate.lines_are)

first_is_line : is_line (first_line version.Two) ≡ true
unfolding digits
first_is_line = refl

first_is_first : is_first (first_line version.Two) ≡ true
unfolding digits
first_is_first = refl

-- what is written in version 2 is read so
pub second_version : (tables others : List Table) (trees : List CitedTree) (c : Certificate)
    → IsRead tables (certificate_text version.Two others trees) c → c.version ≡ version.Two
second_version tables others trees c is =
    let rest = text_of (due_lines version.Two (dues_of others) trees) in
    let ended : (parted (certificate_text version.Two others trees)).ended
    ≡ first_line version.Two ∷ (parted rest).ended =
    ap (λ (p : Parted). p.ended) (parted_line (first_line version.Two) rest first_is_line) in
    let read : lines_read (first_line version.Two ∷ (parted rest).ended)
    ≡ first_line version.Two ∷ (parted rest).ended =
    ap (λ (b : Bool). drop (cond (not b) (1 + passed_over (parted rest).ended) 0)
    (first_line version.Two ∷ (parted rest).ended)) first_is_first in
    sym (first_differ version.Two c.version (parted rest).ended (due_lines c.version (dues_of tables) is.0.trees)
    (sym (ap lines_read ended ∙ read) ∙ is.0.certificate.lines_are))
