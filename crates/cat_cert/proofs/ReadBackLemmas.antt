-- What a certificate is written as is read as this certificate.
use Rattle.std.proofs.Common.{◌≡◌, ℕ, zero, suc, ◌+◌, ◌/◌, ◌%◌, ◌==◌, nat_lt, Bool, true, false, not}
use Rattle.std.proofs.Common.{if◌then◌else◌, List, [], ◌∷◌, ◌++◌, map, length, codes, decimal, refl, sym, ap, ◌∙◌}
use Rattle.std.proofs.Common.{subst}
use Rattle.std.proofs.Common.{arith}
use Rattle.std.specs.List.{list_all}
use Rattle.std.specs.Fmt.{digits, digits_onto, digit_glyph}
use Rattle.std.proofs.lemmas.Bool.Decides.{nat_tests}
use Rattle.std.proofs.lemmas.List.Folds.{list_all-append}
use Rattle.cat_guard.specs.declared.table.Table.{Table}
use Rattle.cat_guard.specs.declared.tree.CitedNode.{CitedNode}
use Rattle.cat_guard.specs.declared.tree.CitedNode.TheVariants as cited
use Rattle.cat_guard.specs.declared.tree.CitedTree.{CitedTree}
use Rattle.cat_guard.proofs.Exported.{both_true}
use Rattle.cat_cert.specs.declared.certificate.Version.{Version}
use Rattle.cat_cert.specs.declared.certificate.Version.TheVariants as version
use Rattle.cat_cert.specs.declared.certificate.CertTree.{CertTree}
use Rattle.cat_cert.specs.declared.certificate.Certificate.{Certificate}
use Rattle.cat_cert.specs.Lines.{Due, ScopeDue, TargetDue, dues_of, due_name, node_line, named_lines, tree_lines}
use Rattle.cat_cert.specs.Lines.{version_number, due_lines, certificate_lines, tree_heads, due_heads}
use Rattle.cat_cert.specs.Certified.{AreTreesOf}
use Rattle.cat_cert.specs.Texts.{Parted, byte_before, parted, text_of, certificate_text, is_line, names_are_lines}
use Rattle.cat_cert.specs.Fronts.{IsCertificate}
use Rattle.cat_cert.specs.Causes.{IsReadOf, IsRead}
use Rattle.cat_cert.specs.ReadTrees.{IsReadAs}

-- ---- texts by their lines

not_true : (b : Bool) → not b ≡ true → b ≡ false
not_true true h = cc
not_true false h = refl

-- a line in front of a text
abbrev pub line_before : List ℕ → Parted → Parted
line_before line p = record { ended = line ∷ p.ended; rest = p.rest }

-- one byte in front of a text, by whether it is a line feed
abbrev parted_by : Bool → ℕ → Parted → Parted
parted_by feed byte p =
    if feed then record { ended = [] ∷ p.ended; rest = p.rest } else byte_before byte p.ended p.rest

pub parted_line : (line rest : List ℕ) → is_line line ≡ true
    → parted (line ++ 10 ∷ rest) ≡ line_before line (parted rest)
unfolding parted
parted_line [] rest is = refl
parted_line (b ∷ line) rest is =
    let two = both_true (not (b == 10)) (is_line line) is in
    ap (λ feed. parted_by feed b (parted (line ++ 10 ∷ rest))) (not_true (b == 10) two.0)
    ∙ ap (λ (p : Parted). byte_before b p.ended p.rest) (parted_line line rest two.1)

pub parted_lines : (lines : List (List ℕ)) → list_all is_line lines ≡ true
    → parted (text_of lines) ≡ record { ended = lines; rest = [] }
unfolding parted
parted_lines [] is = refl
parted_lines (line ∷ lines) is =
    let two = both_true (is_line line) (list_all is_line lines) is in
    parted_line line (text_of lines) two.0 ∙ ap (line_before line) (parted_lines lines two.1)

-- ---- the lines of a certificate

no_feed : (b : Bool) (d : ℕ) → not ((if b then 48 + d else 87 + d) == 10) ≡ true
no_feed true d = grind (arith, nat_tests)
no_feed false d = grind (arith, nat_tests)

digits_line : (k n : ℕ) (behind : List ℕ) → is_line behind ≡ true → is_line (digits_onto k 10 false n behind) ≡ true
digits_line zero n behind is = is
digits_line (suc k) n behind is =
    let more : is_line (digit_glyph false (n % 10) ∷ behind) ≡ true = rw (no_feed (nat_lt (n % 10) 10) (n % 10)) is in
    by (n / 10 == 0) more (digits_line k (n / 10) (digit_glyph false (n % 10) ∷ behind) more)
  where
    by : (b : Bool) → is_line (digit_glyph false (n % 10) ∷ behind) ≡ true
        → is_line (digits_onto k 10 false (n / 10) (digit_glyph false (n % 10) ∷ behind)) ≡ true
        → is_line (if b then digit_glyph false (n % 10) ∷ behind
        else digits_onto k 10 false (n / 10) (digit_glyph false (n % 10) ∷ behind)) ≡ true
    by true here further = here
    by false here further = further

decimal_line : (n : ℕ) → is_line (decimal n) ≡ true
unfolding digits
decimal_line n = digits_line 64 n [] refl

nodes_lines : (ns : List CitedNode) → list_all is_line (map node_line ns) ≡ true
nodes_lines [] = refl
nodes_lines (cited.Split a ∷ ns) = rw (decimal_line a) (nodes_lines ns)
nodes_lines (cited.Leaf ∷ ns) = nodes_lines ns
nodes_lines (cited.Cite i ∷ ns) = rw (decimal_line i) (nodes_lines ns)

both_lines : (xs ys : List (List ℕ)) → list_all is_line xs ≡ true → list_all is_line ys ≡ true
    → list_all is_line (xs ++ ys) ≡ true
both_lines xs ys one other = list_all-append is_line xs ys ∙ rw (one, other) refl

names_lines : (i : ℕ) (lists : List (List CitedNode)) → list_all is_line (named_lines i lists) ≡ true
names_lines i [] = refl
names_lines i (nodes ∷ more) =
    rw (decimal_line i) (both_lines (map node_line nodes) (named_lines (suc i) more) (nodes_lines nodes)
    (names_lines (suc i) more))

tree_is_lines : (v : Version) (t : CitedTree) → list_all is_line (tree_lines v t) ≡ true
tree_is_lines version.One t = nodes_lines t.main
tree_is_lines version.Two t =
    both_lines (named_lines 0 t.names) (codes "tree" ∷ map node_line t.main) (names_lines 0 t.names)
    (nodes_lines t.main)

due_is_lines : (v : Version) (dues : List Due) (trees : List CitedTree)
    → list_all (λ due. is_line (due_name due)) dues ≡ true → list_all is_line (due_lines v dues trees) ≡ true
due_is_lines v [] trees named = refl
due_is_lines v (ScopeDue name ∷ dues) trees named =
    let two = both_true (is_line name) (list_all (λ due. is_line (due_name due)) dues) named in
    rw two.0 (due_is_lines v dues trees two.1)
due_is_lines v (TargetDue t ∷ dues) [] named = refl
due_is_lines v (TargetDue t ∷ dues) (tree ∷ trees) named =
    let two = both_true (is_line t.name) (list_all (λ due. is_line (due_name due)) dues) named in
    rw two.0 (both_lines (tree_lines v tree) (due_lines v dues trees) (tree_is_lines v tree)
    (due_is_lines v dues trees two.1))

certificate_is_lines : (v : Version) (tables : List Table) (trees : List CitedTree)
    → names_are_lines tables ≡ true → list_all is_line (certificate_lines v tables trees) ≡ true
certificate_is_lines v tables trees named =
    rw (decimal_line (version_number v)) (due_is_lines v (dues_of tables) trees named)

-- ---- the certificate that is read

-- trees with where they are written, where the first line of what is due is that one
abbrev pub placed : Version → ℕ → List Due → List CitedTree → List CertTree
placed v n [] trees = []
placed v n (ScopeDue name ∷ dues) trees = placed v (suc n) dues trees
placed v n (TargetDue t ∷ dues) [] = []
placed v n (TargetDue t ∷ dues) (tree ∷ trees) =
    record { tree = tree; heads = tree_heads v n tree } ∷ placed v (suc n + length (tree_lines v tree)) dues trees

pub placed_trees : (v : Version) (n : ℕ) (dues : List Due) (trees : List CitedTree) → AreTreesOf v dues trees
    → map (λ c. c.tree) (placed v n dues trees) ≡ trees
placed_trees v n [] [] are = refl
placed_trees v n [] (tree ∷ trees) are = absurd (are)
placed_trees v n (ScopeDue name ∷ dues) trees are = placed_trees v (suc n) dues trees are
placed_trees v n (TargetDue t ∷ dues) [] are = absurd (are)
placed_trees v n (TargetDue t ∷ dues) (tree ∷ trees) are =
    ap (λ ts. tree ∷ ts) (placed_trees v (suc n + length (tree_lines v tree)) dues trees are.1)

pub placed_heads : (v : Version) (n : ℕ) (dues : List Due) (trees : List CitedTree)
    → map (λ c. c.heads) (placed v n dues trees) ≡ due_heads v n dues trees
placed_heads v n [] trees = refl
placed_heads v n (ScopeDue name ∷ dues) trees = placed_heads v (suc n) dues trees
placed_heads v n (TargetDue t ∷ dues) [] = refl
placed_heads v n (TargetDue t ∷ dues) (tree ∷ trees) =
    ap (λ hs. tree_heads v n tree ∷ hs) (placed_heads v (suc n + length (tree_lines v tree)) dues trees)

-- the certificate of some trees
abbrev pub certificate_of : Version → List Table → List CitedTree → Certificate
certificate_of v tables trees = record { version = v; trees = placed v 2 (dues_of tables) trees }

pub certificate_trees : (v : Version) (tables : List Table) (trees : List CitedTree)
    → AreTreesOf v (dues_of tables) trees
    → map (λ c. c.tree) (certificate_of v tables trees).trees ≡ trees
certificate_trees v tables trees are = placed_trees v 2 (dues_of tables) trees are

pub certificate_read : (v : Version) (tables : List Table) (trees : List CitedTree) → names_are_lines tables ≡ true
    → IsCertificate tables (certificate_lines v tables trees) v trees
    → IsRead tables (certificate_text v tables trees) (certificate_of v tables trees)
certificate_read v tables trees named is =
    subst (λ (p : Parted). IsReadOf tables p (certificate_of v tables trees))
    (sym (parted_lines (certificate_lines v tables trees) (certificate_is_lines v tables trees named))) (
      record {
        trees = trees;
        trees_are = certificate_trees v tables trees is.trees_are;
        certificate = is;
        heads = placed_heads v 2 (dues_of tables) trees;
      },
      refl,
    )

pub read_as : (v : Version) (tables : List Table) (trees : List CitedTree) → names_are_lines tables ≡ true
    → IsCertificate tables (certificate_lines v tables trees) v trees
    → IsReadAs tables (certificate_text v tables trees) v trees
read_as v tables trees named is = record {
  c = certificate_of v tables trees;
  is = certificate_read v tables trees named is;
  version_is = refl;
  trees_are = certificate_trees v tables trees is.trees_are;
}
