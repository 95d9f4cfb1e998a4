-- What is read of a text isn't refused.
use Rattle.std.proofs.Common.{◌≡◌, ◌≢◌, ◌⊎◌, inl, inr, ℕ, zero, suc, ◌<◌, ◌≤◌, nat_eq, Bool, true, false, not, List, []}
use Rattle.std.proofs.Common.{◌∷◌, ◌++◌, map, take, drop, length, codes, Some, slice_get, refl, sym, ap, ◌∙◌}
use Rattle.std.proofs.Common.{arith, true≢false, append_assoc}
use Rattle.std.specs.List.{list_all}
use Rattle.std.proofs.lemmas.List.{take-append-drop, length-drop}
use Rattle.std.proofs.lemmas.List.Elements.{All-nil, All-cons, All-head, All-tail}
use Rattle.std.proofs.lemmas.List.Folds.{list_all-append}
use Rattle.cat_guard.specs.declared.table.Table.{Table}
use Rattle.cat_guard.specs.declared.tree.CitedNode.{CitedNode}
use Rattle.cat_guard.specs.declared.tree.CitedNode.TheVariants as cited
use Rattle.cat_guard.specs.declared.tree.CitedTree.{CitedTree}
use Rattle.cat_guard.proofs.Exported.{both_true}
use Rattle.cat_cert.specs.declared.certificate.Version.{Version}
use Rattle.cat_cert.specs.declared.certificate.Version.TheVariants as version
use Rattle.cat_walk.specs.Sizes.{most_leaves}
use Rattle.cat_cert.specs.declared.certificate.Certificate.{Certificate}
use Rattle.cat_cert.specs.declared.refusal.CertRefusal.{CertRefusal}
use Rattle.cat_cert.specs.declared.refusal.CertRefusal.TheVariants as refusal
use Rattle.cat_cert.specs.Lines.{Due, ScopeDue, TargetDue, dues_of, node_line, named_lines, tree_lines}
use Rattle.cat_cert.specs.Lines.{heading_line}
use Rattle.cat_cert.specs.Lines.{first_line, due_lines, certificate_lines}
use Rattle.cat_cert.specs.Certified.{AreTreesOf, due_widths}
use Rattle.cat_cert.specs.Texts.{parted, passed_over, lines_read}
use Rattle.cat_cert.specs.Fronts.{IsFront, IsSmallFront, IsCertificate}
use Rattle.cat_cert.specs.Causes.{IsRead, IsRefused, RefusedBehind}
use Rattle.cat_cert.proofs.WidthLemmas.{AreUpTo}
use Rattle.cat_cert.proofs.SharedLemmas.{certificate_widths}

-- ---- lines of a certificate go on

take_at : {A : Type 0} (xs : List A) (i : ℕ) (x : A) → slice_get xs i ≡ Some x
    → (take i xs ++ x ∷ []) ++ drop (suc i) xs ≡ xs
take_at [] i x at = absurd (cc)
take_at (y ∷ ys) zero x at = let same : x ≡ y = cc in ap (λ z. z ∷ ys) same
take_at (y ∷ ys) (suc i) x at = ap (λ zs. y ∷ zs) (take_at ys i x at)

goes_on : (tables : List Table) (lines : List (List ℕ)) (v : Version) (trees : List CitedTree)
    → IsCertificate tables lines v trees → (i : ℕ) (line : List ℕ) → slice_get lines i ≡ Some line
    → IsFront tables (take i lines ++ line ∷ [])
goes_on tables lines v trees is i line at = (
  v,
  trees,
  record {
    more = drop (suc i) lines;
    trees_are = is.trees_are;
    lines_are = sym is.lines_are ∙ sym (take_at lines i line at);
  },
)

up_taken : (most n : ℕ) (xs : List ℕ) → AreUpTo most xs → AreUpTo most (take n xs)
up_taken most zero xs up = All-nil (λ n. n ≤ most)
up_taken most (suc n) [] up = All-nil (λ n. n ≤ most)
up_taken most (suc n) (x ∷ xs) up =
    All-cons (λ n. n ≤ most) x (take n xs) (All-head (λ n. n ≤ most) x xs up)
    (up_taken most n xs (All-tail (λ n. n ≤ most) x xs up))

small_on : (tables : List Table) (lines : List (List ℕ)) (v : Version) (trees : List CitedTree)
    → IsCertificate tables lines v trees → (n : ℕ) → IsSmallFront tables (take n lines)
small_on tables lines v trees is n =
    let widths = 0 ∷ due_widths v (dues_of tables) trees in
    let up : AreUpTo most_leaves widths =
    All-cons (λ m. m ≤ most_leaves) 0 (due_widths v (dues_of tables) trees) (omega arith)
    (certificate_widths v tables lines trees is) in (
      v,
      trees,
      record {
        more = drop n lines;
        trees_are = is.trees_are;
        lines_are = sym is.lines_are ∙ sym (take-append-drop n lines);
      },
      up_taken most_leaves (length (take n lines)) widths up,
    )

-- ---- a certificate ends with its last line

-- a line begins as the last one
abbrev is_last : List ℕ → Bool
is_last [] = false
is_last (b ∷ bs) = nat_eq b 101

-- what is due, without the last line
abbrev open_lines : Version → List Due → List CitedTree → List (List ℕ)
open_lines v [] trees = []
open_lines v (ScopeDue name ∷ dues) trees = heading_line (ScopeDue name) ∷ open_lines v dues trees
open_lines v (TargetDue t ∷ dues) [] = []
open_lines v (TargetDue t ∷ dues) (tree ∷ trees) =
    heading_line (TargetDue t) ∷ tree_lines v tree ++ open_lines v dues trees

opened : (v : Version) (dues : List Due) (trees : List CitedTree) → AreTreesOf v dues trees
    → due_lines v dues trees ≡ open_lines v dues trees ++ codes "end" ∷ []
opened v [] trees are = refl
opened v (ScopeDue name ∷ dues) trees are = ap (λ ls. heading_line (ScopeDue name) ∷ ls) (opened v dues trees are)
opened v (TargetDue t ∷ dues) [] are = absurd (are)
opened v (TargetDue t ∷ dues) (tree ∷ trees) are =
    ap (λ ls. heading_line (TargetDue t) ∷ ls)
    (ap (λ ls. tree_lines v tree ++ ls) (opened v dues trees are.1)
    ∙ sym (append_assoc (tree_lines v tree) (open_lines v dues trees) (codes "end" ∷ [])))

-- no line of these is the last one
abbrev AreOpen : List (List ℕ) → Type 0
AreOpen lines = list_all (λ line. not (is_last line)) lines ≡ true

both_open : (xs ys : List (List ℕ)) → AreOpen xs → AreOpen ys → AreOpen (xs ++ ys)
both_open xs ys one other = list_all-append (λ line. not (is_last line)) xs ys ∙ rw (one, other) refl

nodes_open : (ns : List CitedNode) → AreOpen (map node_line ns)
nodes_open [] = refl
nodes_open (cited.Split a ∷ ns) = nodes_open ns
nodes_open (cited.Leaf ∷ ns) = nodes_open ns
nodes_open (cited.Cite i ∷ ns) = nodes_open ns

names_open : (i : ℕ) (lists : List (List CitedNode)) → AreOpen (named_lines i lists)
names_open i [] = refl
names_open i (nodes ∷ more) =
    both_open (map node_line nodes) (named_lines (suc i) more) (nodes_open nodes) (names_open (suc i) more)

tree_open : (v : Version) (t : CitedTree) → AreOpen (tree_lines v t)
tree_open version.One t = nodes_open t.main
tree_open version.Two t =
    both_open (named_lines 0 t.names) (codes "tree" ∷ map node_line t.main) (names_open 0 t.names) (nodes_open t.main)

due_open : (v : Version) (dues : List Due) (trees : List CitedTree) → AreOpen (open_lines v dues trees)
due_open v [] trees = refl
due_open v (ScopeDue name ∷ dues) trees = due_open v dues trees
due_open v (TargetDue t ∷ dues) [] = refl
due_open v (TargetDue t ∷ dues) (tree ∷ trees) =
    both_open (tree_lines v tree) (open_lines v dues trees) (tree_open v tree) (due_open v dues trees)

-- where lines end with a last one, and others with the only last one of theirs, nothing follows
ends_there : (xs ys more : List (List ℕ)) (e : List ℕ) → is_last e ≡ true → AreOpen ys
    → (xs ++ e ∷ []) ++ more ≡ ys ++ e ∷ [] → more ≡ []
ends_there [] [] more e last none is = cc
ends_there [] (y ∷ ys) more e last none is =
    let same : e ≡ y = cc in
    let two = both_true (not (is_last y)) (list_all (λ line. not (is_last line)) ys) none in
    absurd (true≢false (sym (sym (ap not (sym (ap is_last same) ∙ last)) ∙ two.0)))
ends_there (x ∷ xs) [] more e last none is =
    let none : (xs ++ e ∷ []) ++ more ≡ [] = cc in
    nothing xs none
  where
    nothing : (xs : List (List ℕ)) → (xs ++ e ∷ []) ++ more ≡ [] → more ≡ []
    nothing [] none = absurd (cc)
    nothing (z ∷ zs) none = absurd (cc)
ends_there (x ∷ xs) (y ∷ ys) more e last none is =
    let two = both_true (not (is_last y)) (list_all (λ line. not (is_last line)) ys) none in
    let rest : (xs ++ e ∷ []) ++ more ≡ ys ++ e ∷ [] = cc in
    ends_there xs ys more e last two.1 rest

nothing_behind : (tables : List Table) (v w : Version) (trees us : List CitedTree) (more : List (List ℕ))
    → AreTreesOf v (dues_of tables) trees → AreTreesOf w (dues_of tables) us
    → certificate_lines w tables us ++ more ≡ certificate_lines v tables trees → more ≡ []
nothing_behind tables v w trees us more are others is =
    let front = first_line w ∷ open_lines w (dues_of tables) us in
    let all = first_line v ∷ open_lines v (dues_of tables) trees in
    let one : certificate_lines w tables us ≡ front ++ codes "end" ∷ [] =
    ap (λ ls. first_line w ∷ ls) (opened w (dues_of tables) us others) in
    let other : certificate_lines v tables trees ≡ all ++ codes "end" ∷ [] =
    ap (λ ls. first_line v ∷ ls) (opened v (dues_of tables) trees are) in
    ends_there front all more (codes "end") refl (due_open v (dues_of tables) trees)
    (ap (λ ls. ls ++ more) (sym one) ∙ is ∙ other)

-- ---- the law

not_refused : (tables : List Table) (passed : ℕ) (lines : List (List ℕ)) (rest : List ℕ) (v : Version)
    (trees : List CitedTree) → IsCertificate tables lines v trees → rest ≡ [] → (why : CertRefusal)
    → RefusedBehind tables passed lines rest why → why ≡ refusal.Memory
not_refused tables passed lines rest v trees is none (refusal.BadLine n) h =
    absurd (h.5 (goes_on tables lines v trees is h.0 h.1 h.3.line_is))
not_refused tables passed lines rest v trees is none (refusal.WrongName n) h =
    absurd (h.4 (goes_on tables lines v trees is h.0 h.1 h.3.line_is))
not_refused tables passed lines rest v trees is none (refusal.NotCovered n) h = absurd (h)
not_refused tables passed lines rest v trees is none refusal.Short h = absurd (h.1 v trees is)
not_refused tables passed lines rest v trees is none (refusal.Trailing n) h = absurd (by h.5)
  where
    behind : drop h.0 lines ≡ []
    behind =
        nothing_behind tables v h.1 trees h.2 (drop h.0 lines) is.trees_are h.4.trees_are
        (ap (λ ls. ls ++ drop h.0 lines) (sym h.4.lines_are) ∙ take-append-drop h.0 lines ∙ is.lines_are)

    by : (h.0 < length lines) ⊎ ((h.0 ≡ length lines) × (rest ≢ [])) → ⊥
    by (inl more) =
        let left : length (drop h.0 lines) ≡ 0 = ap length behind in
        let size = length-drop h.0 lines in
        omega (arith, left, size, more)
    by (inr one) = one.1 none
not_refused tables passed lines rest v trees is none (refusal.TooWide n) h =
    absurd (h.5 (small_on tables lines v trees is (suc h.0)))
not_refused tables passed lines rest v trees is none refusal.Memory h = refl

pub read_not_refused : (tables : List Table) (bytes : List ℕ) (c : Certificate) (why : CertRefusal)
    → IsRead tables bytes c → IsRefused tables bytes why → why ≡ refusal.Memory
read_not_refused tables bytes c why is h =
    not_refused tables (passed_over (parted bytes).ended) (lines_read (parted bytes).ended)
    (parted bytes).rest c.version
    is.0.trees is.0.certificate is.1 why h
