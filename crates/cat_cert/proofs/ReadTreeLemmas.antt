-- The trees that are read of a text are written in lines of this text.
use Rattle.std.proofs.Common.{◌≡◌, ℕ, suc, ◌+◌, ◌≤◌, ◌==◌, Bool, true, false, not, if◌then◌else◌, List, [], ◌∷◌, ◌++◌}
use Rattle.std.proofs.Common.{map, length, codes, refl, sym, ap, ◌∙◌, subst, arith, length-append}
use Rattle.std.proofs.lemmas.List.{length-drop, length-map}
use Rattle.std.proofs.lemmas.List.Sums.{prefix_len-le-length}
use Rattle.cat_scope.specs.Names.{AllHave}
use Rattle.cat_guard.specs.declared.table.Table.{Table}
use Rattle.cat_guard.specs.declared.tree.CitedNode.{CitedNode}
use Rattle.cat_guard.specs.declared.tree.CitedTree.{CitedTree}
use Rattle.cat_guard.specs.Trees.{expanded}
use Rattle.cat_walk.specs.LeafPlaces.{lists_of}
use Rattle.cat_walk.specs.Sizes.{is_small}
use Rattle.cat_cert.specs.declared.certificate.Version.{Version}
use Rattle.cat_cert.specs.declared.certificate.Version.TheVariants as version
use Rattle.cat_cert.specs.declared.certificate.CertTree.{CertTree}
use Rattle.cat_cert.specs.declared.certificate.Certificate.{Certificate}
use Rattle.cat_cert.specs.Lines.{Due, ScopeDue, TargetDue, dues_of, node_line, named_lines, tree_lines, due_lines}
use Rattle.cat_cert.specs.Lines.{list_heads, tree_heads, due_heads}
use Rattle.cat_cert.specs.Certified.{MayName, AreTreesOf}
use Rattle.cat_cert.specs.Texts.{Parted, byte_before, parted, is_first, passed_over, lines_read}
use Rattle.cat_cert.specs.Fronts.{IsCertificate}
use Rattle.cat_cert.specs.Causes.{IsRead}
use Rattle.cat_cert.specs.ReadTrees.{AreWithin, AreReadTrees}
use Rattle.cat_cert.proofs.SharedLemmas.{certified_small}

-- ---- lines of lists

-- the lines of some lists, each with the line before it
abbrev list_lines : List (List CitedNode) → ℕ
list_lines [] = 0
list_lines (nodes ∷ lists) = suc (length nodes) + list_lines lists

heads_within : (most n : ℕ) (lists : List (List CitedNode)) → n + list_lines lists ≤ suc most
    → AreWithin most (list_heads n lists) lists
heads_within most n [] low = tt
heads_within most n (nodes ∷ lists) low =
    (omega (arith, low), heads_within most (suc n + length nodes) lists (omega (arith, low)))

list_lines-named : (i : ℕ) (names : List (List CitedNode)) (main : List CitedNode)
    → list_lines (names ++ main ∷ []) ≡ length (named_lines i names) + suc (length main)
list_lines-named i [] main = omega arith
list_lines-named i (nodes ∷ names) main =
    let rest = list_lines-named (suc i) names main in
    let first = length-map nodes node_line in
    let both = length-append (map node_line nodes) (named_lines (suc i) names) in
    omega (arith, rest, first, both)

bare_within : (most n : ℕ) (names : List (List CitedNode)) (main : List CitedNode) → names ≡ []
    → n + length (map node_line main) ≤ most → AreWithin most (list_heads n (main ∷ [])) (names ++ main ∷ [])
bare_within most n names main none low =
    let count = length-map main node_line in
    subst (λ (ns : List (List CitedNode)). AreWithin most (list_heads n (main ∷ [])) (ns ++ main ∷ [])) (sym none)
    (heads_within most n (main ∷ []) (omega (arith, low, count)))

tree_within : (most : ℕ) (v : Version) (n : ℕ) (c : CitedTree) → MayName v c.names
    → n + length (tree_lines v c) ≤ most → AreWithin most (tree_heads v n c) (lists_of c)
tree_within most version.One n c none low = bare_within most n c.names c.main none low
tree_within most version.Two n c none low =
    let lines = list_lines-named 0 c.names c.main in
    let count = length-map c.main node_line in
    let both = length-append (named_lines 0 c.names) (codes "tree" ∷ map node_line c.main) in
    heads_within most (suc n) (lists_of c) (omega (arith, low, lines, count, both))

-- ---- trees

trees_within : (most : ℕ) (v : Version) (n : ℕ) (dues : List Due) (cs : List CertTree)
    → AreTreesOf v dues (map (λ c. c.tree) cs)
    → map (λ c. c.heads) cs ≡ due_heads v n dues (map (λ c. c.tree) cs)
    → AllHave (λ t. is_small (expanded t) ≡ true) (map (λ c. c.tree) cs)
    → n + length (due_lines v dues (map (λ c. c.tree) cs)) ≤ suc most → AreReadTrees most v dues cs
trees_within most v n [] [] are heads few low = tt
trees_within most v n [] (c ∷ cs) are heads few low = absurd (are)
trees_within most v n (ScopeDue name ∷ dues) cs are heads few low =
    trees_within most v (suc n) dues cs are heads few (omega (arith, low))
trees_within most v n (TargetDue t ∷ dues) [] are heads few low = absurd (are)
trees_within most v n (TargetDue t ∷ dues) (c ∷ cs) are heads few low =
    let trees = map (λ (c : CertTree). c.tree) cs in
    let both = length-append (tree_lines v c.tree) (due_lines v dues trees) in
    let first : c.heads ≡ tree_heads v n c.tree = cc in
    let rest : map (λ (c : CertTree). c.heads) cs
    ≡ due_heads v (suc n + length (tree_lines v c.tree)) dues trees = cc in (
      record {
        is_tree = are.0;
        few = few.0;
        within = subst (λ hs. AreWithin most hs (lists_of c.tree)) (sym first)
            (tree_within most v n c.tree are.0.names (omega (arith, low, both)));
      },
      trees_within most v (suc n + length (tree_lines v c.tree)) dues cs are.1 rest few.1 (omega (arith, low, both)),
    )

-- ---- lines of texts

length-byte_before : (byte : ℕ) (ended : List (List ℕ)) (rest : List ℕ)
    → length (byte_before byte ended rest).ended ≡ length ended
length-byte_before byte [] rest = refl
length-byte_before byte (line ∷ lines) rest = refl

ended_by : (byte : ℕ) (b : Bool) (p : Parted) (n : ℕ) → length p.ended ≤ n
    → length (if b then record { ended = [] ∷ p.ended; rest = p.rest } else byte_before byte p.ended p.rest).ended
    ≤ suc n
ended_by byte true p n few = omega (arith, few)
ended_by byte false p n few = let same = length-byte_before byte p.ended p.rest in omega (arith, few, same)

pub length-ended : (bytes : List ℕ) → length (parted bytes).ended ≤ length bytes
unfolding parted
length-ended [] = omega arith
length-ended (byte ∷ bytes) = ended_by byte (byte == 10) (parted bytes) (length bytes) (length-ended bytes)

pub lines_within : (lines : List (List ℕ)) → passed_over lines + length (lines_read lines) ≡ length lines
lines_within lines =
    let few = prefix_len-le-length (λ line. not (is_first line)) lines in
    let rest = length-drop (passed_over lines) lines in
    omega (arith, few, rest)

pub read_trees : (tables : List Table) (bytes : List ℕ) (c : Certificate) → IsRead tables bytes c
    → AreReadTrees (length bytes) c.version (dues_of tables) c.trees
read_trees tables bytes c is =
    let ended = (parted bytes).ended in
    let trees = map (λ (t : CertTree). t.tree) c.trees in
    let cert : IsCertificate tables (lines_read ended) c.version trees =
    subst (λ ts. IsCertificate tables (lines_read ended) c.version ts) (sym is.0.trees_are) is.0.certificate in
    let heads : map (λ (t : CertTree). t.heads) c.trees ≡ due_heads c.version (passed_over ended + 2)
    (dues_of tables) trees =
    is.0.heads ∙ ap (due_heads c.version (passed_over ended + 2) (dues_of tables)) (sym is.0.trees_are) in
    let few = length-ended bytes in
    let parts = lines_within ended in
    let lines : length (lines_read ended) ≡ suc (length (due_lines c.version (dues_of tables) trees)) =
    ap length cert.lines_are in
    trees_within (length bytes) c.version (passed_over ended + 2) (dues_of tables) c.trees cert.trees_are heads
    (certified_small c.version tables (lines_read ended) trees cert) (omega (arith, few, parts, lines))
