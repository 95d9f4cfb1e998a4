-- What is written over of a certificate.
use Rattle.std.proofs.Common.{◌≡◌, ℕ, ◌^◌, ◌≤◌, ◌<◌, Bool, IsTrue, List, [], ◌∷◌, map, length}
use Rattle.std.proofs.Common.{Option, None, Some, refl, sym, ap, ◌∙◌, subst, arith}
use Rattle.std.proofs.lemmas.List.{length-map}
use Rattle.std.specs.List.{list_all}
use Rattle.std.proofs.lemmas.Bool.Decides.{nat_tests}
use Rattle.cat_scope.specs.Names.{AllHave}
use Rattle.cat_guard.specs.declared.table.Table.{Table}
use Rattle.cat_guard.specs.declared.tree.CaseTree.{CaseTree}
use Rattle.cat_guard.specs.declared.tree.CitedTree.{CitedTree}
use Rattle.cat_guard.specs.Trees.{Tree, expanded, tree_of, is_whole, leaves}
use Rattle.cat_walk.specs.Sharing.{is_whole_tree}
use Rattle.cat_walk.specs.LeafPlaces.{lists_of}
use Rattle.cat_walk.specs.Sizes.{is_small}
use Rattle.cat_walk.specs.Walkable.{nodes_pass, splits_pass}
use Rattle.cat_cert.specs.declared.certificate.Version.{Version}
use Rattle.cat_cert.specs.declared.certificate.Version.TheVariants as version
use Rattle.cat_walk.specs.Sizes.{most_leaves}
use Rattle.cat_cert.specs.declared.certificate.CertTree.{CertTree}
use Rattle.cat_cert.specs.declared.certificate.Certificate.{Certificate}
use Rattle.cat_cert.specs.Lines.{Due, ScopeDue, TargetDue, dues_of, certificate_lines}
use Rattle.cat_cert.specs.Certified.{is_atom_of}
use Rattle.cat_cert.specs.Certifiable.{shared_tree, IsCertifiable, AreCertifiable}
use Rattle.cat_cert.specs.Texts.{certificate_text, names_are_lines}
use Rattle.cat_cert.specs.Fronts.{IsCertificate}
use Rattle.cat_cert.specs.declared.refusal.CertRefusal.{CertRefusal}
use Rattle.cat_cert.specs.declared.refusal.CertRefusal.TheVariants as refusal
use Rattle.cat_cert.specs.Causes.{IsRead, IsRefused}
use Rattle.cat_cert.specs.ReadTrees.{AreReadTrees, IsReadAs}
use Rattle.cat_cert.specs.Uncovered.{AllCovered, uncovered}
use Rattle.cat_cert.specs.Checked.{IsChecked, IsCertified, HasCause, text_over}
use Rattle.cat_cert.specs.inside.Checkable.{found_in}
use Rattle.cat_cert.proofs.TableLemmas.{all_none}

-- ---- trees that are written out

abbrev pub AreWhole : Type 0
AreWhole = (c : CitedTree) (t : Tree) → expanded c ≡ Some t → IsTrue (is_whole t)

whole_there : (o : Option Tree) → IsTrue (is_small o) → ((t : Tree) → o ≡ Some t → IsTrue (is_whole t))
    → IsTrue (is_whole_tree o)
whole_there None few whole = few
whole_there (Some t) few whole = whole t refl

pub all_whole : AreWhole → (cases : List CaseTree) (cs : List CertTree) → map (λ t. tree_of t.nodes) cases ≡ found_in cs
    → AllHave (λ c. IsTrue (is_small (expanded c.tree))) cs
    → AllHave (λ t. IsTrue (is_whole_tree (tree_of t.nodes))) cases
all_whole whole [] cs same few = tt
all_whole whole (t ∷ cases) [] same few = absurd (cc)
all_whole whole (t ∷ cases) (c ∷ cs) same few =
    let first : expanded c.tree ≡ tree_of t.nodes = cc in
    let rest : map (λ (u : CaseTree). tree_of u.nodes) cases ≡ found_in cs = cc in (
      subst (λ o. IsTrue (is_whole_tree o)) first (whole_there (expanded c.tree) few.0 (whole c.tree)),
      all_whole whole cases cs rest few.1,
    )

pub same_count : (cases : List CaseTree) (cs : List CertTree) → map (λ t. tree_of t.nodes) cases ≡ found_in cs
    → length cases ≡ length cs
same_count cases cs same =
    sym (length-map cases (λ (t : CaseTree). tree_of t.nodes)) ∙ ap length same
    ∙ length-map cs (λ (c : CertTree). expanded c.tree)

pub map_twice : {A B C : Type 0} (f : A → B) (g : B → C) (xs : List A) → map g (map f xs) ≡ map (λ x. g (f x)) xs
map_twice f g [] = refl
map_twice f g (x ∷ xs) = ap (λ ys. g (f x) ∷ ys) (map_twice f g xs)

pub same_text : (tables : List Table) (cases : List CaseTree) (cs : List CertTree)
    → map (λ t. tree_of t.nodes) cases ≡ found_in cs
    → certificate_text version.Two tables (map (λ t. shared_tree (tree_of t.nodes)) cases) ≡ text_over tables cs
same_text tables cases cs same =
    ap (certificate_text version.Two tables)
    (sym (map_twice (λ (t : CaseTree). tree_of t.nodes) shared_tree cases) ∙ ap (map shared_tree) same
    ∙ map_twice (λ (c : CertTree). expanded c.tree) shared_tree cs)

-- ---- a certificate again

abbrev pub SplitAsWritten : Type 0
SplitAsWritten = (pass : ℕ → Bool) (c : CitedTree) (t : Tree) → expanded c ≡ Some t
    → IsTrue (list_all (nodes_pass pass) (lists_of c)) → IsTrue (splits_pass pass t)

few_leaves : (o : Option Tree) (t : Tree) → o ≡ Some t → IsTrue (is_small o) → leaves t ≤ most_leaves
few_leaves None t is few = absurd (cc)
few_leaves (Some u) t is few =
    let same : u ≡ t = cc in
    subst (λ x. leaves x ≤ most_leaves) same (grind (arith, nat_tests, few))

certifiable : AreWhole → SplitAsWritten → (most : ℕ) (v : Version) (dues : List Due) (cs : List CertTree)
    → AreReadTrees most v dues cs → AreCertifiable dues (found_in cs)
certifiable whole splits most v [] [] are = tt
certifiable whole splits most v [] (c ∷ cs) are = absurd (are)
certifiable whole splits most v (ScopeDue name ∷ dues) cs are = certifiable whole splits most v dues cs are
certifiable whole splits most v (TargetDue t ∷ dues) [] are = absurd (are)
certifiable whole splits most v (TargetDue t ∷ dues) (c ∷ cs) are =
    let tree = are.0.is_tree in (
      subst (IsCertifiable t) (sym tree.stands) (record {
        whole = whole c.tree tree.whole tree.stands;
        splits = splits (is_atom_of t) c.tree tree.whole tree.stands tree.splits;
        few = few_leaves (expanded c.tree) tree.whole tree.stands are.0.few;
      }),
      certifiable whole splits most v dues cs are.1,
    )

-- what the laws of certificates say
abbrev pub ReadOnes : Type 0
ReadOnes = (tables : List Table) (bytes : List ℕ) (c : Certificate) → IsRead tables bytes c
    → AreReadTrees (length bytes) c.version (dues_of tables) c.trees

abbrev pub SharedOnes : Type 0
SharedOnes = (tables : List Table) (found : List (Option Tree)) → AreCertifiable (dues_of tables) found
    → IsCertificate tables (certificate_lines version.Two tables (map shared_tree found)) version.Two
    (map shared_tree found)

abbrev pub StandAgain : Type 0
StandAgain = (tables : List Table) (found : List (Option Tree)) → AreCertifiable (dues_of tables) found
    → map expanded (map shared_tree found) ≡ found

abbrev pub WrittenOnes : Type 0
WrittenOnes = (v : Version) (tables : List Table) (trees : List CitedTree) → IsTrue (names_are_lines tables)
    → IsCertificate tables (certificate_lines v tables trees) v trees
    → IsReadAs tables (certificate_text v tables trees) v trees

-- trees whose leaves are covered are written as a text that is certified
pub certified_of : SharedOnes → StandAgain → WrittenOnes → (tables : List Table) (found : List (Option Tree))
    → IsTrue (names_are_lines tables) → AreCertifiable (dues_of tables) found → AllCovered tables found
    → IsCertified tables (certificate_text version.Two tables (map shared_tree found))
certified_of shares stands writes tables found named are covered =
    let again = writes version.Two tables (map shared_tree found) named (shares tables found are) in
    let trees : found_in again.c.trees ≡ found =
    sym (map_twice (λ (t : CertTree). t.tree) expanded again.c.trees) ∙ ap (map expanded) again.trees_are
    ∙ stands tables found are in
    (again.c, (again.is, subst (AllCovered tables) (sym trees) covered))

pub certified_again : AreWhole → SplitAsWritten → ReadOnes → SharedOnes → StandAgain → WrittenOnes
    → (tables : List Table) (bytes : List ℕ) (c : Certificate) → IsTrue (names_are_lines tables)
    → IsChecked tables bytes c → IsCertified tables (text_over tables c.trees)
certified_again whole splits reads shares stands writes tables bytes c named is =
    let found = found_in c.trees in
    let are = certifiable whole splits (length bytes) c.version (dues_of tables) c.trees (reads tables bytes c is.0) in
    let text : certificate_text version.Two tables (map shared_tree found) ≡ text_over tables c.trees =
    ap (certificate_text version.Two tables) (map_twice (λ (t : CertTree). expanded t.tree) shared_tree c.trees) in
    subst (IsCertified tables) text (certified_of shares stands writes tables found named are is.1)

-- ---- a certified text isn't refused

abbrev pub NotRefused : Type 0
NotRefused = (tables : List Table) (bytes : List ℕ) (c : Certificate) (why : CertRefusal) → IsRead tables bytes c
    → IsRefused tables bytes why → why ≡ refusal.Memory

abbrev pub OneWay : Type 0
OneWay = (tables : List Table) (bytes : List ℕ) (c d : Certificate)
    → AllHave (λ table. length table.atoms ≤ 2 ^ 64) tables
    → length bytes < 2 ^ 64 → IsRead tables bytes c → IsRead tables bytes d → c ≡ d

no_lines : (lines more : List ℕ) (n : ℕ) → lines ≡ [] → lines ≡ n ∷ more → ⊥
no_lines lines more n none some = absurd (cc)

pub certified_stays : NotRefused → OneWay → (tables : List Table) (bytes : List ℕ) (why : CertRefusal)
    → AllHave (λ table. length table.atoms ≤ 2 ^ 64) tables → length bytes < 2 ^ 64 → IsCertified tables bytes
    → HasCause tables bytes why → why ≡ refusal.Memory
certified_stays refuses once tables bytes (refusal.BadLine n) few short is cause =
    refuses tables bytes is.0 (refusal.BadLine n) is.1.0 cause
certified_stays refuses once tables bytes (refusal.WrongName n) few short is cause =
    refuses tables bytes is.0 (refusal.WrongName n) is.1.0 cause
certified_stays refuses once tables bytes (refusal.NotCovered n) few short is cause =
    let same : is.0 ≡ cause.0 = once tables bytes is.0 cause.0 few short is.1.0 cause.1 in
    let none = all_none tables is.0.trees is.1.1 in
    absurd (no_lines (uncovered tables is.0.trees) cause.2.0 n none
    (ap (λ (c : Certificate). uncovered tables c.trees) same ∙ cause.2.1))
certified_stays refuses once tables bytes refusal.Short few short is cause =
    refuses tables bytes is.0 refusal.Short is.1.0 cause
certified_stays refuses once tables bytes (refusal.Trailing n) few short is cause =
    refuses tables bytes is.0 (refusal.Trailing n) is.1.0 cause
certified_stays refuses once tables bytes (refusal.TooWide n) few short is cause =
    refuses tables bytes is.0 (refusal.TooWide n) is.1.0 cause
certified_stays refuses once tables bytes refusal.Memory few short is cause = refl
