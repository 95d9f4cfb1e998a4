-- What is covered in a region hangs on its narrowings, and not on its room.
use Rattle.std.proofs.Common.{◌≡◌, ℕ, Bool, true, false, not, ◌||◌, if◌then◌else◌, List, [], ◌∷◌, ◌++◌, map}
use Rattle.std.proofs.Common.{Option, None, Some, slice_get, refl, sym, ap, ◌∙◌}
use Rattle.std.specs.List.{list_any}
use Rattle.std.proofs.lemmas.List.{map-append}
use mathlib.Core.Path.{fun_ext}
use Rattle.cat_region.specs.Regions.{Constraints}
use Rattle.cat_region.specs.Decided.{admits_none, decided_at}
use Rattle.cat_guard.specs.declared.table.Atom.{Atom}
use Rattle.cat_guard.specs.declared.table.TableTarget.{TableTarget}
use Rattle.cat_guard.specs.Judged.{atom_decided, judged_in, covers}
use Rattle.cat_guard.specs.Trees.{Tree, with_answer, answering, expanded}
use Rattle.cat_guard.specs.Trees as tree
use Rattle.cat_guard.specs.Verdicts.{verdict_of}
use Rattle.cat_walk.specs.declared.place.NodePlace.{NodePlace}
use Rattle.cat_walk.specs.Coverage.{is_uncovered, leaf_regions}
use Rattle.cat_walk.specs.LeafPlaces.{leaf_places}
use Rattle.cat_cert.specs.declared.certificate.CertTree.{CertTree}
use Rattle.cat_cert.specs.Uncovered.{IsCovered, line_of, lines_passing, regions_of}
use Rattle.cat_cert.specs.Uncovered.{tree_uncovered}

-- a region with another room
abbrev pub with_room : ℕ → Constraints → Constraints
with_room n region = record { dims = region.dims; narrowings = region.narrowings; room = n }

none_same : (n : ℕ) (region : Constraints) → admits_none (with_room n region) ≡ admits_none region
unfolding admits_none
none_same n region = refl

atom_same : (n : ℕ) (region : Constraints) (o : Option Atom)
    → atom_decided (with_room n region) o ≡ atom_decided region o
unfolding decided_at admits_none
atom_same n region None = refl
atom_same n region (Some atom) = refl

judged_same : (n : ℕ) (atoms : List Atom) (region : Constraints) (t : TableTarget)
    → judged_in atoms (with_room n region) t ≡ judged_in atoms region t
judged_same n atoms region t =
    ap (verdict_of t) (fun_ext (λ (a : ℕ). atom_same n region (slice_get atoms a)))

uncovered_same : (n : ℕ) (atoms : List Atom) (t : TableTarget) (region : Constraints)
    → is_uncovered atoms t (with_room n region) ≡ is_uncovered atoms t region
uncovered_same n atoms t region =
    ap (λ b. not (b || covers t.may_be_empty (judged_in atoms (with_room n region) t))) (none_same n region)
    ∙ ap (λ v. not (admits_none region || covers t.may_be_empty v)) (judged_same n atoms region t)

answer_same : (n : ℕ) (region : Constraints) (o : Option Atom) (b : Bool)
    → with_answer (with_room n region) o b ≡ with_room n (with_answer region o b)
answer_same n region None b = refl
answer_same n region (Some atom) b = refl

leaves_same : (n : ℕ) (atoms : List Atom) (region : Constraints) (t : Tree)
    → leaf_regions atoms (with_room n region) t ≡ map (with_room n) (leaf_regions atoms region t)
leaves_same n atoms region tree.Leaf = refl
leaves_same n atoms region tree.Rest = refl
leaves_same n atoms region (tree.Split a left right) =
    let yes = answer_same n region (slice_get atoms a) true in
    let no_ = answer_same n region (slice_get atoms a) false in
    let one = ap (λ r. leaf_regions atoms r left) yes ∙ leaves_same n atoms (answering atoms region a true) left in
    let other = ap (λ r. leaf_regions atoms r right) no_ ∙ leaves_same n atoms (answering atoms region a false) right in
    ap (λ rs. rs ++ leaf_regions atoms (answering atoms (with_room n region) a false) right) one
    ∙ ap (λ rs. map (with_room n) (leaf_regions atoms (answering atoms region a true) left) ++ rs) other
    ∙ sym (map-append (with_room n) (leaf_regions atoms (answering atoms region a true) left)
    (leaf_regions atoms (answering atoms region a false) right))

passing_same : (n : ℕ) (atoms : List Atom) (t : TableTarget) (heads : List ℕ) (places : List NodePlace)
    (regions : List Constraints) → lines_passing (is_uncovered atoms t) heads places (map (with_room n) regions)
    ≡ lines_passing (is_uncovered atoms t) heads places regions
passing_same n atoms t heads [] regions = refl
passing_same n atoms t heads (place ∷ places) [] = refl
passing_same n atoms t heads (place ∷ places) (region ∷ regions) =
    let rest = passing_same n atoms t heads places regions in
    let more = lines_passing (is_uncovered atoms t) heads places (map (with_room n) regions) in
    ap (λ b. if b then line_of heads place ∷ more else more) (uncovered_same n atoms t region)
    ∙ ap (λ ns. if is_uncovered atoms t region then line_of heads place ∷ ns else ns) rest

regions_same : (n : ℕ) (atoms : List Atom) (region : Constraints) (o : Option Tree)
    → regions_of atoms (with_room n region) o ≡ map (with_room n) (regions_of atoms region o)
regions_same n atoms region None = refl
regions_same n atoms region (Some t) = leaves_same n atoms region t

pub lines_same : (n : ℕ) (atoms : List Atom) (region : Constraints) (t : TableTarget) (c : CertTree)
    → tree_uncovered atoms (with_room n region) t c ≡ tree_uncovered atoms region t c
lines_same n atoms region t c =
    ap (lines_passing (is_uncovered atoms t) c.heads (leaf_places c.tree))
    (regions_same n atoms region (expanded c.tree))
    ∙ passing_same n atoms t c.heads (leaf_places c.tree) (regions_of atoms region (expanded c.tree))

any_same : (n : ℕ) (atoms : List Atom) (t : TableTarget) (regions : List Constraints)
    → list_any (is_uncovered atoms t) (map (with_room n) regions) ≡ list_any (is_uncovered atoms t) regions
any_same n atoms t [] = refl
any_same n atoms t (region ∷ regions) =
    ap (λ b. b || list_any (is_uncovered atoms t) (map (with_room n) regions)) (uncovered_same n atoms t region)
    ∙ ap (λ b. is_uncovered atoms t region || b) (any_same n atoms t regions)

pub covered_same : (n : ℕ) (atoms : List Atom) (region : Constraints) (t : TableTarget) (o : Option Tree)
    → IsCovered atoms (with_room n region) t o → IsCovered atoms region t o
covered_same n atoms region t o is =
    sym (ap (list_any (is_uncovered atoms t)) (regions_same n atoms region o)
    ∙ any_same n atoms t (regions_of atoms region o)) ∙ is
