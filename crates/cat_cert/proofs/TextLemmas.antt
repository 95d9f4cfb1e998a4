-- Texts of lines, and of what is written of them.
use Rattle.std.proofs.Common.{◌≡◌, ℕ, zero, suc, ◌+◌, List, [], ◌∷◌, ◌++◌, map, drop, length, Some, slice_get}
use Rattle.std.proofs.Common.{refl, sym, ap, ◌∙◌, append_assoc, append-nil, add-one, arith, length-append, codes}
use Rattle.std.proofs.Common.{decimal}
use Rattle.std.proofs.Common.{Result, Ok, Err, OnOk}
use Rattle.cat_guard.specs.declared.table.Table.{Table}
use Rattle.cat_guard.specs.declared.table.TableTarget.{TableTarget}
use Rattle.cat_guard.specs.declared.tree.CitedNode.{CitedNode}
use Rattle.cat_guard.specs.declared.tree.CitedTree.{CitedTree}
use Rattle.cat_cert.specs.declared.certificate.Version.{Version}
use Rattle.cat_cert.specs.Lines.{Due, ScopeDue, TargetDue, node_line, named_lines, tree_lines, heading_line}
use Rattle.cat_cert.specs.Lines.{due_lines}
use Rattle.cat_cert.specs.Lines.{dues_of, targets_of}
use Rattle.cat_cert.specs.Texts.{text_of}

-- what begins with an element
pub drop_at : {A : Type 0} (xs : List A) (k : ℕ) (x : A) → slice_get xs k ≡ Some x → drop k xs ≡ x ∷ drop (suc k) xs
drop_at [] k x h = absurd (cc)
drop_at (y ∷ ys) zero x h = cc
drop_at (y ∷ ys) (suc k) x h = drop_at ys k x h

pub text_of-append : (xs ys : List (List ℕ)) → text_of (xs ++ ys) ≡ text_of xs ++ text_of ys
text_of-append [] ys = refl
text_of-append (x ∷ xs) ys =
    ap (λ t. x ++ 10 ∷ t) (text_of-append xs ys) ∙ sym (append_assoc x (10 ∷ text_of xs) (text_of ys))

-- lines that were written, in front of further ones
pub written_before : (old new : List ℕ) (front more : List (List ℕ)) → new ≡ old ++ text_of front
    → new ++ text_of more ≡ old ++ text_of (front ++ more)
written_before old new front more is =
    ap (λ t. t ++ text_of more) is ∙ append_assoc old (text_of front) (text_of more)
    ∙ ap (λ t. old ++ t) (sym (text_of-append front more))

-- the last lines were written, if no memory was wanted
pub ended_with : {A E : Type 0} (r : Result A E) (start old new : List ℕ) (front more : List (List ℕ))
    → old ≡ start ++ text_of front → OnOk r (new ≡ old ++ text_of more)
    → OnOk r (new ≡ start ++ text_of (front ++ more))
ended_with (Ok a) start old new front more first is =
    is ∙ ap (λ t. t ++ text_of more) first ∙ append_assoc start (text_of front) (text_of more)
    ∙ ap (λ t. start ++ t) (sym (text_of-append front more))
ended_with (Err e) start old new front more first is = is

-- ---- named trees

named_lines-first : (i : ℕ) (nodes : List CitedNode) (more : List (List CitedNode))
    → named_lines i (nodes ∷ []) ++ named_lines (suc i) more ≡ named_lines i (nodes ∷ more)
named_lines-first i nodes more =
    ap (λ ls. ls ++ named_lines (suc i) more) (append-nil ((codes "name " ++ decimal i) ∷ map node_line nodes))

-- one named tree more was written
pub name_written : (names : List (List CitedNode)) (k : ℕ) (nodes : List CitedNode) (start old new : List ℕ)
    → slice_get names k ≡ Some nodes → new ≡ old ++ text_of (named_lines k (nodes ∷ []))
    → old ++ text_of (named_lines k (drop k names)) ≡ start
    → new ++ text_of (named_lines (k + 1) (drop (k + 1) names)) ≡ start
name_written names k nodes start old new at is made =
    rw (add-one k) (written_before old new (named_lines k (nodes ∷ [])) (named_lines (suc k) (drop (suc k) names)) is
    ∙ ap (λ ls. old ++ text_of ls) (named_lines-first k nodes (drop (suc k) names)
    ∙ ap (named_lines k) (sym (drop_at names k nodes at))) ∙ made)

-- ---- targets

-- one target more was written
pub target_written : (v : Version) (targets : List TableTarget) (trees : List CitedTree) (k : ℕ) (t : TableTarget)
    (tree : CitedTree) (more : List Due) (rest : List CitedTree) (start old new : List ℕ)
    → slice_get targets k ≡ Some t → drop k trees ≡ tree ∷ drop (suc k) trees
    → new ≡ old ++ text_of (heading_line (TargetDue t) ∷ tree_lines v tree)
    → old ++ text_of (due_lines v (map TargetDue (drop k targets) ++ more) (drop k trees ++ rest)) ≡ start
    → new ++ text_of (due_lines v (map TargetDue (drop (k + 1) targets) ++ more) (drop (k + 1) trees ++ rest)) ≡ start
target_written v targets trees k t tree more rest start old new at tree_at is made =
    rw (add-one k) (written_before old new (heading_line (TargetDue t) ∷ tree_lines v tree)
    (due_lines v (map TargetDue (drop (suc k) targets) ++ more) (drop (suc k) trees ++ rest)) is
    ∙ ap (λ ts. old ++ text_of (due_lines v (map TargetDue ts ++ more) (tree ∷ drop (suc k) trees ++ rest)))
    (sym (drop_at targets k t at))
    ∙ ap (λ cs. old ++ text_of (due_lines v (map TargetDue (drop k targets) ++ more) (cs ++ rest))) (sym tree_at)
    ∙ made)

-- ---- scopes

-- one scope more was written, with the trees from some number on
pub table_written : (v : Version) (tables : List Table) (trees : List CitedTree) (k at end : ℕ) (table : Table)
    (part : List CitedTree) (start old new : List ℕ) → slice_get tables k ≡ Some table
    → part ++ drop end trees ≡ drop at trees
    → ((more : List Due) (rest : List CitedTree) → new ++ text_of (due_lines v more rest)
    ≡ old ++ text_of (due_lines v (ScopeDue table.name ∷ map TargetDue table.targets ++ more) (part ++ rest)))
    → old ++ text_of (due_lines v (dues_of (drop k tables)) (drop at trees)) ≡ start
    → new ++ text_of (due_lines v (dues_of (drop (k + 1) tables)) (drop end trees)) ≡ start
table_written v tables trees k at end table part start old new here parts is made =
    rw (add-one k) (is (dues_of (drop (suc k) tables)) (drop end trees)
    ∙ ap (λ cs. old ++ text_of (due_lines v (dues_of (table ∷ drop (suc k) tables)) cs)) parts
    ∙ ap (λ ts. old ++ text_of (due_lines v (dues_of ts) (drop at trees))) (sym (drop_at tables k table here)) ∙ made)

-- and so many targets fewer are left
pub targets_left : (tables : List Table) (k at all : ℕ) (table : Table) → slice_get tables k ≡ Some table
    → at + length (targets_of (drop k tables)) ≡ all
    → at + length table.targets + length (targets_of (drop (k + 1) tables)) ≡ all
targets_left tables k at all table here left =
    let first : length (targets_of (drop k tables)) ≡ length table.targets + length (targets_of (drop (k + 1) tables)) =
    rw (add-one k) (ap (λ ts. length (targets_of ts)) (drop_at tables k table here)
    ∙ length-append table.targets (targets_of (drop (suc k) tables))) in
    omega (arith, first, left)
