-- What the judged leaves of a tree tell is told of the tree of its target.
use Rattle.std.proofs.Common.{◌≡◌, ℕ, ◌<◌, List, [], ◌∷◌, ◌++◌, map, length}
use Rattle.std.proofs.Common.{Option, Some, None, Result, Ok, Err}
use Rattle.std.proofs.Common.{IfSome, IfOk, IfErr, slice_get, refl, sym, ap, ◌∙◌, subst, arith}
use Rattle.std.specs.Prelude.{OnOk}
use Rattle.cat_pos.specs.declared.pos.Pos.{Pos}
use Rattle.cat_guard.specs.declared.table.Table.{Table}
use Rattle.cat_guard.specs.declared.table.TableTarget.{TableTarget}
use Rattle.cat_guard.specs.Trees.{Tree, expanded}
use Rattle.cat_walk.specs.Walkable.{IsWalkable}
use Rattle.cat_cert.specs.declared.certificate.CertTree.{CertTree}
use Rattle.cat_cert.specs.declared.refusal.CertRefusal.{CertRefusal}
use Rattle.cat_cert.specs.Uncovered.{everything}
use Rattle.cat_cert.specs.inside.Checkable.{NamesFirst}
use Rattle.cat_dead.specs.declared.judged.JudgedLeaf.{JudgedLeaf}
use Rattle.cat_dead.specs.Leaves.{leaves_judged}
use Rattle.cat_dead.specs.inside.Plain.{plain_node}
use Rattle.cat_dead.specs.inside.Told.{opened, winners_among, IsAdded}
use Rattle.cat_dead.proofs.HeldLaws.{some_same}
use Rattle.cat_dead.proofs.PlainLemmas.{open_lines_are, known, winners}

pub head_is : (heads : List ℕ) → ((h : ℕ) × (heads ≡ h ∷ [])) → (head : ℕ) → slice_get heads 0 ≡ Some head
    → heads ≡ head ∷ []
head_is heads (h, is) head at =
    is ∙ ap (λ (n : ℕ). n ∷ []) (some_same h head (sym (ap (λ (hs : List ℕ). slice_get hs 0) is) ∙ at))

pub head_there : (heads : List ℕ) → ((h : ℕ) × (heads ≡ h ∷ [])) → 0 < length heads
head_there heads (h, is) = let one : length heads ≡ 1 = ap length is in omega (arith, one)

pub tree_there : (o : Option Tree) (atoms room : ℕ) → IsWalkable atoms room o → (w : Tree) × (o ≡ Some w)
tree_there None atoms room walkable = absurd (walkable)
tree_there (Some w) atoms room walkable = (w, refl)

pub some_has : {A : Type 0} (o : Option A) (x : A) (Has : A → Type 0) → o ≡ Some x → Has x → IfSome o Has
some_has {A = A} o x Has is has = subst (λ (p : Option A). IfSome p Has) (sym is) has

module _ (table : Table) (t : TableTarget) (c : CertTree) (head : ℕ) (none : c.tree.names ≡ [])
    (heads : c.heads ≡ head ∷ []) (w : Tree) (is : expanded c.tree ≡ Some w) (leaves : List JudgedLeaf) where
  abbrev pub all : List JudgedLeaf
  all = leaves_judged table.atoms t (everything table.terms) (map plain_node c.tree.main)

  -- what is told of the leaves is told of the tree
  pub added : leaves ≡ all → (old new : List Pos) (r : Result (Unit {0}) CertRefusal)
      → IfErr r (NamesFirst (opened head leaves)) → IfOk r (λ u. opened head leaves ≡ [])
      → OnOk r (new ≡ old ++ winners_among t leaves) → IsAdded table t c old new r
  added are old new (Ok u) first no_line won =
      let lines = open_lines_are table.atoms t (everything table.terms) c head none heads w is in
      let no : opened head all ≡ [] = ap (opened head) (sym are) ∙ no_line in (
        sym lines ∙ no,
        known table.atoms t (everything table.terms) c head none heads w is no,
        won ∙ ap (λ ls. old ++ winners_among t ls) are
            ∙ ap (λ ps. old ++ ps) (winners table.atoms t (everything table.terms) c head none heads w is),
      )
  added are old new (Err why) first no_line won =
      subst (λ (ns : List ℕ). NamesFirst ns why)
      (ap (opened head) are ∙ open_lines_are table.atoms t (everything table.terms) c head none heads w is) first
