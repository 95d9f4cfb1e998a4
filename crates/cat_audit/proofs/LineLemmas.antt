-- Lines of targets that are made one after the other.
use Rattle.std.proofs.Common.{◌≡◌, ℕ, zero, suc, List, [], ◌∷◌, ◌++◌, map, take, drop}
use Rattle.std.proofs.Common.{Some, slice_get, refl, sym, ap, ◌∙◌}
use Rattle.cat_scope.specs.declared.programs.Program.{Program}
use Rattle.cat_scope.specs.Names.{AllHave}
use Rattle.cat_guard.specs.declared.table.Table.{Table}
use Rattle.cat_guard.specs.declared.table.TableTarget.{TableTarget}
use Rattle.cat_guard.specs.declared.tree.CaseTree.{CaseTree}
use Rattle.cat_scope.proofs.Exported.{append_append}
use Rattle.cat_sound.proofs.Exported.{same_some}
use Rattle.cat_audit.specs.declared.finding.TargetLine.{TargetLine}
use Rattle.cat_audit.specs.Causes.{HasCause}
use Rattle.cat_audit.specs.Lines.{IsLineOf}
use Rattle.cat_audit.specs.declared.report.NamedLine.{NamedLine}
use Rattle.cat_audit.specs.Sections.{AreLinesOf, named_lines}
use Rattle.cat_scope.proofs.Exported.{map_append}

-- the lines of the first targets of a table, whose trees go behind others
pub record AreLinesTo (program : Program) (table : Table) (budget : ℕ) (targets : List TableTarget)
    (old new : List CaseTree) (lines : List NamedLine) : Type 0 where
  pub made : List TargetLine
  pub made_are : AreLinesOf program table budget targets made
  pub lines_are : lines ≡ named_lines targets made
  pub trees_are : new ≡ old ++ map (λ l. l.tree) made

module _ (program : Program) (table : Table) (budget : ℕ) where
  lines_push : (targets : List TableTarget) (made : List TargetLine) (t : TableTarget) (m : TargetLine)
      → AreLinesOf program table budget targets made → IsLineOf program table t budget m
      → HasCause program table t budget m.tree.nodes m.line
      → AreLinesOf program table budget (targets ++ t ∷ []) (made ++ m ∷ [])
  lines_push [] [] t m are is cause = (is, cause, tt)
  lines_push [] (n ∷ made) t m are is cause = elim are [ ]
  lines_push (u ∷ targets) [] t m are is cause = elim are [ ]
  lines_push (u ∷ targets) (n ∷ made) t m are is cause =
      (are.0, are.1, lines_push targets made t m are.2 is cause)

  named_push : (targets : List TableTarget) (made : List TargetLine) (t : TableTarget) (m : TargetLine)
      → AreLinesOf program table budget targets made
      → named_lines (targets ++ t ∷ []) (made ++ m ∷ [])
      ≡ named_lines targets made ++ record { name = t.name; line = m.line } ∷ []
  named_push [] [] t m are = refl
  named_push [] (n ∷ made) t m are = elim are [ ]
  named_push (u ∷ targets) [] t m are = elim are [ ]
  named_push (u ∷ targets) (n ∷ made) t m are =
      ap (λ (ls : List NamedLine). record { name = u.name; line = n.line } ∷ ls) (named_push targets made t m are.2)

  pub one_line : (targets : List TableTarget) (old new : List CaseTree) (lines : List NamedLine)
      → AreLinesTo program table budget targets old new lines → (t : TableTarget) (m : TargetLine)
      → IsLineOf program table t budget m → HasCause program table t budget m.tree.nodes m.line
      → AreLinesTo program table budget (targets ++ t ∷ []) old (new ++ m.tree ∷ [])
      (lines ++ record { name = t.name; line = m.line } ∷ [])
  one_line targets old new lines are t m is cause = record {
    made = are.made ++ m ∷ [];
    made_are = lines_push targets are.made t m are.made_are is cause;
    lines_are = ap (λ (ls : List NamedLine). ls ++ record { name = t.name; line = m.line } ∷ []) are.lines_are
        ∙ sym (named_push targets are.made t m are.made_are);
    trees_are = ap (λ (cs : List CaseTree). cs ++ m.tree ∷ []) are.trees_are
        ∙ append_append old (map (λ l. l.tree) are.made) (m.tree ∷ [])
        ∙ ap (λ (cs : List CaseTree). old ++ cs) (sym (map_append (λ (l : TargetLine). l.tree) are.made (m ∷ [])));
  }

-- the front of a list with its next element
pub take_next : {A : Type 0} (xs : List A) (i : ℕ) (x : A) → slice_get xs i ≡ Some x
    → take (suc i) xs ≡ take i xs ++ x ∷ []
take_next [] i x e = absurd (cc)
take_next (y ∷ xs) zero x e = ap (λ z. z ∷ []) (same_some y x e)
take_next (y ∷ xs) (suc i) x e = ap (λ zs. y ∷ zs) (take_next xs i x e)

-- a list before and behind the element at an index
pub split_get : {A : Type 0} (xs : List A) (i : ℕ) (x : A) → slice_get xs i ≡ Some x
    → xs ≡ take i xs ++ x ∷ drop (suc i) xs
split_get [] i x e = absurd (cc)
split_get (y ∷ xs) zero x e = ap (λ z. z ∷ xs) (same_some y x e)
split_get (y ∷ xs) (suc i) x e = ap (λ zs. y ∷ zs) (split_get xs i x e)

-- what holds of each holds of each of a front
pub have_front : {A : Type 0} (P : A → Type 0) (i : ℕ) (xs : List A) → AllHave P xs → AllHave P (take i xs)
have_front P zero xs h = tt
have_front P (suc i) [] h = tt
have_front P (suc i) (x ∷ xs) h = (h.0, have_front P i xs h.1)
