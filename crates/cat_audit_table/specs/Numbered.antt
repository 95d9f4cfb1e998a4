-- The terms and the atoms of some questions as tables have them, and what questions that come behind add.
use Rattle.std.specs.Prelude.{◌≡◌, ℕ, List, [], ◌∷◌, ◌++◌, map}
use Rattle.cat_value.specs.declared.declaration.ItemDecl.{ItemDecl}
use Rattle.cat_region.specs.declared.dim.Dim.{Dim}
use Rattle.cat_region.specs.declared.cut.Cut.{Cut}
use Rattle.cat_scope.specs.declared.expr.Expr.{Expr}
use Rattle.cat_scope.specs.Same.{Standing}
use Rattle.cat_guard.specs.declared.guard.Guard.{Guard}
use Rattle.cat_guard.specs.Formulas.{Formula, asked, renamed}
use Rattle.cat_guard.specs.Questions.{Question, guard_of}
use Rattle.cat_guard.specs.Numbering.{firsts}
use Rattle.cat_guard.specs.Terms.{same_term, same_question, terms_of, term_number, atoms_of, atom_number}
use Rattle.cat_guard.specs.Tables.{guard_tree}
use Rattle.cat_audit_keys.specs.Keys.{term_key}
use Rattle.cat_audit_keys.specs.Atoms.{atom_key}
use Rattle.cat_audit_keys.specs.Standings.{standing}
use Rattle.cat_audit_table.specs.declared.here.ConditionContext.{ConditionContext}
use Rattle.cat_audit_table.specs.declared.term_table.TermTable.{TermTable}
use Rattle.cat_audit_table.specs.declared.atom_table.AtomTable.{AtomTable}
use Rattle.cat_audit_table.specs.declared.numbering.Numbering.{Numbering}

-- the items of the scope, and in whose definitions conditions stand
abbrev pub items_at : ConditionContext → List ItemDecl
items_at here = here.items.now

-- what an expression there stands in
abbrev pub standing_at : ConditionContext → Standing
standing_at here = standing here.place.function here.place.params

-- a question on an expression that stands there, and the guard of an expression
abbrev pub question_at : ConditionContext → Expr → Dim → Cut → Question
question_at here e d c = record { standing = standing_at here; expr = e; dim = d; cut = c }

-- the guard that an expression there is
abbrev pub guard_at : ConditionContext → Expr → Formula Question
guard_at here e = guard_of here.decls.now (standing_at here) e

-- a table has the terms of some questions of a scope with these items, and their keys
pub record AreTermsOf (items : List ItemDecl) (qs : List Question) (table : TermTable) : Type 0 where
  pub terms_are : table.terms ≡ terms_of items qs
  pub keys_are : table.keys ≡ map term_key (firsts same_term [] qs)

-- the key of the atom that a question is, by the number of its term among those of some questions
abbrev pub key_in : List Question → Question → List ℕ
key_in qs q = atom_key (term_number qs q) q.cut

-- a table has the atoms of some questions, and their keys
pub record AreAtomsOf (qs : List Question) (table : AtomTable) : Type 0 where
  pub atoms_are : table.atoms ≡ atoms_of qs
  pub keys_are : table.keys ≡ map (key_in qs) (firsts same_question [] qs)

-- the terms and the atoms of some questions
pub record IsNumberingOf (items : List ItemDecl) (qs : List Question) (numbering : Numbering) : Type 0 where
  pub terms : AreTermsOf items qs numbering.terms
  pub atoms : AreAtomsOf qs numbering.atoms

-- one question more, whose term has that number
pub record AddsTerm (items : List ItemDecl) (q : Question) (before after : TermTable) (number : ℕ) : Type 0 where
  pub grown : (qs : List Question) → AreTermsOf items qs before → AreTermsOf items (qs ++ q ∷ []) after
  pub number_is : (qs : List Question) → AreTermsOf items qs before → number ≡ term_number (qs ++ q ∷ []) q

-- one question more, of the term of a number, whose atom has that number, whatever comes behind
pub record AddsAtom (q : Question) (term : ℕ) (before after : AtomTable) (number : ℕ) : Type 0 where
  pub grown : (qs : List Question) → term ≡ term_number (qs ++ q ∷ []) q → AreAtomsOf qs before
      → AreAtomsOf (qs ++ q ∷ []) after
  pub number_is : (qs rest : List Question) → term ≡ term_number (qs ++ q ∷ []) q → AreAtomsOf qs before
      → number ≡ atom_number (qs ++ q ∷ rest) q

-- some questions more
abbrev pub Grows : List ItemDecl → List Question → Numbering → Numbering → Type 0
Grows items new before after = (qs : List Question) → IsNumberingOf items qs before
    → IsNumberingOf items (qs ++ new) after

-- something is what is made of all questions, whatever comes behind the new ones
abbrev pub IsMade : {A : Type 0} → List ItemDecl → List Question → (List Question → A) → Numbering → A → Type 0
IsMade items new make before made = (qs rest : List Question) → IsNumberingOf items qs before
    → made ≡ make (qs ++ (new ++ rest))

-- the questions of a formula more, and the formula as a guard over the numbers of its atoms
pub record AddsGuard (items : List ItemDecl) (f : Formula Question) (before after : Numbering) (guard : Guard)
    : Type 0 where
  pub grown : Grows items (asked f) before after
  pub guard_is : IsMade items (asked f) (λ qs. guard_tree (renamed (atom_number qs) f)) before guard
