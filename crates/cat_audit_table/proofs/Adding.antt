-- What is made of questions by their numbers stays so when more come behind.
use Rattle.std.proofs.Common.{◌≡◌, ℕ, Bool, List, [], ◌++◌, Result, Ok, Err, IfOk, refl, sym, ap, ◌∙◌, subst}
use Rattle.std.proofs.lemmas.List.{append_assoc, append-nil}
use Rattle.cat_value.specs.declared.declaration.ItemDecl.{ItemDecl}
use Rattle.cat_guard.specs.declared.guard.Guard.{Guard}
use Rattle.cat_guard.specs.declared.guard.Guard.TheVariants as leaf
use Rattle.cat_guard.specs.declared.guard.Guard.TheViews as guard
use Rattle.cat_guard.specs.Formulas.{Formula, asked, renamed}
use Rattle.cat_guard.specs.Formulas as formula
use Rattle.cat_guard.specs.Questions.{Question}
use Rattle.cat_guard.specs.Terms.{atom_number}
use Rattle.cat_guard.specs.Tables.{guard_tree}
use Rattle.cat_audit_table.specs.declared.numbering.Numbering.{Numbering}
use Rattle.cat_audit_table.specs.Numbered.{IsNumberingOf, AddsTerm, AddsAtom, Grows, IsMade, AddsGuard}

pub if_ok : {A E : Type 0} {P Q : A → Type 0} (r : Result A E) → ((a : A) → P a → Q a) → IfOk r P → IfOk r Q
if_ok (Ok a) go is = go a is
if_ok (Err e) go is = tt

module _ (items : List ItemDecl) where
  pub grows_none : (before : Numbering) → Grows items [] before before
  grows_none before qs are = subst (λ (xs : List Question). IsNumberingOf items xs before) (sym (append-nil qs)) are

  pub grows_then : (new more : List Question) (before middle after : Numbering) → Grows items new before middle
      → Grows items more middle after → Grows items (new ++ more) before after
  grows_then new more before middle after first second qs are =
      subst (λ (xs : List Question). IsNumberingOf items xs after) (append_assoc qs new more)
      (second (qs ++ new) (first qs are))

  pub made_front : {A : Type 0} (new more : List Question) (make : List Question → A) (before : Numbering) (made : A)
      → IsMade items new make before made → IsMade items (new ++ more) make before made
  made_front new more make before made is qs rest are =
      is qs (more ++ rest) are
      ∙ ap (λ (xs : List Question). make (qs ++ xs)) (sym (append_assoc new more rest))

  pub made_back : {A : Type 0} (new more : List Question) (make : List Question → A) (before middle : Numbering)
      (made : A) → Grows items new before middle → IsMade items more make middle made
      → IsMade items (new ++ more) make before made
  made_back new more make before middle made grows is qs rest are =
      is (qs ++ new) rest (grows qs are)
      ∙ ap make (append_assoc qs new (more ++ rest)
      ∙ ap (λ (xs : List Question). qs ++ xs) (sym (append_assoc new more rest)))

  -- ---- formulas

  abbrev the_guard : Formula Question → List Question → Guard
  the_guard f qs = guard_tree (renamed (atom_number qs) f)

  pub adds_constant : (b : Bool) (before : Numbering)
      → AddsGuard items (formula.Constant b) before before (leaf.Constant b)
  adds_constant b before = record { grown = grows_none before; guard_is = λ qs rest are. refl }

  pub adds_atom : (q : Question) (before after : Numbering) (term number : ℕ)
      → AddsTerm items q before.terms after.terms term → AddsAtom q term before.atoms after.atoms number
      → AddsGuard items (formula.Atom q) before after (leaf.Atom number)
  adds_atom q before after term number t a = record {
    grown = λ qs are. record {
      terms = t.grown qs are.terms;
      atoms = a.grown qs (t.number_is qs are.terms) are.atoms;
    };
    guard_is = λ qs rest are. ap leaf.Atom (a.number_is qs rest (t.number_is qs are.terms) are.atoms);
  }

  pub adds_not : (f : Formula Question) (before after : Numbering) (inner outer : Guard)
      → AddsGuard items f before after inner → outer ≡ guard.Not inner
      → AddsGuard items (formula.Not f) before after outer
  adds_not f before after inner outer is e = record {
    grown = is.grown;
    guard_is = λ qs rest are. e ∙ ap guard.Not (is.guard_is qs rest are);
  }

  module _ (f g : Formula Question) (before middle after : Numbering) (left right : Guard)
      (is : AddsGuard items f before middle left) (also : AddsGuard items g middle after right) where
    grown_both : Grows items (asked f ++ asked g) before after
    grown_both = grows_then (asked f) (asked g) before middle after is.grown also.grown

    left_is : IsMade items (asked f ++ asked g) (the_guard f) before left
    left_is = made_front (asked f) (asked g) (the_guard f) before left is.guard_is

    right_is : IsMade items (asked f ++ asked g) (the_guard g) before right
    right_is = made_back (asked f) (asked g) (the_guard g) before middle right is.grown also.guard_is

    pub adds_both : (outer : Guard) → outer ≡ guard.Both left right
        → AddsGuard items (formula.Both f g) before after outer
    adds_both outer e = record {
      grown = grown_both;
      guard_is = λ qs rest are. e ∙ ap (λ x. guard.Both x right) (left_is qs rest are)
          ∙ ap (guard.Both (the_guard f (qs ++ ((asked f ++ asked g) ++ rest)))) (right_is qs rest are);
    }

    pub adds_either : (outer : Guard) → outer ≡ guard.Either left right
        → AddsGuard items (formula.Either f g) before after outer
    adds_either outer e = record {
      grown = grown_both;
      guard_is = λ qs rest are. e ∙ ap (λ x. guard.Either x right) (left_is qs rest are)
          ∙ ap (guard.Either (the_guard f (qs ++ ((asked f ++ asked g) ++ rest)))) (right_is qs rest are);
    }

    pub adds_differ : (outer : Guard) → outer ≡ guard.Differ left right
        → AddsGuard items (formula.Differ f g) before after outer
    adds_differ outer e = record {
      grown = grown_both;
      guard_is = λ qs rest are. e ∙ ap (λ x. guard.Differ x right) (left_is qs rest are)
          ∙ ap (guard.Differ (the_guard f (qs ++ ((asked f ++ asked g) ++ rest)))) (right_is qs rest are);
    }

    module _ (h : Formula Question) (last : Numbering) (third : Guard)
        (too : AddsGuard items h after last third) where
      third_is : IsMade items ((asked f ++ asked g) ++ asked h) (the_guard h) before third
      third_is = made_back (asked f ++ asked g) (asked h) (the_guard h) before after third grown_both too.guard_is

      first_is : IsMade items ((asked f ++ asked g) ++ asked h) (the_guard f) before left
      first_is = made_front (asked f ++ asked g) (asked h) (the_guard f) before left left_is

      second_is : IsMade items ((asked f ++ asked g) ++ asked h) (the_guard g) before right
      second_is = made_front (asked f ++ asked g) (asked h) (the_guard g) before right right_is

      abbrev whole : List Question → List Question → List Question
      whole qs rest = qs ++ (((asked f ++ asked g) ++ asked h) ++ rest)

      pub adds_choice : (outer : Guard) → outer ≡ guard.Choice left right third
          → AddsGuard items (formula.Choice f g h) before last outer
      adds_choice outer e = record {
        grown = grows_then (asked f ++ asked g) (asked h) before after last grown_both too.grown;
        guard_is = λ qs rest are. e ∙ ap (λ x. guard.Choice x right third) (first_is qs rest are)
            ∙ ap (λ x. guard.Choice (the_guard f (whole qs rest)) x third) (second_is qs rest are)
            ∙ ap (guard.Choice (the_guard f (whole qs rest)) (the_guard g (whole qs rest))) (third_is qs rest are);
      }

pub ruleset steps = (adds_constant, adds_atom, adds_not, adds_both, adds_either, adds_differ, adds_choice)
