-- The definitions of a scope stand at their numbers, where these differ.
use Rattle.std.proofs.Common.{◌≡◌, ℕ, zero, suc, Bool, true, false, true≢false, not, nat_eq, List, [], ◌∷◌, ◌++◌}
use Rattle.std.proofs.Common.{map, Option, Some, None, refl, sym, ap, ◌∙◌, subst, slice_get}
use Rattle.std.proofs.lemmas.Bool.{eq-eqb}
use Rattle.cat_pos.specs.declared.pos.Pos.{Pos}
use Rattle.cat_scope.specs.declared.expr.Expr.{Expr}
use Rattle.cat_scope.specs.Judging.{Held}
use Rattle.cat_scope.specs.Names.{AllHave, all_differ, is_in}
use Rattle.cat_sound.proofs.Exported.{all_back, all_front}
use Rattle.cat_calc.specs.declared.term.DefaultTerm.{DefaultTerm}
use Rattle.cat_calc.specs.declared.calcs.ItemTerms.{ItemTerms}
use Rattle.cat_calc.specs.Terms.{consequences_in, numbers_in}
use Rattle.cat_calc.specs.Reducing.{term_among}
use Rattle.cat_calc.specs.WellFormed.{all_terms, numbers_in_all, definition_numbers}
use Rattle.cat_lower.specs.Definitions.{placed, all_placed, terms_placed, definitions_of}
use Rattle.cat_lower.proofs.TypesAgree.{both_so}

stands_there : (n : ℕ) (p : Pos) (ps : List Pos) → slice_get (placed n p ps) n ≡ Some p
stands_there zero p [] = refl
stands_there zero p (q ∷ ps) = refl
stands_there (suc n) p [] = stands_there n p []
stands_there (suc n) p (q ∷ ps) = stands_there n p ps

kept_one : (n : ℕ) (p : Pos) (ps : List Pos) (m : ℕ) (q : Pos) → (m ≡ n → ⊥) → slice_get ps m ≡ Some q
    → slice_get (placed n p ps) m ≡ Some q
kept_one n p [] m q other is = absurd (cc is)
kept_one zero p (r ∷ ps) zero q other is = absurd (other refl)
kept_one zero p (r ∷ ps) (suc m) q other is = is
kept_one (suc n) p (r ∷ ps) zero q other is = is
kept_one (suc n) p (r ∷ ps) (suc m) q other is = kept_one n p ps m q (λ e. other (ap suc e)) is

-- the numbers of some definitions
abbrev numbers : List (Held Expr) → List ℕ
numbers hs = map (λ h. h.number) hs

alike : (m : ℕ) → nat_eq m m ≡ true
alike m = eq-eqb m m refl

kept_all : (hs : List (Held Expr)) (ps : List Pos) (m : ℕ) (q : Pos) → is_in m (numbers hs) ≡ false
    → slice_get ps m ≡ Some q
    → slice_get (all_placed hs ps) m ≡ Some q
kept_all [] ps m q out is = is
kept_all (h ∷ hs) ps m q out is = by (nat_eq m h.number) refl (kept_all hs)
  where
    by : (b : Bool) → nat_eq m h.number ≡ b
        → ((ps : List Pos) (m : ℕ) (q : Pos) → is_in m (numbers hs) ≡ false → slice_get ps m ≡ Some q
        → slice_get (all_placed hs ps) m ≡ Some q)
        → slice_get (all_placed (h ∷ hs) ps) m ≡ Some q
    by true e again = let told : true ≡ false = rw e at out in absurd (true≢false told)
    by false e again =
        let told : is_in m (numbers hs) ≡ false = rw e at out in
        again (placed h.number h.pos ps) m q told
        (kept_one h.number h.pos ps m q
        (λ same. let told : nat_eq m m ≡ false = ap (λ i. nat_eq m i) same ∙ e in true≢false (sym (alike m) ∙ told))
        is)

is_out : (b : Bool) → not b ≡ true → b ≡ false
is_out true e = absurd (true≢false (sym e))
is_out false e = refl

-- definitions whose numbers differ stand at them
pub placed_all : (hs : List (Held Expr)) (ps : List Pos) → all_differ (numbers hs) ≡ true
    → AllHave (λ h. slice_get (all_placed hs ps) h.number ≡ Some h.pos) hs
placed_all [] ps differ = tt
placed_all (h ∷ hs) ps differ =
    let parts = both_so (not (is_in h.number (numbers hs))) (all_differ (numbers hs)) differ in (
      kept_all hs (placed h.number h.pos ps) h.number h.pos (is_out (is_in h.number (numbers hs)) parts.0)
          (stands_there h.number h.pos ps),
      placed_all hs (placed h.number h.pos ps) parts.1,
    )

-- the definitions of some terms, and of the terms of items
abbrev pub in_terms : List DefaultTerm → List (Held Expr)
in_terms [] = []
in_terms (t ∷ ts) = consequences_in t ++ in_terms ts

abbrev pub in_items : List ItemTerms → List (Held Expr)
in_items [] = []
in_items (terms ∷ rest) = in_terms (all_terms terms) ++ in_items rest

placed_append : (xs ys : List (Held Expr)) (ps : List Pos) → all_placed (xs ++ ys) ps ≡ all_placed ys (all_placed xs ps)
placed_append [] ys ps = refl
placed_append (x ∷ xs) ys ps = placed_append xs ys (placed x.number x.pos ps)

terms_are : (ts : List DefaultTerm) (ps : List Pos) → terms_placed ts ps ≡ all_placed (in_terms ts) ps
terms_are [] ps = refl
terms_are (t ∷ ts) ps =
    terms_are ts (all_placed (consequences_in t) ps) ∙ sym (placed_append (consequences_in t) (in_terms ts) ps)

items_are : (terms : List ItemTerms) (ps : List Pos) → definitions_of terms ps ≡ all_placed (in_items terms) ps
items_are [] ps = refl
items_are (t ∷ rest) ps =
    items_are rest (terms_placed (all_terms t) ps)
    ∙ ap (λ l. all_placed (in_items rest) l) (terms_are (all_terms t) ps)
    ∙ sym (placed_append (in_terms (all_terms t)) (in_items rest) ps)

numbers_append : (xs ys : List (Held Expr)) → numbers (xs ++ ys) ≡ numbers xs ++ numbers ys
numbers_append [] ys = refl
numbers_append (x ∷ xs) ys = ap (λ (l : List ℕ). x.number ∷ l) (numbers_append xs ys)

terms_numbers : (ts : List DefaultTerm) → numbers (in_terms ts) ≡ numbers_in_all ts
terms_numbers [] = refl
terms_numbers (t ∷ ts) =
    numbers_append (consequences_in t) (in_terms ts) ∙ ap (λ (l : List ℕ). numbers_in t ++ l) (terms_numbers ts)

items_numbers : (terms : List ItemTerms) → numbers (in_items terms) ≡ definition_numbers terms
items_numbers [] = refl
items_numbers (t ∷ rest) =
    numbers_append (in_terms (all_terms t)) (in_items rest)
    ∙ ap (λ (l : List ℕ). l ++ numbers (in_items rest)) (terms_numbers (all_terms t))
    ∙ ap (λ (l : List ℕ). numbers_in_all (all_terms t) ++ l) (items_numbers rest)

-- all definitions of a scope, where their numbers differ
pub definitions_stand : (terms : List ItemTerms) → all_differ (definition_numbers terms) ≡ true
    → AllHave (λ h. slice_get (definitions_of terms []) h.number ≡ Some h.pos) (in_items terms)
definitions_stand terms differ =
    subst (λ (l : List Pos). AllHave (λ h. slice_get l h.number ≡ Some h.pos) (in_items terms))
    (sym (items_are terms []))
    (placed_all (in_items terms) [] (ap (λ (l : List ℕ). all_differ l) (items_numbers terms) ∙ differ))

of_terms : (P : Held Expr → Type 0) (ts : List DefaultTerm) (n : ℕ) (term : DefaultTerm) → slice_get ts n ≡ Some term
    → AllHave P (in_terms ts) → AllHave P (consequences_in term)
of_terms P [] n term is h = absurd (cc is)
of_terms P (t ∷ ts) zero term is h =
    let same : t ≡ term = cc is in
    subst (λ t. AllHave P (consequences_in t)) same (all_front P (consequences_in t) (in_terms ts) h)
of_terms P (t ∷ ts) (suc n) term is h = of_terms P ts n term is (all_back P (consequences_in t) (in_terms ts) h)

-- what holds of all definitions of a scope holds of those of a target
pub of_target : (P : Held Expr → Type 0) (terms : List ItemTerms) (item : ℕ) (inner : Option ℕ) (term : DefaultTerm)
    → term_among (slice_get terms item) inner ≡ Some term → AllHave P (in_items terms)
    → AllHave P (consequences_in term)
of_target P [] item None term is h = absurd (cc is)
of_target P [] item (Some n) term is h = absurd (cc is)
of_target P (t ∷ rest) zero None term is h =
    of_terms P (all_terms t) 0 term is (all_front P (in_terms (all_terms t)) (in_items rest) h)
of_target P (t ∷ rest) zero (Some n) term is h =
    of_terms P (all_terms t) (suc n) term is (all_front P (in_terms (all_terms t)) (in_items rest) h)
of_target P (t ∷ rest) (suc item) inner term is h =
    of_target P rest item inner term is (all_back P (in_terms (all_terms t)) (in_items rest) h)
