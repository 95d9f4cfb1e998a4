-- Terms have one key exactly where they are one.
use Rattle.std.proofs.Common.{◌≡◌, ◌↔◌, ℕ, nat_eq, true, IsTrue, List, [], ◌∷◌, ◌++◌}
use Rattle.std.proofs.Common.{length, refl, sym, ap, ◌∙◌, true≢false, arith}
use Rattle.std.proofs.lemmas.Bool.Decides.{nat_tests}
use Rattle.cat_region.specs.declared.dim.Dim.{Dim}
use Rattle.cat_region.specs.declared.dim.Dim.TheVariants as dim
use Rattle.cat_scope.specs.SameTree.{same_tree}
use Rattle.cat_sound.proofs.Exported.{test_sound}
use Rattle.cat_region.proofs.Exported.{and-parts, and-both}
use Rattle.cat_guard.specs.Questions.{Question}
use Rattle.cat_guard.specs.Terms.{same_dim, same_term}
use Rattle.cat_audit_keys.specs.Keys.{dim_numbers, key_of, term_key}
use Rattle.cat_audit_keys.proofs.KeyNumbers.{number_at, one_number, one_front}
use Rattle.cat_audit_keys.proofs.KeyLaws.{tells, one_key}

dim_length : (d : Dim) → length (dim_numbers d) ≡ 2
dim_length dim.Whole = refl
dim_length dim.Money = refl
dim_length dim.Day = refl
dim_length dim.Decimal = refl
dim_length dim.Truth = refl
dim_length (dim.Cases n) = refl

dim_told : (c d : Dim) → dim_numbers c ≡ dim_numbers d → same_dim c d ≡ true
dim_told c d e = by c d e (one_number (number_at 0 (dim_numbers c)) (number_at 0 (dim_numbers d)) (ap (number_at 0) e))
  where
    by : (c d : Dim) → dim_numbers c ≡ dim_numbers d
        → nat_eq (number_at 0 (dim_numbers c)) (number_at 0 (dim_numbers d)) ≡ true → same_dim c d ≡ true
    by dim.Whole dim.Whole e k = refl
    by dim.Money dim.Money e k = refl
    by dim.Day dim.Day e k = refl
    by dim.Decimal dim.Decimal e k = refl
    by dim.Truth dim.Truth e k = refl
    by (dim.Cases n) (dim.Cases m) e k = one_number n m (ap (number_at 1) e)
    by _ _ e k = absurd (true≢false (sym k))

dim_key : (c d : Dim) → same_dim c d ≡ true → dim_numbers c ≡ dim_numbers d
dim_key dim.Whole dim.Whole h = refl
dim_key dim.Money dim.Money h = refl
dim_key dim.Day dim.Day h = refl
dim_key dim.Decimal dim.Decimal h = refl
dim_key dim.Truth dim.Truth h = refl
dim_key (dim.Cases n) (dim.Cases m) h = ap (λ (k : ℕ). 5 ∷ k ∷ []) (same_number n m h)
  where
    same_number : (n m : ℕ) → nat_eq n m ≡ true → n ≡ m
    same_number n m h = grind (arith, nat_tests)
dim_key _ _ h = absurd (true≢false (sym h))

has_key : (q r : Question) → IsTrue (same_term q r) → term_key q ≡ term_key r
has_key q r h =
    let two = and-parts (same_tree q.standing r.standing q.expr r.expr) (same_dim q.dim r.dim) h in
    ap (λ (ns : List ℕ). ns ++ key_of q.standing q.expr) (dim_key q.dim r.dim two.1)
    ∙ ap (λ (ns : List ℕ). dim_numbers r.dim ++ ns)
    (one_key q.standing r.standing (test_sound q.standing r.standing q.expr r.expr two.0))

has_term : (q r : Question) → term_key q ≡ term_key r → IsTrue (same_term q r)
has_term q r e =
    let two = one_front (dim_numbers q.dim) (dim_numbers r.dim) (key_of q.standing q.expr) (key_of r.standing r.expr)
    (dim_length q.dim ∙ sym (dim_length r.dim)) e in
    let told = tells q.standing r.standing q.expr r.expr [] [] (ap (λ (k : List ℕ). k ++ []) two.1) in
    and-both (same_tree q.standing r.standing q.expr r.expr) (same_dim q.dim r.dim) told.0
    (dim_told q.dim r.dim two.0)

pub one_term : (q r : Question) → IsTrue (same_term q r) ↔ (term_key q ≡ term_key r)
one_term q r = (has_key q r, has_term q r)

pub ruleset keys_tell = (one_term)
