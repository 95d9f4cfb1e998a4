-- Texts of lines that a reader of certificates passes over.
use Rattle.std.proofs.Common.{◌≡◌, ◌&&◌, ℕ, Bool, true, false, not, List, [], ◌∷◌, ◌++◌, take, length}
use Rattle.std.proofs.Common.{refl, sym, ap, ◌∙◌, append_assoc, zero, suc}
use Rattle.std.specs.List.{list_all}
use Rattle.std.specs.Cmp.Lexicographic.{same_text}
use Rattle.cat_cert.specs.Lines.{first_words}
use Rattle.cat_cert.specs.Texts.{is_first, is_line, text_of}
use Rattle.cat_audit.specs.ReportTexts.{line_before}
use Rattle.cat_laws.specs.Unbroken.{is_inner, is_unbroken}
use Rattle.cat_laws.proofs.TableNames.{both, first_of, line_of, second_of}

-- a line with which no certificate begins
abbrev pub is_passed : List ℕ → Bool
is_passed line = is_line line && not (is_first line)

-- a text of such lines
pub record IsPassed (text : List ℕ) : Type 0 where
  pub lines : List (List ℕ)
  pub text_is : text ≡ text_of lines
  pub passed : list_all is_passed lines ≡ true

-- ---- a line without a hyphen is one

front_inner : (n : ℕ) (xs : List ℕ) → is_unbroken xs ≡ true → is_unbroken (take n xs) ≡ true
front_inner zero [] h = refl
front_inner zero (x ∷ xs) h = refl
front_inner (suc n) [] h = refl
front_inner (suc n) (x ∷ xs) h =
    both (is_inner x) (is_unbroken (take n xs)) (first_of (is_inner x) (is_unbroken xs) h)
    (front_inner n xs (second_of (is_inner x) (is_unbroken xs) h))

no_first : (line : List ℕ) → is_unbroken line ≡ true → is_first line ≡ true → false ≡ true
no_first line h first =
    let same = same_text first_words (take (length first_words) line) (sym first) in
    ap is_unbroken same ∙ front_inner (length first_words) line h

not_of : (b : Bool) → (b ≡ true → false ≡ true) → not b ≡ true
not_of true h = h refl
not_of false h = refl

pub passed_of : (line : List ℕ) → is_unbroken line ≡ true → is_passed line ≡ true
passed_of line h = both (is_line line) (not (is_first line)) (line_of line h) (not_of (is_first line) (no_first line h))

-- ---- texts of such lines

pub passed_none : IsPassed []
passed_none = record { lines = []; text_is = refl; passed = refl }

pub passed_line : (line text : List ℕ) → is_passed line ≡ true → IsPassed text → IsPassed (line_before line text)
passed_line line text is more = record {
  lines = line ∷ more.lines;
  text_is = ap (λ (t : List ℕ). line ++ 10 ∷ t) more.text_is;
  passed = both (is_passed line) (list_all is_passed more.lines) is more.passed;
}

lines_both : (xs ys : List (List ℕ)) → text_of (xs ++ ys) ≡ text_of xs ++ text_of ys
lines_both [] ys = refl
lines_both (x ∷ xs) ys =
    ap (λ (t : List ℕ). x ++ 10 ∷ t) (lines_both xs ys) ∙ sym (append_assoc x (10 ∷ text_of xs) (text_of ys))

all_passed : (xs ys : List (List ℕ)) → list_all is_passed xs ≡ true → list_all is_passed ys ≡ true
    → list_all is_passed (xs ++ ys) ≡ true
all_passed [] ys one two = two
all_passed (x ∷ xs) ys one two =
    both (is_passed x) (list_all is_passed (xs ++ ys)) (first_of (is_passed x) (list_all is_passed xs) one)
    (all_passed xs ys (second_of (is_passed x) (list_all is_passed xs) one) two)

pub passed_both : (text more : List ℕ) → IsPassed text → IsPassed more → IsPassed (text ++ more)
passed_both text more one two = record {
  lines = one.lines ++ two.lines;
  text_is = ap (λ (t : List ℕ). t ++ more) one.text_is ∙ ap (λ (t : List ℕ). text_of one.lines ++ t) two.text_is
      ∙ sym (lines_both one.lines two.lines);
  passed = all_passed one.lines two.lines one.passed two.passed;
}
