-- Names without a line feed are lines.
use Rattle.std.proofs.Common.{◌≡◌, ◌∙◌, ℕ, Bool, true, false, List, [], ◌∷◌, IsTrue, refl, ap}
use Rattle.std.specs.Prelude.{not, ◌&&◌, ◌||◌, ◌==◌}
use Rattle.std.specs.List.{list_all, list_any}
use Rattle.std.specs.Str.{IsUtf8}
use Rattle.std.proofs.lemmas.Str.{is_utf8-from_IsUtf8}
use Rattle.cat_image.specs.Listed.{is_line}

one_more : (a b c : Bool) → (a || b) ≡ false → (b ≡ false → c ≡ true) → (not a && c) ≡ true
one_more true b c e later = cc e
one_more false b c e later = later e

none_all : (p : ℕ → Bool) (xs : List ℕ) → list_any p xs ≡ false → list_all (λ x. not (p x)) xs ≡ true
none_all p [] e = refl
none_all p (x ∷ xs) e = one_more (p x) (list_any p xs) (list_all (λ y. not (p y)) xs) e (none_all p xs)

pub lined : (text : List ℕ) → IsUtf8 text → list_any (λ byte. byte == 10) text ≡ false → IsTrue (is_line text)
lined text utf8 none =
    ap (λ b. b && list_all (λ byte. not (byte == 10)) text) (is_utf8-from_IsUtf8 text utf8)
    ∙ none_all (λ byte. byte == 10) text none
