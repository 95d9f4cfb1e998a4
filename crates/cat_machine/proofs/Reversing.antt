-- The last of a list are the first of it from its end.
use Rattle.std.proofs.Common.{◌≡◌, ℕ, ◌-◌, ◌≤◌, List, ◌++◌, length, take, drop, reverse, sym, ap, ◌∙◌, arith}
use Rattle.std.proofs.Common.{length-drop, take-append-drop}
use Rattle.std.proofs.lemmas.List.{length-reverse, reverse-append, reverse-reverse, take_all}
use Rattle.std.proofs.Math.Seq.{take-append_seam}

module _ {A : Type 0} (n : ℕ) (xs : List A) (enough : n ≤ length xs) where
  split : reverse xs ≡ reverse (drop (length xs - n) xs) ++ reverse (take (length xs - n) xs)
  split =
      ap reverse (sym (take-append-drop (length xs - n) xs))
      ∙ reverse-append (take (length xs - n) xs) (drop (length xs - n) xs)

  many : length (reverse (drop (length xs - n) xs)) ≡ n
  many =
      length-reverse (drop (length xs - n) xs)
      ∙ omega (arith, enough, length-drop (length xs - n) xs)

  pub last_are : drop (length xs - n) xs ≡ reverse (take n (reverse xs))
  last_are =
      sym (reverse-reverse (drop (length xs - n) xs))
      ∙ ap reverse (sym (take-append_seam (reverse (drop (length xs - n) xs)) (reverse (take (length xs - n) xs)))
      ∙ ap (λ k. take k (reverse (drop (length xs - n) xs) ++ reverse (take (length xs - n) xs))) many
      ∙ ap (take n) (sym split))

-- the same of a slice from a place on
pub slice_last : {A : Type 0} (n k : ℕ) (xs now : List A) → n ≤ length xs → k ≡ length xs - n → reverse xs ≡ now
    → take (length xs - k) (drop k xs) ≡ reverse (take n now)
slice_last n k xs now enough from seen =
    take_all (length xs - k) (drop k xs) (omega (arith, length-drop k xs))
    ∙ ap (λ j. drop j xs) from
    ∙ last_are n xs enough
    ∙ ap (λ l. reverse (take n l)) seen
