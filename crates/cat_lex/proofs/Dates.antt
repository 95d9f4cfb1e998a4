-- Fewer than ten bytes between the bars are no day.
use Rattle.std.proofs.Common.{◌≡◌, ℕ, ◌<◌, false, List, length, take, drop, codes, bytes_eq, refl, arith}
use Rattle.std.specs.Prelude.{None}
use Rattle.std.specs.Result.{result_ok}
use Rattle.std.proofs.lemmas.List.{length-take, length-drop}
use Rattle.cat_date.specs.Text.{form_of, day_of_text}
use Rattle.cat_date.proofs.Exported.{other_length}

pub short_no_day : (word : List ℕ) → length word < 11 → result_ok (day_of_text (take 10 (drop 1 word))) ≡ None
unfolding day_of_text
short_no_day word low =
    let few : length (take 10 (drop 1 word)) < 10 = omega (arith, length-take 10 (drop 1 word), length-drop 1 word) in
    let other : bytes_eq (form_of (take 10 (drop 1 word))) (codes "0000-00-00") ≡ false =
    other_length (take 10 (drop 1 word)) (codes "0000-00-00")
    (λ (e : length (take 10 (drop 1 word)) ≡ 10). absurd (omega (arith, few, e))) in
    rw other refl
