use Rattle.std.proofs.Common.{◌≡◌, ℕ, List, true, false, ◌+◌, min, drop, get_or, sym, ap, ◌∙◌, arith}
use Rattle.std.specs.Char.{is_ascii_digit}
use Rattle.std.specs.List.{filter}
use Rattle.std.specs.Str.Parse.{digits_value_after}
use Rattle.cat_lex.proofs.Numbers.{digit_more, other_more}
use Rattle.cat_lex.proofs.values.capped_number.Goals as goal
use Rattle.cat_lex.proofs.values.capped_number.Goals.{then-is_ascii_digit, else-is_ascii_digit}

abbrev cap : ℕ
cap = 0x1_0000_0000_0000_0000

pub loop-byte-preserved : goal.loop-byte-preserved
loop-byte-preserved c =
    let word = c.args.word.now in
    let i = c.loop-byte.byte-index in
    let n = c.loop-byte.number in
    elim c.if-is_ascii_digit.branch [
      | then-is_ascii_digit w ↦
          let digit : is_ascii_digit (get_or word i 0) ≡ true =
          sym c.is_ascii_digit.ensures.value ∙ w.if-is_ascii_digit.true in
          let step = digit_more word cap n i c.loop-byte-test.true digit in
          record {
            number = ap (λ (m : ℕ). min (digits_value_after 10 m (filter is_ascii_digit (drop (i + 1) word))) cap)
                (w.number-is ∙ w.min-number.ensures) ∙ (step ∙ c.loop-byte.invariant.number);
            low = omega arith;
          }
      | else-is_ascii_digit w ↦
          let other : is_ascii_digit (get_or word i 0) ≡ false =
          sym c.is_ascii_digit.ensures.value ∙ w.if-is_ascii_digit.false in
          record {
            number = ap (λ (m : ℕ). min (digits_value_after 10 m (filter is_ascii_digit (drop (i + 1) word))) cap)
                w.number-is
                ∙ (ap (λ (ds : List ℕ). min (digits_value_after 10 n ds) cap)
                (other_more word i c.loop-byte-test.true other) ∙ c.loop-byte.invariant.number);
            low = omega arith;
          }
    ]
