use Rattle.std.proofs.Common.{◌∙◌, ◌≤◌, ◌<◌, ap, sym, subst, ℤ, ℕ, unsigned_abs, arith}
use Rattle.std.proofs.lemmas.Int.{to_z-of_z, fits_signed_from_abs}
use mir.Syntax.{w128}
use Rattle.cat_num.specs.Whole.{largest}
use Rattle.cat_num.specs.Frac.{lowest}
use Rattle.cat_region.proofs.PointLemmas.{good-decimal}
use Rattle.cat_region.proofs.choice.decimal_in.Goals as goal

pub fraction-requires : goal.fraction-requires
fraction-requires c =
    let good = good-decimal c.args.range c.requires.low c.requires.high c.requires.some in
    let num : unsigned_abs c.decimal_parts-num.result.0 ≤ largest =
    subst (λ (x : ℤ × ℕ). unsigned_abs x.0 ≤ largest) (sym c.decimal_parts-num.ensures) good.0 in
    record {
      num = subst (λ (n : ℤ). unsigned_abs n ≤ largest)
          (sym (to_z-of_z w128 c.decimal_parts-num.result.0
          (fits_signed_from_abs w128 c.decimal_parts-num.result.0 (omega arith)))) num;
      some = subst (λ (x : ℤ × ℕ). 0 < x.1) (sym c.decimal_parts-num.ensures) good.1;
      den = subst (λ (x : ℤ × ℕ). x.1 ≤ largest) (sym c.decimal_parts-num.ensures) good.2;
    }

pub returns : goal.returns
returns c =
    let good = good-decimal c.args.range c.requires.low c.requires.high c.requires.some in
    let num : unsigned_abs c.decimal_parts-num.result.0 ≤ largest =
    subst (λ (x : ℤ × ℕ). unsigned_abs x.0 ≤ largest) (sym c.decimal_parts-num.ensures) good.0 in
    c.fraction.ensures
    ∙ ap (λ n. lowest n c.decimal_parts-num.result.1)
    (to_z-of_z w128 c.decimal_parts-num.result.0
    (fits_signed_from_abs w128 c.decimal_parts-num.result.0 (omega arith)))
    ∙ ap (λ (x : ℤ × ℕ). lowest x.0 x.1) c.decimal_parts-num.ensures
