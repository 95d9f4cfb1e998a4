use Rattle.std.proofs.Common.{rules, ◌≡◌, ◌∙◌, sym, ap}
use Rattle.cat_num.specs.Frac.{Fraction, gcd, lowest}
use Rattle.cat_num.specs.Numerals.{Numeral, numeral_value}
use Rattle.cat_value.specs.declared.value.Value.TheVariants as flat
use Rattle.cat_scope.specs.Lists.{zero_of}
use Rattle.cat_lower.proofs.values.zero.Goals as goal

pub returns-in-Decimals : goal.returns-in-Decimals
unfolding lowest gcd
returns-in-Decimals c =
    let none : c.unwrap-in-Decimals.result ≡ record { digits = 0; places = 0 } = search rules in
    ap (λ (f : Fraction). flat.Decimal f) (c.frac_of_decimal.ensures ∙ ap (λ (n : Numeral). numeral_value n) none)
    ∙ sym (ap zero_of c.in-Decimals.is)
