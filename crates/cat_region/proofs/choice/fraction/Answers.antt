use Rattle.std.proofs.Common.{◌≡◌, ◌∙◌, ◌≤◌, ◌<◌, sym, ap, subst, refl, ℤ, ℕ, Result, Ok, arith, unsigned_abs}
use Rattle.std.specs.Result.{IsOk}
use Rattle.std.proofs.lemmas.Int.{to_z-of_z, to_z_pos, fits_signed_from_abs}
use mir.Val.{to_z, of_z}
use mir.Syntax.{w128}
use Rattle.cat_num.specs.Whole.{largest}
use Rattle.cat_num.specs.Frac.{Fraction, frac_of, lowest}
use Rattle.cat_num.specs.declared.fault.NumFault.{NumFault}
use Rattle.cat_region.proofs.PointLemmas.{frac_of-fits}
use Rattle.cat_region.proofs.choice.fraction.Goals as goal

made : (num : ℤ) (den : ℕ) (r : Result Fraction NumFault) → unsigned_abs num ≤ largest → 0 < den → den ≤ largest
    → r ≡ frac_of (to_z w128 (of_z w128 num)) (to_z w128 den) → r ≡ Ok (lowest num den)
made num den r h p k is =
    is ∙ ap (λ n. frac_of n (to_z w128 den)) (to_z-of_z w128 num (fits_signed_from_abs w128 num (omega arith)))
    ∙ ap (frac_of num) (to_z_pos w128 den (omega arith)) ∙ frac_of-fits num den h p k

pub unwrap-requires : goal.unwrap-requires
unwrap-requires c =
    subst (λ (r : Result Fraction NumFault). IsOk r)
    (sym (made c.args.num c.args.den c.new.result c.requires.num c.requires.some c.requires.den c.new.ensures.value))
    refl

pub returns : goal.returns
returns c =
    same c.unwrap.result (lowest c.args.num c.args.den) c.new.result c.unwrap.ensures
    (made c.args.num c.args.den c.new.result c.requires.num c.requires.some c.requires.den c.new.ensures.value)
  where
    same : (f g : Fraction) (r : Result Fraction NumFault) → r ≡ Ok f → r ≡ Ok g → f ≡ g
    same f g r h k = cc
