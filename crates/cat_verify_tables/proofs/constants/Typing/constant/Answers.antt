use Rattle.std.proofs.Common.{◌≡◌, ◌≢◌, ◌<◌, ℕ, false, nat_le, refl, subst, arith, rules}
use Rattle.std.proofs.lemmas.Bool.Decides.{nat_tests}
use Rattle.std.proofs.lemmas.Result.{err_from_is_err_and}
use Rattle.cat_value.specs.Declarations.{highest}
use Rattle.cat_json.specs.declared.refusal.InputRefusal.TheVariants as refusal
use Rattle.cat_image.specs.Words.{Text}
use Rattle.cat_verify_tables.specs.inside.ConstantWords as wrong
use Rattle.cat_verify_tables.specs.inside.PartWords.{Spells}
use Rattle.cat_verify_tables.proofs.CauseLemmas.{at_line}
use Rattle.cat_verify_tables.proofs.constants.Typing.constant.Goals as goal

too_high : (n height : ℕ) → n ≡ height → nat_le n highest ≡ false → highest < height
too_high n height is late = grind (arith, nat_tests, is, late)

pub returns-in_err-needed-clause-cause : goal.returns-in_err-needed-clause-cause
returns-in_err-needed-clause-cause c =
    let p = err_from_is_err_and c.from_residual-in_err-needed.result c.from_residual-in_err-needed.ensures.1 in
    let spells = subst (λ (w : Text). Spells c.args.self.now.types.now w c.in_ok-ty.ty) c.as_str.ensures
    c.in_ok-ty.ensures.spelled in
    rw (p.1, p.2) (at_line c.args.number
    (λ late. wrong.high c.in_ok-ty.ty spells (too_high _ _ c.height-height.ensures late))
    c.in_err-needed.field-0.0 c.in_err-needed.ensures.cause)

pub returns : goal.returns
returns c =
    let spells = subst (λ (w : Text). Spells c.args.self.now.types.now w c.in_ok-ty.ty) c.as_str.ensures
    c.in_ok-ty.ensures.spelled in
    let other : c.in-Err.field-0 ≢ refusal.Memory = search rules in
    let refused = c.in-Err.ensures.refused other in
    record {
      told = tt;
      cause = (
        refl,
        wrong.unread c.in_ok-ty.ty spells (λ value read. cc (refused, read, c.as_str-2.ensures)),
      );
    }
