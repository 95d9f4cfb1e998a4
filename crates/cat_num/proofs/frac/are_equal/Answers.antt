use Rattle.std.proofs.Common.{subst, arith}
use Rattle.cat_num.specs.Frac.{Fraction, IsReduced}
use Rattle.cat_num.proofs.Fracs.{equal_is_cross}
use Rattle.cat_num.proofs.frac.are_equal.Goals as goal

pub returns-then-f-g-clause-cross : goal.returns-then-f-g-clause-cross
returns-then-f-g-clause-cross c =
    let r = subst (λ (h : Fraction). IsReduced h.num h.den) c.f.view_is c.f.invariant in
    let s = subst (λ (h : Fraction). IsReduced h.num h.den) c.g.view_is c.g.invariant in
    grind (arith, equal_is_cross c.args.f c.args.g r s)

pub returns-else-f-g-clause-cross : goal.returns-else-f-g-clause-cross
returns-else-f-g-clause-cross c =
    let r = subst (λ (h : Fraction). IsReduced h.num h.den) c.f.view_is c.f.invariant in
    let s = subst (λ (h : Fraction). IsReduced h.num h.den) c.g.view_is c.g.invariant in
    grind (arith, equal_is_cross c.args.f c.args.g r s)
