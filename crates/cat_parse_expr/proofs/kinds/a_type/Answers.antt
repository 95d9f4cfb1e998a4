use Rattle.std.proofs.Common.{sym, ◌∙◌, arith}
use Rattle.cat_parse_expr.proofs.ListOf.{list_step}
use Rattle.cat_parse_expr.proofs.kinds.a_type.Goals as goal

pub loop-lists-smaller : goal.loop-lists-smaller
loop-lists-smaller c =
    let h = sym c.is_next.ensures ∙ c.loop-lists-test.true in
    let s = list_step c.loop-lists.lists c.loop-lists.place c.args.tokens.now h in
    omega (arith, s.within)

pub loop-lists-preserved : goal.loop-lists-preserved
loop-lists-preserved c =
    let h = sym c.is_next.ensures ∙ c.loop-lists-test.true in
    let s = list_step c.loop-lists.lists c.loop-lists.place c.args.tokens.now h in
    record {
      same = c.loop-lists.invariant.same ∙ s.same;
      low = omega (arith, c.loop-lists.invariant.low);
      within = omega (arith, s.within);
      few = omega (arith, c.loop-lists.invariant.few);
    }
