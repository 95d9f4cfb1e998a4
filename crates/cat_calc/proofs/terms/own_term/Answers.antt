use Rattle.std.proofs.Common.{rules, ◌∷◌, [], ◌++◌, ◌+◌, map, drop, get_or, append_assoc, ap, ◌∙◌, sym, arith}
use Rattle.cat_calc.specs.inside.Numbered.{numbered_at}
use Rattle.cat_calc.specs.inside.Terms.{definition_term}
use Rattle.cat_calc.proofs.Numbers.{next_numbered}
use Rattle.cat_calc.proofs.terms.own_term.Goals as goal

pub loop-number-preserved : goal.loop-number-preserved
loop-number-preserved c =
    let defs = c.args.defs.now in
    let ns = c.args.numbers.now in
    let i = c.loop-number.number-index in
    let d = c.index-defs-number.result in
    let rest = map definition_term (numbered_at defs (drop (i + 1) ns)) in
    ap (λ made. made ++ rest)
    (c.in_ok-push.ensures.ok ∙ ap (λ t. c.loop-number.terms ++ t ∷ []) c.in_ok-definition_term.ensures)
    ∙ append_assoc c.loop-number.terms (definition_term (get_or ns i 0, d) ∷ []) rest
    ∙ ap (λ xs. c.loop-number.terms ++ map definition_term xs)
    (sym (next_numbered defs ns i d (omega (arith, c.loop-number-test.true)) (search (rules, c.requires))
    c.index-defs-number.is))
    ∙ c.loop-number.invariant
