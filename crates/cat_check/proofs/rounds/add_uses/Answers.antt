use Rattle.std.proofs.Common.{◌≡◌, ◌<◌, ◌++◌, ◌+◌, length, rules, subst, sym, drop}
use Rattle.std.specs.Prelude.{flat_map}
use Rattle.cat_names.specs.Bodies.{use_rounds}
use Rattle.cat_check.proofs.Picked.{one_more}
use Rattle.cat_check.proofs.rounds.add_uses.Goals as goal

pub loop-line-preserved : goal.loop-line-preserved
loop-line-preserved c =
    let a = c.args in
    let l = c.loop-line in
    let whole = a.rounds.now ++ flat_map use_rounds a.lines.now in
    let within : l.line-index < length a.lines.now = search rules in
    subst (λ made. made ++ flat_map use_rounds (drop (l.line-index + 1) a.lines.now) ≡ whole)
    (sym c.in_ok-add_use.ensures)
    (one_more use_rounds a.lines.now l.line-index c.line-item.result l.rounds whole within (sym c.line-item.is)
    l.invariant)
