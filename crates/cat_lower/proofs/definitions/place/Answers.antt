use Rattle.std.proofs.Common.{rules, ◌∙◌, List, ap}
use Rattle.cat_pos.specs.declared.pos.Pos.{Pos}
use Rattle.cat_lower.specs.Definitions.{placed}
use Rattle.cat_lower.proofs.Placing.{placed_within, placed_push}
use Rattle.cat_lower.proofs.definitions.place.Goals as goal

pub loop-positions-preserved : goal.loop-positions-preserved
loop-positions-preserved c =
    ap (λ (l : List Pos). placed c.args.number c.args.pos l) c.in_ok-push.ensures.ok
    ∙ placed_push c.args.number c.args.pos c.loop-positions.positions (search rules) ∙ c.loop-positions.invariant

pub returns : goal.returns
returns c =
    c.set.ensures ∙ placed_within c.args.number c.args.pos c.loop-positions.positions (search rules)
    ∙ c.loop-positions.invariant
