use Rattle.cat_search.specs.Searched.{roomy}
use Rattle.cat_search.proofs.UnderwayLemmas.{turn_step}
use Rattle.cat_search.proofs.searching.Searching.turn.Goals as goal

pub returns-clause-turned : goal.returns-clause-turned
returns-clause-turned c terms atoms t room u =
    turn_step terms atoms t c.args.self.now c.to_false_side.new.region c.to_false_side.result u
    (c.to_false_side.ensures.turns (roomy terms atoms) u.path room u.at)

pub returns-clause-way : goal.returns-clause-way
returns-clause-way c terms atoms t room u = c.to_false_side.ensures.turns (roomy terms atoms) u.path room u.at
