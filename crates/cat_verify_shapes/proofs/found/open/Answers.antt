use Rattle.std.proofs.Common.{◌∙◌, Some, ap}
use Rattle.cat_verify_shapes.proofs.SpotTests.{opened_turn, stays_turn, passed_over, read_at}
use Rattle.cat_verify_shapes.proofs.found.open.Goals as goal

pub returns-in_ok-turn-in-Open : goal.returns-in_ok-turn-in-Open
returns-in_ok-turn-in-Open c =
    let found = c.args.found.now.items in
    opened_turn found c.args.place c.args.instr c.in-Open.shape c.in_ok-turn-in-Open.turn c.replace.new.dest
    (read_at found c.args.place c.replace.result c.index_mut.result.now c.requires c.index_mut.ensures.value
    c.replace.ensures.value ∙ ap Some c.in-Open.is)
    (cc (c.in_ok-turn-in-Open.ensures, c.get.ensures))

pub returns-in-Turn : goal.returns-in-Turn
returns-in-Turn c =
    let found = c.args.found.now.items in
    stays_turn found c.args.place c.args.instr c.in-Turn.turn c.replace.new.dest
    (read_at found c.args.place c.replace.result c.index_mut.result.now c.requires c.index_mut.ensures.value
    c.replace.ensures.value ∙ ap Some c.in-Turn.is)

pub returns-in-Unmet : goal.returns-in-Unmet
returns-in-Unmet c =
    let found = c.args.found.now.items in
    passed_over found c.args.place c.args.instr c.replace.result c.replace.new.dest
    (read_at found c.args.place c.replace.result c.index_mut.result.now c.requires c.index_mut.ensures.value
    c.replace.ensures.value) c.in-Unmet.is c.replace.ensures.after
