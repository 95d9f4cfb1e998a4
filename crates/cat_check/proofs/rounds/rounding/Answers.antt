use Rattle.std.proofs.Common.{◌≡◌, ◌≤◌, ◌<◌, ◌∙◌, ◌∷◌, true, false, Ok, length, get_or, rules, sym, ap}
use Rattle.cat_pos.specs.Position.{pos_of}
use Rattle.cat_pos.specs.declared.pos.Pos.{Pos}
use Rattle.cat_names.specs.Bodies.{differ}
use Rattle.cat_check.proofs.Agreeing.{at_slot, none_left, settled, unsettled}
use Rattle.cat_check.proofs.rounds.rounding.Goals as goal

pub returns-then-differ : goal.returns-then-differ
returns-then-differ c =
    let first = c.in-Some.first.now in
    let rest = c.in-Some.rest.now in
    let i = c.loop-round.round-index in
    let nowhere : Pos = pos_of 0 0 0 in
    let is : c.args.rounds.now ≡ first ∷ rest = search rules in
    let within : i < length rest = search rules in
    let other : differ (get_or rest i (nowhere, false)) first ≡ true = search rules in
    unsettled c.args.rounds.now first rest i (get_or rest i (nowhere, false)) is
    (at_slot rest i (nowhere, false) within)
    other

pub returns : goal.returns
returns c =
    let first = c.in-Some.first.now in
    let rest = c.in-Some.rest.now in
    let is : c.args.rounds.now ≡ first ∷ rest = search rules in
    let past : length rest ≤ c.loop-round.round-index = search rules in
    settled c.args.rounds.now first rest is (none_left first rest c.loop-round.round-index past c.loop-round.invariant)
    ∙ ap Ok (sym c.way.ensures)
