use Rattle.std.proofs.Common.{◌∙◌, ◌-◌, sym, arith, length, slice_get}
use Rattle.cat_code.specs.Valid.{places_entered, are_tested}
use Rattle.cat_verify.proofs.MarkLemmas.{counted, led_into, not_led}
use Rattle.cat_verify.proofs.NumberLemmas.{tested_in_front}
use Rattle.cat_verify.proofs.numbers.is_content_tested.Goals as goal

pub is_led_into-requires-clause-within : goal.is_led_into-requires-clause-within
is_led_into-requires-clause-within c =
    let tables = c.args.tables.now in
    let code = c.args.code.now in
    let count = counted (length code) (places_entered tables code) c.args.marks.now c.requires.marks in
    let within = c.requires.within in
    omega (arith, count, within)

pub returns-then-is_led_into : goal.returns-then-is_led_into
returns-then-is_led_into c =
    let test = c.if-at-lt4.false in
    led_into (length c.args.code.now) c.args.at (places_entered c.args.tables.now c.args.code.now) c.args.marks.now _
    c.requires.marks (omega (arith, test)) c.requires.within (sym c.is_led_into.ensures ∙ c.if-is_led_into.true)

pub returns : goal.returns
returns c =
    let tables = c.args.tables.now in
    let code = c.args.code.now in
    let at = c.args.at in
    let far = c.if-at-lt4.false in
    c.are_tested.ensures ∙ tested_in_front tables code at (at - (at - 4)) far (omega (arith, far))
    ∙ not_led (length code) at (places_entered tables code) c.args.marks.now
    (are_tested tables (slice_get code (at - 4)) (slice_get code (at - 3)) (slice_get code (at - 2))
    (slice_get code (at - 1)))
    c.requires.marks far c.requires.within (sym c.is_led_into.ensures ∙ c.if-is_led_into.false)
