use Rattle.std.proofs.Common.{◌∙◌, sym}
use Rattle.cat_verify.specs.inside.Abroad.{NoneAbroad, OneAbroad}
use Rattle.cat_verify.specs.inside.Stamped.{AreStamps}
use Rattle.cat_verify.specs.inside.Starts.{scope_starts, scope_arrivals}
use Rattle.cat_verify.specs.inside.Orderly.{AreCallsHome, AbroadCause}
use Rattle.cat_verify.proofs.NumberLemmas.{if_err}
use Rattle.cat_verify.proofs.WalkLemmas.{if_ok}
use Rattle.cat_verify.proofs.AbroadLemmas.{stamps_as, calls_home, abroad_cause}
use Rattle.cat_verify.proofs.UncalledLemmas.{none_called}
use Rattle.cat_verify.proofs.abroad.refuse_abroad.Goals as goal

pub returns-then-len-eq0-clause-home : goal.returns-then-len-eq0-clause-home
returns-then-len-eq0-clause-home c =
    none_called c.args.tables.now c.args.code.now c.args.functions.now c.requires
    (sym c.len.ensures ∙ c.if-len-eq0.true)

pub returns-clause-home : goal.returns-clause-home
returns-clause-home c =
    let functions = c.args.functions.now in
    let marks = c.deref.result.now in
    let starts = scope_starts c.args.tables.now in
    let sent = scope_arrivals functions c.args.tables.now.functions in
    let are : AreStamps c.args.code.now starts sent marks =
    stamps_as c.args.code.now starts c.as_slice.result.now sent c.as_slice-2.result.now c.in_ok-marks.marks.items marks
    c.in_ok-marks.ensures (c.as_slice.ensures ∙ c.in_ok-starts.ensures) (c.as_slice-2.ensures ∙ c.in_ok-calls.ensures)
    c.deref.ensures.value in
    if_ok (λ _. NoneAbroad functions c.args.code.now marks) (λ _. AreCallsHome c.args.tables.now c.args.code.now)
    c.refuse_marked.result c.refuse_marked.ensures.none
    (λ _ none. calls_home c.args.tables.now c.args.code.now functions marks c.requires are none)

pub returns-clause-cause : goal.returns-clause-cause
returns-clause-cause c =
    let functions = c.args.functions.now in
    let marks = c.deref.result.now in
    let starts = scope_starts c.args.tables.now in
    let sent = scope_arrivals functions c.args.tables.now.functions in
    let are : AreStamps c.args.code.now starts sent marks =
    stamps_as c.args.code.now starts c.as_slice.result.now sent c.as_slice-2.result.now c.in_ok-marks.marks.items marks
    c.in_ok-marks.ensures (c.as_slice.ensures ∙ c.in_ok-starts.ensures) (c.as_slice-2.ensures ∙ c.in_ok-calls.ensures)
    c.deref.ensures.value in
    if_err (OneAbroad functions c.args.code.now marks) (AbroadCause c.args.tables.now c.args.code.now)
    c.refuse_marked.result c.refuse_marked.ensures.cause
    (abroad_cause c.args.tables.now c.args.code.now functions marks c.requires are)
