use Rattle.std.proofs.Common.{◌≡◌, ◌<◌, ℕ, List, length, get_or}
use Rattle.std.proofs.lemmas.Option.{get_or_from_slice_get, slice_get-get_or}
use Rattle.std.proofs.lemmas.Result.{err_from_is_err_and}
use Rattle.cat_image.specs.declared.tables.ImagePos.{ImagePos}
use Rattle.cat_verify_tables.specs.inside.Causes.{IsFaulty}
use Rattle.cat_verify_tables.specs.inside.FoundPlaces.{IsPosLost, IsPosOf}
use Rattle.cat_verify_tables.proofs.CauseLemmas.{refuses}
use Rattle.cat_verify_tables.proofs.EntryLemmas.{faulty, told_more}
use Rattle.cat_verify_tables.proofs.tables.positions.Goals as goal

-- a position that is read at an index
abbrev pos_at : List ImagePos → ℕ → ImagePos
pos_at lines i = get_or lines i (record { file = 0; line = 0; column = 0 })

pos_is : (lines : List ImagePos) (i : ℕ) → i < length lines → get_or lines i (pos_at lines i) ≡ pos_at lines i
pos_is lines i within =
    get_or_from_slice_get lines i (pos_at lines i) (pos_at lines i) (slice_get-get_or lines i
    (record { file = 0; line = 0; column = 0 }) within)

pub returns-in_err-made-clause-cause : goal.returns-in_err-made-clause-cause
returns-in_err-made-clause-cause c =
    let p = err_from_is_err_and c.from_residual-in_err-made.result c.from_residual-in_err-made.ensures.1 in
    let lines = c.args.lines.now in
    let l = c.loop-at in
    let within = c.loop-at-test.true in
    let Fault = λ (before : List ImagePos). IsPosLost c.args.files in
    rw (p.1, p.2) (refuses (IsFaulty Fault c.args.first lines) c.in_ok-number.number
    (λ lost. faulty Fault c.args.first lines l.at (pos_at lines l.at) c.in_ok-number.number within
    (pos_is lines l.at within) c.in_ok-number.ensures lost)
    c.in_err-made.field-0.0 c.in_err-made.ensures.cause)

pub loop-at-preserved : goal.loop-at-preserved
loop-at-preserved c =
    let lines = c.args.lines.now in
    let l = c.loop-at in
    let within = c.loop-at-test.true in
    rw c.in_ok-push.ensures.ok (told_more (λ _. IsPosOf c.args.files) lines l.at (pos_at lines l.at)
    l.positions c.in_ok-made.made within (pos_is lines l.at within) l.invariant
    (record { words = c.in_ok-made.ensures.words; found = c.in_ok-made.ensures.found }))
