use Rattle.std.proofs.Common.{sym}
use Rattle.cat_verify_tables.specs.inside.Causes.{AtLine}
use Rattle.cat_verify_tables.specs.inside.ItemWords.{HoldsNothing, IsHeldOf}
use Rattle.cat_verify_tables.specs.inside.HeldWords.{HoldsNoBase, HoldsNoneWith, IsHeldBare, IsHeldWith}
use Rattle.cat_verify_tables.proofs.CauseLemmas.{at_line}
use Rattle.cat_verify_tables.proofs.HoldingLemmas.{bare_is, held_parted, if_err_led, if_ok_led, nothing_parted}
use Rattle.cat_verify_tables.proofs.HoldingLemmas.{nothing_whole}
use Rattle.cat_verify_tables.proofs.holding.what_is_held.Goals as goal

pub returns-in-Some-clause-told : goal.returns-in-Some-clause-told
returns-in-Some-clause-told c =
    let types = c.args.types.now in
    let split = c.behind_lists-lists in
    let base = c.in-Some.base.now in
    let more = c.in-Some.more.now in
    if_ok_led (IsHeldWith types split.result.0 base more) (IsHeldOf types c.args.what.now)
    (λ held is. held_parted types c.args.what.now split.result.0 split.result.1.now (base, more) is.text held
    split.ensures (sym c.in-Some.ensures) is.more_is is.own is.params)
    c.with_params.result c.with_params.ensures.told

pub returns-in-Some-clause-cause : goal.returns-in-Some-clause-cause
returns-in-Some-clause-cause c =
    let types = c.args.types.now in
    let split = c.behind_lists-lists in
    let base = c.in-Some.base.now in
    let more = c.in-Some.more.now in
    let line = c.args.line in
    if_err_led (AtLine line (HoldsNoneWith types split.result.0 base more))
    (AtLine line (HoldsNothing types c.args.what.now))
    (λ why. at_line line (nothing_parted types c.requires c.args.what.now split.result.0 split.result.1.now
    split.ensures (base, more) (sym c.in-Some.ensures)) why)
    c.with_params.result c.with_params.ensures.cause

pub returns-in-None-clause-told : goal.returns-in-None-clause-told
returns-in-None-clause-told c =
    let types = c.args.types.now in
    let split = c.behind_lists-lists in
    if_ok_led (IsHeldBare types split.result.0 split.result.1.now) (IsHeldOf types c.args.what.now)
    (λ held is. bare_is types c.args.what.now split.result.0 split.result.1.now held split.ensures is)
    c.bare.result c.bare.ensures.told

pub returns-in-None-clause-cause : goal.returns-in-None-clause-cause
returns-in-None-clause-cause c =
    let types = c.args.types.now in
    let split = c.behind_lists-lists in
    let line = c.args.line in
    if_err_led (AtLine line (HoldsNoBase types split.result.0 split.result.1.now))
    (AtLine line (HoldsNothing types c.args.what.now))
    (λ why. at_line line (nothing_whole types c.requires c.args.what.now split.result.0 split.result.1.now
    split.ensures (sym c.in-None.ensures)) why)
    c.bare.result c.bare.ensures.cause
