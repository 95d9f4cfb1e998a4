use Rattle.std.proofs.Common.{◌≡◌, ◌∙◌, ◌<◌, ◌≤◌, ap, arith, get_or, length, List, ℕ, subst, sym}
use Rattle.cat_code.specs.declared.code.Constant.{Constant}
use Rattle.cat_machine.proofs.Loads.{ConstantsLoaded, all_constants, constants_counted, no_constants, one_constant}
use Rattle.cat_machine.proofs.starting.load_constants.Goals as goal

pub loop-constant-init : goal.loop-constant-init
loop-constant-init c =
    subst (λ (refs : List ℕ). ConstantsLoaded c.args.pool.now c.args.pool.now c.args.code.now.tables.constants 0 refs)
    (sym c.new-constants.ensures) (no_constants c.args.pool.now c.args.code.now.tables.constants)

pub loop-constant-preserved : goal.loop-constant-preserved
loop-constant-preserved c =
    let items = c.as_slice-constant-items.ensures in
    let i = c.loop-constant.constant-index in
    let within : i < length c.args.code.now.tables.constants =
    omega (arith, c.loop-constant-test.true, ap length items) in
    let is : c.constant-item.result ≡ get_or c.args.code.now.tables.constants i c.constant-item.result
    = c.constant-item.is ∙ ap (λ (l : List Constant). get_or l i c.constant-item.result) items in
    one_constant c.args.pool.now c.loop-constant.pool c.args.code.now.tables.constants i c.constant-item.result
    c.in_ok-r.r c.load.new.self c.loop-constant.constants c.push.new.self c.loop-constant.invariant within is
    c.in_ok-r.ensures.value c.in_ok-r.ensures.count c.in_ok-r.ensures.kept c.in_ok-push.ensures.ok

pub returns-clause-loaded : goal.returns-clause-loaded
returns-clause-loaded c =
    let items = c.as_slice-constant-items.ensures in
    let past : length c.args.code.now.tables.constants ≤ c.loop-constant.constant-index =
    omega (arith, c.loop-constant-test.false, ap length items) in
    all_constants c.args.code.now.tables c.args.pool.now c.loop-constant.pool c.loop-constant.constant-index
    c.loop-constant.constants c.loop-constant.invariant past

pub returns-clause-count : goal.returns-clause-count
returns-clause-count c =
    let items = c.as_slice-constant-items.ensures in
    let past : length c.args.code.now.tables.constants ≤ c.loop-constant.constant-index =
    omega (arith, c.loop-constant-test.false, ap length items) in
    constants_counted c.args.code.now.tables c.args.pool.now c.loop-constant.pool c.loop-constant.constant-index
    c.loop-constant.constants c.loop-constant.invariant past
