use Rattle.std.proofs.Common.{◌∙◌, refl, sym, ap, subst}
use Rattle.cat_region.specs.Regions.{Constraints}
use Rattle.cat_dead_report.specs.RunLines.{line_in}
use Rattle.cat_dead_report.specs.inside.Said.{IsWonIn}
use Rattle.cat_dead_report.specs.inside.WonLeaves.{led}
use Rattle.cat_dead_report.proofs.AloneLemmas.{some_default, within_default, says_default}
use Rattle.cat_dead_report.proofs.KnownLemmas.{tried_kept, tried_not, or_second}
use Rattle.cat_dead_report.proofs.found.try_leaf.Goals as goal

pub leaf_line-requires-clause-won : goal.leaf_line-requires-clause-won
leaf_line-requires-clause-won c =
    subst (IsWonIn c.args.here.now.table.now c.args.here.now.target.now c.args.pos) (sym c.in_ok-region.ensures)
    c.requires.won

-- the input was run before
pub returns-then-is_run : goal.returns-then-is_run
returns-then-is_run c =
    let program = c.args.here.now.program.now in
    let table = c.args.here.now.table.now in
    let t = c.args.here.now.target.now in
    let way = c.args.way.now in
    let known = c.args.known.now in
    let alone = sym c.hang_alone-hangs.ensures ∙ c.if-hangs.true in
    tried_not program table t c.args.pos (led table way) known known refl (c.requires.default c.if-is_run.true)
    (some_default program table t c.args.pos)
    (within_default program table t c.args.pos c.answers.result.now way c.answers.ensures alone c.requires.won.dims)

pub returns : goal.returns
returns c =
    let program = c.args.here.now.program.now in
    let table = c.args.here.now.table.now in
    let t = c.args.here.now.target.now in
    let way = c.args.way.now in
    let old = c.args.known.now in
    let new = c.keep.new.known in
    let next = c.in_ok-next.next in
    let says = ap (λ (r : Constraints). line_in program table t c.args.pos r) (sym c.in_ok-region.ensures)
    ∙ c.in_ok-next.ensures in
    tried_kept program table t c.args.pos (led table way) old new next says c.keep.ensures.line (λ on off.
    says_default program table t c.args.pos c.answers.result.now way c.answers.ensures
    (sym c.hang_alone-hangs.ensures
    ∙ or_second old.on_default c.hang_alone-hangs.result new.on_default c.keep.ensures.default on off)
    c.requires.won.dims next says) c.requires.default
