use Rattle.std.proofs.Common.{◌<◌, length, rules, sym}
use Rattle.std.proofs.lemmas.Result.{err_from_is_err_and}
use Rattle.cat_names.specs.Lines.{all_lines, use_lines}
use Rattle.cat_check_forms.specs.Tabled.{names_at}
use Rattle.cat_check_exprs.specs.Saying.{behind}
use Rattle.cat_check_exprs.proofs.LinesGathered.{turn_off, turn_on}
use Rattle.cat_check_exprs.proofs.blocks.add_uses.Goals as goal

pub returns-in_err-add_use-clause-told : goal.returns-in_err-add_use-clause-told
returns-in_err-add_use-clause-told c =
    let p = err_from_is_err_and c.from_residual.result c.from_residual.ensures.1 in
    let a = c.args in
    let l = c.loop-line in
    let f = use_lines (names_at a.here.now) a.here.now.scope a.block.now in
    let within : l.line-index < length a.lines.now = search rules in
    rw (p.1, p.2) (turn_off f a.lines.now l.line-index c.line-item.result l.said
    (behind a.said.now (all_lines f a.lines.now)) c.in_err-add_use.field-0.0 within (sym c.line-item.is)
    c.in_err-add_use.ensures.told l.invariant.0)

pub loop-line-preserved : goal.loop-line-preserved
loop-line-preserved c =
    let a = c.args in
    let l = c.loop-line in
    let f = use_lines (names_at a.here.now) a.here.now.scope a.block.now in
    let within : l.line-index < length a.lines.now = search rules in (
      turn_on f a.lines.now l.line-index c.line-item.result l.said c.add_use.new.said
          (behind a.said.now (all_lines f a.lines.now)) within (sym c.line-item.is) c.in_ok-add_use.ensures.told
          l.invariant.0,
      c.in_ok-add_use.ensures.kept,
    )
