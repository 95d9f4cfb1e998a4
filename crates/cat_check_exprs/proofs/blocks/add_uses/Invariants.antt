use Rattle.std.proofs.Common.{◌≡◌, drop}
use Rattle.cat_names.specs.Lines.{all_lines, use_lines}
use Rattle.cat_check_forms.specs.Tabled.{names_at}
use Rattle.cat_check_exprs.specs.Saying.{behind}
use Rattle.cat_check_exprs.specs.Sharing.{AreKnown}
use Rattle.cat_check_exprs.proofs.blocks.add_uses.Given as goal

abbrev pub invariant-loop-line : goal.invariant-loop-line
invariant-loop-line l = (behind l.said
    (all_lines (use_lines (names_at l.here) l.here.scope l.block) (drop l.line-index l.lines))
    ≡ behind l.fn.said (all_lines (use_lines (names_at l.here) l.here.scope l.block) l.lines))
    × AreKnown (names_at l.here) l.block l.known
