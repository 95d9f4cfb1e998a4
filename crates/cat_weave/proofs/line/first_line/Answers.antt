use Rattle.std.proofs.Common.{◌∙◌, ap, arith}
use Rattle.cat_weave.specs.inside.Reading.{line_length}
use Rattle.cat_weave.proofs.LineLemmas.{line_cut, line_length_some, lines_of_first}
use Rattle.cat_weave.proofs.line.first_line.Goals as goal

pub split_at-requires : goal.split_at-requires
split_at-requires c =
    let is_line = c.line_len.ensures ∙ ap line_length c.as_bytes.ensures.value in
    rw is_line (line_cut c.args.text.now c.utf8.text)

pub returns-clause-lines : goal.returns-clause-lines
returns-clause-lines c =
    let is_line = c.line_len.ensures ∙ ap line_length c.as_bytes.ensures.value in
    rw (c.split_at.ensures.front, c.split_at.ensures.back, is_line) (lines_of_first c.args.text.now c.requires)

pub returns-clause-shorter : goal.returns-clause-shorter
returns-clause-shorter c =
    let is_line = c.line_len.ensures ∙ ap line_length c.as_bytes.ensures.value in
    omega (arith, is_line, line_length_some c.args.text.now c.requires, c.split_at.ensures.back_len)
