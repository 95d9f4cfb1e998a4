use Rattle.std.proofs.Common.{◌∙◌, Option, subst, sym}
use Rattle.std.specs.Prelude.{IfOk}
use Rattle.cat_image.specs.declared.reading.Reading.{Reading}
use Rattle.cat_image.specs.inside.Reading.{Takes}
use Rattle.cat_image.proofs.EndingLemmas.{no_text, no_row, row_put}
use Rattle.cat_image.proofs.read.take_line.Goals as goal

pub returns-in_default : goal.returns-in_default
returns-in_default c = no_text c.args.reading.now c.args.reading.now c.args.line.now c.in_default.ensures

pub returns-in_default-row : goal.returns-in_default-row
returns-in_default-row c =
    no_row c.args.reading.now c.args.reading.now c.args.line.now c.in-Some.text.now c.in-Some.ensures
    (sym c.in_default-row.is ∙ c.in_ok-row.ensures)

pub returns : goal.returns
returns c =
    subst (λ (o : Option Reading). IfOk c.put.result (λ took. Takes o took c.put.new.reading))
    (row_put c.args.reading.now c.args.line.now c.in-Some.text.now c.in-Some-row.row c.in-Some.ensures
    (sym c.in-Some-row.is ∙ c.in_ok-row.ensures))
    c.put.ensures
