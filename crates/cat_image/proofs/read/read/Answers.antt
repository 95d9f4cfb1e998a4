use Rattle.std.proofs.Common.{◌∙◌, subst, sym}
use Rattle.std.specs.Prelude.{Result}
use Rattle.cat_image.specs.declared.refusal.ImageRefusal.{ImageRefusal}
use Rattle.cat_image.specs.declared.reading.Reading.{Reading}
use Rattle.cat_image.specs.inside.Endings.{EndsSo}
use Rattle.cat_image.proofs.EndingLemmas.{no_first, other_first, version_first}
use Rattle.cat_image.proofs.read.read.Goals as goal

pub returns-in_default : goal.returns-in_default
returns-in_default c = no_first c.args.bytes.now c.in_default.ensures.cut

pub returns-then-not-is_first : goal.returns-then-not-is_first
returns-then-not-is_first c =
    other_first c.args.bytes.now (c.in-Some.line.now, c.in-Some.rest.now) c.in-Some.ensures.cut
    (sym c.is_first.ensures ∙ c.if-not-is_first.true)

pub returns : goal.returns
returns c =
    subst (λ (e : Result Reading ImageRefusal). EndsSo e c.take_lines.result)
    (version_first c.args.bytes.now (c.in-Some.line.now, c.in-Some.rest.now) c.in-Some.ensures.cut
    (sym c.is_first.ensures ∙ c.if-not-is_first.false))
    c.take_lines.ensures
