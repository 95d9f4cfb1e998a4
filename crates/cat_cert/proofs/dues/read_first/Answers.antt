use Rattle.std.proofs.Common.{◌∙◌, inr, sym}
use Rattle.cat_cert.specs.declared.certificate.Version.TheVariants as version
use Rattle.cat_cert.specs.inside.States.{First}
use Rattle.cat_cert.proofs.EndingLemmas.{no_line, first_goes, first_bad}
use Rattle.cat_cert.proofs.dues.read_first.Goals as goal

pub returns-in_default-clause-read : goal.returns-in_default-clause-read
returns-in_default-clause-read c = λ dues.
    inr (no_line (First dues) c.args.bytes.now c.args.place.now c.next_line.new.place c.in_default.ensures.next)

pub returns-then-is-clause-read : goal.returns-then-is-clause-read
returns-then-is-clause-read c = λ dues.
    first_goes dues c.args.bytes.now c.args.place.now c.next_line.new.place c.in-Some.line.now c.in-Some.ensures.next
    version.One (sym c.is.ensures ∙ c.if-is.true)

pub returns-then-is-2-clause-read : goal.returns-then-is-2-clause-read
returns-then-is-2-clause-read c = λ dues.
    first_goes dues c.args.bytes.now c.args.place.now c.next_line.new.place c.in-Some.line.now c.in-Some.ensures.next
    version.Two (sym c.is-2.ensures ∙ c.if-is-2.true)

pub returns-clause-read : goal.returns-clause-read
returns-clause-read c = λ dues.
    inr (first_bad dues c.args.bytes.now c.args.place.now c.next_line.new.place c.in-Some.line.now
    c.in-Some.ensures.next (sym c.is.ensures ∙ c.if-is.false) (sym c.is-2.ensures ∙ c.if-is-2.false))
