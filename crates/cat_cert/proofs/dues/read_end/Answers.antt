use Rattle.std.proofs.Common.{◌∙◌, [], inr, sym}
use Rattle.cat_cert.specs.inside.States.{AtDue}
use Rattle.cat_cert.proofs.EndingLemmas.{no_line, end_bad, end_trailing, end_all}
use Rattle.cat_cert.proofs.dues.read_end.Goals as goal

pub returns-in_default : goal.returns-in_default
returns-in_default c = λ v trees.
    inr (no_line (AtDue v [] trees) c.args.bytes.now c.args.place.now c.next_line.new.place c.in_default.ensures.next)

pub returns-then-not-is : goal.returns-then-not-is
returns-then-not-is c = λ v trees.
    inr (end_bad v trees c.args.bytes.now c.args.place.now c.next_line.new.place c.in-Some.line.now
    c.in-Some.ensures.next (sym c.is.ensures ∙ c.if-not-is.true))

pub returns-then-place-bytes : goal.returns-then-place-bytes
returns-then-place-bytes c = λ v trees.
    inr (end_trailing v trees c.args.bytes.now c.args.place.now c.next_line.new.place c.in-Some.line.now
    c.in-Some.ensures.next (sym c.is.ensures ∙ c.if-not-is.false) c.if-place-bytes.true)

pub returns : goal.returns
returns c = λ v trees.
    end_all v trees c.args.bytes.now c.args.place.now c.next_line.new.place c.in-Some.line.now
    c.in-Some.ensures.next (sym c.is.ensures ∙ c.if-not-is.false) c.if-place-bytes.false
