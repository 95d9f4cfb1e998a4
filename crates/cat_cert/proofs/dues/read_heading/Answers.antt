use Rattle.std.proofs.Common.{◌∙◌, ◌∷◌, inr, sym, ap, Err}
use Rattle.cat_cert.specs.inside.States.{AtDue}
use Rattle.cat_cert.proofs.EndingLemmas.{no_line, heading_goes, heading_stops}
use Rattle.cat_cert.proofs.dues.read_heading.Goals as goal

pub returns-in_default-clause-read : goal.returns-in_default-clause-read
returns-in_default-clause-read c = λ v due dues trees word_is name_is.
    inr (no_line (AtDue v (due ∷ dues) trees) c.args.bytes.now c.args.place.now c.next_line.new.place
    c.in_default.ensures.next)

pub returns-then-is_heading-clause-read : goal.returns-then-is_heading-clause-read
returns-then-is_heading-clause-read c = λ v due dues trees word_is name_is.
    heading_goes v due dues trees c.args.word.now c.args.name.now word_is name_is c.args.bytes.now c.args.place.now
    c.next_line.new.place c.in-Some.line.now c.in-Some.ensures.next (sym c.is_heading.ensures ∙ c.if-is_heading.true)

pub returns-clause-read : goal.returns-clause-read
returns-clause-read c = λ v due dues trees word_is name_is.
    inr (heading_stops v due dues trees c.args.word.now c.args.name.now word_is name_is c.args.bytes.now
    c.args.place.now c.next_line.new.place c.in-Some.line.now c.in-Some.ensures.next
    (sym c.is_heading.ensures ∙ c.if-is_heading.false) ∙ ap (λ why. Err why) (sym c.no_heading.ensures))
