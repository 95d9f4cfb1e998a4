use Rattle.std.proofs.Common.{◌+◌, ◌∙◌, ℕ, List, length, sym, subst}
use Rattle.cat_dead.specs.inside.Reading.{IsCertificateOf}
use Rattle.cat_dead.proofs.TextLemmas.{IsPassing, passes_line, is_certificate}
use Rattle.cat_dead.proofs.reading.as_certificate.Goals as goal

pub loop-line-preserved : goal.loop-line-preserved
loop-line-preserved c =
    let line = c.in-Some.line.now in
    subst (λ (text : List ℕ). IsPassing c.args.bytes.now text (c.loop-line.at + (length line + 1)))
    (sym c.in_ok-push.ensures.ok)
    (passes_line c.args.bytes.now c.loop-line.text c.loop-line.at c.loop-line.invariant line c.in-Some.ensures
    (sym c.begins.ensures ∙ c.if-begins.false))

pub returns-then-begins-clause-text : goal.returns-then-begins-clause-text
returns-then-begins-clause-text c =
    subst (IsCertificateOf c.args.bytes.now) (sym c.in_ok-made.ensures)
    (is_certificate c.args.bytes.now c.loop-line.text c.loop-line.at c.loop-line.invariant c.in-Some.line.now
    c.in-Some.ensures (sym c.begins.ensures ∙ c.if-begins.true)
    (sym c.is_first_line.ensures ∙ c.if-not-is_first_line.false))
