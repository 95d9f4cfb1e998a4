use Rattle.std.proofs.Common.{◌≡◌, Some, None, sym, ap, ◌∙◌, rules}
use Rattle.cat_region.specs.Regions.{last_narrowing}
use Rattle.cat_audit.specs.Findings.{least, derived_in}
use Rattle.cat_audit.specs.inside.Least.{lesser_of}
use Rattle.cat_audit.proofs.LeastLemmas.{none_left, one_derived, none_derived}
use Rattle.cat_audit.proofs.cause.least_derived.Goals as goal

pub loop-number-preserved-then-is_derived : goal.loop-number-preserved-then-is_derived
loop-number-preserved-then-is_derived c =
    let terms = c.args.terms.now in
    let after = c.restore.new.self.narrowings in
    let is : last_narrowing c.loop-number.region.narrowings
    ≡ Some (c.in-Some.number, c.in-Some.field-0-1, c.in-Some.field-0-2) = search rules in
    ap (λ o. lesser_of o (least (derived_in terms after))) c.lesser-least.ensures
    ∙ one_derived terms c.loop-number.region.narrowings after
    (c.in-Some.number, c.in-Some.field-0-1, c.in-Some.field-0-2) is c.restore.ensures.narrowings c.loop-number.least
    (sym c.is_derived.ensures ∙ c.if-is_derived.true)
    ∙ c.loop-number.invariant

pub loop-number-preserved : goal.loop-number-preserved
loop-number-preserved c =
    let is : last_narrowing c.loop-number.region.narrowings
    ≡ Some (c.in-Some.number, c.in-Some.field-0-1, c.in-Some.field-0-2) = search rules in
    none_derived c.args.terms.now c.loop-number.region.narrowings c.restore.new.self.narrowings
    (c.in-Some.number, c.in-Some.field-0-1, c.in-Some.field-0-2) is c.restore.ensures.narrowings c.loop-number.least
    (sym c.is_derived.ensures ∙ c.if-is_derived.false)
    ∙ c.loop-number.invariant

pub returns : goal.returns
returns c =
    let none : last_narrowing c.loop-number.region.narrowings ≡ None = search rules in
    sym (ap (λ ns. lesser_of c.loop-number.least (least (derived_in c.args.terms.now ns)))
    (none_left c.loop-number.region.narrowings none)) ∙ c.loop-number.invariant
