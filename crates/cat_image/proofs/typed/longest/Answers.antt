use Rattle.std.proofs.Common.{◌∙◌, rules, arith}
use Rattle.cat_image.proofs.TypeLemmas.{element_shorter}
use Rattle.cat_image.proofs.ListedLemmas.{longest_goes_on, last_goes_on, longest_named, longest_none, last_has_blank}
use Rattle.cat_image.proofs.ListedLemmas.{longest_last}
use Rattle.cat_image.proofs.typed.longest.Goals as goal

pub loop-element-smaller : goal.loop-element-smaller
loop-element-smaller c = element_shorter c.loop-element.rest.now _ c.in-Some.ensures

pub loop-element-preserved : goal.loop-element-preserved
loop-element-preserved c =
    let l = c.loop-element in
    let count = l.invariant.counted in
    let less = element_shorter l.rest.now _ c.in-Some.ensures in
    record {
      utf8 = search rules;
      last_utf8 = l.invariant.utf8;
      typed = longest_goes_on l.lists l.rest.now _ c.in-Some.ensures ∙ l.invariant.typed;
      last = last_goes_on l.lists l.rest.now _ c.in-Some.ensures;
      counted = omega (arith, count, less);
    }

pub returns-in-Some-named : goal.returns-in-Some-named
returns-in-Some-named c =
    let l = c.loop-element in
    longest_named l.lists l.rest.now _ _ c.in_default.ensures c.in-Some-named.ensures ∙ l.invariant.typed

pub returns-then-lists-eq0 : goal.returns-then-lists-eq0
returns-then-lists-eq0 c =
    let l = c.loop-element in
    longest_none l.lists l.rest.now c.if-lists-eq0.true c.in_default.ensures c.in_default-named.ensures
    ∙ l.invariant.typed

pub returns-in_err-name : goal.returns-in_err-name
returns-in_err-name c =
    let l = c.loop-element in
    absurd (last_has_blank l.lists l.last.now l.rest.now c.if-lists-eq0.false l.invariant.last c.in_err-name.ensures)

pub returns : goal.returns
returns c =
    let l = c.loop-element in
    longest_last l.lists l.last.now l.rest.now _ _ c.if-lists-eq0.false l.invariant.last c.in_ok-name.ensures
    c.in_default.ensures c.in_default-named.ensures ∙ l.invariant.typed
