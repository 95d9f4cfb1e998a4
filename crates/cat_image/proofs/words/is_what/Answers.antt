use Rattle.std.proofs.Common.{◌∙◌, sym, rules, ◌&&◌}
use Rattle.cat_image.specs.Words.{words, are_types_of, is_what}
use Rattle.cat_image.proofs.TypeLemmas.{element_shorter, what_goes_on, what_ends, what_by_types}
use Rattle.cat_image.proofs.words.is_what.Goals as goal

pub loop-element-smaller : goal.loop-element-smaller
loop-element-smaller c = element_shorter c.loop-element.rest.now _ c.in-Some.ensures

pub loop-element-preserved : goal.loop-element-preserved
loop-element-preserved c = record {
  utf8 = search rules;
  what =
      what_goes_on c.loop-element.rest.now _ c.loop-element.is_list c.in-Some.ensures ∙ c.loop-element.invariant.what;
}

pub returns-then-names_list : goal.returns-then-names_list
returns-then-names_list c =
    what_by_types (c.loop-element.is_list && are_types_of (words c.loop-element.rest.now))
    (is_what c.loop-element.rest.now)
    (is_what c.args.text.now) (sym c.names_list.ensures ∙ c.if-names_list.true) c.loop-element.invariant.what

pub returns : goal.returns
returns c =
    c.is_named.ensures
    ∙ sym (what_ends c.loop-element.rest.now c.loop-element.is_list c.in_default.ensures
    (sym c.names_list.ensures ∙ c.if-names_list.false))
    ∙ c.loop-element.invariant.what
