use Rattle.std.proofs.Common.{◌∙◌, rules}
use Rattle.cat_image.proofs.TypeLemmas.{element_shorter, type_goes_on, type_ends}
use Rattle.cat_image.proofs.words.is_type.Goals as goal

pub loop-element-smaller : goal.loop-element-smaller
loop-element-smaller c = element_shorter c.loop-element.rest.now _ c.in-Some.ensures

pub loop-element-preserved : goal.loop-element-preserved
loop-element-preserved c = record {
  utf8 = search rules;
  type = type_goes_on c.loop-element.rest.now _ c.in-Some.ensures ∙ c.loop-element.invariant.type;
}

pub returns : goal.returns
returns c = c.is_name.ensures ∙ type_ends c.loop-element.rest.now c.in_default.ensures ∙ c.loop-element.invariant.type
