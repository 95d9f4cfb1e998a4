use Rattle.std.proofs.Common.{◌∙◌, rules}
use Rattle.cat_image.proofs.TypeLemmas.{passed_shorter, types_go_on, types_end}
use Rattle.cat_image.proofs.words.are_types.Goals as goal

pub loop-more-smaller : goal.loop-more-smaller
loop-more-smaller c = passed_shorter c.loop-more.rest.now _ c.in-Some.ensures

pub loop-more-preserved : goal.loop-more-preserved
loop-more-preserved c = record {
  utf8 = search rules;
  types = types_go_on c.loop-more.rest.now _ c.in-Some.ensures ∙ c.loop-more.invariant.types;
}

pub returns : goal.returns
returns c = c.is_name.ensures ∙ types_end c.loop-more.rest.now c.in_default.ensures ∙ c.loop-more.invariant.types
