use Rattle.cat_sound.proofs.LowTypes.{low_alone, target_low, params_low, element_low, content_low}
use Rattle.cat_sound.proofs.types.typed_expressions_have_low_types.Goals as goal

pub returns-clause-expressions : goal.returns-clause-expressions
returns-clause-expressions c = low_alone c.args.decls.now c.declarations_are_sound.ensures

pub returns-clause-targets : goal.returns-clause-targets
returns-clause-targets c = target_low c.args.decls.now c.declarations_are_sound.ensures

pub returns-clause-params : goal.returns-clause-params
returns-clause-params c = params_low c.args.decls.now c.declarations_are_sound.ensures

pub returns-clause-elements : goal.returns-clause-elements
returns-clause-elements c = element_low c.args.decls.now c.declarations_are_sound.ensures

pub returns-clause-contents : goal.returns-clause-contents
returns-clause-contents c = content_low c.args.decls.now c.declarations_are_sound.ensures
