-- Words on types, taken to the levels of types.
use Rattle.cat_value.specs.declared.ty.Ty.TheViews as ty

-- the level of a type by its variant
pub ruleset types = (ty.the_lemmas)
