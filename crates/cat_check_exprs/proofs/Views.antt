-- Words on types, taken to the levels of types.
use Rattle.cat_names.proofs.Exported.{views}

-- each word on a type is its word on the type's level
pub ruleset types = (views)
