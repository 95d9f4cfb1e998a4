-- The elements of a JSON value, by its variant.
use Rattle.std.proofs.Common.{◌≡◌, Bool, String, Vec, BTreeMap, Global, Option, Some, None, option_map, rules, refl}
use Rattle.serde_json.specs.Find.{as_array}
use Rattle.serde_json.specs.View.{view, items_view}
use Rattle.serde_json.specs.declared.number.Number.{Number}
use Rattle.serde_json.specs.declared.value.Value.{Value as Json, Null, Bool as Truth, Number as Numeral, String as Text}
use Rattle.serde_json.specs.declared.value.Value.{Array, Object, the_lemmas}

pub array_elements : (v : Vec Json Global) → Some (items_view v.items) ≡ as_array (view (Array v))
array_elements v = search (rules, the_lemmas)

pub null_elements : None ≡ as_array (view Null)
null_elements = search (rules, the_lemmas)

pub truth_elements : (b : Bool) → None ≡ as_array (view (Truth b))
truth_elements b = search (rules, the_lemmas)

pub numeral_elements : (n : Number) → None ≡ as_array (view (Numeral n))
numeral_elements n = search (rules, the_lemmas)

pub text_elements : (s : String Global) → None ≡ as_array (view (Text s))
text_elements s = search (rules, the_lemmas)

pub object_elements : (m : BTreeMap (String Global) Json) → None ≡ as_array (view (Object m))
object_elements m = search (rules, the_lemmas)

pub ruleset elements = (
  array_elements,
  null_elements,
  truth_elements,
  numeral_elements,
  text_elements,
  object_elements,
)
