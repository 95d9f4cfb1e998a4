-- Whether parts are low, one part after another.
use Rattle.std.proofs.Common.{◌≡◌, ℕ, ◌-◌, ◌≤◌, ◌&&◌, not, nat_lt}
use Rattle.std.proofs.Common.{arith}
use Rattle.std.proofs.lemmas.Bool.Decides.{nat_tests}
use Rattle.cat_value.specs.declared.ty.Ty.{Ty}
use Rattle.cat_value.specs.Declarations.{highest}
use Rattle.cat_value.specs.Heights.{height_to}
use Rattle.cat_names.specs.Declarations.{Declared}
use Rattle.cat_names.specs.Heights.{is_high}
use Rattle.cat_names.specs.Lookup.{nested_list}
use Rattle.cat_declare.proofs.SameHeights.{height_positive, nested_height}

-- a list that passes the greatest height, though what it is made of does not
pub list_passes : (ds : Declared) (n : ℕ) (b : Ty) → height_to ds.structures ds.enumerations highest b ≤ highest
    → nat_lt (highest - height_to ds.structures ds.enumerations highest b) n
    ≡ (is_high ds (nested_list n b) && not (is_high ds b))
list_passes ds n b low = grind (
  arith,
  nat_tests,
  low,
  nested_height ds.structures ds.enumerations highest n b,
  height_positive ds.structures ds.enumerations highest b,
)
