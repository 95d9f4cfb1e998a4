-- The points of paths, as a table finds them.
use Rattle.std.specs.Prelude.{ℕ, List, ◌∷◌, Option, Some, None}
use Rattle.std.specs.Str.{bytes_eq}
use Rattle.indexmap.specs.IndexMap.{IndexMap, get}
use Rattle.cat_region.specs.declared.point.Point.{Point}
use Rattle.cat_guard.specs.declared.table.InputPath.{InputPath}

-- the numbers of a path: the item, and the fields that lead to the part
abbrev pub spelled : InputPath → List ℕ
spelled path = path.item ∷ path.fields

-- the point that a table has of a path
abbrev pub found_in : {S : Type 0} → IndexMap (List ℕ) Point S → InputPath → Option Point
found_in points path = get bytes_eq points (spelled path)

-- the first that there is
abbrev pub earlier : Option Point → Option Point → Option Point
earlier (Some x) later = Some x
earlier None later = later
