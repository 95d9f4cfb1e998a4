-- How high the parts of an expression are.
use Rattle.std.specs.Prelude.{ℕ, max, List, [], ◌∷◌}
use Rattle.cat_tree.specs.declared.expression.Node.{Node}
use Rattle.cat_tree.specs.declared.expression.SurfaceField.{SurfaceField}
use Rattle.cat_tree.specs.declared.expression.SurfaceArm.{SurfaceArm}
use Rattle.cat_tree.specs.Phrase.{Phrase, Row, tallest}
use Rattle.cat_tree.specs.Grammar.{phrase}
use Rattle.cat_tree.specs.Spells.{height_of}

-- the height of the highest part, 0 without parts
abbrev pub tallest_part : Phrase → ℕ
tallest_part (Row r ps) = tallest ps

-- the height of an expression's highest part, 0 where it has none
abbrev pub highest_part : Node → ℕ
highest_part e = tallest_part (phrase e)

-- the height of the highest of some expressions, 0 where there are none
abbrev pub highest_node : List Node → ℕ
highest_node [] = 0
highest_node (e ∷ es) = max (height_of e) (highest_node es)

-- the height of the highest of some fields' values
abbrev pub highest_value : List SurfaceField → ℕ
highest_value [] = 0
highest_value (f ∷ fs) = max (height_of f.value) (highest_value fs)

-- the height of the highest of some arms' bodies
abbrev pub highest_body : List SurfaceArm → ℕ
highest_body [] = 0
highest_body (a ∷ more) = max (height_of a.body) (highest_body more)
