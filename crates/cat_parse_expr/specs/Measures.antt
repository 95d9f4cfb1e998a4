-- Expressions with what counts of them: their height, how they stand as left operands, whether they end in a match.
use Rattle.std.specs.Prelude.{ℕ, suc, max, nat_eq, cond, Bool, false, [], ◌∷◌, ◌++◌}
use Rattle.cat_tree.specs.declared.name.Name.{Name}
use Rattle.cat_tree.specs.declared.expression.Pattern.{Pattern}
use Rattle.cat_tree.specs.declared.expression.Node.{Node}
use Rattle.cat_parse_expr.specs.declared.measured.Measured.{Measured}
use Rattle.cat_parse_expr.specs.declared.measured.MeasuredNodes.{MeasuredNodes}
use Rattle.cat_parse_expr.specs.declared.measured.MeasuredFields.{MeasuredFields}
use Rattle.cat_parse_expr.specs.declared.measured.MatchArms.{MatchArms}

-- an expression without parts
abbrev pub leaf : Node → Measured
leaf n = record { node = n; height = 1; strength = 9; in_match = false }

-- one that ends in a word, or in a part that is no form
abbrev pub closed : (level tallest : ℕ) → Node → Measured
closed k tallest n = record { node = n; height = suc tallest; strength = k; in_match = false }

-- one that ends in a part of that strength
abbrev pub ending : (level tallest strength : ℕ) → Bool → Node → Measured
ending k tallest strength in_match n =
    record { node = n; height = suc tallest; strength = cond (nat_eq strength 0) 0 k; in_match = in_match }

-- a form that ends in a part
abbrev pub form : (tallest : ℕ) → Bool → Node → Measured
form tallest in_match n = record { node = n; height = suc tallest; strength = 0; in_match = in_match }

-- one element more
abbrev pub with_element : MeasuredNodes → Measured → MeasuredNodes
with_element l e = record { nodes = l.nodes ++ e.node ∷ []; tallest = max l.tallest e.height }

-- one field more
abbrev pub with_field : MeasuredFields → Name → Measured → MeasuredFields
with_field l w e =
    record { values = l.values ++ record { name = w; value = e.node } ∷ []; tallest = max l.tallest e.height }

-- one arm more
abbrev pub with_arm : MatchArms → Pattern → Measured → MatchArms
with_arm l p e = record {
  arms = l.arms ++ record { pattern = p; body = e.node } ∷ [];
  tallest = max l.tallest e.height;
  in_match = e.in_match;
}

-- no element yet
abbrev pub no_elements : MeasuredNodes
no_elements = record { nodes = []; tallest = 0 }

-- no field yet
abbrev pub no_fields : MeasuredFields
no_fields = record { values = []; tallest = 0 }

-- no arm yet
abbrev pub no_arms : MatchArms
no_arms = record { arms = []; tallest = 0; in_match = false }
