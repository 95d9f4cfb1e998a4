-- What an evaluation shows of an input.
use Rattle.std.specs.Prelude.{◌≡◌, ℕ, List, Option, Some, Ok, slice_get}
use Rattle.cat_value.specs.declared.value.Value.{Value}
use Rattle.cat_region.specs.declared.point.Point.{Point}
use Rattle.cat_scope.specs.Eval.{Env}
use Rattle.cat_scope.specs.Replies.{Reply}
use Rattle.cat_guard.specs.declared.table.InputPath.{InputPath}
use Rattle.cat_guard.specs.declared.table.Term.{Term}
use Rattle.cat_guard.specs.PointValues.{point_of}

-- items have the values that an input gives them
abbrev pub AreGiven : Env → List (Option Value) → Type 0
AreGiven env input = (i : ℕ) (v : Value) → slice_get input i ≡ Some (Some v) → slice_get env.items i ≡ Some (Some v)

-- a term is an input variable, or a part of one
abbrev pub IsFree : Term → Type 0
IsFree term = (path : InputPath) × (term.path ≡ Some path)

-- a reply is a value in which cuts see a point
abbrev pub IsSeenAs : Reply → Point → Type 0
IsSeenAs reply x = (v : Value) × (reply ≡ Ok v) × (point_of v ≡ Some x)
