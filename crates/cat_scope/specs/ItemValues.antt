-- The value of an item, where those that stand before it are done.
use Rattle.std.specs.Prelude.{ℕ, ◌+◌, List, [], ◌∷◌, Option, Some, None, Result, Ok, if◌then◌else◌}
use Rattle.cat_pos.specs.declared.pos.Pos.{Pos}
use Rattle.cat_value.specs.declared.value.Value.{Value}
use Rattle.cat_value.specs.declared.value.Value.TheViews as value
use Rattle.cat_value.specs.declared.ty.Ty.{Ty}
use Rattle.cat_value.specs.declared.declaration.Kind.{Kind}
use Rattle.cat_value.specs.declared.declaration.Kind.TheVariants as kind
use Rattle.cat_value.specs.declared.declaration.ItemDecl.{ItemDecl}
use Rattle.cat_value.specs.Inputs.{must_be_given, may_be_given}
use Rattle.cat_value.specs.declared.outcome.Target.{Target}
use Rattle.cat_scope.specs.declared.stop.Stop.{Stop}
use Rattle.cat_scope.specs.declared.stop.Stop.TheVariants.{Stuck}
use Rattle.cat_scope.specs.Replies.{on_one}
use Rattle.cat_scope.specs.Runs.{Run, gives, stops, and_then, giving, in_front}
use Rattle.cat_scope.specs.Judging.{Held, Judged, decided}
use Rattle.cat_scope.specs.Targets.{absent}
use Rattle.cat_scope.specs.Calls.{Items, Scoped, variable, variable_of_called, items_of, judging_of, variable_value}
use Rattle.cat_scope.specs.Calls.{call}

-- an input or a context of a called scope: nothing where a context is Empty
abbrev pub passed : Target → Pos → ItemDecl → Option (Held Value) → Result (Option Value) Stop
passed target pos decl None =
    if must_be_given decl.kind
    then on_one (absent target pos decl.condition) (λ v. Ok (Some v))
    else Ok None
passed target pos decl (Some h) = Ok (Some h.value)

-- the input of a called scope: its inputs and contexts from number n on, in the order of their declarations
abbrev pub passed_input : (ℕ → Judged Value) → (ℕ → Target) → Pos → ℕ → List ItemDecl → Run Items
passed_input judged_at target_at pos n [] = gives []
passed_input judged_at target_at pos n (decl ∷ decls) =
    in_front
    (if may_be_given decl.kind
    then giving (decided (target_at n) (judged_at n)) (passed (target_at n) pos decl)
    else gives None)
    (passed_input judged_at target_at pos (n + 1) decls)

-- the judging of input or context n of a called scope
abbrev pub inner_judging : Scoped → List ℕ → Items → ℕ → ℕ → Judged Value
inner_judging scoped before values item n =
    judging_of scoped (call scoped values before) values [] (variable_of_called scoped item n)

-- a called scope: its inputs and contexts are judged, and then it is run
abbrev pub called_value : Scoped → List ℕ → Items → ℕ → ItemDecl → ℕ → Run Value
called_value scoped before values item decl called =
    and_then
    (passed_input (inner_judging scoped before values item) (variable_of_called scoped item) decl.pos 0
    (items_of scoped called))
    (λ input. and_then (scoped.runs called input) (λ outputs. gives (value.Structure outputs)))

-- a function is passed over, and any other variable is judged
abbrev pub defined_value : Scoped → List ℕ → Items → ℕ → ItemDecl → List Ty → Run (Option Value)
defined_value scoped before values item decl [] =
    and_then
    (variable_value (variable scoped item) (Some decl)
    (decided (variable scoped item) (judging_of scoped (call scoped values before) values [] (variable scoped item))))
    (λ v. gives (Some v))
defined_value scoped before values item decl (t ∷ ts) = gives None

-- a value that is not given: of a called scope its outputs, and otherwise what its definitions give
abbrev pub ungiven_value : Scoped → List ℕ → Items → ℕ → ItemDecl → Kind → Run (Option Value)
ungiven_value scoped before values item decl (kind.Called called) =
    and_then (called_value scoped before values item decl called) (λ v. gives (Some v))
ungiven_value scoped before values item decl _ = defined_value scoped before values item decl decl.params

-- a given value stands as it is
abbrev pub item_value : Scoped → List ℕ → Items → ℕ → Option Value → Option ItemDecl → Run (Option Value)
item_value scoped before values item (Some v) decl = gives (Some v)
item_value scoped before values item None None = stops Stuck
item_value scoped before values item None (Some decl) = ungiven_value scoped before values item decl decl.kind
