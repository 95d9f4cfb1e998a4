-- The scopes that an audit goes through.
use Rattle.std.specs.Prelude.{◌≡◌, ◌↔◌, ℕ, Bool, IsTrue, List, [], ◌∷◌, ◌++◌, filter}
use Rattle.cat_order.specs.Order.{dependencies_of}
use Rattle.cat_order.specs.Cycle.{DependsOn}
use Rattle.cat_scope.specs.declared.programs.Program.{Program}
use Rattle.cat_scope.specs.Names.{AllHave, is_in}
use Rattle.cat_scope.specs.Orders.{scope_dependencies}

-- a number is reached from another by any number of dependencies
pub data IsReached (deps : List (List ℕ)) (from : ℕ) : ℕ → Type 0 where
  itself : IsReached deps from from
  further : (via to : ℕ) → IsReached deps from via → DependsOn deps via to → IsReached deps from to

-- the scopes that each scope of a program calls
abbrev pub calls_in : Program → List (List ℕ)
calls_in program = scope_dependencies program.decls.scopes program.bodies

-- the scopes that a scope calls, directly or not, and that scope itself: those of the program's order that are reached
pub record AreReachedFrom (program : Program) (scope : ℕ) (scopes : List ℕ) : Type 0 where
  pub is_reached : ℕ → Bool
  pub decides : (n : ℕ) → IsTrue (is_reached n) ↔ IsReached (calls_in program) scope n
  pub scopes_are : scopes ≡ filter is_reached program.scope_order

-- each number stands behind those that it depends on
abbrev pub StandBehind : List (List ℕ) → List ℕ → Type 0
StandBehind deps ns = (front back : List ℕ) (n : ℕ) → ns ≡ front ++ n ∷ back
    → AllHave (λ m. IsTrue (is_in m front)) (dependencies_of deps n)

-- a number stands at the end of a list
abbrev pub EndsWith : ℕ → List ℕ → Type 0
EndsWith n ns = (front : List ℕ) × (ns ≡ front ++ n ∷ [])
