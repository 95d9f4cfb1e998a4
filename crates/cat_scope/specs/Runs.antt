-- What an evaluation gives: a log of what was decided on the way, in its order, with a value or the first stop.
use Rattle.std.specs.Prelude.{Bool, true, false, List, [], ◌∷◌, ◌++◌, Option, Result, Ok, Err}
use Rattle.cat_pos.specs.declared.pos.Pos.{Pos}
use Rattle.cat_value.specs.declared.value.Value.{Value}
use Rattle.cat_value.specs.declared.outcome.Target.{Target}
use Rattle.cat_scope.specs.declared.stop.Stop.{Stop}
use Rattle.cat_scope.specs.Projections.{truth}

-- a target whose judging ended, and the position of the definition that held there, or none where it is Empty
pub record Decider : Type 0 where
  pub target : Target
  pub by : Option Pos

-- what was decided on the way, and what came of it
pub record Run (A : Type 0) : Type 0 where
  pub log : List Decider
  pub end : Result A Stop

-- nothing is decided on the way
abbrev pub plain : {A : Type 0} → Result A Stop → Run A
plain end = record { log = []; end = end }

-- a value alone
abbrev pub gives : {A : Type 0} → A → Run A
gives a = plain (Ok a)

-- a stop alone
abbrev pub stops : {A : Type 0} → Stop → Run A
stops stop = plain (Err stop)

-- what is decided later stands behind
abbrev pub behind : {A B : Type 0} → List Decider → Result A Stop → (A → Run B) → Run B
behind log (Ok a) next = record { log = log ++ (next a).log; end = (next a).end }
behind log (Err stop) next = record { log = log; end = Err stop }

-- goes on with what is there, and passes a stop on
abbrev pub and_then : {A B : Type 0} → Run A → (A → Run B) → Run B
and_then run next = behind run.log run.end next

-- goes on where nothing more is decided
abbrev pub giving : {A B : Type 0} → Run A → (A → Result B Stop) → Run B
giving run next = and_then run (λ a. plain (next a))

-- one more in front of those that follow, or the first stop
abbrev pub in_front : {A : Type 0} → Run A → Run (List A) → Run (List A)
in_front first rest = and_then first (λ a. and_then rest (λ more. gives (a ∷ more)))

-- one of two, by a truth value
abbrev pub either : {A : Type 0} → Result Bool Stop → Run A → Run A → Run A
either (Ok true) one other = one
either (Ok false) one other = other
either (Err stop) one other = stops stop

-- one of two, by a value that is a boolean
abbrev pub choose : {A : Type 0} → Value → Run A → Run A → Run A
choose value one other = either (truth value) one other
