-- What comes of values where nothing is decided: a value, or the first stop in its place.
use Rattle.std.specs.Prelude.{List, ◌∷◌, Option, Some, None, Result, Ok, Err}
use Rattle.cat_pos.specs.declared.pos.Pos.{Pos}
use Rattle.cat_num.specs.declared.fault.NumFault.{NumFault}
use Rattle.cat_num.specs.declared.fault.NumFault.TheVariants as num
use Rattle.cat_date.specs.declared.fault.DateFault.{DateFault}
use Rattle.cat_date.specs.declared.fault.DateFault.TheVariants as date
use Rattle.cat_value.specs.declared.value.Value.{Value}
use Rattle.cat_value.specs.declared.outcome.FaultKind.TheVariants as kind
use Rattle.cat_scope.specs.declared.stop.Stop.{Stop}
use Rattle.cat_scope.specs.declared.stop.Stop.TheVariants.{Fault, Stuck}

-- a value, or a stop
abbrev pub Reply : Type 0
Reply = Result Value Stop

-- goes on with what is there, and passes a stop on
abbrev pub on_one : {A B : Type 0} → Result A Stop → (A → Result B Stop) → Result B Stop
on_one (Ok a) next = next a
on_one (Err stop) next = Err stop

-- what may be missing, where nothing may be missing
abbrev pub known : {A : Type 0} → Option A → Result A Stop
known (Some a) = Ok a
known None = Err Stuck

-- the value of an item that is done
abbrev pub evaluated : Option (Option Value) → Reply
evaluated (Some value) = known value
evaluated None = Err Stuck

-- one more in front of those that follow, or the first stop
abbrev pub with_front : {A : Type 0} → Result A Stop → Result (List A) Stop → Result (List A) Stop
with_front first rest = on_one first (λ a. on_one rest (λ more. Ok (a ∷ more)))

-- the stop at a position for which an exact result does not fit, or has a divisor 0
abbrev pub num_stop : Pos → NumFault → Stop
num_stop pos num.Overflow = Fault kind.Overflow pos
num_stop pos num.DivisionByZero = Fault kind.DivisionByZero pos

-- the stop at a position of a date or a duration; none of the operators is refused as no day
abbrev pub date_stop : Pos → DateFault → Stop
date_stop pos date.Overflow = Fault kind.Overflow pos
date_stop pos date.AmbiguousDate = Fault kind.AmbiguousDate pos
date_stop pos date.Uncomparable = Fault kind.Uncomparable pos
date_stop pos date.NotADay = Stuck

-- an exact result as a value, or its fault at a position
abbrev pub exact : {A : Type 0} → Pos → (A → Value) → Result A NumFault → Reply
exact pos make (Ok a) = Ok (make a)
exact pos make (Err fault) = Err (num_stop pos fault)

-- a result of dates and durations, or its fault at a position
abbrev pub dated : {A B : Type 0} → Pos → (A → B) → Result A DateFault → Result B Stop
dated pos make (Ok a) = Ok (make a)
dated pos make (Err fault) = Err (date_stop pos fault)
