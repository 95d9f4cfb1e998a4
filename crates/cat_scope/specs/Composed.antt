-- How the values of its parts make the value of an expression.
use Rattle.std.specs.Prelude.{ℕ, zero, suc, ◌+◌, Bool, true, false, List, [], ◌∷◌, ◌++◌, length, Option, Some, None}
use Rattle.std.specs.Prelude.{Result, Ok, Err, slice_get, nat_eq, if◌then◌else◌}
use Rattle.cat_num.specs.Numerals.{numeral_value}
use Rattle.cat_value.specs.declared.value.Value.{Value}
use Rattle.cat_value.specs.declared.value.Value.TheVariants as flat
use Rattle.cat_value.specs.declared.value.Value.TheViews as value
use Rattle.cat_scope.specs.declared.stop.Stop.{Stop}
use Rattle.cat_scope.specs.declared.stop.Stop.TheVariants.{Stuck}
use Rattle.cat_scope.specs.declared.expr.Literal.{Literal}
use Rattle.cat_scope.specs.declared.expr.Literal.TheVariants as literal
use Rattle.cat_scope.specs.declared.expr.ArmPattern.{ArmPattern}
use Rattle.cat_scope.specs.declared.expr.ArmPattern.TheVariants as pattern
use Rattle.cat_scope.specs.Replies.{Reply, on_one, known, with_front}
use Rattle.cat_scope.specs.Runs.{Run, plain, gives, stops, and_then, giving, in_front}
use Rattle.cat_scope.specs.Projections.{elements, parts}

-- what an expression gives, where its local names have these values
abbrev pub Meaning : Type 0
Meaning = List Value → Run Value

-- a literal as its value
abbrev pub literal_value : Literal → Value
literal_value (literal.Boolean b) = flat.Boolean b
literal_value (literal.Integer n) = flat.Integer n
literal_value (literal.Decimal d) = flat.Decimal (numeral_value d)
literal_value (literal.Money cents) = flat.Money cents
literal_value (literal.Date day) = flat.Date day
literal_value (literal.Duration span) = flat.Duration span

-- part k of a structure
abbrev pub part : ℕ → Value → Reply
part k v = on_one (parts v) (λ vs. known (slice_get vs k))

-- the values of some expressions, from the left
abbrev pub all_of : List Meaning → List Value → Run (List Value)
all_of [] locals = gives []
all_of (e ∷ es) locals = in_front (e locals) (all_of es locals)

-- the values of some fields, in written order
abbrev pub field_values : List (ℕ × Meaning) → List Value → Run (List (ℕ × Value))
field_values [] locals = gives []
field_values (f ∷ fs) locals = in_front (and_then (f.1 locals) (λ v. gives (f.0, v))) (field_values fs locals)

-- what is given for number k
abbrev pub value_given : ℕ → List (ℕ × Value) → Option Value
value_given k [] = None
value_given k (f ∷ fs) = if nat_eq k f.0 then Some f.1 else value_given k fs

-- what is given for n numbers from k on, in their order
abbrev pub in_order : ℕ → ℕ → List (ℕ × Value) → Result (List Value) Stop
in_order zero k fs = Ok []
in_order (suc n) k fs = with_front (known (value_given k fs)) (in_order n (k + 1) fs)

-- a structure of the values of its fields, in the order of their declarations
abbrev pub structured : List (ℕ × Value) → Reply
structured fs = on_one (in_order (length fs) 0 fs) (λ vs. Ok (value.Structure vs))

-- the local names of an arm's body, where the arm is one for this case
abbrev pub arm_locals : Bool → Option Value → List Value → Result (List Value) Stop
arm_locals false content locals = Ok locals
arm_locals true (Some v) locals = Ok (locals ++ v ∷ [])
arm_locals true None locals = Err Stuck

-- an arm for this case, or what the arms behind it give
abbrev pub arm_value : ArmPattern → Meaning → Run Value → ℕ → Option Value → List Value → Run Value
arm_value pattern.Anything body rest k content locals = body locals
arm_value (pattern.Case case bound) body rest k content locals =
    if nat_eq k case then and_then (plain (arm_locals bound content locals)) body else rest

-- the first arm that is for the case
abbrev pub matched : List (ArmPattern × Meaning) → ℕ → Option Value → List Value → Run Value
matched [] k content locals = stops Stuck
matched (a ∷ arms) k content locals = arm_value a.0 a.1 (matched arms k content locals) k content locals

-- the elements of the list that an expression gives
abbrev pub listed : Meaning → List Value → Run (List Value)
listed l locals = giving (l locals) elements
