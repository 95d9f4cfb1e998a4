-- What is found: an answer, or faults that stand in its place.
use Rattle.std.specs.Prelude.{◌≡◌, Bool, true, false, List, [], ◌∷◌, ◌++◌, Option, Some, None, Result, Ok, Err}
use Rattle.cat_scope.specs.Names.{IsOneOf}
use Rattle.cat_names.specs.declared.fault.Fault.{Fault}
use Rattle.cat_names.specs.declared.fault.Refusal.{Refusal}
use Rattle.cat_names.specs.declared.fault.Refusal.TheVariants.{Memory, Refused}

-- an answer, or faults that stand in its place: of a form itself where its parts have answers, and of what hangs on a
-- part only where that has one
abbrev pub Found : Type 0 → Type 0
Found A = Result A (List Fault)

-- one fault
abbrev pub faulty : {A : Type 0} → Fault → Found A
faulty fault = Err (fault ∷ [])

-- what follows from an answer; where a part has none, its faults stand alone, since what follows hangs on the part
abbrev pub and_then : {A B : Type 0} → Found A → (A → Found B) → Found B
and_then (Ok a) go = go a
and_then (Err faults) go = Err faults

-- what follows from the answers of two parts that don't hang on each other: the faults of both stand
abbrev pub both : {A B C : Type 0} → Found A → Found B → (A → B → Found C) → Found C
both (Ok a) (Ok b) go = go a b
both (Ok a) (Err faults) go = Err faults
both (Err faults) (Ok b) go = Err faults
both (Err faults) (Err more) go = Err (faults ++ more)

-- what is there, or a fault
abbrev pub or_fault : {A : Type 0} → Fault → Option A → Found A
or_fault fault (Some a) = Ok a
or_fault fault None = faulty fault

-- what is found where a test passes, or a fault
abbrev pub where_true : {A : Type 0} → Bool → Fault → Found A → Found A
where_true true fault found = found
where_true false fault found = faulty fault

-- what is found where there are no faults beside it, or those too
abbrev pub where_none : {A : Type 0} → List Fault → Found A → Found A
where_none [] found = found
where_none (fault ∷ more) (Ok a) = Err (fault ∷ more)
where_none (fault ∷ more) (Err faults) = Err (fault ∷ more ++ faults)

-- the faults that stand
abbrev pub faults_of : {A : Type 0} → Found A → List Fault
faults_of (Ok a) = []
faults_of (Err faults) = faults

-- a fault is one of those that stand
abbrev pub Stands : {A : Type 0} → Fault → Found A → Type 0
Stands fault found = IsOneOf fault (faults_of found)

-- a reply of the code: exactly what is found, or one of the faults that stand, or want of memory
abbrev pub Tells : {A : Type 0} → Result A Refusal → Found A → Type 0
Tells (Ok a) found = found ≡ Ok a
Tells (Err Memory) found = Unit {0}
Tells (Err (Refused fault)) found = Stands fault found

-- a fault, where a test passes
abbrev pub fault_if : Bool → Fault → List Fault
fault_if true fault = fault ∷ []
fault_if false fault = []

-- what each of some things gives, or the faults of all of them
abbrev pub each_found : {A B : Type 0} → (A → Found B) → List A → Found (List B)
each_found f [] = Ok []
each_found f (x ∷ xs) = both (f x) (each_found f xs) (λ y ys. Ok (y ∷ ys))
