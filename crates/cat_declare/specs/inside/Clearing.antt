-- Whether faults stand.
use Rattle.std.specs.Prelude.{◌≡◌, List, [], Result, Ok, Err}
use Rattle.cat_scope.specs.Names.{IsOneOf}
use Rattle.cat_names.specs.declared.fault.Fault.{Fault}
use Rattle.cat_names.specs.declared.fault.Refusal.{Refusal}
use Rattle.cat_names.specs.declared.fault.Refusal.TheVariants.{Memory, Refused}

-- a refusal is one of some faults, or want of memory
abbrev pub IsAmong : Refusal → List Fault → Type 0
IsAmong Memory faults = Unit {0}
IsAmong (Refused fault) faults = IsOneOf fault faults

-- a reply: there are no faults, or one of them, or want of memory
abbrev pub Clears : {A : Type 0} → Result A Refusal → List Fault → Type 0
Clears (Ok a) faults = faults ≡ []
Clears (Err refusal) faults = IsAmong refusal faults
