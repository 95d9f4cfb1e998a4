-- Why there is no program.
use Rattle.cat_names.specs.declared.fault.Fault.{Fault}
use Rattle.cat_names.specs.declared.fault.Refusal.{Refusal}
use Rattle.cat_names.specs.declared.fault.Refusal.TheVariants.{Memory, Refused}

-- a refusal tells a fault that stands; want of memory has no cause
abbrev pub Because : (Fault → Type 0) → Refusal → Type 0
Because DoesStand Memory = Unit {0}
Because DoesStand (Refused fault) = DoesStand fault
