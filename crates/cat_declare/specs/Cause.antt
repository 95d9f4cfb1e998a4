-- Why a tree declares nothing.
use Rattle.cat_tree.specs.declared.program.Tree.{Tree}
use Rattle.cat_names.specs.Accepted.{IsRefused}
use Rattle.cat_names.specs.declared.fault.Refusal.{Refusal}
use Rattle.cat_names.specs.declared.fault.Refusal.TheVariants.{Memory, Refused}

-- a fault stands against the tree; want of memory has no cause in it
abbrev pub HasCause : Tree → Refusal → Type 0
HasCause tree Memory = Unit {0}
HasCause tree (Refused fault) = IsRefused tree fault
