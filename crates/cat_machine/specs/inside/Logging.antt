-- The end of a judging is logged.
use Rattle.std.specs.Prelude.{◌≡◌, ◌<◌, ℕ, List, ◌++◌, length, Option, Some, None}
use Rattle.cat_value.specs.declared.value.Value.{Value}
use Rattle.cat_scope.specs.Judging.{Held}
use Rattle.cat_code.specs.declared.code.Tables.{Tables}
use Rattle.cat_code.specs.Logged.{logged}
use Rattle.cat_pool.specs.Nodes.{values}
use Rattle.cat_machine.specs.declared.machine.Machine.{Machine}
use Rattle.cat_machine.specs.declared.machine.HeldRef.{HeldRef}
use Rattle.cat_machine.specs.States.{decided, held_of}

-- the definition that holds, where one does, is one of the tables
abbrev pub HeldHas : Tables → Option HeldRef → Type 0
HeldHas tables None = Unit {0}
HeldHas tables (Some h) = h.definition < length tables.definitions

-- the number of a definition that holds
abbrev pub number_of : Option HeldRef → Option ℕ
number_of None = None
number_of (Some h) = Some h.definition

-- what holds, with its value
abbrev pub found_of : Tables → List Value → Option HeldRef → Option (Held Value)
found_of tables vs None = None
found_of tables vs (Some h) = Some (held_of tables vs h)

-- the log has what the table logs more, and all else is as before
pub record LogsTarget (tables : Tables) (old new : Machine) (checked : Option ℕ) (found : Option HeldRef) : Type 0 where
  pub same : new ≡ record old { log = new.log }
  pub logs : decided tables new.log
      ≡ decided tables old.log ++ logged tables checked (found_of tables (values old.pool) found)
