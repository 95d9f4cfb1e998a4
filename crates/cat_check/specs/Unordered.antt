-- Bodies without the orders of their items.
use Rattle.std.specs.Prelude.{List, map, Result, Ok, Err}
use Rattle.cat_scope.specs.declared.defs.Body.{Body}
use Rattle.cat_names.specs.declared.fault.Refusal.{Refusal}
use Rattle.cat_names.specs.Accepted.{unordered}
use Rattle.cat_names.specs.Bodies.{UnorderedBody}

-- a body that was made, or why none was
abbrev pub without_order : Result Body Refusal → Result UnorderedBody Refusal
without_order (Ok body) = Ok (unordered body)
without_order (Err e) = Err e

-- bodies that were made, or why none were
abbrev pub without_orders : Result (List Body) Refusal → Result (List UnorderedBody) Refusal
without_orders (Ok bodies) = Ok (map unordered bodies)
without_orders (Err e) = Err e
