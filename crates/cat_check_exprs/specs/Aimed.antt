-- What definitions are for, as it is lent.
use Rattle.std.specs.Prelude.{ℕ, Result, Ok, Err}
use Rattle.std.specs.Option.{is_some}
use Rattle.std.specs.Prelude.{not}
use Rattle.cat_pos.specs.declared.pos.Pos.{Pos}
use Rattle.cat_value.specs.declared.decls.Decls.{Decls}
use Rattle.cat_tree.specs.declared.name.Name.{Name}
use Rattle.cat_scope.specs.Names.{scope_items}
use Rattle.cat_names.specs.declared.fault.Fault.TheVariants.{NameUnknown}
use Rattle.cat_names.specs.declared.fault.Refusal.{Refusal}
use Rattle.cat_names.specs.Aims.{Aim, inner_aim}
use Rattle.cat_names.specs.Found.{Found, and_then, or_fault, where_true}
use Rattle.cat_names.specs.Lookup.{item_named, scope_called}
use Rattle.cat_check_exprs.specs.declared.aims.Aim as aims

-- what is lent of an aim, as it is
abbrev pub aim_lent : aims.Aim → Aim
aim_lent a = record { target = a.target; params = a.params.now; ty = a.ty.now; condition = a.condition }

-- an aim that was found, or why none was
abbrev pub lent : Result aims.Aim Refusal → Result Aim Refusal
lent (Ok a) = Ok (aim_lent a)
lent (Err e) = Err e

-- the variable y of a called scope, where item is what calls that
abbrev pub inner_in : Decls → ℕ → Pos → Name → ℕ → ℕ → Found Aim
inner_in ds scope p y item called = and_then (or_fault (NameUnknown y.pos) (item_named y.text (scope_items ds called)))
    (λ k. where_true (not (is_some (scope_called k.1.kind))) (NameUnknown y.pos) (inner_aim scope p item k))
