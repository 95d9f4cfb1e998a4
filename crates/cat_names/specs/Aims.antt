-- What definitions are for.
use Rattle.std.specs.Prelude.{ℕ, nat_eq, Bool, not, List, [], length, Option, Some, None, Ok, if◌then◌else◌}
use Rattle.std.specs.Option.{is_some}
use Rattle.cat_pos.specs.declared.pos.Pos.{Pos}
use Rattle.cat_value.specs.declared.ty.Ty.{Ty}
use Rattle.cat_value.specs.declared.declaration.ItemDecl.{ItemDecl}
use Rattle.cat_value.specs.declared.decls.Decls.{Decls}
use Rattle.cat_value.specs.declared.outcome.Target.{Target}
use Rattle.cat_value.specs.Inputs.{may_be_given}
use Rattle.cat_tree.specs.declared.name.Name.{Name}
use Rattle.cat_tree.specs.declared.program.TargetName.{TargetName}
use Rattle.cat_scope.specs.Names.{Names, scope_items}
use Rattle.cat_scope.specs.Naming.{is_defined}
use Rattle.cat_names.specs.declared.fault.Fault.{Fault}
use Rattle.cat_names.specs.declared.fault.Fault.TheVariants.{NameUnknown, TypeMismatch, Misplaced}
use Rattle.cat_names.specs.Found.{Found, faulty, and_then, or_fault, where_true}
use Rattle.cat_names.specs.Types.{structure_of}
use Rattle.cat_names.specs.Lookup.{item_named, scope_called}
use Rattle.cat_names.specs.Forms.{field_named}

-- what definitions are for: its target, the types of its parameters, its own, and whether it is a condition
pub record Aim : Type 0 where
  pub target : Target
  pub params : List Ty
  pub ty : Ty
  pub condition : Bool

-- a variable of the scope that is defined: no input of its own, and no called scope alone
abbrev pub own_aim : ℕ → Pos → Option (ℕ × ItemDecl) → Found Aim
own_aim scope p None = faulty (NameUnknown p)
own_aim scope p (Some i) = where_true (is_defined i.1) (Misplaced p) (Ok (record {
  target = record { scope = scope; item = i.0; inner = None };
  params = i.1.params;
  ty = i.1.ty;
  condition = i.1.condition;
}))

-- a variable of a called scope: an input or a context of it
abbrev pub inner_aim : ℕ → Pos → ℕ → ℕ × ItemDecl → Found Aim
inner_aim scope p item k = where_true (may_be_given k.1.kind) (Misplaced p) (Ok (record {
  target = record { scope = scope; item = item; inner = Some k.0 };
  params = [];
  ty = k.1.ty;
  condition = k.1.condition;
}))

-- what stands against `x.y` where x is no called scope: a field y of x is misplaced, and else y is unknown
abbrev pub part_fault : Decls → Pos → Name → Option ℕ → Fault
part_fault ds p y None = NameUnknown y.pos
part_fault ds p y (Some n) = if is_some (field_named ds n y.text) then Misplaced p else NameUnknown y.pos

-- `t.y`, where t is an item: a called scope, of which y is a variable and no scope that it calls
abbrev pub called_aim : Names → ℕ → Pos → Name → Option (ℕ × ItemDecl) → Found Aim
called_aim ns scope p y None = faulty (NameUnknown p)
called_aim ns scope p y (Some i) =
    and_then (or_fault (part_fault ns.decls p y (structure_of i.1.ty)) (scope_called i.1.kind)) (λ called.
    and_then (or_fault (NameUnknown y.pos) (item_named y.text (scope_items ns.decls called))) (λ k.
    where_true (not (is_some (scope_called k.1.kind))) (NameUnknown y.pos) (inner_aim scope p i.0 k)))

-- a target: one of the scope's own, or one of a scope that it calls
abbrev pub aim_at : Names → ℕ → Name → Option Name → Found Aim
aim_at ns scope w None = own_aim scope w.pos (item_named w.text ns.items)
aim_at ns scope w (Some y) = called_aim ns scope w.pos y (item_named w.text ns.items)

-- what a definition is for, with as many parameters as it names
abbrev pub aim_of : Names → ℕ → TargetName → Found Aim
aim_of ns scope t = and_then (aim_at ns scope t.name t.inner) (λ aim.
    where_true (nat_eq (length t.params) (length aim.params)) (TypeMismatch t.name.pos) (Ok aim))
