-- What single forms are, where their parts are known.
use Rattle.std.specs.Prelude.{ℕ, List, Option, Some, Ok, nat_eq, option_map, option_and_then}
use Rattle.cat_pos.specs.declared.pos.Pos.{Pos}
use Rattle.cat_value.specs.declared.ty.Ty.{Ty}
use Rattle.cat_value.specs.declared.ty.Ty.TheVariants as flat_ty
use Rattle.cat_value.specs.declared.ty.Ty.TheViews as ty
use Rattle.cat_value.specs.declared.declaration.Field.{Field}
use Rattle.cat_value.specs.declared.decls.Decls.{Decls}
use Rattle.cat_value.specs.declared.declaration.ItemDecl.{ItemDecl}
use Rattle.cat_value.specs.Entries.{fields_of}
use Rattle.cat_tree.specs.declared.name.Name.{Name}
use Rattle.cat_tree.specs.declared.expression.Each.{Each}
use Rattle.cat_tree.specs.declared.expression.Each.TheVariants as each
use Rattle.cat_scope.specs.declared.expr.Expr.{Expr}
use Rattle.cat_scope.specs.declared.expr.Expr.TheVariants as leaf
use Rattle.cat_scope.specs.declared.expr.Expr.TheViews as expr
use Rattle.cat_scope.specs.Names.{Names, scope_items}
use Rattle.cat_value.specs.Inputs.{outputs_in}
use Rattle.cat_scope.specs.Fitting.{is_low_type, given_type}
use Rattle.cat_names.specs.declared.fault.Fault.TheVariants.{NameUnknown, TypeMismatch, TooMany}
use Rattle.cat_names.specs.declared.typed.Typed.{Typed}
use Rattle.cat_names.specs.declared.typed.Local.{Local}
use Rattle.cat_names.specs.Found.{Found, and_then, or_fault, where_true}
use Rattle.cat_names.specs.Types.{same, structure_of, enumeration_of}
use Rattle.cat_names.specs.Lookup.{first_named, item_named}
use Rattle.cat_names.specs.Naming.{typed, Called}
use Rattle.cat_names.specs.Operations.{operated}

-- the field of that name, with its number and its type
abbrev pub field_among : List ℕ → List Field → Option (ℕ × Ty)
field_among w fields = option_map (λ f. (f.0, f.1.ty)) (first_named (λ f. f.name) w fields)

-- the field of that name of a structure
abbrev pub field_named : Decls → ℕ → List ℕ → Option (ℕ × Ty)
field_named ds n w = option_and_then (field_among w) (fields_of ds n)

-- a field of a structure
abbrev pub field_of : Names → Name → Typed → Found Typed
field_of ns w e =
    and_then (or_fault (TypeMismatch e.first) (structure_of e.ty)) (λ n.
    and_then (or_fault (NameUnknown w.pos) (field_named ns.decls n w.text)) (λ f.
    Ok (typed e.first (expr.Field e.first e.expr f.0) f.1)))

-- an item that may be given, with its number and its type
abbrev pub given_item : ℕ × ItemDecl → Option (ℕ × Ty)
given_item i = option_map (λ t. (i.0, t)) (given_type (Some i.1))

-- the input or context of that name of a scope, with its number and its type
abbrev pub input_named : Decls → ℕ → List ℕ → Option (ℕ × Ty)
input_named ds scope w = option_and_then given_item (item_named w (scope_items ds scope))

-- the output of that name of a scope, with its number among the outputs and its type
abbrev pub output_named : Decls → ℕ → List ℕ → Option (ℕ × Ty)
output_named ds scope w = option_map (λ i. (i.0, i.1.ty)) (item_named w (outputs_in (scope_items ds scope)))

-- an output of a called scope
abbrev pub output_of : Names → Name → Called → Found Typed
output_of ns w called =
    and_then (or_fault (NameUnknown w.pos) (output_named ns.decls called.scope w.text)) (λ o.
    Ok (typed called.first (leaf.Output called.first called.item o.0) o.1))

-- a choice between two branches
abbrev pub if_of : Pos → Typed → Typed × Typed → Found Typed
if_of p c branches = where_true (same flat_ty.Boolean c.ty) (TypeMismatch p)
    (Ok (typed p (expr.If p c.expr branches.0.expr branches.1.expr) branches.0.ty))

-- a test for a case of the enumeration of what is tested
abbrev pub test_of : Pos → Typed → ℕ × ℕ → Found Typed
test_of p e k =
    and_then (or_fault (TypeMismatch p) (enumeration_of e.ty)) (λ n.
    where_true (nat_eq k.0 n) (TypeMismatch p)
    (Ok (operated e.first p (expr.IsCase e.first e.expr n k.1) flat_ty.Boolean)))

-- a list of elements of that type, unless it is higher than types may be
abbrev pub low_list : Names → Pos → Expr → Ty → Found Typed
low_list ns p e t = where_true (is_low_type ns.decls (ty.List t)) (TooMany p) (Ok (typed p e (ty.List t)))

-- a form that goes over a list, with its body
abbrev pub each_of : Names → Each → Pos → Typed → Typed → Found Typed
each_of ns each.ForAll p l body = where_true (same flat_ty.Boolean body.ty) (TypeMismatch p)
    (Ok (typed p (expr.ForAll p l.expr body.expr) flat_ty.Boolean))
each_of ns each.Exists p l body = where_true (same flat_ty.Boolean body.ty) (TypeMismatch p)
    (Ok (typed p (expr.Exists p l.expr body.expr) flat_ty.Boolean))
each_of ns each.MapEach p l body = low_list ns p (expr.Map p l.expr body.expr) body.ty
each_of ns each.ListOf p l body = where_true (same flat_ty.Boolean body.ty) (TypeMismatch p)
    (Ok (typed p (expr.Filter p l.expr body.expr) l.ty))

-- a name that is bound to something of that type
abbrev pub bound : Name → Ty → Local
bound w t = record { name = w.text; ty = t }

-- what comes of combining the elements of a list, with its start and its body
abbrev pub combine_of : Pos → Typed → Typed → Typed → Found Typed
combine_of p l start body = Ok (typed p (expr.Combine p l.expr start.expr body.expr) start.ty)
