-- What names stand for in expressions: bound names, items, functions, called scopes, cases and structures.
use Rattle.std.specs.Prelude.{ℕ, List, [], ◌∷◌, Option, Some, None, Ok, slice_get, option_map, option_and_then}
use Rattle.cat_pos.specs.declared.pos.Pos.{Pos}
use Rattle.cat_value.specs.declared.ty.Ty.{Ty}
use Rattle.cat_value.specs.declared.decls.Decls.{Decls}
use Rattle.cat_value.specs.declared.declaration.ItemDecl.{ItemDecl}
use Rattle.cat_tree.specs.declared.name.Name.{Name}
use Rattle.cat_tree.specs.declared.name.CaseName.{CaseName}
use Rattle.cat_tree.specs.declared.name.CaseName.TheVariants as case
use Rattle.cat_scope.specs.declared.expr.Expr.{Expr}
use Rattle.cat_scope.specs.declared.expr.Expr.TheVariants as leaf
use Rattle.cat_scope.specs.Names.{Names, scope_items, is_plain, is_function}
use Rattle.cat_names.specs.declared.fault.Fault.TheVariants.{NameUnknown, TypeMismatch}
use Rattle.cat_names.specs.declared.typed.Typed.{Typed}
use Rattle.cat_names.specs.declared.typed.Local.{Local}
use Rattle.cat_names.specs.Found.{Found, faulty, and_then, or_fault, where_true}
use Rattle.cat_names.specs.Types.{structure_of, enumeration_of}
use Rattle.cat_names.specs.Lookup.{innermost, item_named, scope_named, scope_called, type_named, type_names, case_named}
use Rattle.cat_names.specs.Lookup.{cases_named}

-- what names stand for in the scope of that number
abbrev pub names_in_scope : Decls → ℕ → Names
names_in_scope ds scope = record { decls = ds; items = scope_items ds scope }

-- an expression with its type; that this is not the type wanted stands at the first token
abbrev pub typed : Pos → Expr → Ty → Typed
typed p e t = record { first = p; operator = p; expr = e; ty = t }

-- ---- names of items and bound names

-- an item that is used as a value: a variable that is no function
abbrev pub item_found : Pos → Option (ℕ × ItemDecl) → Found Typed
item_found p None = faulty (NameUnknown p)
item_found p (Some i) = where_true (is_plain i.1) (TypeMismatch p) (Ok (typed p (leaf.Item p i.0) i.1.ty))

-- a bound name where there is one, or else an item
abbrev pub bound_or_item : Names → Name → Option (ℕ × Ty) → Found Typed
bound_or_item ns w (Some l) = Ok (typed w.pos (leaf.Local w.pos l.0) l.1)
bound_or_item ns w None = item_found w.pos (item_named w.text ns.items)

-- what a name stands for as a value: the innermost bound name, or else an item
abbrev pub name_found : Names → Name → List Local → Found Typed
name_found ns w locals = bound_or_item ns w (innermost w.text locals)

-- an item that is called: a function
abbrev pub called_item : Pos → Option (ℕ × ItemDecl) → Found (ℕ × ItemDecl)
called_item p None = faulty (NameUnknown p)
called_item p (Some i) = where_true (is_function i.1) (TypeMismatch p) (Ok i)

-- a bound name is no function, and it hides an item
abbrev pub unbound_function : Names → Name → Option (ℕ × Ty) → Found (ℕ × ItemDecl)
unbound_function ns w (Some l) = faulty (TypeMismatch w.pos)
unbound_function ns w None = called_item w.pos (item_named w.text ns.items)

-- what a name stands for where it is called
abbrev pub function_found : Names → Name → List Local → Found (ℕ × ItemDecl)
function_found ns w locals = unbound_function ns w (innermost w.text locals)

-- a called scope in front of `.`: its first token, its item and its scope
pub record Called : Type 0 where
  pub first : Pos
  pub item : ℕ
  pub scope : ℕ

-- an item of that number that calls a scope, where it calls one
abbrev pub calling : Pos → ℕ → Option ℕ → Option Called
calling p item None = None
calling p item (Some scope) = Some (record { first = p; item = item; scope = scope })

-- an item that is a called scope
abbrev pub as_called : Pos → Option (ℕ × ItemDecl) → Option Called
as_called p None = None
as_called p (Some i) = calling p i.0 (scope_called i.1.kind)

-- a called scope that no bound name hides
abbrev pub unbound_scope : Names → Name → Option (ℕ × Ty) → Option Called
unbound_scope ns t (Some l) = None
unbound_scope ns t None = as_called t.pos (item_named t.text ns.items)

-- the called scope that the base of `.` is, where it is a name alone
abbrev pub called_scope : Names → Option Name → List Local → Option Called
called_scope ns None locals = None
called_scope ns (Some t) locals = unbound_scope ns t (innermost t.text locals)

-- ---- names of types and cases

-- a case without its enumeration: the only one of that name that any enumeration declares
abbrev pub only_case : Pos → List (ℕ × ℕ) → Found (ℕ × ℕ)
only_case p (k ∷ []) = Ok k
only_case p _ = faulty (NameUnknown p)

-- a case of a type: of an enumeration, since a structure has none
abbrev pub case_of_type : Names → Name → Ty → Found (ℕ × ℕ)
case_of_type ns c t = and_then (or_fault (NameUnknown c.pos) (enumeration_of t)) (λ n.
    or_fault (NameUnknown c.pos) (option_and_then (λ e. case_named c.text (n, e)) (slice_get ns.decls.enumerations n)))

-- the case that is named: its enumeration and its number in it
abbrev pub case_found : Names → CaseName → Found (ℕ × ℕ)
case_found ns (case.Bare c) = only_case c.pos (cases_named c.text ns.decls.enumerations)
case_found ns (case.Qualified u c) =
    and_then (or_fault (NameUnknown u.pos) (type_named (type_names ns.decls) u.text)) (case_of_type ns c)

-- the first token of a case
abbrev pub case_first : CaseName → Pos
case_first (case.Bare c) = c.pos
case_first (case.Qualified u c) = u.pos

-- the structure that is named: an enumeration is none
abbrev pub structure_found : Names → Name → Found ℕ
structure_found ns u = and_then (or_fault (NameUnknown u.pos) (type_named (type_names ns.decls) u.text)) (λ t.
    or_fault (TypeMismatch u.pos) (structure_of t))

-- the number of the scope that is named
abbrev pub scope_found : Names → Name → Found ℕ
scope_found ns u =
    or_fault (NameUnknown u.pos) (option_map (λ s. s.0) (scope_named u.text ns.decls.scopes))
