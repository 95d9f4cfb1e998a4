-- What forms take from their parts and from names.
use Rattle.std.specs.Prelude.{ℕ, List, [], ◌∷◌, ◌++◌, Option, Some, None, Result, Ok, Err, nat_eq, slice_get}
use Rattle.std.specs.Prelude.{option_map, min}
use Rattle.std.specs.Borrow.{Bor}
use Rattle.std.specs.Option.{is_some}
use Rattle.cat_pos.specs.declared.pos.Pos.{Pos}
use Rattle.cat_value.specs.declared.ty.Ty.{Ty}
use Rattle.cat_value.specs.declared.ty.Ty.TheVariants as flat_ty
use Rattle.cat_value.specs.declared.decls.Decls.{Decls}
use Rattle.cat_value.specs.Entries.{content_of}
use Rattle.cat_tree.specs.declared.name.Name.{Name}
use Rattle.cat_tree.specs.declared.name.Type as types
use Rattle.cat_tree.specs.declared.expression.Pattern.{Pattern}
use Rattle.cat_tree.specs.declared.expression.Pattern.TheVariants as written
use Rattle.cat_scope.specs.declared.expr.Expr.{Expr}
use Rattle.cat_scope.specs.declared.expr.Expr.TheViews as expr
use Rattle.cat_scope.specs.declared.expr.ArmPattern.{ArmPattern}
use Rattle.cat_scope.specs.declared.expr.ArmPattern.TheVariants as pattern
use Rattle.cat_scope.specs.Names.{Names}
use Rattle.cat_names.specs.declared.fault.Fault.TheVariants.{TypeMismatch}
use Rattle.cat_names.specs.declared.fault.Refusal.{Refusal}
use Rattle.cat_names.specs.declared.typed.Typed.{Typed}
use Rattle.cat_names.specs.declared.typed.Local.{Local}
use Rattle.cat_names.specs.Found.{Found, faulty, and_then, or_fault, where_true}
use Rattle.cat_names.specs.Types.{element_of}
use Rattle.cat_names.specs.Naming.{Called, case_found, typed}
use Rattle.cat_names.specs.Forms.{bound, field_named, input_named, output_of}
use Rattle.cat_check_forms.specs.declared.parts.Owner.{Owner}
use Rattle.cat_check_forms.specs.declared.parts.Owner.TheVariants as owner

-- what a look-up lends, with its number
abbrev pub lent : {A : Type 0} → Result (ℕ × Bor A) Refusal → Result (ℕ × A) Refusal
lent (Ok p) = Ok (p.0, p.1.now)
lent (Err e) = Err e

-- the bound name of that number, with its type
abbrev pub at_number : Option ℕ → List Local → Option (ℕ × Ty)
at_number None locals = None
at_number (Some n) locals = option_map (λ l. (n, l.ty)) (slice_get locals n)

-- an output, where a called scope stands in front of `.`
abbrev pub output_found : Names → Name → Option Called → Found (Option Typed)
output_found ns w None = Ok None
output_found ns w (Some called) = and_then (output_of ns w called) (λ x. Ok (Some x))

-- the content of a case that has one
abbrev pub some_content : Option (Option Ty) → Option Ty
some_content None = None
some_content (Some content) = content

-- a case with its content, where it has one of that type
abbrev pub with_content : Pos → ℕ × ℕ → Option Ty → Typed → Found Typed
with_content p k None x = faulty (TypeMismatch p)
with_content p k (Some t) x = Ok (typed p (expr.Case p k.0 k.1 (Some x.expr)) (flat_ty.Enumeration k.0))

-- the name for the content, where there is one: the case must have a content
abbrev pub content_bound : Pos → Option Name → Option (Option Ty) → Found (Option Local)
content_bound p None content = Ok None
content_bound p (Some w) (Some (Some t)) = Ok (Some (bound w t))
content_bound p (Some w) _ = faulty (TypeMismatch p)

-- the pattern of an arm, with what it binds
abbrev pub pattern_bound : Names → Pos → ℕ → Pattern → Found (ArmPattern × Option Local)
pattern_bound ns p n written.Anything = Ok (pattern.Anything, None)
pattern_bound ns p n (written.Case c w) =
    and_then (case_found ns c) (λ k. where_true (nat_eq k.0 n) (TypeMismatch p)
    (and_then (content_bound p w (content_of ns.decls n k.1)) (λ local.
    Ok (pattern.Case k.1 (is_some w), local))))

-- bound names, with one more where there is one
abbrev pub with_local : List Local → Option Local → List Local
with_local locals None = locals
with_local locals (Some l) = locals ++ l ∷ []

-- a written type behind one `list of` at most
abbrev pub cut : types.Type → types.Type
cut t = record { lists = min t.lists 1; base = t.base; pos = t.pos }

-- the field of that name of a structure, or the input or context of a scope, with its number and its type
abbrev pub part_named : Decls → Owner → List ℕ → Option (ℕ × Ty)
part_named ds (owner.Structure n) w = field_named ds n w
part_named ds (owner.Scope n) w = input_named ds n w

-- the name of a form over a list, bound to its elements
abbrev pub element_bound : Pos → Name → Typed → Found Local
element_bound p w l = and_then (or_fault (TypeMismatch p) (element_of l.ty)) (λ t. Ok (bound w t))

-- the elements of a list without any: a type must be expected of them
abbrev pub none_of : Pos → Option Ty → Found (List Expr × Ty)
none_of p None = faulty (TypeMismatch p)
none_of p (Some t) = Ok ([], t)
