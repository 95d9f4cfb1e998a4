-- Of which structure or enumeration the values of an expression are, as its form and the declarations tell it.
use Rattle.std.specs.Prelude.{ℕ, true, false, List, [], ◌∷◌, ◌++◌, Option, Some, None, map, slice_get}
use Rattle.cat_value.specs.declared.decls.Decls.{Decls}
use Rattle.cat_value.specs.declared.declaration.ItemDecl.{ItemDecl}
use Rattle.cat_scope.specs.declared.expr.ArmPattern.{ArmPattern}
use Rattle.cat_scope.specs.declared.expr.ArmPattern.TheVariants as pattern
use Rattle.cat_scope.specs.declared.expr.Expr.{Expr}
use Rattle.cat_scope.specs.declared.expr.Expr.TheOpen.{Expr-F}
use Rattle.cat_scope.specs.declared.expr.Expr.TheFolds.{fold-Expr}
use Rattle.cat_scope.specs.Names.{output_at}
use Rattle.cat_table.specs.declared.named_type.NamedType.{NamedType}
use Rattle.cat_table.specs.declared.named_type.NamedType.TheVariants as of_type
use Rattle.cat_table.specs.NamedTypes.{named, item_named, called_output, field_in, field_named, case_in, content_named}

-- what an expression tells, by what the types of its local names are
abbrev pub Tells : Type 0
Tells = List (Option NamedType) → Option NamedType

-- what is found, where something is
abbrev pub found_in : Option (Option NamedType) → Option NamedType
found_in None = None
found_in (Some found) = found

-- the local names in an arm for a case of an enumeration
abbrev pub arm_locals : Decls → Option NamedType → ArmPattern → List (Option NamedType) → List (Option NamedType)
arm_locals ds of pattern.Anything locals = locals
arm_locals ds of (pattern.Case k false) locals = locals
arm_locals ds of (pattern.Case k true) locals = locals ++ content_named (case_in ds k of) ∷ []

-- arms tell what the first one does
abbrev pub arms_told : Decls → Option NamedType → List (ArmPattern × Tells) → Tells
arms_told ds of [] locals = None
arms_told ds of (a ∷ arms) locals = a.1 (arm_locals ds of a.0 locals)

-- what an expression tells, by its form: a variable, an output, a local name, a field, a case, a structure and a call
-- are of their declared types; a choice, a match and `combine` are of the type of a part; no other form is of a type
-- that has a name
abbrev pub told_by : Decls → List ItemDecl → Expr-F Tells (ArmPattern × Tells) (Unit {0}) → Tells
told_by ds items (Expr-F.Item p i) locals = item_named (slice_get items i)
told_by ds items (Expr-F.Output p i k) locals = item_named (called_output ds k (slice_get items i))
told_by ds items (Expr-F.Local p k) locals = found_in (slice_get locals k)
told_by ds items (Expr-F.Field p e k) locals = field_named (field_in ds k (e locals))
told_by ds items (Expr-F.If p c a b) locals = a locals
told_by ds items (Expr-F.Match p e arms) locals = arms_told ds (e locals) arms locals
told_by ds items (Expr-F.Case p n k content) locals = Some (of_type.Enumeration n)
told_by ds items (Expr-F.Structure p n fields) locals = Some (of_type.Structure n)
told_by ds items (Expr-F.Combine p l start e) locals = start locals
told_by ds items (Expr-F.Call p f es) locals = item_named (slice_get items f)
told_by ds items (Expr-F.ScopeCall p s fields k) locals = item_named (output_at ds s k)
told_by ds items x locals = None

-- what an expression tells
unfoldable pub told : Decls → List ItemDecl → Expr → Tells
told ds items =
    fold-Expr Tells (ArmPattern × Tells) (Unit {0}) (told_by ds items) (λ a. (a.pattern, a.body)) (λ f. tt)

-- the parameters of a function
abbrev pub params_named : Option ItemDecl → List (Option NamedType)
params_named None = []
params_named (Some item) = map named item.params

-- the structure or the enumeration of an expression in the definitions of a function or of a variable
abbrev pub type_told : Decls → List ItemDecl → ℕ → Expr → Option NamedType
type_told ds items function e = told ds items e (params_named (slice_get items function))
