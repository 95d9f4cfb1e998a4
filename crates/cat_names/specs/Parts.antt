-- What the lists of parts of a form are: elements, arguments, fields and arms.
use Rattle.std.specs.Prelude.{ℕ, nat_eq, nat_le, List, [], ◌∷◌, ◌++◌, length, Option, Some, None, Ok}
use Rattle.std.specs.Option.{is_some}
use Rattle.cat_pos.specs.declared.pos.Pos.{Pos}
use Rattle.cat_value.specs.declared.ty.Ty.{Ty}
use Rattle.cat_value.specs.declared.declaration.ItemDecl.{ItemDecl}
use Rattle.cat_value.specs.Entries.{content_of}
use Rattle.cat_value.specs.Typing.{most_elements}
use Rattle.cat_tree.specs.declared.name.Name.{Name}
use Rattle.cat_tree.specs.declared.expression.Pattern.{Pattern}
use Rattle.cat_tree.specs.declared.expression.Pattern.TheVariants as written
use Rattle.cat_scope.specs.declared.expr.Expr.{Expr}
use Rattle.cat_scope.specs.declared.expr.Expr.TheViews as expr
use Rattle.cat_scope.specs.declared.expr.FieldValue.{FieldValue}
use Rattle.cat_scope.specs.declared.expr.Arm.{Arm}
use Rattle.cat_scope.specs.declared.expr.ArmPattern.{ArmPattern}
use Rattle.cat_scope.specs.declared.expr.ArmPattern.TheVariants as pattern
use Rattle.cat_scope.specs.Names.{Names}
use Rattle.cat_names.specs.declared.fault.Fault.TheVariants.{NameUnknown, TypeMismatch, MatchCases}
use Rattle.cat_names.specs.declared.typed.Typed.{Typed}
use Rattle.cat_names.specs.declared.typed.Local.{Local}
use Rattle.cat_names.specs.Found.{Found, faulty, and_then, both, or_fault, where_true}
use Rattle.cat_names.specs.Naming.{typed, case_found}
use Rattle.cat_names.specs.Forms.{bound, low_list}

-- what an expression means under local names, where a type is expected or not
abbrev pub Meaning : Type 0
Meaning = List Local → Option Ty → Found Typed

-- ---- elements and arguments

-- some expressions, of each of which the same type is expected
abbrev pub all_of_type : {A : Type 0} → (A → Meaning) → List A → List Local → Ty → Found (List Expr)
all_of_type means [] locals t = Ok []
all_of_type means (e ∷ es) locals t =
    both (means e locals (Some t)) (all_of_type means es locals t) (λ x xs. Ok (x.expr ∷ xs))

-- elements: of the first is expected what is expected of all, and of each later one the type of the first
abbrev pub elements_of : {A : Type 0} → (A → Meaning) → Pos → List A → List Local → Option Ty → Found (List Expr × Ty)
elements_of means p [] locals None = faulty (TypeMismatch p)
elements_of means p [] locals (Some t) = Ok ([], t)
elements_of means p (e ∷ es) locals expected =
    and_then (means e locals expected) (λ x. and_then (all_of_type means es locals x.ty) (λ xs. Ok (x.expr ∷ xs, x.ty)))

-- a list, of no more elements than lists may have
abbrev pub list_of : Names → Pos → List Expr × Ty → Found Typed
list_of ns p es =
    where_true (nat_le (length es.0) most_elements) (TypeMismatch p) (low_list ns p (expr.List p es.0) es.1)

-- arguments, of each of which the type of its parameter is expected
abbrev pub arguments_of : {A : Type 0} → (A → Meaning) → List A → List Local → List Ty → Found (List Expr)
arguments_of means (e ∷ es) locals (t ∷ ts) =
    both (means e locals (Some t)) (arguments_of means es locals ts) (λ x xs. Ok (x.expr ∷ xs))
arguments_of means _ locals _ = Ok []

-- a call of a function: as many arguments as it has parameters
abbrev pub call_of : {A : Type 0} → (A → Meaning) → Name → List A → List Local → ℕ × ItemDecl → Found Typed
call_of means w args locals f =
    both (where_true (nat_eq (length args) (length f.1.params)) (TypeMismatch w.pos) (Ok f))
    (arguments_of means args locals f.1.params) (λ g es. Ok (typed w.pos (expr.Call w.pos g.0 es) g.1.ty))

-- ---- fields

-- a field, of whose value the type is expected that the field of its name has
abbrev pub value_of : (List ℕ → Option (ℕ × Ty)) → Name × Meaning → List Local → Found FieldValue
value_of field f locals =
    and_then (or_fault (NameUnknown f.0.pos) (field f.0.text)) (λ k.
    and_then (f.1 locals (Some k.1)) (λ x. Ok (record { field = k.0; value = x.expr })))

-- each of some fields
abbrev pub values_of : {A : Type 0} → (A → Name × Meaning) → (List ℕ → Option (ℕ × Ty)) → List A → List Local
    → Found (List FieldValue)
values_of means field [] locals = Ok []
values_of means field (f ∷ fs) locals =
    both (value_of field (means f) locals) (values_of means field fs locals) (λ x xs. Ok (x ∷ xs))

-- ---- arms

-- the bound names of an arm's body: a name for the content, where the case has one
abbrev pub with_content : Pos → Option Name → Option (Option Ty) → List Local → Found (List Local)
with_content p None content locals = Ok locals
with_content p (Some w) (Some (Some t)) locals = Ok (locals ++ bound w t ∷ [])
with_content p (Some w) _ locals = faulty (TypeMismatch p)

-- the pattern of an arm for an enumeration, with the bound names of its body; p is the position of the match
abbrev pub pattern_of : Names → Pos → ℕ → Pattern → List Local → Found (ArmPattern × List Local)
pattern_of ns p n written.Anything locals = Ok (pattern.Anything, locals)
pattern_of ns p n (written.Case c w) locals =
    and_then (case_found ns c) (λ k.
    where_true (nat_eq k.0 n) (TypeMismatch p)
    (and_then (with_content p w (content_of ns.decls n k.1) locals) (λ inside.
    Ok (pattern.Case k.1 (is_some w), inside))))

-- an arm, of whose body a type is expected or not; with the type of the body
abbrev pub arm_of : Names → Pos → ℕ → Pattern × Meaning → List Local → Option Ty → Found (Arm × Ty)
arm_of ns p n a locals expected =
    and_then (pattern_of ns p n a.0 locals) (λ q.
    and_then (a.1 q.1 expected) (λ x. Ok (record { pattern = q.0; body = x.expr }, x.ty)))

-- some arms, of each of which the same type is expected
abbrev pub all_arms : {A : Type 0} → (A → Pattern × Meaning) → Names → Pos → ℕ → List A → List Local → Ty
    → Found (List Arm)
all_arms means ns p n [] locals t = Ok []
all_arms means ns p n (a ∷ arms) locals t =
    both (arm_of ns p n (means a) locals (Some t)) (all_arms means ns p n arms locals t) (λ x xs. Ok (x.0 ∷ xs))

-- arms: of the first is expected what is expected of the match, and of each later one the type of the first
abbrev pub arms_of : {A : Type 0} → (A → Pattern × Meaning) → Names → Pos → ℕ → List A → List Local → Option Ty
    → Found (List Arm × Ty)
arms_of means ns p n [] locals expected = faulty (MatchCases p)
arms_of means ns p n (a ∷ arms) locals expected =
    and_then (arm_of ns p n (means a) locals expected) (λ x.
    and_then (all_arms means ns p n arms locals x.1) (λ xs. Ok (x.0 ∷ xs, x.1)))
