-- What forms are whose parts have names, locals or expected types of their own.
use Rattle.std.specs.Prelude.{ℕ, List, ◌∷◌, [], ◌++◌, Option, Some, None, Ok}
use Rattle.cat_pos.specs.declared.pos.Pos.{Pos}
use Rattle.cat_value.specs.declared.ty.Ty.{Ty}
use Rattle.cat_value.specs.declared.ty.Ty.TheVariants as flat_ty
use Rattle.cat_tree.specs.declared.name.Name.{Name}
use Rattle.cat_tree.specs.declared.expression.Each.{Each}
use Rattle.cat_tree.specs.declared.expression.Pattern.{Pattern}
use Rattle.cat_scope.specs.declared.expr.Expr.TheViews as expr
use Rattle.cat_scope.specs.Names.{Names}
use Rattle.cat_scope.specs.Fitting.{numbers_in, are_complete, are_fields_of, are_call_fields}
use Rattle.cat_names.specs.declared.fault.Fault.TheVariants.{NameUnknown, TypeMismatch, MatchCases}
use Rattle.cat_names.specs.declared.typed.Typed.{Typed}
use Rattle.cat_names.specs.declared.typed.Local.{Local}
use Rattle.cat_names.specs.Found.{Found, faulty, and_then, both, or_fault, where_true}
use Rattle.cat_names.specs.Types.{element_of, enumeration_of}
use Rattle.cat_names.specs.Naming.{typed, Called}
use Rattle.cat_names.specs.Forms.{field_named, field_of, input_named, output_named, output_of, each_of, bound}
use Rattle.cat_names.specs.Forms.{combine_of}
use Rattle.cat_names.specs.Parts.{Meaning, values_of, arms_of}

-- `e . w`: an output where e names a called scope, and else a field
abbrev pub dotted : Names → Name → Meaning → List Local → Option Called → Found Typed
dotted ns w e locals (Some called) = output_of ns w called
dotted ns w e locals None = and_then (e locals None) (field_of ns w)

-- a case with its content, of which its declared type is expected; no content may stand where the case has none
abbrev pub content_of_type : Pos → ℕ × ℕ → Meaning → List Local → Option (Option Ty) → Found Typed
content_of_type p k e locals (Some (Some t)) =
    and_then (e locals (Some t)) (λ x. Ok (typed p (expr.Case p k.0 k.1 (Some x.expr)) (flat_ty.Enumeration k.0)))
content_of_type p k e locals _ = and_then (e locals None) (λ x. faulty (TypeMismatch p))

-- a case alone, which must have no content
abbrev pub case_alone : Pos → ℕ × ℕ → Option (Option Ty) → Found Typed
case_alone p k (Some None) = Ok (typed p (expr.Case p k.0 k.1 None) (flat_ty.Enumeration k.0))
case_alone p k _ = faulty (TypeMismatch p)

-- a structure with each of its fields
abbrev pub structure_of_fields : {A : Type 0} → (A → Name × Meaning) → Names → Name → List A → List Local → ℕ
    → Found Typed
structure_of_fields means ns u fields locals n =
    and_then (values_of means (field_named ns.decls n) fields locals) (λ values.
    where_true (are_fields_of ns.decls n (numbers_in values)) (TypeMismatch u.pos)
    (Ok (typed u.pos (expr.Structure u.pos n values) (flat_ty.Structure n))))

-- an output of a scope that is given its inputs
abbrev pub scope_call_of : {A : Type 0} → (A → Name × Meaning) → Names → Pos → Name → List A → Name → List Local → ℕ
    → Found Typed
scope_call_of means ns p u fields w locals s =
    both (values_of means (input_named ns.decls s) fields locals)
    (or_fault (NameUnknown w.pos) (output_named ns.decls s w.text))
    (λ values o. where_true (are_call_fields ns.decls s (numbers_in values)) (TypeMismatch u.pos)
    (Ok (typed p (expr.ScopeCall p s values o.0) o.1)))

-- two branches: of the first is expected what is expected of the whole, and of the second the type of the first
abbrev pub branches_of : Meaning → Meaning → List Local → Option Ty → Found (Typed × Typed)
branches_of a b locals expected =
    and_then (a locals expected) (λ x. and_then (b locals (Some x.ty)) (λ y. Ok (x, y)))

-- a match of what has the type of an enumeration, with arms for its cases
abbrev pub match_over : {A : Type 0} → (A → Pattern × Meaning) → Names → Pos → List A → List Local → Option Ty → Typed
    → Found Typed
match_over means ns p arms locals expected e =
    and_then (or_fault (TypeMismatch p) (enumeration_of e.ty)) (λ n.
    and_then (arms_of means ns p n arms locals expected) (λ x.
    where_true (are_complete ns.decls n x.0) (MatchCases p) (Ok (typed p (expr.Match p e.expr x.0) x.1))))

-- a form over a list: its name has the type of the elements
abbrev pub over_list : Names → Each → Pos → Name → Meaning → List Local → Typed → Found Typed
over_list ns k p w e locals l =
    and_then (or_fault (TypeMismatch p) (element_of l.ty)) (λ t.
    and_then (e (locals ++ bound w t ∷ []) None) (λ body. each_of ns k p l body))

-- `combine`: the accumulator has the type of the start, which is expected of the body; it hides an element of its name
abbrev pub combine_over : Pos → Name → Name → Meaning → List Local → Typed → Typed → Found Typed
combine_over p w acc e locals l start =
    and_then (or_fault (TypeMismatch p) (element_of l.ty)) (λ t.
    and_then (e (locals ++ bound w t ∷ bound acc start.ty ∷ []) (Some start.ty)) (λ body. combine_of p l start body))
