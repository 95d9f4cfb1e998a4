-- Which expressions have which types: one rule a form, with its premises first and what follows from them last. In all,
-- `ns` is what names stand for, `ls` the types of local names, p a position, n the number of a type, k that of a field,
-- a case, a local name or an output, and l what is listed.
use Rattle.std.specs.Prelude.{◌≡◌, ℕ, nat_le, IsTrue, List, [], ◌∷◌, ◌++◌, length, Option, Some, None, slice_get}
use Rattle.cat_value.specs.declared.ty.Ty.TheVariants as flat
use Rattle.cat_value.specs.declared.ty.Ty.TheViews as ty
use Rattle.cat_scope.specs.declared.expr.Expr.TheVariants as leaf
use Rattle.cat_scope.specs.declared.expr.Expr.TheViews as expr
use Rattle.cat_scope.specs.Rules.{Pos, Ty, Expr, Literal, UnaryOp, BinaryOp, SumKind, Arm, FieldValue, Names, Signature}
use Rattle.cat_scope.specs.Rules.{literal_type, literal_fits, signatures_of, taken_by, given_by, summed_type}
use Rattle.cat_scope.specs.Rules.{compared_types}
use Rattle.cat_scope.specs.Rules.{IsOneOf, is_plain, IsItem, IsCalledOutput, IsFunction, IsOutput, is_type, is_low_type}
use Rattle.cat_scope.specs.Rules.{most_elements, has_case, content_of, field_type, are_fields_of, numbers_in}
use Rattle.cat_scope.specs.Rules.{ArmLocals, are_complete, are_call_fields, input_type}

mutual
  pub data HasType (ns : Names) : List Ty → Expr → Ty → Type 0 where
    -- a literal has its own type, within its bound
    literal : {ls : List Ty} {p : Pos} {l : Literal} → IsTrue (literal_fits l)
        → HasType ns ls (leaf.Literal p l) (literal_type l)
    -- a variable that is no function has its declared type
    item : {ls : List Ty} {p : Pos} {i : ℕ} {t : Ty} → IsItem is_plain ns.items i t
        → HasType ns ls (leaf.Item p i) t
    -- an output of a called scope has its declared type
    output : {ls : List Ty} {p : Pos} {i k : ℕ} {t : Ty} → IsCalledOutput ns i k t
        → HasType ns ls (leaf.Output p i k) t
    -- a local name has the type with which it was bound
    local : {ls : List Ty} {p : Pos} {k : ℕ} {t : Ty} → slice_get ls k ≡ Some t
        → HasType ns ls (leaf.Local p k) t
    -- a field of a structure has its declared type
    field : {ls : List Ty} {p : Pos} {e : Expr} {k : ℕ} {t : Ty} (n : ℕ)
        → HasType ns ls e (flat.Structure n) → field_type ns.decls n k ≡ Some t
        → HasType ns ls (expr.Field p e k) t
    -- an operator before an operand of the type that it takes
    unary : {ls : List Ty} {p : Pos} {o : UnaryOp} {e : Expr} → HasType ns ls e (taken_by o)
        → HasType ns ls (expr.Unary p o e) (given_by o)
    -- an operator between operands of the types of one of its signatures
    binary : {ls : List Ty} {p q : Pos} {o : BinaryOp} {a b : Expr} (s : Signature) → IsOneOf s (signatures_of o)
        → HasType ns ls a s.left → HasType ns ls b s.right
        → HasType ns ls (expr.Binary p o q a b) s.result
    -- `and` of two booleans
    both : {ls : List Ty} {p : Pos} {a b : Expr} → HasType ns ls a flat.Boolean → HasType ns ls b flat.Boolean
        → HasType ns ls (expr.And p a b) flat.Boolean
    -- `or` of two booleans
    any : {ls : List Ty} {p : Pos} {a b : Expr} → HasType ns ls a flat.Boolean → HasType ns ls b flat.Boolean
        → HasType ns ls (expr.Or p a b) flat.Boolean
    -- two branches of one type under a boolean
    choice : {ls : List Ty} {p : Pos} {c a b : Expr} {t : Ty}
        → HasType ns ls c flat.Boolean → HasType ns ls a t → HasType ns ls b t
        → HasType ns ls (expr.If p c a b) t
    -- a match has the type of its arms, of which no case is without one
    matching : {ls : List Ty} {p : Pos} {e : Expr} {arms : List Arm} {t : Ty} (n : ℕ)
        → HasType ns ls e (flat.Enumeration n) → ArmsHaveType ns ls n arms t → IsTrue (are_complete ns.decls n arms)
        → HasType ns ls (expr.Match p e arms) t
    -- a test for a case of the enumeration
    is_case : {ls : List Ty} {p : Pos} {e : Expr} {n k : ℕ}
        → HasType ns ls e (flat.Enumeration n) → IsTrue (has_case ns.decls n k)
        → HasType ns ls (expr.IsCase p e n k) flat.Boolean
    -- a case without a content
    case_alone : {ls : List Ty} {p : Pos} {n k : ℕ} → content_of ns.decls n k ≡ Some None
        → HasType ns ls (expr.Case p n k None) (flat.Enumeration n)
    -- a case with a content of its declared type
    case_with : {ls : List Ty} {p : Pos} {n k : ℕ} {e : Expr} (t : Ty)
        → content_of ns.decls n k ≡ Some (Some t) → HasType ns ls e t
        → HasType ns ls (expr.Case p n k (Some e)) (flat.Enumeration n)
    -- a structure with each of its fields once, of its declared type
    structure : {ls : List Ty} {p : Pos} {n : ℕ} {fs : List FieldValue}
        → FieldsHaveType ns ls (field_type ns.decls n) fs → IsTrue (are_fields_of ns.decls n (numbers_in fs))
        → HasType ns ls (expr.Structure p n fs) (flat.Structure n)
    -- a list of elements of one declared type, no more of them than fit, and no higher than types may be
    list : {ls : List Ty} {p : Pos} {es : List Expr} {t : Ty}
        → IsTrue (is_type ns.decls t) → IsTrue (is_low_type ns.decls (ty.List t))
        → IsTrue (nat_le (length es) most_elements) → AllHaveType ns ls es t
        → HasType ns ls (expr.List p es) (ty.List t)
    -- `for all` elements a boolean
    for_all : {ls : List Ty} {p : Pos} {l test : Expr} (t : Ty)
        → HasType ns ls l (ty.List t) → HasType ns (ls ++ t ∷ []) test flat.Boolean
        → HasType ns ls (expr.ForAll p l test) flat.Boolean
    -- `exists` an element with a boolean
    exists : {ls : List Ty} {p : Pos} {l test : Expr} (t : Ty)
        → HasType ns ls l (ty.List t) → HasType ns (ls ++ t ∷ []) test flat.Boolean
        → HasType ns ls (expr.Exists p l test) flat.Boolean
    -- `map each` element to a value of one declared type, whose list is no higher than types may be
    map_each : {ls : List Ty} {p : Pos} {l e : Expr} {u : Ty} (t : Ty)
        → HasType ns ls l (ty.List t) → HasType ns (ls ++ t ∷ []) e u
        → IsTrue (is_type ns.decls u) → IsTrue (is_low_type ns.decls (ty.List u))
        → HasType ns ls (expr.Map p l e) (ty.List u)
    -- the elements with a boolean
    filter : {ls : List Ty} {p : Pos} {l test : Expr} (t : Ty)
        → HasType ns ls l (ty.List t) → HasType ns (ls ++ t ∷ []) test flat.Boolean
        → HasType ns ls (expr.Filter p l test) (ty.List t)
    -- `combine` keeps the type of its start; its names are the element and what was combined of those in front
    combine : {ls : List Ty} {p : Pos} {l start e : Expr} {u : Ty} (t : Ty)
        → HasType ns ls l (ty.List t) → HasType ns ls start u → HasType ns (ls ++ t ∷ u ∷ []) e u
        → HasType ns ls (expr.Combine p l start e) u
    -- `contains` of a type that can be compared
    contains : {ls : List Ty} {p q : Pos} {l e : Expr} (t : Ty)
        → HasType ns ls l (ty.List t) → HasType ns ls e t → IsOneOf t compared_types
        → HasType ns ls (expr.Contains p q l e) flat.Boolean
    -- the number of elements of a list
    number_of : {ls : List Ty} {p : Pos} {l : Expr} (t : Ty) → HasType ns ls l (ty.List t)
        → HasType ns ls (expr.Length p l) flat.Integer
    -- the sum of a list of what can be added
    sum : {ls : List Ty} {p : Pos} {k : SumKind} {l : Expr} → HasType ns ls l (ty.List (summed_type k))
        → HasType ns ls (expr.Sum p k l) (summed_type k)
    -- a function on an argument of its type for each parameter
    call : {ls : List Ty} {p : Pos} {f : ℕ} {es : List Expr} {t : Ty} (params : List Ty)
        → IsFunction ns f params t → EachHasType ns ls es params
        → HasType ns ls (expr.Call p f es) t
    -- an output of a scope that is given its inputs
    scope_call : {ls : List Ty} {p : Pos} {s k : ℕ} {fs : List FieldValue} {t : Ty}
        → FieldsHaveType ns ls (input_type ns.decls s) fs → IsTrue (are_call_fields ns.decls s (numbers_in fs))
        → IsOutput ns.decls s k t
        → HasType ns ls (expr.ScopeCall p s fs k) t

  -- each of some expressions has the type
  pub data AllHaveType (ns : Names) : List Ty → List Expr → Ty → Type 0 where
    all_none : {ls : List Ty} {t : Ty} → AllHaveType ns ls [] t
    all_more : {ls : List Ty} {e : Expr} {es : List Expr} {t : Ty}
        → HasType ns ls e t → AllHaveType ns ls es t
        → AllHaveType ns ls (e ∷ es) t

  -- arguments have the types of their parameters
  pub data EachHasType (ns : Names) : List Ty → List Expr → List Ty → Type 0 where
    each_none : {ls : List Ty} → EachHasType ns ls [] []
    each_more : {ls : List Ty} {e : Expr} {es : List Expr} {t : Ty} {ts : List Ty}
        → HasType ns ls e t → EachHasType ns ls es ts
        → EachHasType ns ls (e ∷ es) (t ∷ ts)

  -- fields have the types that their numbers have
  pub data FieldsHaveType (ns : Names) : List Ty → (ℕ → Option Ty) → List FieldValue → Type 0 where
    fields_none : {ls : List Ty} {ts : ℕ → Option Ty} → FieldsHaveType ns ls ts []
    fields_more : {ls : List Ty} {ts : ℕ → Option Ty} {f : FieldValue} {fs : List FieldValue} (t : Ty)
        → ts f.field ≡ Some t → HasType ns ls f.value t → FieldsHaveType ns ls ts fs
        → FieldsHaveType ns ls ts (f ∷ fs)

  -- the bodies of arms for the cases of an enumeration have the type
  pub data ArmsHaveType (ns : Names) : List Ty → ℕ → List Arm → Ty → Type 0 where
    arms_none : {ls : List Ty} {n : ℕ} {t : Ty} → ArmsHaveType ns ls n [] t
    arms_more : {ls : List Ty} {n : ℕ} {a : Arm} {arms : List Arm} {t : Ty} (inside : List Ty)
        → ArmLocals ns.decls n a.pattern ls inside → HasType ns inside a.body t → ArmsHaveType ns ls n arms t
        → ArmsHaveType ns ls n (a ∷ arms) t
