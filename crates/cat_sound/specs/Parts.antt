-- What a typed expression says of its parts: one line a form.
use Rattle.std.specs.Prelude.{◌≡◌, ℕ, nat_le, IsTrue, List, [], ◌∷◌, ◌++◌, length, Some, None, slice_get}
use Rattle.cat_value.specs.declared.ty.Ty.{Ty}
use Rattle.cat_value.specs.declared.ty.Ty.TheVariants as flat
use Rattle.cat_value.specs.declared.ty.Ty.TheViews as ty
use Rattle.cat_value.specs.Typing.{is_type, most_elements}
use Rattle.cat_value.specs.Entries.{content_of}
use Rattle.cat_scope.specs.declared.expr.Expr.{Expr}
use Rattle.cat_scope.specs.declared.expr.FieldValue.{FieldValue}
use Rattle.cat_scope.specs.declared.expr.Arm.{Arm}
use Rattle.cat_scope.specs.declared.expr.Expr.TheOpen.{Expr-F}
use Rattle.cat_scope.specs.Literals.{literal_type, literal_fits}
use Rattle.cat_scope.specs.Signatures.{Signature, signatures_of, taken_by, given_by, summed_type, compared_types}
use Rattle.cat_scope.specs.Names.{Names, IsOneOf, is_plain}
use Rattle.cat_scope.specs.Fitting.{numbers_in, are_complete, field_type, are_fields_of, is_low_type, are_call_fields}
use Rattle.cat_scope.specs.Fitting.{has_case, input_type}
use Rattle.cat_scope.specs.Naming.{IsItem, IsCalledOutput, IsFunction, IsOutput}
use Rattle.cat_scope.specs.HasType.{HasType, AllHaveType, EachHasType, FieldsHaveType, ArmsHaveType}

-- the parts of an expression, by its form, have types of which the whole has its own
abbrev pub PartsTyped : Names → List Ty → Expr-F Expr Arm FieldValue → Ty → Type 0
PartsTyped ns ls (Expr-F.Literal p l) t = IsTrue (literal_fits l) × (t ≡ literal_type l)
PartsTyped ns ls (Expr-F.Item p i) t = IsItem is_plain ns.items i t
PartsTyped ns ls (Expr-F.Output p i k) t = IsCalledOutput ns i k t
PartsTyped ns ls (Expr-F.Local p k) t = slice_get ls k ≡ Some t
PartsTyped ns ls (Expr-F.Field p e k) t =
    (n : ℕ) × HasType ns ls e (flat.Structure n) × (field_type ns.decls n k ≡ Some t)
PartsTyped ns ls (Expr-F.Unary p o e) t = HasType ns ls e (taken_by o) × (t ≡ given_by o)
PartsTyped ns ls (Expr-F.Binary p o q a b) t =
    (r : Signature) × IsOneOf r (signatures_of o) × HasType ns ls a r.left × HasType ns ls b r.right × (t ≡ r.result)
PartsTyped ns ls (Expr-F.And p a b) t = HasType ns ls a flat.Boolean × HasType ns ls b flat.Boolean × (t ≡ flat.Boolean)
PartsTyped ns ls (Expr-F.Or p a b) t = HasType ns ls a flat.Boolean × HasType ns ls b flat.Boolean × (t ≡ flat.Boolean)
PartsTyped ns ls (Expr-F.If p c a b) t = HasType ns ls c flat.Boolean × HasType ns ls a t × HasType ns ls b t
PartsTyped ns ls (Expr-F.Match p e arms) t =
    (n : ℕ) × HasType ns ls e (flat.Enumeration n) × ArmsHaveType ns ls n arms t × IsTrue (are_complete ns.decls n arms)
PartsTyped ns ls (Expr-F.IsCase p e n k) t =
    HasType ns ls e (flat.Enumeration n) × IsTrue (has_case ns.decls n k) × (t ≡ flat.Boolean)
PartsTyped ns ls (Expr-F.Case p n k None) t = (content_of ns.decls n k ≡ Some None) × (t ≡ flat.Enumeration n)
PartsTyped ns ls (Expr-F.Case p n k (Some e)) t =
    (u : Ty) × (content_of ns.decls n k ≡ Some (Some u)) × HasType ns ls e u × (t ≡ flat.Enumeration n)
PartsTyped ns ls (Expr-F.Structure p n fs) t =
    FieldsHaveType ns ls (field_type ns.decls n) fs × IsTrue (are_fields_of ns.decls n (numbers_in fs))
    × (t ≡ flat.Structure n)
PartsTyped ns ls (Expr-F.List p es) t =
    (u : Ty) × IsTrue (is_type ns.decls u) × IsTrue (is_low_type ns.decls t) × IsTrue (nat_le (length es) most_elements)
    × AllHaveType ns ls es u × (t ≡ ty.List u)
PartsTyped ns ls (Expr-F.ForAll p l test) t =
    (u : Ty) × HasType ns ls l (ty.List u) × HasType ns (ls ++ u ∷ []) test flat.Boolean × (t ≡ flat.Boolean)
PartsTyped ns ls (Expr-F.Exists p l test) t =
    (u : Ty) × HasType ns ls l (ty.List u) × HasType ns (ls ++ u ∷ []) test flat.Boolean × (t ≡ flat.Boolean)
PartsTyped ns ls (Expr-F.Map p l e) t =
    (u : Ty) × (w : Ty) × HasType ns ls l (ty.List u) × HasType ns (ls ++ u ∷ []) e w × IsTrue (is_type ns.decls w)
    × IsTrue (is_low_type ns.decls t) × (t ≡ ty.List w)
PartsTyped ns ls (Expr-F.Filter p l test) t =
    (u : Ty) × HasType ns ls l (ty.List u) × HasType ns (ls ++ u ∷ []) test flat.Boolean × (t ≡ ty.List u)
PartsTyped ns ls (Expr-F.Combine p l start e) t =
    (u : Ty) × HasType ns ls l (ty.List u) × HasType ns ls start t × HasType ns (ls ++ u ∷ t ∷ []) e t
PartsTyped ns ls (Expr-F.Contains p q l e) t =
    (u : Ty) × HasType ns ls l (ty.List u) × HasType ns ls e u × IsOneOf u compared_types × (t ≡ flat.Boolean)
PartsTyped ns ls (Expr-F.Length p l) t = (u : Ty) × HasType ns ls l (ty.List u) × (t ≡ flat.Integer)
PartsTyped ns ls (Expr-F.Sum p k l) t = HasType ns ls l (ty.List (summed_type k)) × (t ≡ summed_type k)
PartsTyped ns ls (Expr-F.Call p f es) t = (params : List Ty) × IsFunction ns f params t × EachHasType ns ls es params
PartsTyped ns ls (Expr-F.ScopeCall p s fs k) t =
    FieldsHaveType ns ls (input_type ns.decls s) fs × IsTrue (are_call_fields ns.decls s (numbers_in fs))
    × IsOutput ns.decls s k t
