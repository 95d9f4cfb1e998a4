-- A typed expression is lowered with its type, where its empty lists stand where a type is expected.
use Rattle.std.proofs.Common.{◌≡◌, ℕ, Bool, true, false, ◌&&◌, List, [], ◌∷◌, ◌++◌, map, Option, None, Some, is_some}
use Rattle.std.proofs.Common.{refl, sym, ap, ◌∙◌, true≢false}
use Rattle.cat_value.specs.declared.ty.Ty.{Ty}
use Rattle.cat_value.specs.declared.ty.Ty.TheVariants as flat
use Rattle.cat_value.specs.declared.ty.Ty.TheViews as ty
use Rattle.cat_value.specs.declared.ty.Ty.TheViews.{out-Ty}
use Rattle.cat_value.specs.declared.declaration.ItemDecl.{ItemDecl}
use Rattle.cat_value.specs.declared.declaration.Kind.{Kind}
use Rattle.cat_value.specs.declared.decls.Decls.{Decls}
use Rattle.cat_scope.specs.declared.operators.BinaryOp.{BinaryOp}
use Rattle.cat_scope.specs.declared.expr.ArmPattern.{ArmPattern}
use Rattle.cat_scope.specs.declared.expr.ArmPattern.TheVariants as pattern
use Rattle.cat_scope.specs.declared.expr.Expr.{Expr}
use Rattle.cat_scope.specs.declared.expr.Arm.{Arm}
use Rattle.cat_scope.specs.Names.{IsOneOf}
use Rattle.cat_scope.specs.Signatures.{Signature, signatures_of}
use Rattle.cat_scope.specs.Fitting.{ArmLocals}
use Rattle.cat_scope.specs.HasType.{HasType, AllHaveType, ArmsHaveType}
use Rattle.cat_scope.specs.HasType as typed
use Rattle.cat_scope.specs.Expected.{lists_placed, row_placed}
use Rattle.cat_scope.proofs.Exported.{arms_placed, placed_Field, placed_If, placed_Match}
use Rattle.cat_scope.proofs.Exported.{placed_List, placed_Map, placed_Filter, placed_Combine}
use Rattle.cat_sound.proofs.Exported.{first_is, first_result}
use Rattle.cat_code.specs.Places.{called_scope}
use Rattle.cat_lower.specs.Types.{Lowering, type_or, item_type, element_in, element_type, element_expected}
use Rattle.cat_lower.specs.Types.{enumeration_in, field_in, called_output, scope_called, content_type, arm_types}
use Rattle.cat_lower.specs.Types.{row_type, arms_type, result_of}
use Rattle.cat_lower.specs.Rows.{Standing}
use Rattle.cat_lower.specs.Expressions.{lowered}
use Rattle.cat_lower.proofs.LoweredEquations.{branch, branch_is, lowered_Literal, lowered_Item, lowered_Output}
use Rattle.cat_lower.proofs.LoweredEquations.{lowered_Local, lowered_Field, lowered_Unary, lowered_Binary, lowered_And}
use Rattle.cat_lower.proofs.LoweredEquations.{lowered_Or, lowered_If, lowered_Match, lowered_IsCase, lowered_Case_None}
use Rattle.cat_lower.proofs.LoweredEquations.{lowered_Case_Some, lowered_Structure, lowered_List, lowered_ForAll}
use Rattle.cat_lower.proofs.LoweredEquations.{lowered_Exists, lowered_Map, lowered_Filter, lowered_Combine}
use Rattle.cat_lower.proofs.LoweredEquations.{lowered_Contains, lowered_Length, lowered_Sum, lowered_Call}
use Rattle.cat_lower.proofs.LoweredEquations.{lowered_ScopeCall}

-- a type that is expected is the one that is there
abbrev pub Expects : Option Ty → Ty → Type 0
Expects None t = Unit {0}
Expects (Some u) t = u ≡ t

pub both_so : (a b : Bool) → (a && b) ≡ true → (a ≡ true) × (b ≡ true)
both_so true b e = (refl, e)
both_so false b e = absurd (true≢false (sym e))

-- the result of a signature of an operator is that of the first
same_first : (rows : List Signature) → first_result rows ≡ result_of rows
same_first [] = refl
same_first (r ∷ rows) = refl

pub result_is : (o : BinaryOp) (r : Signature) → IsOneOf r (signatures_of o) → r.result ≡ result_of (signatures_of o)
result_is o r is = first_is o r is ∙ same_first (signatures_of o)

-- the local names of an arm's body
pub arm_types_are : (ds : Decls) (n : ℕ) (p : ArmPattern) (ls inside : List Ty) → ArmLocals ds n p ls inside
    → arm_types ds n p ls ≡ inside
arm_types_are ds n pattern.Anything ls inside is = sym is
arm_types_are ds n (pattern.Case k false) ls inside is = sym is.1
arm_types_are ds n (pattern.Case k true) ls inside is =
    ap (λ (c : Option (Option Ty)). ls ++ type_or (content_type c) ∷ []) is.1 ∙ sym is.2

pub element_of_list : (t u : Ty) → u ≡ ty.List t → element_type u ≡ t
element_of_list t u is = ap element_type is ∙ ap element_in (ty.outs-List t)

pub enumeration_of : (n : ℕ) (u : Ty) → u ≡ flat.Enumeration n → enumeration_in (out-Ty u) ≡ n
enumeration_of n u is = ap (λ (t : Ty). enumeration_in (out-Ty t)) is ∙ ap enumeration_in (ty.outs-Enumeration n)

pub expects_element : (x : Option Ty) (t : Ty) → Expects x (ty.List t) → Expects (element_expected x) t
expects_element None t is = tt
expects_element (Some u) t is = element_of_list t u is

pub still_expected : (x : Option Ty) → is_some (element_expected x) ≡ is_some x
still_expected None = refl
still_expected (Some u) = refl

none_placed : (x : Option Ty) (t : Ty) → Expects x t → is_some x ≡ true → type_or x ≡ t
none_placed None t is placed = absurd (true≢false (sym placed))
none_placed (Some u) t is placed = is

module _ (here : Standing) where
  -- the type with which an expression is lowered
  abbrev pub type_of : Expr → List Ty → Option Ty → Ty
  type_of e ls x = (lowered here e).type ls x

  mutual
    pub types_agree : {ls : List Ty} {e : Expr} {t : Ty} → HasType here.names ls e t → (x : Option Ty) → Expects x t
        → lists_placed e (is_some x) ≡ true → (lowered here e).type ls x ≡ t
    types_agree {ls} (typed.literal {p = p} {l = l} fits) x want placed =
        ap (λ (w : Lowering). w.type ls x) (lowered_Literal here p l)
    types_agree {ls} (typed.item {p = p} {i = i} is) x want placed =
        ap (λ (w : Lowering). w.type ls x) (lowered_Item here p i) ∙ ap item_type is.1 ∙ sym is.3
    types_agree {ls} (typed.output {p = p} {i = i} {k = k} is) x want placed =
        ap (λ (w : Lowering). w.type ls x) (lowered_Output here p i k)
        ∙ ap (λ (o : Option ItemDecl). item_type (called_output here.names.decls k (scope_called o))) is.called_is
        ∙ ap (λ (d : Kind). item_type (called_output here.names.decls k (called_scope d))) is.kind_is
        ∙ ap item_type is.output_is ∙ sym is.ty_is
    types_agree {ls} (typed.local {p = p} {k = k} is) x want placed =
        ap (λ (w : Lowering). w.type ls x) (lowered_Local here p k) ∙ ap type_or is
    types_agree {ls} (typed.field {p = p} {e = e} {k = k} n g is) x want placed =
        ap (λ (w : Lowering). w.type ls x) (lowered_Field here p e k)
        ∙ ap (λ (u : Ty). field_in here.names.decls k (out-Ty u))
        (types_agree g None tt (sym (ap (λ f. f (is_some x)) (placed_Field p e k)) ∙ placed))
        ∙ ap (field_in here.names.decls k) (ty.outs-Structure n) ∙ ap type_or is
    types_agree {ls} (typed.unary {p = p} {o = o} {e = e} g) x want placed =
        ap (λ (w : Lowering). w.type ls x) (lowered_Unary here p o e)
    types_agree {ls} (typed.binary {p = p} {q = q} {o = o} {a = a} {b = b} s is g h) x want placed =
        ap (λ (w : Lowering). w.type ls x) (lowered_Binary here p o q a b)
        ∙ sym (result_is o s is)
    types_agree {ls} (typed.both {p = p} {a = a} {b = b} g h) x want placed =
        ap (λ (w : Lowering). w.type ls x) (lowered_And here p a b)
    types_agree {ls} (typed.any {p = p} {a = a} {b = b} g h) x want placed =
        ap (λ (w : Lowering). w.type ls x) (lowered_Or here p a b)
    types_agree {ls} (typed.choice {p = p} {c = c} {a = a} {b = b} f g h) x want placed =
        let parts = both_so (lists_placed c false) (row_placed (lists_placed a ∷ lists_placed b ∷ []) (is_some x))
        (sym (ap (λ f. f (is_some x)) (placed_If p c a b)) ∙ placed) in
        ap (λ (w : Lowering). w.type ls x) (lowered_If here p c a b)
        ∙ types_agree g x want (both_so (lists_placed a (is_some x)) _ parts.1).0
    types_agree {ls} (typed.matching {p = p} {e = e} {arms = arms} n g each whole) x want placed =
        let parts =
        both_so (lists_placed e false) (arms_placed arms (is_some x))
        (sym (placed_Match p e arms (is_some x)) ∙ placed) in
        ap (λ (w : Lowering). w.type ls x) (lowered_Match here p e arms)
        ∙ ap (λ m. arms_type here.names.decls m (map (branch here) arms) ls x)
        (enumeration_of n (type_of e ls None) (types_agree g None tt parts.0))
        ∙ arms_agree each x want parts.1
    types_agree {ls} (typed.is_case {p = p} {e = e} {n = n} {k = k} g is) x want placed =
        ap (λ (w : Lowering). w.type ls x) (lowered_IsCase here p e n k)
    types_agree {ls} (typed.case_alone {p = p} {n = n} {k = k} is) x want placed =
        ap (λ (w : Lowering). w.type ls x) (lowered_Case_None here p n k)
    types_agree {ls} (typed.case_with {p = p} {n = n} {k = k} {e = e} t is g) x want placed =
        ap (λ (w : Lowering). w.type ls x) (lowered_Case_Some here p n k e)
    types_agree {ls} (typed.structure {p = p} {n = n} {fs = fs} g there) x want placed =
        ap (λ (w : Lowering). w.type ls x) (lowered_Structure here p n fs)
    types_agree {ls} (typed.list {p = p} {es = es} {t = t} declared low few each) x want placed =
        ap (λ (w : Lowering). w.type ls x) (lowered_List here p es)
        ∙ row_agrees each x want (sym (ap (λ f. f (is_some x)) (placed_List p es)) ∙ placed)
    types_agree {ls} (typed.for_all {p = p} {l = l} {test = test} t g h) x want placed =
        ap (λ (w : Lowering). w.type ls x) (lowered_ForAll here p l test)
    types_agree {ls} (typed.exists {p = p} {l = l} {test = test} t g h) x want placed =
        ap (λ (w : Lowering). w.type ls x) (lowered_Exists here p l test)
    types_agree {ls} (typed.map_each {p = p} {l = l} {e = e} {u = u} t g h declared low) x want placed =
        let parts =
        both_so (lists_placed l false) (lists_placed e false)
        (sym (ap (λ f. f (is_some x)) (placed_Map p l e)) ∙ placed) in
        ap (λ (w : Lowering). w.type ls x) (lowered_Map here p l e)
        ∙ ap (λ (v : Ty). ty.List (type_of e (ls ++ v ∷ []) None))
        (element_of_list t (type_of l ls None) (types_agree g None tt parts.0))
        ∙ ap ty.List (types_agree h None tt parts.1)
    types_agree {ls} (typed.filter {p = p} {l = l} {test = test} t g h) x want placed =
        let parts =
        both_so (lists_placed l false) (lists_placed test false)
        (sym (ap (λ f. f (is_some x)) (placed_Filter p l test)) ∙ placed) in
        ap (λ (w : Lowering). w.type ls x) (lowered_Filter here p l test) ∙ types_agree g None tt parts.0
    types_agree {ls} (typed.combine {p = p} {l = l} {start = start} {e = e} t g h i) x want placed =
        let parts = both_so (lists_placed l false && lists_placed start false) (lists_placed e true)
        (sym (ap (λ f. f (is_some x)) (placed_Combine p l start e)) ∙ placed) in
        ap (λ (w : Lowering). w.type ls x) (lowered_Combine here p l start e)
        ∙ types_agree h None tt (both_so (lists_placed l false) (lists_placed start false) parts.0).1
    types_agree {ls} (typed.contains {p = p} {q = q} {l = l} {e = e} t g h is) x want placed =
        ap (λ (w : Lowering). w.type ls x) (lowered_Contains here p q l e)
    types_agree {ls} (typed.number_of {p = p} {l = l} t g) x want placed =
        ap (λ (w : Lowering). w.type ls x) (lowered_Length here p l)
    types_agree {ls} (typed.sum {p = p} {k = k} {l = l} g) x want placed =
        ap (λ (w : Lowering). w.type ls x) (lowered_Sum here p k l)
    types_agree {ls} (typed.call {p = p} {f = f} {es = es} params is g) x want placed =
        ap (λ (w : Lowering). w.type ls x) (lowered_Call here p f es) ∙ ap item_type is.decl_is ∙ sym is.ty_is
    types_agree {ls} (typed.scope_call {p = p} {s = s} {k = k} {fs = fs} g there is) x want placed =
        ap (λ (w : Lowering). w.type ls x) (lowered_ScopeCall here p s fs k) ∙ ap item_type is.1 ∙ sym is.2

    pub row_agrees : {ls : List Ty} {es : List Expr} {t : Ty} → AllHaveType here.names ls es t → (x : Option Ty)
        → Expects x (ty.List t)
        → row_placed (map lists_placed es) (is_some x) ≡ true → row_type (map (lowered here) es) ls x ≡ ty.List t
    row_agrees {t = t} typed.all_none x want placed = none_placed x (ty.List t) want placed
    row_agrees {t = t} (typed.all_more {e = e} g more) x want placed =
        ap ty.List (types_agree g (element_expected x) (expects_element x t want)
        (ap (λ b. lists_placed e b) (still_expected x) ∙ (both_so (lists_placed e (is_some x)) _ placed).0))

    pub arms_agree : {ls : List Ty} {n : ℕ} {arms : List Arm} {t : Ty} → ArmsHaveType here.names ls n arms t
        → (x : Option Ty) → Expects x t
        → arms_placed arms (is_some x) ≡ true → arms_type here.names.decls n (map (branch here) arms) ls x ≡ t
    arms_agree {t = t} typed.arms_none x want placed = none_placed x t want placed
    arms_agree {ls} {n} (typed.arms_more {a = a} inside is g more) x want placed =
        ap (λ (b : ArmPattern × Lowering). b.1.type (arm_types here.names.decls n b.0 ls) x) (branch_is here a)
        ∙ ap (λ (vs : List Ty). type_of a.body vs x) (arm_types_are here.names.decls n a.pattern ls inside is)
        ∙ types_agree g x want (both_so (lists_placed a.body (is_some x)) _ placed).0
