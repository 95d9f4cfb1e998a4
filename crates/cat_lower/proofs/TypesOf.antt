-- What is told of the form of an expression is told of the expression.
use Rattle.std.proofs.Common.{◌≡◌, ℕ, List, [], ◌∷◌, map, Option, Some, None, Result, IfOk, refl, sym, ap, ◌∙◌, subst}
use Rattle.std.specs.declared.alloc.AllocError.{AllocError}
use Rattle.cat_pos.specs.declared.pos.Pos.{Pos}
use Rattle.cat_value.specs.declared.ty.Ty.{Ty}
use Rattle.cat_value.specs.declared.ty.Ty.TheVariants as flat
use Rattle.cat_scope.specs.declared.expr.Literal.{Literal}
use Rattle.cat_scope.specs.declared.operators.UnaryOp.{UnaryOp}
use Rattle.cat_scope.specs.declared.operators.BinaryOp.{BinaryOp}
use Rattle.cat_scope.specs.declared.operators.SumKind.{SumKind}
use Rattle.cat_scope.specs.declared.expr.ArmPattern.{ArmPattern}
use Rattle.cat_scope.specs.declared.expr.Expr.{Expr}
use Rattle.cat_scope.specs.declared.expr.FieldValue.{FieldValue}
use Rattle.cat_scope.specs.declared.expr.Arm.{Arm}
use Rattle.cat_scope.specs.declared.expr.Expr.TheOpen.{Expr-F}
use Rattle.cat_scope.specs.declared.expr.Expr.TheVariants as leaf
use Rattle.cat_scope.specs.declared.expr.Expr.TheViews as expr
use Rattle.cat_lower.specs.Types.{Lowering}
use Rattle.cat_lower.specs.Rows.{Standing}
use Rattle.cat_lower.specs.Expressions.{lowered}
use Rattle.cat_lower.proofs.LoweredEquations.{form, branch, branch_is, field, field_is, lowered_Literal, lowered_Item}
use Rattle.cat_lower.proofs.LoweredEquations.{lowered_Output, lowered_Local, lowered_Field, lowered_Unary}
use Rattle.cat_lower.proofs.LoweredEquations.{lowered_Binary, lowered_And, lowered_Or, lowered_If, lowered_Match}
use Rattle.cat_lower.proofs.LoweredEquations.{lowered_IsCase, lowered_Case_None, lowered_Case_Some, lowered_Structure}
use Rattle.cat_lower.proofs.LoweredEquations.{lowered_List, lowered_ForAll, lowered_Exists, lowered_Map, lowered_Filter}
use Rattle.cat_lower.proofs.LoweredEquations.{lowered_Combine, lowered_Contains, lowered_Length, lowered_Sum}
use Rattle.cat_lower.proofs.LoweredEquations.{lowered_Call, lowered_ScopeCall}

pub branches_are : (here : Standing) (arms : List Arm)
    → map (branch here) arms ≡ map (λ a. (a.pattern, lowered here a.body)) arms
branches_are here [] = refl
branches_are here (a ∷ arms) =
    ap (λ (g : ArmPattern × Lowering). g ∷ map (branch here) arms) (branch_is here a)
    ∙ ap (λ l. (a.pattern, lowered here a.body) ∷ l) (branches_are here arms)

pub fields_are : (here : Standing) (fs : List FieldValue)
    → map (field here) fs ≡ map (λ f. (f.field, lowered here f.value)) fs
fields_are here [] = refl
fields_are here (f ∷ fs) =
    ap (λ (g : ℕ × Lowering). g ∷ map (field here) fs) (field_is here f)
    ∙ ap (λ l. (f.field, lowered here f.value) ∷ l) (fields_are here fs)

pub typed_Literal : (r : Result Ty AllocError) (here : Standing) (p : Pos) (l : Literal) (ls : List Ty) (x : Option Ty)
    → IfOk r (λ t. t ≡ (form here (Expr-F.Literal p l)).type ls x)
    → IfOk r (λ t. t ≡ (lowered here (leaf.Literal p l)).type ls x)
typed_Literal r here p l ls x h =
    subst (λ (y : Lowering). IfOk r (λ t. t ≡ y.type ls x)) (sym (lowered_Literal here p l)) h

pub told_Literal : (here : Standing) (whole : Expr) (p : Pos) (l : Literal) (ls : List Ty) (x : Option Ty)
    → whole ≡ leaf.Literal p l
    → (form here (Expr-F.Literal p l)).type ls x ≡ (lowered here whole).type ls x
told_Literal here whole p l ls x is =
    sym (ap (λ d. (lowered here d).type ls x) is ∙ ap (λ (y : Lowering). y.type ls x) (lowered_Literal here p l))

pub typed_Item : (r : Result Ty AllocError) (here : Standing) (p : Pos) (item : ℕ) (ls : List Ty) (x : Option Ty)
    → IfOk r (λ t. t ≡ (form here (Expr-F.Item p item)).type ls x)
    → IfOk r (λ t. t ≡ (lowered here (leaf.Item p item)).type ls x)
typed_Item r here p item ls x h =
    subst (λ (y : Lowering). IfOk r (λ t. t ≡ y.type ls x)) (sym (lowered_Item here p item)) h

pub typed_Output : (r : Result Ty AllocError) (here : Standing) (p : Pos) (item k : ℕ) (ls : List Ty) (x : Option Ty)
    → IfOk r (λ t. t ≡ (form here (Expr-F.Output p item k)).type ls x)
    → IfOk r (λ t. t ≡ (lowered here (leaf.Output p item k)).type ls x)
typed_Output r here p item k ls x h =
    subst (λ (y : Lowering). IfOk r (λ t. t ≡ y.type ls x)) (sym (lowered_Output here p item k)) h

pub typed_Local : (r : Result Ty AllocError) (here : Standing) (p : Pos) (k : ℕ) (ls : List Ty) (x : Option Ty)
    → IfOk r (λ t. t ≡ (form here (Expr-F.Local p k)).type ls x)
    → IfOk r (λ t. t ≡ (lowered here (leaf.Local p k)).type ls x)
typed_Local r here p k ls x h =
    subst (λ (y : Lowering). IfOk r (λ t. t ≡ y.type ls x)) (sym (lowered_Local here p k)) h

pub typed_Field : (r : Result Ty AllocError) (here : Standing) (p : Pos) (e : Expr) (k : ℕ) (ls : List Ty)
    (x : Option Ty)
    → IfOk r (λ t. t ≡ (form here (Expr-F.Field p (lowered here e) k)).type ls x)
    → IfOk r (λ t. t ≡ (lowered here (expr.Field p e k)).type ls x)
typed_Field r here p e k ls x h =
    subst (λ (y : Lowering). IfOk r (λ t. t ≡ y.type ls x)) (sym (lowered_Field here p e k)) h

pub told_Field : (here : Standing) (whole : Expr) (p : Pos) (e : Expr) (k : ℕ) (ls : List Ty) (x : Option Ty)
    → whole ≡ expr.Field p e k
    → (form here (Expr-F.Field p (lowered here e) k)).type ls x ≡ (lowered here whole).type ls x
told_Field here whole p e k ls x is =
    sym (ap (λ d. (lowered here d).type ls x) is ∙ ap (λ (y : Lowering). y.type ls x) (lowered_Field here p e k))

pub typed_Unary : (r : Result Ty AllocError) (here : Standing) (p : Pos) (o : UnaryOp) (e : Expr) (ls : List Ty)
    (x : Option Ty)
    → IfOk r (λ t. t ≡ (form here (Expr-F.Unary p o (lowered here e))).type ls x)
    → IfOk r (λ t. t ≡ (lowered here (expr.Unary p o e)).type ls x)
typed_Unary r here p o e ls x h =
    subst (λ (y : Lowering). IfOk r (λ t. t ≡ y.type ls x)) (sym (lowered_Unary here p o e)) h

pub told_Unary : (here : Standing) (whole : Expr) (p : Pos) (o : UnaryOp) (e : Expr) (ls : List Ty) (x : Option Ty)
    → whole ≡ expr.Unary p o e
    → (form here (Expr-F.Unary p o (lowered here e))).type ls x ≡ (lowered here whole).type ls x
told_Unary here whole p o e ls x is =
    sym (ap (λ d. (lowered here d).type ls x) is ∙ ap (λ (y : Lowering). y.type ls x) (lowered_Unary here p o e))

pub typed_Binary : (r : Result Ty AllocError) (here : Standing) (p : Pos) (o : BinaryOp) (q : Pos) (a b : Expr)
    (ls : List Ty) (x : Option Ty)
    → IfOk r (λ t. t ≡ (form here (Expr-F.Binary p o q (lowered here a) (lowered here b))).type ls x)
    → IfOk r (λ t. t ≡ (lowered here (expr.Binary p o q a b)).type ls x)
typed_Binary r here p o q a b ls x h =
    subst (λ (y : Lowering). IfOk r (λ t. t ≡ y.type ls x)) (sym (lowered_Binary here p o q a b)) h

pub told_Binary : (here : Standing) (whole : Expr) (p : Pos) (o : BinaryOp) (q : Pos) (a b : Expr) (ls : List Ty)
    (x : Option Ty) → whole ≡ expr.Binary p o q a b
    → (form here (Expr-F.Binary p o q (lowered here a) (lowered here b))).type ls x ≡ (lowered here whole).type ls x
told_Binary here whole p o q a b ls x is =
    sym (ap (λ d. (lowered here d).type ls x) is ∙ ap (λ (y : Lowering). y.type ls x) (lowered_Binary here p o q a b))

pub typed_And : (r : Result Ty AllocError) (here : Standing) (p : Pos) (a b : Expr) (ls : List Ty) (x : Option Ty)
    → IfOk r (λ t. t ≡ (form here (Expr-F.And p (lowered here a) (lowered here b))).type ls x)
    → IfOk r (λ t. t ≡ (lowered here (expr.And p a b)).type ls x)
typed_And r here p a b ls x h =
    subst (λ (y : Lowering). IfOk r (λ t. t ≡ y.type ls x)) (sym (lowered_And here p a b)) h

pub told_And : (here : Standing) (whole : Expr) (p : Pos) (a b : Expr) (ls : List Ty) (x : Option Ty)
    → whole ≡ expr.And p a b
    → (form here (Expr-F.And p (lowered here a) (lowered here b))).type ls x ≡ (lowered here whole).type ls x
told_And here whole p a b ls x is =
    sym (ap (λ d. (lowered here d).type ls x) is ∙ ap (λ (y : Lowering). y.type ls x) (lowered_And here p a b))

pub typed_Or : (r : Result Ty AllocError) (here : Standing) (p : Pos) (a b : Expr) (ls : List Ty) (x : Option Ty)
    → IfOk r (λ t. t ≡ (form here (Expr-F.Or p (lowered here a) (lowered here b))).type ls x)
    → IfOk r (λ t. t ≡ (lowered here (expr.Or p a b)).type ls x)
typed_Or r here p a b ls x h =
    subst (λ (y : Lowering). IfOk r (λ t. t ≡ y.type ls x)) (sym (lowered_Or here p a b)) h

pub told_Or : (here : Standing) (whole : Expr) (p : Pos) (a b : Expr) (ls : List Ty) (x : Option Ty)
    → whole ≡ expr.Or p a b
    → (form here (Expr-F.Or p (lowered here a) (lowered here b))).type ls x ≡ (lowered here whole).type ls x
told_Or here whole p a b ls x is =
    sym (ap (λ d. (lowered here d).type ls x) is ∙ ap (λ (y : Lowering). y.type ls x) (lowered_Or here p a b))

pub typed_If : (r : Result Ty AllocError) (here : Standing) (p : Pos) (c a b : Expr) (ls : List Ty) (x : Option Ty)
    → IfOk r (λ t. t ≡ (form here (Expr-F.If p (lowered here c) (lowered here a) (lowered here b))).type ls x)
    → IfOk r (λ t. t ≡ (lowered here (expr.If p c a b)).type ls x)
typed_If r here p c a b ls x h =
    subst (λ (y : Lowering). IfOk r (λ t. t ≡ y.type ls x)) (sym (lowered_If here p c a b)) h

pub typed_Match : (r : Result Ty AllocError) (here : Standing) (p : Pos) (e : Expr) (arms : List Arm) (ls : List Ty)
    (x : Option Ty)
    → IfOk r (λ t. t ≡ (form here
    (Expr-F.Match p (lowered here e) (map (λ a. (a.pattern, lowered here a.body)) arms))).type ls x)
    → IfOk r (λ t. t ≡ (lowered here (expr.Match p e arms)).type ls x)
typed_Match r here p e arms ls x h =
    subst (λ (y : Lowering). IfOk r (λ t. t ≡ y.type ls x))
    (sym (lowered_Match here p e arms
    ∙ ap (λ (l : List (ArmPattern × Lowering)). form here (Expr-F.Match p (lowered here e) l))
    (branches_are here arms))) h

pub told_Match : (here : Standing) (whole : Expr) (p : Pos) (e : Expr) (arms : List Arm) (ls : List Ty) (x : Option Ty)
    → whole ≡ expr.Match p e arms
    → (form here (Expr-F.Match p (lowered here e) (map (λ a. (a.pattern, lowered here a.body)) arms))).type ls x
    ≡ (lowered here whole).type ls x
told_Match here whole p e arms ls x is =
    sym (ap (λ d. (lowered here d).type ls x) is
    ∙ ap (λ (y : Lowering). y.type ls x)
    (lowered_Match here p e arms
    ∙ ap (λ (l : List (ArmPattern × Lowering)). form here (Expr-F.Match p (lowered here e) l))
    (branches_are here arms)))

pub typed_IsCase : (r : Result Ty AllocError) (here : Standing) (p : Pos) (e : Expr) (n k : ℕ) (ls : List Ty)
    (x : Option Ty)
    → IfOk r (λ t. t ≡ (form here (Expr-F.IsCase p (lowered here e) n k)).type ls x)
    → IfOk r (λ t. t ≡ (lowered here (expr.IsCase p e n k)).type ls x)
typed_IsCase r here p e n k ls x h =
    subst (λ (y : Lowering). IfOk r (λ t. t ≡ y.type ls x)) (sym (lowered_IsCase here p e n k)) h

pub told_IsCase : (here : Standing) (whole : Expr) (p : Pos) (e : Expr) (n k : ℕ) (ls : List Ty) (x : Option Ty)
    → whole ≡ expr.IsCase p e n k
    → (form here (Expr-F.IsCase p (lowered here e) n k)).type ls x ≡ (lowered here whole).type ls x
told_IsCase here whole p e n k ls x is =
    sym (ap (λ d. (lowered here d).type ls x) is ∙ ap (λ (y : Lowering). y.type ls x) (lowered_IsCase here p e n k))

pub typed_Case_None : (r : Result Ty AllocError) (here : Standing) (p : Pos) (n k : ℕ) (ls : List Ty) (x : Option Ty)
    → IfOk r (λ t. t ≡ (form here (Expr-F.Case p n k None)).type ls x)
    → IfOk r (λ t. t ≡ (lowered here (expr.Case p n k None)).type ls x)
typed_Case_None r here p n k ls x h =
    subst (λ (y : Lowering). IfOk r (λ t. t ≡ y.type ls x)) (sym (lowered_Case_None here p n k)) h

pub told_Case_None : (here : Standing) (whole : Expr) (p : Pos) (n k : ℕ) (ls : List Ty) (x : Option Ty)
    → whole ≡ expr.Case p n k None
    → (form here (Expr-F.Case p n k None)).type ls x ≡ (lowered here whole).type ls x
told_Case_None here whole p n k ls x is =
    sym (ap (λ d. (lowered here d).type ls x) is ∙ ap (λ (y : Lowering). y.type ls x) (lowered_Case_None here p n k))

pub typed_Case_Some : (r : Result Ty AllocError) (here : Standing) (p : Pos) (n k : ℕ) (e : Expr) (ls : List Ty)
    (x : Option Ty)
    → IfOk r (λ t. t ≡ (form here (Expr-F.Case p n k (Some (lowered here e)))).type ls x)
    → IfOk r (λ t. t ≡ (lowered here (expr.Case p n k (Some e))).type ls x)
typed_Case_Some r here p n k e ls x h =
    subst (λ (y : Lowering). IfOk r (λ t. t ≡ y.type ls x)) (sym (lowered_Case_Some here p n k e)) h

pub told_Case_Some : (here : Standing) (whole : Expr) (p : Pos) (n k : ℕ) (e : Expr) (ls : List Ty) (x : Option Ty)
    → whole ≡ expr.Case p n k (Some e)
    → (form here (Expr-F.Case p n k (Some (lowered here e)))).type ls x ≡ (lowered here whole).type ls x
told_Case_Some here whole p n k e ls x is =
    sym (ap (λ d. (lowered here d).type ls x) is ∙ ap (λ (y : Lowering). y.type ls x) (lowered_Case_Some here p n k e))

pub typed_Structure : (r : Result Ty AllocError) (here : Standing) (p : Pos) (n : ℕ) (fields : List FieldValue)
    (ls : List Ty) (x : Option Ty)
    → IfOk r (λ t. t ≡ (form here (Expr-F.Structure p n (map (λ f. (f.field, lowered here f.value)) fields))).type ls x)
    → IfOk r (λ t. t ≡ (lowered here (expr.Structure p n fields)).type ls x)
typed_Structure r here p n fields ls x h =
    subst (λ (y : Lowering). IfOk r (λ t. t ≡ y.type ls x))
    (sym (lowered_Structure here p n fields
    ∙ ap (λ (l : List (ℕ × Lowering)). form here (Expr-F.Structure p n l)) (fields_are here fields))) h

pub told_Structure : (here : Standing) (whole : Expr) (p : Pos) (n : ℕ) (fields : List FieldValue) (ls : List Ty)
    (x : Option Ty) → whole ≡ expr.Structure p n fields
    → (form here (Expr-F.Structure p n (map (λ f. (f.field, lowered here f.value)) fields))).type ls x
    ≡ (lowered here whole).type ls x
told_Structure here whole p n fields ls x is =
    sym (ap (λ d. (lowered here d).type ls x) is
    ∙ ap (λ (y : Lowering). y.type ls x)
    (lowered_Structure here p n fields
    ∙ ap (λ (l : List (ℕ × Lowering)). form here (Expr-F.Structure p n l)) (fields_are here fields)))

pub typed_List : (r : Result Ty AllocError) (here : Standing) (p : Pos) (es : List Expr) (ls : List Ty) (x : Option Ty)
    → IfOk r (λ t. t ≡ (form here (Expr-F.List p (map (lowered here) es))).type ls x)
    → IfOk r (λ t. t ≡ (lowered here (expr.List p es)).type ls x)
typed_List r here p es ls x h =
    subst (λ (y : Lowering). IfOk r (λ t. t ≡ y.type ls x)) (sym (lowered_List here p es)) h

pub typed_ForAll : (r : Result Ty AllocError) (here : Standing) (p : Pos) (l test : Expr) (ls : List Ty) (x : Option Ty)
    → IfOk r (λ t. t ≡ (form here (Expr-F.ForAll p (lowered here l) (lowered here test))).type ls x)
    → IfOk r (λ t. t ≡ (lowered here (expr.ForAll p l test)).type ls x)
typed_ForAll r here p l test ls x h =
    subst (λ (y : Lowering). IfOk r (λ t. t ≡ y.type ls x)) (sym (lowered_ForAll here p l test)) h

pub told_ForAll : (here : Standing) (whole : Expr) (p : Pos) (l test : Expr) (ls : List Ty) (x : Option Ty)
    → whole ≡ expr.ForAll p l test
    → (form here (Expr-F.ForAll p (lowered here l) (lowered here test))).type ls x ≡ (lowered here whole).type ls x
told_ForAll here whole p l test ls x is =
    sym (ap (λ d. (lowered here d).type ls x) is ∙ ap (λ (y : Lowering). y.type ls x) (lowered_ForAll here p l test))

pub typed_Exists : (r : Result Ty AllocError) (here : Standing) (p : Pos) (l test : Expr) (ls : List Ty) (x : Option Ty)
    → IfOk r (λ t. t ≡ (form here (Expr-F.Exists p (lowered here l) (lowered here test))).type ls x)
    → IfOk r (λ t. t ≡ (lowered here (expr.Exists p l test)).type ls x)
typed_Exists r here p l test ls x h =
    subst (λ (y : Lowering). IfOk r (λ t. t ≡ y.type ls x)) (sym (lowered_Exists here p l test)) h

pub told_Exists : (here : Standing) (whole : Expr) (p : Pos) (l test : Expr) (ls : List Ty) (x : Option Ty)
    → whole ≡ expr.Exists p l test
    → (form here (Expr-F.Exists p (lowered here l) (lowered here test))).type ls x ≡ (lowered here whole).type ls x
told_Exists here whole p l test ls x is =
    sym (ap (λ d. (lowered here d).type ls x) is ∙ ap (λ (y : Lowering). y.type ls x) (lowered_Exists here p l test))

pub typed_Map : (r : Result Ty AllocError) (here : Standing) (p : Pos) (l e : Expr) (ls : List Ty) (x : Option Ty)
    → IfOk r (λ t. t ≡ (form here (Expr-F.Map p (lowered here l) (lowered here e))).type ls x)
    → IfOk r (λ t. t ≡ (lowered here (expr.Map p l e)).type ls x)
typed_Map r here p l e ls x h =
    subst (λ (y : Lowering). IfOk r (λ t. t ≡ y.type ls x)) (sym (lowered_Map here p l e)) h

pub told_Map : (here : Standing) (whole : Expr) (p : Pos) (l e : Expr) (ls : List Ty) (x : Option Ty)
    → whole ≡ expr.Map p l e
    → (form here (Expr-F.Map p (lowered here l) (lowered here e))).type ls x ≡ (lowered here whole).type ls x
told_Map here whole p l e ls x is =
    sym (ap (λ d. (lowered here d).type ls x) is ∙ ap (λ (y : Lowering). y.type ls x) (lowered_Map here p l e))

pub typed_Filter : (r : Result Ty AllocError) (here : Standing) (p : Pos) (l test : Expr) (ls : List Ty) (x : Option Ty)
    → IfOk r (λ t. t ≡ (form here (Expr-F.Filter p (lowered here l) (lowered here test))).type ls x)
    → IfOk r (λ t. t ≡ (lowered here (expr.Filter p l test)).type ls x)
typed_Filter r here p l test ls x h =
    subst (λ (y : Lowering). IfOk r (λ t. t ≡ y.type ls x)) (sym (lowered_Filter here p l test)) h

pub typed_Combine : (r : Result Ty AllocError) (here : Standing) (p : Pos) (l start e : Expr) (ls : List Ty)
    (x : Option Ty)
    → IfOk r (λ t. t ≡ (form here (Expr-F.Combine p (lowered here l) (lowered here start) (lowered here e))).type ls x)
    → IfOk r (λ t. t ≡ (lowered here (expr.Combine p l start e)).type ls x)
typed_Combine r here p l start e ls x h =
    subst (λ (y : Lowering). IfOk r (λ t. t ≡ y.type ls x)) (sym (lowered_Combine here p l start e)) h

pub typed_Contains : (r : Result Ty AllocError) (here : Standing) (p q : Pos) (l e : Expr) (ls : List Ty)
    (x : Option Ty)
    → IfOk r (λ t. t ≡ (form here (Expr-F.Contains p q (lowered here l) (lowered here e))).type ls x)
    → IfOk r (λ t. t ≡ (lowered here (expr.Contains p q l e)).type ls x)
typed_Contains r here p q l e ls x h =
    subst (λ (y : Lowering). IfOk r (λ t. t ≡ y.type ls x)) (sym (lowered_Contains here p q l e)) h

pub told_Contains : (here : Standing) (whole : Expr) (p q : Pos) (l e : Expr) (ls : List Ty) (x : Option Ty)
    → whole ≡ expr.Contains p q l e
    → (form here (Expr-F.Contains p q (lowered here l) (lowered here e))).type ls x ≡ (lowered here whole).type ls x
told_Contains here whole p q l e ls x is =
    sym (ap (λ d. (lowered here d).type ls x) is ∙ ap (λ (y : Lowering). y.type ls x) (lowered_Contains here p q l e))

pub typed_Length : (r : Result Ty AllocError) (here : Standing) (p : Pos) (l : Expr) (ls : List Ty) (x : Option Ty)
    → IfOk r (λ t. t ≡ (form here (Expr-F.Length p (lowered here l))).type ls x)
    → IfOk r (λ t. t ≡ (lowered here (expr.Length p l)).type ls x)
typed_Length r here p l ls x h =
    subst (λ (y : Lowering). IfOk r (λ t. t ≡ y.type ls x)) (sym (lowered_Length here p l)) h

pub told_Length : (here : Standing) (whole : Expr) (p : Pos) (l : Expr) (ls : List Ty) (x : Option Ty)
    → whole ≡ expr.Length p l
    → (form here (Expr-F.Length p (lowered here l))).type ls x ≡ (lowered here whole).type ls x
told_Length here whole p l ls x is =
    sym (ap (λ d. (lowered here d).type ls x) is ∙ ap (λ (y : Lowering). y.type ls x) (lowered_Length here p l))

pub typed_Sum : (r : Result Ty AllocError) (here : Standing) (p : Pos) (kind : SumKind) (l : Expr) (ls : List Ty)
    (x : Option Ty)
    → IfOk r (λ t. t ≡ (form here (Expr-F.Sum p kind (lowered here l))).type ls x)
    → IfOk r (λ t. t ≡ (lowered here (expr.Sum p kind l)).type ls x)
typed_Sum r here p kind l ls x h =
    subst (λ (y : Lowering). IfOk r (λ t. t ≡ y.type ls x)) (sym (lowered_Sum here p kind l)) h

pub told_Sum : (here : Standing) (whole : Expr) (p : Pos) (kind : SumKind) (l : Expr) (ls : List Ty) (x : Option Ty)
    → whole ≡ expr.Sum p kind l
    → (form here (Expr-F.Sum p kind (lowered here l))).type ls x ≡ (lowered here whole).type ls x
told_Sum here whole p kind l ls x is =
    sym (ap (λ d. (lowered here d).type ls x) is ∙ ap (λ (y : Lowering). y.type ls x) (lowered_Sum here p kind l))

pub typed_Call : (r : Result Ty AllocError) (here : Standing) (p : Pos) (f : ℕ) (es : List Expr) (ls : List Ty)
    (x : Option Ty)
    → IfOk r (λ t. t ≡ (form here (Expr-F.Call p f (map (lowered here) es))).type ls x)
    → IfOk r (λ t. t ≡ (lowered here (expr.Call p f es)).type ls x)
typed_Call r here p f es ls x h =
    subst (λ (y : Lowering). IfOk r (λ t. t ≡ y.type ls x)) (sym (lowered_Call here p f es)) h

pub typed_ScopeCall : (r : Result Ty AllocError) (here : Standing) (p : Pos) (s : ℕ) (fields : List FieldValue) (k : ℕ)
    (ls : List Ty) (x : Option Ty)
    → IfOk r (λ t. t ≡ (form here (Expr-F.ScopeCall p s (map (λ f. (f.field, lowered here f.value)) fields) k)).type ls
    x) → IfOk r (λ t. t ≡ (lowered here (expr.ScopeCall p s fields k)).type ls x)
typed_ScopeCall r here p s fields k ls x h =
    subst (λ (y : Lowering). IfOk r (λ t. t ≡ y.type ls x))
    (sym (lowered_ScopeCall here p s fields k
    ∙ ap (λ (l : List (ℕ × Lowering)). form here (Expr-F.ScopeCall p s l k)) (fields_are here fields))) h

-- a case has the type of its enumeration, whether it has content or not
pub told_Case : (here : Standing) (whole : Expr) (p : Pos) (n k : ℕ) (content : Option Expr) (ls : List Ty)
    (x : Option Ty)
    → whole ≡ expr.Case p n k content → flat.Enumeration n ≡ (lowered here whole).type ls x
told_Case here whole p n k None ls x is = told_Case_None here whole p n k ls x is
told_Case here whole p n k (Some e) ls x is = told_Case_Some here whole p n k e ls x is
