-- What each form of expression is lowered to.
use Rattle.std.proofs.Common.{◌≡◌, ℕ, List, map, Some, None, refl, rules}
use Rattle.cat_pos.specs.declared.pos.Pos.{Pos}
use Rattle.cat_scope.specs.declared.expr.Literal.{Literal}
use Rattle.cat_scope.specs.declared.operators.UnaryOp.{UnaryOp}
use Rattle.cat_scope.specs.declared.operators.BinaryOp.{BinaryOp}
use Rattle.cat_scope.specs.declared.operators.SumKind.{SumKind}
use Rattle.cat_scope.specs.declared.expr.ArmPattern.{ArmPattern}
use Rattle.cat_scope.specs.declared.expr.Expr.{Expr}
use Rattle.cat_scope.specs.declared.expr.FieldValue.{FieldValue}
use Rattle.cat_scope.specs.declared.expr.Arm.{Arm}
use Rattle.cat_scope.specs.declared.expr.Expr.TheOpen.{Expr-F}
use Rattle.cat_scope.specs.declared.expr.Expr.TheVariants as leaf
use Rattle.cat_scope.specs.declared.expr.Expr.TheViews as expr
use Rattle.cat_scope.specs.declared.expr.Expr.TheViews.{out-Expr}
use Rattle.cat_scope.specs.declared.expr.Expr.TheFolds.{fold-Arm, fold-FieldValue, fold_out-Expr, fold_out-Arm}
use Rattle.cat_scope.specs.declared.expr.Expr.TheFolds.{fold_out-FieldValue, map-Expr}
use Rattle.cat_lower.specs.Types.{Lowering}
use Rattle.cat_lower.specs.FormTypes.{type_by}
use Rattle.cat_lower.specs.Rows.{Standing}
use Rattle.cat_lower.specs.Expressions.{code_by, lowered}

-- a form, where each part is lowered
abbrev pub form : Standing → Expr-F Lowering (ArmPattern × Lowering) (ℕ × Lowering) → Lowering
form here y = record { type = type_by here.names y; code = code_by here y }

-- an arm and a field, lowered
abbrev pub branch : Standing → Arm → ArmPattern × Lowering
branch here =
    fold-Arm Lowering (ArmPattern × Lowering) (ℕ × Lowering) (form here) (λ a. (a.pattern, a.body))
    (λ f. (f.field, f.value))

abbrev pub field : Standing → FieldValue → ℕ × Lowering
field here =
    fold-FieldValue Lowering (ArmPattern × Lowering) (ℕ × Lowering) (form here) (λ a. (a.pattern, a.body))
    (λ f. (f.field, f.value))

levels : (here : Standing) (e : Expr) → lowered here e ≡ form here
    (map-Expr Expr Arm FieldValue Lowering (ArmPattern × Lowering) (ℕ × Lowering) (lowered here) (branch here)
    (field here) (out-Expr e))
unfolding lowered
levels here e =
    fold_out-Expr Lowering (ArmPattern × Lowering) (ℕ × Lowering) (form here) (λ a. (a.pattern, a.body))
    (λ f. (f.field, f.value)) e

pub branch_is : (here : Standing) (a : Arm) → branch here a ≡ (a.pattern, lowered here a.body)
unfolding lowered
branch_is here a = search (
  rules,
  expr.the_lemmas,
  fold_out-Arm Lowering (ArmPattern × Lowering) (ℕ × Lowering) (form here) (λ a. (a.pattern, a.body))
      (λ f. (f.field, f.value)),
)

pub field_is : (here : Standing) (f : FieldValue) → field here f ≡ (f.field, lowered here f.value)
unfolding lowered
field_is here f = search (
  rules,
  expr.the_lemmas,
  fold_out-FieldValue Lowering (ArmPattern × Lowering) (ℕ × Lowering) (form here) (λ a. (a.pattern, a.body))
      (λ f. (f.field, f.value)),
)

pub lowered_Literal : (here : Standing) (p : Pos) (l : Literal)
    → lowered here (leaf.Literal p l) ≡ form here (Expr-F.Literal p l)
lowered_Literal here p l = rw (levels here (leaf.Literal p l), expr.outs-Literal p l) refl

pub lowered_Item : (here : Standing) (p : Pos) (item : ℕ)
    → lowered here (leaf.Item p item) ≡ form here (Expr-F.Item p item)
lowered_Item here p item = rw (levels here (leaf.Item p item), expr.outs-Item p item) refl

pub lowered_Output : (here : Standing) (p : Pos) (item k : ℕ)
    → lowered here (leaf.Output p item k) ≡ form here (Expr-F.Output p item k)
lowered_Output here p item k = rw (levels here (leaf.Output p item k), expr.outs-Output p item k) refl

pub lowered_Local : (here : Standing) (p : Pos) (k : ℕ)
    → lowered here (leaf.Local p k) ≡ form here (Expr-F.Local p k)
lowered_Local here p k = rw (levels here (leaf.Local p k), expr.outs-Local p k) refl

pub lowered_Field : (here : Standing) (p : Pos) (e : Expr) (k : ℕ)
    → lowered here (expr.Field p e k) ≡ form here (Expr-F.Field p (lowered here e) k)
lowered_Field here p e k = rw (levels here (expr.Field p e k), expr.outs-Field p e k) refl

pub lowered_Unary : (here : Standing) (p : Pos) (o : UnaryOp) (e : Expr)
    → lowered here (expr.Unary p o e) ≡ form here (Expr-F.Unary p o (lowered here e))
lowered_Unary here p o e = rw (levels here (expr.Unary p o e), expr.outs-Unary p o e) refl

pub lowered_Binary : (here : Standing) (p : Pos) (o : BinaryOp) (q : Pos) (a b : Expr)
    → lowered here (expr.Binary p o q a b) ≡ form here (Expr-F.Binary p o q (lowered here a) (lowered here b))
lowered_Binary here p o q a b = rw (levels here (expr.Binary p o q a b), expr.outs-Binary p o q a b) refl

pub lowered_And : (here : Standing) (p : Pos) (a b : Expr)
    → lowered here (expr.And p a b) ≡ form here (Expr-F.And p (lowered here a) (lowered here b))
lowered_And here p a b = rw (levels here (expr.And p a b), expr.outs-And p a b) refl

pub lowered_Or : (here : Standing) (p : Pos) (a b : Expr)
    → lowered here (expr.Or p a b) ≡ form here (Expr-F.Or p (lowered here a) (lowered here b))
lowered_Or here p a b = rw (levels here (expr.Or p a b), expr.outs-Or p a b) refl

pub lowered_If : (here : Standing) (p : Pos) (c a b : Expr)
    → lowered here (expr.If p c a b) ≡ form here (Expr-F.If p (lowered here c) (lowered here a) (lowered here b))
lowered_If here p c a b = rw (levels here (expr.If p c a b), expr.outs-If p c a b) refl

pub lowered_Match : (here : Standing) (p : Pos) (e : Expr) (arms : List Arm)
    → lowered here (expr.Match p e arms) ≡ form here (Expr-F.Match p (lowered here e) (map (branch here) arms))
lowered_Match here p e arms = rw (levels here (expr.Match p e arms), expr.outs-Match p e arms) refl

pub lowered_IsCase : (here : Standing) (p : Pos) (e : Expr) (n k : ℕ)
    → lowered here (expr.IsCase p e n k) ≡ form here (Expr-F.IsCase p (lowered here e) n k)
lowered_IsCase here p e n k = rw (levels here (expr.IsCase p e n k), expr.outs-IsCase p e n k) refl

pub lowered_Case_None : (here : Standing) (p : Pos) (n k : ℕ)
    → lowered here (expr.Case p n k None) ≡ form here (Expr-F.Case p n k None)
lowered_Case_None here p n k = rw (levels here (expr.Case p n k None), expr.outs-Case p n k None) refl

pub lowered_Case_Some : (here : Standing) (p : Pos) (n k : ℕ) (e : Expr)
    → lowered here (expr.Case p n k (Some e)) ≡ form here (Expr-F.Case p n k (Some (lowered here e)))
lowered_Case_Some here p n k e = rw (levels here (expr.Case p n k (Some e)), expr.outs-Case p n k (Some e)) refl

pub lowered_Structure : (here : Standing) (p : Pos) (n : ℕ) (fields : List FieldValue)
    → lowered here (expr.Structure p n fields) ≡ form here (Expr-F.Structure p n (map (field here) fields))
lowered_Structure here p n fields = rw (levels here (expr.Structure p n fields), expr.outs-Structure p n fields) refl

pub lowered_List : (here : Standing) (p : Pos) (es : List Expr)
    → lowered here (expr.List p es) ≡ form here (Expr-F.List p (map (lowered here) es))
lowered_List here p es = rw (levels here (expr.List p es), expr.outs-List p es) refl

pub lowered_ForAll : (here : Standing) (p : Pos) (l test : Expr)
    → lowered here (expr.ForAll p l test) ≡ form here (Expr-F.ForAll p (lowered here l) (lowered here test))
lowered_ForAll here p l test = rw (levels here (expr.ForAll p l test), expr.outs-ForAll p l test) refl

pub lowered_Exists : (here : Standing) (p : Pos) (l test : Expr)
    → lowered here (expr.Exists p l test) ≡ form here (Expr-F.Exists p (lowered here l) (lowered here test))
lowered_Exists here p l test = rw (levels here (expr.Exists p l test), expr.outs-Exists p l test) refl

pub lowered_Map : (here : Standing) (p : Pos) (l e : Expr)
    → lowered here (expr.Map p l e) ≡ form here (Expr-F.Map p (lowered here l) (lowered here e))
lowered_Map here p l e = rw (levels here (expr.Map p l e), expr.outs-Map p l e) refl

pub lowered_Filter : (here : Standing) (p : Pos) (l test : Expr)
    → lowered here (expr.Filter p l test) ≡ form here (Expr-F.Filter p (lowered here l) (lowered here test))
lowered_Filter here p l test = rw (levels here (expr.Filter p l test), expr.outs-Filter p l test) refl

pub lowered_Combine : (here : Standing) (p : Pos) (l start e : Expr)
    → lowered here (expr.Combine p l start e)
    ≡ form here (Expr-F.Combine p (lowered here l) (lowered here start) (lowered here e))
lowered_Combine here p l start e = rw (levels here (expr.Combine p l start e), expr.outs-Combine p l start e) refl

pub lowered_Contains : (here : Standing) (p q : Pos) (l e : Expr)
    → lowered here (expr.Contains p q l e) ≡ form here (Expr-F.Contains p q (lowered here l) (lowered here e))
lowered_Contains here p q l e = rw (levels here (expr.Contains p q l e), expr.outs-Contains p q l e) refl

pub lowered_Length : (here : Standing) (p : Pos) (l : Expr)
    → lowered here (expr.Length p l) ≡ form here (Expr-F.Length p (lowered here l))
lowered_Length here p l = rw (levels here (expr.Length p l), expr.outs-Length p l) refl

pub lowered_Sum : (here : Standing) (p : Pos) (kind : SumKind) (l : Expr)
    → lowered here (expr.Sum p kind l) ≡ form here (Expr-F.Sum p kind (lowered here l))
lowered_Sum here p kind l = rw (levels here (expr.Sum p kind l), expr.outs-Sum p kind l) refl

pub lowered_Call : (here : Standing) (p : Pos) (f : ℕ) (es : List Expr)
    → lowered here (expr.Call p f es) ≡ form here (Expr-F.Call p f (map (lowered here) es))
lowered_Call here p f es = rw (levels here (expr.Call p f es), expr.outs-Call p f es) refl

pub lowered_ScopeCall : (here : Standing) (p : Pos) (s : ℕ) (fields : List FieldValue) (k : ℕ)
    → lowered here (expr.ScopeCall p s fields k) ≡ form here (Expr-F.ScopeCall p s (map (field here) fields) k)
lowered_ScopeCall here p s fields k =
    rw (levels here (expr.ScopeCall p s fields k), expr.outs-ScopeCall p s fields k) refl
