-- Induction over expressions, one case a form.
use Rattle.std.proofs.Common.{ℕ, List, [], ◌∷◌, map, Option, None, Some, subst}
use Rattle.cat_pos.specs.declared.pos.Pos.{Pos}
use Rattle.cat_scope.specs.declared.expr.Literal.{Literal}
use Rattle.cat_scope.specs.declared.operators.UnaryOp.{UnaryOp}
use Rattle.cat_scope.specs.declared.operators.BinaryOp.{BinaryOp}
use Rattle.cat_scope.specs.declared.operators.SumKind.{SumKind}
use Rattle.cat_scope.specs.declared.expr.Expr.{Expr}
use Rattle.cat_scope.specs.declared.expr.FieldValue.{FieldValue}
use Rattle.cat_scope.specs.declared.expr.Arm.{Arm}
use Rattle.cat_scope.specs.declared.expr.Expr.TheVariants as leaf
use Rattle.cat_scope.specs.declared.expr.Expr.TheViews as expr
use Rattle.cat_scope.specs.declared.expr.Expr.TheOpen.{Expr-F, FieldValue-F, Arm-F}
use Rattle.cat_scope.specs.declared.expr.Expr.TheViews.{roll-Expr, roll-FieldValue, roll-Arm}
use Rattle.cat_scope.specs.declared.expr.Expr.TheFolds.{ind-Expr, map-Expr, map-FieldValue, map-Arm}
use denote.Hole.Carrier.{roll}

-- what holds of each element
abbrev pub Each : {A : Type 0} → (A → Type 0) → List A → Type 0
Each P [] = Unit {0}
Each P (x ∷ xs) = P x × Each P xs

-- what holds of a content, where there is one
abbrev pub Within : {A : Type 0} → (A → Type 0) → Option A → Type 0
Within P None = Unit {0}
Within P (Some x) = P x

held : {A : Type 0} (P : A → Type 0) (ys : List ((x : A) × P x)) → Each P (map (λ y. y.0) ys)
held P [] = tt
held P (y ∷ ys) = (y.1, held P ys)

module _
    (P : Expr → Type 0)
    (on_literal : (p : Pos) (l : Literal) → P (leaf.Literal p l))
    (on_item : (p : Pos) (item : ℕ) → P (leaf.Item p item))
    (on_output : (p : Pos) (item : ℕ) (k : ℕ) → P (leaf.Output p item k))
    (on_local : (p : Pos) (k : ℕ) → P (leaf.Local p k))
    (on_field : (p : Pos) (e : Expr) (k : ℕ) → P e → P (expr.Field p e k))
    (on_unary : (p : Pos) (o : UnaryOp) (e : Expr) → P e → P (expr.Unary p o e))
    (on_binary : (p : Pos) (o : BinaryOp) (q : Pos) (a : Expr) (b : Expr) → P a → P b → P (expr.Binary p o q a b))
    (on_and : (p : Pos) (a : Expr) (b : Expr) → P a → P b → P (expr.And p a b))
    (on_or : (p : Pos) (a : Expr) (b : Expr) → P a → P b → P (expr.Or p a b))
    (on_if : (p : Pos) (c : Expr) (a : Expr) (b : Expr) → P c → P a → P b → P (expr.If p c a b))
    (on_match : (p : Pos) (e : Expr) (arms : List Arm) → P e → Each (λ a. P a.body) arms → P (expr.Match p e arms))
    (on_is_case : (p : Pos) (e : Expr) (n : ℕ) (k : ℕ) → P e → P (expr.IsCase p e n k))
    (on_case : (p : Pos) (n : ℕ) (k : ℕ) (content : Option Expr) → Within P content → P (expr.Case p n k content))
    (on_structure : (p : Pos) (n : ℕ) (fields : List FieldValue) → Each (λ f. P f.value) fields
    → P (expr.Structure p n fields))
    (on_list : (p : Pos) (es : List Expr) → Each P es → P (expr.List p es))
    (on_for_all : (p : Pos) (l : Expr) (test : Expr) → P l → P test → P (expr.ForAll p l test))
    (on_exists : (p : Pos) (l : Expr) (test : Expr) → P l → P test → P (expr.Exists p l test))
    (on_map : (p : Pos) (l : Expr) (e : Expr) → P l → P e → P (expr.Map p l e))
    (on_filter : (p : Pos) (l : Expr) (test : Expr) → P l → P test → P (expr.Filter p l test))
    (on_combine : (p : Pos) (l : Expr) (start : Expr) (e : Expr) → P l → P start → P e → P (expr.Combine p l start e))
    (on_contains : (p : Pos) (q : Pos) (l : Expr) (e : Expr) → P l → P e → P (expr.Contains p q l e))
    (on_length : (p : Pos) (l : Expr) → P l → P (expr.Length p l))
    (on_sum : (p : Pos) (kind : SumKind) (l : Expr) → P l → P (expr.Sum p kind l))
    (on_call : (p : Pos) (f : ℕ) (es : List Expr) → Each P es → P (expr.Call p f es))
    (on_scope_call : (p : Pos) (s : ℕ) (fields : List FieldValue) (k : ℕ) → Each (λ f. P f.value) fields
    → P (expr.ScopeCall p s fields k)) where
  at : (y : Expr-F ((e : Expr) × P e) ((a : Arm) × P a.body) ((f : FieldValue) × P f.value))
      → P (roll-Expr (map-Expr ((e : Expr) × P e) ((a : Arm) × P a.body) ((f : FieldValue) × P f.value) Expr Arm
      FieldValue (λ e. e.0) (λ a. a.0) (λ f. f.0) y))
  unfolding roll-Expr roll
  at (Expr-F.Literal p l) = on_literal p l
  at (Expr-F.Item p item) = on_item p item
  at (Expr-F.Output p item k) = on_output p item k
  at (Expr-F.Local p k) = on_local p k
  at (Expr-F.Field p e k) = on_field p e.0 k e.1
  at (Expr-F.Unary p o e) = on_unary p o e.0 e.1
  at (Expr-F.Binary p o q a b) = on_binary p o q a.0 b.0 a.1 b.1
  at (Expr-F.And p a b) = on_and p a.0 b.0 a.1 b.1
  at (Expr-F.Or p a b) = on_or p a.0 b.0 a.1 b.1
  at (Expr-F.If p c a b) = on_if p c.0 a.0 b.0 c.1 a.1 b.1
  at (Expr-F.Match p e arms) = on_match p e.0 (map (λ a. a.0) arms) e.1 (held (λ a. P a.body) arms)
  at (Expr-F.IsCase p e n k) = on_is_case p e.0 n k e.1
  at (Expr-F.Case p n k None) = on_case p n k None tt
  at (Expr-F.Case p n k (Some e)) = on_case p n k (Some e.0) e.1
  at (Expr-F.Structure p n fields) = on_structure p n (map (λ f. f.0) fields) (held (λ f. P f.value) fields)
  at (Expr-F.List p es) = on_list p (map (λ e. e.0) es) (held P es)
  at (Expr-F.ForAll p l test) = on_for_all p l.0 test.0 l.1 test.1
  at (Expr-F.Exists p l test) = on_exists p l.0 test.0 l.1 test.1
  at (Expr-F.Map p l e) = on_map p l.0 e.0 l.1 e.1
  at (Expr-F.Filter p l test) = on_filter p l.0 test.0 l.1 test.1
  at (Expr-F.Combine p l start e) = on_combine p l.0 start.0 e.0 l.1 start.1 e.1
  at (Expr-F.Contains p q l e) = on_contains p q l.0 e.0 l.1 e.1
  at (Expr-F.Length p l) = on_length p l.0 l.1
  at (Expr-F.Sum p kind l) = on_sum p kind l.0 l.1
  at (Expr-F.Call p f es) = on_call p f (map (λ e. e.0) es) (held P es)
  at (Expr-F.ScopeCall p s fields k) = on_scope_call p s (map (λ f. f.0) fields) k (held (λ f. P f.value) fields)

  at_field : (y : FieldValue-F ((e : Expr) × P e) ((a : Arm) × P a.body) ((f : FieldValue) × P f.value))
      → P (roll-FieldValue (map-FieldValue ((e : Expr) × P e) ((a : Arm) × P a.body) ((f : FieldValue) × P f.value) Expr
      Arm FieldValue (λ e. e.0) (λ a. a.0) (λ f. f.0) y)).value
  at_field y = y.value.1

  at_arm : (y : Arm-F ((e : Expr) × P e) ((a : Arm) × P a.body) ((f : FieldValue) × P f.value))
      → P (roll-Arm (map-Arm ((e : Expr) × P e) ((a : Arm) × P a.body) ((f : FieldValue) × P f.value) Expr Arm
      FieldValue (λ e. e.0) (λ a. a.0) (λ f. f.0) y)).body
  at_arm y = y.body.1

  pub induction : (e : Expr) → P e
  induction = ind-Expr P (λ a. P a.body) (λ f. P f.value) (λ x y is. subst (λ z. P (roll-Expr z)) is (at y))
      (λ x y is. subst (λ z. P (roll-Arm z).body) is (at_arm y)) (λ x y is. subst (λ z. P (roll-FieldValue z).value) is
      (at_field y))
