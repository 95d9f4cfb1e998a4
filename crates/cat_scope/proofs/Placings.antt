-- The equation of `lists_placed` at each form.
use Rattle.std.proofs.Common.{◌≡◌, ◌&&◌, ℕ, Bool, true, false, List, [], ◌∷◌, map, Some, None, refl, ap, rules}
use Rattle.cat_pos.specs.declared.pos.Pos.{Pos}
use Rattle.cat_scope.specs.declared.expr.Literal.{Literal}
use Rattle.cat_scope.specs.declared.operators.UnaryOp.{UnaryOp}
use Rattle.cat_scope.specs.declared.operators.BinaryOp.{BinaryOp}
use Rattle.cat_scope.specs.declared.operators.SumKind.{SumKind}
use Rattle.cat_scope.specs.declared.expr.Expr.{Expr}
use Rattle.cat_scope.specs.declared.expr.FieldValue.{FieldValue}
use Rattle.cat_scope.specs.declared.expr.Arm.{Arm}
use Rattle.cat_scope.specs.declared.expr.Expr.TheVariants as leaf
use Rattle.cat_scope.specs.declared.expr.Expr.TheViews as expr
use Rattle.cat_scope.specs.declared.expr.Expr.TheViews.{out-Expr}
use Rattle.cat_scope.specs.declared.expr.Expr.TheOpen.{Expr-F}
use Rattle.cat_scope.specs.declared.expr.Expr.TheFolds.{fold_out-Expr, map-Expr, fold-FieldValue, fold_out-FieldValue}
use Rattle.cat_scope.specs.declared.expr.Expr.TheFolds.{fold-Arm, fold_out-Arm}
use Rattle.cat_scope.specs.Expected.{Placed, all_placed, row_placed, placed_of, lists_placed}

abbrev field : FieldValue → Placed
field = fold-FieldValue Placed Placed Placed placed_of (λ arm. arm.body) (λ field. field.value)

abbrev arm : Arm → Placed
arm = fold-Arm Placed Placed Placed placed_of (λ arm. arm.body) (λ field. field.value)

field_is : (f : FieldValue) → field f ≡ lists_placed f.value
unfolding lists_placed
field_is f = search (
  rules,
  expr.the_lemmas,
  fold_out-FieldValue Placed Placed Placed placed_of (λ arm. arm.body)
      (λ field. field.value),
)

-- a type is expected of each field
abbrev pub fields_placed : List FieldValue → Bool
fields_placed [] = true
fields_placed (f ∷ fs) = lists_placed f.value true && fields_placed fs

fields_are : (fs : List FieldValue) → all_placed (map field fs) ≡ fields_placed fs
fields_are [] = refl
fields_are (f ∷ fs) = rw (field_is f) (ap (λ rest. lists_placed f.value true && rest) (fields_are fs))

arm_is : (a : Arm) → arm a ≡ lists_placed a.body
unfolding lists_placed
arm_is a = search (
  rules,
  expr.the_lemmas,
  fold_out-Arm Placed Placed Placed placed_of (λ arm. arm.body)
      (λ field. field.value),
)

-- of the first arm what is expected of the match, and of each later one the type of the first
abbrev pub later_arms_placed : List Arm → Bool
later_arms_placed [] = true
later_arms_placed (a ∷ arms) = lists_placed a.body true && later_arms_placed arms

abbrev pub arms_placed : List Arm → Bool → Bool
arms_placed [] expected = expected
arms_placed (a ∷ arms) expected = lists_placed a.body expected && later_arms_placed arms

later_arms_are : (arms : List Arm) → all_placed (map arm arms) ≡ later_arms_placed arms
later_arms_are [] = refl
later_arms_are (a ∷ arms) = rw (arm_is a) (ap (λ rest. lists_placed a.body true && rest) (later_arms_are arms))

arms_are : (arms : List Arm) (expected : Bool) → row_placed (map arm arms) expected ≡ arms_placed arms expected
arms_are [] expected = refl
arms_are (a ∷ arms) expected = rw (arm_is a) (ap (λ rest. lists_placed a.body expected && rest) (later_arms_are arms))

levels : (e : Expr) → lists_placed e ≡ placed_of (map-Expr Expr Arm FieldValue Placed Placed Placed lists_placed arm
    field (out-Expr e))
unfolding lists_placed
levels e = fold_out-Expr Placed Placed Placed placed_of (λ arm. arm.body) (λ field. field.value) e

pub placed_Literal : (p : Pos) (l : Literal) → lists_placed (leaf.Literal p l) ≡ placed_of (Expr-F.Literal p l)
placed_Literal p l = rw (levels (leaf.Literal p l), expr.outs-Literal p l) refl

pub placed_Item : (p : Pos) (item : ℕ) → lists_placed (leaf.Item p item) ≡ placed_of (Expr-F.Item p item)
placed_Item p item = rw (levels (leaf.Item p item), expr.outs-Item p item) refl

pub placed_Output : (p : Pos) (item k : ℕ) → lists_placed (leaf.Output p item k) ≡ placed_of (Expr-F.Output p item k)
placed_Output p item k = rw (levels (leaf.Output p item k), expr.outs-Output p item k) refl

pub placed_Local : (p : Pos) (k : ℕ) → lists_placed (leaf.Local p k) ≡ placed_of (Expr-F.Local p k)
placed_Local p k = rw (levels (leaf.Local p k), expr.outs-Local p k) refl

pub placed_Field : (p : Pos) (e : Expr) (k : ℕ) → lists_placed (expr.Field p e k) ≡ placed_of
    (Expr-F.Field p (lists_placed e) k)
placed_Field p e k = rw (levels (expr.Field p e k), expr.outs-Field p e k) refl

pub placed_Unary : (p : Pos) (o : UnaryOp) (e : Expr) → lists_placed (expr.Unary p o e) ≡ placed_of
    (Expr-F.Unary p o (lists_placed e))
placed_Unary p o e = rw (levels (expr.Unary p o e), expr.outs-Unary p o e) refl

pub placed_Binary : (p : Pos) (o : BinaryOp) (q : Pos) (a b : Expr) → lists_placed (expr.Binary p o q a b) ≡ placed_of
    (Expr-F.Binary p o q (lists_placed a) (lists_placed b))
placed_Binary p o q a b = rw (levels (expr.Binary p o q a b), expr.outs-Binary p o q a b) refl

pub placed_And : (p : Pos) (a b : Expr) → lists_placed (expr.And p a b) ≡ placed_of
    (Expr-F.And p (lists_placed a) (lists_placed b))
placed_And p a b = rw (levels (expr.And p a b), expr.outs-And p a b) refl

pub placed_Or : (p : Pos) (a b : Expr) → lists_placed (expr.Or p a b) ≡ placed_of
    (Expr-F.Or p (lists_placed a) (lists_placed b))
placed_Or p a b = rw (levels (expr.Or p a b), expr.outs-Or p a b) refl

pub placed_If : (p : Pos) (c a b : Expr) → lists_placed (expr.If p c a b) ≡ placed_of
    (Expr-F.If p (lists_placed c) (lists_placed a) (lists_placed b))
placed_If p c a b = rw (levels (expr.If p c a b), expr.outs-If p c a b) refl

pub placed_Match : (p : Pos) (e : Expr) (arms : List Arm) (expected : Bool) → lists_placed (expr.Match p e arms)
    expected ≡ (lists_placed e false && arms_placed arms expected)
placed_Match p e arms expected = rw (levels (expr.Match p e arms), expr.outs-Match p e arms)
    (ap (λ rest. lists_placed e false && rest) (arms_are arms expected))

pub placed_IsCase : (p : Pos) (e : Expr) (n k : ℕ) → lists_placed (expr.IsCase p e n k) ≡ placed_of
    (Expr-F.IsCase p (lists_placed e) n k)
placed_IsCase p e n k = rw (levels (expr.IsCase p e n k), expr.outs-IsCase p e n k) refl

pub placed_Case_None : (p : Pos) (n k : ℕ) → lists_placed (expr.Case p n k None) ≡ placed_of (Expr-F.Case p n k None)
placed_Case_None p n k = rw (levels (expr.Case p n k None), expr.outs-Case p n k None) refl

pub placed_Case_Some : (p : Pos) (n k : ℕ) (e : Expr) → lists_placed (expr.Case p n k (Some e)) ≡ placed_of
    (Expr-F.Case p n k (Some (lists_placed e)))
placed_Case_Some p n k e = rw (levels (expr.Case p n k (Some e)), expr.outs-Case p n k (Some e)) refl

pub placed_Structure : (p : Pos) (n : ℕ) (fields : List FieldValue) (expected : Bool)
    → lists_placed (expr.Structure p n fields) expected ≡ fields_placed fields
placed_Structure p n fields expected = rw (levels (expr.Structure p n fields), expr.outs-Structure p n fields)
    (fields_are fields)

pub placed_List : (p : Pos) (es : List Expr) → lists_placed (expr.List p es) ≡ placed_of
    (Expr-F.List p (map lists_placed es))
placed_List p es = rw (levels (expr.List p es), expr.outs-List p es) refl

pub placed_ForAll : (p : Pos) (l test : Expr) → lists_placed (expr.ForAll p l test) ≡ placed_of
    (Expr-F.ForAll p (lists_placed l) (lists_placed test))
placed_ForAll p l test = rw (levels (expr.ForAll p l test), expr.outs-ForAll p l test) refl

pub placed_Exists : (p : Pos) (l test : Expr) → lists_placed (expr.Exists p l test) ≡ placed_of
    (Expr-F.Exists p (lists_placed l) (lists_placed test))
placed_Exists p l test = rw (levels (expr.Exists p l test), expr.outs-Exists p l test) refl

pub placed_Map : (p : Pos) (l e : Expr) → lists_placed (expr.Map p l e) ≡ placed_of
    (Expr-F.Map p (lists_placed l) (lists_placed e))
placed_Map p l e = rw (levels (expr.Map p l e), expr.outs-Map p l e) refl

pub placed_Filter : (p : Pos) (l test : Expr) → lists_placed (expr.Filter p l test) ≡ placed_of
    (Expr-F.Filter p (lists_placed l) (lists_placed test))
placed_Filter p l test = rw (levels (expr.Filter p l test), expr.outs-Filter p l test) refl

pub placed_Combine : (p : Pos) (l start e : Expr) → lists_placed (expr.Combine p l start e) ≡ placed_of
    (Expr-F.Combine p (lists_placed l) (lists_placed start) (lists_placed e))
placed_Combine p l start e = rw (levels (expr.Combine p l start e), expr.outs-Combine p l start e) refl

pub placed_Contains : (p q : Pos) (l e : Expr) → lists_placed (expr.Contains p q l e) ≡ placed_of
    (Expr-F.Contains p q (lists_placed l) (lists_placed e))
placed_Contains p q l e = rw (levels (expr.Contains p q l e), expr.outs-Contains p q l e) refl

pub placed_Length : (p : Pos) (l : Expr) → lists_placed (expr.Length p l) ≡ placed_of (Expr-F.Length p (lists_placed l))
placed_Length p l = rw (levels (expr.Length p l), expr.outs-Length p l) refl

pub placed_Sum : (p : Pos) (kind : SumKind) (l : Expr) → lists_placed (expr.Sum p kind l) ≡ placed_of
    (Expr-F.Sum p kind (lists_placed l))
placed_Sum p kind l = rw (levels (expr.Sum p kind l), expr.outs-Sum p kind l) refl

pub placed_Call : (p : Pos) (f : ℕ) (es : List Expr) → lists_placed (expr.Call p f es) ≡ placed_of
    (Expr-F.Call p f (map lists_placed es))
placed_Call p f es = rw (levels (expr.Call p f es), expr.outs-Call p f es) refl

pub placed_ScopeCall : (p : Pos) (s : ℕ) (fields : List FieldValue) (k : ℕ) (expected : Bool)
    → lists_placed (expr.ScopeCall p s fields k) expected ≡ fields_placed fields
placed_ScopeCall p s fields k expected = rw (levels (expr.ScopeCall p s fields k), expr.outs-ScopeCall p s fields k)
    (fields_are fields)

pub ruleset placings = (
  placed_Literal,
  placed_Item,
  placed_Output,
  placed_Local,
  placed_Field,
  placed_Unary,
  placed_Binary,
  placed_And,
  placed_Or,
  placed_If,
  placed_Match,
  placed_IsCase,
  placed_Case_None,
  placed_Case_Some,
  placed_Structure,
  placed_List,
  placed_ForAll,
  placed_Exists,
  placed_Map,
  placed_Filter,
  placed_Combine,
  placed_Contains,
  placed_Length,
  placed_Sum,
  placed_Call,
  placed_ScopeCall,
)
