-- The equation of `named_by` at each form: what an expression has itself, and then what its parts have, from the left.
use Rattle.std.proofs.Common.{◌≡◌, ℕ, List, ◌++◌, map, Some, None, refl, rules}
use Rattle.cat_pos.specs.declared.pos.Pos.{Pos}
use Rattle.cat_scope.specs.declared.expr.Literal.{Literal}
use Rattle.cat_scope.specs.declared.operators.UnaryOp.{UnaryOp}
use Rattle.cat_scope.specs.declared.operators.BinaryOp.{BinaryOp}
use Rattle.cat_scope.specs.declared.operators.SumKind.{SumKind}
use Rattle.cat_scope.specs.declared.expr.Expr.{Expr}
use Rattle.cat_scope.specs.declared.expr.FieldValue.{FieldValue}
use Rattle.cat_scope.specs.declared.expr.Arm.{Arm}
use Rattle.cat_scope.specs.declared.expr.Expr.TheVariants as leaf
use Rattle.cat_scope.specs.declared.expr.Expr.TheViews as expr
use Rattle.cat_scope.specs.declared.expr.Expr.TheViews.{out-Expr}
use Rattle.cat_scope.specs.declared.expr.Expr.TheOpen.{Expr-F}
use Rattle.cat_scope.specs.declared.expr.Expr.TheFolds.{fold_out-Expr, map-Expr, fold-FieldValue, fold_out-FieldValue}
use Rattle.cat_scope.specs.declared.expr.Expr.TheFolds.{fold-Arm, fold_out-Arm}
use Rattle.cat_scope.specs.Mentions.{named_by, in_parts}

-- numbers that a form has itself
abbrev pub Own : Type 0
Own = Expr-F (List ℕ) (List ℕ) (List ℕ) → List ℕ

abbrev pub of_form : Own → Own
of_form own e = own e ++ in_parts e

abbrev pub names_in_field : Own → FieldValue → List ℕ
names_in_field own = fold-FieldValue (List ℕ) (List ℕ) (List ℕ) (of_form own) (λ arm. arm.body) (λ field. field.value)

abbrev pub names_in_arm : Own → Arm → List ℕ
names_in_arm own = fold-Arm (List ℕ) (List ℕ) (List ℕ) (of_form own) (λ arm. arm.body) (λ field. field.value)

pub names_in_field_is : (own : Own) (f : FieldValue) → names_in_field own f ≡ named_by own f.value
unfolding named_by
names_in_field_is own f = search (
  rules,
  expr.the_lemmas,
  fold_out-FieldValue (List ℕ) (List ℕ) (List ℕ) (of_form own)
      (λ arm. arm.body) (λ field. field.value),
)

pub names_in_arm_is : (own : Own) (a : Arm) → names_in_arm own a ≡ named_by own a.body
unfolding named_by
names_in_arm_is own a = search (
  rules,
  expr.the_lemmas,
  fold_out-Arm (List ℕ) (List ℕ) (List ℕ) (of_form own) (λ arm. arm.body)
      (λ field. field.value),
)

pub names_by_level : (own : Own) (e : Expr) → named_by own e ≡ of_form own
    (map-Expr Expr Arm FieldValue (List ℕ) (List ℕ) (List ℕ) (named_by own) (names_in_arm own) (names_in_field own)
    (out-Expr e))
unfolding named_by
names_by_level own e = fold_out-Expr (List ℕ) (List ℕ) (List ℕ) (of_form own) (λ arm. arm.body) (λ field. field.value) e

pub named_Literal : (own : Own) (p : Pos) (l : Literal) → named_by own (leaf.Literal p l) ≡ of_form own
    (Expr-F.Literal p l)
named_Literal own p l = rw (names_by_level own (leaf.Literal p l), expr.outs-Literal p l) refl

pub named_Item : (own : Own) (p : Pos) (item : ℕ) → named_by own (leaf.Item p item) ≡ of_form own (Expr-F.Item p item)
named_Item own p item = rw (names_by_level own (leaf.Item p item), expr.outs-Item p item) refl

pub named_Output : (own : Own) (p : Pos) (item k : ℕ) → named_by own (leaf.Output p item k) ≡ of_form own
    (Expr-F.Output p item k)
named_Output own p item k = rw (names_by_level own (leaf.Output p item k), expr.outs-Output p item k) refl

pub named_Local : (own : Own) (p : Pos) (k : ℕ) → named_by own (leaf.Local p k) ≡ of_form own (Expr-F.Local p k)
named_Local own p k = rw (names_by_level own (leaf.Local p k), expr.outs-Local p k) refl

pub named_Field : (own : Own) (p : Pos) (e : Expr) (k : ℕ) → named_by own (expr.Field p e k) ≡ of_form own
    (Expr-F.Field p (named_by own e) k)
named_Field own p e k = rw (names_by_level own (expr.Field p e k), expr.outs-Field p e k) refl

pub named_Unary : (own : Own) (p : Pos) (o : UnaryOp) (e : Expr) → named_by own (expr.Unary p o e) ≡ of_form own
    (Expr-F.Unary p o (named_by own e))
named_Unary own p o e = rw (names_by_level own (expr.Unary p o e), expr.outs-Unary p o e) refl

pub named_Binary : (own : Own) (p : Pos) (o : BinaryOp) (q : Pos) (a b : Expr) → named_by own (expr.Binary p o q a b)
    ≡ of_form own (Expr-F.Binary p o q (named_by own a) (named_by own b))
named_Binary own p o q a b = rw (names_by_level own (expr.Binary p o q a b), expr.outs-Binary p o q a b) refl

pub named_And : (own : Own) (p : Pos) (a b : Expr) → named_by own (expr.And p a b) ≡ of_form own
    (Expr-F.And p (named_by own a) (named_by own b))
named_And own p a b = rw (names_by_level own (expr.And p a b), expr.outs-And p a b) refl

pub named_Or : (own : Own) (p : Pos) (a b : Expr) → named_by own (expr.Or p a b) ≡ of_form own
    (Expr-F.Or p (named_by own a) (named_by own b))
named_Or own p a b = rw (names_by_level own (expr.Or p a b), expr.outs-Or p a b) refl

pub named_If : (own : Own) (p : Pos) (c a b : Expr) → named_by own (expr.If p c a b) ≡ of_form own
    (Expr-F.If p (named_by own c) (named_by own a) (named_by own b))
named_If own p c a b = rw (names_by_level own (expr.If p c a b), expr.outs-If p c a b) refl

pub named_Match : (own : Own) (p : Pos) (e : Expr) (arms : List Arm) → named_by own (expr.Match p e arms) ≡ of_form own
    (Expr-F.Match p (named_by own e) (map (names_in_arm own) arms))
named_Match own p e arms = rw (names_by_level own (expr.Match p e arms), expr.outs-Match p e arms) refl

pub named_IsCase : (own : Own) (p : Pos) (e : Expr) (n k : ℕ) → named_by own (expr.IsCase p e n k) ≡ of_form own
    (Expr-F.IsCase p (named_by own e) n k)
named_IsCase own p e n k = rw (names_by_level own (expr.IsCase p e n k), expr.outs-IsCase p e n k) refl

pub named_Case_None : (own : Own) (p : Pos) (n k : ℕ) → named_by own (expr.Case p n k None) ≡ of_form own
    (Expr-F.Case p n k None)
named_Case_None own p n k = rw (names_by_level own (expr.Case p n k None), expr.outs-Case p n k None) refl

pub named_Case_Some : (own : Own) (p : Pos) (n k : ℕ) (e : Expr) → named_by own (expr.Case p n k (Some e)) ≡ of_form own
    (Expr-F.Case p n k (Some (named_by own e)))
named_Case_Some own p n k e = rw (names_by_level own (expr.Case p n k (Some e)), expr.outs-Case p n k (Some e)) refl

pub named_Structure : (own : Own) (p : Pos) (n : ℕ) (fields : List FieldValue)
    → named_by own (expr.Structure p n fields) ≡ of_form own (Expr-F.Structure p n (map (names_in_field own) fields))
named_Structure own p n fields = rw (names_by_level own (expr.Structure p n fields), expr.outs-Structure p n fields)
    refl

pub named_List : (own : Own) (p : Pos) (es : List Expr) → named_by own (expr.List p es) ≡ of_form own
    (Expr-F.List p (map (named_by own) es))
named_List own p es = rw (names_by_level own (expr.List p es), expr.outs-List p es) refl

pub named_ForAll : (own : Own) (p : Pos) (l test : Expr) → named_by own (expr.ForAll p l test) ≡ of_form own
    (Expr-F.ForAll p (named_by own l) (named_by own test))
named_ForAll own p l test = rw (names_by_level own (expr.ForAll p l test), expr.outs-ForAll p l test) refl

pub named_Exists : (own : Own) (p : Pos) (l test : Expr) → named_by own (expr.Exists p l test) ≡ of_form own
    (Expr-F.Exists p (named_by own l) (named_by own test))
named_Exists own p l test = rw (names_by_level own (expr.Exists p l test), expr.outs-Exists p l test) refl

pub named_Map : (own : Own) (p : Pos) (l e : Expr) → named_by own (expr.Map p l e) ≡ of_form own
    (Expr-F.Map p (named_by own l) (named_by own e))
named_Map own p l e = rw (names_by_level own (expr.Map p l e), expr.outs-Map p l e) refl

pub named_Filter : (own : Own) (p : Pos) (l test : Expr) → named_by own (expr.Filter p l test) ≡ of_form own
    (Expr-F.Filter p (named_by own l) (named_by own test))
named_Filter own p l test = rw (names_by_level own (expr.Filter p l test), expr.outs-Filter p l test) refl

pub named_Combine : (own : Own) (p : Pos) (l start e : Expr) → named_by own (expr.Combine p l start e) ≡ of_form own
    (Expr-F.Combine p (named_by own l) (named_by own start) (named_by own e))
named_Combine own p l start e = rw (names_by_level own (expr.Combine p l start e), expr.outs-Combine p l start e) refl

pub named_Contains : (own : Own) (p q : Pos) (l e : Expr) → named_by own (expr.Contains p q l e) ≡ of_form own
    (Expr-F.Contains p q (named_by own l) (named_by own e))
named_Contains own p q l e = rw (names_by_level own (expr.Contains p q l e), expr.outs-Contains p q l e) refl

pub named_Length : (own : Own) (p : Pos) (l : Expr) → named_by own (expr.Length p l) ≡ of_form own
    (Expr-F.Length p (named_by own l))
named_Length own p l = rw (names_by_level own (expr.Length p l), expr.outs-Length p l) refl

pub named_Sum : (own : Own) (p : Pos) (kind : SumKind) (l : Expr) → named_by own (expr.Sum p kind l) ≡ of_form own
    (Expr-F.Sum p kind (named_by own l))
named_Sum own p kind l = rw (names_by_level own (expr.Sum p kind l), expr.outs-Sum p kind l) refl

pub named_Call : (own : Own) (p : Pos) (f : ℕ) (es : List Expr) → named_by own (expr.Call p f es) ≡ of_form own
    (Expr-F.Call p f (map (named_by own) es))
named_Call own p f es = rw (names_by_level own (expr.Call p f es), expr.outs-Call p f es) refl

pub named_ScopeCall : (own : Own) (p : Pos) (s : ℕ) (fields : List FieldValue) (k : ℕ)
    → named_by own (expr.ScopeCall p s fields k) ≡ of_form own (Expr-F.ScopeCall p s (map (names_in_field own) fields)
    k)
named_ScopeCall own p s fields k =
    rw (names_by_level own (expr.ScopeCall p s fields k), expr.outs-ScopeCall p s fields k) refl

pub ruleset namings = (
  named_Literal,
  named_Item,
  named_Output,
  named_Local,
  named_Field,
  named_Unary,
  named_Binary,
  named_And,
  named_Or,
  named_If,
  named_Match,
  named_IsCase,
  named_Case_None,
  named_Case_Some,
  named_Structure,
  named_List,
  named_ForAll,
  named_Exists,
  named_Map,
  named_Filter,
  named_Combine,
  named_Contains,
  named_Length,
  named_Sum,
  named_Call,
  named_ScopeCall,
  names_in_field_is,
  names_in_arm_is,
)
