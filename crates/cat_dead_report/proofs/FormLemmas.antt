-- What each form of expressions tells of its evaluation.
use Rattle.std.proofs.Common.{◌≡◌, ℕ, List, Option, None, Some, ap, ◌∙◌}
use Rattle.cat_pos.specs.declared.pos.Pos.{Pos}
use Rattle.cat_scope.specs.declared.expr.Literal.{Literal}
use Rattle.cat_scope.specs.declared.expr.Arm.{Arm}
use Rattle.cat_scope.specs.declared.expr.FieldValue.{FieldValue}
use Rattle.cat_scope.specs.declared.expr.Expr.{Expr}
use Rattle.cat_scope.specs.declared.expr.Expr.TheOpen.{Expr-F}
use Rattle.cat_scope.specs.declared.expr.Expr.TheVariants as leaf
use Rattle.cat_scope.specs.declared.expr.Expr.TheViews as expr
use Rattle.cat_scope.specs.declared.expr.Expr.TheViews.{out-Expr}
use Rattle.cat_scope.specs.declared.operators.UnaryOp.{UnaryOp}
use Rattle.cat_scope.specs.declared.operators.BinaryOp.{BinaryOp}
use Rattle.cat_scope.specs.declared.operators.SumKind.{SumKind}
use Rattle.cat_scope.specs.declared.expr.Expr.TheFolds.{map-Expr, fold_out-Expr}
use Rattle.cat_dead_report.specs.declared.forms.Safety.{Safety}
use Rattle.cat_dead_report.specs.declared.forms.Safety.TheVariants as safety
use Rattle.cat_dead_report.specs.inside.Forms.{of_literal, of_part, of_unary, of_both, of_binary, of_content, safety_in}
use Rattle.cat_dead_report.specs.inside.Forms.{safety_of}

abbrev Opened : Type 0
Opened = Expr-F Safety (Unit {0}) (Unit {0})

abbrev opened : Expr-F Expr Arm FieldValue → Opened
opened y = map-Expr Expr Arm FieldValue Safety (Unit {0}) (Unit {0}) safety_of (λ a. tt) (λ f. tt) y

level : (e : Expr) → safety_of e ≡ safety_in (opened (out-Expr e))
unfolding safety_of
level e = fold_out-Expr Safety (Unit {0}) (Unit {0}) safety_in (λ a. tt) (λ f. tt) e

at : (e : Expr) (y : Expr-F Expr Arm FieldValue) → out-Expr e ≡ y → safety_of e ≡ safety_in (opened y)
at e y is = level e ∙ ap (λ x. safety_in (opened x)) is

pub form_Literal : (p : Pos) (l : Literal) → safety_of (leaf.Literal p l) ≡ of_literal l
form_Literal p l = at (leaf.Literal p l) (Expr-F.Literal p l) (expr.outs-Literal p l)

pub form_Item : (p : Pos) (i : ℕ) → safety_of (leaf.Item p i) ≡ safety.CannotFault
form_Item p i = at (leaf.Item p i) (Expr-F.Item p i) (expr.outs-Item p i)

pub form_Output : (p : Pos) (i k : ℕ) → safety_of (leaf.Output p i k) ≡ safety.CannotFault
form_Output p i k = at (leaf.Output p i k) (Expr-F.Output p i k) (expr.outs-Output p i k)

pub form_Local : (p : Pos) (k : ℕ) → safety_of (leaf.Local p k) ≡ safety.MayFault
form_Local p k = at (leaf.Local p k) (Expr-F.Local p k) (expr.outs-Local p k)

pub form_Field : (p : Pos) (e : Expr) (k : ℕ) → safety_of (expr.Field p e k) ≡ of_part (safety_of e)
form_Field p e k = at (expr.Field p e k) (Expr-F.Field p e k) (expr.outs-Field p e k)

pub form_Unary : (p : Pos) (o : UnaryOp) (e : Expr) → safety_of (expr.Unary p o e) ≡ of_unary o (safety_of e)
form_Unary p o e = at (expr.Unary p o e) (Expr-F.Unary p o e) (expr.outs-Unary p o e)

pub form_Binary : (p : Pos) (o : BinaryOp) (q : Pos) (a b : Expr)
    → safety_of (expr.Binary p o q a b) ≡ of_binary o (safety_of a) (safety_of b)
form_Binary p o q a b = at (expr.Binary p o q a b) (Expr-F.Binary p o q a b) (expr.outs-Binary p o q a b)

pub form_And : (p : Pos) (a b : Expr) → safety_of (expr.And p a b) ≡ of_both (safety_of a) (safety_of b)
form_And p a b = at (expr.And p a b) (Expr-F.And p a b) (expr.outs-And p a b)

pub form_Or : (p : Pos) (a b : Expr) → safety_of (expr.Or p a b) ≡ of_both (safety_of a) (safety_of b)
form_Or p a b = at (expr.Or p a b) (Expr-F.Or p a b) (expr.outs-Or p a b)

pub form_If : (p : Pos) (c a b : Expr) → safety_of (expr.If p c a b) ≡ safety.MayFault
form_If p c a b = at (expr.If p c a b) (Expr-F.If p c a b) (expr.outs-If p c a b)

pub form_Match : (p : Pos) (e : Expr) (arms : List Arm) → safety_of (expr.Match p e arms) ≡ safety.MayFault
form_Match p e arms = at (expr.Match p e arms) (Expr-F.Match p e arms) (expr.outs-Match p e arms)

pub form_IsCase : (p : Pos) (e : Expr) (n k : ℕ) → safety_of (expr.IsCase p e n k) ≡ of_part (safety_of e)
form_IsCase p e n k = at (expr.IsCase p e n k) (Expr-F.IsCase p e n k) (expr.outs-IsCase p e n k)

pub form_Case : (p : Pos) (n k : ℕ) (content : Option Expr) → safety_of (expr.Case p n k content) ≡ of_content content
form_Case p n k None = at (expr.Case p n k None) (Expr-F.Case p n k None) (expr.outs-Case p n k None)
form_Case p n k (Some e) = at (expr.Case p n k (Some e)) (Expr-F.Case p n k (Some e)) (expr.outs-Case p n k (Some e))

pub form_Structure : (p : Pos) (n : ℕ) (fields : List FieldValue)
    → safety_of (expr.Structure p n fields) ≡ safety.MayFault
form_Structure p n fields =
    at (expr.Structure p n fields) (Expr-F.Structure p n fields) (expr.outs-Structure p n fields)

pub form_List : (p : Pos) (es : List Expr) → safety_of (expr.List p es) ≡ safety.MayFault
form_List p es = at (expr.List p es) (Expr-F.List p es) (expr.outs-List p es)

pub form_ForAll : (p : Pos) (l e : Expr) → safety_of (expr.ForAll p l e) ≡ safety.MayFault
form_ForAll p l e = at (expr.ForAll p l e) (Expr-F.ForAll p l e) (expr.outs-ForAll p l e)

pub form_Exists : (p : Pos) (l e : Expr) → safety_of (expr.Exists p l e) ≡ safety.MayFault
form_Exists p l e = at (expr.Exists p l e) (Expr-F.Exists p l e) (expr.outs-Exists p l e)

pub form_Map : (p : Pos) (l e : Expr) → safety_of (expr.Map p l e) ≡ safety.MayFault
form_Map p l e = at (expr.Map p l e) (Expr-F.Map p l e) (expr.outs-Map p l e)

pub form_Filter : (p : Pos) (l e : Expr) → safety_of (expr.Filter p l e) ≡ safety.MayFault
form_Filter p l e = at (expr.Filter p l e) (Expr-F.Filter p l e) (expr.outs-Filter p l e)

pub form_Combine : (p : Pos) (l s e : Expr) → safety_of (expr.Combine p l s e) ≡ safety.MayFault
form_Combine p l s e = at (expr.Combine p l s e) (Expr-F.Combine p l s e) (expr.outs-Combine p l s e)

pub form_Contains : (p q : Pos) (l e : Expr) → safety_of (expr.Contains p q l e) ≡ safety.MayFault
form_Contains p q l e = at (expr.Contains p q l e) (Expr-F.Contains p q l e) (expr.outs-Contains p q l e)

pub form_Length : (p : Pos) (l : Expr) → safety_of (expr.Length p l) ≡ safety.MayFault
form_Length p l = at (expr.Length p l) (Expr-F.Length p l) (expr.outs-Length p l)

pub form_Sum : (p : Pos) (kind : SumKind) (l : Expr) → safety_of (expr.Sum p kind l) ≡ safety.MayFault
form_Sum p kind l = at (expr.Sum p kind l) (Expr-F.Sum p kind l) (expr.outs-Sum p kind l)

pub form_Call : (p : Pos) (f : ℕ) (es : List Expr) → safety_of (expr.Call p f es) ≡ safety.MayFault
form_Call p f es = at (expr.Call p f es) (Expr-F.Call p f es) (expr.outs-Call p f es)

pub form_ScopeCall : (p : Pos) (s : ℕ) (fields : List FieldValue) (k : ℕ)
    → safety_of (expr.ScopeCall p s fields k) ≡ safety.MayFault
form_ScopeCall p s fields k =
    at (expr.ScopeCall p s fields k) (Expr-F.ScopeCall p s fields k) (expr.outs-ScopeCall p s fields k)

pub ruleset forms = (
  form_Literal,
  form_Item,
  form_Output,
  form_Local,
  form_Field,
  form_Unary,
  form_Binary,
  form_And,
  form_Or,
  form_If,
  form_Match,
  form_IsCase,
  form_Case,
  form_Structure,
  form_List,
  form_ForAll,
  form_Exists,
  form_Map,
  form_Filter,
  form_Combine,
  form_Contains,
  form_Length,
  form_Sum,
  form_Call,
  form_ScopeCall,
)
