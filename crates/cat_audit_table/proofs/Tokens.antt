-- The first token of each form of expressions.
use Rattle.std.proofs.Common.{◌≡◌, ℕ, List, Option, ap}
use Rattle.cat_pos.specs.declared.pos.Pos.{Pos}
use Rattle.cat_scope.specs.declared.expr.Literal.{Literal}
use Rattle.cat_scope.specs.declared.expr.Arm.{Arm}
use Rattle.cat_scope.specs.declared.expr.FieldValue.{FieldValue}
use Rattle.cat_scope.specs.declared.expr.Expr.{Expr}
use Rattle.cat_scope.specs.declared.expr.Expr.TheVariants as leaf
use Rattle.cat_scope.specs.declared.expr.Expr.TheViews as expr
use Rattle.cat_scope.specs.declared.operators.UnaryOp.{UnaryOp}
use Rattle.cat_scope.specs.declared.operators.BinaryOp.{BinaryOp}
use Rattle.cat_scope.specs.declared.operators.SumKind.{SumKind}
use Rattle.cat_guard.specs.Terms.{token_in, token_of}

pub token_Literal : (p : Pos) (l : Literal) → token_of (leaf.Literal p l) ≡ p
token_Literal p l = ap token_in (expr.outs-Literal p l)

pub token_Item : (p : Pos) (i : ℕ) → token_of (leaf.Item p i) ≡ p
token_Item p i = ap token_in (expr.outs-Item p i)

pub token_Output : (p : Pos) (i k : ℕ) → token_of (leaf.Output p i k) ≡ p
token_Output p i k = ap token_in (expr.outs-Output p i k)

pub token_Local : (p : Pos) (k : ℕ) → token_of (leaf.Local p k) ≡ p
token_Local p k = ap token_in (expr.outs-Local p k)

pub token_Field : (p : Pos) (e : Expr) (k : ℕ) → token_of (expr.Field p e k) ≡ p
token_Field p e k = ap token_in (expr.outs-Field p e k)

pub token_Unary : (p : Pos) (o : UnaryOp) (e : Expr) → token_of (expr.Unary p o e) ≡ p
token_Unary p o e = ap token_in (expr.outs-Unary p o e)

pub token_Binary : (p : Pos) (o : BinaryOp) (q : Pos) (a b : Expr) → token_of (expr.Binary p o q a b) ≡ p
token_Binary p o q a b = ap token_in (expr.outs-Binary p o q a b)

pub token_And : (p : Pos) (a b : Expr) → token_of (expr.And p a b) ≡ p
token_And p a b = ap token_in (expr.outs-And p a b)

pub token_Or : (p : Pos) (a b : Expr) → token_of (expr.Or p a b) ≡ p
token_Or p a b = ap token_in (expr.outs-Or p a b)

pub token_If : (p : Pos) (c a b : Expr) → token_of (expr.If p c a b) ≡ p
token_If p c a b = ap token_in (expr.outs-If p c a b)

pub token_Match : (p : Pos) (e : Expr) (arms : List Arm) → token_of (expr.Match p e arms) ≡ p
token_Match p e arms = ap token_in (expr.outs-Match p e arms)

pub token_IsCase : (p : Pos) (e : Expr) (n k : ℕ) → token_of (expr.IsCase p e n k) ≡ p
token_IsCase p e n k = ap token_in (expr.outs-IsCase p e n k)

pub token_Case : (p : Pos) (n k : ℕ) (content : Option Expr) → token_of (expr.Case p n k content) ≡ p
token_Case p n k content = ap token_in (expr.outs-Case p n k content)

pub token_Structure : (p : Pos) (n : ℕ) (fields : List FieldValue) → token_of (expr.Structure p n fields) ≡ p
token_Structure p n fields = ap token_in (expr.outs-Structure p n fields)

pub token_List : (p : Pos) (es : List Expr) → token_of (expr.List p es) ≡ p
token_List p es = ap token_in (expr.outs-List p es)

pub token_ForAll : (p : Pos) (l e : Expr) → token_of (expr.ForAll p l e) ≡ p
token_ForAll p l e = ap token_in (expr.outs-ForAll p l e)

pub token_Exists : (p : Pos) (l e : Expr) → token_of (expr.Exists p l e) ≡ p
token_Exists p l e = ap token_in (expr.outs-Exists p l e)

pub token_Map : (p : Pos) (l e : Expr) → token_of (expr.Map p l e) ≡ p
token_Map p l e = ap token_in (expr.outs-Map p l e)

pub token_Filter : (p : Pos) (l e : Expr) → token_of (expr.Filter p l e) ≡ p
token_Filter p l e = ap token_in (expr.outs-Filter p l e)

pub token_Combine : (p : Pos) (l s e : Expr) → token_of (expr.Combine p l s e) ≡ p
token_Combine p l s e = ap token_in (expr.outs-Combine p l s e)

pub token_Contains : (p q : Pos) (l e : Expr) → token_of (expr.Contains p q l e) ≡ p
token_Contains p q l e = ap token_in (expr.outs-Contains p q l e)

pub token_Length : (p : Pos) (l : Expr) → token_of (expr.Length p l) ≡ p
token_Length p l = ap token_in (expr.outs-Length p l)

pub token_Sum : (p : Pos) (kind : SumKind) (l : Expr) → token_of (expr.Sum p kind l) ≡ p
token_Sum p kind l = ap token_in (expr.outs-Sum p kind l)

pub token_Call : (p : Pos) (f : ℕ) (es : List Expr) → token_of (expr.Call p f es) ≡ p
token_Call p f es = ap token_in (expr.outs-Call p f es)

pub token_ScopeCall : (p : Pos) (s : ℕ) (fields : List FieldValue) (k : ℕ) → token_of (expr.ScopeCall p s fields k) ≡ p
token_ScopeCall p s fields k = ap token_in (expr.outs-ScopeCall p s fields k)

pub ruleset tokens = (
  token_Literal,
  token_Item,
  token_Output,
  token_Local,
  token_Field,
  token_Unary,
  token_Binary,
  token_And,
  token_Or,
  token_If,
  token_Match,
  token_IsCase,
  token_Case,
  token_Structure,
  token_List,
  token_ForAll,
  token_Exists,
  token_Map,
  token_Filter,
  token_Combine,
  token_Contains,
  token_Length,
  token_Sum,
  token_Call,
  token_ScopeCall,
)
