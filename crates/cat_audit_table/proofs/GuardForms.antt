-- The guard of each form of expressions.
use Rattle.std.proofs.Common.{◌≡◌, ℕ, List, Option, slice_get}
use Rattle.cat_pos.specs.declared.pos.Pos.{Pos}
use Rattle.cat_scope.specs.declared.expr.Literal.{Literal}
use Rattle.cat_scope.specs.declared.expr.Arm.{Arm}
use Rattle.cat_scope.specs.declared.expr.FieldValue.{FieldValue}
use Rattle.cat_scope.specs.declared.expr.Expr.{Expr}
use Rattle.cat_scope.specs.declared.expr.Expr.TheOpen.{Expr-F}
use Rattle.cat_scope.specs.declared.expr.Expr.TheVariants as leaf
use Rattle.cat_scope.specs.declared.expr.Expr.TheViews as expr
use Rattle.cat_scope.specs.declared.operators.UnaryOp.{UnaryOp}
use Rattle.cat_scope.specs.declared.operators.BinaryOp.{BinaryOp}
use Rattle.cat_scope.specs.declared.operators.SumKind.{SumKind}
use Rattle.cat_region.specs.declared.dim.Dim.TheVariants as dim
use Rattle.cat_region.specs.declared.cut.Cut.TheVariants as cut
use Rattle.cat_value.specs.declared.decls.Decls.{Decls}
use Rattle.cat_scope.specs.Fitting.{cases_in}
use Rattle.cat_scope.specs.Same.{Standing}
use Rattle.cat_guard.specs.Formulas as formula
use Rattle.cat_guard.specs.Questions.{ask, ask_truth, literal_guard, unary_guard, binary_guard, guard_of}
use Rattle.cat_guard.proofs.Exported.{guard_at}

module _ (ds : Decls) (g : Standing) where
  pub guard_Literal : (p : Pos) (l : Literal)
      → guard_of ds g (leaf.Literal p l) ≡ literal_guard g (leaf.Literal p l) l
  guard_Literal p l = guard_at ds g (leaf.Literal p l) (Expr-F.Literal p l) (expr.outs-Literal p l)

  pub guard_Item : (p : Pos) (i : ℕ)
      → guard_of ds g (leaf.Item p i) ≡ ask_truth g (leaf.Item p i)
  guard_Item p i = guard_at ds g (leaf.Item p i) (Expr-F.Item p i) (expr.outs-Item p i)

  pub guard_Output : (p : Pos) (i k : ℕ)
      → guard_of ds g (leaf.Output p i k) ≡ ask_truth g (leaf.Output p i k)
  guard_Output p i k = guard_at ds g (leaf.Output p i k) (Expr-F.Output p i k) (expr.outs-Output p i k)

  pub guard_Local : (p : Pos) (k : ℕ)
      → guard_of ds g (leaf.Local p k) ≡ ask_truth g (leaf.Local p k)
  guard_Local p k = guard_at ds g (leaf.Local p k) (Expr-F.Local p k) (expr.outs-Local p k)

  pub guard_Field : (p : Pos) (e : Expr) (k : ℕ)
      → guard_of ds g (expr.Field p e k) ≡ ask_truth g (expr.Field p e k)
  guard_Field p e k = guard_at ds g (expr.Field p e k) (Expr-F.Field p e k) (expr.outs-Field p e k)

  pub guard_Unary : (p : Pos) (o : UnaryOp) (e : Expr)
      → guard_of ds g (expr.Unary p o e) ≡ unary_guard g (expr.Unary p o e) o (guard_of ds g e)
  guard_Unary p o e = guard_at ds g (expr.Unary p o e) (Expr-F.Unary p o e) (expr.outs-Unary p o e)

  pub guard_Binary : (p : Pos) (o : BinaryOp) (q : Pos) (a b : Expr)
      → guard_of ds g (expr.Binary p o q a b)
      ≡ binary_guard g (expr.Binary p o q a b) o a (guard_of ds g a) b (guard_of ds g b)
  guard_Binary p o q a b = guard_at ds g (expr.Binary p o q a b) (Expr-F.Binary p o q a b) (expr.outs-Binary p o q a b)

  pub guard_And : (p : Pos) (a b : Expr)
      → guard_of ds g (expr.And p a b) ≡ formula.Both (guard_of ds g a) (guard_of ds g b)
  guard_And p a b = guard_at ds g (expr.And p a b) (Expr-F.And p a b) (expr.outs-And p a b)

  pub guard_Or : (p : Pos) (a b : Expr)
      → guard_of ds g (expr.Or p a b) ≡ formula.Either (guard_of ds g a) (guard_of ds g b)
  guard_Or p a b = guard_at ds g (expr.Or p a b) (Expr-F.Or p a b) (expr.outs-Or p a b)

  pub guard_If : (p : Pos) (c a b : Expr)
      → guard_of ds g (expr.If p c a b) ≡ formula.Choice (guard_of ds g c) (guard_of ds g a) (guard_of ds g b)
  guard_If p c a b = guard_at ds g (expr.If p c a b) (Expr-F.If p c a b) (expr.outs-If p c a b)

  pub guard_Match : (p : Pos) (e : Expr) (arms : List Arm)
      → guard_of ds g (expr.Match p e arms) ≡ ask_truth g (expr.Match p e arms)
  guard_Match p e arms = guard_at ds g (expr.Match p e arms) (Expr-F.Match p e arms) (expr.outs-Match p e arms)

  pub guard_IsCase : (p : Pos) (e : Expr) (n k : ℕ)
      → guard_of ds g (expr.IsCase p e n k)
      ≡ ask g e (dim.Cases (cases_in (slice_get ds.enumerations n))) (cut.IsCase k)
  guard_IsCase p e n k = guard_at ds g (expr.IsCase p e n k) (Expr-F.IsCase p e n k) (expr.outs-IsCase p e n k)

  pub guard_Case : (p : Pos) (n k : ℕ) (content : Option Expr)
      → guard_of ds g (expr.Case p n k content) ≡ ask_truth g (expr.Case p n k content)
  guard_Case p n k content =
      guard_at ds g (expr.Case p n k content) (Expr-F.Case p n k content) (expr.outs-Case p n k content)

  pub guard_Structure : (p : Pos) (n : ℕ) (fields : List FieldValue)
      → guard_of ds g (expr.Structure p n fields) ≡ ask_truth g (expr.Structure p n fields)
  guard_Structure p n fields =
      guard_at ds g (expr.Structure p n fields) (Expr-F.Structure p n fields) (expr.outs-Structure p n fields)

  pub guard_List : (p : Pos) (es : List Expr)
      → guard_of ds g (expr.List p es) ≡ ask_truth g (expr.List p es)
  guard_List p es = guard_at ds g (expr.List p es) (Expr-F.List p es) (expr.outs-List p es)

  pub guard_ForAll : (p : Pos) (l e : Expr)
      → guard_of ds g (expr.ForAll p l e) ≡ ask_truth g (expr.ForAll p l e)
  guard_ForAll p l e = guard_at ds g (expr.ForAll p l e) (Expr-F.ForAll p l e) (expr.outs-ForAll p l e)

  pub guard_Exists : (p : Pos) (l e : Expr)
      → guard_of ds g (expr.Exists p l e) ≡ ask_truth g (expr.Exists p l e)
  guard_Exists p l e = guard_at ds g (expr.Exists p l e) (Expr-F.Exists p l e) (expr.outs-Exists p l e)

  pub guard_Map : (p : Pos) (l e : Expr)
      → guard_of ds g (expr.Map p l e) ≡ ask_truth g (expr.Map p l e)
  guard_Map p l e = guard_at ds g (expr.Map p l e) (Expr-F.Map p l e) (expr.outs-Map p l e)

  pub guard_Filter : (p : Pos) (l e : Expr)
      → guard_of ds g (expr.Filter p l e) ≡ ask_truth g (expr.Filter p l e)
  guard_Filter p l e = guard_at ds g (expr.Filter p l e) (Expr-F.Filter p l e) (expr.outs-Filter p l e)

  pub guard_Combine : (p : Pos) (l s e : Expr)
      → guard_of ds g (expr.Combine p l s e) ≡ ask_truth g (expr.Combine p l s e)
  guard_Combine p l s e = guard_at ds g (expr.Combine p l s e) (Expr-F.Combine p l s e) (expr.outs-Combine p l s e)

  pub guard_Contains : (p q : Pos) (l e : Expr)
      → guard_of ds g (expr.Contains p q l e) ≡ ask_truth g (expr.Contains p q l e)
  guard_Contains p q l e = guard_at ds g (expr.Contains p q l e) (Expr-F.Contains p q l e) (expr.outs-Contains p q l e)

  pub guard_Length : (p : Pos) (l : Expr)
      → guard_of ds g (expr.Length p l) ≡ ask_truth g (expr.Length p l)
  guard_Length p l = guard_at ds g (expr.Length p l) (Expr-F.Length p l) (expr.outs-Length p l)

  pub guard_Sum : (p : Pos) (kind : SumKind) (l : Expr)
      → guard_of ds g (expr.Sum p kind l) ≡ ask_truth g (expr.Sum p kind l)
  guard_Sum p kind l = guard_at ds g (expr.Sum p kind l) (Expr-F.Sum p kind l) (expr.outs-Sum p kind l)

  pub guard_Call : (p : Pos) (f : ℕ) (es : List Expr)
      → guard_of ds g (expr.Call p f es) ≡ ask_truth g (expr.Call p f es)
  guard_Call p f es = guard_at ds g (expr.Call p f es) (Expr-F.Call p f es) (expr.outs-Call p f es)

  pub guard_ScopeCall : (p : Pos) (s : ℕ) (fields : List FieldValue) (k : ℕ)
      → guard_of ds g (expr.ScopeCall p s fields k) ≡ ask_truth g (expr.ScopeCall p s fields k)
  guard_ScopeCall p s fields k =
      guard_at ds g (expr.ScopeCall p s fields k) (Expr-F.ScopeCall p s fields k) (expr.outs-ScopeCall p s fields k)

pub ruleset forms = (
  guard_Literal,
  guard_Item,
  guard_Output,
  guard_Local,
  guard_Field,
  guard_Unary,
  guard_Binary,
  guard_And,
  guard_Or,
  guard_If,
  guard_Match,
  guard_IsCase,
  guard_Case,
  guard_Structure,
  guard_List,
  guard_ForAll,
  guard_Exists,
  guard_Map,
  guard_Filter,
  guard_Combine,
  guard_Contains,
  guard_Length,
  guard_Sum,
  guard_Call,
  guard_ScopeCall,
)
