-- The path of each form of expressions.
use Rattle.std.proofs.Common.{◌≡◌, ℕ, List, Option, None, slice_get, ap, ◌∙◌}
use Rattle.cat_pos.specs.declared.pos.Pos.{Pos}
use Rattle.cat_scope.specs.declared.expr.Literal.{Literal}
use Rattle.cat_scope.specs.declared.expr.Arm.{Arm}
use Rattle.cat_scope.specs.declared.expr.FieldValue.{FieldValue}
use Rattle.cat_scope.specs.declared.expr.Expr.{Expr}
use Rattle.cat_scope.specs.declared.expr.Expr.TheOpen.{Expr-F}
use Rattle.cat_scope.specs.declared.expr.Expr.TheVariants as leaf
use Rattle.cat_scope.specs.declared.expr.Expr.TheViews as expr
use Rattle.cat_scope.specs.declared.expr.Expr.TheViews.{out-Expr}
use Rattle.cat_scope.specs.declared.operators.UnaryOp.{UnaryOp}
use Rattle.cat_scope.specs.declared.operators.BinaryOp.{BinaryOp}
use Rattle.cat_scope.specs.declared.operators.SumKind.{SumKind}
use Rattle.cat_scope.specs.declared.expr.Expr.TheFolds.{map-Expr, fold_out-Expr}
use Rattle.cat_value.specs.declared.declaration.ItemDecl.{ItemDecl}
use Rattle.cat_guard.specs.declared.table.InputPath.{InputPath}
use Rattle.cat_guard.specs.Terms.{input_path, field_path, path_in, path_of}

module _ (items : List ItemDecl) where
  abbrev Opened : Type 0
  Opened = Expr-F (Option InputPath) (Unit {0}) (Unit {0})

  abbrev opened : Expr-F Expr Arm FieldValue → Opened
  opened y = map-Expr Expr Arm FieldValue (Option InputPath) (Unit {0}) (Unit {0}) (path_of items) (λ a. tt) (λ f. tt) y

  path_level : (e : Expr) → path_of items e ≡ path_in items (opened (out-Expr e))
  unfolding path_of
  path_level e = fold_out-Expr (Option InputPath) (Unit {0}) (Unit {0}) (path_in items) (λ a. tt) (λ f. tt) e

  at : (e : Expr) (y : Expr-F Expr Arm FieldValue) → out-Expr e ≡ y → path_of items e ≡ path_in items (opened y)
  at e y is = path_level e ∙ ap (λ x. path_in items (opened x)) is

  pub path_Literal : (p : Pos) (l : Literal) → path_of items (leaf.Literal p l) ≡ None
  path_Literal p l = at (leaf.Literal p l) (Expr-F.Literal p l) (expr.outs-Literal p l)

  pub path_Item : (p : Pos) (i : ℕ) → path_of items (leaf.Item p i) ≡ input_path i (slice_get items i)
  path_Item p i = at (leaf.Item p i) (Expr-F.Item p i) (expr.outs-Item p i)

  pub path_Output : (p : Pos) (i k : ℕ) → path_of items (leaf.Output p i k) ≡ None
  path_Output p i k = at (leaf.Output p i k) (Expr-F.Output p i k) (expr.outs-Output p i k)

  pub path_Local : (p : Pos) (k : ℕ) → path_of items (leaf.Local p k) ≡ None
  path_Local p k = at (leaf.Local p k) (Expr-F.Local p k) (expr.outs-Local p k)

  pub path_Field : (p : Pos) (e : Expr) (k : ℕ) → path_of items (expr.Field p e k) ≡ field_path k (path_of items e)
  path_Field p e k = at (expr.Field p e k) (Expr-F.Field p e k) (expr.outs-Field p e k)

  pub path_Unary : (p : Pos) (o : UnaryOp) (e : Expr) → path_of items (expr.Unary p o e) ≡ None
  path_Unary p o e = at (expr.Unary p o e) (Expr-F.Unary p o e) (expr.outs-Unary p o e)

  pub path_Binary : (p : Pos) (o : BinaryOp) (q : Pos) (a b : Expr) → path_of items (expr.Binary p o q a b) ≡ None
  path_Binary p o q a b = at (expr.Binary p o q a b) (Expr-F.Binary p o q a b) (expr.outs-Binary p o q a b)

  pub path_And : (p : Pos) (a b : Expr) → path_of items (expr.And p a b) ≡ None
  path_And p a b = at (expr.And p a b) (Expr-F.And p a b) (expr.outs-And p a b)

  pub path_Or : (p : Pos) (a b : Expr) → path_of items (expr.Or p a b) ≡ None
  path_Or p a b = at (expr.Or p a b) (Expr-F.Or p a b) (expr.outs-Or p a b)

  pub path_If : (p : Pos) (c a b : Expr) → path_of items (expr.If p c a b) ≡ None
  path_If p c a b = at (expr.If p c a b) (Expr-F.If p c a b) (expr.outs-If p c a b)

  pub path_Match : (p : Pos) (e : Expr) (arms : List Arm) → path_of items (expr.Match p e arms) ≡ None
  path_Match p e arms = at (expr.Match p e arms) (Expr-F.Match p e arms) (expr.outs-Match p e arms)

  pub path_IsCase : (p : Pos) (e : Expr) (n k : ℕ) → path_of items (expr.IsCase p e n k) ≡ None
  path_IsCase p e n k = at (expr.IsCase p e n k) (Expr-F.IsCase p e n k) (expr.outs-IsCase p e n k)

  pub path_Case : (p : Pos) (n k : ℕ) (content : Option Expr) → path_of items (expr.Case p n k content) ≡ None
  path_Case p n k content = at (expr.Case p n k content) (Expr-F.Case p n k content) (expr.outs-Case p n k content)

  pub path_Structure : (p : Pos) (n : ℕ) (fields : List FieldValue) → path_of items (expr.Structure p n fields) ≡ None
  path_Structure p n fields =
      at (expr.Structure p n fields) (Expr-F.Structure p n fields) (expr.outs-Structure p n fields)

  pub path_List : (p : Pos) (es : List Expr) → path_of items (expr.List p es) ≡ None
  path_List p es = at (expr.List p es) (Expr-F.List p es) (expr.outs-List p es)

  pub path_ForAll : (p : Pos) (l e : Expr) → path_of items (expr.ForAll p l e) ≡ None
  path_ForAll p l e = at (expr.ForAll p l e) (Expr-F.ForAll p l e) (expr.outs-ForAll p l e)

  pub path_Exists : (p : Pos) (l e : Expr) → path_of items (expr.Exists p l e) ≡ None
  path_Exists p l e = at (expr.Exists p l e) (Expr-F.Exists p l e) (expr.outs-Exists p l e)

  pub path_Map : (p : Pos) (l e : Expr) → path_of items (expr.Map p l e) ≡ None
  path_Map p l e = at (expr.Map p l e) (Expr-F.Map p l e) (expr.outs-Map p l e)

  pub path_Filter : (p : Pos) (l e : Expr) → path_of items (expr.Filter p l e) ≡ None
  path_Filter p l e = at (expr.Filter p l e) (Expr-F.Filter p l e) (expr.outs-Filter p l e)

  pub path_Combine : (p : Pos) (l s e : Expr) → path_of items (expr.Combine p l s e) ≡ None
  path_Combine p l s e = at (expr.Combine p l s e) (Expr-F.Combine p l s e) (expr.outs-Combine p l s e)

  pub path_Contains : (p q : Pos) (l e : Expr) → path_of items (expr.Contains p q l e) ≡ None
  path_Contains p q l e = at (expr.Contains p q l e) (Expr-F.Contains p q l e) (expr.outs-Contains p q l e)

  pub path_Length : (p : Pos) (l : Expr) → path_of items (expr.Length p l) ≡ None
  path_Length p l = at (expr.Length p l) (Expr-F.Length p l) (expr.outs-Length p l)

  pub path_Sum : (p : Pos) (kind : SumKind) (l : Expr) → path_of items (expr.Sum p kind l) ≡ None
  path_Sum p kind l = at (expr.Sum p kind l) (Expr-F.Sum p kind l) (expr.outs-Sum p kind l)

  pub path_Call : (p : Pos) (f : ℕ) (es : List Expr) → path_of items (expr.Call p f es) ≡ None
  path_Call p f es = at (expr.Call p f es) (Expr-F.Call p f es) (expr.outs-Call p f es)

  pub path_ScopeCall : (p : Pos) (s : ℕ) (fields : List FieldValue) (k : ℕ)
      → path_of items (expr.ScopeCall p s fields k) ≡ None
  path_ScopeCall p s fields k =
      at (expr.ScopeCall p s fields k) (Expr-F.ScopeCall p s fields k) (expr.outs-ScopeCall p s fields k)

pub ruleset paths = (
  path_Literal,
  path_Item,
  path_Output,
  path_Local,
  path_Field,
  path_Unary,
  path_Binary,
  path_And,
  path_Or,
  path_If,
  path_Match,
  path_IsCase,
  path_Case,
  path_Structure,
  path_List,
  path_ForAll,
  path_Exists,
  path_Map,
  path_Filter,
  path_Combine,
  path_Contains,
  path_Length,
  path_Sum,
  path_Call,
  path_ScopeCall,
)
