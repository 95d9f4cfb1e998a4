-- The constant that an expression of each form is.
use Rattle.std.proofs.Common.{◌≡◌, ℕ, List, Option, None, ap, ◌∙◌}
use Rattle.cat_pos.specs.declared.pos.Pos.{Pos}
use Rattle.cat_scope.specs.declared.expr.Literal.{Literal}
use Rattle.cat_scope.specs.declared.expr.Arm.{Arm}
use Rattle.cat_scope.specs.declared.expr.FieldValue.{FieldValue}
use Rattle.cat_scope.specs.declared.expr.Expr.{Expr}
use Rattle.cat_scope.specs.declared.expr.Expr.TheVariants as leaf
use Rattle.cat_scope.specs.declared.expr.Expr.TheViews as expr
use Rattle.cat_scope.specs.declared.operators.UnaryOp.{UnaryOp}
use Rattle.cat_scope.specs.declared.operators.BinaryOp.{BinaryOp}
use Rattle.cat_scope.specs.declared.operators.SumKind.{SumKind}
use Rattle.cat_guard.specs.Comparisons.{constant_in, constant_of, constant_under, literal_constant, negated_constant}

pub constant_Literal : (p : Pos) (l : Literal) → constant_of (leaf.Literal p l) ≡ literal_constant l
constant_Literal p l = ap constant_in (expr.outs-Literal p l)

pub constant_Item : (p : Pos) (i : ℕ) → constant_of (leaf.Item p i) ≡ None
constant_Item p i = ap constant_in (expr.outs-Item p i)

pub constant_Output : (p : Pos) (i k : ℕ) → constant_of (leaf.Output p i k) ≡ None
constant_Output p i k = ap constant_in (expr.outs-Output p i k)

pub constant_Local : (p : Pos) (k : ℕ) → constant_of (leaf.Local p k) ≡ None
constant_Local p k = ap constant_in (expr.outs-Local p k)

pub constant_Field : (p : Pos) (e : Expr) (k : ℕ) → constant_of (expr.Field p e k) ≡ None
constant_Field p e k = ap constant_in (expr.outs-Field p e k)

pub constant_Binary : (p : Pos) (o : BinaryOp) (q : Pos) (a b : Expr) → constant_of (expr.Binary p o q a b) ≡ None
constant_Binary p o q a b = ap constant_in (expr.outs-Binary p o q a b)

pub constant_And : (p : Pos) (a b : Expr) → constant_of (expr.And p a b) ≡ None
constant_And p a b = ap constant_in (expr.outs-And p a b)

pub constant_Or : (p : Pos) (a b : Expr) → constant_of (expr.Or p a b) ≡ None
constant_Or p a b = ap constant_in (expr.outs-Or p a b)

pub constant_If : (p : Pos) (c a b : Expr) → constant_of (expr.If p c a b) ≡ None
constant_If p c a b = ap constant_in (expr.outs-If p c a b)

pub constant_Match : (p : Pos) (e : Expr) (arms : List Arm) → constant_of (expr.Match p e arms) ≡ None
constant_Match p e arms = ap constant_in (expr.outs-Match p e arms)

pub constant_IsCase : (p : Pos) (e : Expr) (n k : ℕ) → constant_of (expr.IsCase p e n k) ≡ None
constant_IsCase p e n k = ap constant_in (expr.outs-IsCase p e n k)

pub constant_Case : (p : Pos) (n k : ℕ) (content : Option Expr) → constant_of (expr.Case p n k content) ≡ None
constant_Case p n k content = ap constant_in (expr.outs-Case p n k content)

pub constant_Structure : (p : Pos) (n : ℕ) (fields : List FieldValue) → constant_of (expr.Structure p n fields) ≡ None
constant_Structure p n fields = ap constant_in (expr.outs-Structure p n fields)

pub constant_List : (p : Pos) (es : List Expr) → constant_of (expr.List p es) ≡ None
constant_List p es = ap constant_in (expr.outs-List p es)

pub constant_ForAll : (p : Pos) (l e : Expr) → constant_of (expr.ForAll p l e) ≡ None
constant_ForAll p l e = ap constant_in (expr.outs-ForAll p l e)

pub constant_Exists : (p : Pos) (l e : Expr) → constant_of (expr.Exists p l e) ≡ None
constant_Exists p l e = ap constant_in (expr.outs-Exists p l e)

pub constant_Map : (p : Pos) (l e : Expr) → constant_of (expr.Map p l e) ≡ None
constant_Map p l e = ap constant_in (expr.outs-Map p l e)

pub constant_Filter : (p : Pos) (l e : Expr) → constant_of (expr.Filter p l e) ≡ None
constant_Filter p l e = ap constant_in (expr.outs-Filter p l e)

pub constant_Combine : (p : Pos) (l s e : Expr) → constant_of (expr.Combine p l s e) ≡ None
constant_Combine p l s e = ap constant_in (expr.outs-Combine p l s e)

pub constant_Contains : (p q : Pos) (l e : Expr) → constant_of (expr.Contains p q l e) ≡ None
constant_Contains p q l e = ap constant_in (expr.outs-Contains p q l e)

pub constant_Length : (p : Pos) (l : Expr) → constant_of (expr.Length p l) ≡ None
constant_Length p l = ap constant_in (expr.outs-Length p l)

pub constant_Sum : (p : Pos) (kind : SumKind) (l : Expr) → constant_of (expr.Sum p kind l) ≡ None
constant_Sum p kind l = ap constant_in (expr.outs-Sum p kind l)

pub constant_Call : (p : Pos) (f : ℕ) (es : List Expr) → constant_of (expr.Call p f es) ≡ None
constant_Call p f es = ap constant_in (expr.outs-Call p f es)

pub constant_ScopeCall : (p : Pos) (s : ℕ) (fields : List FieldValue) (k : ℕ)
    → constant_of (expr.ScopeCall p s fields k) ≡ None
constant_ScopeCall p s fields k = ap constant_in (expr.outs-ScopeCall p s fields k)

pub negated_Literal : (p : Pos) (o : UnaryOp) (s : Pos) (l : Literal)
    → constant_of (expr.Unary p o (leaf.Literal s l)) ≡ negated_constant o l
negated_Literal p o s l =
    ap constant_in (expr.outs-Unary p o (leaf.Literal s l)) ∙ ap (constant_under o) (expr.outs-Literal s l)

pub negated_Item : (p : Pos) (o : UnaryOp) (s : Pos) (i : ℕ)
    → constant_of (expr.Unary p o (leaf.Item s i)) ≡ None
negated_Item p o s i =
    ap constant_in (expr.outs-Unary p o (leaf.Item s i)) ∙ ap (constant_under o) (expr.outs-Item s i)

pub negated_Output : (p : Pos) (o : UnaryOp) (s : Pos) (i k : ℕ)
    → constant_of (expr.Unary p o (leaf.Output s i k)) ≡ None
negated_Output p o s i k =
    ap constant_in (expr.outs-Unary p o (leaf.Output s i k)) ∙ ap (constant_under o) (expr.outs-Output s i k)

pub negated_Local : (p : Pos) (o : UnaryOp) (s : Pos) (k : ℕ)
    → constant_of (expr.Unary p o (leaf.Local s k)) ≡ None
negated_Local p o s k =
    ap constant_in (expr.outs-Unary p o (leaf.Local s k)) ∙ ap (constant_under o) (expr.outs-Local s k)

pub negated_Field : (p : Pos) (o : UnaryOp) (s : Pos) (e : Expr) (k : ℕ)
    → constant_of (expr.Unary p o (expr.Field s e k)) ≡ None
negated_Field p o s e k =
    ap constant_in (expr.outs-Unary p o (expr.Field s e k)) ∙ ap (constant_under o) (expr.outs-Field s e k)

pub negated_Unary : (p : Pos) (o : UnaryOp) (s : Pos) (u : UnaryOp) (e : Expr)
    → constant_of (expr.Unary p o (expr.Unary s u e)) ≡ None
negated_Unary p o s u e =
    ap constant_in (expr.outs-Unary p o (expr.Unary s u e)) ∙ ap (constant_under o) (expr.outs-Unary s u e)

pub negated_Binary : (p : Pos) (o : UnaryOp) (s : Pos) (u : BinaryOp) (q : Pos) (a b : Expr)
    → constant_of (expr.Unary p o (expr.Binary s u q a b)) ≡ None
negated_Binary p o s u q a b =
    ap constant_in (expr.outs-Unary p o (expr.Binary s u q a b)) ∙ ap (constant_under o) (expr.outs-Binary s u q a b)

pub negated_And : (p : Pos) (o : UnaryOp) (s : Pos) (a b : Expr)
    → constant_of (expr.Unary p o (expr.And s a b)) ≡ None
negated_And p o s a b =
    ap constant_in (expr.outs-Unary p o (expr.And s a b)) ∙ ap (constant_under o) (expr.outs-And s a b)

pub negated_Or : (p : Pos) (o : UnaryOp) (s : Pos) (a b : Expr)
    → constant_of (expr.Unary p o (expr.Or s a b)) ≡ None
negated_Or p o s a b =
    ap constant_in (expr.outs-Unary p o (expr.Or s a b)) ∙ ap (constant_under o) (expr.outs-Or s a b)

pub negated_If : (p : Pos) (o : UnaryOp) (s : Pos) (c a b : Expr)
    → constant_of (expr.Unary p o (expr.If s c a b)) ≡ None
negated_If p o s c a b =
    ap constant_in (expr.outs-Unary p o (expr.If s c a b)) ∙ ap (constant_under o) (expr.outs-If s c a b)

pub negated_Match : (p : Pos) (o : UnaryOp) (s : Pos) (e : Expr) (arms : List Arm)
    → constant_of (expr.Unary p o (expr.Match s e arms)) ≡ None
negated_Match p o s e arms =
    ap constant_in (expr.outs-Unary p o (expr.Match s e arms)) ∙ ap (constant_under o) (expr.outs-Match s e arms)

pub negated_IsCase : (p : Pos) (o : UnaryOp) (s : Pos) (e : Expr) (n k : ℕ)
    → constant_of (expr.Unary p o (expr.IsCase s e n k)) ≡ None
negated_IsCase p o s e n k =
    ap constant_in (expr.outs-Unary p o (expr.IsCase s e n k)) ∙ ap (constant_under o) (expr.outs-IsCase s e n k)

pub negated_Case : (p : Pos) (o : UnaryOp) (s : Pos) (n k : ℕ) (content : Option Expr)
    → constant_of (expr.Unary p o (expr.Case s n k content)) ≡ None
negated_Case p o s n k content =
    ap constant_in (expr.outs-Unary p o (expr.Case s n k content))
    ∙ ap (constant_under o) (expr.outs-Case s n k content)

pub negated_Structure : (p : Pos) (o : UnaryOp) (s : Pos) (n : ℕ) (fields : List FieldValue)
    → constant_of (expr.Unary p o (expr.Structure s n fields)) ≡ None
negated_Structure p o s n fields =
    ap constant_in (expr.outs-Unary p o (expr.Structure s n fields))
    ∙ ap (constant_under o) (expr.outs-Structure s n fields)

pub negated_List : (p : Pos) (o : UnaryOp) (s : Pos) (es : List Expr)
    → constant_of (expr.Unary p o (expr.List s es)) ≡ None
negated_List p o s es =
    ap constant_in (expr.outs-Unary p o (expr.List s es)) ∙ ap (constant_under o) (expr.outs-List s es)

pub negated_ForAll : (p : Pos) (o : UnaryOp) (s : Pos) (l e : Expr)
    → constant_of (expr.Unary p o (expr.ForAll s l e)) ≡ None
negated_ForAll p o s l e =
    ap constant_in (expr.outs-Unary p o (expr.ForAll s l e)) ∙ ap (constant_under o) (expr.outs-ForAll s l e)

pub negated_Exists : (p : Pos) (o : UnaryOp) (s : Pos) (l e : Expr)
    → constant_of (expr.Unary p o (expr.Exists s l e)) ≡ None
negated_Exists p o s l e =
    ap constant_in (expr.outs-Unary p o (expr.Exists s l e)) ∙ ap (constant_under o) (expr.outs-Exists s l e)

pub negated_Map : (p : Pos) (o : UnaryOp) (s : Pos) (l e : Expr)
    → constant_of (expr.Unary p o (expr.Map s l e)) ≡ None
negated_Map p o s l e =
    ap constant_in (expr.outs-Unary p o (expr.Map s l e)) ∙ ap (constant_under o) (expr.outs-Map s l e)

pub negated_Filter : (p : Pos) (o : UnaryOp) (s : Pos) (l e : Expr)
    → constant_of (expr.Unary p o (expr.Filter s l e)) ≡ None
negated_Filter p o s l e =
    ap constant_in (expr.outs-Unary p o (expr.Filter s l e)) ∙ ap (constant_under o) (expr.outs-Filter s l e)

pub negated_Combine : (p : Pos) (o : UnaryOp) (s : Pos) (l start e : Expr)
    → constant_of (expr.Unary p o (expr.Combine s l start e)) ≡ None
negated_Combine p o s l start e =
    ap constant_in (expr.outs-Unary p o (expr.Combine s l start e))
    ∙ ap (constant_under o) (expr.outs-Combine s l start e)

pub negated_Contains : (p : Pos) (o : UnaryOp) (s q : Pos) (l e : Expr)
    → constant_of (expr.Unary p o (expr.Contains s q l e)) ≡ None
negated_Contains p o s q l e =
    ap constant_in (expr.outs-Unary p o (expr.Contains s q l e)) ∙ ap (constant_under o) (expr.outs-Contains s q l e)

pub negated_Length : (p : Pos) (o : UnaryOp) (s : Pos) (l : Expr)
    → constant_of (expr.Unary p o (expr.Length s l)) ≡ None
negated_Length p o s l =
    ap constant_in (expr.outs-Unary p o (expr.Length s l)) ∙ ap (constant_under o) (expr.outs-Length s l)

pub negated_Sum : (p : Pos) (o : UnaryOp) (s : Pos) (kind : SumKind) (l : Expr)
    → constant_of (expr.Unary p o (expr.Sum s kind l)) ≡ None
negated_Sum p o s kind l =
    ap constant_in (expr.outs-Unary p o (expr.Sum s kind l)) ∙ ap (constant_under o) (expr.outs-Sum s kind l)

pub negated_Call : (p : Pos) (o : UnaryOp) (s : Pos) (f : ℕ) (es : List Expr)
    → constant_of (expr.Unary p o (expr.Call s f es)) ≡ None
negated_Call p o s f es =
    ap constant_in (expr.outs-Unary p o (expr.Call s f es)) ∙ ap (constant_under o) (expr.outs-Call s f es)

pub negated_ScopeCall : (p : Pos) (o : UnaryOp) (s : Pos) (scope : ℕ) (fields : List FieldValue) (k : ℕ)
    → constant_of (expr.Unary p o (expr.ScopeCall s scope fields k)) ≡ None
negated_ScopeCall p o s scope fields k =
    ap constant_in (expr.outs-Unary p o (expr.ScopeCall s scope fields k))
    ∙ ap (constant_under o) (expr.outs-ScopeCall s scope fields k)

pub ruleset constants = (
  constant_Literal,
  constant_Item,
  constant_Output,
  constant_Local,
  constant_Field,
  constant_Binary,
  constant_And,
  constant_Or,
  constant_If,
  constant_Match,
  constant_IsCase,
  constant_Case,
  constant_Structure,
  constant_List,
  constant_ForAll,
  constant_Exists,
  constant_Map,
  constant_Filter,
  constant_Combine,
  constant_Contains,
  constant_Length,
  constant_Sum,
  constant_Call,
  constant_ScopeCall,
  negated_Literal,
  negated_Item,
  negated_Output,
  negated_Local,
  negated_Field,
  negated_Unary,
  negated_Binary,
  negated_And,
  negated_Or,
  negated_If,
  negated_Match,
  negated_IsCase,
  negated_Case,
  negated_Structure,
  negated_List,
  negated_ForAll,
  negated_Exists,
  negated_Map,
  negated_Filter,
  negated_Combine,
  negated_Contains,
  negated_Length,
  negated_Sum,
  negated_Call,
  negated_ScopeCall,
)
