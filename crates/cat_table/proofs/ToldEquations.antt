-- What each form of expressions tells of its type.
use Rattle.std.proofs.Common.{◌≡◌, ℕ, List, [], ◌∷◌, map, Option, Some, None, slice_get, refl, ap, ◌∙◌, rules}
use Rattle.cat_pos.specs.declared.pos.Pos.{Pos}
use Rattle.cat_scope.specs.declared.expr.Literal.{Literal}
use Rattle.cat_scope.specs.declared.expr.ArmPattern.{ArmPattern}
use Rattle.cat_scope.specs.declared.expr.Arm.{Arm}
use Rattle.cat_scope.specs.declared.expr.FieldValue.{FieldValue}
use Rattle.cat_scope.specs.declared.expr.Expr.{Expr}
use Rattle.cat_scope.specs.declared.expr.Expr.TheOpen.{Expr-F}
use Rattle.cat_scope.specs.declared.expr.Expr.TheVariants as leaf
use Rattle.cat_scope.specs.declared.expr.Expr.TheViews as expr
use Rattle.cat_scope.specs.declared.expr.Expr.TheViews.{out-Expr}
use Rattle.cat_scope.specs.declared.expr.Expr.TheFolds.{map-Expr, fold_out-Expr, fold-Arm, fold_out-Arm}
use Rattle.cat_scope.specs.declared.operators.UnaryOp.{UnaryOp}
use Rattle.cat_scope.specs.declared.operators.BinaryOp.{BinaryOp}
use Rattle.cat_scope.specs.declared.operators.SumKind.{SumKind}
use Rattle.cat_scope.specs.Names.{output_at}
use Rattle.cat_value.specs.declared.decls.Decls.{Decls}
use Rattle.cat_value.specs.declared.declaration.ItemDecl.{ItemDecl}
use Rattle.cat_table.specs.declared.named_type.NamedType.{NamedType}
use Rattle.cat_table.specs.declared.named_type.NamedType.TheVariants as of_type
use Rattle.cat_table.specs.NamedTypes.{item_named, called_output, field_in, field_named}
use Rattle.cat_table.specs.Told.{Tells, found_in, arms_told, told_by, told}

module _ (ds : Decls) (items : List ItemDecl) where
  abbrev branch : Arm → ArmPattern × Tells
  branch = fold-Arm Tells (ArmPattern × Tells) (Unit {0}) (told_by ds items) (λ a. (a.pattern, a.body)) (λ f. tt)

  branch_is : (a : Arm) → branch a ≡ (a.pattern, told ds items a.body)
  unfolding told
  branch_is a = search (
    rules,
    expr.the_lemmas,
    fold_out-Arm Tells (ArmPattern × Tells) (Unit {0}) (told_by ds items) (λ a. (a.pattern, a.body)) (λ f. tt),
  )

  branches_are : (arms : List Arm) → map branch arms ≡ map (λ a. (a.pattern, told ds items a.body)) arms
  branches_are [] = refl
  branches_are (a ∷ arms) =
      ap (λ (b : ArmPattern × Tells). b ∷ map branch arms) (branch_is a)
      ∙ ap (λ l. (a.pattern, told ds items a.body) ∷ l) (branches_are arms)

  abbrev opened : Expr-F Expr Arm FieldValue → Expr-F Tells (ArmPattern × Tells) (Unit {0})
  opened y = map-Expr Expr Arm FieldValue Tells (ArmPattern × Tells) (Unit {0}) (told ds items) branch (λ f. tt) y

  level : (e : Expr) → told ds items e ≡ told_by ds items (opened (out-Expr e))
  unfolding told
  level e =
      fold_out-Expr Tells (ArmPattern × Tells) (Unit {0}) (told_by ds items) (λ a. (a.pattern, a.body)) (λ f. tt) e

  at : (e : Expr) (y : Expr-F Expr Arm FieldValue) (locals : List (Option NamedType)) → out-Expr e ≡ y
      → told ds items e locals ≡ told_by ds items (opened y) locals
  at e y locals is = ap (λ (tell : Tells). tell locals) (level e ∙ ap (λ x. told_by ds items (opened x)) is)

  pub told_Literal : (p : Pos) (l : Literal) (locals : List (Option NamedType))
      → told ds items (leaf.Literal p l) locals ≡ None
  told_Literal p l locals = at (leaf.Literal p l) (Expr-F.Literal p l) locals (expr.outs-Literal p l)

  pub told_Item : (p : Pos) (i : ℕ) (locals : List (Option NamedType))
      → told ds items (leaf.Item p i) locals ≡ item_named (slice_get items i)
  told_Item p i locals = at (leaf.Item p i) (Expr-F.Item p i) locals (expr.outs-Item p i)

  pub told_Output : (p : Pos) (i k : ℕ) (locals : List (Option NamedType))
      → told ds items (leaf.Output p i k) locals ≡ item_named (called_output ds k (slice_get items i))
  told_Output p i k locals = at (leaf.Output p i k) (Expr-F.Output p i k) locals (expr.outs-Output p i k)

  pub told_Local : (p : Pos) (k : ℕ) (locals : List (Option NamedType))
      → told ds items (leaf.Local p k) locals ≡ found_in (slice_get locals k)
  told_Local p k locals = at (leaf.Local p k) (Expr-F.Local p k) locals (expr.outs-Local p k)

  pub told_Field : (p : Pos) (e : Expr) (k : ℕ) (locals : List (Option NamedType))
      → told ds items (expr.Field p e k) locals ≡ field_named (field_in ds k (told ds items e locals))
  told_Field p e k locals = at (expr.Field p e k) (Expr-F.Field p e k) locals (expr.outs-Field p e k)

  pub told_Unary : (p : Pos) (o : UnaryOp) (e : Expr) (locals : List (Option NamedType))
      → told ds items (expr.Unary p o e) locals ≡ None
  told_Unary p o e locals = at (expr.Unary p o e) (Expr-F.Unary p o e) locals (expr.outs-Unary p o e)

  pub told_Binary : (p : Pos) (o : BinaryOp) (q : Pos) (a b : Expr) (locals : List (Option NamedType))
      → told ds items (expr.Binary p o q a b) locals ≡ None
  told_Binary p o q a b locals =
      at (expr.Binary p o q a b) (Expr-F.Binary p o q a b) locals (expr.outs-Binary p o q a b)

  pub told_And : (p : Pos) (a b : Expr) (locals : List (Option NamedType))
      → told ds items (expr.And p a b) locals ≡ None
  told_And p a b locals = at (expr.And p a b) (Expr-F.And p a b) locals (expr.outs-And p a b)

  pub told_Or : (p : Pos) (a b : Expr) (locals : List (Option NamedType))
      → told ds items (expr.Or p a b) locals ≡ None
  told_Or p a b locals = at (expr.Or p a b) (Expr-F.Or p a b) locals (expr.outs-Or p a b)

  pub told_If : (p : Pos) (c a b : Expr) (locals : List (Option NamedType))
      → told ds items (expr.If p c a b) locals ≡ told ds items a locals
  told_If p c a b locals = at (expr.If p c a b) (Expr-F.If p c a b) locals (expr.outs-If p c a b)

  pub told_Match : (p : Pos) (e : Expr) (arms : List Arm) (locals : List (Option NamedType))
      → told ds items (expr.Match p e arms) locals
      ≡ arms_told ds (told ds items e locals) (map (λ a. (a.pattern, told ds items a.body)) arms) locals
  told_Match p e arms locals =
      at (expr.Match p e arms) (Expr-F.Match p e arms) locals (expr.outs-Match p e arms)
      ∙ ap (λ bs. arms_told ds (told ds items e locals) bs locals) (branches_are arms)

  pub told_IsCase : (p : Pos) (e : Expr) (n k : ℕ) (locals : List (Option NamedType))
      → told ds items (expr.IsCase p e n k) locals ≡ None
  told_IsCase p e n k locals = at (expr.IsCase p e n k) (Expr-F.IsCase p e n k) locals (expr.outs-IsCase p e n k)

  pub told_Case : (p : Pos) (n k : ℕ) (content : Option Expr) (locals : List (Option NamedType))
      → told ds items (expr.Case p n k content) locals ≡ Some (of_type.Enumeration n)
  told_Case p n k content locals =
      at (expr.Case p n k content) (Expr-F.Case p n k content) locals (expr.outs-Case p n k content)

  pub told_Structure : (p : Pos) (n : ℕ) (fields : List FieldValue) (locals : List (Option NamedType))
      → told ds items (expr.Structure p n fields) locals ≡ Some (of_type.Structure n)
  told_Structure p n fields locals =
      at (expr.Structure p n fields) (Expr-F.Structure p n fields) locals (expr.outs-Structure p n fields)

  pub told_List : (p : Pos) (es : List Expr) (locals : List (Option NamedType))
      → told ds items (expr.List p es) locals ≡ None
  told_List p es locals = at (expr.List p es) (Expr-F.List p es) locals (expr.outs-List p es)

  pub told_ForAll : (p : Pos) (l e : Expr) (locals : List (Option NamedType))
      → told ds items (expr.ForAll p l e) locals ≡ None
  told_ForAll p l e locals = at (expr.ForAll p l e) (Expr-F.ForAll p l e) locals (expr.outs-ForAll p l e)

  pub told_Exists : (p : Pos) (l e : Expr) (locals : List (Option NamedType))
      → told ds items (expr.Exists p l e) locals ≡ None
  told_Exists p l e locals = at (expr.Exists p l e) (Expr-F.Exists p l e) locals (expr.outs-Exists p l e)

  pub told_Map : (p : Pos) (l e : Expr) (locals : List (Option NamedType))
      → told ds items (expr.Map p l e) locals ≡ None
  told_Map p l e locals = at (expr.Map p l e) (Expr-F.Map p l e) locals (expr.outs-Map p l e)

  pub told_Filter : (p : Pos) (l e : Expr) (locals : List (Option NamedType))
      → told ds items (expr.Filter p l e) locals ≡ None
  told_Filter p l e locals = at (expr.Filter p l e) (Expr-F.Filter p l e) locals (expr.outs-Filter p l e)

  pub told_Combine : (p : Pos) (l s e : Expr) (locals : List (Option NamedType))
      → told ds items (expr.Combine p l s e) locals ≡ told ds items s locals
  told_Combine p l s e locals = at (expr.Combine p l s e) (Expr-F.Combine p l s e) locals (expr.outs-Combine p l s e)

  pub told_Contains : (p q : Pos) (l e : Expr) (locals : List (Option NamedType))
      → told ds items (expr.Contains p q l e) locals ≡ None
  told_Contains p q l e locals =
      at (expr.Contains p q l e) (Expr-F.Contains p q l e) locals (expr.outs-Contains p q l e)

  pub told_Length : (p : Pos) (l : Expr) (locals : List (Option NamedType))
      → told ds items (expr.Length p l) locals ≡ None
  told_Length p l locals = at (expr.Length p l) (Expr-F.Length p l) locals (expr.outs-Length p l)

  pub told_Sum : (p : Pos) (kind : SumKind) (l : Expr) (locals : List (Option NamedType))
      → told ds items (expr.Sum p kind l) locals ≡ None
  told_Sum p kind l locals = at (expr.Sum p kind l) (Expr-F.Sum p kind l) locals (expr.outs-Sum p kind l)

  pub told_Call : (p : Pos) (f : ℕ) (es : List Expr) (locals : List (Option NamedType))
      → told ds items (expr.Call p f es) locals ≡ item_named (slice_get items f)
  told_Call p f es locals = at (expr.Call p f es) (Expr-F.Call p f es) locals (expr.outs-Call p f es)

  pub told_ScopeCall : (p : Pos) (s : ℕ) (fields : List FieldValue) (k : ℕ) (locals : List (Option NamedType))
      → told ds items (expr.ScopeCall p s fields k) locals ≡ item_named (output_at ds s k)
  told_ScopeCall p s fields k locals =
      at (expr.ScopeCall p s fields k) (Expr-F.ScopeCall p s fields k) locals (expr.outs-ScopeCall p s fields k)

pub ruleset equations = (
  told_Literal,
  told_Item,
  told_Output,
  told_Local,
  told_Field,
  told_Unary,
  told_Binary,
  told_And,
  told_Or,
  told_If,
  told_Match,
  told_IsCase,
  told_Case,
  told_Structure,
  told_List,
  told_ForAll,
  told_Exists,
  told_Map,
  told_Filter,
  told_Combine,
  told_Contains,
  told_Length,
  told_Sum,
  told_Call,
  told_ScopeCall,
)
