-- The equation of `eval` at each form.
use Rattle.std.proofs.Common.{◌≡◌, ℕ, pos, true, false, List, [], ◌∷◌, ◌++◌, map, length, Some, None, Ok}
use Rattle.std.proofs.Common.{refl, ◌∙◌, rules, slice_get, nat_eq}
use Rattle.cat_pos.specs.declared.pos.Pos.{Pos}
use Rattle.cat_value.specs.declared.value.Value.{Value}
use Rattle.cat_scope.specs.declared.expr.Literal.{Literal}
use Rattle.cat_scope.specs.declared.operators.UnaryOp.{UnaryOp}
use Rattle.cat_scope.specs.declared.operators.BinaryOp.{BinaryOp}
use Rattle.cat_scope.specs.declared.operators.SumKind.{SumKind}
use Rattle.cat_scope.specs.declared.expr.Expr.{Expr}
use Rattle.cat_scope.specs.declared.expr.FieldValue.{FieldValue}
use Rattle.cat_scope.specs.declared.expr.Arm.{Arm}
use Rattle.cat_scope.specs.declared.expr.Expr.TheVariants as leaf
use Rattle.cat_scope.specs.declared.expr.Expr.TheViews as expr
use Rattle.cat_scope.specs.declared.expr.Expr.TheViews.{out-Expr}
use Rattle.cat_scope.specs.declared.expr.Expr.TheFolds.{fold_out-Expr, map-Expr}
use Rattle.cat_value.specs.declared.value.Value.TheVariants as flat
use Rattle.cat_value.specs.declared.value.Value.TheViews as value
use Rattle.cat_scope.specs.Replies.{on_one, known, evaluated}
use Rattle.cat_scope.specs.Runs.{plain, gives, and_then, giving, choose}
use Rattle.cat_scope.specs.Projections.{case_of}
use Rattle.cat_scope.specs.Operators.{convert, operate}
use Rattle.cat_scope.specs.Lists.{for_all, exists, mapped, filtered, combined, contained, zero_of, summed}
use Rattle.cat_scope.specs.Eval.{Env, eval, meaning_of, field_meaning, arm_meaning}
use Rattle.cat_scope.specs.inside.EvalParts.{eval_all, eval_fields, eval_arms}
use Rattle.cat_scope.specs.Composed.{Meaning, literal_value, part, structured, matched}
use Rattle.cat_scope.specs.Composed.{listed}
use Rattle.cat_scope.proofs.PartEquations.{Field, Branch, field, branch, all_is, fields_are}
use Rattle.cat_scope.proofs.PartEquations.{branches_are, and_then_same}

pub eval_Literal : (env : Env) (p : Pos) (l : Literal) (locals : List Value) → eval env (leaf.Literal p l) locals
    ≡ gives (literal_value l)
unfolding eval
eval_Literal env p l locals = search (
  rules,
  expr.the_lemmas,
  all_is,
  fields_are,
  fold_out-Expr Meaning Branch Field
      (meaning_of env) arm_meaning field_meaning,
)

pub eval_Item : (env : Env) (p : Pos) (item : ℕ) (locals : List Value) → eval env (leaf.Item p item) locals ≡ plain
    (evaluated (slice_get env.items item))
unfolding eval
eval_Item env p item locals = search (
  rules,
  expr.the_lemmas,
  all_is,
  fields_are,
  fold_out-Expr Meaning Branch Field
      (meaning_of env) arm_meaning field_meaning,
)

pub eval_Output : (env : Env) (p : Pos) (item : ℕ) (k : ℕ) (locals : List Value) → eval env (leaf.Output p item k)
    locals ≡ plain (on_one (evaluated (slice_get env.items item)) (part k))
unfolding eval
eval_Output env p item k locals = search (
  rules,
  expr.the_lemmas,
  all_is,
  fields_are,
  fold_out-Expr Meaning Branch Field
      (meaning_of env) arm_meaning field_meaning,
)

pub eval_Local : (env : Env) (p : Pos) (k : ℕ) (locals : List Value) → eval env (leaf.Local p k) locals ≡ plain
    (known (slice_get locals k))
unfolding eval
eval_Local env p k locals = search (
  rules,
  expr.the_lemmas,
  all_is,
  fields_are,
  fold_out-Expr Meaning Branch Field
      (meaning_of env) arm_meaning field_meaning,
)

pub eval_Field : (env : Env) (p : Pos) (e : Expr) (k : ℕ) (locals : List Value) → eval env (expr.Field p e k) locals
    ≡ giving (eval env e locals) (part k)
unfolding eval
eval_Field env p e k locals = search (
  rules,
  expr.the_lemmas,
  all_is,
  fields_are,
  fold_out-Expr Meaning Branch Field
      (meaning_of env) arm_meaning field_meaning,
)

pub eval_Unary : (env : Env) (p : Pos) (o : UnaryOp) (e : Expr) (locals : List Value) → eval env (expr.Unary p o e)
    locals ≡ giving (eval env e locals) (convert o p)
unfolding eval
eval_Unary env p o e locals = search (
  rules,
  expr.the_lemmas,
  all_is,
  fields_are,
  fold_out-Expr Meaning Branch Field
      (meaning_of env) arm_meaning field_meaning,
)

pub eval_Binary : (env : Env) (p : Pos) (o : BinaryOp) (q : Pos) (a : Expr) (b : Expr) (locals : List Value)
    → eval env (expr.Binary p o q a b) locals ≡ and_then (eval env a locals)
    (λ v. giving (eval env b locals) (operate env.rounding o q v))
unfolding eval
eval_Binary env p o q a b locals = search (
  rules,
  expr.the_lemmas,
  all_is,
  fields_are,
  fold_out-Expr Meaning Branch
      Field (meaning_of env) arm_meaning field_meaning,
)

pub eval_And : (env : Env) (p : Pos) (a : Expr) (b : Expr) (locals : List Value) → eval env (expr.And p a b) locals
    ≡ and_then (eval env a locals) (λ v. choose v (eval env b locals) (gives (flat.Boolean false)))
unfolding eval
eval_And env p a b locals = search (
  rules,
  expr.the_lemmas,
  all_is,
  fields_are,
  fold_out-Expr Meaning Branch Field
      (meaning_of env) arm_meaning field_meaning,
)

pub eval_Or : (env : Env) (p : Pos) (a : Expr) (b : Expr) (locals : List Value) → eval env (expr.Or p a b) locals
    ≡ and_then (eval env a locals) (λ v. choose v (gives (flat.Boolean true)) (eval env b locals))
unfolding eval
eval_Or env p a b locals = search (
  rules,
  expr.the_lemmas,
  all_is,
  fields_are,
  fold_out-Expr Meaning Branch Field
      (meaning_of env) arm_meaning field_meaning,
)

pub eval_If : (env : Env) (p : Pos) (c : Expr) (a : Expr) (b : Expr) (locals : List Value) → eval env (expr.If p c a b)
    locals ≡ and_then (eval env c locals) (λ v. choose v (eval env a locals) (eval env b locals))
unfolding eval
eval_If env p c a b locals = search (
  rules,
  expr.the_lemmas,
  all_is,
  fields_are,
  fold_out-Expr Meaning Branch Field
      (meaning_of env) arm_meaning field_meaning,
)

match_first : (env : Env) (p : Pos) (e : Expr) (arms : List Arm) (locals : List Value) → eval env (expr.Match p e arms)
    locals ≡ and_then (eval env e locals)
    (λ v. and_then (plain (case_of v)) (λ c. matched (map (branch env) arms) c.0 c.1 locals))
unfolding eval
match_first env p e arms locals =
    search (rules, expr.the_lemmas, fold_out-Expr Meaning Branch Field (meaning_of env) arm_meaning field_meaning)

pub eval_Match : (env : Env) (p : Pos) (e : Expr) (arms : List Arm) (locals : List Value)
    → eval env (expr.Match p e arms) locals ≡ and_then (eval env e locals)
    (λ v. and_then (plain (case_of v)) (λ c. eval_arms env arms c.0 c.1 locals))
eval_Match env p e arms locals =
    match_first env p e arms locals ∙ and_then_same (eval env e locals) _ _
    (λ v. and_then_same (plain (case_of v)) _ _ (λ c. branches_are env arms c.0 c.1 locals))

pub eval_IsCase : (env : Env) (p : Pos) (e : Expr) (n : ℕ) (k : ℕ) (locals : List Value)
    → eval env (expr.IsCase p e n k) locals ≡ giving (eval env e locals)
    (λ v. on_one (case_of v) (λ c. Ok (flat.Boolean (nat_eq c.0 k))))
unfolding eval
eval_IsCase env p e n k locals = search (
  rules,
  expr.the_lemmas,
  all_is,
  fields_are,
  fold_out-Expr Meaning Branch Field
      (meaning_of env) arm_meaning field_meaning,
)

pub eval_Case_None : (env : Env) (p : Pos) (n : ℕ) (k : ℕ) (locals : List Value) → eval env (expr.Case p n k None)
    locals ≡ gives (value.Case k None)
unfolding eval
eval_Case_None env p n k locals = search (
  rules,
  expr.the_lemmas,
  all_is,
  fields_are,
  fold_out-Expr Meaning Branch Field
      (meaning_of env) arm_meaning field_meaning,
)

pub levels : (env : Env) (e : Expr) → eval env e ≡ meaning_of env
    (map-Expr Expr Arm FieldValue Meaning Branch Field (eval env) (branch env) (field env) (out-Expr e))
unfolding eval
levels env e = fold_out-Expr Meaning Branch Field (meaning_of env) arm_meaning field_meaning e

pub eval_Case_Some : (env : Env) (p : Pos) (n : ℕ) (k : ℕ) (e : Expr) (locals : List Value)
    → eval env (expr.Case p n k (Some e)) locals ≡ and_then (eval env e locals) (λ v. gives (value.Case k (Some v)))
eval_Case_Some env p n k e locals = rw (levels env (expr.Case p n k (Some e)), expr.outs-Case p n k (Some e)) refl

pub eval_Structure : (env : Env) (p : Pos) (n : ℕ) (fields : List FieldValue) (locals : List Value)
    → eval env (expr.Structure p n fields) locals ≡ giving (eval_fields env fields locals) structured
unfolding eval
eval_Structure env p n fields locals = search (
  rules,
  expr.the_lemmas,
  all_is,
  fields_are,
  fold_out-Expr Meaning Branch
      Field (meaning_of env) arm_meaning field_meaning,
)

pub eval_List : (env : Env) (p : Pos) (es : List Expr) (locals : List Value) → eval env (expr.List p es) locals
    ≡ and_then (eval_all env es locals) (λ vs. gives (value.List vs))
unfolding eval
eval_List env p es locals = search (
  rules,
  expr.the_lemmas,
  all_is,
  fields_are,
  fold_out-Expr Meaning Branch Field
      (meaning_of env) arm_meaning field_meaning,
)

pub eval_ForAll : (env : Env) (p : Pos) (l : Expr) (test : Expr) (locals : List Value) → eval env (expr.ForAll p l test)
    locals ≡ and_then (listed (eval env l) locals) (for_all (λ v. eval env test (locals ++ v ∷ [])))
unfolding eval
eval_ForAll env p l test locals = search (
  rules,
  expr.the_lemmas,
  all_is,
  fields_are,
  fold_out-Expr Meaning Branch Field
      (meaning_of env) arm_meaning field_meaning,
)

pub eval_Exists : (env : Env) (p : Pos) (l : Expr) (test : Expr) (locals : List Value) → eval env (expr.Exists p l test)
    locals ≡ and_then (listed (eval env l) locals) (exists (λ v. eval env test (locals ++ v ∷ [])))
unfolding eval
eval_Exists env p l test locals = search (
  rules,
  expr.the_lemmas,
  all_is,
  fields_are,
  fold_out-Expr Meaning Branch Field
      (meaning_of env) arm_meaning field_meaning,
)

pub eval_Map : (env : Env) (p : Pos) (l : Expr) (e : Expr) (locals : List Value) → eval env (expr.Map p l e) locals
    ≡ and_then (listed (eval env l) locals) (λ vs. and_then (mapped (λ v. eval env e (locals ++ v ∷ [])) vs)
    (λ ws. gives (value.List ws)))
unfolding eval
eval_Map env p l e locals = search (
  rules,
  expr.the_lemmas,
  all_is,
  fields_are,
  fold_out-Expr Meaning Branch Field
      (meaning_of env) arm_meaning field_meaning,
)

pub eval_Filter : (env : Env) (p : Pos) (l : Expr) (test : Expr) (locals : List Value) → eval env (expr.Filter p l test)
    locals ≡ and_then (listed (eval env l) locals) (λ vs. and_then (filtered (λ v. eval env test (locals ++ v ∷ [])) vs)
    (λ ws. gives (value.List ws)))
unfolding eval
eval_Filter env p l test locals = search (
  rules,
  expr.the_lemmas,
  all_is,
  fields_are,
  fold_out-Expr Meaning Branch Field
      (meaning_of env) arm_meaning field_meaning,
)

pub eval_Combine : (env : Env) (p : Pos) (l : Expr) (start : Expr) (e : Expr) (locals : List Value)
    → eval env (expr.Combine p l start e) locals ≡ and_then (listed (eval env l) locals)
    (λ vs. and_then (eval env start locals) (combined (λ v total. eval env e (locals ++ v ∷ total ∷ [])) vs))
unfolding eval
eval_Combine env p l start e locals = search (
  rules,
  expr.the_lemmas,
  all_is,
  fields_are,
  fold_out-Expr Meaning Branch
      Field (meaning_of env) arm_meaning field_meaning,
)

pub eval_Contains : (env : Env) (p : Pos) (q : Pos) (l : Expr) (e : Expr) (locals : List Value)
    → eval env (expr.Contains p q l e) locals ≡ and_then (listed (eval env l) locals)
    (λ vs. giving (eval env e locals) (λ v. contained q v vs))
unfolding eval
eval_Contains env p q l e locals = search (
  rules,
  expr.the_lemmas,
  all_is,
  fields_are,
  fold_out-Expr Meaning Branch
      Field (meaning_of env) arm_meaning field_meaning,
)

pub eval_Length : (env : Env) (p : Pos) (l : Expr) (locals : List Value) → eval env (expr.Length p l) locals ≡ and_then
    (listed (eval env l) locals) (λ vs. gives (flat.Integer (pos (length vs))))
unfolding eval
eval_Length env p l locals = search (
  rules,
  expr.the_lemmas,
  all_is,
  fields_are,
  fold_out-Expr Meaning Branch Field
      (meaning_of env) arm_meaning field_meaning,
)

pub eval_Sum : (env : Env) (p : Pos) (kind : SumKind) (l : Expr) (locals : List Value) → eval env (expr.Sum p kind l)
    locals ≡ giving (listed (eval env l) locals) (λ vs. summed kind p vs (zero_of kind))
unfolding eval
eval_Sum env p kind l locals = search (
  rules,
  expr.the_lemmas,
  all_is,
  fields_are,
  fold_out-Expr Meaning Branch Field
      (meaning_of env) arm_meaning field_meaning,
)

pub eval_Call : (env : Env) (p : Pos) (f : ℕ) (es : List Expr) (locals : List Value) → eval env (expr.Call p f es)
    locals ≡ and_then (eval_all env es locals) (env.call f)
unfolding eval
eval_Call env p f es locals = search (
  rules,
  expr.the_lemmas,
  all_is,
  fields_are,
  fold_out-Expr Meaning Branch Field
      (meaning_of env) arm_meaning field_meaning,
)

pub eval_ScopeCall : (env : Env) (p : Pos) (s : ℕ) (fields : List FieldValue) (k : ℕ) (locals : List Value)
    → eval env (expr.ScopeCall p s fields k) locals ≡ and_then (eval_fields env fields locals)
    (λ fs. env.scope_call s fs k)
unfolding eval
eval_ScopeCall env p s fields k locals =
    search (
      rules,
      expr.the_lemmas,
      all_is,
      fields_are,
      fold_out-Expr Meaning Branch Field (meaning_of env) arm_meaning
          field_meaning,
    )

pub ruleset equations = (
  eval_Literal,
  eval_Item,
  eval_Output,
  eval_Local,
  eval_Field,
  eval_Unary,
  eval_Binary,
  eval_And,
  eval_Or,
  eval_If,
  eval_Match,
  eval_IsCase,
  eval_Case_None,
  eval_Case_Some,
  eval_Structure,
  eval_List,
  eval_ForAll,
  eval_Exists,
  eval_Map,
  eval_Filter,
  eval_Combine,
  eval_Contains,
  eval_Length,
  eval_Sum,
  eval_Call,
  eval_ScopeCall,
)
