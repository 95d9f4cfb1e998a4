-- Each scope that a meaning calls is named by a word of the expression.
use Rattle.std.proofs.Common.{◌≡◌, ◌&&◌, ℕ, List, [], ◌∷◌, ◌++◌, Option, Ok, refl, sym, subst}
use Rattle.cat_pos.specs.declared.pos.Pos.{Pos}
use Rattle.cat_value.specs.declared.ty.Ty.{Ty}
use Rattle.cat_value.specs.declared.ty.Ty.TheVariants as flat_ty
use Rattle.cat_value.specs.declared.ty.Ty.TheViews as ty
use Rattle.cat_value.specs.declared.decls.Decls.{Decls}
use Rattle.cat_tree.specs.declared.name.Name.{Name}
use Rattle.cat_tree.specs.declared.expression.Operator.{Operator}
use Rattle.cat_tree.specs.declared.expression.Operator.TheVariants as operator
use Rattle.cat_tree.specs.declared.expression.Prefix.{Prefix}
use Rattle.cat_tree.specs.declared.expression.Prefix.TheVariants as prefix
use Rattle.cat_scope.specs.declared.expr.Literal.{Literal}
use Rattle.cat_scope.specs.declared.expr.Expr.{Expr}
use Rattle.cat_scope.specs.declared.expr.Expr.TheVariants as leaf
use Rattle.cat_scope.specs.declared.expr.Expr.TheViews as expr
use Rattle.cat_scope.specs.Names.{IsOneOf}
use Rattle.cat_scope.specs.Mentions.{own_scope, scopes_named}
use Rattle.cat_scope.proofs.Exported.{names_by_level}
use Rattle.cat_names.proofs.ListLaws.{behind, in_front}
use Rattle.cat_scope.proofs.Exported.{all_append}
use Rattle.cat_names.specs.declared.fault.Fault.TheVariants.{TypeMismatch}
use Rattle.cat_names.specs.declared.typed.Typed.{Typed}
use Rattle.cat_names.specs.Found.{Found, and_then, or_fault}
use Rattle.cat_names.specs.Types.{same, flat_of, whole, element_of, is_as_expected}
use Rattle.cat_names.specs.Rows.{operator_for, prefix_for, sum_for}
use Rattle.cat_names.specs.Operations.{as_expected, operated, binary_of, prefixed_of, sum_of}
use Rattle.cat_names.specs.Naming.{typed}
use Rattle.cat_names.specs.ScopeWords.{IsWordOf, AreWordsOf}
use Rattle.cat_names.specs.TypedMeanings.{OnFound}
use Rattle.cat_names.proofs.OnFound.{on_then, on_where, on_any}

pub more_words : (ds : Decls) (ws vs : List Name) → ((w : Name) → IsOneOf w ws → IsOneOf w vs) → (ns : List ℕ)
    → AreWordsOf ds ws ns → AreWordsOf ds vs ns
more_words ds ws vs more [] h = tt
more_words ds ws vs more (n ∷ ns) h = (
  record {
    word = h.0.word;
    there = more h.0.word h.0.there;
    found = h.0.found;
    found_is = h.0.found_is;
    number = h.0.number;
  },
  more_words ds ws vs more ns h.1,
)

pub left_words : (ds : Decls) (ws vs : List Name) (ns : List ℕ) → AreWordsOf ds ws ns → AreWordsOf ds (ws ++ vs) ns
left_words ds ws vs ns = more_words ds ws (ws ++ vs) (λ w. in_front w ws vs) ns

pub right_words : (ds : Decls) (ws vs : List Name) (ns : List ℕ) → AreWordsOf ds vs ns → AreWordsOf ds (ws ++ vs) ns
right_words ds ws vs ns = more_words ds vs (ws ++ vs) (λ w. behind w ws vs) ns

pub both_words : (ds : Decls) (ws vs : List Name) (ns ms : List ℕ) → AreWordsOf ds ws ns → AreWordsOf ds vs ms
    → AreWordsOf ds (ws ++ vs) (ns ++ ms)
both_words ds ws vs ns ms h i =
    all_append (IsWordOf ds (ws ++ vs)) ns ms (left_words ds ws vs ns h) (right_words ds ws vs ms i)

-- what an expression calls is named by these words
abbrev pub Calls : Decls → List Name → Typed → Type 0
Calls ds words x = AreWordsOf ds words (scopes_named x.expr)

module _ (ds : Decls) where
  pub calls_fitting : (ws : List Name) (ex : Option Ty) (found : Found Typed) → OnFound (Calls ds ws) found
      → OnFound (Calls ds ws) (as_expected ex found)
  calls_fitting ws ex found h =
      on_then (Calls ds ws) (Calls ds ws) found _ h
      (λ x hx. on_where (Calls ds ws) (is_as_expected ex x.ty) _ (Ok x) (λ is. hx))

  pub calls_literal : (p : Pos) (l : Literal) → AreWordsOf ds [] (scopes_named (leaf.Literal p l))
  calls_literal p l = rw (names_by_level own_scope (leaf.Literal p l), expr.outs-Literal p l) tt

  pub calls_two : (ws vs : List Name) (a b : Typed) → Calls ds ws a → Calls ds vs b → (e : Expr)
      → scopes_named e ≡ scopes_named a.expr ++ scopes_named b.expr → AreWordsOf ds (ws ++ vs) (scopes_named e)
  calls_two ws vs a b ha hb e is =
      subst (AreWordsOf ds (ws ++ vs)) (sym is) (both_words ds ws vs (scopes_named a.expr) (scopes_named b.expr) ha hb)

  between : (o : Operator) (p : Pos) (ws vs : List Name) (a b : Typed) → Calls ds ws a → Calls ds vs b
      → OnFound (Calls ds (ws ++ vs)) (and_then (or_fault (TypeMismatch p) (operator_for o a.ty b.ty))
      (λ row. Ok (operated a.first p (expr.Binary a.first row.0 p a.expr b.expr) (whole row.1))))
  between o p ws vs a b ha hb = on_then (λ t. Unit {0}) (Calls ds (ws ++ vs))
      (or_fault (TypeMismatch p) (operator_for o a.ty b.ty)) _
      (on_any (or_fault (TypeMismatch p) (operator_for o a.ty b.ty)))
      (λ row i. calls_two ws vs a b ha hb (expr.Binary a.first row.0 p a.expr b.expr)
      (rw (
        names_by_level own_scope (expr.Binary a.first row.0 p a.expr b.expr),
        expr.outs-Binary a.first row.0 p
            a.expr b.expr,
      ) refl))

  pub calls_binary : (o : Operator) (p : Pos) (ws vs : List Name) (a b : Typed) → Calls ds ws a → Calls ds vs b
      → OnFound (Calls ds (ws ++ vs)) (binary_of o p a b)
  calls_binary operator.And p ws vs a b ha hb =
      on_where (Calls ds (ws ++ vs)) (same flat_ty.Boolean a.ty && same flat_ty.Boolean b.ty) _ _ (λ is.
      calls_two ws vs a b ha hb (expr.And a.first a.expr b.expr)
      (rw (names_by_level own_scope (expr.And a.first a.expr b.expr), expr.outs-And a.first a.expr b.expr) refl))
  calls_binary operator.Or p ws vs a b ha hb =
      on_where (Calls ds (ws ++ vs)) (same flat_ty.Boolean a.ty && same flat_ty.Boolean b.ty) _ _ (λ is.
      calls_two ws vs a b ha hb (expr.Or a.first a.expr b.expr)
      (rw (names_by_level own_scope (expr.Or a.first a.expr b.expr), expr.outs-Or a.first a.expr b.expr) refl))
  calls_binary operator.Contains p ws vs a b ha hb = on_then (λ t. Unit {0}) (Calls ds (ws ++ vs))
      (or_fault (TypeMismatch p) (flat_of b.ty)) _ (on_any (or_fault (TypeMismatch p) (flat_of b.ty)))
      (λ t i. on_where (Calls ds (ws ++ vs)) (same (ty.List (whole t)) a.ty) _ _ (λ is.
      calls_two ws vs a b ha hb (expr.Contains a.first p a.expr b.expr)
      (rw (
        names_by_level own_scope (expr.Contains a.first p a.expr b.expr),
        expr.outs-Contains a.first p a.expr
            b.expr,
      ) refl)))
  calls_binary operator.Xor p ws vs a b ha hb = between operator.Xor p ws vs a b ha hb
  calls_binary operator.Less p ws vs a b ha hb = between operator.Less p ws vs a b ha hb
  calls_binary operator.LessEqual p ws vs a b ha hb = between operator.LessEqual p ws vs a b ha hb
  calls_binary operator.Greater p ws vs a b ha hb = between operator.Greater p ws vs a b ha hb
  calls_binary operator.GreaterEqual p ws vs a b ha hb = between operator.GreaterEqual p ws vs a b ha hb
  calls_binary operator.Equal p ws vs a b ha hb = between operator.Equal p ws vs a b ha hb
  calls_binary operator.NotEqual p ws vs a b ha hb = between operator.NotEqual p ws vs a b ha hb
  calls_binary operator.Plus p ws vs a b ha hb = between operator.Plus p ws vs a b ha hb
  calls_binary operator.Minus p ws vs a b ha hb = between operator.Minus p ws vs a b ha hb
  calls_binary operator.Times p ws vs a b ha hb = between operator.Times p ws vs a b ha hb
  calls_binary operator.Divide p ws vs a b ha hb = between operator.Divide p ws vs a b ha hb

  pub calls_one : (ws : List Name) (a : Typed) → Calls ds ws a → (e : Expr) → scopes_named e ≡ scopes_named a.expr
      → AreWordsOf ds ws (scopes_named e)
  calls_one ws a ha e is = subst (AreWordsOf ds ws) (sym is) ha

  before : (o : Prefix) (p : Pos) (ws : List Name) (a : Typed) → Calls ds ws a
      → OnFound (Calls ds ws) (and_then (or_fault (TypeMismatch p) (prefix_for o a.ty))
      (λ row. Ok (typed p (expr.Unary p row.0 a.expr) (whole row.1))))
  before o p ws a ha = on_then (λ t. Unit {0}) (Calls ds ws) (or_fault (TypeMismatch p) (prefix_for o a.ty)) _
      (on_any (or_fault (TypeMismatch p) (prefix_for o a.ty)))
      (λ row i. calls_one ws a ha (expr.Unary p row.0 a.expr)
      (rw (names_by_level own_scope (expr.Unary p row.0 a.expr), expr.outs-Unary p row.0 a.expr) refl))

  pub calls_prefixed : (o : Prefix) (p : Pos) (ws : List Name) (a : Typed) → Calls ds ws a
      → OnFound (Calls ds ws) (prefixed_of o p a)
  calls_prefixed prefix.NumberOf p ws a ha = on_then (λ t. Unit {0}) (Calls ds ws)
      (or_fault (TypeMismatch p) (element_of a.ty)) _ (on_any (or_fault (TypeMismatch p) (element_of a.ty)))
      (λ t i. calls_one ws a ha (expr.Length p a.expr)
      (rw (names_by_level own_scope (expr.Length p a.expr), expr.outs-Length p a.expr) refl))
  calls_prefixed prefix.Not p ws a ha = before prefix.Not p ws a ha
  calls_prefixed prefix.Negate p ws a ha = before prefix.Negate p ws a ha
  calls_prefixed prefix.IntegerOf p ws a ha = before prefix.IntegerOf p ws a ha
  calls_prefixed prefix.DecimalOf p ws a ha = before prefix.DecimalOf p ws a ha
  calls_prefixed prefix.MoneyOf p ws a ha = before prefix.MoneyOf p ws a ha
  calls_prefixed prefix.RoundOf p ws a ha = before prefix.RoundOf p ws a ha
  calls_prefixed prefix.GetYear p ws a ha = before prefix.GetYear p ws a ha
  calls_prefixed prefix.GetMonth p ws a ha = before prefix.GetMonth p ws a ha
  calls_prefixed prefix.GetDay p ws a ha = before prefix.GetDay p ws a ha

  pub calls_sum : (p : Pos) (t : Ty) (ws : List Name) (a : Typed) → Calls ds ws a → OnFound (Calls ds ws) (sum_of p t a)
  calls_sum p t ws a ha = on_then (λ k. Unit {0}) (Calls ds ws) (or_fault (TypeMismatch p) (sum_for t)) _
      (on_any (or_fault (TypeMismatch p) (sum_for t)))
      (λ k i. on_where (Calls ds ws) (same (ty.List t) a.ty) _ _
      (λ is. calls_one ws a ha (expr.Sum p k a.expr)
      (rw (names_by_level own_scope (expr.Sum p k a.expr), expr.outs-Sum p k a.expr) refl)))
