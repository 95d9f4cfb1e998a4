-- Induction over expressions: what holds of an expression where it holds of its parts, holds of each.
use Rattle.std.proofs.Common.{◌≡◌, List, [], ◌∷◌, Option, None, Some}
use Rattle.cat_scope.specs.declared.expr.Expr.{Expr}
use Rattle.cat_scope.specs.declared.expr.FieldValue.{FieldValue}
use Rattle.cat_scope.specs.declared.expr.Arm.{Arm}
use Rattle.cat_scope.specs.declared.expr.Expr.TheOpen.{Expr-F}
use Rattle.cat_scope.specs.declared.expr.Expr.TheVariants as leaf
use Rattle.cat_scope.specs.declared.expr.Expr.TheViews as expr
use Rattle.cat_scope.specs.declared.expr.Expr.TheViews.{out-Expr}
use Rattle.cat_scope.specs.Names.{AllHave}
use Rattle.cat_scope.proofs.Exported.{Each, Within, induction}
use Rattle.cat_sound.proofs.NamedParts.{content_part, parts_of, bodies_of, values_of}

module _ (P : Expr → Type 0) (step : (e : Expr) (y : Expr-F Expr Arm FieldValue) → out-Expr e ≡ y
    → AllHave P (parts_of y) → P e) where
  of_all : (es : List Expr) → Each P es → AllHave P es
  of_all [] h = tt
  of_all (e ∷ es) h = (h.0, of_all es h.1)

  of_arms : (arms : List Arm) → Each (λ a. P a.body) arms → AllHave P (bodies_of arms)
  of_arms [] h = tt
  of_arms (a ∷ arms) h = (h.0, of_arms arms h.1)

  of_fields : (fs : List FieldValue) → Each (λ f. P f.value) fs → AllHave P (values_of fs)
  of_fields [] h = tt
  of_fields (f ∷ fs) h = (h.0, of_fields fs h.1)

  of_case : (content : Option Expr) → Within P content → AllHave P (content_part content)
  of_case None h = tt
  of_case (Some e) h = (h, tt)

  pub by_parts : (e : Expr) → P e
  by_parts = induction P
      (λ p l. step (leaf.Literal p l) (Expr-F.Literal p l) (expr.outs-Literal p l) tt)
      (λ p item. step (leaf.Item p item) (Expr-F.Item p item) (expr.outs-Item p item) tt)
      (λ p item k. step (leaf.Output p item k) (Expr-F.Output p item k) (expr.outs-Output p item k) tt)
      (λ p k. step (leaf.Local p k) (Expr-F.Local p k) (expr.outs-Local p k) tt)
      (λ p e k he. step (expr.Field p e k) (Expr-F.Field p e k) (expr.outs-Field p e k) (he, tt))
      (λ p o e he. step (expr.Unary p o e) (Expr-F.Unary p o e) (expr.outs-Unary p o e) (he, tt))
      (λ p o q a b ha hb. step (expr.Binary p o q a b) (Expr-F.Binary p o q a b) (expr.outs-Binary p o q a b)
      (ha, (hb, tt)))
      (λ p a b ha hb. step (expr.And p a b) (Expr-F.And p a b) (expr.outs-And p a b) (ha, (hb, tt)))
      (λ p a b ha hb. step (expr.Or p a b) (Expr-F.Or p a b) (expr.outs-Or p a b) (ha, (hb, tt)))
      (λ p c a b hc ha hb. step (expr.If p c a b) (Expr-F.If p c a b) (expr.outs-If p c a b) (hc, (ha, (hb, tt))))
      (λ p e arms he each. step (expr.Match p e arms) (Expr-F.Match p e arms) (expr.outs-Match p e arms)
      (he, of_arms arms each))
      (λ p e n k he. step (expr.IsCase p e n k) (Expr-F.IsCase p e n k) (expr.outs-IsCase p e n k) (he, tt))
      (λ p n k content h. step (expr.Case p n k content) (Expr-F.Case p n k content) (expr.outs-Case p n k content)
      (of_case content h))
      (λ p n fields h. step (expr.Structure p n fields) (Expr-F.Structure p n fields) (expr.outs-Structure p n fields)
      (of_fields fields h))
      (λ p es h. step (expr.List p es) (Expr-F.List p es) (expr.outs-List p es) (of_all es h))
      (λ p l test hl htest. step (expr.ForAll p l test) (Expr-F.ForAll p l test) (expr.outs-ForAll p l test)
      (hl, (htest, tt)))
      (λ p l test hl htest. step (expr.Exists p l test) (Expr-F.Exists p l test) (expr.outs-Exists p l test)
      (hl, (htest, tt)))
      (λ p l e hl he. step (expr.Map p l e) (Expr-F.Map p l e) (expr.outs-Map p l e) (hl, (he, tt)))
      (λ p l test hl htest. step (expr.Filter p l test) (Expr-F.Filter p l test) (expr.outs-Filter p l test)
      (hl, (htest, tt)))
      (λ p l start e hl hstart he. step (expr.Combine p l start e) (Expr-F.Combine p l start e)
      (expr.outs-Combine p l start e) (hl, (hstart, (he, tt))))
      (λ p q l e hl he. step (expr.Contains p q l e) (Expr-F.Contains p q l e) (expr.outs-Contains p q l e)
      (hl, (he, tt)))
      (λ p l hl. step (expr.Length p l) (Expr-F.Length p l) (expr.outs-Length p l) (hl, tt))
      (λ p kind l hl. step (expr.Sum p kind l) (Expr-F.Sum p kind l) (expr.outs-Sum p kind l) (hl, tt))
      (λ p f es h. step (expr.Call p f es) (Expr-F.Call p f es) (expr.outs-Call p f es) (of_all es h))
      (λ p s fields k h. step (expr.ScopeCall p s fields k) (Expr-F.ScopeCall p s fields k)
      (expr.outs-ScopeCall p s fields k) (of_fields fields h))
