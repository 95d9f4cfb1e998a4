-- A typed expression has typed parts, by its form.
use Rattle.std.proofs.Common.{◌≡◌, List, None, Some, refl, sym, subst}
use Rattle.cat_value.specs.declared.ty.Ty.{Ty}
use Rattle.cat_scope.specs.declared.expr.Expr.{Expr}
use Rattle.cat_scope.specs.declared.expr.Arm.{Arm}
use Rattle.cat_scope.specs.declared.expr.FieldValue.{FieldValue}
use Rattle.cat_scope.specs.declared.expr.Expr.TheOpen.{Expr-F}
use Rattle.cat_scope.specs.declared.expr.Expr.TheViews as expr
use Rattle.cat_scope.specs.declared.expr.Expr.TheViews.{out-Expr}
use Rattle.cat_scope.specs.Names.{Names}
use Rattle.cat_scope.specs.HasType.{HasType}
use Rattle.cat_scope.specs.HasType as typed
use Rattle.cat_sound.specs.Parts.{PartsTyped}

seen : (ns : Names) (ls : List Ty) (t : Ty) (e : Expr) (y : Expr-F Expr Arm FieldValue) → out-Expr e ≡ y
    → PartsTyped ns ls y t → PartsTyped ns ls (out-Expr e) t
seen ns ls t e y is h = subst (λ x. PartsTyped ns ls x t) (sym is) h

pub parts_typed : (ns : Names) (ls : List Ty) (e : Expr) (t : Ty) → HasType ns ls e t → PartsTyped ns ls (out-Expr e) t
parts_typed ns ls e_ t_ (typed.literal {p = p} {l = l} is) =
    seen ns ls _ _ (Expr-F.Literal p l) (expr.outs-Literal p l) (is, refl)
parts_typed ns ls e_ t_ (typed.item {p = p} {i = i} {t = t} is) =
    seen ns ls _ _ (Expr-F.Item p i) (expr.outs-Item p i) is
parts_typed ns ls e_ t_ (typed.output {p = p} {i = i} {k = k} {t = t} is) =
    seen ns ls _ _ (Expr-F.Output p i k) (expr.outs-Output p i k) is
parts_typed ns ls e_ t_ (typed.local {p = p} {k = k} {t = t} is) =
    seen ns ls _ _ (Expr-F.Local p k) (expr.outs-Local p k) is
parts_typed ns ls e_ t_ (typed.field {p = p} {e = e} {k = k} {t = t} n h is) =
    seen ns ls _ _ (Expr-F.Field p e k) (expr.outs-Field p e k) (n, h, is)
parts_typed ns ls e_ t_ (typed.unary {p = p} {o = o} {e = e} h) =
    seen ns ls _ _ (Expr-F.Unary p o e) (expr.outs-Unary p o e) (h, refl)
parts_typed ns ls e_ t_ (typed.binary {p = p} {q = q} {o = o} {a = a} {b = b} r is h g) =
    seen ns ls _ _ (Expr-F.Binary p o q a b) (expr.outs-Binary p o q a b) (r, is, h, g, refl)
parts_typed ns ls e_ t_ (typed.both {p = p} {a = a} {b = b} h g) =
    seen ns ls _ _ (Expr-F.And p a b) (expr.outs-And p a b) (h, g, refl)
parts_typed ns ls e_ t_ (typed.any {p = p} {a = a} {b = b} h g) =
    seen ns ls _ _ (Expr-F.Or p a b) (expr.outs-Or p a b) (h, g, refl)
parts_typed ns ls e_ t_ (typed.choice {p = p} {c = c} {a = a} {b = b} {t = t} h g i) =
    seen ns ls _ _ (Expr-F.If p c a b) (expr.outs-If p c a b) (h, g, i)
parts_typed ns ls e_ t_ (typed.matching {p = p} {e = e} {arms = arms} {t = t} n h each whole) =
    seen ns ls _ _ (Expr-F.Match p e arms) (expr.outs-Match p e arms) (n, h, each, whole)
parts_typed ns ls e_ t_ (typed.is_case {p = p} {e = e} {n = n} {k = k} h is) =
    seen ns ls _ _ (Expr-F.IsCase p e n k) (expr.outs-IsCase p e n k) (h, is, refl)
parts_typed ns ls e_ t_ (typed.case_alone {p = p} {n = n} {k = k} is) =
    seen ns ls _ _ (Expr-F.Case p n k None) (expr.outs-Case p n k None) (is, refl)
parts_typed ns ls e_ t_ (typed.case_with {p = p} {n = n} {k = k} {e = e} u is h) =
    seen ns ls _ _ (Expr-F.Case p n k (Some e)) (expr.outs-Case p n k (Some e)) (u, is, h, refl)
parts_typed ns ls e_ t_ (typed.structure {p = p} {n = n} {fs = fs} h there) =
    seen ns ls _ _ (Expr-F.Structure p n fs) (expr.outs-Structure p n fs) (h, there, refl)
parts_typed ns ls e_ t_ (typed.list {p = p} {es = es} {t = u} declared low few h) =
    seen ns ls _ _ (Expr-F.List p es) (expr.outs-List p es) (u, declared, low, few, h, refl)
parts_typed ns ls e_ t_ (typed.for_all {p = p} {l = l} {test = test} u h g) =
    seen ns ls _ _ (Expr-F.ForAll p l test) (expr.outs-ForAll p l test) (u, h, g, refl)
parts_typed ns ls e_ t_ (typed.exists {p = p} {l = l} {test = test} u h g) =
    seen ns ls _ _ (Expr-F.Exists p l test) (expr.outs-Exists p l test) (u, h, g, refl)
parts_typed ns ls e_ t_ (typed.map_each {p = p} {l = l} {e = e} {u = w} u h g declared low) =
    seen ns ls _ _ (Expr-F.Map p l e) (expr.outs-Map p l e) (u, w, h, g, declared, low, refl)
parts_typed ns ls e_ t_ (typed.filter {p = p} {l = l} {test = test} u h g) =
    seen ns ls _ _ (Expr-F.Filter p l test) (expr.outs-Filter p l test) (u, h, g, refl)
parts_typed ns ls e_ t_ (typed.combine {p = p} {l = l} {start = start} {e = e} {u = t} u h g i) =
    seen ns ls _ _ (Expr-F.Combine p l start e) (expr.outs-Combine p l start e) (u, h, g, i)
parts_typed ns ls e_ t_ (typed.contains {p = p} {q = q} {l = l} {e = e} u h g is) =
    seen ns ls _ _ (Expr-F.Contains p q l e) (expr.outs-Contains p q l e) (u, h, g, is, refl)
parts_typed ns ls e_ t_ (typed.number_of {p = p} {l = l} u h) =
    seen ns ls _ _ (Expr-F.Length p l) (expr.outs-Length p l) (u, h, refl)
parts_typed ns ls e_ t_ (typed.sum {p = p} {k = k} {l = l} h) =
    seen ns ls _ _ (Expr-F.Sum p k l) (expr.outs-Sum p k l) (h, refl)
parts_typed ns ls e_ t_ (typed.call {p = p} {f = f} {es = es} {t = t} params is h) =
    seen ns ls _ _ (Expr-F.Call p f es) (expr.outs-Call p f es) (params, is, h)
parts_typed ns ls e_ t_ (typed.scope_call {p = p} {s = s} {k = k} {fs = fs} {t = t} h there is) =
    seen ns ls _ _ (Expr-F.ScopeCall p s fs k) (expr.outs-ScopeCall p s fs k) (h, there, is)
