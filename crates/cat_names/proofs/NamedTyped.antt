-- What a typed expression names is there: its items, and the scopes that it calls.
use Rattle.cat_scope.proofs.Exported.{all_append}
use Rattle.std.proofs.Common.{◌≡◌, ◌<◌, ℕ, List, [], ◌∷◌, ◌++◌, length, map, Option, Some, None, slice_get, refl, sym}
use Rattle.std.proofs.Common.{ap, ◌∙◌, subst}
use Rattle.cat_value.specs.declared.ty.Ty.{Ty}
use Rattle.cat_value.specs.declared.declaration.ItemDecl.{ItemDecl}
use Rattle.cat_value.specs.declared.declaration.Scope.{Scope}
use Rattle.cat_value.specs.declared.decls.Decls.{Decls}
use Rattle.cat_value.proofs.Exported.{within}
use Rattle.cat_scope.specs.declared.expr.Expr.{Expr}
use Rattle.cat_scope.specs.declared.expr.Expr.TheVariants as leaf
use Rattle.cat_scope.specs.declared.expr.Expr.TheViews as expr
use Rattle.cat_scope.specs.declared.expr.Expr.TheOpen.{Expr-F}
use Rattle.cat_scope.specs.declared.expr.Expr.TheFolds.{map-Expr}
use Rattle.cat_scope.specs.declared.expr.Arm.{Arm}
use Rattle.cat_scope.specs.declared.expr.FieldValue.{FieldValue}
use Rattle.cat_scope.specs.Names.{Names, AllHave, items_in, output_at}
use Rattle.cat_value.specs.Inputs.{outputs_in}
use Rattle.cat_scope.specs.Mentions.{own_item, own_scope, named_by, items_named, scopes_named, joined}
use Rattle.cat_scope.specs.HasType.{HasType, AllHaveType, EachHasType, FieldsHaveType, ArmsHaveType}
use Rattle.cat_scope.specs.HasType as typed
use Rattle.cat_scope.proofs.Exported.{Own, of_form, names_by_level, names_in_field, names_in_field_is, names_in_arm}
use Rattle.cat_scope.proofs.Exported.{names_in_arm_is}

-- ---- numbers of lists

-- those of the values of fields, and of the bodies of arms
abbrev pub by_values : Own → List FieldValue → List ℕ
by_values own [] = []
by_values own (f ∷ fs) = named_by own f.value ++ by_values own fs

abbrev pub by_bodies : Own → List Arm → List ℕ
by_bodies own [] = []
by_bodies own (a ∷ arms) = named_by own a.body ++ by_bodies own arms

pub values_are : (own : Own) (fs : List FieldValue) → joined (map (names_in_field own) fs) ≡ by_values own fs
values_are own [] = refl
values_are own (f ∷ fs) = ap (λ ns. ns ++ joined (map (names_in_field own) fs)) (names_in_field_is own f)
    ∙ ap (λ ns. named_by own f.value ++ ns) (values_are own fs)

pub bodies_are : (own : Own) (arms : List Arm) → joined (map (names_in_arm own) arms) ≡ by_bodies own arms
bodies_are own [] = refl
bodies_are own (a ∷ arms) = ap (λ ns. ns ++ joined (map (names_in_arm own) arms)) (names_in_arm_is own a)
    ∙ ap (λ ns. named_by own a.body ++ ns) (bodies_are own arms)

scope_there : (ds : Decls) (s k : ℕ) (o : ItemDecl) → output_at ds s k ≡ Some o → s < length ds.scopes
scope_there ds s k o h = by (slice_get ds.scopes s) refl h
  where
    by : (x : Option Scope) → slice_get ds.scopes s ≡ x → slice_get (outputs_in (items_in x)) k ≡ Some o
        → s < length ds.scopes
    by None e g = cc g
    by (Some scope) e g = within ds.scopes s scope e

module _ (ns : Names) where
  abbrev IsItem_ : ℕ → Type 0
  IsItem_ i = i < length ns.items

  abbrev IsScope_ : ℕ → Type 0
  IsScope_ s = s < length ns.decls.scopes

  -- numbers of items, and numbers of scopes
  abbrev Both : List ℕ → List ℕ → Type 0
  Both items scopes = AllHave IsItem_ items × AllHave IsScope_ scopes

  -- what an expression names is there
  abbrev pub Named : Expr → Type 0
  Named e = Both (items_named e) (scopes_named e)

  join : (xs ys us vs : List ℕ) → Both xs us → Both ys vs → Both (xs ++ ys) (us ++ vs)
  join xs ys us vs h i = (all_append IsItem_ xs ys h.0 i.0, all_append IsScope_ us vs h.1 i.1)

  two : (a b : Expr) → Named a → Named b → Both (items_named a ++ items_named b) (scopes_named a ++ scopes_named b)
  two a b h i = join (items_named a) (items_named b) (scopes_named a) (scopes_named b) h i

  three : (a b c : Expr) → Named a → Named b → Named c
      → Both (items_named a ++ items_named b ++ items_named c) (scopes_named a ++ scopes_named b ++ scopes_named c)
  three a b c h i j = join (items_named a ++ items_named b) (items_named c) (scopes_named a ++ scopes_named b)
      (scopes_named c) (two a b h i) j

  by_fields : (fs : List FieldValue) → Both (by_values own_item fs) (by_values own_scope fs)
      → Both (joined (map (names_in_field own_item) fs)) (joined (map (names_in_field own_scope) fs))
  by_fields fs h = (
    subst (AllHave IsItem_) (sym (values_are own_item fs)) h.0,
    subst (AllHave IsScope_) (sym (values_are own_scope fs)) h.1,
  )

  by_arms : (arms : List Arm) → Both (by_bodies own_item arms) (by_bodies own_scope arms)
      → Both (joined (map (names_in_arm own_item) arms)) (joined (map (names_in_arm own_scope) arms))
  by_arms arms h = (
    subst (AllHave IsItem_) (sym (bodies_are own_item arms)) h.0,
    subst (AllHave IsScope_) (sym (bodies_are own_scope arms)) h.1,
  )

  -- the numbers that a form has itself, and those that its parts have
  abbrev at_level : Own → Expr-F Expr Arm FieldValue → List ℕ
  at_level own y = of_form own
      (map-Expr Expr Arm FieldValue (List ℕ) (List ℕ) (List ℕ) (named_by own) (names_in_arm own) (names_in_field own) y)

  by_level : (e : Expr) (y : Expr-F Expr Arm FieldValue) → expr.out-Expr e ≡ y
      → Both (at_level own_item y) (at_level own_scope y) → Named e
  by_level e y is h = (
    subst (AllHave IsItem_) (sym (names_by_level own_item e ∙ ap (at_level own_item) is)) h.0,
    subst (AllHave IsScope_) (sym (names_by_level own_scope e ∙ ap (at_level own_scope) is)) h.1,
  )

mutual
  pub named : {ns : Names} {ls : List Ty} {e : Expr} {t : Ty} → HasType ns ls e t → Named ns e
  named {ns} (typed.literal {p = p} {l = l} is) = by_level ns (leaf.Literal p l) _ (expr.outs-Literal p l) (tt, tt)
  named {ns} (typed.item {p = p} {i = i} is) =
      by_level ns (leaf.Item p i) _ (expr.outs-Item p i) ((within ns.items i is.0 is.1, tt), tt)
  named {ns} (typed.output {p = p} {i = i} {k = k} is) =
      by_level ns (leaf.Output p i k) _ (expr.outs-Output p i k) ((within ns.items i is.called is.called_is, tt), tt)
  named {ns} (typed.local {p = p} {k = k} is) = by_level ns (leaf.Local p k) _ (expr.outs-Local p k) (tt, tt)
  named {ns} (typed.field {p = p} {e = e} {k = k} n h is) =
      by_level ns (expr.Field p e k) _ (expr.outs-Field p e k) (named h)
  named {ns} (typed.unary {p = p} {o = o} {e = e} h) =
      by_level ns (expr.Unary p o e) _ (expr.outs-Unary p o e) (named h)
  named {ns} (typed.binary {p = p} {q = q} {o = o} {a = a} {b = b} r is h g) =
      by_level ns (expr.Binary p o q a b) _ (expr.outs-Binary p o q a b) (two ns a b (named h) (named g))
  named {ns} (typed.both {p = p} {a = a} {b = b} h g) =
      by_level ns (expr.And p a b) _ (expr.outs-And p a b) (two ns a b (named h) (named g))
  named {ns} (typed.any {p = p} {a = a} {b = b} h g) =
      by_level ns (expr.Or p a b) _ (expr.outs-Or p a b) (two ns a b (named h) (named g))
  named {ns} (typed.choice {p = p} {c = c} {a = a} {b = b} h g i) =
      by_level ns (expr.If p c a b) _ (expr.outs-If p c a b) (three ns c a b (named h) (named g) (named i))
  named {ns} (typed.matching {p = p} {e = e} {arms = arms} n h each whole) =
      by_level ns (expr.Match p e arms) _ (expr.outs-Match p e arms)
      (join ns (items_named e) _ (scopes_named e) _ (named h) (by_arms ns arms (arms_named each)))
  named {ns} (typed.is_case {p = p} {e = e} {n = n} {k = k} h is) =
      by_level ns (expr.IsCase p e n k) _ (expr.outs-IsCase p e n k) (named h)
  named {ns} (typed.case_alone {p = p} {n = n} {k = k} is) =
      by_level ns (expr.Case p n k None) _ (expr.outs-Case p n k None) (tt, tt)
  named {ns} (typed.case_with {p = p} {n = n} {k = k} {e = e} t is h) =
      by_level ns (expr.Case p n k (Some e)) _ (expr.outs-Case p n k (Some e)) (named h)
  named {ns} (typed.structure {p = p} {n = n} {fs = fs} h is) =
      by_level ns (expr.Structure p n fs) _ (expr.outs-Structure p n fs) (by_fields ns fs (fields_named h))
  named {ns} (typed.list {p = p} {es = es} declared low few h) =
      by_level ns (expr.List p es) _ (expr.outs-List p es) (all_named h)
  named {ns} (typed.for_all {p = p} {l = l} {test = test} t h g) =
      by_level ns (expr.ForAll p l test) _ (expr.outs-ForAll p l test) (two ns l test (named h) (named g))
  named {ns} (typed.exists {p = p} {l = l} {test = test} t h g) =
      by_level ns (expr.Exists p l test) _ (expr.outs-Exists p l test) (two ns l test (named h) (named g))
  named {ns} (typed.map_each {p = p} {l = l} {e = e} t h g declared low) =
      by_level ns (expr.Map p l e) _ (expr.outs-Map p l e) (two ns l e (named h) (named g))
  named {ns} (typed.filter {p = p} {l = l} {test = test} t h g) =
      by_level ns (expr.Filter p l test) _ (expr.outs-Filter p l test) (two ns l test (named h) (named g))
  named {ns} (typed.combine {p = p} {l = l} {start = start} {e = e} t h g i) =
      by_level ns (expr.Combine p l start e) _ (expr.outs-Combine p l start e)
      (three ns l start e (named h) (named g) (named i))
  named {ns} (typed.contains {p = p} {q = q} {l = l} {e = e} t h g is) =
      by_level ns (expr.Contains p q l e) _ (expr.outs-Contains p q l e) (two ns l e (named h) (named g))
  named {ns} (typed.number_of {p = p} {l = l} t h) =
      by_level ns (expr.Length p l) _ (expr.outs-Length p l) (named h)
  named {ns} (typed.sum {p = p} {k = k} {l = l} h) =
      by_level ns (expr.Sum p k l) _ (expr.outs-Sum p k l) (named h)
  named {ns} (typed.call {p = p} {f = f} {es = es} params is h) =
      by_level ns (expr.Call p f es) _ (expr.outs-Call p f es)
      (join ns (f ∷ []) _ [] _ ((within ns.items f is.decl is.decl_is, tt), tt) (each_named h))
  named {ns} (typed.scope_call {p = p} {s = s} {k = k} {fs = fs} h there is) =
      by_level ns (expr.ScopeCall p s fs k) _ (expr.outs-ScopeCall p s fs k)
      (join ns [] _ (s ∷ []) _ (tt, (scope_there ns.decls s k is.0 is.1, tt)) (by_fields ns fs (fields_named h)))

  all_named : {ns : Names} {ls : List Ty} {es : List Expr} {t : Ty} → AllHaveType ns ls es t
      → Both ns (joined (map items_named es)) (joined (map scopes_named es))
  all_named typed.all_none = (tt, tt)
  all_named {ns} (typed.all_more {e = e} {es = es} h more) =
      join ns (items_named e) _ (scopes_named e) _ (named h) (all_named more)

  each_named : {ns : Names} {ls : List Ty} {es : List Expr} {ts : List Ty} → EachHasType ns ls es ts
      → Both ns (joined (map items_named es)) (joined (map scopes_named es))
  each_named typed.each_none = (tt, tt)
  each_named {ns} (typed.each_more {e = e} {es = es} h more) =
      join ns (items_named e) _ (scopes_named e) _ (named h) (each_named more)

  fields_named : {ns : Names} {ls : List Ty} {ts : ℕ → Option Ty} {fs : List FieldValue} → FieldsHaveType ns ls ts fs
      → Both ns (by_values own_item fs) (by_values own_scope fs)
  fields_named typed.fields_none = (tt, tt)
  fields_named {ns} (typed.fields_more {f = f} {fs = fs} t is h more) =
      join ns (items_named f.value) _ (scopes_named f.value) _ (named h) (fields_named more)

  arms_named : {ns : Names} {ls : List Ty} {n : ℕ} {arms : List Arm} {t : Ty} → ArmsHaveType ns ls n arms t
      → Both ns (by_bodies own_item arms) (by_bodies own_scope arms)
  arms_named typed.arms_none = (tt, tt)
  arms_named {ns} (typed.arms_more {a = a} {arms = arms} inside is h more) =
      join ns (items_named a.body) _ (scopes_named a.body) _ (named h) (arms_named more)
