-- A typed expression has one type, where its empty lists stand where a type is expected.
use Rattle.std.proofs.Common.{◌≡◌, ℕ, Bool, true, false, ◌&&◌, IsTrue, List, [], ◌∷◌, ◌++◌, map, Option, None}
use Rattle.std.proofs.Common.{Some, refl, sym, ap, ◌∙◌, subst, true≢false}
use Rattle.std.proofs.Math.Logic.{⊎_elim}
use Rattle.cat_value.specs.declared.ty.Ty.{Ty}
use Rattle.cat_value.specs.declared.ty.Ty.TheOpen.{Ty-F}
use Rattle.cat_value.specs.declared.ty.Ty.TheVariants as flat
use Rattle.cat_value.specs.declared.ty.Ty.TheViews as ty
use Rattle.cat_value.specs.declared.declaration.ItemDecl.{ItemDecl}
use Rattle.cat_value.specs.declared.declaration.Kind.{Kind}
use Rattle.cat_value.specs.declared.declaration.Kind.TheVariants as kind
use Rattle.cat_value.specs.declared.decls.Decls.{Decls}
use Rattle.cat_scope.specs.declared.operators.BinaryOp.{BinaryOp}
use Rattle.cat_scope.specs.declared.operators.BinaryOp.TheVariants as binary
use Rattle.cat_scope.specs.declared.expr.ArmPattern.{ArmPattern}
use Rattle.cat_scope.specs.declared.expr.ArmPattern.TheVariants as pattern
use Rattle.cat_scope.specs.declared.expr.Arm.{Arm}
use Rattle.cat_scope.specs.declared.expr.FieldValue.{FieldValue}
use Rattle.cat_scope.specs.declared.expr.Expr.{Expr}
use Rattle.cat_scope.specs.declared.expr.Expr.TheOpen.{Expr-F}
use Rattle.cat_scope.specs.declared.expr.Expr.TheViews as expr
use Rattle.cat_scope.specs.Names.{Names, AllHave, IsOneOf, is_plain, output_at}
use Rattle.cat_scope.specs.Signatures.{Signature, signatures_of}
use Rattle.cat_scope.specs.Fitting.{ArmLocals, field_type}
use Rattle.cat_scope.specs.Naming.{IsItem, IsCalledOutput, IsFunction, IsOutput}
use Rattle.cat_scope.specs.HasType.{HasType, AllHaveType, ArmsHaveType}
use Rattle.cat_scope.specs.HasType as typed
use Rattle.cat_scope.specs.Expected.{lists_placed, row_placed}
use Rattle.cat_scope.proofs.Exported.{arms_placed, placed_Field, placed_If, placed_Match, placed_List, placed_Map}
use Rattle.cat_scope.proofs.Exported.{placed_Filter, placed_Combine}
use Rattle.cat_sound.specs.Parts.{PartsTyped}
use Rattle.cat_sound.proofs.PartTypes.{parts_typed}
use Rattle.cat_sound.proofs.FormTypes.{same_some}

-- the number and the element of a type
abbrev number_in : Ty-F Ty → ℕ
number_in (Ty-F.Structure n) = n
number_in (Ty-F.Enumeration n) = n
number_in _ = 0

abbrev element_in : Ty → Ty-F Ty → Ty
element_in other (Ty-F.List t) = t
element_in other _ = other

same_structure : (n m : ℕ) → flat.Structure n ≡ flat.Structure m → n ≡ m
same_structure n m e =
    sym (ap number_in (ty.outs-Structure n)) ∙ ap (λ (t : Ty). number_in (ty.out-Ty t)) e
    ∙ ap number_in (ty.outs-Structure m)

same_enumeration : (n m : ℕ) → flat.Enumeration n ≡ flat.Enumeration m → n ≡ m
same_enumeration n m e =
    sym (ap number_in (ty.outs-Enumeration n)) ∙ ap (λ (t : Ty). number_in (ty.out-Ty t)) e
    ∙ ap number_in (ty.outs-Enumeration m)

same_element : (t u : Ty) → ty.List t ≡ ty.List u → t ≡ u
same_element t u e =
    sym (ap (element_in t) (ty.outs-List t)) ∙ ap (λ (v : Ty). element_in t (ty.out-Ty v)) e
    ∙ ap (element_in t) (ty.outs-List u)

abbrev called_in : Kind → ℕ
called_in (kind.Called n) = n
called_in _ = 0

both : (a b : Bool) → (a && b) ≡ true → (a ≡ true) × (b ≡ true)
both true true e = (refl, refl)
both true false e = absurd (true≢false (sym e))
both false b e = absurd (true≢false (sym e))

-- all rows of an operator have one result
abbrev pub first_result : List Signature → Ty
first_result [] = flat.Boolean
first_result (r ∷ rows) = r.result

abbrev GiveFirst : List Signature → Type 0
GiveFirst rows = AllHave (λ (r : Signature). r.result ≡ first_result rows) rows

same_results : (o : BinaryOp) → GiveFirst (signatures_of o)
same_results binary.Less = (refl, (refl, (refl, (refl, (refl, tt)))))
same_results binary.AtMost = (refl, (refl, (refl, (refl, (refl, tt)))))
same_results binary.Greater = (refl, (refl, (refl, (refl, (refl, tt)))))
same_results binary.AtLeast = (refl, (refl, (refl, (refl, (refl, tt)))))
same_results binary.Equal = (refl, (refl, (refl, (refl, (refl, (refl, tt))))))
same_results binary.Unequal = (refl, (refl, (refl, (refl, (refl, (refl, tt))))))
same_results _ = (refl, tt)

result_in : (x : Ty) (rows : List Signature) → AllHave (λ (r : Signature). r.result ≡ x) rows → (r : Signature)
    → IsOneOf r rows
    → r.result ≡ x
result_in x [] all r among = elim among [ ]
result_in x (s ∷ rows) all r among =
    ⊎_elim (λ same. ap (λ (q : Signature). q.result) same ∙ all.0) (λ more. result_in x rows all.1 r more) among

pub first_is : (o : BinaryOp) (r : Signature) → IsOneOf r (signatures_of o) → r.result ≡ first_result (signatures_of o)
first_is o r is = result_in (first_result (signatures_of o)) (signatures_of o) (same_results o) r is

one_result : (o : BinaryOp) (r s : Signature) → IsOneOf r (signatures_of o) → IsOneOf s (signatures_of o)
    → r.result ≡ s.result
one_result o r s is are = first_is o r is ∙ sym (first_is o s are)

-- what is named has one type
one_item : (passes : ItemDecl → Bool) (items : List ItemDecl) (i : ℕ) (t u : Ty) → IsItem passes items i t
    → IsItem passes items i u → t ≡ u
one_item passes items i t u is are =
    is.3 ∙ ap (λ (d : ItemDecl). d.ty) (same_some is.0 are.0 (sym is.1 ∙ are.1)) ∙ sym are.3

one_output_of : (o p : Option ItemDecl) (d e : ItemDecl) (t u : Ty) → o ≡ p → o ≡ Some d → p ≡ Some e → t ≡ d.ty
    → u ≡ e.ty → t ≡ u
one_output_of o p d e t u same is are h g =
    h ∙ ap (λ (x : ItemDecl). x.ty) (same_some d e (sym is ∙ same ∙ are)) ∙ sym g

one_called : (ns : Names) (i k : ℕ) (t u : Ty) → IsCalledOutput ns i k t → IsCalledOutput ns i k u → t ≡ u
one_called ns i k t u is are =
    let called : is.called ≡ are.called = same_some is.called are.called (sym is.called_is ∙ are.called_is) in
    let kind_is : kind.Called is.scope ≡ kind.Called are.scope =
    sym is.kind_is ∙ ap (λ (d : ItemDecl). d.kind) called ∙ are.kind_is in
    let scope : output_at ns.decls is.scope k ≡ output_at ns.decls are.scope k =
    ap (λ s. output_at ns.decls s k) (ap called_in kind_is) in
    one_output_of _ _ is.output are.output t u scope is.output_is are.output_is is.ty_is are.ty_is

one_function : (ns : Names) (f : ℕ) (ps qs : List Ty) (t u : Ty) → IsFunction ns f ps t → IsFunction ns f qs u → t ≡ u
one_function ns f ps qs t u is are =
    is.ty_is ∙ ap (λ (d : ItemDecl). d.ty) (same_some is.decl are.decl (sym is.decl_is ∙ are.decl_is)) ∙ sym are.ty_is

one_output : (ds : Decls) (s k : ℕ) (t u : Ty) → IsOutput ds s k t → IsOutput ds s k u → t ≡ u
one_output ds s k t u is are =
    one_output_of (output_at ds s k) (output_at ds s k) is.0 are.0 t u refl is.1 are.1 is.2 are.2

-- an arm has one list of local names
one_inside : (ds : Decls) (n : ℕ) (p : ArmPattern) (ls inside other : List Ty) → ArmLocals ds n p ls inside
    → ArmLocals ds n p ls other → inside ≡ other
one_inside ds n pattern.Anything ls inside other is are = is ∙ sym are
one_inside ds n (pattern.Case k false) ls inside other is are = is.1 ∙ sym are.1
one_inside ds n (pattern.Case k true) ls inside other is are =
    is.2 ∙ ap (λ (t : Ty). ls ++ t ∷ []) (same_some is.0 are.0 (same_some (Some is.0) (Some are.0) (sym is.1 ∙ are.1)))
    ∙ sym are.2

-- the parts of an expression of that form
parts_of : (ns : Names) (ls : List Ty) (e : Expr) (y : Expr-F Expr Arm FieldValue) (u : Ty) → expr.out-Expr e ≡ y
    → HasType ns ls e u → PartsTyped ns ls y u
parts_of ns ls e y u is h = subst (λ x. PartsTyped ns ls x u) is (parts_typed ns ls e u h)

mutual
  one_type : {ns : Names} {ls : List Ty} {e : Expr} {t : Ty} (u : Ty) → HasType ns ls e t → HasType ns ls e u
      → lists_placed e false ≡ true → t ≡ u
  one_type {ns} {ls} u (typed.literal {p = p} {l = l} is) h placed =
      sym (parts_of ns ls _ (Expr-F.Literal p l) u (expr.outs-Literal p l) h).1
  one_type {ns} {ls} {t = t} u (typed.item {p = p} {i = i} is) h placed =
      one_item is_plain ns.items i t u is (parts_of ns ls _ (Expr-F.Item p i) u (expr.outs-Item p i) h)
  one_type {ns} {ls} {t = t} u (typed.output {p = p} {i = i} {k = k} is) h placed =
      one_called ns i k t u is (parts_of ns ls _ (Expr-F.Output p i k) u (expr.outs-Output p i k) h)
  one_type {ns} {ls} {t = t} u (typed.local {p = p} {k = k} is) h placed =
      same_some t u (sym is ∙ parts_of ns ls _ (Expr-F.Local p k) u (expr.outs-Local p k) h)
  one_type {ns} {ls} {t = t} u (typed.field {p = p} {e = e} {k = k} n g is) h placed =
      let s = parts_of ns ls _ (Expr-F.Field p e k) u (expr.outs-Field p e k) h in
      let same : n ≡ s.0 =
      same_structure n s.0
      (one_type (flat.Structure s.0) g s.1 (sym (ap (λ f. f false) (placed_Field p e k)) ∙ placed)) in
      same_some t u (sym is ∙ ap (λ m. field_type ns.decls m k) same ∙ s.2)
  one_type {ns} {ls} u (typed.unary {p = p} {o = o} {e = e} g) h placed =
      sym (parts_of ns ls _ (Expr-F.Unary p o e) u (expr.outs-Unary p o e) h).1
  one_type {ns} {ls} u (typed.binary {p = p} {q = q} {o = o} {a = a} {b = b} r is g i) h placed =
      let s = parts_of ns ls _ (Expr-F.Binary p o q a b) u (expr.outs-Binary p o q a b) h in
      one_result o r s.0 is s.1 ∙ sym s.4
  one_type {ns} {ls} u (typed.both {p = p} {a = a} {b = b} g i) h placed =
      sym (parts_of ns ls _ (Expr-F.And p a b) u (expr.outs-And p a b) h).2
  one_type {ns} {ls} u (typed.any {p = p} {a = a} {b = b} g i) h placed =
      sym (parts_of ns ls _ (Expr-F.Or p a b) u (expr.outs-Or p a b) h).2
  one_type {ns} {ls} u (typed.choice {p = p} {c = c} {a = a} {b = b} g i j) h placed =
      let s = parts_of ns ls _ (Expr-F.If p c a b) u (expr.outs-If p c a b) h in
      let signature =
      both (lists_placed c false) (row_placed (lists_placed a ∷ lists_placed b ∷ []) false)
      (sym (ap (λ f. f false) (placed_If p c a b)) ∙ placed) in
      one_type u i s.1 (both (lists_placed a false) _ signature.1).0
  one_type {ns} {ls} u (typed.matching {p = p} {e = e} {arms = arms} {t = t} n g each whole) h placed =
      let s = parts_of ns ls _ (Expr-F.Match p e arms) u (expr.outs-Match p e arms) h in
      let signature = both (lists_placed e false) (arms_placed arms false) (sym (placed_Match p e arms false) ∙ placed)
      in
      let same : n ≡ s.0 = same_enumeration n s.0 (one_type (flat.Enumeration s.0) g s.1 signature.0) in
      one_type_of_arms u each (subst (λ m. ArmsHaveType ns ls m arms u) (sym same) s.2) signature.1
  one_type {ns} {ls} u (typed.is_case {p = p} {e = e} {n = n} {k = k} g is) h placed =
      sym (parts_of ns ls _ (Expr-F.IsCase p e n k) u (expr.outs-IsCase p e n k) h).2
  one_type {ns} {ls} u (typed.case_alone {p = p} {n = n} {k = k} is) h placed =
      sym (parts_of ns ls _ (Expr-F.Case p n k None) u (expr.outs-Case p n k None) h).1
  one_type {ns} {ls} u (typed.case_with {p = p} {n = n} {k = k} {e = e} t is g) h placed =
      sym (parts_of ns ls _ (Expr-F.Case p n k (Some e)) u (expr.outs-Case p n k (Some e)) h).3
  one_type {ns} {ls} u (typed.structure {p = p} {n = n} {fs = fs} g there) h placed =
      sym (parts_of ns ls _ (Expr-F.Structure p n fs) u (expr.outs-Structure p n fs) h).2
  one_type {ns} {ls} u (typed.list {p = p} {es = es} {t = t} declared low few each) h placed =
      let s = parts_of ns ls _ (Expr-F.List p es) u (expr.outs-List p es) h in
      ap ty.List (one_type_of_elements s.0 each s.4 (sym (ap (λ f. f false) (placed_List p es)) ∙ placed)) ∙ sym s.5
  one_type {ns} {ls} u (typed.for_all {p = p} {l = l} {test = test} t g i) h placed =
      sym (parts_of ns ls _ (Expr-F.ForAll p l test) u (expr.outs-ForAll p l test) h).3
  one_type {ns} {ls} u (typed.exists {p = p} {l = l} {test = test} t g i) h placed =
      sym (parts_of ns ls _ (Expr-F.Exists p l test) u (expr.outs-Exists p l test) h).3
  one_type {ns} {ls} u (typed.map_each {p = p} {l = l} {e = e} {u = w} t g i declared low) h placed =
      let s = parts_of ns ls _ (Expr-F.Map p l e) u (expr.outs-Map p l e) h in
      let signature =
      both (lists_placed l false) (lists_placed e false) (sym (ap (λ f. f false) (placed_Map p l e)) ∙ placed) in
      let same : t ≡ s.0 = same_element t s.0 (one_type (ty.List s.0) g s.2 signature.0) in
      ap ty.List (one_type s.1 i (subst (λ (v : Ty). HasType ns (ls ++ v ∷ []) e s.1) (sym same) s.3) signature.1)
      ∙ sym s.6
  one_type {ns} {ls} u (typed.filter {p = p} {l = l} {test = test} t g i) h placed =
      let s = parts_of ns ls _ (Expr-F.Filter p l test) u (expr.outs-Filter p l test) h in
      let signature =
      both (lists_placed l false) (lists_placed test false)
      (sym (ap (λ f. f false) (placed_Filter p l test)) ∙ placed) in
      one_type (ty.List s.0) g s.1 signature.0 ∙ sym s.3
  one_type {ns} {ls} u (typed.combine {p = p} {l = l} {start = start} {e = e} t g i j) h placed =
      let s = parts_of ns ls _ (Expr-F.Combine p l start e) u (expr.outs-Combine p l start e) h in
      let signature =
      both (lists_placed l false && lists_placed start false) (lists_placed e true)
      (sym (ap (λ f. f false) (placed_Combine p l start e)) ∙ placed) in
      one_type u i s.2 (both (lists_placed l false) (lists_placed start false) signature.0).1
  one_type {ns} {ls} u (typed.contains {p = p} {q = q} {l = l} {e = e} t g i is) h placed =
      sym (parts_of ns ls _ (Expr-F.Contains p q l e) u (expr.outs-Contains p q l e) h).4
  one_type {ns} {ls} u (typed.number_of {p = p} {l = l} t g) h placed =
      sym (parts_of ns ls _ (Expr-F.Length p l) u (expr.outs-Length p l) h).2
  one_type {ns} {ls} u (typed.sum {p = p} {k = k} {l = l} g) h placed =
      sym (parts_of ns ls _ (Expr-F.Sum p k l) u (expr.outs-Sum p k l) h).1
  one_type {ns} {ls} {t = t} u (typed.call {p = p} {f = f} {es = es} params is g) h placed =
      let s = parts_of ns ls _ (Expr-F.Call p f es) u (expr.outs-Call p f es) h in
      one_function ns f params s.0 t u is s.1
  one_type {ns} {ls} {t = t} u (typed.scope_call {p = p} {s = s} {k = k} {fs = fs} g there is) h placed =
      one_output ns.decls s k t u is (parts_of ns ls _ (Expr-F.ScopeCall p s fs k) u (expr.outs-ScopeCall p s fs k) h).2

  one_type_of_elements : {ns : Names} {ls : List Ty} {es : List Expr} {t : Ty} (u : Ty) → AllHaveType ns ls es t
      → AllHaveType ns ls es u → row_placed (map lists_placed es) false ≡ true → t ≡ u
  one_type_of_elements u typed.all_none h placed = absurd (true≢false (sym placed))
  one_type_of_elements u (typed.all_more {e = e} g more) (typed.all_more h others) placed =
      one_type u g h (both (lists_placed e false) _ placed).0

  one_type_of_arms : {ns : Names} {ls : List Ty} {n : ℕ} {arms : List Arm} {t : Ty} (u : Ty)
      → ArmsHaveType ns ls n arms t → ArmsHaveType ns ls n arms u → arms_placed arms false ≡ true → t ≡ u
  one_type_of_arms u typed.arms_none h placed = absurd (true≢false (sym placed))
  one_type_of_arms {ns} {ls} {n} u (typed.arms_more {a = a} inside is g more) (typed.arms_more other are h _) placed =
      one_type u g
      (subst (λ (vs : List Ty). HasType ns vs a.body u)
      (sym (one_inside ns.decls n a.pattern ls inside other is are)) h)
      (both (lists_placed a.body false) _ placed).0

pub one_type_alone : (ns : Names) (ls : List Ty) (e : Expr) (t u : Ty) → HasType ns ls e t → HasType ns ls e u
    → IsTrue (lists_placed e false) → t ≡ u
one_type_alone ns ls e t u h g placed = one_type u h g placed
