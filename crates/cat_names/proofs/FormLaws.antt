-- Forms over lists, choices and matches have their types.
use Rattle.std.proofs.Common.{◌≡◌, ℕ, nat_eq, nat_le, IsTrue, is_some, List, [], ◌∷◌, ◌++◌, length, Option, Some, None}
use Rattle.std.proofs.Common.{Ok, refl, sym, ap, ◌∙◌, subst, arith}
use Rattle.cat_pos.specs.declared.pos.Pos.{Pos}
use Rattle.cat_value.specs.declared.ty.Ty.{Ty}
use Rattle.cat_value.specs.declared.ty.Ty.TheVariants as flat_ty
use Rattle.cat_value.specs.declared.ty.Ty.TheViews as ty
use Rattle.cat_value.specs.declared.decls.Decls.{Decls}
use Rattle.cat_value.specs.Typing.{is_type, most_elements}
use Rattle.cat_value.specs.Laws.{AreSound}
use Rattle.cat_tree.specs.declared.name.Name.{Name}
use Rattle.cat_tree.specs.declared.expression.Each as eaches
use Rattle.cat_tree.specs.declared.expression.Each.TheVariants as each
use Rattle.cat_tree.specs.declared.expression.Pattern.{Pattern}
use Rattle.cat_scope.specs.declared.expr.Expr.{Expr}
use Rattle.cat_scope.specs.declared.expr.Expr.TheViews as expr
use Rattle.cat_scope.specs.Names.{Names}
use Rattle.cat_scope.specs.Fitting.{has_case, is_low_type, are_complete}
use Rattle.cat_scope.specs.HasType.{HasType}
use Rattle.cat_scope.specs.HasType as typed
use Rattle.cat_scope.specs.Expected.{lists_placed}
use Rattle.cat_scope.proofs.Exported.{placed_If, placed_IsCase, placed_List, placed_ForAll, placed_Exists, placed_Map}
use Rattle.cat_scope.proofs.Exported.{placed_Filter, placed_Combine, placed_Match, Each}
use Rattle.cat_names.specs.declared.fault.Fault.TheVariants.{TypeMismatch}
use Rattle.cat_names.specs.declared.typed.Typed.{Typed}
use Rattle.cat_names.specs.declared.typed.Local.{Local}
use Rattle.cat_names.specs.declared.typed.Flat.TheVariants as flat
use Rattle.cat_names.specs.Found.{and_then, or_fault}
use Rattle.cat_names.specs.Types.{is_as_expected, same, element_of, expected_element, enumeration_of}
use Rattle.cat_names.specs.Lookup.{types_of}
use Rattle.cat_names.specs.Operations.{as_expected}
use Rattle.cat_names.specs.Forms.{if_of, test_of, each_of, bound}
use Rattle.cat_names.specs.Parts.{Meaning, elements_of, list_of, arms_of}
use Rattle.cat_names.specs.Compound.{branches_of, match_over, over_list, combine_over}
use Rattle.cat_names.specs.Naming.{names_in_scope}
use Rattle.cat_names.specs.TypedMeanings.{OnFound, AreDeclared, IsExpected, HasItsType, IsTyped}
use Rattle.cat_names.proofs.OnFound.{on_then, on_where, on_or}
use Rattle.cat_names.proofs.TypeEquations.{element_level}
use Rattle.cat_names.proofs.SameTypes.{same_is, element_is, enumeration_is}
use Rattle.cat_names.proofs.OperationLaws.{both_true, flat_declared}
use Rattle.cat_names.proofs.DeclaredTypes.{element_declared, list_declared}
use Rattle.cat_names.proofs.PartLaws.{Sound, RowStands, row_stands, of_type, types_join, declared_join}
use Rattle.cat_names.proofs.ArmLaws.{ArmsStand, arms_stand}

equal_numbers : (a b : ℕ) → IsTrue (nat_eq a b) → a ≡ b
equal_numbers a b h = grind (arith, h)

-- the types of bound names and of two more
types_join_two : (locals : List Local) (l m : Local) → types_of (locals ++ l ∷ m ∷ []) ≡ types_of locals
    ++ l.ty ∷ m.ty ∷ []
types_join_two [] l m = refl
types_join_two (k ∷ locals) l m = ap (λ ts. k.ty ∷ ts) (types_join_two locals l m)

declared_join_two : (ds : Decls) (locals : List Local) (l m : Local) → AreDeclared ds locals → IsTrue (is_type ds l.ty)
    → IsTrue (is_type ds m.ty) → AreDeclared ds (locals ++ l ∷ m ∷ [])
declared_join_two ds [] l m all h i = (h, (i, tt))
declared_join_two ds (k ∷ locals) l m all h i = (all.0, declared_join_two ds locals l m all.1 h i)

element_at : (t : Ty) → element_of (ty.List t) ≡ Some t
element_at t = rw (element_level (ty.List t), ty.outs-List t) refl

element_expected : (ds : Decls) (ex : Option Ty) → IsExpected ds ex → IsExpected ds (expected_element ex)
element_expected ds None h = tt
element_expected ds (Some u) h = by (element_of u) refl
  where
    by : (o : Option Ty) → element_of u ≡ o → IsExpected ds o
    by None is = tt
    by (Some t) is = element_declared ds t (subst (λ v. IsTrue (is_type ds v)) (element_is u t is) h)

module _ (ds : Decls) (sound : AreSound ds) (scope : ℕ) (ls : List Local) where
  abbrev ns : Names
  ns = names_in_scope ds scope

  abbrev Operand : Typed → Type 0
  Operand = IsTyped ns ls None

  as_type : (x : Typed) (t : Ty) → Operand x → x.ty ≡ t → HasType ns (types_of ls) x.expr t
  as_type x t h is = subst (λ u. HasType ns (types_of ls) x.expr u) is h.has.typed

  -- ---- choices

  abbrev pub BothBranches : Option Ty → Typed × Typed → Type 0
  BothBranches ex xs = IsTyped ns ls ex xs.0 × IsTyped ns ls (Some xs.0.ty) xs.1

  pub branches_have : (a b : Meaning) → Sound ds sound scope a → Sound ds sound scope b → (ex : Option Ty)
      → AreDeclared ds ls → IsExpected ds ex → OnFound (BothBranches ex) (branches_of a b ls ex)
  branches_have a b ha hb ex all h = on_then (IsTyped ns ls ex) (BothBranches ex) (a ls ex) _ (ha ls ex all h)
      (λ x hx. on_then (IsTyped ns ls (Some x.ty)) (BothBranches ex) (b ls (Some x.ty)) _
      (hb ls (Some x.ty) all hx.has.declared)
      (λ y hy. (hx, hy)))

  pub if_has : (p : Pos) (ex : Option Ty) (c : Typed) (xs : Typed × Typed) → Operand c → BothBranches ex xs
      → OnFound (IsTyped ns ls ex) (if_of p c xs)
  if_has p ex c xs hc hxs = on_where (IsTyped ns ls ex) (same flat_ty.Boolean c.ty) _ _ (λ is. record {
    has = record {
      typed = typed.choice (as_type c flat_ty.Boolean hc (sym (same_is flat_ty.Boolean c.ty is))) hxs.0.has.typed
          (subst (λ u. HasType ns (types_of ls) xs.1.expr u) (sym (same_is xs.0.ty xs.1.ty hxs.1.fit)) hxs.1.has.typed);
      placed = rw (placed_If p c.expr xs.0.expr xs.1.expr) (both_true _ _ hc.has.placed
          (both_true _ _ hxs.0.has.placed (both_true _ _ hxs.1.has.placed refl)));
      declared = hxs.0.has.declared;
    };
    fit = hxs.0.fit;
  })

  pub test_has : (p : Pos) (ex : Option Ty) (e : Typed) (k : ℕ × ℕ) → Operand e → IsTrue (has_case ds k.0 k.1)
      → OnFound (HasItsType ns ls ex) (test_of p e k)
  test_has p ex e k he there = on_then (λ n. enumeration_of e.ty ≡ Some n) (HasItsType ns ls ex)
      (or_fault (TypeMismatch p) (enumeration_of e.ty)) _ (on_or (TypeMismatch p) (enumeration_of e.ty))
      (λ n is. on_where (HasItsType ns ls ex) (nat_eq k.0 n) _ _ (λ same. record {
        typed = typed.is_case (as_type e (flat_ty.Enumeration n) he (enumeration_is e.ty n is))
            (subst (λ m. IsTrue (has_case ds m k.1)) (equal_numbers k.0 n same) there);
        placed = rw (placed_IsCase e.first e.expr n k.1) he.has.placed;
        declared = flat_declared ds flat.Boolean;
      }))

  pub match_has : {A : Type 0} (means : A → Pattern × Meaning) (p : Pos) (arms : List A)
      → Each (λ a. Sound ds sound scope ((means a).1)) arms → (ex : Option Ty) → AreDeclared ds ls → IsExpected ds ex
      → (e : Typed) → Operand e → OnFound (IsTyped ns ls ex) (match_over means ns p arms ls ex e)
  match_has means p arms each ex all h e he = on_then (λ n. enumeration_of e.ty ≡ Some n) (IsTyped ns ls ex)
      (or_fault (TypeMismatch p) (enumeration_of e.ty)) _ (on_or (TypeMismatch p) (enumeration_of e.ty))
      (λ n is. on_then (ArmsStand ds sound scope n ls ex) (IsTyped ns ls ex) (arms_of means ns p n arms ls ex) _
      (arms_stand ds sound scope means p n arms each ls ex all h)
      (λ x hx. on_where (IsTyped ns ls ex) (are_complete ds n x.0) _ _ (λ complete. record {
        has = record {
          typed = typed.matching n (as_type e (flat_ty.Enumeration n) he (enumeration_is e.ty n is)) hx.typed complete;
          placed = rw (placed_Match p e.expr x.0 (is_some ex)) (both_true _ _ he.has.placed hx.placed);
          declared = hx.declared;
        };
        fit = hx.fit;
      })))

  -- ---- lists

  record ListStands (ex : Option Ty) (x : Typed) : Type 0 where
    element : Ty
    ty_is : x.ty ≡ ty.List element
    typed : HasType ns (types_of ls) x.expr x.ty
    placed : IsTrue (lists_placed x.expr (is_some (expected_element ex)))
    declared : IsTrue (is_type ds x.ty)

  -- where a list has the expected type, a type is expected of its elements
  list_fits : (ex : Option Ty) (x : Typed) → ListStands ex x → IsTrue (is_as_expected ex x.ty) → HasItsType ns ls ex x
  list_fits None x h fit = record { typed = h.typed; placed = h.placed; declared = h.declared }
  list_fits (Some u) x h fit = record {
    typed = h.typed;
    declared = h.declared;
    placed = let is : element_of u ≡ Some h.element = ap element_of (same_is u x.ty fit ∙ h.ty_is)
        ∙ element_at h.element in
        subst (λ o. IsTrue (lists_placed x.expr (is_some o))) is h.placed;
  }

  list_stands : (p : Pos) (ex : Option Ty) (row : List Expr × Ty)
      → RowStands ds sound scope ls (is_some (expected_element ex)) row → OnFound (ListStands ex) (list_of ns p row)
  list_stands p ex row h = on_where (ListStands ex) (nat_le (length row.0) most_elements) _ _ (λ few.
      on_where (ListStands ex) (is_low_type ds (ty.List row.1)) _ _ (λ low. record {
        element = row.1;
        ty_is = refl;
        typed = typed.list h.declared low few h.typed;
        placed = rw (placed_List p row.0) h.placed;
        declared = list_declared ds row.1 h.declared;
      }))

  pub list_has : {A : Type 0} (means : A → Meaning) (p : Pos) (es : List A) → Each (λ e. Sound ds sound scope (means e))
      es
      → (ex : Option Ty) → AreDeclared ds ls → IsExpected ds ex
      → OnFound (IsTyped ns ls ex)
      (as_expected ex (and_then (elements_of means p es ls (expected_element ex)) (list_of ns p)))
  list_has means p es each ex all h = on_then (ListStands ex) (IsTyped ns ls ex) _ _
      (on_then (RowStands ds sound scope ls (is_some (expected_element ex))) (ListStands ex)
      (elements_of means p es ls (expected_element ex)) _
      (row_stands ds sound scope means p es each ls (expected_element ex) all (element_expected ds ex h))
      (λ row hrow. list_stands p ex row hrow))
      (λ x hx. on_where (IsTyped ns ls ex) (is_as_expected ex x.ty) _ (Ok x)
      (λ fit. record { has = list_fits ex x hx fit; fit = fit }))

  each_has : (k : eaches.Each) (p : Pos) (ex : Option Ty) (t : Ty) (b : Local) → b.ty ≡ t → (l body : Typed) → Operand l
      → l.ty ≡ ty.List t → IsTyped ns (ls ++ b ∷ []) None body → OnFound (HasItsType ns ls ex) (each_of ns k p l body)
  each_has k p ex t b of l body hl is hbody = by k
    where
      inside : (u : Ty) → body.ty ≡ u → HasType ns (types_of ls ++ t ∷ []) body.expr u
      inside u e = subst (λ v. HasType ns (types_of ls ++ v ∷ []) body.expr u) of
          (subst (λ vs. HasType ns vs body.expr u) (types_join ls b)
          (subst (λ v. HasType ns (types_of (ls ++ b ∷ [])) body.expr v) e hbody.has.typed))

      by : (k : eaches.Each) → OnFound (HasItsType ns ls ex) (each_of ns k p l body)
      by each.ForAll = on_where (HasItsType ns ls ex) (same flat_ty.Boolean body.ty) _ _ (λ boolean. record {
        typed = typed.for_all t (as_type l (ty.List t) hl is)
            (inside flat_ty.Boolean (sym (same_is flat_ty.Boolean body.ty boolean)));
        placed = rw (placed_ForAll p l.expr body.expr) (both_true _ _ hl.has.placed hbody.has.placed);
        declared = flat_declared ds flat.Boolean;
      })
      by each.Exists = on_where (HasItsType ns ls ex) (same flat_ty.Boolean body.ty) _ _ (λ boolean. record {
        typed = typed.exists t (as_type l (ty.List t) hl is)
            (inside flat_ty.Boolean (sym (same_is flat_ty.Boolean body.ty boolean)));
        placed = rw (placed_Exists p l.expr body.expr) (both_true _ _ hl.has.placed hbody.has.placed);
        declared = flat_declared ds flat.Boolean;
      })
      by each.MapEach = on_where (HasItsType ns ls ex) (is_low_type ds (ty.List body.ty)) _ _ (λ low. record {
        typed = typed.map_each t (as_type l (ty.List t) hl is) (inside body.ty refl) hbody.has.declared low;
        placed = rw (placed_Map p l.expr body.expr) (both_true _ _ hl.has.placed hbody.has.placed);
        declared = list_declared ds body.ty hbody.has.declared;
      })
      by each.ListOf = on_where (HasItsType ns ls ex) (same flat_ty.Boolean body.ty) _ _ (λ boolean. record {
        typed = subst (λ u. HasType ns (types_of ls) (expr.Filter p l.expr body.expr) u) (sym is)
            (typed.filter t (as_type l (ty.List t) hl is)
            (inside flat_ty.Boolean (sym (same_is flat_ty.Boolean body.ty boolean))));
        placed = rw (placed_Filter p l.expr body.expr) (both_true _ _ hl.has.placed hbody.has.placed);
        declared = hl.has.declared;
      })

  pub over_has : (k : eaches.Each) (p : Pos) (w : Name) (e : Meaning) → Sound ds sound scope e → (ex : Option Ty)
      → AreDeclared ds ls → (l : Typed) → Operand l → OnFound (HasItsType ns ls ex) (over_list ns k p w e ls l)
  over_has k p w e he ex all l hl = on_then (λ t. element_of l.ty ≡ Some t) (HasItsType ns ls ex)
      (or_fault (TypeMismatch p) (element_of l.ty)) _ (on_or (TypeMismatch p) (element_of l.ty))
      (λ t is. let list = element_is l.ty t is in
      let declared = element_declared ds t (subst (λ v. IsTrue (is_type ds v)) list hl.has.declared) in
      on_then (IsTyped ns (ls ++ bound w t ∷ []) None) (HasItsType ns ls ex) (e (ls ++ bound w t ∷ []) None) _
      (he (ls ++ bound w t ∷ []) None (declared_join ds ls (bound w t) all declared) tt)
      (λ body hbody. each_has k p ex t (bound w t) refl l body hl list hbody))

  pub combine_has : (p : Pos) (w acc : Name) (e : Meaning) → Sound ds sound scope e → (ex : Option Ty)
      → AreDeclared ds ls → (l start : Typed) → Operand l → Operand start
      → OnFound (HasItsType ns ls ex) (combine_over p w acc e ls l start)
  combine_has p w acc e he ex all l start hl hstart = on_then (λ t. element_of l.ty ≡ Some t) (HasItsType ns ls ex)
      (or_fault (TypeMismatch p) (element_of l.ty)) _ (on_or (TypeMismatch p) (element_of l.ty))
      (λ t is. let list = element_is l.ty t is in
      let declared = element_declared ds t (subst (λ v. IsTrue (is_type ds v)) list hl.has.declared) in
      on_then (IsTyped ns (ls ++ bound w t ∷ bound acc start.ty ∷ []) (Some start.ty)) (HasItsType ns ls ex)
      (e (ls ++ bound w t ∷ bound acc start.ty ∷ []) (Some start.ty)) _
      (he (ls ++ bound w t ∷ bound acc start.ty ∷ []) (Some start.ty)
      (declared_join_two ds ls (bound w t) (bound acc start.ty) all declared hstart.has.declared)
      hstart.has.declared)
      (λ body hbody. record {
        typed = typed.combine t (as_type l (ty.List t) hl list) hstart.has.typed
            (subst (λ vs. HasType ns vs body.expr start.ty) (types_join_two ls (bound w t) (bound acc start.ty))
            (of_type ds sound scope (ls ++ bound w t ∷ bound acc start.ty ∷ []) start.ty body hbody));
        placed = rw (placed_Combine p l.expr start.expr body.expr)
            (both_true _ _ (both_true _ _ hl.has.placed hstart.has.placed) hbody.has.placed);
        declared = hstart.has.declared;
      }))
