-- Terms of one path are one, and those of a table are apart.
use Rattle.std.proofs.Common.{◌≡◌, ℕ, zero, suc, ◌<◌, Bool, true, false, List, [], ◌∷◌, ◌++◌}
use Rattle.std.proofs.Common.{Some, slice_get, refl, sym, ap, ◌∙◌, subst, arith, true≢false}
use Rattle.std.proofs.Common.{if◌then◌else◌}
use Rattle.cat_pos.specs.declared.pos.Pos.{Pos}
use Rattle.cat_value.specs.declared.decls.Decls.{Decls}
use Rattle.cat_value.specs.declared.declaration.ItemDecl.{ItemDecl}
use Rattle.cat_value.specs.declared.ty.Ty.{Ty}
use Rattle.cat_value.specs.declared.ty.Ty.TheOpen.{Ty-F}
use Rattle.cat_value.specs.declared.ty.Ty.TheVariants as flat_ty
use Rattle.cat_value.specs.declared.ty.Ty.TheViews as ty
use Rattle.cat_scope.specs.declared.expr.Expr.{Expr}
use Rattle.cat_scope.specs.declared.expr.Expr.TheOpen.{Expr-F}
use Rattle.cat_scope.specs.declared.expr.Expr.TheVariants as leaf
use Rattle.cat_scope.specs.declared.expr.Expr.TheViews as expr
use Rattle.cat_scope.specs.declared.expr.Expr.TheViews.{out-Expr, roll-Expr}
use Rattle.cat_scope.specs.Fitting.{field_type}
use Rattle.cat_scope.specs.HasType.{HasType}
use Rattle.cat_scope.specs.Names.{Names, AllHave, is_plain}
use Rattle.cat_scope.specs.Naming.{IsItem}
use Rattle.cat_scope.specs.Same.{Standing, Same}
use Rattle.cat_scope.specs.Same as same
use Rattle.cat_sound.specs.Parts.{PartsTyped}
use Rattle.cat_sound.proofs.Exported.{by_parts, parts_of, parts_typed}
use Rattle.cat_guard.specs.declared.table.InputPath.{InputPath}
use Rattle.cat_guard.specs.Numbering.{is_seen, firsts}
use Rattle.cat_guard.specs.Terms.{path_of}
use Rattle.cat_audit_sound.specs.PointInputs.{variable}
use Rattle.cat_audit_sound.proofs.PointedValues.{same_some, none_some}
use Rattle.cat_audit_sound.proofs.FreeValues.{Form, PathForm, an_item, a_field, path_form}

-- ---- lists with one number more

abbrev first_or : ℕ → List ℕ → ℕ
first_or d [] = d
first_or d (x ∷ xs) = x

abbrev rest_of : List ℕ → List ℕ
rest_of [] = []
rest_of (x ∷ xs) = xs

abbrev is_some_number : List ℕ → Bool
is_some_number [] = false
is_some_number (x ∷ xs) = true

not_none : (xs : List ℕ) (a : ℕ) → [] ≡ xs ++ a ∷ [] → ⊥
not_none [] a e = true≢false (sym (ap is_some_number e))
not_none (x ∷ xs) a e = true≢false (sym (ap is_some_number e))

one_more : (xs ys : List ℕ) (a b : ℕ) → xs ++ a ∷ [] ≡ ys ++ b ∷ [] → (xs ≡ ys) × (a ≡ b)
one_more [] [] a b e = (refl, ap (first_or 0) e)
one_more [] (y ∷ ys) a b e = absurd (not_none ys b (ap rest_of e))
one_more (x ∷ xs) [] a b e = absurd (not_none xs a (sym (ap rest_of e)))
one_more (x ∷ xs) (y ∷ ys) a b e =
    let rest = one_more xs ys a b (ap rest_of e) in
    (ap (λ (z : ℕ). z ∷ xs) (ap (first_or 0) e) ∙ ap (λ (zs : List ℕ). y ∷ zs) rest.0, rest.1)

-- ---- one path, one term and one type

abbrev number_in : Ty-F Ty → ℕ
number_in (Ty-F.Structure n) = n
number_in _ = 0

one_structure : (n m : ℕ) → flat_ty.Structure n ≡ flat_ty.Structure m → n ≡ m
one_structure n m e =
    ap number_in (sym (ty.outs-Structure n)) ∙ ap (λ (t : Ty). number_in (ty.out-Ty t)) e
    ∙ ap number_in (ty.outs-Structure m)

rolled : (e : Expr) (y : Form) (f : Expr) → out-Expr e ≡ y → roll-Expr y ≡ f → e ≡ f
rolled e y f is rolls = sym (expr.roll-out-Expr e) ∙ ap roll-Expr is ∙ rolls

module _ (ds : Decls) (items : List ItemDecl) (g h : Standing) (ps qs : List Ty) where
  abbrev names : Names
  names = record { decls = ds; items = items }

  -- one term, of one type
  pub record AreOne (e f : Expr) (t u : Ty) : Type 0 where
    pub trees : Same g h e f
    pub types : t ≡ u

  abbrev IsOne : Expr → Type 0
  IsOne e = (f : Expr) (p : InputPath) (t u : Ty) → path_of items e ≡ Some p → path_of items f ≡ Some p
      → HasType names ps e t → HasType names qs f u → AreOne e f t u

  one_item : (e f : Expr) (q r : Pos) (i j : ℕ) (t u : Ty) → out-Expr e ≡ Expr-F.Item q i
      → out-Expr f ≡ Expr-F.Item r j → variable i ≡ variable j → IsItem is_plain items i t → IsItem is_plain items j u
      → AreOne e f t u
  one_item e f q r i j t u is also one own other =
      let number : i ≡ j = ap (λ (p : InputPath). p.item) one in record {
        trees = subst (λ (x : Expr). Same g h x f)
            (sym (rolled e (Expr-F.Item q i) (leaf.Item q i) is (expr.rolls-Item q i)))
            (subst (λ (x : Expr). Same g h (leaf.Item q i) x)
            (sym (rolled f (Expr-F.Item r j) (leaf.Item r j) also (expr.rolls-Item r j)))
            (subst (λ (n : ℕ). Same g h (leaf.Item q i) (leaf.Item r n)) number same.item));
        types = own.3 ∙ ap (λ (d : ItemDecl). d.ty) (same_some own.0 other.0 (sym own.1 ∙ ap (slice_get items) number
            ∙ other.1)) ∙ sym other.3;
      }

  one_field : (e f a b : Expr) (q r : Pos) (k l n m : ℕ) (t u : Ty) → out-Expr e ≡ Expr-F.Field q a k
      → out-Expr f ≡ Expr-F.Field r b l → k ≡ l → field_type ds n k ≡ Some t → field_type ds m l ≡ Some u
      → AreOne a b (flat_ty.Structure n) (flat_ty.Structure m) → AreOne e f t u
  one_field e f a b q r k l n m t u is also number own other inner = record {
    trees = subst (λ (x : Expr). Same g h x f)
        (sym (rolled e (Expr-F.Field q a k) (expr.Field q a k) is (expr.rolls-Field q a k)))
        (subst (λ (x : Expr). Same g h (expr.Field q a k) x)
        (sym (rolled f (Expr-F.Field r b l) (expr.Field r b l) also (expr.rolls-Field r b l)))
        (subst (λ (x : ℕ). Same g h (expr.Field q a k) (expr.Field r b x)) number (same.field inner.trees)));
    types = same_some t u (sym own ∙ ap (λ (x : ℕ). field_type ds x k) (one_structure n m inner.types)
        ∙ ap (field_type ds m) number ∙ other);
  }

  pub are_one : (e : Expr) → IsOne e
  are_one = by_parts IsOne (λ e y is inner f p t u at also typed other.
      by e y is inner f p t u typed other (path_form items e p at) (path_form items f p also))
    where
      by : (e : Expr) (y : Form) → out-Expr e ≡ y → AllHave IsOne (parts_of y) → (f : Expr) (p : InputPath) (t u : Ty)
          → HasType names ps e t → HasType names qs f u → PathForm items e p → PathForm items f p → AreOne e f t u
      by e y is inner f p t u typed other (an_item q i decl form there must at) (an_item r j d form2 there2 must2 at2) =
          one_item e f q r i j t u form form2 (at ∙ sym at2)
          (subst (λ (x : Form). PartsTyped names ps x t) form (parts_typed names ps e t typed))
          (subst (λ (x : Form). PartsTyped names qs x u) form2 (parts_typed names qs f u other))
      by e y is inner f p t u typed other (an_item q i decl form there must at) (a_field r b l path form2 there2 at2) =
          absurd (not_none path.fields l (ap (λ (x : InputPath). x.fields) (at ∙ sym at2)))
      by e y is inner f p t u typed other (a_field q a k path form there at) (an_item r j d form2 there2 must2 at2) =
          absurd (not_none path.fields k (ap (λ (x : InputPath). x.fields) (at2 ∙ sym at)))
      by e y is inner f p t u typed other (a_field q a k path form there at) (a_field r b l path2 form2 there2 at2) =
          let own : PartsTyped names ps (Expr-F.Field q a k) t =
          subst (λ (x : Form). PartsTyped names ps x t) form (parts_typed names ps e t typed) in
          let own2 : PartsTyped names qs (Expr-F.Field r b l) u =
          subst (λ (x : Form). PartsTyped names qs x u) form2 (parts_typed names qs f u other) in
          let parts : AllHave IsOne (parts_of (Expr-F.Field q a k)) =
          subst (λ (x : Form). AllHave IsOne (parts_of x)) (sym is ∙ form) inner in
          let more = one_more path.fields path2.fields k l (ap (λ (x : InputPath). x.fields) (at ∙ sym at2)) in
          let one : path ≡ path2 = one_path path path2 (ap (λ (x : InputPath). x.item) (at ∙ sym at2)) more.0 in
          one_field e f a b q r k l own.0 own2.0 t u form form2 more.1 own.2 own2.2
          (parts.0 b path (flat_ty.Structure own.0) (flat_ty.Structure own2.0) there (there2 ∙ ap Some (sym one)) own.1
          own2.1)
        where
          one_path : (p q : InputPath) → p.item ≡ q.item → p.fields ≡ q.fields → p ≡ q
          one_path p q i f = ap (λ (n : ℕ). record { item = n; fields = p.fields }) i
              ∙ ap (λ (ns : List ℕ). record { item = q.item; fields = ns }) f

-- ---- first ones are apart

module _ {A : Type 0} (same_one : A → A → Bool) where
  behind : (x b : A) (seen : List A) → is_seen same_one b (x ∷ seen) ≡ false
      → (same_one x b ≡ false) × (is_seen same_one b seen ≡ false)
  behind x b seen h = by (same_one x b) refl h
    where
      by : (c : Bool) → same_one x b ≡ c → (if c then true else is_seen same_one b seen) ≡ false
          → (same_one x b ≡ false) × (is_seen same_one b seen ≡ false)
      by true e h = absurd (true≢false h)
      by false e h = (e, h)

  -- of the first ones none was seen
  fresh : (seen xs : List A) (j : ℕ) (b : A) → slice_get (firsts same_one seen xs) j ≡ Some b
      → is_seen same_one b seen ≡ false
  fresh seen [] j b at = none_some b at
  fresh seen (x ∷ xs) j b at = by (is_seen same_one x seen) refl at (fresh seen xs j b) (fresh (x ∷ seen) xs)
    where
      kept : (j : ℕ) → is_seen same_one x seen ≡ false → slice_get (x ∷ firsts same_one (x ∷ seen) xs) j ≡ Some b
          → ((i : ℕ) (c : A) → slice_get (firsts same_one (x ∷ seen) xs) i ≡ Some c
          → is_seen same_one c (x ∷ seen) ≡ false) → is_seen same_one b seen ≡ false
      kept zero new at more = ap (λ (y : A). is_seen same_one y seen) (sym (same_some x b at)) ∙ new
      kept (suc i) new at more = (behind x b seen (more i b at)).1

      by : (c : Bool) → is_seen same_one x seen ≡ c
          → slice_get (if c then firsts same_one seen xs else x ∷ firsts same_one (x ∷ seen) xs) j ≡ Some b
          → (slice_get (firsts same_one seen xs) j ≡ Some b → is_seen same_one b seen ≡ false)
          → ((i : ℕ) (c : A) → slice_get (firsts same_one (x ∷ seen) xs) i ≡ Some c
          → is_seen same_one c (x ∷ seen) ≡ false) → is_seen same_one b seen ≡ false
      by true old at here more = here at
      by false new at here more = kept j new at more

  -- of two first ones the later isn't the same as the earlier
  pub apart : (seen xs : List A) (i j : ℕ) (a b : A) → i < j → slice_get (firsts same_one seen xs) i ≡ Some a
      → slice_get (firsts same_one seen xs) j ≡ Some b → same_one a b ≡ false
  apart seen [] i j a b below at also = none_some a at
  apart seen (x ∷ xs) i j a b below at also =
      by (is_seen same_one x seen) at also (apart seen xs i j a b below) (apart (x ∷ seen) xs)
    where
      kept : (i j : ℕ) → i < j → slice_get (x ∷ firsts same_one (x ∷ seen) xs) i ≡ Some a
          → slice_get (x ∷ firsts same_one (x ∷ seen) xs) j ≡ Some b
          → ((m n : ℕ) (c d : A) → m < n → slice_get (firsts same_one (x ∷ seen) xs) m ≡ Some c
          → slice_get (firsts same_one (x ∷ seen) xs) n ≡ Some d → same_one c d ≡ false) → same_one a b ≡ false
      kept zero zero below at also more = absurd (omega (arith, below))
      kept (suc m) zero below at also more = absurd (omega (arith, below))
      kept zero (suc n) below at also more =
          ap (λ (y : A). same_one y b) (sym (same_some x a at))
          ∙ (behind x b seen (fresh (x ∷ seen) xs n b also)).0
      kept (suc m) (suc n) below at also more = more m n a b (omega (arith, below)) at also

      by : (c : Bool) → slice_get (if c then firsts same_one seen xs else x ∷ firsts same_one (x ∷ seen) xs) i ≡ Some a
          → slice_get (if c then firsts same_one seen xs else x ∷ firsts same_one (x ∷ seen) xs) j ≡ Some b
          → (slice_get (firsts same_one seen xs) i ≡ Some a → slice_get (firsts same_one seen xs) j ≡ Some b
          → same_one a b ≡ false)
          → ((m n : ℕ) (c d : A) → m < n → slice_get (firsts same_one (x ∷ seen) xs) m ≡ Some c
          → slice_get (firsts same_one (x ∷ seen) xs) n ≡ Some d → same_one c d ≡ false) → same_one a b ≡ false
      by true at also here more = here at also
      by false at also here more = kept i j below at also more
