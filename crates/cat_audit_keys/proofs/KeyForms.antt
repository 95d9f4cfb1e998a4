-- The key of an expression by its form, and which forms have one number.
use Rattle.std.proofs.Common.{◌≡◌, ℕ, nat_eq, Bool, true, ◌&&◌, List, [], ◌∷◌, ◌++◌, map, Some, None}
use Rattle.std.proofs.Common.{refl, sym, ap, ◌∙◌, true≢false}
use Rattle.cat_scope.specs.declared.expr.Expr.{Expr}
use Rattle.cat_scope.specs.declared.expr.Arm.{Arm}
use Rattle.cat_scope.specs.declared.expr.FieldValue.{FieldValue}
use Rattle.cat_scope.specs.declared.expr.Expr.TheOpen.{Expr-F}
use Rattle.cat_scope.specs.declared.expr.Expr.TheViews.{out-Expr}
use Rattle.cat_scope.specs.declared.expr.Expr.TheFolds.{fold_out-Expr, map-Expr, fold-FieldValue, fold_out-FieldValue}
use Rattle.cat_scope.specs.declared.expr.Expr.TheFolds.{fold-Arm, fold_out-Arm}
use Rattle.cat_scope.specs.OperatorNumbers.{unary_number, binary_number, sum_number}
use Rattle.cat_scope.specs.Same.{Standing}
use Rattle.cat_scope.specs.SameTree.{same_pattern, each_same, same_in, same_arm, same_field, same_tree}
use Rattle.cat_sound.proofs.Exported.{parts_of, bodies_of, values_of}
use Rattle.cat_region.proofs.Exported.{and-both}
use Rattle.cat_audit_keys.specs.Keys.{Branch, Slot, form_number, own_numbers, parts, bodies, values, key_in, arm_key}
use Rattle.cat_audit_keys.specs.Keys.{field_key, key_of, pattern_numbers, patterns_numbers, field_numbers}
use Rattle.cat_audit_keys.proofs.KeyNumbers.{number_at, behind, one_number, one_front, literal_told}
use Rattle.cat_audit_keys.proofs.KeyNumbers.{pattern_told, local_told, pattern_length}

abbrev pub Form : Type 0
Form = Expr-F Expr Arm FieldValue

module _ (g : Standing) where
  abbrev pub arm_of : Arm → Branch (List ℕ)
  arm_of = fold-Arm (List ℕ) (Branch (List ℕ)) (Slot (List ℕ)) (key_in g) arm_key field_key

  abbrev pub field_of : FieldValue → Slot (List ℕ)
  field_of = fold-FieldValue (List ℕ) (Branch (List ℕ)) (Slot (List ℕ)) (key_in g) arm_key field_key

  abbrev pub opened : Form → Expr-F (List ℕ) (Branch (List ℕ)) (Slot (List ℕ))
  opened y = map-Expr Expr Arm FieldValue (List ℕ) (Branch (List ℕ)) (Slot (List ℕ)) (key_of g) arm_of field_of y

  pub key_level : (e : Expr) → key_of g e ≡ key_in g (opened (out-Expr e))
  unfolding key_of
  key_level e = fold_out-Expr (List ℕ) (Branch (List ℕ)) (Slot (List ℕ)) (key_in g) arm_key field_key e

  pub arm_is : (a : Arm) → arm_of a ≡ (a.pattern, key_of g a.body)
  unfolding key_of
  arm_is a = fold_out-Arm (List ℕ) (Branch (List ℕ)) (Slot (List ℕ)) (key_in g) arm_key field_key a

  pub field_is : (f : FieldValue) → field_of f ≡ (f.field, key_of g f.value)
  unfolding key_of
  field_is f = fold_out-FieldValue (List ℕ) (Branch (List ℕ)) (Slot (List ℕ)) (key_in g) arm_key field_key f

  bodies_are : (arms : List Arm) → bodies (map arm_of arms) ≡ map (key_of g) (bodies_of arms)
  bodies_are [] = refl
  bodies_are (a ∷ arms) =
      ap (λ (b : Branch (List ℕ)). b.1 ∷ bodies (map arm_of arms)) (arm_is a)
      ∙ ap (λ (ks : List (List ℕ)). key_of g a.body ∷ ks) (bodies_are arms)

  values_are : (fs : List FieldValue) → values (map field_of fs) ≡ map (key_of g) (values_of fs)
  values_are [] = refl
  values_are (f ∷ fs) =
      ap (λ (b : Slot (List ℕ)). b.1 ∷ values (map field_of fs)) (field_is f)
      ∙ ap (λ (ks : List (List ℕ)). key_of g f.value ∷ ks) (values_are fs)

  -- the keys of the parts
  pub parts_are : (y : Form) → parts (opened y) ≡ map (key_of g) (parts_of y)
  parts_are (Expr-F.Match p e arms) = ap (λ (ks : List (List ℕ)). key_of g e ∷ ks) (bodies_are arms)
  parts_are (Expr-F.Case p n k None) = refl
  parts_are (Expr-F.Case p n k (Some e)) = refl
  parts_are (Expr-F.Structure p n fields) = values_are fields
  parts_are (Expr-F.ScopeCall p s fields k) = values_are fields
  parts_are _ = refl

  pub form_is : (y : Form) → form_number (opened y) ≡ form_number y
  form_is (Expr-F.Case p n k None) = refl
  form_is (Expr-F.Case p n k (Some e)) = refl
  form_is _ = refl

module _ (g h : Standing) where
  abbrev pub arm_test : Arm → Arm → Bool
  arm_test = fold-Arm (Expr → Bool) (Arm → Bool) (FieldValue → Bool) (λ y f. same_in g h y (out-Expr f)) same_arm
      same_field

  abbrev pub field_test : FieldValue → FieldValue → Bool
  field_test = fold-FieldValue (Expr → Bool) (Arm → Bool) (FieldValue → Bool) (λ y f. same_in g h y (out-Expr f))
      same_arm same_field

  abbrev pub tests : Form → Expr-F (Expr → Bool) (Arm → Bool) (FieldValue → Bool)
  tests y = map-Expr Expr Arm FieldValue (Expr → Bool) (Arm → Bool) (FieldValue → Bool) (same_tree g h) arm_test
      field_test y

  pub test_level : (e f : Expr) → same_tree g h e f ≡ same_in g h (tests (out-Expr e)) (out-Expr f)
  unfolding same_tree
  test_level e f = ap (λ (t : Expr → Bool). t f) (fold_out-Expr (Expr → Bool) (Arm → Bool) (FieldValue → Bool)
      (λ y f. same_in g h y (out-Expr f)) same_arm same_field e)

  arm_test_is : (a b : Arm) → arm_test a b ≡ (same_pattern a.pattern b.pattern && same_tree g h a.body b.body)
  unfolding same_tree
  arm_test_is a b = ap (λ (t : Arm → Bool). t b) (fold_out-Arm (Expr → Bool) (Arm → Bool) (FieldValue → Bool)
      (λ y f. same_in g h y (out-Expr f)) same_arm same_field a)

  field_test_is : (a b : FieldValue) → field_test a b ≡ (nat_eq a.field b.field && same_tree g h a.value b.value)
  unfolding same_tree
  field_test_is a b = ap (λ (t : FieldValue → Bool). t b) (fold_out-FieldValue (Expr → Bool) (Arm → Bool)
      (FieldValue → Bool) (λ y f. same_in g h y (out-Expr f)) same_arm same_field a)

  -- part by part
  abbrev pub EachSame : List Expr → List Expr → Type 0
  EachSame [] [] = Unit {0}
  EachSame [] (f ∷ fs) = ⊥
  EachSame (e ∷ es) [] = ⊥
  EachSame (e ∷ es) (f ∷ fs) = (same_tree g h e f ≡ true) × EachSame es fs

  all_same : (es fs : List Expr) → EachSame es fs → each_same (map (same_tree g h) es) fs ≡ true
  all_same [] [] s = refl
  all_same [] (f ∷ fs) s = elim s [ ]
  all_same (e ∷ es) [] s = elim s [ ]
  all_same (e ∷ es) (f ∷ fs) s = and-both _ _ s.0 (all_same es fs s.1)

  arms_same : (xs ys : List Arm) → patterns_numbers (map (arm_of g) xs) ≡ patterns_numbers (map (arm_of h) ys)
      → EachSame (bodies_of xs) (bodies_of ys) → each_same (map arm_test xs) ys ≡ true
  arms_same [] [] n s = refl
  arms_same [] (b ∷ ys) n s = elim s [ ]
  arms_same (a ∷ xs) [] n s = elim s [ ]
  arms_same (a ∷ xs) (b ∷ ys) n s =
      let two = one_front (pattern_numbers a.pattern) (pattern_numbers b.pattern)
      (patterns_numbers (map (arm_of g) xs)) (patterns_numbers (map (arm_of h) ys))
      (pattern_length a.pattern ∙ sym (pattern_length b.pattern))
      (sym (ap (λ (x : Branch (List ℕ)). pattern_numbers x.0 ++ patterns_numbers (map (arm_of g) xs)) (arm_is g a)) ∙ n
      ∙ ap (λ (x : Branch (List ℕ)). pattern_numbers x.0 ++ patterns_numbers (map (arm_of h) ys)) (arm_is h b)) in
      and-both _ _ (arm_test_is a b ∙ and-both _ _ (pattern_told a.pattern b.pattern two.0) s.0)
      (arms_same xs ys two.1 s.1)

  fields_same : (xs ys : List FieldValue) → field_numbers (map (field_of g) xs) ≡ field_numbers (map (field_of h) ys)
      → EachSame (values_of xs) (values_of ys) → each_same (map field_test xs) ys ≡ true
  fields_same [] [] n s = refl
  fields_same [] (b ∷ ys) n s = elim s [ ]
  fields_same (a ∷ xs) [] n s = elim s [ ]
  fields_same (a ∷ xs) (b ∷ ys) n s =
      let number : a.field ≡ b.field =
      sym (ap (λ (x : Slot (List ℕ)). x.0) (field_is g a)) ∙ ap (number_at 0) n
      ∙ ap (λ (x : Slot (List ℕ)). x.0) (field_is h b) in
      and-both _ _ (field_test_is a b ∙ and-both _ _ (one_number a.field b.field number) s.0)
      (fields_same xs ys (ap behind n) s.1)

  -- forms of one number that have the same numbers and the same parts are the same
  pub same_form : (y z : Form) → nat_eq (form_number y) (form_number z) ≡ true
      → own_numbers g (opened g y) ≡ own_numbers h (opened h z) → EachSame (parts_of y) (parts_of z)
      → same_in g h (tests y) z ≡ true
  same_form (Expr-F.Literal p l) (Expr-F.Literal q m) t n s = literal_told l m n
  same_form (Expr-F.Item p i) (Expr-F.Item q j) t n s = one_number i j (ap (number_at 0) n)
  same_form (Expr-F.Output p i k) (Expr-F.Output q j m) t n s =
      and-both _ _ (one_number i j (ap (number_at 0) n)) (one_number k m (ap (number_at 1) n))
  same_form (Expr-F.Local p k) (Expr-F.Local q m) t n s = local_told g h k m n
  same_form (Expr-F.Field p e k) (Expr-F.Field q f m) t n s =
      and-both _ _ (one_number k m (ap (number_at 0) n)) s.0
  same_form (Expr-F.Unary p o e) (Expr-F.Unary q u f) t n s =
      and-both _ _ (one_number (unary_number o) (unary_number u) (ap (number_at 0) n)) s.0
  same_form (Expr-F.Binary p o r a b) (Expr-F.Binary q u v c d) t n s =
      and-both _ _ (one_number (binary_number o) (binary_number u) (ap (number_at 0) n)) (and-both _ _ s.0 s.1.0)
  same_form (Expr-F.And p a b) (Expr-F.And q c d) t n s = and-both _ _ s.0 s.1.0
  same_form (Expr-F.Or p a b) (Expr-F.Or q c d) t n s = and-both _ _ s.0 s.1.0
  same_form (Expr-F.If p x a b) (Expr-F.If q y c d) t n s = and-both _ _ s.0 (and-both _ _ s.1.0 s.1.1.0)
  same_form (Expr-F.Match p e arms) (Expr-F.Match q f others) t n s =
      and-both _ _ s.0 (arms_same arms others n s.1)
  same_form (Expr-F.IsCase p e i k) (Expr-F.IsCase q f j m) t n s =
      and-both _ _ (one_number i j (ap (number_at 0) n))
      (and-both _ _ (one_number k m (ap (number_at 1) n)) s.0)
  same_form (Expr-F.Case p i k None) (Expr-F.Case q j m None) t n s =
      and-both _ _ (one_number i j (ap (number_at 0) n)) (one_number k m (ap (number_at 1) n))
  same_form (Expr-F.Case p i k (Some e)) (Expr-F.Case q j m (Some f)) t n s =
      and-both _ _ (one_number i j (ap (number_at 0) n))
      (and-both _ _ (one_number k m (ap (number_at 1) n)) s.0)
  same_form (Expr-F.Case p i k None) (Expr-F.Case q j m (Some f)) t n s = elim s [ ]
  same_form (Expr-F.Case p i k (Some e)) (Expr-F.Case q j m None) t n s = elim s [ ]
  same_form (Expr-F.Structure p i fields) (Expr-F.Structure q j others) t n s =
      and-both _ _ (one_number i j (ap (number_at 0) n)) (fields_same fields others (ap behind n) s)
  same_form (Expr-F.List p es) (Expr-F.List q fs) t n s = all_same es fs s
  same_form (Expr-F.ForAll p l e) (Expr-F.ForAll q m f) t n s = and-both _ _ s.0 s.1.0
  same_form (Expr-F.Exists p l e) (Expr-F.Exists q m f) t n s = and-both _ _ s.0 s.1.0
  same_form (Expr-F.Map p l e) (Expr-F.Map q m f) t n s = and-both _ _ s.0 s.1.0
  same_form (Expr-F.Filter p l e) (Expr-F.Filter q m f) t n s = and-both _ _ s.0 s.1.0
  same_form (Expr-F.Combine p l x e) (Expr-F.Combine q m y f) t n s =
      and-both _ _ s.0 (and-both _ _ s.1.0 s.1.1.0)
  same_form (Expr-F.Contains p r l e) (Expr-F.Contains q v m f) t n s = and-both _ _ s.0 s.1.0
  same_form (Expr-F.Length p l) (Expr-F.Length q m) t n s = s.0
  same_form (Expr-F.Sum p kind l) (Expr-F.Sum q other m) t n s =
      and-both _ _ (one_number (sum_number kind) (sum_number other) (ap (number_at 0) n)) s.0
  same_form (Expr-F.Call p i es) (Expr-F.Call q j fs) t n s =
      and-both _ _ (one_number i j (ap (number_at 0) n)) (all_same es fs s)
  same_form (Expr-F.ScopeCall p i fields k) (Expr-F.ScopeCall q j others m) t n s =
      and-both _ _ (one_number i j (ap (number_at 0) n))
      (and-both _ _ (one_number k m (ap (number_at 1) n)) (fields_same fields others (ap behind (ap behind n)) s))
  same_form _ _ t n s = absurd (true≢false (sym t))
