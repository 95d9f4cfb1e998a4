-- The test of two expressions decides whether they agree but for positions.
use Rattle.std.proofs.Common.{◌≡◌, ◌↔◌, ◌<◌, ◌≤◌, ℕ, ◌+◌, ◌-◌, Bool, true, false, ◌&&◌, IsTrue, List, [], ◌∷◌, map}
use Rattle.std.proofs.Common.{Some, None, refl, sym, ap, ◌∙◌, subst, arith, if◌then◌else◌}
use Rattle.std.specs.Prelude.{nat_eq, nat_lt, nat_le}
use Rattle.std.proofs.lemmas.Bool.Decides.{nat_tests}
use Rattle.cat_pos.specs.declared.pos.Pos.{Pos}
use Rattle.cat_scope.specs.declared.expr.Expr.{Expr}
use Rattle.cat_scope.specs.declared.expr.Arm.{Arm}
use Rattle.cat_scope.specs.declared.expr.FieldValue.{FieldValue}
use Rattle.cat_scope.specs.declared.expr.Expr.TheOpen.{Expr-F}
use Rattle.cat_scope.specs.declared.expr.Expr.TheVariants as leaf
use Rattle.cat_scope.specs.declared.expr.Expr.TheViews as expr
use Rattle.cat_scope.specs.declared.expr.Expr.TheViews.{out-Expr, roll-Expr}
use Rattle.cat_scope.specs.declared.expr.Expr.TheFolds.{fold_out-Expr, map-Expr, fold-FieldValue, fold_out-FieldValue}
use Rattle.cat_scope.specs.declared.expr.Expr.TheFolds.{fold-Arm, fold_out-Arm}
use Rattle.cat_scope.specs.Names.{AllHave}
use Rattle.cat_scope.specs.Same.{Standing, Same, SameAll, SameFields, SameArms}
use Rattle.cat_scope.specs.Same as same
use Rattle.cat_scope.specs.OperatorNumbers.{unary_number, binary_number, sum_number}
use Rattle.cat_scope.specs.SameTree.{same_pattern, same_local, each_same, same_in, same_arm, same_field, same_tree}
use Rattle.cat_sound.proofs.Results.{both, and_both}
use Rattle.cat_sound.proofs.FormTypes.{same_number, not_true}
use Rattle.cat_sound.proofs.NamedParts.{parts_of, bodies_of, values_of}
use Rattle.cat_sound.proofs.ByParts.{by_parts}
use Rattle.cat_sound.proofs.LeafTests.{unary_same, binary_same, sum_same, nat_self, literal_same, literal_self}
use Rattle.cat_sound.proofs.LeafTests.{pattern_same, pattern_self, below_is, is_below}

module _ (g h : Standing) where
  local_same : (p q : Pos) (k m : ℕ) → IsTrue (same_local g h k m) → Same g h (leaf.Local p k) (leaf.Local q m)
  local_same p q k m t = by (nat_lt k g.params) refl t
    where
      behind : (n i j : ℕ) → nat_lt i n ≡ false → i ≡ n + (i - n)
      behind n i j e = omega (arith, from n i e)
        where
          from : (n i : ℕ) → nat_lt i n ≡ false → n ≤ i
          from n i e = grind (arith, nat_tests)

      other : (a b i j : ℕ) → nat_lt i a ≡ false → IsTrue (nat_eq (i + b) (j + a)) → j ≡ b + (i - a)
      other a b i j e u = let one = behind a i j e in let two = same_number (i + b) (j + a) u in omega (arith, one, two)

      by : (c : Bool) → nat_lt k g.params ≡ c
          → IsTrue (if c then nat_eq g.function h.function && (nat_eq k m && nat_lt k h.params) else nat_le h.params m
          && nat_eq (k + h.params) (m + g.params)) → Same g h (leaf.Local p k) (leaf.Local q m)
      by true e u =
          let two = both (nat_eq g.function h.function) (nat_eq k m && nat_lt k h.params) u in
          let more = both (nat_eq k m) (nat_lt k h.params) two.1 in
          subst (λ (x : ℕ). Same g h (leaf.Local p k) (leaf.Local q x)) (same_number k m more.0)
          (same.parameter (same_number g.function h.function two.0) (below_is k g.params e)
          (below_is k h.params more.1))
      by false e u =
          let two = both (nat_le h.params m) (nat_eq (k + h.params) (m + g.params)) u in
          subst (λ (x : ℕ). Same g h (leaf.Local p x) (leaf.Local q m)) (sym (behind g.params k m e))
          (subst (λ (x : ℕ). Same g h (leaf.Local p (g.params + (k - g.params))) (leaf.Local q x))
          (sym (other g.params h.params k m e two.1)) (same.bound (k - g.params)))

  parameter_self : (k : ℕ) → g.function ≡ h.function → k < g.params → k < h.params → IsTrue (same_local g h k k)
  parameter_self k one below under =
      ap (λ c. if c then nat_eq g.function h.function && (nat_eq k k && nat_lt k h.params) else nat_le h.params k
      && nat_eq (k + h.params) (k + g.params)) (is_below k g.params below)
      ∙ and_both _ _ (subst (λ (x : ℕ). IsTrue (nat_eq g.function x)) one (nat_self g.function))
      (and_both _ _ (nat_self k) (is_below k h.params under))

  bound_self : (k : ℕ) → IsTrue (same_local g h (g.params + k) (h.params + k))
  bound_self k =
      ap (λ c. if c then nat_eq g.function h.function
      && (nat_eq (g.params + k) (h.params + k) && nat_lt (g.params + k) h.params) else nat_le h.params (h.params + k)
      && nat_eq ((g.params + k) + h.params) ((h.params + k) + g.params)) (not_below g.params k)
      ∙ and_both _ _ (at_most h.params k) (swapped g.params h.params k)
    where
      not_below : (n k : ℕ) → nat_lt (n + k) n ≡ false
      not_below n k = grind (arith, nat_tests)

      at_most : (n k : ℕ) → IsTrue (nat_le n (n + k))
      at_most n k = grind (arith, nat_tests)

      swapped : (a b k : ℕ) → IsTrue (nat_eq ((a + k) + b) ((b + k) + a))
      swapped a b k = subst (λ (x : ℕ). IsTrue (nat_eq ((a + k) + b) x)) (again a b k) (nat_self ((a + k) + b))
        where
          again : (a b k : ℕ) → (a + k) + b ≡ (b + k) + a
          again a b k = omega arith

  -- ---- trees

  abbrev tree : Expr → Expr → Bool
  tree e f = same_tree g h e f

  abbrev arm : Arm → Arm → Bool
  arm = fold-Arm (Expr → Bool) (Arm → Bool) (FieldValue → Bool) (λ y f. same_in g h y (out-Expr f)) same_arm same_field

  abbrev field : FieldValue → FieldValue → Bool
  field = fold-FieldValue (Expr → Bool) (Arm → Bool) (FieldValue → Bool) (λ y f. same_in g h y (out-Expr f)) same_arm
      same_field

  abbrev opened : Expr-F Expr Arm FieldValue → Expr-F (Expr → Bool) (Arm → Bool) (FieldValue → Bool)
  opened y = map-Expr Expr Arm FieldValue (Expr → Bool) (Arm → Bool) (FieldValue → Bool) tree arm field y

  levels : (e f : Expr) → tree e f ≡ same_in g h (opened (out-Expr e)) (out-Expr f)
  unfolding same_tree
  levels e f = ap (λ (t : Expr → Bool). t f) (fold_out-Expr (Expr → Bool) (Arm → Bool) (FieldValue → Bool)
      (λ y f. same_in g h y (out-Expr f)) same_arm same_field e)

  arm_is : (a b : Arm) → arm a b ≡ (same_pattern a.pattern b.pattern && tree a.body b.body)
  unfolding same_tree
  arm_is a b = ap (λ (t : Arm → Bool). t b) (fold_out-Arm (Expr → Bool) (Arm → Bool) (FieldValue → Bool)
      (λ y f. same_in g h y (out-Expr f)) same_arm same_field a)

  field_is : (a b : FieldValue) → field a b ≡ (nat_eq a.field b.field && tree a.value b.value)
  unfolding same_tree
  field_is a b = ap (λ (t : FieldValue → Bool). t b) (fold_out-FieldValue (Expr → Bool) (Arm → Bool) (FieldValue → Bool)
      (λ y f. same_in g h y (out-Expr f)) same_arm same_field a)

  -- ---- true says that they are the same

  abbrev Sound : Expr → Type 0
  Sound e = (f : Expr) → IsTrue (tree e f) → Same g h e f

  all_sound : (es fs : List Expr) → AllHave Sound es → IsTrue (each_same (map tree es) fs) → SameAll g h es fs
  all_sound [] [] s t = same.all_none
  all_sound [] (f ∷ fs) s t = not_true t
  all_sound (e ∷ es) [] s t = not_true t
  all_sound (e ∷ es) (f ∷ fs) s t = let two = both (tree e f) (each_same (map tree es) fs) t in
      same.all_more (s.0 f two.0) (all_sound es fs s.1 two.1)

  arms_sound : (xs ys : List Arm) → AllHave Sound (bodies_of xs) → IsTrue (each_same (map arm xs) ys)
      → SameArms g h xs ys
  arms_sound [] [] s t = same.arms_none
  arms_sound [] (b ∷ ys) s t = not_true t
  arms_sound (a ∷ xs) [] s t = not_true t
  arms_sound (a ∷ xs) (b ∷ ys) s t =
      let two = both (arm a b) (each_same (map arm xs) ys) t in
      let here = both (same_pattern a.pattern b.pattern) (tree a.body b.body) (sym (arm_is a b) ∙ two.0) in
      same.arms_more (pattern_same a.pattern b.pattern here.0) (s.0 b.body here.1) (arms_sound xs ys s.1 two.1)

  fields_sound : (xs ys : List FieldValue) → AllHave Sound (values_of xs) → IsTrue (each_same (map field xs) ys)
      → SameFields g h xs ys
  fields_sound [] [] s t = same.fields_none
  fields_sound [] (b ∷ ys) s t = not_true t
  fields_sound (a ∷ xs) [] s t = not_true t
  fields_sound (a ∷ xs) (b ∷ ys) s t =
      let two = both (field a b) (each_same (map field xs) ys) t in
      let here = both (nat_eq a.field b.field) (tree a.value b.value) (sym (field_is a b) ∙ two.0) in
      same.fields_more (same_number a.field b.field here.0) (s.0 b.value here.1) (fields_sound xs ys s.1 two.1)

  rolled : (y z : Expr-F Expr Arm FieldValue) {e f : Expr} → roll-Expr y ≡ e → roll-Expr z ≡ f → Same g h e f
      → Same g h (roll-Expr y) (roll-Expr z)
  rolled y z {e = e} is also s =
      subst (λ x. Same g h x (roll-Expr z)) (sym is) (subst (λ x. Same g h e x) (sym also) s)

  at_form : (y z : Expr-F Expr Arm FieldValue) → AllHave Sound (parts_of y) → IsTrue (same_in g h (opened y) z)
      → Same g h (roll-Expr y) (roll-Expr z)
  at_form (Expr-F.Literal p l) (Expr-F.Literal q m) s t =
      rolled _ _ (expr.rolls-Literal p l) (expr.rolls-Literal q m)
      (subst (λ x. Same g h (leaf.Literal p l) (leaf.Literal q x)) (literal_same l m t) same.literal)
  at_form (Expr-F.Item p i) (Expr-F.Item q j) s t =
      rolled _ _ (expr.rolls-Item p i) (expr.rolls-Item q j)
      (subst (λ (x : ℕ). Same g h (leaf.Item p i) (leaf.Item q x))
      (same_number i j t) same.item)
  at_form (Expr-F.Output p i k) (Expr-F.Output q j m) s t =
      let two = both (nat_eq i j) (nat_eq k m) t in
      rolled _ _ (expr.rolls-Output p i k) (expr.rolls-Output q j m)
      (subst (λ (x : ℕ). Same g h (leaf.Output p i k) (leaf.Output q x m)) (same_number i j two.0)
      (subst (λ (x : ℕ). Same g h (leaf.Output p i k) (leaf.Output q i x)) (same_number k m two.1) same.output))
  at_form (Expr-F.Local p k) (Expr-F.Local q m) s t =
      rolled _ _ (expr.rolls-Local p k) (expr.rolls-Local q m) (local_same p q k m t)
  at_form (Expr-F.Field p e k) (Expr-F.Field q f m) s t =
      let two = both (nat_eq k m) (tree e f) t in
      rolled _ _ (expr.rolls-Field p e k) (expr.rolls-Field q f m)
      (subst (λ (x : ℕ). Same g h (expr.Field p e k) (expr.Field q f x)) (same_number k m two.0)
      (same.field (s.0 f two.1)))
  at_form (Expr-F.Unary p o e) (Expr-F.Unary q u f) s t =
      let two = both (nat_eq (unary_number o) (unary_number u)) (tree e f) t in
      rolled _ _ (expr.rolls-Unary p o e) (expr.rolls-Unary q u f)
      (subst (λ x. Same g h (expr.Unary p o e) (expr.Unary q x f)) (unary_same o u two.0) (same.unary (s.0 f two.1)))
  at_form (Expr-F.Binary p o r a b) (Expr-F.Binary q u v c d) s t =
      let two = both (nat_eq (binary_number o) (binary_number u)) (tree a c && tree b d) t in
      let more = both (tree a c) (tree b d) two.1 in
      rolled _ _ (expr.rolls-Binary p o r a b) (expr.rolls-Binary q u v c d)
      (subst (λ x. Same g h (expr.Binary p o r a b) (expr.Binary q x v c d)) (binary_same o u two.0)
      (same.binary (s.0 c more.0) (s.1.0 d more.1)))
  at_form (Expr-F.And p a b) (Expr-F.And q c d) s t =
      let two = both (tree a c) (tree b d) t in
      rolled _ _ (expr.rolls-And p a b) (expr.rolls-And q c d) (same.both (s.0 c two.0) (s.1.0 d two.1))
  at_form (Expr-F.Or p a b) (Expr-F.Or q c d) s t =
      let two = both (tree a c) (tree b d) t in
      rolled _ _ (expr.rolls-Or p a b) (expr.rolls-Or q c d) (same.any (s.0 c two.0) (s.1.0 d two.1))
  at_form (Expr-F.If p x a b) (Expr-F.If q y c d) s t =
      let two = both (tree x y) (tree a c && tree b d) t in
      let more = both (tree a c) (tree b d) two.1 in
      rolled _ _ (expr.rolls-If p x a b) (expr.rolls-If q y c d)
      (same.choice (s.0 y two.0) (s.1.0 c more.0) (s.1.1.0 d more.1))
  at_form (Expr-F.Match p e xs) (Expr-F.Match q f ys) s t =
      let two = both (tree e f) (each_same (map arm xs) ys) t in
      rolled _ _ (expr.rolls-Match p e xs) (expr.rolls-Match q f ys)
      (same.matching (s.0 f two.0) (arms_sound xs ys s.1 two.1))
  at_form (Expr-F.IsCase p e n k) (Expr-F.IsCase q f m j) s t =
      let two = both (nat_eq n m) (nat_eq k j && tree e f) t in
      let more = both (nat_eq k j) (tree e f) two.1 in
      rolled _ _ (expr.rolls-IsCase p e n k) (expr.rolls-IsCase q f m j)
      (subst (λ (x : ℕ). Same g h (expr.IsCase p e n k) (expr.IsCase q f x j)) (same_number n m two.0)
      (subst (λ (x : ℕ). Same g h (expr.IsCase p e n k) (expr.IsCase q f n x)) (same_number k j more.0)
      (same.is_case (s.0 f more.1))))
  at_form (Expr-F.Case p n k None) (Expr-F.Case q m j None) s t =
      let two = both (nat_eq n m) (nat_eq k j) t in
      rolled _ _ (expr.rolls-Case p n k None) (expr.rolls-Case q m j None)
      (subst (λ (x : ℕ). Same g h (expr.Case p n k None) (expr.Case q x j None)) (same_number n m two.0)
      (subst (λ (x : ℕ). Same g h (expr.Case p n k None) (expr.Case q n x None)) (same_number k j two.1)
      same.case_alone))
  at_form (Expr-F.Case p n k (Some e)) (Expr-F.Case q m j (Some f)) s t =
      let two = both (nat_eq n m) (nat_eq k j && tree e f) t in
      let more = both (nat_eq k j) (tree e f) two.1 in
      rolled _ _ (expr.rolls-Case p n k (Some e)) (expr.rolls-Case q m j (Some f))
      (subst (λ (x : ℕ). Same g h (expr.Case p n k (Some e)) (expr.Case q x j (Some f))) (same_number n m two.0)
      (subst (λ (x : ℕ). Same g h (expr.Case p n k (Some e)) (expr.Case q n x (Some f))) (same_number k j more.0)
      (same.case_with (s.0 f more.1))))
  at_form (Expr-F.Case p n k None) (Expr-F.Case q m j (Some f)) s t = not_true t
  at_form (Expr-F.Case p n k (Some e)) (Expr-F.Case q m j None) s t = not_true t
  at_form (Expr-F.Structure p n xs) (Expr-F.Structure q m ys) s t =
      let two = both (nat_eq n m) (each_same (map field xs) ys) t in
      rolled _ _ (expr.rolls-Structure p n xs) (expr.rolls-Structure q m ys)
      (subst (λ (x : ℕ). Same g h (expr.Structure p n xs) (expr.Structure q x ys)) (same_number n m two.0)
      (same.structure (fields_sound xs ys s two.1)))
  at_form (Expr-F.List p es) (Expr-F.List q fs) s t =
      rolled _ _ (expr.rolls-List p es) (expr.rolls-List q fs) (same.list (all_sound es fs s t))
  at_form (Expr-F.ForAll p l e) (Expr-F.ForAll q m f) s t =
      let two = both (tree l m) (tree e f) t in
      rolled _ _ (expr.rolls-ForAll p l e) (expr.rolls-ForAll q m f) (same.for_all (s.0 m two.0) (s.1.0 f two.1))
  at_form (Expr-F.Exists p l e) (Expr-F.Exists q m f) s t =
      let two = both (tree l m) (tree e f) t in
      rolled _ _ (expr.rolls-Exists p l e) (expr.rolls-Exists q m f) (same.exists (s.0 m two.0) (s.1.0 f two.1))
  at_form (Expr-F.Map p l e) (Expr-F.Map q m f) s t =
      let two = both (tree l m) (tree e f) t in
      rolled _ _ (expr.rolls-Map p l e) (expr.rolls-Map q m f) (same.map_each (s.0 m two.0) (s.1.0 f two.1))
  at_form (Expr-F.Filter p l e) (Expr-F.Filter q m f) s t =
      let two = both (tree l m) (tree e f) t in
      rolled _ _ (expr.rolls-Filter p l e) (expr.rolls-Filter q m f) (same.filter (s.0 m two.0) (s.1.0 f two.1))
  at_form (Expr-F.Combine p l x e) (Expr-F.Combine q m y f) s t =
      let two = both (tree l m) (tree x y && tree e f) t in
      let more = both (tree x y) (tree e f) two.1 in
      rolled _ _ (expr.rolls-Combine p l x e) (expr.rolls-Combine q m y f)
      (same.combine (s.0 m two.0) (s.1.0 y more.0) (s.1.1.0 f more.1))
  at_form (Expr-F.Contains p r l e) (Expr-F.Contains q v m f) s t =
      let two = both (tree l m) (tree e f) t in
      rolled _ _ (expr.rolls-Contains p r l e) (expr.rolls-Contains q v m f)
      (same.contains (s.0 m two.0) (s.1.0 f two.1))
  at_form (Expr-F.Length p l) (Expr-F.Length q m) s t =
      rolled _ _ (expr.rolls-Length p l) (expr.rolls-Length q m) (same.number_of (s.0 m t))
  at_form (Expr-F.Sum p k l) (Expr-F.Sum q j m) s t =
      let two = both (nat_eq (sum_number k) (sum_number j)) (tree l m) t in
      rolled _ _ (expr.rolls-Sum p k l) (expr.rolls-Sum q j m) (subst (λ x. Same g h (expr.Sum p k l) (expr.Sum q x m))
      (sum_same k j two.0) (same.sum (s.0 m two.1)))
  at_form (Expr-F.Call p i es) (Expr-F.Call q j fs) s t =
      let two = both (nat_eq i j) (each_same (map tree es) fs) t in
      rolled _ _ (expr.rolls-Call p i es) (expr.rolls-Call q j fs)
      (subst (λ (x : ℕ). Same g h (expr.Call p i es) (expr.Call q x fs)) (same_number i j two.0)
      (same.call (all_sound es fs s two.1)))
  at_form (Expr-F.ScopeCall p i xs k) (Expr-F.ScopeCall q j ys m) s t =
      let two = both (nat_eq i j) (nat_eq k m && each_same (map field xs) ys) t in
      let more = both (nat_eq k m) (each_same (map field xs) ys) two.1 in
      rolled _ _ (expr.rolls-ScopeCall p i xs k) (expr.rolls-ScopeCall q j ys m)
      (subst (λ (x : ℕ). Same g h (expr.ScopeCall p i xs k) (expr.ScopeCall q x ys m)) (same_number i j two.0)
      (subst (λ (x : ℕ). Same g h (expr.ScopeCall p i xs k) (expr.ScopeCall q i ys x)) (same_number k m more.0)
      (same.scope_call (fields_sound xs ys s more.1))))
  at_form _ _ s t = not_true t

  step : (e : Expr) (y : Expr-F Expr Arm FieldValue) → out-Expr e ≡ y → AllHave Sound (parts_of y) → Sound e
  step e y is s f t =
      subst (λ x. Same g h x f) (ap roll-Expr (sym is) ∙ expr.roll-out-Expr e)
      (subst (λ x. Same g h (roll-Expr y) x) (expr.roll-out-Expr f)
      (at_form y (out-Expr f) s (subst (λ z. IsTrue (same_in g h (opened z) (out-Expr f))) is (sym (levels e f) ∙ t))))

  pub test_sound : (e f : Expr) → IsTrue (tree e f) → Same g h e f
  test_sound e = by_parts Sound step e

  -- ---- and the same ones pass

  found : (e f : Expr) {y z : Expr-F Expr Arm FieldValue} → out-Expr e ≡ y → out-Expr f ≡ z
      → IsTrue (same_in g h (opened y) z) → IsTrue (tree e f)
  found e f {y = y} is also t =
      levels e f ∙ ap (λ x. same_in g h (opened x) (out-Expr f)) is ∙ ap (λ x. same_in g h (opened y) x) also ∙ t

  mutual
    pub test_whole : {e f : Expr} → Same g h e f → IsTrue (tree e f)
    test_whole (same.literal {p = p} {q = q} {l = l}) =
        found _ _ (expr.outs-Literal p l) (expr.outs-Literal q l) (literal_self l)
    test_whole (same.item {p = p} {q = q} {i = i}) = found _ _ (expr.outs-Item p i) (expr.outs-Item q i) (nat_self i)
    test_whole (same.output {p = p} {q = q} {i = i} {k = k}) =
        found _ _ (expr.outs-Output p i k) (expr.outs-Output q i k) (and_both _ _ (nat_self i) (nat_self k))
    test_whole (same.parameter {p = p} {q = q} {k = k} one below under) =
        found _ _ (expr.outs-Local p k) (expr.outs-Local q k) (parameter_self k one below under)
    test_whole (same.bound {p = p} {q = q} k) =
        found _ _ (expr.outs-Local p (g.params + k)) (expr.outs-Local q (h.params + k)) (bound_self k)
    test_whole (same.field {p = p} {q = q} {e = e} {f = f} {k = k} s) =
        found _ _ (expr.outs-Field p e k) (expr.outs-Field q f k) (and_both _ _ (nat_self k) (test_whole s))
    test_whole (same.unary {p = p} {q = q} {o = o} {e = e} {f = f} s) =
        found _ _ (expr.outs-Unary p o e) (expr.outs-Unary q o f)
        (and_both _ _ (nat_self (unary_number o)) (test_whole s))
    test_whole (same.binary {p = p} {q = q} {r = r} {s = v} {o = o} {a = a} {b = b} {c = c} {d = d} s t) =
        found _ _ (expr.outs-Binary p o r a b) (expr.outs-Binary q o v c d)
        (and_both _ _ (nat_self (binary_number o)) (and_both _ _ (test_whole s) (test_whole t)))
    test_whole (same.both {p = p} {q = q} {a = a} {b = b} {c = c} {d = d} s t) =
        found _ _ (expr.outs-And p a b) (expr.outs-And q c d) (and_both _ _ (test_whole s) (test_whole t))
    test_whole (same.any {p = p} {q = q} {a = a} {b = b} {c = c} {d = d} s t) =
        found _ _ (expr.outs-Or p a b) (expr.outs-Or q c d) (and_both _ _ (test_whole s) (test_whole t))
    test_whole (same.choice {p = p} {q = q} {t = x} {a = a} {b = b} {u = y} {c = c} {d = d} r s t) =
        found _ _ (expr.outs-If p x a b) (expr.outs-If q y c d)
        (and_both _ _ (test_whole r) (and_both _ _ (test_whole s) (test_whole t)))
    test_whole (same.matching {p = p} {q = q} {e = e} {f = f} {xs = xs} {ys = ys} s t) =
        found _ _ (expr.outs-Match p e xs) (expr.outs-Match q f ys) (and_both _ _ (test_whole s) (arms_whole t))
    test_whole (same.is_case {p = p} {q = q} {e = e} {f = f} {n = n} {k = k} s) =
        found _ _ (expr.outs-IsCase p e n k) (expr.outs-IsCase q f n k)
        (and_both _ _ (nat_self n) (and_both _ _ (nat_self k) (test_whole s)))
    test_whole (same.case_alone {p = p} {q = q} {n = n} {k = k}) =
        found _ _ (expr.outs-Case p n k None) (expr.outs-Case q n k None) (and_both _ _ (nat_self n) (nat_self k))
    test_whole (same.case_with {p = p} {q = q} {n = n} {k = k} {e = e} {f = f} s) =
        found _ _ (expr.outs-Case p n k (Some e)) (expr.outs-Case q n k (Some f))
        (and_both _ _ (nat_self n) (and_both _ _ (nat_self k) (test_whole s)))
    test_whole (same.structure {p = p} {q = q} {n = n} {es = es} {fs = fs} s) =
        found _ _ (expr.outs-Structure p n es) (expr.outs-Structure q n fs) (and_both _ _ (nat_self n) (fields_whole s))
    test_whole (same.list {p = p} {q = q} {es = es} {fs = fs} s) =
        found _ _ (expr.outs-List p es) (expr.outs-List q fs) (all_whole s)
    test_whole (same.for_all {p = p} {q = q} {l = l} {e = e} {m = m} {f = f} s t) =
        found _ _ (expr.outs-ForAll p l e) (expr.outs-ForAll q m f) (and_both _ _ (test_whole s) (test_whole t))
    test_whole (same.exists {p = p} {q = q} {l = l} {e = e} {m = m} {f = f} s t) =
        found _ _ (expr.outs-Exists p l e) (expr.outs-Exists q m f) (and_both _ _ (test_whole s) (test_whole t))
    test_whole (same.map_each {p = p} {q = q} {l = l} {e = e} {m = m} {f = f} s t) =
        found _ _ (expr.outs-Map p l e) (expr.outs-Map q m f) (and_both _ _ (test_whole s) (test_whole t))
    test_whole (same.filter {p = p} {q = q} {l = l} {e = e} {m = m} {f = f} s t) =
        found _ _ (expr.outs-Filter p l e) (expr.outs-Filter q m f) (and_both _ _ (test_whole s) (test_whole t))
    test_whole (same.combine {p = p} {q = q} {l = l} {s = x} {e = e} {m = m} {t = y} {f = f} r s t) =
        found _ _ (expr.outs-Combine p l x e) (expr.outs-Combine q m y f)
        (and_both _ _ (test_whole r) (and_both _ _ (test_whole s) (test_whole t)))
    test_whole (same.contains {p = p} {q = q} {r = r} {s = v} {l = l} {e = e} {m = m} {f = f} s t) =
        found _ _ (expr.outs-Contains p r l e) (expr.outs-Contains q v m f) (and_both _ _ (test_whole s) (test_whole t))
    test_whole (same.number_of {p = p} {q = q} {l = l} {m = m} s) =
        found _ _ (expr.outs-Length p l) (expr.outs-Length q m) (test_whole s)
    test_whole (same.sum {p = p} {q = q} {k = k} {l = l} {m = m} s) =
        found _ _ (expr.outs-Sum p k l) (expr.outs-Sum q k m) (and_both _ _ (nat_self (sum_number k)) (test_whole s))
    test_whole (same.call {p = p} {q = q} {f = i} {es = es} {fs = fs} s) =
        found _ _ (expr.outs-Call p i es) (expr.outs-Call q i fs) (and_both _ _ (nat_self i) (all_whole s))
    test_whole (same.scope_call {p = p} {q = q} {s = i} {k = k} {es = es} {fs = fs} s) =
        found _ _ (expr.outs-ScopeCall p i es k) (expr.outs-ScopeCall q i fs k)
        (and_both _ _ (nat_self i) (and_both _ _ (nat_self k) (fields_whole s)))

    all_whole : {es fs : List Expr} → SameAll g h es fs → IsTrue (each_same (map tree es) fs)
    all_whole same.all_none = refl
    all_whole (same.all_more {e = e} {f = f} {es = es} {fs = fs} s t) = and_both _ _ (test_whole s) (all_whole t)

    fields_whole : {xs ys : List FieldValue} → SameFields g h xs ys → IsTrue (each_same (map field xs) ys)
    fields_whole same.fields_none = refl
    fields_whole (same.fields_more {e = e} {f = f} {es = es} {fs = fs} n s t) =
        and_both _ _ (field_is e f ∙ and_both _ _ (subst (λ (x : ℕ). IsTrue (nat_eq e.field x)) n (nat_self e.field))
        (test_whole s)) (fields_whole t)

    arms_whole : {xs ys : List Arm} → SameArms g h xs ys → IsTrue (each_same (map arm xs) ys)
    arms_whole same.arms_none = refl
    arms_whole (same.arms_more {a = a} {b = b} {xs = xs} {ys = ys} n s t) =
        and_both _ _
        (arm_is a b ∙ and_both _ _ (subst (λ x. IsTrue (same_pattern a.pattern x)) n (pattern_self a.pattern))
        (test_whole s)) (arms_whole t)

pub test_decides : (g h : Standing) (e f : Expr) → IsTrue (same_tree g h e f) ↔ Same g h e f
test_decides g h e f = (test_sound g h e f, test_whole g h)
