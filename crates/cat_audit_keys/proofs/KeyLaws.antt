-- Expressions have one key exactly where they agree but for positions.
use Rattle.std.proofs.Common.{◌≡◌, ℕ, ◌+◌, ◌-◌, ◌<◌, nat_lt, Bool, true, false, List, [], ◌∷◌, ◌++◌, map}
use Rattle.std.proofs.Common.{length, Some, None, refl, sym, ap, ◌∙◌, arith, if◌then◌else◌}
use Rattle.std.proofs.lemmas.Bool.Decides.{nat_tests}
use Rattle.std.proofs.lemmas.List.{append_assoc}
use Rattle.cat_scope.specs.declared.expr.Expr.{Expr}
use Rattle.cat_scope.specs.declared.expr.Arm.{Arm}
use Rattle.cat_scope.specs.declared.expr.ArmPattern.{ArmPattern}
use Rattle.cat_scope.specs.declared.expr.FieldValue.{FieldValue}
use Rattle.cat_scope.specs.declared.expr.Expr.TheViews as expr
use Rattle.cat_scope.specs.declared.expr.Expr.TheViews.{out-Expr}
use Rattle.cat_scope.specs.Names.{AllHave}
use Rattle.cat_scope.specs.OperatorNumbers.{unary_number, binary_number, sum_number}
use Rattle.cat_scope.specs.Same.{Standing, Same, SameAll, SameFields, SameArms}
use Rattle.cat_scope.specs.Same as same
use Rattle.cat_scope.specs.SameTree.{same_tree, same_in}
use Rattle.cat_sound.proofs.Exported.{by_parts, parts_of}
use Rattle.cat_audit_keys.specs.Keys.{Branch, Slot, form_number, own_numbers, parts, bodies, values, key_in, key_of}
use Rattle.cat_audit_keys.specs.Keys.{patterns_numbers, field_numbers, local_numbers, joined, spelled}
use Rattle.cat_audit_keys.proofs.KeyNumbers.{one_number, Told, told}
use Rattle.cat_audit_keys.proofs.KeyForms.{Form, arm_of, field_of, opened, key_level, arm_is, field_is, parts_are}
use Rattle.cat_audit_keys.proofs.KeyForms.{form_is, tests, test_level, EachSame, same_form}

abbrev pair : ℕ → List ℕ → Slot (List ℕ)
pair n k = (n, k)

abbrev branch : ArmPattern → List ℕ → Branch (List ℕ)
branch p k = (p, k)

module _ (g h : Standing) where
  -- ---- one key tells that they are the same

  abbrev Tells : Expr → Type 0
  Tells e = (f : Expr) (xs ys : List ℕ) → key_of g e ++ xs ≡ key_of h f ++ ys
      → (same_tree g h e f ≡ true) × (xs ≡ ys)

  pairs : (es fs : List Expr) → AllHave Tells es → (xs ys : List ℕ)
      → length (map (key_of g) es) ≡ length (map (key_of h) fs)
      → joined (map (key_of g) es) ++ xs ≡ joined (map (key_of h) fs) ++ ys → EachSame g h es fs × (xs ≡ ys)
  pairs [] [] all xs ys many e = (tt, e)
  pairs [] (f ∷ fs) all xs ys many e = absurd (omega (arith, many))
  pairs (d ∷ es) [] all xs ys many e = absurd (omega (arith, many))
  pairs (d ∷ es) (f ∷ fs) all xs ys many e =
      let first = all.0 f (joined (map (key_of g) es) ++ xs) (joined (map (key_of h) fs) ++ ys)
      (sym (append_assoc (key_of g d) (joined (map (key_of g) es)) xs) ∙ e
      ∙ append_assoc (key_of h f) (joined (map (key_of h) fs)) ys) in
      let rest = pairs es fs all.1 xs ys (omega (arith, many)) first.1 in
      ((first.0, rest.0), rest.1)

  pub tells : (e : Expr) → Tells e
  tells = by_parts Tells (λ e y is inner f xs ys eq.
      let z = out-Expr f in
      let one : Told (form_number (opened g y)) (own_numbers g (opened g y)) (parts (opened g y)) xs
      (form_number (opened h z)) (own_numbers h (opened h z)) (parts (opened h z)) ys =
      told (form_number (opened g y)) (own_numbers g (opened g y)) (parts (opened g y)) xs
      (form_number (opened h z)) (own_numbers h (opened h z)) (parts (opened h z)) ys
      (ap (λ (k : List ℕ). k ++ xs) (sym (key_level g e ∙ ap (λ (x : Form). key_in g (opened g x)) is)) ∙ eq
      ∙ ap (λ (k : List ℕ). k ++ ys) (key_level h f)) in
      let two = pairs (parts_of y) (parts_of z) inner xs ys
      (ap length (sym (parts_are g y)) ∙ one.many ∙ ap length (parts_are h z))
      (ap (λ (ks : List (List ℕ)). joined ks ++ xs) (sym (parts_are g y)) ∙ one.rest
      ∙ ap (λ (ks : List (List ℕ)). joined ks ++ ys) (parts_are h z)) in (
        test_level g h e f ∙ ap (λ (x : Form). same_in g h (tests g h x) z) is
            ∙ same_form g h y z (one_number (form_number y) (form_number z)
            (sym (form_is g y) ∙ one.forms ∙ form_is h z)) one.owns two.0,
        two.1,
      ))

  -- ---- the same have one key

  found : (e f : Expr) {y z : Form} → out-Expr e ≡ y → out-Expr f ≡ z
      → key_in g (opened g y) ≡ key_in h (opened h z) → key_of g e ≡ key_of h f
  found e f {y = y} is also k =
      key_level g e ∙ ap (λ (x : Form). key_in g (opened g x)) is ∙ k
      ∙ sym (key_level h f ∙ ap (λ (x : Form). key_in h (opened h x)) also)

  parameter_key : (k : ℕ) → g.function ≡ h.function → k < g.params → k < h.params
      → local_numbers g k ≡ local_numbers h k
  parameter_key k one below under =
      ap (λ (b : Bool). if b then 0 ∷ g.function ∷ k ∷ [] else 1 ∷ 0 ∷ (k - g.params) ∷ []) (yes_below k g.params below)
      ∙ ap (λ (n : ℕ). 0 ∷ n ∷ k ∷ []) one
      ∙ sym (ap (λ (b : Bool). if b then 0 ∷ h.function ∷ k ∷ [] else 1 ∷ 0 ∷ (k - h.params) ∷ [])
      (yes_below k h.params under))
    where
      yes_below : (k n : ℕ) → k < n → nat_lt k n ≡ true
      yes_below k n l = grind (arith, nat_tests)

  bound_key : (k : ℕ) → local_numbers g (g.params + k) ≡ local_numbers h (h.params + k)
  bound_key k = at g k ∙ sym (at h k)
    where
      not_below : (n k : ℕ) → nat_lt (n + k) n ≡ false
      not_below n k = grind (arith, nat_tests)

      left : (n k : ℕ) → n + k - n ≡ k
      left n k = omega arith

      at : (s : Standing) (k : ℕ) → local_numbers s (s.params + k) ≡ 1 ∷ 0 ∷ k ∷ []
      at s k =
          ap (λ (b : Bool). if b then 0 ∷ s.function ∷ (s.params + k) ∷ [] else 1 ∷ 0 ∷ (s.params + k - s.params) ∷ [])
          (not_below s.params k)
          ∙ ap (λ (n : ℕ). 1 ∷ 0 ∷ n ∷ []) (left s.params k)

  abbrev one : ℕ → List ℕ → List ℕ → List ℕ
  one form own a = spelled form own (a ∷ [])

  two_parts : (form : ℕ) (own : List ℕ) {a b c d : List ℕ} → a ≡ c → b ≡ d
      → spelled form own (a ∷ b ∷ []) ≡ spelled form own (c ∷ d ∷ [])
  two_parts form own {b = b} {c = c} s t =
      ap (λ (k : List ℕ). spelled form own (k ∷ b ∷ [])) s ∙ ap (λ (k : List ℕ). spelled form own (c ∷ k ∷ [])) t

  three_parts : (form : ℕ) (own : List ℕ) {a b c d e f : List ℕ} → a ≡ d → b ≡ e → c ≡ f
      → spelled form own (a ∷ b ∷ c ∷ []) ≡ spelled form own (d ∷ e ∷ f ∷ [])
  three_parts form own {b = b} {c = c} {d = d} {e = e} r s t =
      ap (λ (k : List ℕ). spelled form own (k ∷ b ∷ c ∷ [])) r
      ∙ ap (λ (k : List ℕ). spelled form own (d ∷ k ∷ c ∷ [])) s
      ∙ ap (λ (k : List ℕ). spelled form own (d ∷ e ∷ k ∷ [])) t

  mutual
    pub one_key : {e f : Expr} → Same g h e f → key_of g e ≡ key_of h f
    one_key (same.literal {p = p} {q = q} {l = l}) = found _ _ (expr.outs-Literal p l) (expr.outs-Literal q l) refl
    one_key (same.item {p = p} {q = q} {i = i}) = found _ _ (expr.outs-Item p i) (expr.outs-Item q i) refl
    one_key (same.output {p = p} {q = q} {i = i} {k = k}) =
        found _ _ (expr.outs-Output p i k) (expr.outs-Output q i k) refl
    one_key (same.parameter {p = p} {q = q} {k = k} one_function below under) =
        found _ _ (expr.outs-Local p k) (expr.outs-Local q k)
        (ap (λ (n : List ℕ). spelled 3 n []) (parameter_key k one_function below under))
    one_key (same.bound {p = p} {q = q} k) =
        found _ _ (expr.outs-Local p (g.params + k)) (expr.outs-Local q (h.params + k))
        (ap (λ (n : List ℕ). spelled 3 n []) (bound_key k))
    one_key (same.field {p = p} {q = q} {e = e} {f = f} {k = k} s) =
        found _ _ (expr.outs-Field p e k) (expr.outs-Field q f k) (ap (one 4 (k ∷ [])) (one_key s))
    one_key (same.unary {p = p} {q = q} {o = o} {e = e} {f = f} s) =
        found _ _ (expr.outs-Unary p o e) (expr.outs-Unary q o f) (ap (one 5 (unary_number o ∷ [])) (one_key s))
    one_key (same.binary {p = p} {q = q} {r = r} {s = v} {o = o} {a = a} {b = b} {c = c} {d = d} s t) =
        found _ _ (expr.outs-Binary p o r a b) (expr.outs-Binary q o v c d)
        (two_parts 6 (binary_number o ∷ []) (one_key s) (one_key t))
    one_key (same.both {p = p} {q = q} {a = a} {b = b} {c = c} {d = d} s t) =
        found _ _ (expr.outs-And p a b) (expr.outs-And q c d) (two_parts 7 [] (one_key s) (one_key t))
    one_key (same.any {p = p} {q = q} {a = a} {b = b} {c = c} {d = d} s t) =
        found _ _ (expr.outs-Or p a b) (expr.outs-Or q c d) (two_parts 8 [] (one_key s) (one_key t))
    one_key (same.choice {p = p} {q = q} {t = x} {a = a} {b = b} {u = y} {c = c} {d = d} r s t) =
        found _ _ (expr.outs-If p x a b) (expr.outs-If q y c d)
        (three_parts 9 [] (one_key r) (one_key s) (one_key t))
    one_key (same.matching {p = p} {q = q} {e = e} {f = f} {xs = xs} {ys = ys} s t) =
        found _ _ (expr.outs-Match p e xs) (expr.outs-Match q f ys)
        (ap (λ (k : List ℕ). spelled 10 (patterns_numbers (map (arm_of g) xs)) (k ∷ bodies (map (arm_of g) xs)))
        (one_key s)
        ∙ ap (λ (arms : List (Branch (List ℕ))). spelled 10 (patterns_numbers arms) (key_of h f ∷ bodies arms))
        (arms_keys t))
    one_key (same.is_case {p = p} {q = q} {e = e} {f = f} {n = n} {k = k} s) =
        found _ _ (expr.outs-IsCase p e n k) (expr.outs-IsCase q f n k) (ap (one 11 (n ∷ k ∷ [])) (one_key s))
    one_key (same.case_alone {p = p} {q = q} {n = n} {k = k}) =
        found _ _ (expr.outs-Case p n k None) (expr.outs-Case q n k None) refl
    one_key (same.case_with {p = p} {q = q} {n = n} {k = k} {e = e} {f = f} s) =
        found _ _ (expr.outs-Case p n k (Some e)) (expr.outs-Case q n k (Some f))
        (ap (one 12 (n ∷ k ∷ [])) (one_key s))
    one_key (same.structure {p = p} {q = q} {n = n} {es = es} {fs = fs} s) =
        found _ _ (expr.outs-Structure p n es) (expr.outs-Structure q n fs)
        (ap (λ (fields : List (Slot (List ℕ))). spelled 13 (n ∷ field_numbers fields) (values fields)) (fields_keys s))
    one_key (same.list {p = p} {q = q} {es = es} {fs = fs} s) =
        found _ _ (expr.outs-List p es) (expr.outs-List q fs) (ap (spelled 14 []) (all_keys s))
    one_key (same.for_all {p = p} {q = q} {l = l} {e = e} {m = m} {f = f} s t) =
        found _ _ (expr.outs-ForAll p l e) (expr.outs-ForAll q m f) (two_parts 15 [] (one_key s) (one_key t))
    one_key (same.exists {p = p} {q = q} {l = l} {e = e} {m = m} {f = f} s t) =
        found _ _ (expr.outs-Exists p l e) (expr.outs-Exists q m f) (two_parts 16 [] (one_key s) (one_key t))
    one_key (same.map_each {p = p} {q = q} {l = l} {e = e} {m = m} {f = f} s t) =
        found _ _ (expr.outs-Map p l e) (expr.outs-Map q m f) (two_parts 17 [] (one_key s) (one_key t))
    one_key (same.filter {p = p} {q = q} {l = l} {e = e} {m = m} {f = f} s t) =
        found _ _ (expr.outs-Filter p l e) (expr.outs-Filter q m f) (two_parts 18 [] (one_key s) (one_key t))
    one_key (same.combine {p = p} {q = q} {l = l} {s = x} {e = e} {m = m} {t = y} {f = f} r s t) =
        found _ _ (expr.outs-Combine p l x e) (expr.outs-Combine q m y f)
        (three_parts 19 [] (one_key r) (one_key s) (one_key t))
    one_key (same.contains {p = p} {q = q} {r = r} {s = v} {l = l} {e = e} {m = m} {f = f} s t) =
        found _ _ (expr.outs-Contains p r l e) (expr.outs-Contains q v m f)
        (two_parts 20 [] (one_key s) (one_key t))
    one_key (same.number_of {p = p} {q = q} {l = l} {m = m} s) =
        found _ _ (expr.outs-Length p l) (expr.outs-Length q m) (ap (one 21 []) (one_key s))
    one_key (same.sum {p = p} {q = q} {k = k} {l = l} {m = m} s) =
        found _ _ (expr.outs-Sum p k l) (expr.outs-Sum q k m) (ap (one 22 (sum_number k ∷ [])) (one_key s))
    one_key (same.call {p = p} {q = q} {f = i} {es = es} {fs = fs} s) =
        found _ _ (expr.outs-Call p i es) (expr.outs-Call q i fs) (ap (spelled 23 (i ∷ [])) (all_keys s))
    one_key (same.scope_call {p = p} {q = q} {s = i} {k = k} {es = es} {fs = fs} s) =
        found _ _ (expr.outs-ScopeCall p i es k) (expr.outs-ScopeCall q i fs k)
        (ap (λ (fields : List (Slot (List ℕ))). spelled 24 (i ∷ k ∷ field_numbers fields) (values fields))
        (fields_keys s))

    all_keys : {es fs : List Expr} → SameAll g h es fs → map (key_of g) es ≡ map (key_of h) fs
    all_keys same.all_none = refl
    all_keys (same.all_more {e = e} {f = f} {es = es} {fs = fs} s t) =
        ap (λ (k : List ℕ). k ∷ map (key_of g) es) (one_key s)
        ∙ ap (λ (ks : List (List ℕ)). key_of h f ∷ ks) (all_keys t)

    fields_keys : {xs ys : List FieldValue} → SameFields g h xs ys → map (field_of g) xs ≡ map (field_of h) ys
    fields_keys same.fields_none = refl
    fields_keys (same.fields_more {e = e} {f = f} {es = es} {fs = fs} n s t) =
        ap (λ (x : Slot (List ℕ)). x ∷ map (field_of g) es)
        (field_is g e ∙ ap (λ (x : ℕ). pair x (key_of g e.value)) n
        ∙ ap (λ (k : List ℕ). pair f.field k) (one_key s) ∙ sym (field_is h f))
        ∙ ap (λ (xs : List (Slot (List ℕ))). field_of h f ∷ xs) (fields_keys t)

    arms_keys : {xs ys : List Arm} → SameArms g h xs ys → map (arm_of g) xs ≡ map (arm_of h) ys
    arms_keys same.arms_none = refl
    arms_keys (same.arms_more {a = a} {b = b} {xs = xs} {ys = ys} n s t) =
        ap (λ (x : Branch (List ℕ)). x ∷ map (arm_of g) xs)
        (arm_is g a ∙ ap (λ (x : ArmPattern). branch x (key_of g a.body)) n
        ∙ ap (λ (k : List ℕ). branch b.pattern k) (one_key s) ∙ sym (arm_is h b))
        ∙ ap (λ (xs : List (Branch (List ℕ))). arm_of h b ∷ xs) (arms_keys t)
