-- The lists of items by scopes, one item after another.
use Rattle.std.proofs.Common.{◌≡◌, ◌∙◌, ℕ, ◌+◌, ◌≤◌, ◌<◌, Bool, true, false, List, [], ◌∷◌, ◌++◌, Option, Some, None}
use Rattle.std.proofs.Common.{length, get_or, nat_eq, refl, ap, sym, subst, arith}
use Rattle.std.specs.Prelude.{cond, option_map, set}
use Rattle.std.proofs.lemmas.List.{get_or-set_same, get_or-set_other, length-set, append-nil}
use Rattle.std.proofs.lemmas.List.{get_or_default}
use Rattle.std.proofs.lemmas.Bool.{eqb-false, eqb-true}
use Rattle.std.proofs.lemmas.Option.{slice_get_within}
use Rattle.cat_value.specs.declared.declaration.Scope.{Scope}
use Rattle.cat_value.specs.declared.decls.Decls.{Decls}
use Rattle.cat_tree.specs.declared.program.Item.{Item}
use Rattle.cat_tree.specs.declared.program.Item.TheVariants as item
use Rattle.cat_names.specs.Lines.{is_about, is_number, items_about}
use Rattle.cat_names.specs.Lookup.{scope_named}
use Rattle.cat_names.proofs.Exported.{first_is}
use Rattle.cat_check.specs.inside.ByScope.{AreByScope, scope_about, with_item}

-- whether that is the number of a scope that there is
abbrev is_at : ℕ → Option ℕ → Bool
is_at n None = false
is_at n (Some k) = nat_eq k n

number_is : (n : ℕ) (found : Option (ℕ × Scope)) → is_number n found ≡ is_at n (option_map (λ s. s.0) found)
number_is n None = refl
number_is n (Some s) = refl

about_is : (ds : Decls) (n : ℕ) (x : Item) → is_about ds n x ≡ is_at n (scope_about ds x)
about_is ds n (item.Scope p u variables) = number_is n (scope_named u.text ds.scopes)
about_is ds n (item.Block b) = number_is n (scope_named b.name.text ds.scopes)
about_is ds n _ = refl

within_scopes : (w : List ℕ) (scopes : List Scope) (k : ℕ) → option_map (λ s. s.0) (scope_named w scopes) ≡ Some k
    → k < length scopes
within_scopes w scopes k h = by (scope_named w scopes) refl h
  where
    by : (found : Option (ℕ × Scope)) → scope_named w scopes ≡ found → option_map (λ s. s.0) found ≡ Some k
        → k < length scopes
    by None is g = cc g
    by (Some s) is g =
        let at : s.0 ≡ k = cc g in
        subst (λ (n : ℕ). n < length scopes) at
        (slice_get_within scopes s.0 s.1 (first_is (λ s. s.name) w scopes s is))

-- the scope that an item is about is one of them
pub about_within : (ds : Decls) (x : Item) (k : ℕ) → scope_about ds x ≡ Some k → k < length ds.scopes
about_within ds (item.Scope p u variables) k h = within_scopes u.text ds.scopes k h
about_within ds (item.Block b) k h = within_scopes b.name.text ds.scopes k h
about_within ds (item.Structure p u fields) k h = cc h
about_within ds (item.Enumeration p u cases) k h = cc h

about_append : (ds : Decls) (n : ℕ) (xs ys : List Item)
    → items_about ds n (xs ++ ys) ≡ items_about ds n xs ++ items_about ds n ys
about_append ds n [] ys = refl
about_append ds n (x ∷ xs) ys = by (is_about ds n x) (about_append ds n xs ys)
  where
    by : (b : Bool) → items_about ds n (xs ++ ys) ≡ items_about ds n xs ++ items_about ds n ys
        → cond b (x ∷ items_about ds n (xs ++ ys)) (items_about ds n (xs ++ ys))
        ≡ cond b (x ∷ items_about ds n xs) (items_about ds n xs) ++ items_about ds n ys
    by true h = ap (λ more. x ∷ more) h
    by false h = h

-- the items about a scope, one item on
about_more : (ds : Decls) (n : ℕ) (items : List Item) (x : Item)
    → items_about ds n (items ++ x ∷ []) ≡ items_about ds n items ++ cond (is_at n (scope_about ds x)) (x ∷ []) []
about_more ds n items x = about_append ds n items (x ∷ [])
    ∙ ap (λ (b : Bool). items_about ds n items ++ cond b (x ∷ []) []) (about_is ds n x)

-- an item that is about no scope
no_scope : (ds : Decls) (items : List Item) (lists : List (List Item)) (x : Item) → scope_about ds x ≡ None
    → AreByScope ds items lists → AreByScope ds (items ++ x ∷ []) lists
no_scope ds items lists x none h = record {
  count = h.count;
  each = λ n few. h.each n few ∙ sym (about_more ds n items x
      ∙ ap (λ found. items_about ds n items ++ cond (is_at n found) (x ∷ []) []) none
      ∙ append-nil (items_about ds n items));
}

-- an item that is about a scope
one_scope : (ds : Decls) (items : List Item) (lists : List (List Item)) (k : ℕ) (x : Item)
    → scope_about ds x ≡ Some k → AreByScope ds items lists
    → AreByScope ds (items ++ x ∷ []) (with_item (Some k) x lists)
one_scope ds items lists k x some h = record {
  count = length-set lists k (get_or lists k [] ++ x ∷ []) ∙ h.count;
  each = λ n few. by n few (nat_eq k n) refl ∙ sym (about_more ds n items x
      ∙ ap (λ found. items_about ds n items ++ cond (is_at n found) (x ∷ []) []) some);
}
  where
    by : (n : ℕ) → n < length ds.scopes → (b : Bool) → nat_eq k n ≡ b
        → get_or (set lists k (get_or lists k [] ++ x ∷ [])) n [] ≡ items_about ds n items ++ cond b (x ∷ []) []
    by n few true same =
        let is : k ≡ n = eqb-true k n same in
        let few' : k < length ds.scopes = about_within ds x k some in
        let inside : k < length lists = subst (λ (m : ℕ). k < m) (sym h.count) few' in
        subst (λ (m : ℕ). get_or (set lists k (get_or lists k [] ++ x ∷ [])) m [] ≡ items_about ds m items ++ x ∷ []) is
        (get_or-set_same lists k (get_or lists k [] ++ x ∷ []) [] inside
        ∙ ap (λ front. front ++ x ∷ []) (h.each k few'))
    by n few false other =
        get_or-set_other lists k n (get_or lists k [] ++ x ∷ []) [] (λ is. eqb-false k n other (sym is))
        ∙ h.each n few ∙ sym (append-nil (items_about ds n items))

-- an item on
pub listed_more : (ds : Decls) (items : List Item) (lists : List (List Item)) (x : Item) → AreByScope ds items lists
    → AreByScope ds (items ++ x ∷ []) (with_item (scope_about ds x) x lists)
listed_more ds items lists x h = by (scope_about ds x) refl
  where
    by : (found : Option ℕ) → scope_about ds x ≡ found
        → AreByScope ds (items ++ x ∷ []) (with_item found x lists)
    by None none = no_scope ds items lists x none h
    by (Some k) some = one_scope ds items lists k x some h

-- ---- one list after another

-- the lists of a number and behind it are still those of the scopes
pub record AreLeft (ds : Decls) (items : List Item) (number : ℕ) (lists : List (List Item)) : Type 0 where
  pub count : length lists ≡ length ds.scopes
  pub each : (n : ℕ) → number ≤ n → n < length ds.scopes → get_or lists n [] ≡ items_about ds n items

-- the list of the number, whatever were read where there is none
pub left_at : (ds : Decls) (items : List Item) (number : ℕ) (lists : List (List Item)) (x : List Item)
    → AreLeft ds items number lists → number < length ds.scopes → get_or lists number x ≡ items_about ds number items
left_at ds items number lists x h few =
    get_or_default lists number x [] (subst (λ (m : ℕ). number < m) (sym h.count) few) ∙ h.each number (omega arith) few

-- one list is taken
pub left_less : (ds : Decls) (items : List Item) (number : ℕ) (lists : List (List Item)) (x : List Item)
    → AreLeft ds items number lists → AreLeft ds items (number + 1) (set lists number x)
left_less ds items number lists x h = record {
  count = length-set lists number x ∙ h.count;
  each = λ n from few. get_or-set_other lists number n x [] (λ is. less_apart n number from is)
      ∙ h.each n (omega (arith, from)) few;
}
  where
    less_apart : (n number : ℕ) → number + 1 ≤ n → n ≡ number → ⊥
    less_apart n number from is = absurd (omega (arith, from, is))
