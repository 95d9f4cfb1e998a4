-- Tables of the targets of a forest, with one target more.
use Rattle.std.proofs.Common.{◌≡◌, ◌∙◌, ℕ, zero, suc, ◌+◌, ◌<◌, nat_eq, Bool, true, false, ◌&&◌, ◌||◌, cond, List, []}
use Rattle.std.proofs.Common.{◌∷◌, ◌++◌, length, take, get_or, Option, Some, None, slice_get, refl, sym, ap, subst}
use Rattle.std.proofs.Common.{arith, rules, true≢false, if◌then◌else◌, Result, Ok, Err, IfOk}
use Rattle.std.proofs.lemmas.Bool.Decides.{nat_tests}
use Rattle.std.specs.Option.{option_eq}
use Rattle.std.proofs.lemmas.List.{take_more, length-take}
use Rattle.std.proofs.lemmas.Option.{slice_get_within, slice_get-get_or}
use Rattle.indexmap.specs.IndexMap.{IndexMap, get}
use Rattle.cat_value.specs.declared.outcome.Target.{Target}
use Rattle.cat_scope.specs.declared.defs.Def.{Def}
use Rattle.cat_scope.specs.declared.forest.ForestTarget.{ForestTarget}
use Rattle.cat_scope.specs.Groups.{groups_of}
use Rattle.cat_scope.specs.Targets.{same_inner, same_target, defs_from}
use Rattle.cat_sound.proofs.Exported.{all_at, same_some}
use Rattle.cat_calc.specs.inside.Numbered.{groups_in}
use Rattle.cat_calc.specs.inside.Terms.{one_of, target_term}
use Rattle.cat_calc.specs.inside.Items.{target_at, term_at}
use Rattle.cat_calc.specs.inside.Tabled.{TargetKey, same_key, is_at, is_any_at, IsAt, IsFound, IsTableOf, IsForestOf}
use Rattle.cat_calc.specs.inside.Tabled.{AreTargetsOf}

-- ---- a target more

inner_key : (a b : Option ℕ) → option_eq nat_eq a b ≡ same_inner a b
inner_key None None = refl
inner_key None (Some n) = refl
inner_key (Some n) None = refl
inner_key (Some n) (Some m) = refl

at_key : (t : ForestTarget) (item : ℕ) (inner : Option ℕ)
    → same_key (t.target.item, t.target.inner) (item, inner) ≡ is_at t item inner
at_key t item inner = ap (λ b. nat_eq t.target.item item && b) (inner_key t.target.inner inner)

pub in_front : {A : Type 0} (xs ys : List A) (i : ℕ) (x : A) → slice_get xs i ≡ Some x → slice_get (xs ++ ys) i ≡ Some x
in_front [] ys i x is = absurd (cc (is))
in_front (y ∷ xs) ys zero x is = is
in_front (y ∷ xs) ys (suc i) x is = in_front xs ys i x is

pub at_last : {A : Type 0} (xs : List A) (x : A) → slice_get (xs ++ x ∷ []) (length xs) ≡ Some x
at_last [] x = refl
at_last (y ∷ xs) x = at_last xs x

any_push : (ts : List ForestTarget) (t : ForestTarget) (item : ℕ) (inner : Option ℕ)
    → is_any_at ts item inner ≡ false → is_at t item inner ≡ false → is_any_at (ts ++ t ∷ []) item inner ≡ false
any_push [] t item inner none other = ap (λ b. b || false) other
any_push (u ∷ ts) t item inner none other = by (is_at u item inner) none (any_push ts t item inner)
  where
    by : (b : Bool) → (b || is_any_at ts item inner) ≡ false
        → (is_any_at ts item inner ≡ false → is_at t item inner ≡ false → is_any_at (ts ++ t ∷ []) item inner ≡ false)
        → (b || is_any_at (ts ++ t ∷ []) item inner) ≡ false
    by true h rest = h
    by false h rest = rest h other

at_some : (o : Option ForestTarget) (t : ForestTarget) (item : ℕ) (inner : Option ℕ) → o ≡ Some t
    → is_at t item inner ≡ true → IsAt o item inner
at_some o t item inner is at = subst (λ p. IsAt p item inner) (sym is) at

found_push : (front : List ForestTarget) (t : ForestTarget) (item : ℕ) (inner : Option ℕ) (b : Bool) (o : Option ℕ)
    → is_at t item inner ≡ b → IsFound front item inner o
    → IsFound (front ++ t ∷ []) item inner (cond b (Some (length front)) o)
found_push front t item inner true o at found =
    at_some (slice_get (front ++ t ∷ []) (length front)) t item inner (at_last front t) at
found_push front t item inner false None at found = any_push front t item inner found at
found_push front t item inner false (Some n) at found = by (slice_get front n) refl found
  where
    by : (p : Option ForestTarget) → slice_get front n ≡ p → IsAt p item inner
        → IsAt (slice_get (front ++ t ∷ []) n) item inner
    by None e h = elim h [ ]
    by (Some u) e h = at_some (slice_get (front ++ t ∷ []) n) u item inner (in_front front (t ∷ []) n u e) h

pub one_target_more : {S : Type 0} (targets : List ForestTarget) (i : ℕ) (t : ForestTarget)
    (table new : IndexMap TargetKey ℕ S) → i < length targets → get_or targets i t ≡ t
    → IsTableOf (take i targets) table
    → ((q : TargetKey) → get same_key new q
    ≡ cond (same_key (t.target.item, t.target.inner) q) (Some i) (get same_key table q))
    → IsTableOf (take (i + 1) targets) new
one_target_more targets i t table new within is before added item inner =
    let many : length (take i targets) ≡ i = search (rules, length-take) in
    let now : get same_key new (item, inner)
    ≡ cond (is_at t item inner) (Some (length (take i targets))) (get same_key table (item, inner)) =
    added (item, inner)
    ∙ ap (λ b. cond b (Some i) (get same_key table (item, inner))) (at_key t item inner)
    ∙ ap (λ (n : ℕ). cond (is_at t item inner) (Some n) (get same_key table (item, inner))) (sym many) in
    subst (λ front. IsFound front item inner (get same_key new (item, inner)))
    (sym (take_more targets i t within ∙ ap (λ u. take i targets ++ u ∷ []) is))
    (subst (λ o. IsFound (take i targets ++ t ∷ []) item inner o) (sym now)
    (found_push (take i targets) t item inner (is_at t item inner) (get same_key table (item, inner)) refl
    (before item inner)))

-- ---- which definitions a target has doesn't hang on the number of its scope

scope_alone : (target : Target) (n : ℕ) (defs : List Def)
    → defs_from target n defs ≡ defs_from (target_at target.item target.inner) n defs
scope_alone target n [] = refl
scope_alone target n (d ∷ defs) =
    ap (λ rest. if same_target d.target target then (n, d) ∷ rest else rest) (scope_alone target (n + 1) defs)

pub groups_alone : (defs : List Def) (target : Target)
    → groups_in defs target ≡ groups_in defs (target_at target.item target.inner)
groups_alone defs target = ap groups_of (scope_alone target 0 defs)

-- targets of one item and inner item are the same but for their scopes
same_number : (n m : ℕ) → nat_eq n m ≡ true → n ≡ m
same_number n m is = grind (arith, nat_tests, is)

inner_is : (a b : Option ℕ) → same_inner a b ≡ true → a ≡ b
inner_is None None is = refl
inner_is None (Some n) is = absurd (true≢false (sym is))
inner_is (Some n) None is = absurd (true≢false (sym is))
inner_is (Some n) (Some m) is = ap Some (same_number n m is)

both : (a b : Bool) → (a && b) ≡ true → (a ≡ true) × (b ≡ true)
both true true is = (refl, refl)
both true false is = absurd (true≢false (sym is))
both false b is = absurd (true≢false (sym is))

-- what a target that is the same has for its item and its inner item
pub same_parts : (p q : Target) → same_target p q ≡ true → (p.item ≡ q.item) × (p.inner ≡ q.inner)
same_parts p q is =
    let parts = both (nat_eq p.item q.item) (same_inner p.inner q.inner) is in
    (same_number p.item q.item parts.0, inner_is p.inner q.inner parts.1)

pub groups_same : (defs : List Def) (t : ForestTarget) (item : ℕ) (inner : Option ℕ) → is_at t item inner ≡ true
    → groups_in defs t.target ≡ groups_in defs (target_at item inner)
groups_same defs t item inner at =
    let parts = same_parts t.target (target_at item inner) at in
    groups_alone defs t.target ∙ ap (λ (n : ℕ). groups_in defs (target_at n t.target.inner)) parts.0
    ∙ ap (λ o. groups_in defs (target_at item o)) parts.1

-- ---- what is found

-- a target that is found
pub record IsThere (defs : List Def) (targets : List ForestTarget) (item : ℕ) (inner : Option ℕ) (n : ℕ)
    (found : ForestTarget) : Type 0 where
  pub forest : IsForestOf defs found
  pub groups : groups_in defs found.target ≡ groups_in defs (target_at item inner)

there_at : (targets : List ForestTarget) (n : ℕ) (item : ℕ) (inner : Option ℕ) (o : Option ForestTarget)
    → slice_get targets n ≡ o → IsAt o item inner
    → (t : ForestTarget) × (slice_get targets n ≡ Some t) × (is_at t item inner ≡ true)
there_at targets n item inner None is h = elim h [ ]
there_at targets n item inner (Some t) is h = (t, is, h)

found_at : {S : Type 0} (targets : List ForestTarget) (table : IndexMap TargetKey ℕ S) (item : ℕ) (inner : Option ℕ)
    (n : ℕ) → IsTableOf targets table → get same_key table (item, inner) ≡ Some n
    → (t : ForestTarget) × (slice_get targets n ≡ Some t) × (is_at t item inner ≡ true)
found_at targets table item inner n is at =
    there_at targets n item inner (slice_get targets n) refl
    (subst (λ o. IsFound targets item inner o) at (is item inner))

pub found_within : {S : Type 0} (targets : List ForestTarget) (table : IndexMap TargetKey ℕ S) (item : ℕ)
    (inner : Option ℕ) (n : ℕ) → IsTableOf targets table → get same_key table (item, inner) ≡ Some n
    → n < length targets
found_within targets table item inner n is at =
    let found = found_at targets table item inner n is at in slice_get_within targets n found.0 found.1

pub found_there : {S : Type 0} (defs : List Def) (targets : List ForestTarget) (table : IndexMap TargetKey ℕ S)
    (item : ℕ) (inner : Option ℕ) (n : ℕ) (t : ForestTarget) → AreTargetsOf defs targets → IsTableOf targets table
    → get same_key table (item, inner) ≡ Some n → slice_get targets n ≡ Some t → IsThere defs targets item inner n t
found_there defs targets table item inner n t stand is at there =
    let found = found_at targets table item inner n is at in
    let same : found.0 ≡ t = same_some found.0 t (sym found.1 ∙ there) in
    record {
      forest = all_at (IsForestOf defs) targets n t stand.each there;
      groups = groups_same defs t item inner (subst (λ (u : ForestTarget). is_at u item inner ≡ true) same found.2);
    }

-- one that isn't found has no definitions
pub not_found : {S : Type 0} (defs : List Def) (targets : List ForestTarget) (table : IndexMap TargetKey ℕ S)
    (item : ℕ) (inner : Option ℕ) → AreTargetsOf defs targets → IsTableOf targets table
    → get same_key table (item, inner) ≡ None → one_of [] ≡ term_at defs item inner
not_found defs targets table item inner stand is at =
    ap target_term (sym (stand.others item inner (subst (λ o. IsFound targets item inner o) at (is item inner))))

-- one that is read is found
pub found_read : {S : Type 0} (defs : List Def) (targets : List ForestTarget) (table : IndexMap TargetKey ℕ S)
    (item : ℕ) (inner : Option ℕ) (n : ℕ) (t : ForestTarget) → AreTargetsOf defs targets → IsTableOf targets table
    → get same_key table (item, inner) ≡ Some n → t ≡ get_or targets n t → IsThere defs targets item inner n t
found_read defs targets table item inner n t stand is at read =
    found_there defs targets table item inner n t stand is at
    (slice_get-get_or targets n t (found_within targets table item inner n is at) ∙ ap Some (sym read))

pub if_same : {A E : Type 0} (r : Result A E) (a b : A) → a ≡ b → IfOk r (λ x. x ≡ a) → IfOk r (λ x. x ≡ b)
if_same (Ok x) a b same is = is ∙ same
if_same (Err e) a b same is = is
