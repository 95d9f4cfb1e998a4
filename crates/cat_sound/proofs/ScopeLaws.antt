-- A scope is run where the scopes that it calls give what their runs give.
use Rattle.std.proofs.Common.{◌≡◌, ℕ, zero, suc, ◌<◌, Bool, true, false, IsTrue, List, [], ◌∷◌, length, Some}
use Rattle.std.proofs.Common.{slice_get, refl, sym, ap, ◌∙◌, subst, arith, true≢false, if◌then◌else◌}
use Rattle.std.specs.Prelude.{nat_eq}
use Rattle.std.proofs.lemmas.Bool.Decides.{nat_tests}
use Rattle.std.proofs.lemmas.Option.{slice_get_within}
use Rattle.std.proofs.Math.Bool.{Bool-set}
use Rattle.std.proofs.Math.Logic.{∥∥₁_elim}
use Rattle.std.proofs.Props.{props}
use Rattle.std.specs.Coded.{le_prop}
use Rattle.cat_order.specs.Order.{dependencies_of}
use Rattle.cat_value.specs.declared.decls.Decls.{Decls}
use Rattle.cat_value.specs.declared.declaration.Scope.{Scope}
use Rattle.cat_scope.specs.declared.defs.Body.{Body}
use Rattle.cat_scope.specs.declared.defs.SourcePart.{SourcePart}
use Rattle.cat_scope.specs.declared.defs.SourcePart.TheVariants as part
use Rattle.cat_scope.specs.Names.{AllHave, is_in}
use Rattle.cat_scope.specs.Orders.{calls_in, scope_dependencies}
use Rattle.cat_scope.specs.WellFormed.{IsWhole, IsWellFormed}
use Rattle.cat_scope.specs.Calls.{Items, Runs}
use Rattle.cat_scope.specs.Running.{backwards}
use Rattle.cat_scope.specs.Running.{run_scoped, run_scope, run, run_of, scoped_of}
use Rattle.cat_sound.proofs.FormTypes.{same_some, same_number, not_true}
use Rattle.cat_sound.proofs.TargetTypes.{all_more}
use Rattle.cat_sound.proofs.OrderFacts.{AllIn, Behind, Ahead, moved-behind, moved_new, ahead-of_IsOrder, all-of_IsOrder}
use Rattle.cat_sound.proofs.OrderFacts.{scopes-length, scopes-at, all_once}
use Rattle.cat_sound.proofs.RunTypes.{called-all, body_at}
use Rattle.cat_sound.proofs.FunctionLaws.{Distinct, distinct_order, other_than, needs_behind}
use Rattle.cat_sound.proofs.ScopeSame.{scoped_same}

-- ---- the scopes of a program

-- each body's source has one declaration, and each of its definitions and assertions
abbrev AreWhole : List Scope → List Body → Type 0
AreWhole scopes bodies =
    (k : ℕ) (body : Body) → slice_get bodies k ≡ Some body
    → IsWhole body.source 1 (length body.defs) (length body.assertions)

found : {A : Type 0} (xs : List A) (k : ℕ) → k < length xs → (x : A) × (slice_get xs k ≡ Some x)
found [] k below = absurd (omega arith)
found (x ∷ xs) zero below = (x, refl)
found (x ∷ xs) (suc k) below = found xs k (omega arith)

module _ (ds : Decls) (bodies : List Body) (counted : length bodies ≡ length ds.scopes)
    (are : AreWhole ds.scopes bodies) where
  abbrev calls : ℕ → List ℕ
  calls k = dependencies_of (scope_dependencies ds.scopes bodies) k

  -- a scope that is run in two ways, which are one for the scopes that it calls
  one_same : (runs others : Runs) (k : ℕ) → k < length ds.scopes
      → AllHave (λ s. (input : Items) → runs s input ≡ others s input) (calls k) → (input : Items)
      → run_scope ds.scopes runs k (slice_get ds.scopes k) (slice_get bodies k) input ≡ run_scope ds.scopes others k
      (slice_get ds.scopes k) (slice_get bodies k) input
  one_same runs others k below h input =
      let scope = found ds.scopes k below in
      let body = found bodies k (omega (arith, counted, below)) in
      let those = all_once (λ s. (i : Items) → runs s i ≡ others s i) [] (calls_in scope.0.items body.0) tt
      (subst (λ (ks : List ℕ). AllHave (λ s. (i : Items) → runs s i ≡ others s i) ks)
      (scopes-at ds.scopes bodies k scope.0 body.0 scope.1 body.1) h) in
      let called = called-all
      (λ s. (i : Items) → runs s i ≡ others s i) scope.0.items body.0.source 1 body.0.defs body.0.assertions
      (are k body.0 body.1) those in
      found_as runs k scope.0 body.0 scope.1 body.1
      ∙ scoped_same k scope.0.items body.0 ds.scopes runs others
      called.by_defs called.by_assertions (called.by_items (omega arith)) input
      ∙ sym (found_as others k scope.0 body.0 scope.1 body.1)
    where
      found_as : (rs : Runs) (n : ℕ) (scope : Scope) (body : Body) → slice_get ds.scopes n ≡ Some scope
          → slice_get bodies n ≡ Some body
          → run_scope ds.scopes rs n (slice_get ds.scopes n) (slice_get bodies n) input ≡ run_scope ds.scopes rs n
          (Some scope) (Some body) input
      found_as rs n scope body is also =
          ap (λ o. run_scope ds.scopes rs n o (slice_get bodies n) input) is
          ∙ ap (λ o. run_scope ds.scopes rs n (Some scope) o input) also

  one_behind : (m : ℕ) (before : List ℕ) (k : ℕ) (input : Items) → is_in m before ≡ false → IsTrue (is_in k before)
      → run ds.scopes bodies (m ∷ before) k input ≡ run ds.scopes bodies before k input
  one_behind m before k input out there =
      ap (λ (b : Bool). if b then run_scope ds.scopes (run ds.scopes bodies before) m (slice_get ds.scopes m)
      (slice_get bodies m) input else run ds.scopes bodies before k input) (other_than m k before out there)

  further : (m : ℕ) (before : List ℕ) (k : ℕ) → k < length ds.scopes → is_in m before ≡ false
      → AllIn before (calls k) → (input : Items)
      → run_scope ds.scopes (run ds.scopes bodies before) k (slice_get ds.scopes k) (slice_get bodies k) input
      ≡ run_scope ds.scopes (run ds.scopes bodies (m ∷ before)) k (slice_get ds.scopes k) (slice_get bodies k) input
  further m before k below out have input =
      one_same (run ds.scopes bodies before) (run ds.scopes bodies (m ∷ before)) k below
      (all_more (λ s. IsTrue (is_in s before)) (λ s. (i : Items)
      → run ds.scopes bodies before s i ≡ run ds.scopes bodies (m ∷ before) s i) (calls k) have
      (λ s there i. sym (one_behind m before s i out there))) input

  below_all : (before : List ℕ) → Behind (length ds.scopes) calls before → (k : ℕ) → IsTrue (is_in k before)
      → k < length ds.scopes
  below_all [] behind k there = not_true there
  below_all (m ∷ before) behind k there = by (nat_eq k m) refl there (below_all before behind.2 k)
    where
      by : (b : Bool) → nat_eq k m ≡ b → IsTrue (if b then true else is_in k before)
          → (IsTrue (is_in k before) → k < length ds.scopes) → k < length ds.scopes
      by true e g rest = subst (λ (x : ℕ). x < length ds.scopes) (sym (same_number k m e)) behind.0
      by false e g rest = rest g

  pub by_rule : (whole : List ℕ) → Behind (length ds.scopes) calls whole → Distinct whole → (k : ℕ)
      → IsTrue (is_in k whole) → (input : Items)
      → run ds.scopes bodies whole k input ≡ run_scope ds.scopes (run ds.scopes bodies whole) k
      (slice_get ds.scopes k) (slice_get bodies k) input
  by_rule [] behind differ k there input = not_true there
  by_rule (m ∷ before) behind differ k there input =
      by (nat_eq m k) refl (λ g. by_rule before behind.2 differ.1 k g input)
    where
      inside : nat_eq m k ≡ false → IsTrue (is_in k before)
      inside e = find (nat_eq k m) refl there
        where
          turned : (x y : ℕ) → nat_eq x y ≡ true → nat_eq y x ≡ true
          turned x y q = grind (arith, nat_tests)

          find : (c : Bool) → nat_eq k m ≡ c → IsTrue (if c then true else is_in k before) → IsTrue (is_in k before)
          find true q g = absurd (true≢false (sym (turned k m q) ∙ e))
          find false q g = g

      by : (b : Bool) → nat_eq m k ≡ b
          → (IsTrue (is_in k before) → run ds.scopes bodies before k input ≡ run_scope ds.scopes
          (run ds.scopes bodies before) k (slice_get ds.scopes k) (slice_get bodies k) input)
          → (if b then run_scope ds.scopes (run ds.scopes bodies before) m (slice_get ds.scopes m)
          (slice_get bodies m) input else run ds.scopes bodies before k input)
          ≡ run_scope ds.scopes (run ds.scopes bodies (m ∷ before)) k (slice_get ds.scopes k) (slice_get bodies k) input
      by true e rest =
          ap (λ (x : ℕ). run_scope ds.scopes (run ds.scopes bodies before) x (slice_get ds.scopes x)
          (slice_get bodies x) input) (same_number m k e)
          ∙ further m before k (subst (λ (x : ℕ). x < length ds.scopes) (same_number m k e) behind.0) differ.0
          (subst (λ (x : ℕ). AllIn before (calls x)) (same_number m k e) behind.1) input
      by false e rest =
          rest (inside e) ∙ further m before k (below_all before behind.2 k (inside e)) differ.0
          (needs_behind (length ds.scopes) calls before k behind.2 (inside e)) input

-- ---- what is asked of a program, each with one proof

IsWhole-prop : (source : List SourcePart) (n defs assertions : ℕ) → IsProp (IsWhole source n defs assertions)
IsWhole-prop [] n defs assertions = hlevel props
IsWhole-prop (part.Declaration ∷ source) zero defs assertions = hlevel props
IsWhole-prop (part.Declaration ∷ source) (suc n) defs assertions = IsWhole-prop source n defs assertions
IsWhole-prop (part.Condition e ∷ source) n defs assertions = IsWhole-prop source n defs assertions
IsWhole-prop (part.Definition ∷ source) n zero assertions = hlevel props
IsWhole-prop (part.Definition ∷ source) n (suc defs) assertions = IsWhole-prop source n defs assertions
IsWhole-prop (part.Assertion ∷ source) n defs zero = hlevel props
IsWhole-prop (part.Assertion ∷ source) n defs (suc assertions) = IsWhole-prop source n defs assertions

AllIn-prop : (before ns : List ℕ) → IsProp (AllIn before ns)
AllIn-prop before [] = hlevel Bool-set
AllIn-prop before (n ∷ ns) = hlevel (Bool-set (is_in n before) true, AllIn-prop before ns)

Behind-prop : (bound : ℕ) (needs : ℕ → List ℕ) (before : List ℕ) → IsProp (Behind bound needs before)
Behind-prop bound needs [] = hlevel Bool-set
Behind-prop bound needs (n ∷ before) = hlevel (le_prop, AllIn-prop before (needs n), Behind-prop bound needs before)

Distinct-prop : (ns : List ℕ) → IsProp (Distinct ns)
Distinct-prop [] = hlevel Bool-set
Distinct-prop (n ∷ ns) = hlevel (Bool-set (is_in n ns) false, Distinct-prop ns)

module _ (ds : Decls) (bodies : List Body) (order : List ℕ) where
  abbrev called_by : ℕ → List ℕ
  called_by k = dependencies_of (scope_dependencies ds.scopes bodies) k

  whole_of : IsWellFormed ds bodies order → AreWhole ds.scopes bodies
  whole_of formed k body is =
      let at = body_at ds 0 ds.scopes bodies k formed.bodies_are
      (omega (arith, formed.counted, slice_get_within bodies k body is)) in
      subst (λ (b : Body). IsWhole b.source 1 (length b.defs) (length b.assertions))
      (same_some at.body body (sym at.body_is ∙ is)) at.is.source

  behind_of : IsWellFormed ds bodies order → Behind (length ds.scopes) called_by (backwards order)
  behind_of formed =
      moved-behind (length ds.scopes) called_by [] order tt
      (subst (λ (n : ℕ). Ahead n called_by [] order) (scopes-length ds.scopes bodies formed.counted)
      (ahead-of_IsOrder (scope_dependencies ds.scopes bodies) order formed.order))

  pub differ_of : IsWellFormed ds bodies order → Distinct (backwards order)
  differ_of formed =
      distinct_order (scope_dependencies ds.scopes bodies) order (length ds.scopes) called_by formed.order
      (scopes-length ds.scopes bodies formed.counted) (behind_of formed)

  there_of : IsWellFormed ds bodies order → (k : ℕ) → k < length ds.scopes → IsTrue (is_in k (backwards order))
  there_of formed k below =
      moved_new k [] order (all-of_IsOrder (scope_dependencies ds.scopes bodies) order formed.order k
      (omega (arith, scopes-length ds.scopes bodies formed.counted, below)))

  -- a scope of a program is run where each scope that it calls gives what it gives in the program
  pub scopes_by_rule : ∥ IsWellFormed ds bodies order ∥₁ → (k : ℕ) (scope : Scope) (body : Body) (input : Items)
      → slice_get ds.scopes k ≡ Some scope → slice_get bodies k ≡ Some body
      → run_of ds.scopes bodies order k input ≡ run_scoped
      (scoped_of k scope.items body ds.scopes (run_of ds.scopes bodies order)) input
  unfolding run_of
  scopes_by_rule formed k scope body input is also =
      by_rule ds bodies
      (∥∥₁_elim formed (hlevel props) (λ f. f.counted))
      (λ n b at. ∥∥₁_elim formed (IsWhole-prop b.source 1 (length b.defs) (length b.assertions))
      (λ f. whole_of f n b at))
      (backwards order)
      (∥∥₁_elim formed (Behind-prop (length ds.scopes) called_by (backwards order)) behind_of)
      (∥∥₁_elim formed (Distinct-prop (backwards order)) differ_of)
      k (∥∥₁_elim formed (Bool-set (is_in k (backwards order)) true)
      (λ f. there_of f k (slice_get_within ds.scopes k scope is))) input
      ∙ ap (λ o. run_scope ds.scopes (run ds.scopes bodies (backwards order)) k o (slice_get bodies k) input) is
      ∙ ap (λ o. run_scope ds.scopes (run ds.scopes bodies (backwards order)) k (Some scope) o input) also
