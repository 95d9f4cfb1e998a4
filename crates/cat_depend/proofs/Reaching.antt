-- What holds of the scopes that an audit goes through.
use Rattle.std.proofs.Common.{◌≡◌, ◌<◌, ℕ, Bool, true, false, IsTrue, List, [], ◌∷◌, ◌++◌, length, refl, sym, ap, ◌∙◌}
use Rattle.std.proofs.Common.{subst, arith}
use Rattle.std.specs.Prelude.{filter}
use Rattle.cat_order.specs.Order.{dependencies_of}
use Rattle.cat_scope.specs.declared.programs.Program.{Program}
use Rattle.cat_scope.specs.Names.{AllHave, all_differ, is_in}
use Rattle.cat_scope.specs.WellFormed.{IsWellFormed}
use Rattle.cat_scope.proofs.Exported.{append_append}
use Rattle.cat_sound.specs.Settled.{IsClosed}
use Rattle.cat_depend.specs.Reached.{IsReached, AreReachedFrom, EndsWith, StandBehind, calls_in}
use Rattle.cat_depend.specs.Reached as reach
use Rattle.cat_depend.proofs.Members.{Split, all_have, apart, in_back, in_front, in_here}
use Rattle.cat_depend.proofs.Members.{kept_all, kept_append, kept_at, kept_differ, kept_in, kept_none}
use Rattle.cat_depend.proofs.Members.{listed_of_in, split_at, in_of_listed}
use Rattle.cat_depend.proofs.Orderly.{IsOrderly, counted, orderly}

all_more : (P Q : ℕ → Type 0) (ns : List ℕ) → ((n : ℕ) → P n → Q n) → AllHave P ns → AllHave Q ns
all_more P Q [] go h = tt
all_more P Q (n ∷ ns) go h = (go n h.0, all_more P Q ns go h.1)

abbrev Formed : Program → Type 0
Formed program = ∥ IsWellFormed program.decls program.bodies program.scope_order ∥₁

module _ (program : Program) (formed : Formed program) (scope : ℕ) (scopes : List ℕ)
    (are : AreReachedFrom program scope scopes) where
  abbrev deps : List (List ℕ)
  deps = calls_in program

  abbrev order : List ℕ
  order = program.scope_order

  is : IsOrderly deps order
  is = orderly program.decls program.bodies order formed

  -- what a scope calls that is reached is reached
  called_reached : (n m : ℕ) → are.is_reached n ≡ true → is_in m (dependencies_of deps n) ≡ true
      → are.is_reached m ≡ true
  called_reached n m there on =
      (are.decides m).1 (reach.further n m ((are.decides n).0 there) (listed_of_in (dependencies_of deps n) m on))

  behind_one : (front back : List ℕ) (n : ℕ) → scopes ≡ front ++ n ∷ back
      → AllHave (λ m. IsTrue (is_in m front)) (dependencies_of deps n)
  behind_one front back n at =
      let k = kept_at are.is_reached order front n back (sym are.scopes_are ∙ at) in
      all_have (λ m. IsTrue (is_in m front)) (dependencies_of deps n)
      (λ m on. subst (λ (ns : List ℕ). is_in m ns ≡ true) k.front_is
      (kept_in are.is_reached m k.before (is.needs k.before k.behind n m k.is on) (called_reached n m k.passes on)))

  pub stand_behind : StandBehind deps scopes
  stand_behind front back n at = behind_one front back n at

  pub are_closed : IsClosed (λ n. is_in n scopes) program.decls program.bodies
  are_closed k h =
      let s = split_at scopes k h in
      all_more (λ m. IsTrue (is_in m s.front)) (λ m. IsTrue (is_in m scopes)) (dependencies_of deps k)
      (λ m there. subst (λ (ns : List ℕ). is_in m ns ≡ true) (sym s.is) (in_front m s.front (k ∷ s.back) there))
      (behind_one s.front s.back k s.is)

  pub stand_once : IsTrue (all_differ scopes)
  stand_once = subst (λ (ns : List ℕ). all_differ ns ≡ true) (sym are.scopes_are)
      (kept_differ are.is_reached order is.differ)

  pub each_reached : AllHave (IsReached deps scope) scopes
  each_reached = subst (AllHave (IsReached deps scope)) (sym are.scopes_are)
      (kept_all are.is_reached (IsReached deps scope) order (λ n h passes. (are.decides n).0 passes))

  pub each_below : AllHave (λ n. n < length program.bodies) scopes
  each_below = subst (AllHave (λ n. n < length program.bodies)) (sym are.scopes_are)
      (kept_all are.is_reached (λ n. n < length program.bodies) order
      (λ n h passes. let below = is.below n h in
      let same = counted program.decls program.bodies order formed in omega (arith, below, same)))

  -- ---- the last one

  -- what is reached from the last number of a front stands in that front
  reached_in : (front back : List ℕ) → order ≡ front ++ back → (from : ℕ) → is_in from front ≡ true
      → (n : ℕ) → IsReached deps from n → is_in n front ≡ true
  reached_in front back at from there n reach.itself = there
  reached_in front back at from there n (reach.further via to r on) =
      let s = split_at front via (reached_in front back at from there via r) in
      subst (λ (ns : List ℕ). is_in to ns ≡ true) (sym s.is)
      (in_front to s.front (via ∷ s.back)
      (is.needs s.front (s.back ++ back) via to
      (at ∙ ap (λ (ns : List ℕ). ns ++ back) s.is ∙ append_append s.front (via ∷ s.back) back)
      (in_of_listed (dependencies_of deps via) to on)))

  -- nothing behind a scope is reached from it
  none_behind : (s : Split order scope) (n : ℕ) → is_in n s.back ≡ true → (b : Bool) → are.is_reached n ≡ b
      → are.is_reached n ≡ false
  none_behind s n h false e = e
  none_behind s n h true e =
      let at : order ≡ (s.front ++ scope ∷ []) ++ s.back =
      s.is ∙ sym (append_append s.front (scope ∷ []) s.back) in
      absurd (apart n (s.front ++ scope ∷ []) s.back
      (subst (λ (ns : List ℕ). all_differ ns ≡ true) at is.differ)
      (reached_in (s.front ++ scope ∷ []) s.back at scope (in_back scope s.front (scope ∷ []) (in_here scope [])) n
      ((are.decides n).0 e)) h)

  the_last : (s : Split order scope) → filter are.is_reached (scope ∷ s.back) ≡ scope ∷ []
  the_last s = rw ((are.decides scope).1 reach.itself)
      (ap (λ (ns : List ℕ). scope ∷ ns)
      (kept_none are.is_reached s.back (λ n h. none_behind s n h (are.is_reached n) refl)))

  pub ends : scope < length program.bodies → EndsWith scope scopes
  ends within =
      let same = counted program.decls program.bodies order formed in
      let s = split_at order scope (is.all scope (omega (arith, within, same))) in (
        filter are.is_reached s.front,
        are.scopes_are ∙ ap (filter are.is_reached) s.is
            ∙ kept_append are.is_reached s.front (scope ∷ s.back)
            ∙ ap (λ (ns : List ℕ). filter are.is_reached s.front ++ ns) (the_last s),
      )
