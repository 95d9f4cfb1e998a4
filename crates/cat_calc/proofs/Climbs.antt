-- From the roots of a target on, each group is reached once: a group excepts at most one.
use Rattle.std.proofs.Common.{◌≡◌, ◌∙◌, ℕ, zero, suc, ◌+◌, ◌<◌, ◌≤◌, nat_eq, Bool, true, false, List, [], ◌∷◌, Option}
use Rattle.std.proofs.Common.{Some, None, refl, sym, ap, subst, arith, true≢false, if◌then◌else◌}
use Rattle.std.proofs.lemmas.Bool.Decides.{nat_tests}
use Rattle.cat_order.specs.Order.{times}
use Rattle.cat_scope.specs.declared.defs.Except.{Except}
use Rattle.cat_scope.specs.declared.defs.Except.TheVariants as except
use Rattle.cat_scope.specs.Groups.{Group, group_numbers, is_none, roots_of, target_of, paired, pairs_from, excepts}
use Rattle.cat_scope.specs.Groups.{excepting}

-- ---- sums

abbrev pub sum_of : (ℕ → ℕ) → List ℕ → ℕ
sum_of f [] = 0
sum_of f (n ∷ ns) = f n + sum_of f ns

sums_below : (f g : ℕ → ℕ) (ns : List ℕ) → ((n : ℕ) → f n ≤ g n) → sum_of f ns ≤ sum_of g ns
sums_below f g [] below = omega arith
sums_below f g (n ∷ ns) below = omega (arith, below n, sums_below f g ns below)

sums_added : (f g : ℕ → ℕ) (ns : List ℕ) → sum_of (λ n. f n + g n) ns ≡ sum_of f ns + sum_of g ns
sums_added f g [] = omega arith
sums_added f g (n ∷ ns) = omega (arith, sums_added f g ns)

pub sums_none : (ns : List ℕ) → sum_of (λ n. 0) ns ≡ 0
sums_none [] = refl
sums_none (n ∷ ns) = omega (arith, sums_none ns)

-- one where two numbers are the same
abbrev pub one_if : Bool → ℕ
one_if b = if b then 1 else 0

sums_counted : (h : ℕ) (ns : List ℕ) → sum_of (λ n. one_if (nat_eq n h)) ns ≡ times ns h
sums_counted h [] = refl
sums_counted h (n ∷ ns) = ap (λ (m : ℕ). one_if (nat_eq n h) + m) (sums_counted h ns)

-- ---- the group that a group excepts

abbrev pub up_from : List Group → ℕ → List Group → ℕ → Option ℕ
up_from all n [] h = None
up_from all n (g ∷ gs) h = if nat_eq n h then target_of all g.except else up_from all (n + 1) gs h

abbrev pub is_up : Option ℕ → ℕ → ℕ
is_up None g = 0
is_up (Some p) g = one_if (nat_eq g p)

-- numbers that come later are no earlier ones
later_pairs : (all : List Group) (n : ℕ) (gs : List Group) (g h : ℕ) → h < n
    → times (excepting (pairs_from all n gs) g) h ≡ 0
later_pairs all n [] g h before = refl
later_pairs all n (x ∷ gs) g h before =
    by (target_of all x.except) (later_pairs all (n + 1) gs g h (omega (arith, before)))
  where
    kept : (b : Bool) → times (excepting (pairs_from all (n + 1) gs) g) h ≡ 0
        → times (if b then n ∷ excepting (pairs_from all (n + 1) gs) g else excepting (pairs_from all (n + 1) gs) g) h
        ≡ 0
    kept true rest = grind (arith, nat_tests, before, rest)
    kept false rest = rest

    by : (o : Option ℕ) → times (excepting (pairs_from all (n + 1) gs) g) h ≡ 0
        → times (excepting (paired n o (pairs_from all (n + 1) gs)) g) h ≡ 0
    by None rest = rest
    by (Some p) rest = kept (nat_eq p g) rest

-- a group is among those that except another at most once, and only where it excepts that one
pub up_once : (all : List Group) (n : ℕ) (gs : List Group) (g h : ℕ)
    → times (excepting (pairs_from all n gs) g) h ≤ is_up (up_from all n gs h) g
up_once all n [] g h = omega arith
up_once all n (x ∷ gs) g h =
    by (nat_eq n h) refl (target_of all x.except) (up_once all (n + 1) gs g h)
    (λ before. later_pairs all (n + 1) gs g h before)
  where
    rest : List ℕ
    rest = excepting (pairs_from all (n + 1) gs) g

    here : (p : ℕ) (b : Bool) → nat_eq p g ≡ b → nat_eq n h ≡ true → times rest h ≡ 0
        → times (if b then n ∷ rest else rest) h ≤ one_if (nat_eq g p)
    here p true same is none = grind (arith, nat_tests, same, is, none)
    here p false same is none = omega (arith, none)

    further : (b : Bool) → nat_eq n h ≡ false → times rest h ≤ is_up (up_from all (n + 1) gs h) g
        → times (if b then n ∷ rest else rest) h ≤ is_up (up_from all (n + 1) gs h) g
    further true is more = subst (λ (b : Bool). one_if b + times rest h ≤ is_up (up_from all (n + 1) gs h) g) (sym is)
        (omega (arith, more))
    further false is more = more

    by : (b : Bool) → nat_eq n h ≡ b → (o : Option ℕ) → times rest h ≤ is_up (up_from all (n + 1) gs h) g
        → (h < n + 1 → times rest h ≡ 0)
        → times (excepting (paired n o (pairs_from all (n + 1) gs)) g) h
        ≤ is_up (if b then o else up_from all (n + 1) gs h) g
    by true is None more later = omega (arith, later (grind (arith, nat_tests, is)))
    by true is (Some p) more later =
        here p (nat_eq p g) refl is (later (grind (arith, nat_tests, is)))
    by false is None more later = more
    by false is (Some p) more later = further (nat_eq p g) is more

-- ---- roots

no_target : (groups : List Group) (e : Except) → is_none e ≡ true → target_of groups e ≡ None
no_target groups except.No h = refl
no_target groups (except.OnlyRoot pos) h = absurd (true≢false (sym h))
no_target groups (except.Named pos label) h = absurd (true≢false (sym h))

later_roots : (n : ℕ) (gs : List Group) (h : ℕ) → h < n → times (group_numbers (λ g. is_none g.except) n gs) h ≡ 0
later_roots n [] h before = refl
later_roots n (x ∷ gs) h before = by (is_none x.except) (later_roots (n + 1) gs h (omega (arith, before)))
  where
    by : (b : Bool) → times (group_numbers (λ g. is_none g.except) (n + 1) gs) h ≡ 0
        → times (if b then n ∷ group_numbers (λ g. is_none g.except) (n + 1) gs
        else group_numbers (λ g. is_none g.except) (n + 1) gs) h ≡ 0
    by true rest = grind (arith, nat_tests, before, rest)
    by false rest = rest

-- one where there is none
abbrev pub one_where_none : Option ℕ → ℕ
one_where_none None = 1
one_where_none (Some p) = 0

-- a root stands once among the roots, and excepts no group
pub root_once : (all : List Group) (n : ℕ) (gs : List Group) (h : ℕ)
    → times (group_numbers (λ g. is_none g.except) n gs) h ≤ one_where_none (up_from all n gs h)
root_once all n [] h = omega arith
root_once all n (x ∷ gs) h =
    by (is_none x.except) refl (nat_eq n h) refl (root_once all (n + 1) gs h) (later_roots (n + 1) gs h)
  where
    rest : List ℕ
    rest = group_numbers (λ g. is_none g.except) (n + 1) gs

    by : (r : Bool) → is_none x.except ≡ r → (b : Bool) → nat_eq n h ≡ b
        → times rest h ≤ one_where_none (up_from all (n + 1) gs h) → (h < n + 1 → times rest h ≡ 0)
        → times (if r then n ∷ rest else rest) h
        ≤ one_where_none (if b then target_of all x.except else up_from all (n + 1) gs h)
    by true root true is more later =
        subst (λ (b : Bool). one_if b + times rest h ≤ one_where_none (target_of all x.except)) (sym is)
        (subst (λ (o : Option ℕ). 1 + times rest h ≤ one_where_none o) (sym (no_target all x.except root))
        (omega (arith, later (grind (arith, nat_tests, is)))))
    by true root false is more later =
        subst (λ (b : Bool). one_if b + times rest h ≤ one_where_none (up_from all (n + 1) gs h)) (sym is)
        (omega (arith, more))
    by false root true is more later =
        subst (λ (m : ℕ). m ≤ one_where_none (target_of all x.except))
        (sym (later (grind (arith, nat_tests, is)))) (omega arith)
    by false root false is more later = more

-- ---- from one group to another

-- how often a group is reached from another one, in chains of so many groups
unfoldable pub reach : List (ℕ × ℕ) → ℕ → ℕ → ℕ → ℕ
reach pairs zero g h = 0
reach pairs (suc room) g h = sum_of (λ e. reach pairs room e h) (excepting pairs g) + one_if (nat_eq g h)

-- what holds of the number that there is
abbrev pub climb_on : (ℕ → ℕ) → Option ℕ → ℕ
climb_on from None = 0
climb_on from (Some p) = from p

-- the same from the other end
unfoldable pub climb : (ℕ → Option ℕ) → ℕ → ℕ → ℕ → ℕ
climb up zero g h = 0
climb up (suc room) g h = one_if (nat_eq g h) + climb_on (climb up room g) (up h)

module _ (groups : List Group) where
  abbrev pub up : ℕ → Option ℕ
  up h = up_from groups 0 groups h

  -- a step from the one end is one from the other
  step : (room g h : ℕ)
      → sum_of (λ e. climb up room e h) (excepting (excepts groups) g) ≤ climb_on (climb up room g) (up h)
  unfolding climb
  step zero g h = subst (λ (n : ℕ). n ≤ climb_on (climb up zero g) (up h))
      (sym (sums_none (excepting (excepts groups) g))) (omega arith)
  step (suc room) g h =
      let es = excepting (excepts groups) g in
      let parts = sums_added (λ e. one_if (nat_eq e h)) (λ e. climb_on (climb up room e) (up h)) es in
      let counted = sums_counted h es in
      by (up h) refl (omega (arith, parts, counted)) (step room g)
    where
      by : (o : Option ℕ) → up h ≡ o
          → sum_of (λ e. climb up (suc room) e h) (excepting (excepts groups) g)
          ≤ times (excepting (excepts groups) g) h
          + sum_of (λ e. climb_on (climb up room e) (up h)) (excepting (excepts groups) g)
          → ((p : ℕ) → sum_of (λ e. climb up room e p) (excepting (excepts groups) g)
          ≤ climb_on (climb up room g) (up p))
          → sum_of (λ e. climb up (suc room) e h) (excepting (excepts groups) g) ≤ climb_on (climb up (suc room) g) o
      by None is whole steps =
          let once = up_once groups 0 groups g h in
          omega (
            arith,
            whole,
            subst (λ o. times (excepting (excepts groups) g) h ≤ is_up o g) is once,
            ap (λ o. sum_of (λ e. climb_on (climb up room e) o) (excepting (excepts groups) g)) is
                ∙ sums_none (excepting (excepts groups) g),
          )
      by (Some p) is whole steps =
          let once = up_once groups 0 groups g h in
          omega (
            arith,
            whole,
            subst (λ o. times (excepting (excepts groups) g) h ≤ is_up o g) is once,
            ap (λ o. sum_of (λ e. climb_on (climb up room e) o) (excepting (excepts groups) g)) is,
            steps p,
          )

  pub reach_climbs : (room g h : ℕ) → reach (excepts groups) room g h ≤ climb up room g h
  unfolding reach climb
  reach_climbs zero g h = omega arith
  reach_climbs (suc room) g h =
      omega (
        arith,
        sums_below (λ e. reach (excepts groups) room e h) (λ e. climb up room e h)
            (excepting (excepts groups) g) (λ e. reach_climbs room e h),
        step room g h,
      )

  -- from the roots on each group is reached at most once
  pub roots_climb : (room h : ℕ) → sum_of (λ g. climb up room g h) (roots_of groups) ≤ 1
  unfolding climb
  roots_climb zero h = subst (λ (n : ℕ). n ≤ 1) (sym (sums_none (roots_of groups))) (omega arith)
  roots_climb (suc room) h =
      let rs = roots_of groups in
      let parts = sums_added (λ g. one_if (nat_eq g h)) (λ g. climb_on (climb up room g) (up h)) rs in
      let counted = sums_counted h rs in
      by (up h) refl (omega (arith, parts, counted)) (roots_climb room)
    where
      by : (o : Option ℕ) → up h ≡ o
          → sum_of (λ g. climb up (suc room) g h) (roots_of groups)
          ≤ times (roots_of groups) h + sum_of (λ g. climb_on (climb up room g) (up h)) (roots_of groups)
          → ((p : ℕ) → sum_of (λ g. climb up room g p) (roots_of groups) ≤ 1)
          → sum_of (λ g. climb up (suc room) g h) (roots_of groups) ≤ 1
      by None is whole once_more =
          let once = root_once groups 0 groups h in
          omega (
            arith,
            whole,
            subst (λ o. times (roots_of groups) h ≤ one_where_none o) is once,
            ap (λ o. sum_of (λ g. climb_on (climb up room g) o) (roots_of groups)) is ∙ sums_none (roots_of groups),
          )
      by (Some p) is whole once_more =
          let once = root_once groups 0 groups h in
          omega (
            arith,
            whole,
            subst (λ o. times (roots_of groups) h ≤ one_where_none o) is once,
            ap (λ o. sum_of (λ g. climb_on (climb up room g) o) (roots_of groups)) is,
            once_more p,
          )

  pub roots_reach : (room h : ℕ) → sum_of (λ g. reach (excepts groups) room g h) (roots_of groups) ≤ 1
  roots_reach room h =
      omega (
        arith,
        sums_below (λ g. reach (excepts groups) room g h) (λ g. climb up room g h) (roots_of groups)
            (λ g. reach_climbs room g h),
        roots_climb room h,
      )
