-- Targets and positions are one where their parts are.
use Rattle.std.proofs.Common.{◌≡◌, ℕ, nat_eq, Bool, true, ◌&&◌, Option, Some, None, refl, sym, ap, ◌∙◌, arith}
use Rattle.std.proofs.Common.{true≢false}
use Rattle.std.proofs.lemmas.Bool.Decides.{nat_tests}
use Rattle.cat_pos.specs.declared.pos.Pos.{Pos}
use Rattle.cat_value.specs.declared.outcome.Target.{Target}
use Rattle.cat_region.proofs.Exported.{and-both}
use Rattle.cat_scope.specs.Targets.{same_inner, same_target}
use Rattle.cat_guard.proofs.Exported.{both_true, nat_self}
use Rattle.cat_dead.specs.Winners.{is_same}

pub nat_is : (a b : ℕ) → nat_eq a b ≡ true → a ≡ b
nat_is a b h = grind (arith, nat_tests, h)

inner_is : (a b : Option ℕ) → same_inner a b ≡ true → a ≡ b
inner_is None None h = refl
inner_is None (Some m) h = absurd (true≢false (sym h))
inner_is (Some n) None h = absurd (true≢false (sym h))
inner_is (Some n) (Some m) h = ap Some (nat_is n m h)

inner_self : (o : Option ℕ) → same_inner o o ≡ true
inner_self None = refl
inner_self (Some n) = nat_self n

abbrev pos_with : ℕ → ℕ → Pos
pos_with line place = record { line = line; place = place }

pub same_is : (p q : Pos) → is_same p q ≡ true → p ≡ q
same_is p q h =
    let two = both_true (nat_eq p.line q.line) (nat_eq p.place q.place) h in
    ap (λ (n : ℕ). pos_with n p.place) (nat_is p.line q.line two.0)
    ∙ ap (pos_with q.line) (nat_is p.place q.place two.1)

-- two targets are one
abbrev pub is_that : Target → Target → Bool
is_that t u = nat_eq t.scope u.scope && same_target t u

abbrev target_with : ℕ → ℕ → Option ℕ → Target
target_with scope item inner = record { scope = scope; item = item; inner = inner }

pub that_is : (t u : Target) → is_that t u ≡ true → t ≡ u
that_is t u h =
    let scopes = both_true (nat_eq t.scope u.scope) (same_target t u) h in
    let items = both_true (nat_eq t.item u.item) (same_inner t.inner u.inner) scopes.1 in
    ap (λ (n : ℕ). target_with n t.item t.inner) (nat_is t.scope u.scope scopes.0)
    ∙ ap (λ (n : ℕ). target_with u.scope n t.inner) (nat_is t.item u.item items.0)
    ∙ ap (target_with u.scope u.item) (inner_is t.inner u.inner items.1)

pub that_self : (t : Target) → is_that t t ≡ true
that_self t =
    and-both (nat_eq t.scope t.scope) (same_target t t) (nat_self t.scope)
    (and-both (nat_eq t.item t.item) (same_inner t.inner t.inner) (nat_self t.item) (inner_self t.inner))
