-- Parts are laid the same however they are grouped.
use Rattle.std.proofs.Common.{◌≡◌, sym, ap, ◌∙◌, subst, append_assoc}
use Rattle.cat_lower.specs.declared.growing.Growing.{Growing}
use Rattle.cat_lower.specs.Laying.{Ends, Parts, Coded, after, joined, then_code}
use Rattle.cat_lower.specs.Grown.{ends_of, Grown}
use Rattle.cat_lower.proofs.Places.{past_append}
use Rattle.cat_lower.proofs.Grows.{ends_alike, grown_at, grown_then}

pub after_joined : (ends : Ends) (p q : Parts) → after ends (joined p q) ≡ after (after ends p) q
after_joined ends p q =
    ends_alike (after ends (joined p q)) (after (after ends p) q) (past_append ends.place p.instructions q.instructions)
    (past_append ends.constants p.constants q.constants) (past_append ends.positions p.positions q.positions)
    (past_append ends.targets p.targets q.targets)

parts_alike : (a b : Parts) → a.instructions ≡ b.instructions → a.constants ≡ b.constants → a.positions ≡ b.positions
    → a.targets ≡ b.targets → a ≡ b
parts_alike a b i c p t =
    let first : Parts = record a { instructions = b.instructions } in
    let second : Parts = record first { constants = b.constants } in
    let third : Parts = record second { positions = b.positions } in
    let e1 : a ≡ first = ap (λ l. record a { instructions = l }) i in
    let e2 : first ≡ second = ap (λ l. record first { constants = l }) c in
    let e3 : second ≡ third = ap (λ l. record second { positions = l }) p in
    let e4 : third ≡ b = ap (λ l. record third { targets = l }) t in
    e1 ∙ e2 ∙ e3 ∙ e4

joined_joined : (p q r : Parts) → joined (joined p q) r ≡ joined p (joined q r)
joined_joined p q r =
    parts_alike (joined (joined p q) r) (joined p (joined q r))
    (append_assoc p.instructions q.instructions r.instructions)
    (append_assoc p.constants q.constants r.constants) (append_assoc p.positions q.positions r.positions)
    (append_assoc p.targets q.targets r.targets)

pub regrouped : (a b c : Coded) (ends : Ends) → then_code (then_code a b) c ends ≡ then_code a (then_code b c) ends
regrouped a b c ends =
    ap (λ e. joined (joined (a ends) (b (after ends (a ends)))) (c e))
    (after_joined ends (a ends) (b (after ends (a ends))))
    ∙ joined_joined (a ends) (b (after ends (a ends))) (c (after (after ends (a ends)) (b (after ends (a ends)))))

-- two parts are laid as one, and the rest is left
pub step_in_two : (old t1 t2 new : Growing) (before a b rest whole : Coded) → before ≡ then_code a (then_code b rest)
    → ((t : Growing) → Grown t1 t before → Grown old t whole) → Grown t1 t2 (then_code a b) → Grown t2 new rest
    → Grown old new whole
step_in_two old t1 t2 new before a b rest whole is so_far g h =
    so_far new (subst (λ (c : Coded). Grown t1 new c) (sym is)
    (grown_at t1 new (then_code (then_code a b) rest) (then_code a (then_code b rest)) (regrouped a b rest (ends_of t1))
    (grown_then t1 t2 new (then_code a b) rest g h)))
