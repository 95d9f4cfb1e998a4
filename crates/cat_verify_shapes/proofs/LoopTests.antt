-- Whether two owners or two loops are the same.
use Rattle.std.proofs.Common.{◌≡◌, ℕ, nat_eq, ◌&&◌, Bool, true, true≢false, Option, Some, None, refl, sym, ap}
use Rattle.std.proofs.Common.{◌∙◌, subst}
use Rattle.std.specs.Option.{option_eq}
use Rattle.std.proofs.lemmas.Bool.{eqb-true, eq-eqb, and_parts, and_from}
use Rattle.cat_verify_shapes.specs.declared.owner.Owner.{Owner}
use Rattle.cat_verify_shapes.specs.declared.shape.LoopShape.{LoopShape}
use Rattle.cat_verify_shapes.specs.contracts.owner.OwnerPartialEq.TheImpl as owner_eq
use Rattle.cat_verify_shapes.specs.contracts.shape.LoopShapePartialEq.TheImpl as loop_eq

same_option : (p q : Option ℕ) → option_eq nat_eq p q ≡ true → p ≡ q
same_option None None h = refl
same_option None (Some m) h = absurd (true≢false (sym h))
same_option (Some n) None h = absurd (true≢false (sym h))
same_option (Some n) (Some m) h = ap Some (eqb-true n m h)

own_option : (p : Option ℕ) → option_eq nat_eq p p ≡ true
own_option None = refl
own_option (Some n) = eq-eqb n n refl

pub owners_decided : (x y : Owner) → (owner_eq.ghosts.eq x y ≡ true → x ≡ y) × (x ≡ y → owner_eq.ghosts.eq x y ≡ true)
owners_decided x y = (same, λ e. subst (λ (z : Owner). owner_eq.ghosts.eq x z ≡ true) e own)
  where
    same : owner_eq.ghosts.eq x y ≡ true → x ≡ y
    same h =
        let first = and_parts (nat_eq x.scope y.scope) (option_eq nat_eq x.function y.function) h in
        ap (λ (n : ℕ). record x { scope = n }) (eqb-true x.scope y.scope first.0)
        ∙ ap (λ (p : Option ℕ). record y { function = p }) (same_option x.function y.function first.1)

    own : owner_eq.ghosts.eq x x ≡ true
    own =
        and_from (nat_eq x.scope x.scope) (option_eq nat_eq x.function x.function) (eq-eqb x.scope x.scope refl)
        (own_option x.function)

pub loops_decided : (x y : LoopShape) → (loop_eq.ghosts.eq x y ≡ true → x ≡ y) × (x ≡ y → loop_eq.ghosts.eq x y ≡ true)
loops_decided x y = (same, λ e. subst (λ (z : LoopShape). loop_eq.ghosts.eq x z ≡ true) e own)
  where
    last : Bool
    last = nat_eq x.frames y.frames && nat_eq x.pending y.pending

    same : loop_eq.ghosts.eq x y ≡ true → x ≡ y
    same h =
        let one = and_parts (nat_eq x.begun y.begun)
        (nat_eq x.element y.element && (option_eq nat_eq x.collected y.collected && last)) h in
        let two = and_parts (nat_eq x.element y.element) (option_eq nat_eq x.collected y.collected && last) one.1 in
        let three = and_parts (option_eq nat_eq x.collected y.collected) last two.1 in
        let four = and_parts (nat_eq x.frames y.frames) (nat_eq x.pending y.pending) three.1 in
        ap (λ (n : ℕ). record x { begun = n }) (eqb-true x.begun y.begun one.0)
        ∙ ap (λ (n : ℕ). record x { begun = y.begun; element = n }) (eqb-true x.element y.element two.0)
        ∙ ap (λ (p : Option ℕ). record x { begun = y.begun; element = y.element; collected = p })
        (same_option x.collected y.collected three.0)
        ∙ ap (λ (n : ℕ). record y { frames = n; pending = x.pending }) (eqb-true x.frames y.frames four.0)
        ∙ ap (λ (n : ℕ). record y { pending = n }) (eqb-true x.pending y.pending four.1)

    own : loop_eq.ghosts.eq x x ≡ true
    own =
        and_from (nat_eq x.begun x.begun) _ (eq-eqb x.begun x.begun refl)
        (and_from (nat_eq x.element x.element) _ (eq-eqb x.element x.element refl)
        (and_from (option_eq nat_eq x.collected x.collected) _ (own_option x.collected)
        (and_from (nat_eq x.frames x.frames) (nat_eq x.pending x.pending) (eq-eqb x.frames x.frames refl)
        (eq-eqb x.pending x.pending refl))))
