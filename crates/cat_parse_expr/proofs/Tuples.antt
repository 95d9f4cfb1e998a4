-- What was read is the tuple of its parts.
use Rattle.std.proofs.Common.{◌≡◌, ap, ◌∙◌}

pub two : {A B : Type 0} (y : A × B) (a : A) → y.0 ≡ a → y ≡ (a, y.1)
two {A = A} {B = B} y a e = ap (λ (z : A). (z, y.1)) e

pub both : {A B : Type 0} (y : A × B) (a : A) (b : B) → y.0 ≡ a → y.1 ≡ b → y ≡ (a, b)
both {A = A} {B = B} y a b e f = ap (λ (z : A). (z, y.1)) e ∙ ap (λ (z : B). (a, z)) f

pub three : {A B C : Type 0} (y : A × B × C) (a : A) (b : B) → y.0 ≡ a → y.1 ≡ b → y ≡ (a, b, y.2)
three {A = A} {B = B} y a b e f = ap (λ (z : A). (z, y.1, y.2)) e ∙ ap (λ (z : B). (a, z, y.2)) f

pub four : {A B C D : Type 0} (y : A × B × C × D) (a : A) (b : B) (c : C) → y.0 ≡ a → y.1 ≡ b → y.2 ≡ c
    → y ≡ (a, b, c, y.3)
four {A = A} {B = B} {C = C} y a b c e f g =
    ap (λ (z : A). (z, y.1, y.2, y.3)) e ∙ ap (λ (z : B). (a, z, y.2, y.3)) f ∙ ap (λ (z : C). (a, b, z, y.3)) g
