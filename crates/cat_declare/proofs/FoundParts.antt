-- What is found: its faults, and its answer where there are none.
use Rattle.std.proofs.Common.{◌≡◌, ◌∙◌, List, [], ◌∷◌, ◌++◌, map, Ok, Err, refl, sym, ap}
use Rattle.std.specs.Prelude.{flat_map}
use Rattle.std.proofs.lemmas.List.{append-nil}
use Rattle.cat_names.specs.declared.fault.Fault.{Fault}
use Rattle.cat_names.specs.Found.{Found, and_then, both, each_found, faults_of}

pub nothing_in : {A : Type 0} (xs ys : List A) → xs ++ ys ≡ [] → xs ≡ []
nothing_in [] ys h = refl
nothing_in (x ∷ xs) ys h = cc h

pub nothing_behind : {A : Type 0} (xs ys : List A) → xs ++ ys ≡ [] → ys ≡ []
nothing_behind [] ys h = h
nothing_behind (x ∷ xs) ys h = cc h

-- ---- faults

pub then_faults : {A B : Type 0} (a : Found A) (go : A → B) → faults_of (and_then a (λ x. Ok (go x))) ≡ faults_of a
then_faults (Ok a) go = refl
then_faults (Err faults) go = refl

pub both_faults : {A B C : Type 0} (a : Found A) (b : Found B) (go : A → B → C)
    → faults_of (both a b (λ x y. Ok (go x y))) ≡ faults_of a ++ faults_of b
both_faults (Ok a) (Ok b) go = refl
both_faults (Ok a) (Err faults) go = refl
both_faults (Err faults) (Ok b) go = sym (append-nil faults)
both_faults (Err faults) (Err more) go = refl

pub each_faults : {A B : Type 0} (f : A → Found B) (q : A → List Fault) → ((x : A) → faults_of (f x) ≡ q x)
    → (xs : List A) → faults_of (each_found f xs) ≡ flat_map q xs
each_faults f q are [] = refl
each_faults {A} {B} f q are (x ∷ xs) = both_faults (f x) (each_found f xs) (λ y ys. y ∷ ys)
    ∙ ap (λ fs. fs ++ faults_of (each_found f xs)) (are x) ∙ ap (λ fs. q x ++ fs) (each_faults f q are xs)

-- ---- answers

pub then_made : {A B : Type 0} (a : Found A) (x : A) (go : A → Found B) → a ≡ Ok x → and_then a go ≡ go x
then_made a x go is = ap (λ b. and_then b go) is

pub both_made : {A B C : Type 0} (a : Found A) (b : Found B) (x : A) (y : B) (go : A → B → Found C) → a ≡ Ok x
    → b ≡ Ok y → both a b go ≡ go x y
both_made a b x y go is too = ap (λ c. both c b go) is ∙ ap (λ c. both (Ok x) c go) too

pub each_made : {A B : Type 0} (f : A → Found B) (g : A → B) (q : A → List Fault)
    → ((x : A) → q x ≡ [] → f x ≡ Ok (g x)) → (xs : List A) → flat_map q xs ≡ [] → each_found f xs ≡ Ok (map g xs)
each_made f g q made [] none = refl
each_made f g q made (x ∷ xs) none = both_made (f x) (each_found f xs) (g x) (map g xs) (λ y ys. Ok (y ∷ ys))
    (made x (nothing_in (q x) (flat_map q xs) none)) (each_made f g q made xs
    (nothing_behind (q x) (flat_map q xs) none))
