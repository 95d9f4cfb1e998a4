-- The words that put runs together are those of a monad: they may be put together in any order.
use Rattle.std.proofs.Common.{◌≡◌, List, [], ◌∷◌, ◌++◌, Result, Ok, Err, refl, ap}
use Rattle.cat_scope.specs.declared.stop.Stop.{Stop}
use Rattle.cat_scope.specs.Runs.{Decider, Run, gives, behind, and_then}

pub append_append : {A : Type 0} (xs ys zs : List A) → (xs ++ ys) ++ zs ≡ xs ++ (ys ++ zs)
append_append [] ys zs = refl
append_append (x ∷ xs) ys zs = ap (λ l. x ∷ l) (append_append xs ys zs)

append_none : {A : Type 0} (xs : List A) → xs ++ [] ≡ xs
append_none [] = refl
append_none (x ∷ xs) = ap (λ l. x ∷ l) (append_none xs)

-- a log in front of a run
abbrev pub put_front : {A : Type 0} → List Decider → Run A → Run A
put_front log run = record { log = log ++ run.log; end = run.end }

front_of_behind : {A B : Type 0} (log more : List Decider) (r : Result A Stop) (next : A → Run B)
    → behind (log ++ more) r next ≡ put_front log (behind more r next)
front_of_behind {B = B} log more (Ok a) next =
    ap (λ (l : List Decider). record { log = l; end = (next a).end }) (append_append log more (next a).log)
front_of_behind log more (Err stop) next = refl

behind_behind : {A B C : Type 0} (log : List Decider) (r : Result A Stop) (f : A → Run B) (g : B → Run C)
    → and_then (behind log r f) g ≡ behind log r (λ a. and_then (f a) g)
behind_behind log (Ok a) f g = front_of_behind log (f a).log (f a).end g
behind_behind log (Err stop) f g = refl

pub and_then_and_then : {A B C : Type 0} (run : Run A) (f : A → Run B) (g : B → Run C) → and_then (and_then run f) g
    ≡ and_then run (λ a. and_then (f a) g)
and_then_and_then run f g = behind_behind run.log run.end f g

behind_gives : {A : Type 0} (log : List Decider) (r : Result A Stop) → behind log r (λ a. gives a)
    ≡ record { log = log; end = r }
behind_gives {A = A} log (Ok a) = ap (λ (l : List Decider). record { log = l; end = Ok a }) (append_none log)
behind_gives log (Err stop) = refl

pub and_then_gives : {A : Type 0} (run : Run A) → and_then run (λ a. gives a) ≡ run
and_then_gives run = behind_gives run.log run.end
