-- Items that lead to one another, the last one first.
use Rattle.std.proofs.Common.{◌≡◌, ℕ, ◌<◌, true, List, [], ◌∷◌, ◌++◌, arith, subst}
use Rattle.std.specs.Prelude.{⊤}
use Rattle.std.proofs.Math.Logic.{⊎_elim}
use Rattle.std.proofs.lemmas.Bool.{cases_eq, ltb-true}
use Rattle.std.proofs.lemmas.Bool.Decides.{nat_tests}
use Rattle.cat_order.specs.Order.{times, is_listed}
use Rattle.cat_order.specs.Cycle.{DependsOn, IsPath, IsOnCycle}

-- each item of the trail depends on the one before it in the list, and the first on `to`
abbrev pub IsTrail : List (List ℕ) → List ℕ → ℕ → Type 0
IsTrail deps [] to = ⊤
IsTrail deps (last ∷ trail) to = DependsOn deps last to × IsTrail deps trail last

path_push : (deps : List (List ℕ)) (path : List ℕ) (from via to : ℕ) → IsPath deps from path via → DependsOn deps via to
    → IsPath deps from (path ++ via ∷ []) to
path_push deps [] from via to goes depends = (goes, depends)
path_push deps (first ∷ path) from via to goes depends = (goes.0, path_push deps path first via to goes.1 depends)

path_of_trail : (deps : List (List ℕ)) (trail : List ℕ) (from to : ℕ) → IsTrail deps trail to → 0 < times trail from
    → (path : List ℕ) × IsPath deps from path to
path_of_trail deps [] from to is among = absurd (omega arith)
path_of_trail deps (last ∷ trail) from to is among = ⊎_elim
    (λ same. ([], subst (λ (n : ℕ). DependsOn deps n to) same is.0))
    (λ other. let before : (path : List ℕ) × IsPath deps from path last = path_of_trail deps trail from last is.1
    (grind (arith, nat_tests)) in
    (before.0 ++ last ∷ [], path_push deps before.0 from last to before.1 is.0))
    (cases_eq last from)

-- a trail that comes to one of its items again
pub IsOnCycle-of_trail : (deps : List (List ℕ)) (trail : List ℕ) (item : ℕ) → IsTrail deps trail item
    → is_listed trail item ≡ true → IsOnCycle deps item
unfolding IsOnCycle
IsOnCycle-of_trail deps trail item is again = path_of_trail deps trail item item is (ltb-true 0 _ again)
