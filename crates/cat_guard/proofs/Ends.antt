-- The ends of runs that are put together, and of what is judged.
use Rattle.std.proofs.Common.{◌≡◌, List, ◌∷◌, Option, Some, None, Result, Ok, Err, refl, ◌∙◌}
use Rattle.cat_value.specs.declared.outcome.Target.{Target}
use Rattle.cat_scope.specs.declared.stop.Stop.{Stop}
use Rattle.cat_scope.specs.Replies.{on_one}
use Rattle.cat_scope.specs.Runs.{Run, plain, gives, behind, and_then}
use Rattle.cat_scope.specs.Judging.{Held, Judged, with_held, holding, alone, settle, found_or, or_else}

pub then_end : {A B : Type 0} (run : Run A) (next : A → Run B)
    → (and_then run next).end ≡ on_one run.end (λ a. (next a).end)
then_end {A = A} run next = by run.end
  where
    by : (r : Result A Stop) → (behind run.log r next).end ≡ on_one r (λ a. (next a).end)
    by (Ok a) = refl
    by (Err s) = refl

-- one more in front of those that hold
abbrev pub one_more : {A : Type 0} → Result (Option (Held A)) Stop → Result (List (Held A)) Stop
    → Result (List (Held A)) Stop
one_more one rest = on_one one (λ o. on_one rest (λ more. Ok (with_held o more)))

pub holding_end : {A : Type 0} (r : Judged A) (rs : List (Judged A))
    → (holding (r ∷ rs)).end ≡ one_more r.end (holding rs).end
holding_end {A = A} r rs =
    then_end r (λ one. and_then (holding rs) (λ more. gives (with_held one more))) ∙ by r.end
  where
    by : (o : Result (Option (Held A)) Stop)
        → on_one o (λ one. (and_then (holding rs) (λ more. gives (with_held one more))).end)
        ≡ one_more o (holding rs).end
    by (Ok one) = then_end (holding rs) (λ more. gives (with_held one more))
    by (Err s) = refl

pub settle_end : {A : Type 0} (target : Target) (rs : List (Judged A))
    → (settle target rs).end ≡ on_one (holding rs).end (alone target)
settle_end target rs = then_end (holding rs) (λ hs. plain (alone target hs))

-- the second where the first is Empty
abbrev pub else_end : {A : Type 0} → Result (Option (Held A)) Stop → Result (Option (Held A)) Stop
    → Result (Option (Held A)) Stop
else_end (Ok None) other = other
else_end (Ok (Some h)) other = Ok (Some h)
else_end (Err s) other = Err s

pub or_else_end : {A : Type 0} (r other : Judged A) → (or_else r other).end ≡ else_end r.end other.end
or_else_end {A = A} r other = then_end r (λ found. found_or found other) ∙ by r.end
  where
    by : (o : Result (Option (Held A)) Stop)
        → on_one o (λ found. (found_or found other).end) ≡ else_end o other.end
    by (Ok None) = refl
    by (Ok (Some h)) = refl
    by (Err s) = refl
