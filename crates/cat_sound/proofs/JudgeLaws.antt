-- Judging is what its rule says, where no group of a target is an exception to itself.
use Rattle.std.proofs.Common.{◌≡◌, ℕ, zero, suc, ◌+◌, ◌<◌, true, List, [], ◌∷◌, length, map, Option, Some, None, get_or}
use Rattle.std.proofs.Common.{refl, ap, ◌∙◌, sym, arith, subst, nat_eq, Bool, false, if◌then◌else◌}
use Rattle.std.proofs.Math.Logic.{⊎_elim}
use Rattle.std.proofs.lemmas.Bool.Decides.{nat_tests}
use Rattle.cat_value.specs.declared.outcome.Target.{Target}
use Rattle.cat_order.specs.Order.{dependencies_of, times}
use Rattle.cat_order.specs.Cycle.{DependsOn}
use Rattle.cat_scope.specs.Names.{AllHave, IsOneOf}
use Rattle.cat_scope.specs.Groups.{Group, target_of, paired, pairs_from, excepts, excepting, exceptions_from}
use Rattle.cat_scope.specs.Groups.{exceptions_of}
use Rattle.cat_scope.specs.Judging.{Judged, settle, or_else, judge}
use Rattle.cat_scope.specs.Chains.{HasNoCycle}
use Rattle.cat_sound.proofs.Cycles.{IsWithin, within_of_no_cycle}

each_same : {A : Type 0} (f g : ℕ → Judged A) (Has : ℕ → Type 0) → ((n : ℕ) → Has n → f n ≡ g n) → (ns : List ℕ)
    → AllHave Has ns → map f ns ≡ map g ns
each_same f g Has same [] all = refl
each_same f g Has same (n ∷ ns) all =
    ap (λ r. r ∷ map f ns) (same n all.0) ∙ ap (λ rest. g n ∷ rest) (each_same f g Has same ns all.1)

steady : {A : Type 0} (target : Target) (pairs : List (ℕ × ℕ)) (own : ℕ → Judged A) (n group : ℕ)
    → IsWithin (excepting pairs) n group → judge target pairs own n group ≡ judge target pairs own (suc n) group
steady target pairs own zero group within = elim within [ ]
steady target pairs own (suc n) group within =
    ap (λ judged. or_else (settle target judged) (own group))
    (each_same (judge target pairs own n) (judge target pairs own (suc n)) (IsWithin (excepting pairs) n)
    (λ g h. steady target pairs own n g h) (excepting pairs group) within)

-- each group that excepts one stands among the groups
paired_low : (bound n : ℕ) (target : Option ℕ) (pairs : List (ℕ × ℕ)) → n < bound → AllHave (λ pair. pair.0 < bound)
    pairs → AllHave (λ pair. pair.0 < bound) (paired n target pairs)
paired_low bound n None pairs here rest = rest
paired_low bound n (Some h) pairs here rest = (here, rest)

pairs_low : (all : List Group) (bound n : ℕ) (gs : List Group) → n + length gs ≡ bound
    → AllHave (λ pair. pair.0 < bound) (pairs_from all n gs)
pairs_low all bound n [] whole = tt
pairs_low all bound n (g ∷ gs) whole = paired_low bound n (target_of all g.except) (pairs_from all (n + 1) gs)
    (omega (arith, whole)) (pairs_low all bound (n + 1) gs (omega (arith, whole)))

put_low : (bound n : ℕ) (b : Bool) (ns : List ℕ) → n < bound → AllHave (λ h. h < bound) ns → AllHave (λ h. h < bound)
    (if b then n ∷ ns else ns)
put_low bound n true ns here rest = (here, rest)
put_low bound n false ns here rest = rest

excepting_low : (bound : ℕ) (pairs : List (ℕ × ℕ)) → AllHave (λ pair. pair.0 < bound) pairs → (g : ℕ)
    → AllHave (λ h. h < bound) (excepting pairs g)
excepting_low bound [] all g = tt
excepting_low bound (pair ∷ pairs) all g =
    put_low bound pair.0 (nat_eq pair.1 g) (excepting pairs g) all.0 (excepting_low bound pairs all.1 g)

one_has : (Has : ℕ → Type 0) (xs : List ℕ) (x : ℕ) → AllHave Has xs → IsOneOf x xs → Has x
one_has Has [] x all among = elim among [ ]
one_has Has (y ∷ ys) x all among = ⊎_elim (λ same. subst Has (sym same) all.0) (λ more. one_has Has ys x all.1 more)
    among

times_of_one : (xs : List ℕ) (x : ℕ) → IsOneOf x xs → 0 < times xs x
times_of_one [] x among = elim among [ ]
times_of_one (y ∷ ys) x among =
    ⊎_elim (λ same. grind (arith, nat_tests)) (λ more. omega (arith, times_of_one ys x more)) among

exceptions_at : (pairs : List (ℕ × ℕ)) (n g : ℕ) (gs : List Group) → g < length gs → get_or (exceptions_from pairs n gs)
    g [] ≡ excepting pairs (n + g)
exceptions_at pairs n g [] within = absurd (omega arith)
exceptions_at pairs n zero (h ∷ gs) within = ap (excepting pairs) (omega arith)
exceptions_at pairs n (suc g) (h ∷ gs) within = exceptions_at pairs (n + 1) g gs (omega arith)
    ∙ ap (excepting pairs) (omega arith)

pub leads_on : (groups : List Group) (g h : ℕ) → g < length groups → IsOneOf h (excepting (excepts groups) g)
    → DependsOn (exceptions_of groups) g h × (h < length groups)
leads_on groups g h within among =
    let listed : 0 < times (excepting (excepts groups) g) h = times_of_one (excepting (excepts groups) g) h among in
    let same : dependencies_of (exceptions_of groups) g ≡ excepting (excepts groups) g =
    exceptions_at (excepts groups) 0 g groups within ∙ ap (excepting (excepts groups)) (omega arith) in (
      rw same (grind (arith, nat_tests, listed)),
      one_has (λ m. m < length groups) (excepting (excepts groups) g) h
          (excepting_low (length groups) (excepts groups) (pairs_low groups (length groups) 0 groups (omega arith)) g)
          among,
    )

pub judging_rule : {A : Type 0} (target : Target) (groups : List Group) (own : ℕ → Judged A) (group : ℕ)
    → HasNoCycle (exceptions_of groups) → group < length groups
    → judge target (excepts groups) own (length groups) group
    ≡ or_else (settle target (map (judge target (excepts groups) own (length groups))
    (excepting (excepts groups) group)))
    (own group)
judging_rule target groups own group none within =
    steady target (excepts groups) own (length groups) group
    (within_of_no_cycle (exceptions_of groups) (excepting (excepts groups)) (length groups) none (leads_on groups) group
    within)
