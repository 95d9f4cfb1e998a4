-- Members that come into their buckets one by one.
use Rattle.std.proofs.Common.{◌≡◌, ◌<◌, ◌≤◌, ℕ, nat_eq, Bool, true, false, List, [], ◌∷◌, ◌++◌, length}
use Rattle.std.proofs.Common.{get_or, drop, replicate, refl, sym, ap, ◌∙◌, arith, if◌then◌else◌}
use Rattle.std.proofs.lemmas.List.{drop_all, append-nil}
use Rattle.std.proofs.lemmas.List.{get_or-replicate, get_or_past, length-replicate}
use Rattle.std.proofs.lemmas.Bool.{cases_lt}
use Rattle.std.proofs.lemmas.Bool.Decides.{nat_tests}
use Rattle.std.proofs.Math.Logic.{⊎_elim}
use Rattle.cat_scope.specs.Names.{AllHave}
use Rattle.cat_verify.specs.declared.buckets.Member.{Member}
use Rattle.cat_verify.specs.inside.Buckets.{numbers_of, HaveMembers, AreBuckets}

pub members_end : (old buckets : List (List ℕ)) (ms : List Member) (k : ℕ) → length ms ≤ k
    → ((n : ℕ) → n < length old
    → get_or buckets n [] ++ numbers_of n (drop k ms) ≡ get_or old n [] ++ numbers_of n ms)
    → HaveMembers old buckets ms
members_end old buckets ms k past holds n below =
    sym (append-nil (get_or buckets n []))
    ∙ ap (λ (xs : List Member). get_or buckets n [] ++ numbers_of n xs) (sym (drop_all k ms past)) ∙ holds n below

-- no member is in a bucket behind the last one
none_behind : (count : ℕ) (ms : List Member) (n : ℕ) → AllHave (λ m. m.bucket < count) ms → count ≤ n
    → numbers_of n ms ≡ []
none_behind count [] n all past = refl
none_behind count (m ∷ ms) n all past =
    let below : m.bucket < count = all.0 in
    by (none_behind count ms n all.1 past) (nat_eq m.bucket n) (grind (arith, nat_tests, below, past))
  where
    by : numbers_of n ms ≡ [] → (b : Bool) → b ≡ false
        → (if b then m.number ∷ numbers_of n ms else numbers_of n ms) ≡ []
    by rest true e = absurd (cc e)
    by rest false e = rest

pub buckets_of : (count : ℕ) (ms : List Member) (old new : List (List ℕ)) → AllHave (λ m. m.bucket < count) ms
    → old ≡ replicate count [] → length new ≡ length old → HaveMembers old new ms → AreBuckets count ms new
buckets_of count ms old new all empty same have = record {
  one_each = same ∙ counted;
  numbers = λ n. ⊎_elim
      (λ below. have n (omega (arith, below, counted))
      ∙ ap (λ (xs : List (List ℕ)). get_or xs n [] ++ numbers_of n ms) empty
      ∙ ap (λ (ns : List ℕ). ns ++ numbers_of n ms) (get_or-replicate count n [] [] below))
      (λ past. get_or_past new n [] (omega (arith, past, same, counted)) ∙ sym (none_behind count ms n all past))
      (cases_lt n count);
}
  where
    counted : length old ≡ count
    counted = ap length empty ∙ length-replicate count []
