-- Where no chain is too long, none begins too long a one.
use Rattle.std.proofs.Common.{◌≡◌, ◌<◌, ◌&&◌, ◌+◌, ℕ, zero, suc, Bool, true, false, List, [], ◌∷◌, length, refl, arith}
use Rattle.std.proofs.Common.{true≢false}
use Rattle.std.proofs.lemmas.Bool.Decides.{nat_tests}
use Rattle.std.specs.List.{list_all}
use Rattle.cat_pos.specs.declared.pos.Pos.{Pos}
use Rattle.cat_order.specs.Order.{dependencies_of, times}
use Rattle.cat_scope.specs.Chains.{IsChain, HasShortChains, is_within, longest_chain}
use Rattle.cat_names.specs.declared.fault.Fault.TheVariants.{TooMany}
use Rattle.cat_names.specs.Cycles.{is_first_past, past_chains}
use Rattle.cat_names.specs.Lists.{numbered}
use Rattle.cat_names.proofs.Steps.{no_fault}

-- one of some numbers that fails a test
pub record Failing (test : ℕ → Bool) (ns : List ℕ) : Type 0 where
  pub number : ℕ
  pub there : 0 < times ns number
  pub fails : test number ≡ false

fails_at : (test : ℕ → Bool) (n : ℕ) (ns : List ℕ) (b : Bool) → test n ≡ b
    → (list_all test ns ≡ false → Failing test ns)
    → (b && list_all test ns) ≡ false → Failing test (n ∷ ns)
fails_at test n ns true e rest g = let more = rest g in
    record { number = more.number; there = omega (arith, more.there); fails = more.fails }
fails_at test n ns false e rest g = record { number = n; there = grind (arith, nat_tests); fails = e }

pub failing : (test : ℕ → Bool) (ns : List ℕ) → list_all test ns ≡ false → Failing test ns
failing test [] h = absurd (true≢false h)
failing test (n ∷ ns) h = fails_at test n ns (test n) refl (failing test ns) h

fails_within : (deps : List (List ℕ)) (k n : ℕ) → is_within deps (suc k) n ≡ false
    → Failing (is_within deps k) (dependencies_of deps n)
unfolding is_within
fails_within deps k n out = failing (is_within deps k) (dependencies_of deps n) out

-- where a number isn't within, a chain from it on is too long
record TooLong (deps : List (List ℕ)) (k n : ℕ) : Type 0 where
  rest : List ℕ
  chain : IsChain deps (n ∷ rest)
  long : length (n ∷ rest) ≡ k + 1

too_long : (deps : List (List ℕ)) (k n : ℕ) → is_within deps k n ≡ false → TooLong deps k n
too_long deps zero n out = record { rest = []; chain = tt; long = omega arith }
too_long deps (suc k) n out = let next = fails_within deps k n out in let more =
    too_long deps k next.number next.fails in
    record {
      rest = next.number ∷ more.rest;
      chain = (grind (arith, nat_tests, next.there), more.chain);
      long = omega (arith, more.long);
    }

all_within : (deps : List (List ℕ)) → HasShortChains deps → (n : ℕ) → is_within deps longest_chain n ≡ true
all_within deps short n = by (is_within deps longest_chain n) refl
  where
    by : (b : Bool) → is_within deps longest_chain n ≡ b → is_within deps longest_chain n ≡ true
    by true e = e
    by false e = let long = too_long deps longest_chain n e in
        absurd (omega (arith, short (n ∷ long.rest) long.chain, long.long))

pub none_past : (deps : List (List ℕ)) → HasShortChains deps → (ps : List Pos) → past_chains deps ps ≡ []
none_past deps short ps = no_fault (λ p. is_first_past deps p.0) (λ p. TooMany p.1) (numbered ps)
    (λ p. rw (all_within deps short p.0) refl)
