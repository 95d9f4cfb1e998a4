-- Worked examples of what stands where in labels and exceptions.
use Rattle.std.proofs.Common.{◌≡◌, ◌&&◌, ℕ, zero, suc, Bool, true, false, true≢false, sym, IsTrue, List, [], ◌∷◌}
use Rattle.std.proofs.Common.{None, refl}
use Rattle.cat_order.specs.Order.{dependencies_of, is_listed}
use Rattle.cat_order.specs.Cycle.{IsOnCycle}
use Rattle.cat_scope.specs.Chains.{IsChain}
use Rattle.cat_scope.specs.declared.defs.Except.TheVariants as except
use Rattle.cat_scope.specs.declared.defs.Def.{Def}
use Rattle.cat_except.specs.Faults.{unknown_labels, split_labels, ambiguous_exceptions}
use Rattle.cat_except.specs.Excepted.{excepted_of, last_exception, StandsOnCycle, StandsPastLimit}
use Rattle.cat_except.proofs.Samples.{at, def, groups, plain, exception_to, alone_to, bare, chain_of}

-- `exception q definition x`
a_label_that_no_definition_has : unknown_labels (groups (alone_to 113 6 ∷ []) ∷ []) ≡ at 6 13 ∷ []
a_label_that_no_definition_has = refl

-- two exceptions with one label, to different groups
abbrev split : List Def
split = plain 97 6 ∷ plain 98 7 ∷ exception_to 99 97 8 ∷ exception_to 99 98 9 ∷ []

two_exception_parts_of_a_label : split_labels (groups split ∷ []) ≡ at 9 9 ∷ []
two_exception_parts_of_a_label = refl

a_bare_exception_of_no_root : ambiguous_exceptions (groups (bare 6 ∷ []) ∷ []) ≡ at 6 3 ∷ []
a_bare_exception_of_no_root = refl

-- two roots, one of them without a label
abbrev two_roots : List Def
two_roots = plain 97 6 ∷ def None except.No ∷ bare 8 ∷ bare 9 ∷ []

a_bare_exception_of_two_roots : ambiguous_exceptions (groups two_roots ∷ []) ≡ at 8 3 ∷ at 9 3 ∷ []
a_bare_exception_of_two_roots = refl

-- two groups that except each other
abbrev circle : List Def
circle = exception_to 97 98 6 ∷ exception_to 98 97 7 ∷ []

each_excepts_the_other : excepted_of (groups circle) ≡ (1 ∷ []) ∷ (0 ∷ []) ∷ []
each_excepts_the_other = refl

exceptions_in_a_circle : StandsOnCycle (groups circle) (at 6 11) × StandsOnCycle (groups circle) (at 7 11)
unfolding IsOnCycle
exceptions_in_a_circle = ((0, (1 ∷ [], (refl, refl)), refl), (1, (0 ∷ [], (refl, refl)), refl))

pub a_chain_of_four : excepted_of (groups (chain_of 3)) ≡ [] ∷ (0 ∷ []) ∷ (1 ∷ []) ∷ (2 ∷ []) ∷ []
a_chain_of_four = refl

-- whether each number of a chain leads to the next one
abbrev is_chain : List (List ℕ) → List ℕ → Bool
is_chain deps [] = true
is_chain deps (n ∷ []) = true
is_chain deps (n ∷ m ∷ ns) = is_listed (dependencies_of deps n) m && is_chain deps (m ∷ ns)

both : (a b : Bool) → (a && b) ≡ true → (a ≡ true) × (b ≡ true)
both true true e = (refl, refl)
both true false e = absurd (true≢false (sym e))
both false b e = absurd (true≢false (sym e))

chain_of_test : (deps : List (List ℕ)) (chain : List ℕ) → is_chain deps chain ≡ true → IsChain deps chain
chain_of_test deps [] is = tt
chain_of_test deps (n ∷ []) is = tt
chain_of_test deps (n ∷ m ∷ ns) is =
    let parts : IsTrue (is_listed (dependencies_of deps n) m) × (is_chain deps (m ∷ ns) ≡ true) =
    both (is_listed (dependencies_of deps n) m) (is_chain deps (m ∷ ns)) is in
    (parts.0, chain_of_test deps (m ∷ ns) parts.1)

-- a number and those below it
abbrev down : ℕ → List ℕ
down zero = zero ∷ []
down (suc n) = suc n ∷ down n

the_257th_group_of_a_chain_is_past_the_limit : StandsPastLimit (groups (chain_of 256)) (at 256 11)
the_257th_group_of_a_chain_is_past_the_limit =
    (down 256, chain_of_test (excepted_of (groups (chain_of 256))) (down 256) refl, refl, refl)

-- the same chain with its groups the other way round
abbrev upside_down : List Def
upside_down = exception_to 100 99 6 ∷ exception_to 99 98 7 ∷ exception_to 98 97 8 ∷ plain 97 9 ∷ []

its_groups : excepted_of (groups upside_down) ≡ (1 ∷ []) ∷ (2 ∷ []) ∷ (3 ∷ []) ∷ [] ∷ []
its_groups = refl

-- is closed by the exception to the plain definition
closed_by_the_exception_in_line_8 : last_exception (0 ∷ 1 ∷ 2 ∷ 3 ∷ []) ≡ 2
closed_by_the_exception_in_line_8 = refl
