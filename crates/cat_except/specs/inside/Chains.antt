-- Chains of exceptions as the code measures them.
use Rattle.std.specs.Prelude.{◌≡◌, ◌<◌, ◌≤◌, ℕ, ◌+◌, max, nat_lt, List, ◌∷◌, length, Option, Some, None}
use Rattle.std.specs.Prelude.{slice_index_or}
use Rattle.std.specs.Prelude.{MatchOption}
use Rattle.cat_order.specs.Order.{is_listed}
use Rattle.cat_scope.specs.Chains.{IsChain, HasShortChains, longest_chain}
use Rattle.cat_except.specs.Excepted.{last_exception}
use Rattle.cat_except.specs.inside.Linking.{lists_of}
use Rattle.cat_except.specs.declared.chains.Chain.{Chain}

-- no chain
abbrev pub none : Chain
none = record { length = 0; last = 0 }

-- the chain from a group on, as far as it is known
abbrev pub chain_at : List Chain → ℕ → Chain
chain_at chains group = slice_index_or chains group none

-- the group that a group excepts
abbrev pub target_at : List (Option ℕ) → ℕ → Option ℕ
target_at excepted group = slice_index_or excepted group None

-- a group in front of the chain of the one that it excepts
abbrev pub one_longer : List Chain → ℕ → Option ℕ → Chain
one_longer chains group None = record { length = 1; last = 0 }
one_longer chains group (Some target) =
    record { length = (chain_at chains target).length + 1; last = max group (chain_at chains target).last }

-- a chain of groups from one on, of this length and with this last exception
abbrev pub IsMeasured : List (Option ℕ) → ℕ → Chain → Type 0
IsMeasured excepted group chain = (rest : List ℕ) × IsChain (lists_of excepted) (group ∷ rest)
    × (length (group ∷ rest) ≡ chain.length) × (last_exception (group ∷ rest) ≡ chain.last)

-- a chain is one longer than that of the group that is excepted
abbrev pub IsLonger : List Chain → Option ℕ → ℕ → Type 0
IsLonger chains None n = n ≡ 1
IsLonger chains (Some target) n = (0 < (chain_at chains target).length) × (n ≡ (chain_at chains target).length + 1)

-- what is known of a group whose chain has a group
abbrev pub IsKnown : List (Option ℕ) → List Chain → ℕ → Type 0
IsKnown excepted chains group = 0 < (chain_at chains group).length
    → IsMeasured excepted group (chain_at chains group)
    × IsLonger chains (target_at excepted group) (chain_at chains group).length

-- the chains from the groups of a list on are known
pub record AreMeasured (excepted : List (Option ℕ)) (front : List ℕ) (chains : List Chain) : Type 0 where
  pub counted : length chains ≡ length excepted
  pub known : (group : ℕ) → IsKnown excepted chains group
  pub listed : (group : ℕ) → is_listed front group ≡ nat_lt 0 (chain_at chains group).length
  pub short : (group : ℕ) → (chain_at chains group).length ≤ longest_chain

-- a chain of one group too many has this last exception
abbrev pub IsTooLong : List (Option ℕ) → ℕ → Type 0
IsTooLong excepted last = (chain : List ℕ) × IsChain (lists_of excepted) chain
    × (length chain ≡ longest_chain + 1) × (last_exception chain ≡ last)

-- what is found: that no chain is too long, or the last exception of one that is
abbrev pub IsLimit : List (Option ℕ) → Option ℕ → Type 0
IsLimit excepted found = MatchOption found (HasShortChains (lists_of excepted)) (IsTooLong excepted)
