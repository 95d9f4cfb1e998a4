-- What is past the longest chain of calls.
use Rattle.std.specs.Prelude.{◌≡◌, ◌<◌, ℕ, suc, true, false, List, length, Option, Some, None}
use Rattle.cat_scope.specs.Chains.{HasShortChains, is_within, longest_chain}

-- a number begins a chain of one more than may be, and none of more
pub record IsPast (deps : List (List ℕ)) (n : ℕ) : Type 0 where
  pub number : n < length deps
  pub long : is_within deps longest_chain n ≡ false
  pub first : is_within deps (suc longest_chain) n ≡ true

-- what is told of chains: that all are short, or a number that begins one of one more than may be
abbrev pub TellsPast : List (List ℕ) → Option ℕ → Type 0
TellsPast deps None = HasShortChains deps
TellsPast deps (Some n) = IsPast deps n
