-- Groups that are exceptions to themselves, and chains of exceptions that are too long.
use Rattle.std.specs.Prelude.{◌≡◌, ℕ, ◌+◌, max, List, [], ◌∷◌, length, Option, Some, None, slice_get}
use Rattle.cat_pos.specs.declared.pos.Pos.{Pos}
use Rattle.cat_order.specs.Cycle.{IsOnCycle}
use Rattle.cat_scope.specs.declared.defs.Except.{Except}
use Rattle.cat_scope.specs.declared.defs.Except.TheVariants as except
use Rattle.cat_scope.specs.Groups.{Group, target_of}
use Rattle.cat_scope.specs.Chains.{IsChain, longest_chain}

-- the one number, where there is one
abbrev pub listed : Option ℕ → List ℕ
listed None = []
listed (Some n) = n ∷ []

-- the same for the groups from some on, among all groups of the target
abbrev pub excepted_from : List Group → List Group → List (List ℕ)
excepted_from all [] = []
excepted_from all (g ∷ gs) = listed (target_of all g.except) ∷ excepted_from all gs

-- for each group, the group that it excepts, where it is an exception
abbrev pub excepted_of : List Group → List (List ℕ)
excepted_of groups = excepted_from groups groups

-- the position of the word `exception`
abbrev pub exception_word : Except → Option Pos
exception_word except.No = None
exception_word (except.OnlyRoot pos) = Some pos
exception_word (except.Named pos label) = Some pos

-- p is the word `exception` of a group, which is that of its first definition
abbrev pub HasWord : Option Group → Pos → Type 0
HasWord None p = ⊥
HasWord (Some group) p = exception_word group.except ≡ Some p

-- p is the word `exception` of a group that excepts itself, at once or through others
abbrev pub StandsOnCycle : List Group → Pos → Type 0
StandsOnCycle groups p = (g : ℕ) × IsOnCycle (excepted_of groups) g × HasWord (slice_get groups g) p

-- the last one in source order of the exceptions of a chain, in which each group excepts the next one: groups are
-- numbered by their first definitions
abbrev pub last_exception : List ℕ → ℕ
last_exception [] = 0
last_exception (g ∷ []) = 0
last_exception (g ∷ h ∷ gs) = max g (last_exception (h ∷ gs))

-- p is the word `exception` that closes a chain of one group too many
abbrev pub StandsPastLimit : List Group → Pos → Type 0
StandsPastLimit groups p = (chain : List ℕ) × IsChain (excepted_of groups) chain × (length chain ≡ longest_chain + 1)
    × HasWord (slice_get groups (last_exception chain)) p
