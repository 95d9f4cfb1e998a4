-- The groups of a target's definitions, and which except which, read off the labels alone.
use Rattle.std.specs.Prelude.{ℕ, ◌+◌, nat_eq, bytes_eq, Bool, true, false, List, [], ◌∷◌, Option, Some, None}
use Rattle.std.specs.Prelude.{if◌then◌else◌}
use Rattle.cat_scope.specs.declared.defs.Label.{Label}
use Rattle.cat_scope.specs.declared.defs.Except.{Except}
use Rattle.cat_scope.specs.declared.defs.Except.TheVariants as except
use Rattle.cat_scope.specs.declared.defs.Def.{Def}

-- a definition with its number among those of its scope, in source order
abbrev pub Numbered : Type 0
Numbered = ℕ × Def

-- what the definitions of a group have in common: the text of a label; or that they have none and are no exceptions.
-- An exception without a label is a group of its own
pub data Key : Type 0 where
  Labelled : List ℕ → Key
  Base : Key
  Alone : ℕ → Key

-- by the label, and where there is none by the exception
abbrev pub key_at : ℕ → Option Label → Except → Key
key_at n (Some label) e = Labelled label.text
key_at n None except.No = Base
key_at n None (except.OnlyRoot pos) = Alone n
key_at n None (except.Named pos label) = Alone n

-- what a definition has in common with the others of its group
abbrev pub key_of : Numbered → Key
key_of d = key_at d.0 d.1.label d.1.except

-- two definitions belong to one group
abbrev pub same_key : Key → Key → Bool
same_key (Labelled a) (Labelled b) = bytes_eq a b
same_key Base Base = true
same_key (Alone n) (Alone m) = nat_eq n m
same_key _ _ = false

-- such a group was met before
abbrev pub is_among : Key → List Key → Bool
is_among key [] = false
is_among key (k ∷ ks) = if same_key key k then true else is_among key ks

-- the definitions with a key, in source order
abbrev pub with_key : Key → List Numbered → List Numbered
with_key key [] = []
with_key key (d ∷ ds) = if same_key key (key_of d) then d ∷ with_key key ds else with_key key ds

-- a group is an exception to what its first definition is one to
pub record Group : Type 0 where
  pub key : Key
  pub except : Except
  pub defs : List Numbered

-- the group of a definition
abbrev pub group_at : List Numbered → Numbered → Group
group_at all d = record { key = key_of d; except = d.1.except; defs = with_key (key_of d) all }

-- the groups whose first definitions are among the ones given, where the keys that were seen are no new ones
abbrev pub groups_from : List Numbered → List Key → List Numbered → List Group
groups_from all seen [] = []
groups_from all seen (d ∷ ds) =
    if is_among (key_of d) seen
    then groups_from all seen ds
    else group_at all d ∷ groups_from all (key_of d ∷ seen) ds

-- the groups of a target's definitions, ordered by their first definitions, and so numbered from 0
abbrev pub groups_of : List Numbered → List Group
groups_of defs = groups_from defs [] defs

-- the numbers, from n on, of the groups that pass a test
abbrev pub group_numbers : (Group → Bool) → ℕ → List Group → List ℕ
group_numbers passes n [] = []
group_numbers passes n (g ∷ gs) =
    if passes g
    then n ∷ group_numbers passes (n + 1) gs
    else group_numbers passes (n + 1) gs

-- no exception
abbrev pub is_none : Except → Bool
is_none except.No = true
is_none (except.OnlyRoot pos) = false
is_none (except.Named pos label) = false

-- the groups that are no exceptions
abbrev pub roots_of : List Group → List ℕ
roots_of groups = group_numbers (λ g. is_none g.except) 0 groups

-- the one number of a list, where it has one alone
abbrev pub only : List ℕ → Option ℕ
only [] = None
only (n ∷ []) = Some n
only (n ∷ m ∷ ns) = None

-- the group that an exception is one to: the only root, or the group with the label
abbrev pub target_of : List Group → Except → Option ℕ
target_of groups except.No = None
target_of groups (except.OnlyRoot pos) = only (roots_of groups)
target_of groups (except.Named pos label) = only (group_numbers (λ g. same_key (Labelled label.text) g.key) 0 groups)

-- group g in front, with the group that it excepts, where there is one
abbrev pub paired : ℕ → Option ℕ → List (ℕ × ℕ) → List (ℕ × ℕ)
paired g None pairs = pairs
paired g (Some h) pairs = (g, h) ∷ pairs

-- the pairs of the groups from number n on
abbrev pub pairs_from : List Group → ℕ → List Group → List (ℕ × ℕ)
pairs_from all n [] = []
pairs_from all n (g ∷ gs) = paired n (target_of all g.except) (pairs_from all (n + 1) gs)

-- the pairs of groups of which the first excepts the second
abbrev pub excepts : List Group → List (ℕ × ℕ)
excepts groups = pairs_from groups 0 groups

-- the groups that except a group, in their order
abbrev pub excepting : List (ℕ × ℕ) → ℕ → List ℕ
excepting [] h = []
excepting (pair ∷ pairs) h = if nat_eq pair.1 h then pair.0 ∷ excepting pairs h else excepting pairs h

-- the same from group n on
abbrev pub exceptions_from : List (ℕ × ℕ) → ℕ → List Group → List (List ℕ)
exceptions_from pairs n [] = []
exceptions_from pairs n (g ∷ gs) = excepting pairs n ∷ exceptions_from pairs (n + 1) gs

-- for each group, those that except it
abbrev pub exceptions_of : List Group → List (List ℕ)
exceptions_of groups = exceptions_from (excepts groups) 0 groups
