-- Lists that lie one on the other, each with a head: the last one that was opened stands first.
use Rattle.std.specs.Prelude.{ℕ, zero, suc, ◌-◌, List, [], ◌∷◌, ◌++◌, length, take, Option, Some, None}

-- the head of the list on top
abbrev pub top_head : {H T : Type 0} → List (H × List T) → Option H
top_head [] = None
top_head (l ∷ ls) = Some l.0

-- the items of the list on top
abbrev pub top_items : {H T : Type 0} → List (H × List T) → List T
top_items [] = []
top_items (l ∷ ls) = l.1

-- the lists below
abbrev pub rest_of : {H T : Type 0} → List (H × List T) → List (H × List T)
rest_of [] = []
rest_of (l ∷ ls) = ls

-- another head of the list on top
abbrev pub with_head : {H T : Type 0} → H → List (H × List T) → List (H × List T)
with_head h [] = []
with_head h (l ∷ ls) = (h, l.1) ∷ ls

-- items at the end of the list on top
abbrev pub extended : {H T : Type 0} → List T → List (H × List T) → List (H × List T)
extended more [] = []
extended more (l ∷ ls) = (l.0, l.1 ++ more) ∷ ls

-- so many items less at the end of the list on top
abbrev pub shortened : {H T : Type 0} → ℕ → List (H × List T) → List (H × List T)
shortened n [] = []
shortened n (l ∷ ls) = (l.0, take (length l.1 - n) l.1) ∷ ls

-- a list with another item at a number, where it has one
abbrev pub with_at : {T : Type 0} → ℕ → T → List T → List T
with_at n x [] = []
with_at zero x (y ∷ ys) = x ∷ ys
with_at (suc n) x (y ∷ ys) = y ∷ with_at n x ys

-- another item at a number of the list on top
abbrev pub with_item : {H T : Type 0} → ℕ → T → List (H × List T) → List (H × List T)
with_item n x [] = []
with_item n x (l ∷ ls) = (l.0, with_at n x l.1) ∷ ls

-- the items of the list on top behind those of the one below
abbrev pub joined : {H T : Type 0} → List (H × List T) → List (H × List T)
joined (l ∷ m ∷ ls) = (m.0, m.1 ++ l.1) ∷ ls
joined ls = ls
