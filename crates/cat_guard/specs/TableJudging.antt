-- How a table's target is judged by the truth values of its guards, without consequences, and what covers it.
use Rattle.std.specs.Prelude.{ℕ, ◌+◌, Bool, true, false, IsTrue, List, [], ◌∷◌, map, Option, Some, None}
use Rattle.std.specs.Prelude.{Result, Ok, Err, slice_get}
use Rattle.cat_pos.specs.declared.pos.Pos.{Pos}
use Rattle.cat_scope.specs.declared.stop.Stop.{Stop}
use Rattle.cat_scope.specs.declared.stop.Stop.TheVariants.{Stuck}
use Rattle.cat_scope.specs.Runs.{gives, stops}
use Rattle.cat_scope.specs.Judging.{Held, Judged, settle, judge}
use Rattle.cat_scope.specs.Chains.{longest_chain}
use Rattle.cat_guard.specs.declared.guard.GuardDef.{GuardDef}
use Rattle.cat_guard.specs.declared.guard.GuardGroup.{GuardGroup}
use Rattle.cat_guard.specs.declared.table.TableTarget.{TableTarget}
use Rattle.cat_guard.specs.Formulas.{truth}
use Rattle.cat_guard.specs.GuardFormulas.{formula_of}

-- judging without consequences: which definition holds, if any, or a stop
abbrev pub Decided : Type 0
Decided = Judged (Unit {0})

-- a definition with a number and a position, by the truth value of its guard
abbrev pub by_truth : Bool → ℕ → Pos → Decided
by_truth true number pos = gives (Some (record { number = number; pos = pos; value = tt }))
by_truth false number pos = gives None

-- a definition of a target, where atoms have truth values
abbrev pub decided_def : (ℕ → Bool) → Option GuardDef → Decided
decided_def holds None = stops Stuck
decided_def holds (Some d) = by_truth (truth holds (formula_of d.guard)) d.number d.pos

-- a group's own definitions
abbrev pub decided_own : TableTarget → (ℕ → Bool) → Option GuardGroup → Decided
decided_own t holds None = stops Stuck
decided_own t holds (Some g) = settle t.target (map (λ d. decided_def holds (slice_get t.defs d)) g.defs)

-- number h in front, with each of some numbers in front of it
abbrev pub each_before : ℕ → List ℕ → List (ℕ × ℕ) → List (ℕ × ℕ)
each_before h [] pairs = pairs
each_before h (g ∷ gs) pairs = (g, h) ∷ each_before h gs pairs

-- the pairs of groups of which the first excepts the second, as groups from number n on tell
abbrev pub pairs_from : ℕ → List GuardGroup → List (ℕ × ℕ)
pairs_from n [] = []
pairs_from n (g ∷ gs) = each_before n g.excepted_by (pairs_from (n + 1) gs)

-- a group, by those that except it and then by its own definitions
abbrev pub decided_group : TableTarget → (ℕ → Bool) → ℕ → ℕ → Decided
decided_group t holds = judge t.target (pairs_from 0 t.groups) (λ g. decided_own t holds (slice_get t.groups g))

-- a target, by its roots
abbrev pub decided : TableTarget → (ℕ → Bool) → Decided
decided t holds = settle t.target (map (decided_group t holds longest_chain) t.roots)

-- Held, or Empty where that is allowed
abbrev pub IsCovered : {A : Type 0} → Bool → Result (Option (Held A)) Stop → Type 0
IsCovered empty (Ok None) = IsTrue empty
IsCovered empty (Ok (Some h)) = Unit {0}
IsCovered empty (Err stop) = ⊥

-- a target where atoms have these truth values
abbrev pub Covers : TableTarget → (ℕ → Bool) → Type 0
Covers t holds = IsCovered t.may_be_empty (decided t holds).end
