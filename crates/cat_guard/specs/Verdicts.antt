-- What is known of the judging of a table's target, where some truth values of atoms are known.
use Rattle.std.specs.Prelude.{◌≡◌, ℕ, zero, suc, Bool, true, false, ◌||◌, List, [], ◌∷◌, map, Option, Some, None, Ok}
use Rattle.std.specs.Prelude.{Err, Result, slice_get, if◌then◌else◌}
use Rattle.cat_pos.specs.declared.pos.Pos.{Pos}
use Rattle.cat_value.specs.declared.outcome.Target.{Target}
use Rattle.cat_scope.specs.declared.stop.Stop.{Stop}
use Rattle.cat_scope.specs.declared.stop.Stop.TheVariants as stops
use Rattle.cat_scope.specs.Judging.{Held}
use Rattle.cat_scope.specs.Chains.{longest_chain}
use Rattle.cat_guard.specs.declared.guard.GuardDef.{GuardDef}
use Rattle.cat_guard.specs.declared.guard.GuardGroup.{GuardGroup}
use Rattle.cat_guard.specs.declared.table.TableTarget.{TableTarget}
use Rattle.cat_guard.specs.Formulas.{known}
use Rattle.cat_guard.specs.GuardFormulas.{formula_of}

-- the definition of that number among the target's holds, none does, there is a conflict, or it is not known
pub data Verdict : Type 0 where
  Holds : ℕ → Verdict
  Empty : Verdict
  Conflict : Verdict
  Open : Verdict

-- a conflict is among them
abbrev pub some_conflict : List Verdict → Bool
some_conflict [] = false
some_conflict (Conflict ∷ vs) = true
some_conflict (v ∷ vs) = some_conflict vs

-- one of them is open
abbrev pub some_open : List Verdict → Bool
some_open [] = false
some_open (Open ∷ vs) = true
some_open (v ∷ vs) = some_open vs

-- the definitions that hold
abbrev pub holders : List Verdict → List ℕ
holders [] = []
holders (Holds d ∷ vs) = d ∷ holders vs
holders (v ∷ vs) = holders vs

-- two or more
abbrev pub are_two : List ℕ → Bool
are_two [] = false
are_two (d ∷ []) = false
are_two (d ∷ e ∷ ds) = true

-- the first holds, or none does
abbrev pub first_of : List ℕ → Verdict
first_of [] = Empty
first_of (d ∷ ds) = Holds d

-- a list: a conflict where a member is one or two hold, else open where a member is, else what holds
abbrev pub listed : List Verdict → Verdict
listed vs =
    if some_conflict vs || are_two (holders vs)
    then Conflict
    else if some_open vs then Open else first_of (holders vs)

-- the second where the first is Empty
abbrev pub else_verdict : Verdict → Verdict → Verdict
else_verdict Empty other = other
else_verdict v other = v

-- a definition, by what is known of its guard
abbrev pub verdict_by : Option Bool → ℕ → Verdict
verdict_by (Some true) d = Holds d
verdict_by (Some false) d = Empty
verdict_by None d = Open

-- a definition of a target, by its number among these
abbrev pub def_verdict : (ℕ → Option Bool) → ℕ → Option GuardDef → Verdict
def_verdict answers d None = Open
def_verdict answers d (Some def) = verdict_by (known answers (formula_of def.guard)) d

-- the list of a group's own definitions
abbrev pub own_verdict : TableTarget → (ℕ → Option Bool) → Option GuardGroup → Verdict
own_verdict t answers None = Open
own_verdict t answers (Some g) = listed (map (λ d. def_verdict answers d (slice_get t.defs d)) g.defs)

-- the groups that except a group
abbrev pub excepting_in : Option GuardGroup → List ℕ
excepting_in None = []
excepting_in (Some g) = g.excepted_by

-- a group, as the list of the groups that except it and, where that is Empty, as that of its own definitions; a chain
-- of exceptions that is longer than n is open
abbrev pub group_verdict : TableTarget → (ℕ → Option Bool) → ℕ → ℕ → Verdict
group_verdict t answers zero g = Open
group_verdict t answers (suc n) g =
    else_verdict (listed (map (group_verdict t answers n) (excepting_in (slice_get t.groups g))))
    (own_verdict t answers (slice_get t.groups g))

-- a target, as the list of its roots
abbrev pub verdict_of : TableTarget → (ℕ → Option Bool) → Verdict
verdict_of t answers = listed (map (group_verdict t answers longest_chain) t.roots)

-- a definition of that number among the target's, as the one that holds
abbrev pub IsHeldAt : List GuardDef → ℕ → Held (Unit {0}) → Type 0
IsHeldAt defs d h =
    (def : GuardDef) × (slice_get defs d ≡ Some def)
    × (h ≡ record { number = def.number; pos = def.pos; value = tt })

-- a stop is a Conflict of this very target
abbrev pub IsConflictOf : Target → Stop → Type 0
IsConflictOf target stop = (positions : List Pos) × (stop ≡ stops.Conflict target positions)

-- what a verdict says of a judging: it ends Held with that definition, Empty, or in a Conflict of this very target.
-- Where it is open it ends in one of these
abbrev pub Stands : Target → List GuardDef → Verdict → Result (Option (Held (Unit {0}))) Stop → Type 0
Stands target defs (Holds d) (Ok (Some h)) = IsHeldAt defs d h
Stands target defs (Holds d) (Ok None) = ⊥
Stands target defs (Holds d) (Err stop) = ⊥
Stands target defs Empty (Ok None) = Unit {0}
Stands target defs Empty (Ok (Some h)) = ⊥
Stands target defs Empty (Err stop) = ⊥
Stands target defs Conflict (Err stop) = IsConflictOf target stop
Stands target defs Conflict (Ok found) = ⊥
Stands target defs Open (Ok found) = Unit {0}
Stands target defs Open (Err stop) = IsConflictOf target stop

-- what is known of a verdict stays known
abbrev pub IsFurther : Verdict → Verdict → Type 0
IsFurther Open w = Unit {0}
IsFurther v w = v ≡ w
