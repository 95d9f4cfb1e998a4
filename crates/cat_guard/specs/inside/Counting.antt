-- The verdict of a list, some of whose members were counted.
use Rattle.std.specs.Prelude.{◌≡◌, ℕ, Bool, true, false, ◌||◌, List, ◌∷◌, Option, Some, None, if◌then◌else◌}
use Rattle.cat_scope.specs.Names.{IsOneOf}
use Rattle.cat_guard.specs.declared.table.TableTarget.{TableTarget}
use Rattle.cat_guard.specs.Verdicts.{Verdict, Conflict, Open, some_conflict, some_open, holders, are_two, first_of}
use Rattle.cat_guard.specs.declared.tally.MemberJudgement.{MemberJudgement}
use Rattle.cat_guard.specs.declared.tally.Tally.{Tally}
use Rattle.cat_guard.specs.Judgements.{atoms_in}
use Rattle.cat_guard.specs.inside.Found.{Finds}

-- what was counted, in front of what follows
abbrev pub counted_before : Option ℕ → List ℕ → List ℕ
counted_before None ds = ds
counted_before (Some d) ds = d ∷ ds

-- there is one
abbrev pub is_there : Option ℕ → Bool
is_there None = false
is_there (Some a) = true

-- the verdict of a list of which some members were counted and these follow
abbrev pub completed : Tally → List Verdict → Verdict
completed tally vs =
    if tally.conflict || some_conflict vs || are_two (counted_before tally.held (holders vs))
    then Conflict
    else if is_there tally.needs || some_open vs then Open else first_of (counted_before tally.held (holders vs))

-- an atom of a target that has no answer, where one is kept
abbrev pub HasOpen : (ℕ → Option Bool) → TableTarget → Option ℕ → Type 0
HasOpen answers t None = Unit {0}
HasOpen answers t (Some a) = IsOneOf a (atoms_in t) × (answers a ≡ None)

-- a tally with one member more: whatever this member is the verdict of, the list is judged as before, with the member
-- counted
abbrev pub Counts : Tally → MemberJudgement → Tally → Type 0
Counts before member tally =
    (answers : ℕ → Option Bool) (t : TableTarget) (v : Verdict) (vs : List Verdict) → HasOpen answers t before.needs
    → Finds answers t v member → (completed tally vs ≡ completed before (v ∷ vs)) × HasOpen answers t tally.needs

-- a member in front of others changes nothing of what was counted
abbrev pub Passes : Tally → Verdict → Type 0
Passes tally v = (vs : List Verdict) → completed tally vs ≡ completed tally (v ∷ vs)
