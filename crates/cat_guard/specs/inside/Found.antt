-- What is found of a verdict.
use Rattle.std.specs.Prelude.{◌≡◌, ℕ, Bool, Option, None}
use Rattle.cat_scope.specs.Names.{IsOneOf}
use Rattle.cat_guard.specs.declared.table.TableTarget.{TableTarget}
use Rattle.cat_guard.specs.Verdicts.{Verdict, Holds, Empty, Conflict, Open}
use Rattle.cat_guard.specs.declared.tally.MemberJudgement.{MemberJudgement}
use Rattle.cat_guard.specs.declared.tally.MemberJudgement.TheVariants as finding
use Rattle.cat_guard.specs.Judgements.{atoms_in}

-- the verdict; where it is open, an atom of the target that has no answer
abbrev pub Finds : (ℕ → Option Bool) → TableTarget → Verdict → MemberJudgement → Type 0
Finds answers t v (finding.Holds d) = v ≡ Holds d
Finds answers t v finding.Empty = v ≡ Empty
Finds answers t v finding.Conflict = v ≡ Conflict
Finds answers t v (finding.Needs a) = (v ≡ Open) × IsOneOf a (atoms_in t) × (answers a ≡ None)
