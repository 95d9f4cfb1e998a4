-- Groups of a target before anything is known.
use Rattle.std.specs.Prelude.{◌≡◌, ℕ, Bool, IsTrue, List, map, length, Option}
use Rattle.std.specs.List.{list_all}
use Rattle.cat_guard.specs.declared.table.TableTarget.{TableTarget}
use Rattle.cat_guard.specs.Soundness.{group_is_sound}
use Rattle.cat_guard.specs.Verdicts.{group_verdict}
use Rattle.cat_guard.specs.declared.live.LiveGroup.{LiveGroup}
use Rattle.cat_guard.specs.Live.{live_verdict, names_defs}

-- the groups of a target name its definitions and groups
abbrev pub groups_are_sound : TableTarget → Bool
groups_are_sound t = list_all (group_is_sound (length t.defs) (length t.groups)) t.groups

-- a group is judged as that one of the target
pub record IsWholeGroup (t : TableTarget) (room n : ℕ) (group : LiveGroup) : Type 0 where
  pub named : IsTrue (names_defs (length t.defs) group)
  pub judged : (answers : ℕ → Option Bool) → live_verdict t answers group ≡ group_verdict t answers room n

-- groups are, each in its place
pub record AreWholeGroups (t : TableTarget) (room : ℕ) (numbers : List ℕ) (groups : List LiveGroup) : Type 0 where
  pub named : IsTrue (list_all (names_defs (length t.defs)) groups)
  pub judged : (answers : ℕ → Option Bool)
      → map (live_verdict t answers) groups ≡ map (group_verdict t answers room) numbers
