-- What is live of a target on the way down to a region, by the regions above it.
use Rattle.std.specs.Prelude.{◌≡◌, ℕ, Bool, List, [], ◌∷◌, Option}
use Rattle.cat_region.specs.declared.narrowing.Narrowing.{Narrowing}
use Rattle.cat_region.specs.Regions.{Constraints}
use Rattle.cat_region.specs.Sides.{IsAt}
use Rattle.cat_guard.specs.declared.table.Atom.{Atom}
use Rattle.cat_guard.specs.declared.table.TableTarget.{TableTarget}
use Rattle.cat_guard.specs.Judged.{answers_in}
use Rattle.cat_guard.specs.declared.live.LiveGroup.{LiveGroup}
use Rattle.cat_guard.specs.Conjuncts.{AreOfDefs}
use Rattle.cat_guard.specs.Live.{IsLiveOf}
use Rattle.cat_guard.specs.declared.levels.Level.{Level}
use Rattle.cat_guard.specs.declared.levels.Levels.{Levels}

-- this is live in a region from which a path leads down to another one
pub record IsLiveAbove (atoms : List Atom) (t : TableTarget) (region : Constraints) (live : List LiveGroup) :
    Type 0 where
  pub above : Constraints
  pub path : List Narrowing
  pub here : IsAt above path region
  pub live_there : IsLiveOf t (answers_in atoms above) live

-- a level is of a region from which a path leads down to another one
pub record IsLevel (atoms : List Atom) (t : TableTarget) (region : Constraints) (level : Level) (above : Constraints) :
    Type 0 where
  pub path : List Narrowing
  pub here : IsAt above path region
  pub room_is : above.room ≡ level.room
  pub live_there : IsLiveOf t (answers_in atoms above) level.live

-- of some levels, the last one first, each is of a region above the one before
abbrev pub AreLevels : List Atom → TableTarget → Constraints → List Level → Type 0
AreLevels atoms t region [] = Unit {0}
AreLevels atoms t region (l ∷ ls) =
    (above : Constraints) × IsLevel atoms t region l above × AreLevels atoms t above ls

-- what is live whatever is known, and on the way down to a region
pub record AreLiveTo (atoms : List Atom) (t : TableTarget) (region : Constraints) (kept : Levels) : Type 0 where
  pub conjuncts : AreOfDefs t.defs kept.conjuncts
  pub whole : (answers : ℕ → Option Bool) → IsLiveOf t answers kept.whole
  pub levels : AreLevels atoms t region kept.levels
