-- What is left of a list where some of its members are known to be Empty.
use Rattle.std.specs.Prelude.{◌≡◌, ℕ, Bool, IsTrue, List, map, length, nat_lt, Option, slice_get}
use Rattle.std.specs.List.{list_all}
use Rattle.cat_guard.specs.declared.table.TableTarget.{TableTarget}
use Rattle.cat_guard.specs.Verdicts.{Verdict, Empty, listed, def_verdict}
use Rattle.cat_guard.specs.declared.live.LiveGroup.{LiveGroup}
use Rattle.cat_guard.specs.Live.{AreKept, live_verdict, names_defs}

-- members stand in the place of others: they pass a test, and the list is judged as before, whatever more is known
pub record StandFor {A : Type 0} (passes : A → Bool) (verdict : (ℕ → Option Bool) → A → Verdict)
    (answers : ℕ → Option Bool) (before after : List A) : Type 0 where
  pub named : IsTrue (list_all passes after)
  pub judged : (more : ℕ → Option Bool) → AreKept answers more
      → listed (map (verdict more) after) ≡ listed (map (verdict more) before)

-- definitions of a target, by their numbers
abbrev pub DefsStandFor : TableTarget → (ℕ → Option Bool) → List ℕ → List ℕ → Type 0
DefsStandFor t =
    StandFor (λ d. nat_lt d (length t.defs)) (λ answers d. def_verdict answers d (slice_get t.defs d))

-- groups of a target
abbrev pub GroupsStandFor : TableTarget → (ℕ → Option Bool) → List LiveGroup → List LiveGroup → Type 0
GroupsStandFor t = StandFor (names_defs (length t.defs)) (live_verdict t)

-- a group in the place of another one
pub record GroupStandsFor (t : TableTarget) (answers : ℕ → Option Bool) (before after : LiveGroup) : Type 0 where
  pub named : IsTrue (names_defs (length t.defs) after)
  pub judged : (more : ℕ → Option Bool) → AreKept answers more → live_verdict t more after ≡ live_verdict t more before

-- a definition that is Empty, whatever more is known
abbrev pub IsOut : TableTarget → (ℕ → Option Bool) → ℕ → Type 0
IsOut t answers d =
    (more : ℕ → Option Bool) → AreKept answers more → def_verdict more d (slice_get t.defs d) ≡ Empty

-- a group that is Empty, whatever is known
abbrev pub IsGone : TableTarget → LiveGroup → Type 0
IsGone t g = (answers : ℕ → Option Bool) → live_verdict t answers g ≡ Empty
