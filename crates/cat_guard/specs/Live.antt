-- The definitions of a target that aren't known to be false, by their groups, and how the target is judged by them.
use Rattle.std.specs.Prelude.{◌≡◌, ℕ, Bool, ◌&&◌, IsTrue, List, map, length, Option, slice_get}
use Rattle.std.specs.List.{list_all}
use Rattle.cat_guard.specs.declared.table.TableTarget.{TableTarget}
use Rattle.cat_guard.specs.Formulas.{IsKept}
use Rattle.cat_guard.specs.Soundness.{are_below}
use Rattle.cat_guard.specs.Verdicts.{Verdict, listed, else_verdict, def_verdict, verdict_of}
use Rattle.cat_guard.specs.declared.live.LiveGroup.{LiveGroup}
use Rattle.cat_guard.specs.declared.live.LiveGroup.TheOpen.{LiveGroup-F}
use Rattle.cat_guard.specs.declared.live.LiveGroup.TheFolds.{fold-LiveGroup}

-- the list of some definitions of a target
abbrev pub defs_verdict : TableTarget → (ℕ → Option Bool) → List ℕ → Verdict
defs_verdict t answers defs = listed (map (λ d. def_verdict answers d (slice_get t.defs d)) defs)

-- a group as a target's groups are judged: the list of those that except it and, where that is Empty, that of its own
-- definitions; both of what is live alone
abbrev pub live_by : TableTarget → (ℕ → Option Bool) → LiveGroup-F Verdict → Verdict
live_by t answers g = else_verdict (listed g.excepted_by) (defs_verdict t answers g.defs)

-- what is known of a group that may still count
unfoldable pub live_verdict : TableTarget → (ℕ → Option Bool) → LiveGroup → Verdict
live_verdict t answers = fold-LiveGroup Verdict (live_by t answers)

-- the list of some groups
abbrev pub lives_verdict : TableTarget → (ℕ → Option Bool) → List LiveGroup → Verdict
lives_verdict t answers live = listed (map (live_verdict t answers) live)

-- a group names definitions, of which there are so many
abbrev pub named_by : ℕ → LiveGroup-F Bool → Bool
named_by defs g = list_all (λ named. named) g.excepted_by && are_below defs g.defs

-- a group, and those excepted to it, name only definitions below that number
unfoldable pub names_defs : ℕ → LiveGroup → Bool
names_defs defs = fold-LiveGroup Bool (named_by defs)

-- more is known: each answer stays
abbrev pub AreKept : (ℕ → Option Bool) → (ℕ → Option Bool) → Type 0
AreKept answers more = (a : ℕ) → IsKept (answers a) (more a)

-- what is live of a target by these answers: whatever more is known, it is judged as the target is
pub record IsLiveOf (t : TableTarget) (answers : ℕ → Option Bool) (live : List LiveGroup) : Type 0 where
  pub named : IsTrue (list_all (names_defs (length t.defs)) live)
  pub judged : (more : ℕ → Option Bool) → AreKept answers more → lives_verdict t more live ≡ verdict_of t more
