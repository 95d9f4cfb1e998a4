-- What is live on the way down, and what of it is still so after the way back.
use Rattle.std.proofs.Common.{◌≡◌, ℕ, suc, ◌+◌, ◌≤◌, ◌<◌, nat_le, ◌-◌, Bool, true, false, List, []}
use Rattle.std.proofs.Common.{if◌then◌else◌, ◌∷◌, ◌++◌, length, take, Option, Some, None, slice_get}
use Rattle.std.proofs.Common.{refl, sym, ap, ◌∙◌, subst, arith}
use Rattle.std.proofs.Math.Path.{fun_ext}
use Rattle.std.proofs.lemmas.Bool.Decides.{nat_tests}
use Rattle.std.specs.Prelude.{MatchOption}
use Rattle.cat_region.specs.declared.narrowing.Narrowing.{Narrowing}
use Rattle.cat_region.specs.Regions.{Constraints, IsRegion, IsInhabited}
use Rattle.cat_region.specs.Sides.{along, false_side, IsAt, turns, Turns}
use Rattle.cat_region.proofs.Exported.{narrowings-undone, along_dims, joined, decided_alike, region_alike}
use Rattle.cat_region.proofs.Exported.{inhabited_alike, region_before, some_before}
use Rattle.cat_guard.specs.declared.table.Term.{Term}
use Rattle.cat_guard.specs.declared.table.Atom.{Atom}
use Rattle.cat_guard.specs.declared.table.TableTarget.{TableTarget}
use Rattle.cat_guard.specs.Judged.{atom_decided, answers_in}
use Rattle.cat_guard.specs.Valuations.{dims_of}
use Rattle.cat_guard.specs.declared.live.LiveGroup.{LiveGroup}
use Rattle.cat_guard.specs.Live.{IsLiveOf}
use Rattle.cat_guard.specs.declared.levels.Level.{Level}
use Rattle.cat_guard.specs.Levels.{IsLiveAbove, AreLevels}
use Rattle.cat_guard.specs.inside.Past.{is_past}
use Rattle.cat_guard.proofs.FurtherLaws.{KeepsLive}

-- ---- answers

-- what a region answers doesn't hang on its room
pub answers_alike : (atoms : List Atom) (region other : Constraints) → region.dims ≡ other.dims
    → region.narrowings ≡ other.narrowings → answers_in atoms region ≡ answers_in atoms other
answers_alike atoms region other dims narrowings = fun_ext (λ a. by (slice_get atoms a))
  where
    by : (o : Option Atom) → atom_decided region o ≡ atom_decided other o
    by None = refl
    by (Some atom) = decided_alike region other atom.term atom.cut dims narrowings

-- ---- the way back

turn_length : (path next : List Narrowing) (rest : List (List Narrowing)) → turns path ≡ next ∷ rest
    → length next ≤ length path
turn_length [] next rest is = absurd (cc)
turn_length (n ∷ path) next rest is = by n.yes refl (turn_length path next rest)
  where
    by : (b : Bool) → n.yes ≡ b → (turns path ≡ next ∷ rest → length next ≤ length path)
        → length next ≤ suc (length path)
    by true on go =
        let first : (false_side n ∷ path) ∷ turns path ≡ next ∷ rest =
        sym (ap (λ b. if b then (false_side n ∷ path) ∷ turns path else turns path) on) ∙ is in
        let same : false_side n ∷ path ≡ next = cc in
        let long = ap length same in
        omega (arith, long)
    by false on go =
        let less = go (sym (ap (λ b. if b then (false_side n ∷ path) ∷ turns path else turns path) on) ∙ is) in
        omega (arith, less)

front_same : (ns ms : List Narrowing) (n m : Narrowing) → ns ++ n ∷ [] ≡ ms ++ m ∷ [] → ns ≡ ms
front_same ns ms n m same =
    sym (narrowings-undone ns n) ∙ ap (λ (xs : List Narrowing). take (length xs - 1) xs) same ∙ narrowings-undone ms m

-- a region with more room than there is behind the way back stands above it
module _ (base above : Constraints) where
  leads : (path next : List Narrowing) (rest : List (List Narrowing)) (down : List Narrowing)
      → turns path ≡ next ∷ rest → (along above down).narrowings ≡ (along base path).narrowings
      → length path < length next + length down
      → (led : List Narrowing) × ((along above led).narrowings ≡ (along base next).narrowings)
      × (length led + length path ≡ length next + length down)
  leads [] next rest down is same deep = absurd (cc)
  leads (n ∷ path) next rest [] is same deep =
      let less = turn_length (n ∷ path) next rest is in
      let deeper : length (n ∷ path) < length next + 0 = deep in
      absurd (omega (arith, less, deeper))
  leads (n ∷ path) next rest (m ∷ down) is same deep = by n.yes refl (leads path next rest down)
    where
      front : (along above down).narrowings ≡ (along base path).narrowings
      front = front_same (along above down).narrowings (along base path).narrowings m n same

      by : (b : Bool) → n.yes ≡ b
          → (turns path ≡ next ∷ rest → (along above down).narrowings ≡ (along base path).narrowings
          → length path < length next + length down
          → (led : List Narrowing) × ((along above led).narrowings ≡ (along base next).narrowings)
          × (length led + length path ≡ length next + length down))
          → (led : List Narrowing) × ((along above led).narrowings ≡ (along base next).narrowings)
          × (length led + suc (length path) ≡ length next + suc (length down))
      by true on go =
          let first : (false_side n ∷ path) ∷ turns path ≡ next ∷ rest =
          sym (ap (λ b. if b then (false_side n ∷ path) ∷ turns path else turns path) on) ∙ is in
          let side : false_side n ∷ path ≡ next = cc in
          let long : suc (length path) ≡ length next = ap length side in (
            false_side n ∷ down,
            ap (λ (ns : List Narrowing). ns ++ false_side n ∷ []) front
                ∙ ap (λ (p : List Narrowing). (along base p).narrowings) side,
            omega (arith, long),
          )
      by false on go =
          let deeper : suc (length path) < length next + suc (length down) = deep in
          let led = go (sym (ap (λ b. if b then (false_side n ∷ path) ∷ turns path else turns path) on) ∙ is) front
          (omega (arith, deeper)) in
          let long = led.2 in
          (led.0, led.1, omega (arith, long))

-- ---- levels

module _ (atoms : List Atom) (t : TableTarget) where
  pub popped : (region : Constraints) (l : Level) (ls : List Level) → AreLevels atoms t region (l ∷ ls)
      → AreLevels atoms t region ls
  popped region l [] are = tt
  popped region l (m ∷ ms) are = (
    are.2.0,
    record {
      path = are.1.path ++ are.2.1.path;
      here = joined are.2.0 are.0 region are.2.1.path are.1.path are.2.1.here are.1.here;
      room_is = are.2.1.room_is;
      live_there = are.2.1.live_there;
    },
    are.2.2,
  )

  -- what is live on the way to a region is so on the way to one that is narrowed once more
  pub further : (region after : Constraints) (n : Narrowing) (ls : List Level) → after.dims ≡ region.dims
      → after.narrowings ≡ region.narrowings ++ n ∷ [] → after.room + 1 ≡ region.room
      → AreLevels atoms t region ls → AreLevels atoms t after ls
  further region after n [] dims narrowings room are = tt
  further region after n (l ∷ ls) dims narrowings room are = (
    are.0,
    record {
      path = n ∷ are.1.path;
      here = record {
        dims = dims ∙ are.1.here.dims;
        narrowings = narrowings ∙ ap (λ ns. ns ++ n ∷ []) are.1.here.narrowings;
        room = let left = are.1.here.room in omega (arith, left, room);
      };
      room_is = are.1.room_is;
      live_there = are.1.live_there;
    },
    are.2,
  )

  -- the way back
  pub turned : (base before after : Constraints) (path : List Narrowing) (ls : List Level) → IsAt base path before
      → Turns base path true after → is_past after.room ls ≡ false → AreLevels atoms t before ls
      → AreLevels atoms t after ls
  turned base before after path [] at turn past are = tt
  turned base before after path (l ∷ ls) at turn past are =
      let less : after.room < l.room = grind (arith, nat_tests, past) in
      let room = are.1.room_is in
      let from_base = at.room in
      let to_base = turn.2.room in
      let from_above = are.1.here.room in
      let led = leads base are.0 path turn.0 (turns turn.0) are.1.path turn.1
      (sym are.1.here.narrowings ∙ at.narrowings) (omega (arith, less, room, from_base, to_base, from_above)) in
      let long = led.2 in (
        are.0,
        record {
          path = led.0;
          here = record {
            dims = turn.2.dims ∙ sym at.dims ∙ are.1.here.dims;
            narrowings = turn.2.narrowings ∙ sym led.1;
            room = omega (arith, from_base, to_base, from_above, long);
          };
          room_is = are.1.room_is;
          live_there = are.1.live_there;
        },
        are.2,
      )

  pub put_on : (region : Constraints) (l : Level) (ls : List Level) → region.room ≡ l.room
      → IsLiveOf t (answers_in atoms region) l.live → AreLevels atoms t region ls → AreLevels atoms t region (l ∷ ls)
  put_on region l ls room live are = (
    region,
    record {
      path = [];
      here = record { dims = refl; narrowings = refl; room = omega arith };
      room_is = room;
      live_there = live;
    },
    are,
  )

  pub live_on_top : (region : Constraints) (ls : List Level) (l : Level) → slice_get ls 0 ≡ Some l
      → AreLevels atoms t region ls → IsLiveAbove atoms t region l.live
  live_on_top region [] l at are = absurd (cc)
  live_on_top region (m ∷ ms) l at are =
      let same : m ≡ l = cc in
      subst (λ k. IsLiveAbove atoms t region k.live) same
      (record { above = are.0; path = are.1.path; here = are.1.here; live_there = are.1.live_there })

  pub live_anyway : (region : Constraints) (live : List LiveGroup)
      → ((answers : ℕ → Option Bool) → IsLiveOf t answers live) → IsLiveAbove atoms t region live
  live_anyway region live whole = record {
    above = region;
    path = [];
    here = record { dims = refl; narrowings = refl; room = omega arith };
    live_there = whole (answers_in atoms region);
  }

  pub pop_keeps : (region : Constraints) (old new : List Level) (r : Option Level)
      → MatchOption r ((old ≡ []) × (new ≡ [])) (λ top. old ≡ top ∷ new) → AreLevels atoms t region old
      → AreLevels atoms t region new
  pop_keeps region old new None is are = subst (λ ls. AreLevels atoms t region ls) (sym is.1) tt
  pop_keeps region old new (Some l) is are =
      popped region l new (subst (λ ls. AreLevels atoms t region ls) is are)

-- whether the last level is past
pub past_top : (room : ℕ) (ls : List Level) (l : Level) → slice_get ls 0 ≡ Some l → nat_le l.room room ≡ is_past room ls
past_top room [] l at = absurd (cc)
past_top room (m ∷ ms) l at = let same : l ≡ m = cc in ap (λ k. nat_le k.room room) same

-- ---- down to a region

module _ (terms : List Term) (atoms : List Atom) (keeps : KeepsLive terms atoms) (t : TableTarget) where
  live_along : (above : Constraints) (path : List Narrowing) (live : List LiveGroup) → IsRegion (along above path)
      → (along above path).dims ≡ dims_of terms → IsInhabited (along above path)
      → IsLiveOf t (answers_in atoms above) live → IsLiveOf t (answers_in atoms (along above path)) live
  live_along above [] live is dims some live_there = live_there
  live_along above (n ∷ path) live is dims some live_there =
      let parts = region_before (along above path) n is in
      keeps t (along above path) n live parts.0 dims parts.1 some
      (live_along above path live parts.0 dims (some_before (along above path) n some) live_there)

  -- what is live above a region that admits something is live in it
  pub live_here : (region : Constraints) (live : List LiveGroup) → IsRegion region → region.dims ≡ dims_of terms
      → IsInhabited region → IsLiveAbove atoms t region live → IsLiveOf t (answers_in atoms region) live
  live_here region live is dims some above =
      let end = along above.above above.path in
      let same : region.dims ≡ end.dims = above.here.dims ∙ sym (along_dims above.above above.path) in
      subst (λ answers. IsLiveOf t answers live)
      (sym (answers_alike atoms region end same above.here.narrowings))
      (live_along above.above above.path live (region_alike region end same above.here.narrowings is) (sym same ∙ dims)
      (inhabited_alike region end same above.here.narrowings some) above.live_there)
