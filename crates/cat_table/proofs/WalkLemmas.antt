-- Going through a tree, a region stays at the end of the way.
use Rattle.std.proofs.Common.{◌≡◌, ◌∙◌, ◌⊎◌, ◌≤◌, ◌<◌, ◌+◌, ℕ, suc, nat_lt, Bool, true, false, IsTrue, List, []}
use Rattle.std.proofs.Common.{◌∷◌, ◌++◌, Option, Some, None, length, slice_get, refl, sym, ap, subst, inl, inr, arith}
use Rattle.std.proofs.Common.{if◌then◌else◌}
use Rattle.std.proofs.lemmas.Bool.Decides.{nat_tests}
use Rattle.std.specs.Prelude.{IfSome}
use Rattle.cat_value.proofs.Exported.{found}
use Rattle.cat_region.specs.declared.narrowing.Narrowing.{Narrowing}
use Rattle.cat_region.specs.Regions.{Constraints, narrowed_to}
use Rattle.cat_region.specs.Sides.{IsAt, Turns, along, turns}
use Rattle.cat_region.proofs.Exported.{along_alike}
use Rattle.cat_guard.specs.declared.levels.Levels.{Levels}
use Rattle.cat_guard.specs.declared.table.Atom.{Atom}
use Rattle.cat_guard.specs.declared.table.Table.{Table}
use Rattle.cat_guard.specs.declared.table.TableTarget.{TableTarget}
use Rattle.cat_guard.specs.declared.table.Term.{Term}
use Rattle.cat_guard.specs.declared.tree.TreeNode.{TreeNode}
use Rattle.cat_guard.specs.declared.tree.TreeNode.TheVariants as node
use Rattle.cat_guard.specs.Judged.{judged_in}
use Rattle.cat_guard.specs.Levels.{AreLiveTo}
use Rattle.cat_guard.specs.Trees.{answering, with_answer}
use Rattle.cat_guard.specs.Valuations.{dims_of}
use Rattle.cat_guard.specs.Verdicts.{verdict_of}
use Rattle.cat_guard.proofs.Exported.{answers_alike, both_true, if_some}
use Rattle.cat_search.specs.declared.way.Answer.{Answer}
use Rattle.cat_search.specs.Searched.{everything}
use Rattle.cat_search.specs.Ways.{ask_below, led_to, passed, turned}
use Rattle.cat_table.specs.Rows.{answered}
use Rattle.cat_table.specs.inside.Walking.{GoesOn, IsOn, narrowing_by, path_of, whole_of}
use Rattle.cat_table.proofs.RowLemmas.{led_dims}

-- ---- the region at the end of a way

led_along : (atoms : List Atom) (base : Constraints) (way : List Answer)
    → led_to atoms base way ≡ along base (path_of atoms way)
led_along atoms base [] = refl
led_along atoms base (n ∷ way) =
    ap (λ r. with_answer r (slice_get atoms n.atom) n.yes) (led_along atoms base way) ∙ by (slice_get atoms n.atom)
  where
    by : (o : Option Atom) → with_answer (along base (path_of atoms way)) o n.yes
        ≡ along base (narrowing_by o n.yes ++ path_of atoms way)
    by None = refl
    by (Some atom) = refl

pub narrowings_on : (terms : List Term) (atoms : List Atom) (room : ℕ) (way : List Answer) (region : Constraints)
    → IsAt (whole_of terms room) (path_of atoms way) region
    → region.narrowings ≡ (led_to atoms (everything terms) way).narrowings
narrowings_on terms atoms room way region at =
    at.narrowings ∙ along_alike (whole_of terms room) (everything terms) (path_of atoms way) refl
    ∙ sym (ap (λ r. r.narrowings) (led_along atoms (everything terms) way))

pub judged_on : (terms : List Term) (atoms : List Atom) (way : List Answer) (region : Constraints) (t : TableTarget)
    → region.dims ≡ dims_of terms → region.narrowings ≡ (led_to atoms (everything terms) way).narrowings
    → judged_in atoms region t ≡ judged_in atoms (led_to atoms (everything terms) way) t
judged_on terms atoms way region t dims narrowings =
    ap (verdict_of t) (answers_alike atoms region (led_to atoms (everything terms) way)
    (dims ∙ sym (led_dims atoms (everything terms) way)) narrowings)

-- ---- how long a way is

turned_length : (way : List Answer) → length (turned way) ≤ length way
turned_length [] = omega arith
turned_length (n ∷ way) = by n.yes (turned_length way)
  where
    by : (b : Bool) → length (turned way) ≤ length way
        → length (if b then record { atom = n.atom; yes = false } ∷ way else turned way) ≤ suc (length way)
    by true less = omega arith
    by false less = omega (arith, less)

pub passed_length : (n : TreeNode) (way : List Answer) → length (passed n way) ≤ length way + 1
passed_length (node.Split a) way = omega arith
passed_length node.Leaf way = let less = turned_length way in omega (arith, less)
passed_length node.Rest way = let less = turned_length way in omega (arith, less)

path_length : (atoms : List Atom) (way : List Answer) → length (path_of atoms way) ≤ length way
path_length atoms [] = omega arith
path_length atoms (n ∷ way) = by (slice_get atoms n.atom) (path_length atoms way)
  where
    by : (o : Option Atom) → length (path_of atoms way) ≤ length way
        → length (narrowing_by o n.yes ++ path_of atoms way) ≤ suc (length way)
    by None less = omega (arith, less)
    by (Some atom) less = omega (arith, less)

pub room_left : (terms : List Term) (atoms : List Atom) (room : ℕ) (way : List Answer) (region : Constraints)
    → IsAt (whole_of terms room) (path_of atoms way) region → length way < room → 0 < region.room
room_left terms atoms room way region at few =
    let all : region.room + length (path_of atoms way) ≡ room = at.room in
    let less = path_length atoms way in
    omega (arith, all, less, few)

less_is : (a b : ℕ) → nat_lt a b ≡ true → a < b
less_is a b h = grind (arith, nat_tests)

-- the last atom that a way asks is one of the table
pub last_below : (bound a : ℕ) (way : List Answer) → IsTrue (ask_below bound (answered a true ∷ way)) → a < bound
last_below bound a way asked = less_is a bound (both_true (nat_lt a bound) (ask_below bound way) asked).0

-- ---- down

at_down : (terms : List Term) (atoms : List Atom) (room : ℕ) (way : List Answer) (region next : Constraints)
    (a : ℕ) → a < length atoms → IsAt (whole_of terms room) (path_of atoms way) region → next.dims ≡ region.dims
    → next.narrowings ≡ (answering atoms region a true).narrowings → next.room + 1 ≡ region.room
    → IsAt (whole_of terms room) (path_of atoms (answered a true ∷ way)) next
at_down terms atoms room way region next a below at dims narrowings left =
    let there = found atoms a below in by (slice_get atoms a) there.0 there.1 narrowings
  where
    by : (o : Option Atom) (atom : Atom) → o ≡ Some atom → next.narrowings ≡ (with_answer region o true).narrowings
        → IsAt (whole_of terms room) (narrowing_by o true ++ path_of atoms way) next
    by None atom is narrowings = absurd (cc)
    by (Some other) atom is narrowings =
        let all : region.room + length (path_of atoms way) ≡ room = at.room in record {
          dims = dims ∙ at.dims;
          narrowings = narrowings ∙ ap (λ ns. ns ++ narrowed_to other.term other.cut true ∷ []) at.narrowings;
          room = omega (arith, all, left);
        }

-- ---- over

-- a path turns to a way, where it turns, and else that way is at its end
abbrev TurnsTo : List Atom → List Narrowing → List Answer → Type 0
TurnsTo atoms path next =
    ((turns path ≡ []) × (next ≡ [])) ⊎ (turns path ≡ path_of atoms next ∷ turns (path_of atoms next))

turns_to : (atoms : List Atom) (way : List Answer) → IsTrue (ask_below (length atoms) way)
    → TurnsTo atoms (path_of atoms way) (turned way)
turns_to atoms [] asked = inl (refl, refl)
turns_to atoms (n ∷ way) asked =
    let two = both_true (nat_lt n.atom (length atoms)) (ask_below (length atoms) way) asked in
    let there = found atoms n.atom (less_is n.atom (length atoms) two.0) in
    by (slice_get atoms n.atom) there.0 refl there.1 n.yes (turns_to atoms way two.1)
  where
    by : (o : Option Atom) (atom : Atom) → slice_get atoms n.atom ≡ o → o ≡ Some atom → (b : Bool)
        → TurnsTo atoms (path_of atoms way) (turned way)
        → TurnsTo atoms (narrowing_by o b ++ path_of atoms way)
        (if b then record { atom = n.atom; yes = false } ∷ way else turned way)
    by None atom same is b before = absurd (cc)
    by (Some other) atom same is true before =
        let path = path_of atoms way in
        inr (subst (λ o. turns (narrowed_to other.term other.cut true ∷ path)
        ≡ (narrowing_by o false ++ path) ∷ turns (narrowing_by o false ++ path)) (sym same) refl)
    by (Some other) atom same is false before = before

at_turn : (atoms : List Atom) (base region : Constraints) (path : List Narrowing) (next : List Answer)
    → TurnsTo atoms path next → Turns base path true region → IsAt base (path_of atoms next) region
at_turn atoms base region path next (inl none) turned =
    let some : turns path ≡ turned.0 ∷ turns turned.0 = turned.1 in
    let ended : turns path ≡ [] = none.0 in absurd (cc (some, ended))
at_turn atoms base region path next (inr some) turned =
    let other : turns path ≡ turned.0 ∷ turns turned.0 = turned.1 in
    let same : turned.0 ≡ path_of atoms next = cc (some, other) in
    subst (λ (p : List Narrowing). IsAt base p region) same turned.2

at_end : (atoms : List Atom) (path : List Narrowing) (next : List Answer) → TurnsTo atoms path next → turns path ≡ []
    → next ≡ []
at_end atoms path next (inl none) ended = none.1
at_end atoms path next (inr some) ended = absurd (cc (some, ended))

turned_below : (bound : ℕ) (way : List Answer) → IsTrue (ask_below bound way) → IsTrue (ask_below bound (turned way))
turned_below bound [] asked = asked
turned_below bound (n ∷ way) asked =
    let two = both_true (nat_lt n.atom bound) (ask_below bound way) asked in
    by n.yes asked (turned_below bound way two.1)
  where
    by : (b : Bool) → IsTrue (ask_below bound (n ∷ way)) → IsTrue (ask_below bound (turned way))
        → IsTrue (ask_below bound (if b then record { atom = n.atom; yes = false } ∷ way else turned way))
    by true asked before = asked
    by false asked before = before

-- ---- from the start on

pub on_start : (table : Table) (target room : ℕ) (way : List Answer) (region : Constraints) (levels : Levels)
    → way ≡ [] → region ≡ whole_of table.terms room
    → IfSome (slice_get table.targets target) (λ t. (atoms : List Atom) (region : Constraints)
    → AreLiveTo atoms t region levels) → IsOn table target room way region levels
on_start table target room way region levels none whole live = record {
  asked = subst (λ (w : List Answer). IsTrue (ask_below (length table.atoms) w)) (sym none) refl;
  here = subst (λ (w : List Answer). IsAt (whole_of table.terms room) (path_of table.atoms w) region) (sym none)
      (subst (λ (r : Constraints). IsAt (whole_of table.terms room) [] r) (sym whole)
      (record { dims = refl; narrowings = refl; room = omega arith }));
  live = if_some (slice_get table.targets target) live (λ t all. all table.atoms region);
}

-- ---- one node further

module _ (table : Table) (target room : ℕ) (way : List Answer) (region next : Constraints) (kept levels : Levels)
    (on : IsOn table target room way region kept) where
  pub on_down : (a : ℕ) → IsTrue (ask_below (length table.atoms) (answered a true ∷ way)) → next.dims ≡ region.dims
      → next.narrowings ≡ (answering table.atoms region a true).narrowings → next.room + 1 ≡ region.room
      → IfSome (slice_get table.targets target) (λ t. AreLiveTo table.atoms t next levels)
      → IsOn table target room (answered a true ∷ way) next levels
  on_down a asked dims narrowings left live = record {
    asked = asked;
    here = at_down table.terms table.atoms room way region next a (last_below (length table.atoms) a way asked) on.here
        dims narrowings left;
    live = live;
  }

  pub on_over : (b : Bool) → Turns (whole_of table.terms room) (path_of table.atoms way) b next
      → (b ≡ true → IfSome (slice_get table.targets target) (λ t. AreLiveTo table.atoms t next levels))
      → GoesOn table target room (turned way) next levels b
  on_over true turned_so live = record {
    asked = turned_below (length table.atoms) way on.asked;
    here = at_turn table.atoms (whole_of table.terms room) next (path_of table.atoms way) (turned way)
        (turns_to table.atoms way on.asked) turned_so;
    live = live refl;
  }
  on_over false turned_so live =
      at_end table.atoms (path_of table.atoms way) (turned way) (turns_to table.atoms way on.asked) turned_so.0
