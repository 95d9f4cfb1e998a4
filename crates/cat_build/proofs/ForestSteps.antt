-- The forests of one more scope, or the refusal that is named first.
use Rattle.std.proofs.Common.{◌≡◌, ◌<◌, ◌≤◌, ◌+◌, ℕ, zero, suc, Bool, true, false, List, [], ◌∷◌, refl, sym, subst}
use Rattle.std.proofs.Common.{arith}
use Rattle.std.proofs.Common.{ltb, inr}
use Rattle.std.proofs.lemmas.Bool.{ltb-true, ltb-false}
use Rattle.std.proofs.lemmas.Bool.Decides.{nat_tests}
use Rattle.std.proofs.lemmas.List.{length-append}
use Rattle.std.specs.Prelude.{◌++◌, length, slice_get, IfSome, nat_lt, if◌then◌else◌}
use Rattle.cat_pos.specs.declared.limits.TheConstants.{ENTRIES_BOUND}
use Rattle.cat_pos.specs.declared.pos.Piece.{Piece}
use Rattle.cat_value.specs.declared.declaration.Scope.{Scope}
use Rattle.cat_scope.specs.declared.defs.Body.{Body}
use Rattle.cat_scope.specs.declared.forest.Forest.{Forest}
use Rattle.cat_scope.specs.declared.programs.Program.{Program}
use Rattle.cat_scope.specs.Forests.{StandsFor}
use Rattle.cat_scope.specs.Groups.{Group}
use Rattle.cat_names.specs.Accepted.{AreOrdered}
use Rattle.cat_except.specs.declared.refusal.ExceptRefusal.{ExceptRefusal}
use Rattle.cat_except.specs.declared.refusal.ExceptRefusal.TheVariants as exception
use Rattle.cat_except.specs.Causes as exceptions
use Rattle.cat_except.specs.Causes.{AreResolved, HaveNoCycle, MakeForest}
use Rattle.cat_except.specs.Faults.{groups_in, unknown_labels, split_labels}
use Rattle.cat_build.specs.Accepted.{IsProgramIn, MakeForestsTo}
use Rattle.cat_build.specs.Causes.{HasCause, HasNoEarlier, IsRefusedForest}
use Rattle.cat_build.specs.Codes.{exception_refusal}
use Rattle.cat_build.specs.inside.Forests.{AreForestsTo, StandsFirst, kind_place, first_named}

-- what holds of each of a list under its number, and of one behind them
last_has : {A : Type 0} (Has : ℕ → A → Type 0) (xs : List A) (x : A) → ((k : ℕ) → IfSome (slice_get xs k) (Has k))
    → Has (length xs) x → (k : ℕ) → IfSome (slice_get (xs ++ x ∷ []) k) (Has k)
last_has Has [] x all last zero = last
last_has Has [] x all last (suc k) = tt
last_has Has (y ∷ ys) x all last zero = all zero
last_has Has (y ∷ ys) x all last (suc k) = last_has (λ j. Has (suc j)) ys x (λ j. all (suc j)) last k

-- what holds in each scope in front of one and in that one holds in front of the next
one_scope_more : (P : ℕ → Type 0) (bound : ℕ) → ((other : ℕ) → other < bound → P other) → P bound
    → (other : ℕ) → other < bound + 1 → P other
one_scope_more P bound earlier last other within = by (ltb other bound) refl
  where
    by : (test : Bool) → ltb other bound ≡ test → P other
    by true is = earlier other (ltb-true other bound is)
    by false is =
        let same : bound ≡ other = omega (arith, within, ltb-false other bound is) in subst P same last

pub one_more : (bound : ℕ) (program : Program) (forests made : List Forest) (forest : Forest)
    → AreForestsTo bound program forests → StandsFor program bound forest.targets
    → MakeForest (groups_in program bound) → made ≡ forests ++ forest ∷ [] → AreForestsTo (bound + 1) program made
one_more bound program forests made forest are stands makes is =
    subst (λ fs. AreForestsTo (bound + 1) program fs) (sym is) (record {
      counted = omega (arith, are.counted, length-append forests (forest ∷ []));
      stand = last_has (λ n f. StandsFor program n f.targets) forests forest are.stand
          (subst (λ n. StandsFor program n forest.targets) (sym are.counted) stands);
      make = one_scope_more (λ n. MakeForest (groups_in program n)) bound are.make makes;
    })

-- a program has a body for each scope
bodies_counted : (scopes : List Scope) (bodies : List Body) → AreOrdered scopes bodies
    → length bodies ≡ length scopes
bodies_counted [] [] are = refl
bodies_counted [] (b ∷ bodies) are = absurd are
bodies_counted (s ∷ scopes) [] are = absurd are
bodies_counted (s ∷ scopes) (b ∷ bodies) are = omega (arith, bodies_counted scopes bodies are.2)

pub few_bodies : (pieces : List Piece) (program : Program) → IsProgramIn pieces program
    → length program.decls.scopes < ENTRIES_BOUND → length program.bodies < ENTRIES_BOUND
few_bodies pieces program is few =
    omega (arith, few, bodies_counted program.decls.scopes program.bodies is.meant.items)

-- ---- kinds of refusals

-- a forest has a fault of no kind
none_earlier : (refusal : ExceptRefusal) (targets : List (List Group)) → MakeForest targets
    → HasNoEarlier refusal targets
none_earlier (exception.LabelUnknown p) targets makes = tt
none_earlier (exception.LabelSplit p) targets makes = makes.resolved.known
none_earlier (exception.ExceptionAmbiguous p) targets makes = (makes.resolved.known, makes.resolved.unsplit)
none_earlier (exception.ExceptionCycle p) targets makes = makes.resolved
none_earlier (exception.TooMany p) targets makes = (makes.resolved, makes.acyclic)
none_earlier exception.Memory targets makes = tt

-- a refusal of a scope says that none of an earlier kind stands there
earlier_of : (refusal : ExceptRefusal) (targets : List (List Group)) → exceptions.HasCause targets refusal
    → HasNoEarlier refusal targets
earlier_of (exception.LabelUnknown p) targets cause = tt
earlier_of (exception.LabelSplit p) targets cause = cause.1
earlier_of (exception.ExceptionAmbiguous p) targets cause = (cause.1, cause.2)
earlier_of (exception.ExceptionCycle p) targets cause = cause.1
earlier_of (exception.TooMany p) targets cause = (cause.1, cause.2)
earlier_of exception.Memory targets cause = tt

-- where none stands of a kind in front of one, none stands of a kind in front of an earlier one
known_before : (later : ExceptRefusal) (targets : List (List Group)) → 2 ≤ kind_place later
    → HasNoEarlier later targets → unknown_labels targets ≡ []
known_before (exception.LabelSplit q) targets behind none = none
known_before (exception.ExceptionAmbiguous q) targets behind none = none.0
known_before (exception.ExceptionCycle q) targets behind none = none.known
known_before (exception.TooMany q) targets behind none = none.0.known
known_before (exception.LabelUnknown q) targets behind none = absurd (omega (arith, behind))
known_before exception.Memory targets behind none = absurd (omega (arith, behind))

unsplit_before : (later : ExceptRefusal) (targets : List (List Group)) → 3 ≤ kind_place later
    → HasNoEarlier later targets → split_labels targets ≡ []
unsplit_before (exception.ExceptionAmbiguous q) targets behind none = none.1
unsplit_before (exception.ExceptionCycle q) targets behind none = none.unsplit
unsplit_before (exception.TooMany q) targets behind none = none.0.unsplit
unsplit_before (exception.LabelSplit q) targets behind none = absurd (omega (arith, behind))
unsplit_before (exception.LabelUnknown q) targets behind none = absurd (omega (arith, behind))
unsplit_before exception.Memory targets behind none = absurd (omega (arith, behind))

resolved_before : (later : ExceptRefusal) (targets : List (List Group)) → 4 ≤ kind_place later
    → HasNoEarlier later targets → AreResolved targets
resolved_before (exception.ExceptionCycle q) targets behind none = none
resolved_before (exception.TooMany q) targets behind none = none.0
resolved_before (exception.ExceptionAmbiguous q) targets behind none = absurd (omega (arith, behind))
resolved_before (exception.LabelSplit q) targets behind none = absurd (omega (arith, behind))
resolved_before (exception.LabelUnknown q) targets behind none = absurd (omega (arith, behind))
resolved_before exception.Memory targets behind none = absurd (omega (arith, behind))

acyclic_before : (later : ExceptRefusal) (targets : List (List Group)) → 5 ≤ kind_place later
    → HasNoEarlier later targets → HaveNoCycle targets
acyclic_before (exception.TooMany q) targets behind none = none.1
acyclic_before (exception.ExceptionCycle q) targets behind none = absurd (omega (arith, behind))
acyclic_before (exception.ExceptionAmbiguous q) targets behind none = absurd (omega (arith, behind))
acyclic_before (exception.LabelSplit q) targets behind none = absurd (omega (arith, behind))
acyclic_before (exception.LabelUnknown q) targets behind none = absurd (omega (arith, behind))
acyclic_before exception.Memory targets behind none = absurd (omega (arith, behind))

none_before : (refusal later : ExceptRefusal) (targets : List (List Group)) → kind_place refusal ≤ kind_place later
    → HasNoEarlier later targets → HasNoEarlier refusal targets
none_before (exception.LabelUnknown p) later targets behind none = tt
none_before (exception.LabelSplit p) later targets behind none = known_before later targets behind none
none_before (exception.ExceptionAmbiguous p) later targets behind none =
    (known_before later targets (omega (arith, behind)) none, unsplit_before later targets behind none)
none_before (exception.ExceptionCycle p) later targets behind none = resolved_before later targets behind none
none_before (exception.TooMany p) later targets behind none =
    (resolved_before later targets (omega (arith, behind)) none, acyclic_before later targets behind none)
none_before exception.Memory later targets behind none = tt

-- ---- the refusal that is named first

less : (a b : ℕ) → nat_lt a b ≡ true → a ≤ b
less a b is = grind (arith, nat_tests)

no_less : (a b : ℕ) → nat_lt a b ≡ false → b ≤ a
no_less a b is = grind (arith, nat_tests)

-- the first scope that is refused
pub stands_here : (bound : ℕ) (program : Program) (refusal : ExceptRefusal) → MakeForestsTo bound program
    → exceptions.HasCause (groups_in program bound) refusal → StandsFirst (bound + 1) program refusal
stands_here bound program refusal make cause = record {
  scope = bound;
  within = omega arith;
  refused = cause;
  first = one_scope_more (λ other. HasNoEarlier refusal (groups_in program other)) bound
      (λ other within. none_earlier refusal (groups_in program other) (make other within))
      (earlier_of refusal (groups_in program bound) cause);
}

-- a scope behind it that isn't refused
pub stands_still : (bound : ℕ) (program : Program) (refusal : ExceptRefusal) → StandsFirst bound program refusal
    → MakeForest (groups_in program bound) → StandsFirst (bound + 1) program refusal
stands_still bound program refusal stands make = record {
  scope = stands.scope;
  within = omega (arith, stands.within);
  refused = stands.refused;
  first = one_scope_more (λ other. HasNoEarlier refusal (groups_in program other)) bound stands.first
      (none_earlier refusal (groups_in program bound) make);
}

-- a scope behind it that is
pub stands_then : (bound : ℕ) (program : Program) (one other : ExceptRefusal) → StandsFirst bound program one
    → exceptions.HasCause (groups_in program bound) other → StandsFirst (bound + 1) program (first_named one other)
stands_then bound program one other stands cause = by (nat_lt (kind_place other) (kind_place one)) refl
  where
    by : (test : Bool) → nat_lt (kind_place other) (kind_place one) ≡ test
        → StandsFirst (bound + 1) program (if test then other else one)
    by true is = record {
      scope = bound;
      within = omega arith;
      refused = cause;
      first = one_scope_more (λ n. HasNoEarlier other (groups_in program n)) bound
          (λ n within. none_before other one (groups_in program n) (less (kind_place other) (kind_place one) is)
          (stands.first n within))
          (earlier_of other (groups_in program bound) cause);
    }
    by false is = record {
      scope = stands.scope;
      within = omega (arith, stands.within);
      refused = stands.refused;
      first = one_scope_more (λ n. HasNoEarlier one (groups_in program n)) bound stands.first
          (none_before one other (groups_in program bound) (no_less (kind_place other) (kind_place one) is)
          (earlier_of other (groups_in program bound) cause));
    }

-- ---- a program whose exceptions make no forests

forest_refused : (pieces : List Piece) (program : Program) (refusal : ExceptRefusal) → IsProgramIn pieces program
    → StandsFirst (length program.bodies) program refusal → IsRefusedForest pieces refusal
forest_refused pieces program refusal is stands = record {
  program = program;
  scope = stands.scope;
  program_is = is;
  within = stands.within;
  refused = stands.refused;
  first = stands.first;
}

pub forest_cause : (pieces : List Piece) (program : Program) (refusal : ExceptRefusal) → IsProgramIn pieces program
    → StandsFirst (length program.bodies) program refusal → HasCause pieces (exception_refusal refusal)
forest_cause pieces program (exception.LabelUnknown p) is stands =
    forest_refused pieces program (exception.LabelUnknown p) is stands
forest_cause pieces program (exception.LabelSplit p) is stands =
    forest_refused pieces program (exception.LabelSplit p) is stands
forest_cause pieces program (exception.ExceptionAmbiguous p) is stands =
    forest_refused pieces program (exception.ExceptionAmbiguous p) is stands
forest_cause pieces program (exception.ExceptionCycle p) is stands =
    forest_refused pieces program (exception.ExceptionCycle p) is stands
forest_cause pieces program (exception.TooMany p) is stands =
    inr (forest_refused pieces program (exception.TooMany p) is stands)
forest_cause pieces program exception.Memory is stands = tt

pub ruleset steps = (few_bodies)
