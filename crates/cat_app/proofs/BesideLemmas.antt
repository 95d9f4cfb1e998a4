-- Definitions beside those positions of theirs that pass a test.
use Rattle.std.proofs.Common.{◌≡◌, ◌∙◌, ℕ, nat_eq, Bool, true, false, ◌&&◌, ◌||◌, List, [], ◌∷◌, ◌++◌, map, refl, sym}
use Rattle.std.proofs.Common.{ap, arith, true≢false}
use Rattle.std.specs.Prelude.{filter, if◌then◌else◌}
use Rattle.std.specs.List.{list_any}
use Rattle.std.proofs.lemmas.Bool.Decides.{nat_tests}
use Rattle.cat_pos.specs.declared.pos.Pos.{Pos}
use Rattle.cat_scope.specs.Names.{AllHave}
use Rattle.cat_guard.specs.declared.guard.GuardDef.{GuardDef}
use Rattle.cat_guard.specs.declared.table.TableTarget.{TableTarget}
use Rattle.cat_guard.proofs.Exported.{both_true, nat_self}
use Rattle.cat_dead.specs.Winners.{definitions_of, is_same}
use Rattle.cat_app.specs.DeadChecks.{lines_at, never_line, never_lines, those_at}
use Rattle.cat_app.specs.inside.Beside.{left_beside, lines_beside, target_beside}

-- ---- positions that are one

nat_is : (a b : ℕ) → nat_eq a b ≡ true → a ≡ b
nat_is a b h = grind (arith, nat_tests, h)

abbrev position : ℕ → ℕ → Pos
position line place = record { line = line; place = place }

same_is : (p q : Pos) → is_same p q ≡ true → p ≡ q
same_is p q h =
    let two = both_true (nat_eq p.line q.line) (nat_eq p.place q.place) h in
    ap (λ (n : ℕ). position n p.place) (nat_is p.line q.line two.0)
    ∙ ap (position q.line) (nat_is p.place q.place two.1)

same_self : (p : Pos) → is_same p p ≡ true
same_self p = ap (λ b. b && nat_eq p.place p.place) (nat_self p.line) ∙ nat_self p.place

-- definitions stand at some positions, each at one
abbrev StandAt : List Pos → List GuardDef → Type 0
StandAt all ds = AllHave (λ d. list_any (is_same d.pos) all ≡ true) ds

module _ (test : Pos → Bool) where
  -- what passes stands elsewhere than what doesn't
  other : (p q : Pos) → test p ≡ false → test q ≡ true → is_same p q ≡ false
  other p q out passes = by (is_same p q) refl
    where
      by : (b : Bool) → is_same p q ≡ b → b ≡ false
      by true is = absurd (true≢false (sym passes ∙ (ap test (sym (same_is p q is)) ∙ out)))
      by false is = refl

  -- ---- one behind the other

  abbrev Pass : List Pos → Type 0
  Pass ps = AllHave (λ p. test p ≡ true) ps

  passing : (ps : List Pos) → Pass (filter test ps)
  passing [] = tt
  passing (p ∷ ps) = by (test p) refl (passing ps)
    where
      by : (b : Bool) → test p ≡ b → Pass (filter test ps)
          → Pass (if b then p ∷ filter test ps else filter test ps)
      by true is rest = (is, rest)
      by false is rest = rest

  nothing_left : (ds : List GuardDef) → left_beside ds [] ≡ []
  nothing_left [] = refl
  nothing_left (d ∷ ds) = refl

  nothing_beside : (files : List (List ℕ)) (name : List ℕ) (ds : List GuardDef) → target_beside files name ds [] ≡ []
  nothing_beside files name [] = refl
  nothing_beside files name (d ∷ ds) = refl

  -- a definition that doesn't pass is passed over
  left_over : (d : GuardDef) (ds : List GuardDef) (ps : List Pos) → test d.pos ≡ false → Pass ps
      → left_beside (d ∷ ds) ps ≡ left_beside ds ps
  left_over d ds [] out pass = sym (nothing_left ds)
  left_over d ds (p ∷ ps) out pass =
      ap (λ b. if b then left_beside ds ps else left_beside ds (p ∷ ps)) (other d.pos p out pass.0)

  beside_over : (files : List (List ℕ)) (name : List ℕ) (d : GuardDef) (ds : List GuardDef) (ps : List Pos)
      → test d.pos ≡ false → Pass ps → target_beside files name (d ∷ ds) ps ≡ target_beside files name ds ps
  beside_over files name d ds [] out pass = sym (nothing_beside files name ds)
  beside_over files name d ds (p ∷ ps) out pass =
      ap (λ b. if b then never_line files name d.pos ++ target_beside files name ds ps
      else target_beside files name ds (p ∷ ps)) (other d.pos p out pass.0)

  -- where definitions stand, and more positions, as far as they pass
  abbrev passed : List GuardDef → List Pos → List Pos
  passed ds more = filter test (map (λ d. d.pos) ds ++ more)

  left_is : (ds : List GuardDef) (more : List Pos) → left_beside ds (passed ds more) ≡ filter test more
  left_is [] more = refl
  left_is (d ∷ ds) more = by (test d.pos) refl (left_is ds more)
    where
      by : (b : Bool) → test d.pos ≡ b → left_beside ds (passed ds more) ≡ filter test more
          → left_beside (d ∷ ds) (if b then d.pos ∷ passed ds more else passed ds more) ≡ filter test more
      by true is rest =
          ap (λ b. if b then left_beside ds (passed ds more) else left_beside ds (d.pos ∷ passed ds more))
          (same_self d.pos) ∙ rest
      by false is rest = left_over d ds (passed ds more) is (passing (map (λ e. e.pos) ds ++ more)) ∙ rest

  beside_is : (files : List (List ℕ)) (name : List ℕ) (ds : List GuardDef) (more : List Pos)
      → target_beside files name ds (passed ds more) ≡ never_lines files name (filter (λ d. test d.pos) ds)
  beside_is files name [] more = refl
  beside_is files name (d ∷ ds) more = by (test d.pos) refl (beside_is files name ds more)
    where
      by : (b : Bool) → test d.pos ≡ b
          → target_beside files name ds (passed ds more) ≡ never_lines files name (filter (λ e. test e.pos) ds)
          → target_beside files name (d ∷ ds) (if b then d.pos ∷ passed ds more else passed ds more)
          ≡ never_lines files name (if b then d ∷ filter (λ e. test e.pos) ds else filter (λ e. test e.pos) ds)
      by true is rest =
          ap (λ b. if b then never_line files name d.pos ++ target_beside files name ds (passed ds more)
          else target_beside files name ds (d.pos ∷ passed ds more)) (same_self d.pos)
          ∙ ap (λ (text : List ℕ). never_line files name d.pos ++ text) rest
      by false is rest =
          beside_over files name d ds (passed ds more) is (passing (map (λ e. e.pos) ds ++ more)) ∙ rest

  -- ---- those that stand at the positions that pass

  -- where something doesn't pass, it stands at none of those that do
  none_there : (p : Pos) (qs : List Pos) → test p ≡ false → list_any (is_same p) (filter test qs) ≡ false
  none_there p [] out = refl
  none_there p (q ∷ qs) out = by (test q) refl (none_there p qs out)
    where
      by : (b : Bool) → test q ≡ b → list_any (is_same p) (filter test qs) ≡ false
          → list_any (is_same p) (if b then q ∷ filter test qs else filter test qs) ≡ false
      by true is rest = ap (λ b. b || list_any (is_same p) (filter test qs)) (other p q out is) ∙ rest
      by false is rest = rest

  -- of positions that something is among, those that pass have it where it passes
  among : (all : List Pos) (p : Pos) → list_any (is_same p) all ≡ true
      → list_any (is_same p) (filter test all) ≡ test p
  among [] p there = absurd (true≢false (sym there))
  among (q ∷ all) p there = by (is_same p q) (test q) refl refl there (among all p)
    where
      by : (same passes : Bool) → is_same p q ≡ same → test q ≡ passes → (same || list_any (is_same p) all) ≡ true
          → (list_any (is_same p) all ≡ true → list_any (is_same p) (filter test all) ≡ test p)
          → list_any (is_same p) (if passes then q ∷ filter test all else filter test all) ≡ test p
      by true true same passes there rest =
          ap (λ b. b || list_any (is_same p) (filter test all)) same
          ∙ sym (ap test (same_is p q same) ∙ passes)
      by true false same passes there rest =
          let out : test p ≡ false = ap test (same_is p q same) ∙ passes in none_there p all out ∙ sym out
      by false true same passes there rest =
          ap (λ b. b || list_any (is_same p) (filter test all)) same ∙ rest there
      by false false same passes there rest = rest there

  those : (all : List Pos) (ds : List GuardDef) → StandAt all ds
      → filter (λ d. test d.pos) ds ≡ those_at (filter test all) ds
  those all [] there = refl
  those all (d ∷ ds) there =
      ap (λ b. if b then d ∷ filter (λ e. test e.pos) ds else filter (λ e. test e.pos) ds)
      (sym (among all d.pos there.0))
      ∙ ap (λ (rest : List GuardDef). if list_any (is_same d.pos) (filter test all) then d ∷ rest else rest)
      (those all ds there.1)

  all_lines : (files : List (List ℕ)) (all : List Pos) (ts : List TableTarget)
      → AllHave (λ t. StandAt all t.defs) ts
      → lines_beside files ts (filter test (definitions_of ts)) ≡ lines_at files (filter test all) ts
  all_lines files all [] there = refl
  all_lines files all (t ∷ ts) there =
      ap (λ (text : List ℕ). text
      ++ lines_beside files ts (left_beside t.defs (passed t.defs (definitions_of ts))))
      (beside_is files t.name t.defs (definitions_of ts)
      ∙ ap (never_lines files t.name) (those all t.defs there.0))
      ∙ ap (λ (text : List ℕ). never_lines files t.name (those_at (filter test all) t.defs) ++ text)
      (ap (lines_beside files ts) (left_is t.defs (definitions_of ts)) ∙ all_lines files all ts there.1)

-- ---- each definition of some targets stands at one of all their places

any_behind : (p : Pos) (ps qs : List Pos) → list_any (is_same p) qs ≡ true → list_any (is_same p) (ps ++ qs) ≡ true
any_behind p [] qs there = there
any_behind p (q ∷ ps) qs there = by (is_same p q) (any_behind p ps qs there)
  where
    by : (b : Bool) → list_any (is_same p) (ps ++ qs) ≡ true → (b || list_any (is_same p) (ps ++ qs)) ≡ true
    by true rest = refl
    by false rest = rest

any_in_front : (p : Pos) (ps qs : List Pos) → list_any (is_same p) ps ≡ true
    → list_any (is_same p) (ps ++ qs) ≡ true
any_in_front p [] qs there = absurd (true≢false (sym there))
any_in_front p (q ∷ ps) qs there = by (is_same p q) there (any_in_front p ps qs)
  where
    by : (b : Bool) → (b || list_any (is_same p) ps) ≡ true
        → (list_any (is_same p) ps ≡ true → list_any (is_same p) (ps ++ qs) ≡ true)
        → (b || list_any (is_same p) (ps ++ qs)) ≡ true
    by true there rest = refl
    by false there rest = rest there

more_have : {A : Type 0} (P Q : A → Type 0) (xs : List A) → ((x : A) → P x → Q x) → AllHave P xs → AllHave Q xs
more_have P Q [] step all = tt
more_have P Q (x ∷ xs) step all = (step x all.0, more_have P Q xs step all.1)

own_places : (ds : List GuardDef) → StandAt (map (λ d. d.pos) ds) ds
own_places [] = tt
own_places (d ∷ ds) = (
  ap (λ b. b || list_any (is_same d.pos) (map (λ e. e.pos) ds)) (same_self d.pos),
  more_have (λ e. list_any (is_same e.pos) (map (λ f. f.pos) ds) ≡ true)
      (λ e. list_any (is_same e.pos) (d.pos ∷ map (λ f. f.pos) ds) ≡ true) ds
      (λ e there. any_behind e.pos (d.pos ∷ []) (map (λ f. f.pos) ds) there) (own_places ds),
)

all_places : (ts : List TableTarget) → AllHave (λ t. StandAt (definitions_of ts) t.defs) ts
all_places [] = tt
all_places (t ∷ ts) = (
  more_have (λ d. list_any (is_same d.pos) (map (λ e. e.pos) t.defs) ≡ true)
      (λ d. list_any (is_same d.pos) (map (λ e. e.pos) t.defs ++ definitions_of ts) ≡ true) t.defs
      (λ d there. any_in_front d.pos (map (λ e. e.pos) t.defs) (definitions_of ts) there) (own_places t.defs),
  more_have (λ u. StandAt (definitions_of ts) u.defs)
      (λ u. StandAt (map (λ e. e.pos) t.defs ++ definitions_of ts) u.defs) ts
      (λ u all. more_have (λ d. list_any (is_same d.pos) (definitions_of ts) ≡ true)
      (λ d. list_any (is_same d.pos) (map (λ e. e.pos) t.defs ++ definitions_of ts) ≡ true) u.defs
      (λ d there. any_behind d.pos (map (λ e. e.pos) t.defs) (definitions_of ts) there) all) (all_places ts),
)

-- beside those of their positions that pass a test, targets have the lines of what stands there
pub lines_are : (test : Pos → Bool) (files : List (List ℕ)) (ts : List TableTarget)
    → lines_beside files ts (filter test (definitions_of ts)) ≡ lines_at files (filter test (definitions_of ts)) ts
lines_are test files ts = all_lines test files (definitions_of ts) ts (all_places ts)
