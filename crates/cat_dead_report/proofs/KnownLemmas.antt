-- What is known of places while the inputs of leaves are tried.
use Rattle.std.proofs.Common.{◌≡◌, ◌⊎◌, inl, inr, ℕ, zero, suc, ◌+◌, ◌<◌, ◌≤◌, nat_lt, Bool, true, false, ◌||◌}
use Rattle.std.proofs.Common.{List}
use Rattle.std.proofs.Common.{[], ◌∷◌, ◌++◌, length, set, Option, Some, None, slice_get, refl, sym, ap, ◌∙◌}
use Rattle.std.proofs.Common.{subst, arith, true≢false, if◌then◌else◌}
use Rattle.std.specs.Prelude.{OnOk, Result, Ok, Err}
use Rattle.std.proofs.lemmas.Bool.Decides.{nat_tests}
use Rattle.cat_pos.specs.declared.pos.Pos.{Pos}
use Rattle.cat_value.specs.declared.value.Value.{Value}
use Rattle.cat_value.specs.declared.outcome.Outcome.{Outcome}
use Rattle.cat_region.specs.Regions.{Constraints}
use Rattle.cat_scope.specs.declared.programs.Program.{Program}
use Rattle.cat_scope.specs.Names.{AllHave}
use Rattle.cat_scope.specs.Outcomes.{scope_outcome}
use Rattle.cat_scope.proofs.Exported.{all_append}
use Rattle.cat_guard.specs.declared.table.Table.{Table}
use Rattle.cat_guard.specs.declared.table.TableTarget.{TableTarget}
use Rattle.cat_guard.specs.declared.tree.TreeNode.{TreeNode}
use Rattle.cat_guard.proofs.Exported.{all_more}
use Rattle.cat_audit.specs.Findings.{undecided_at, shown_input}
use Rattle.cat_dead_report.specs.declared.found.Known.{Known}
use Rattle.cat_dead_report.specs.declared.found.Won.{Won}
use Rattle.cat_dead.specs.declared.judged.JudgedLeaf.{JudgedLeaf}
use Rattle.cat_dead_report.specs.declared.line.DeadLine.{DeadLine}
use Rattle.cat_dead_report.specs.declared.line.DeadLine.TheVariants as line
use Rattle.cat_dead_report.specs.RunLines.{line_by, line_from, decides_in, line_in, weight, weight_of}
use Rattle.cat_dead_report.specs.inside.Hanging.{hang_somewhere}
use Rattle.cat_dead_report.specs.inside.Knowing.{known_weight}
use Rattle.cat_dead_report.specs.inside.Knowing.{counts_more, kept, nothing_known}
use Rattle.cat_dead_report.specs.inside.Knowing.{IsKnownOf}
use Rattle.cat_dead_report.specs.inside.Knowing.{AreKnownOf, AreKnown, default_weight, Grow}
use Rattle.cat_dead_report.specs.inside.WonLeaves.{way_of, IsTold}
use Rattle.cat_dead_report.specs.inside.WonLeaves.{IsToldIf}
use Rattle.cat_dead_report.specs.inside.Places.{HaveNumbers}
use Rattle.cat_dead_report.specs.inside.Tries.{HasTried, HasTriedAt}
use Rattle.cat_dead.proofs.Exported.{some_same}

-- ---- one place

pub most_weight : (o : Option DeadLine) → weight_of o ≤ 3
most_weight None = let fine : 0 ≤ 3 = omega arith in fine
most_weight (Some (line.Decides input)) = let fine : 3 ≤ 3 = omega arith in fine
most_weight (Some (line.Masked input o)) = let fine : 2 ≤ 3 = omega arith in fine
most_weight (Some (line.Derived at input o)) = let fine : 1 ≤ 3 = omega arith in fine
most_weight (Some line.Budget) = let fine : 0 ≤ 3 = omega arith in fine
most_weight (Some line.Never) = let fine : 0 ≤ 3 = omega arith in fine

-- a line that a run gives says something
by_weight : (b : Bool) (at : Option Pos) (input : List (Option Value)) (o : Outcome) → 1 ≤ weight (line_by b at input o)
by_weight true at input o = let fine : 1 ≤ 3 = omega arith in fine
by_weight false None input o = let fine : 1 ≤ 2 = omega arith in fine
by_weight false (Some at) input o = let fine : 1 ≤ 1 = omega arith in fine

pub from_weight : (b : Bool) (at : Option Pos) (input : List (Option Value)) (o : Option Outcome) (l : DeadLine)
    → line_from b at input o ≡ Some l → 1 ≤ weight l
from_weight b at input None l is = absurd (cc)
from_weight b at input (Some o) l is =
    subst (λ (m : DeadLine). 1 ≤ weight m) (some_same (line_by b at input o) l is) (by_weight b at input o)

-- of two lines the one is kept that says more
kept_weight : (best : Option DeadLine) (next : DeadLine)
    → (weight_of best ≤ weight_of (kept best next)) × (weight next ≤ weight_of (kept best next))
kept_weight None next =
    let first : 0 ≤ weight next = omega arith in
    let other : weight next ≤ weight next = omega arith in
    (first, other)
kept_weight (Some l) next = by (nat_lt (weight l) (weight next)) refl
  where
    by : (b : Bool) → nat_lt (weight l) (weight next) ≡ b
        → (weight l ≤ weight_of (if b then Some next else Some l))
        × (weight next ≤ weight_of (if b then Some next else Some l))
    by true e =
        let less : weight l < weight next = grind (arith, nat_tests, e) in
        let first : weight l ≤ weight next = omega (arith, less) in
        let other : weight next ≤ weight next = omega arith in
        (first, other)
    by false e =
        let least : weight next ≤ weight l = grind (arith, nat_tests, e) in
        let first : weight l ≤ weight l = omega arith in
        (first, least)

kept_one : (best : Option DeadLine) (next : DeadLine) → (kept best next ≡ best) ⊎ (kept best next ≡ Some next)
kept_one None next = inr refl
kept_one (Some l) next = by (counts_more (Some l) next)
  where
    by : (b : Bool) → ((if b then Some next else Some l) ≡ Some l) ⊎ ((if b then Some next else Some l) ≡ Some next)
    by true = inr refl
    by false = inl refl

-- what a run says is kept, or not
pub tried_kept : (program : Program) (table : Table) (t : TableTarget) (p : Pos) (region : Constraints)
    (old new : Known) (next : DeadLine) → line_in program table t p region ≡ Some next → new.line ≡ kept old.line next
    → (new.on_default ≡ true → old.on_default ≡ false → default_weight program table t p ≤ weight next)
    → (old.on_default ≡ true → default_weight program table t p ≤ weight_of old.line)
    → HasTried program table t p region old new
tried_kept program table t p region old new next says is now before =
    let two = kept_weight old.line next in
    let same : weight_of new.line ≡ weight_of (kept old.line next) = ap weight_of is in
    let whole : weight_of (line_in program table t p region) ≡ weight next = ap weight_of says in
    let some = from_weight (decides_in program table t p region) (undecided_at table.terms t region)
    (shown_input program table region) (scope_outcome program table.scope (shown_input program table region)) next
    says in
    let first = two.0 in
    let other = two.1 in
    record {
      line = by (kept_one old.line next);
      some = omega (arith, same, some, other);
      grown = omega (arith, same, first);
      covers = omega (arith, same, whole, other);
      default = λ on. on_default old.on_default refl on same first other;
    }
  where
    by : (kept old.line next ≡ old.line) ⊎ (kept old.line next ≡ Some next)
        → (new.line ≡ old.line) ⊎ (new.line ≡ line_in program table t p region)
    by (inl same) = inl (is ∙ same)
    by (inr one) = inr (is ∙ one ∙ sym says)

    on_default : (b : Bool) → old.on_default ≡ b → new.on_default ≡ true
        → weight_of new.line ≡ weight_of (kept old.line next) → weight_of old.line ≤ weight_of (kept old.line next)
        → weight next ≤ weight_of (kept old.line next) → default_weight program table t p ≤ weight_of new.line
    on_default true e on same first other = let least = before e in omega (arith, least, same, first)
    on_default false e on same first other = let least = now on e in omega (arith, least, same, other)

-- nothing is tried where the default input was, and the region has that
pub tried_not : (program : Program) (table : Table) (t : TableTarget) (p : Pos) (region : Constraints) (old new : Known)
    → new ≡ old → default_weight program table t p ≤ weight_of old.line → 1 ≤ default_weight program table t p
    → weight_of (line_in program table t p region) ≤ default_weight program table t p
    → HasTried program table t p region old new
tried_not program table t p region old new same default some within =
    let one : weight_of new.line ≡ weight_of old.line = ap (λ (k : Known). weight_of k.line) same in
    record {
      line = inl (ap (λ (k : Known). k.line) same);
      some = omega (arith, one, default, some);
      grown = omega (arith, one);
      covers = omega (arith, one, default, within);
      default = λ on. omega (arith, one, default);
    }

-- ---- places by their numbers

module _ (program : Program) (table : Table) (t : TableTarget) (nodes : List TreeNode) where
  abbrev Of : Pos → Known → Type 0
  Of p k = IsKnownOf program table t nodes p k

  abbrev Each : List Pos → List Known → Type 0
  Each ps ks = AreKnownOf program table t nodes ps ks

  pub record IsKnownAt (known : List Known) (n : ℕ) (p : Pos) : Type 0 where
    pub there : Known
    pub is : slice_get known n ≡ Some there
    pub known_of : IsKnownOf program table t nodes p there

  pub known_at : (ps : List Pos) (ks : List Known) → Each ps ks → (n : ℕ) (p : Pos) → slice_get ps n ≡ Some p
      → IsKnownAt ks n p
  known_at [] [] each n p at = absurd (cc)
  known_at [] (k ∷ ks) each n p at = absurd (each)
  known_at (q ∷ ps) [] each n p at = absurd (each)
  known_at (q ∷ ps) (k ∷ ks) each zero p at =
      record { there = k; is = refl; known_of = subst (λ (r : Pos). Of r k) (some_same q p at) each.0 }
  known_at (q ∷ ps) (k ∷ ks) each (suc n) p at =
      let rest = known_at ps ks each.1 n p at in
      record { there = rest.there; is = rest.is; known_of = rest.known_of }

  pub known_set : (ps : List Pos) (ks : List Known) → Each ps ks → (n : ℕ) (p : Pos) (k : Known)
      → slice_get ps n ≡ Some p → Of p k → Each ps (set ks n k)
  known_set [] [] each n p k at is = absurd (cc)
  known_set [] (j ∷ ks) each n p k at is = absurd (each)
  known_set (q ∷ ps) [] each n p k at is = absurd (each)
  known_set (q ∷ ps) (j ∷ ks) each zero p k at is =
      (subst (λ (r : Pos). Of r k) (sym (some_same q p at)) is, each.1)
  known_set (q ∷ ps) (j ∷ ks) each (suc n) p k at is = (each.0, known_set ps ks each.1 n p k at is)

  -- nothing is known of places
  nothing_yet : (ps : List Pos) → Each ps (nothing_known (length ps))
  nothing_yet [] = tt
  nothing_yet (p ∷ ps) = (record { line = tt; default = λ on. absurd (true≢false (sym on)) }, nothing_yet ps)

  pub begins : (numbers : List ℕ) (count : ℕ) → HaveNumbers t.defs numbers count
      → AreKnown program table t nodes numbers (nothing_known count)
  begins numbers count are = record {
    positions = are.positions;
    numbered = are.numbered;
    each = subst (λ (n : ℕ). Each are.positions (nothing_known n)) are.count_is (nothing_yet are.positions);
  }

-- ---- what grows

pub grow_set : (ks : List Known) (n : ℕ) (old new : Known) → slice_get ks n ≡ Some old
    → weight_of old.line ≤ weight_of new.line → Grow ks (set ks n new)
grow_set [] n old new at grown i = absurd (cc)
grow_set (k ∷ ks) zero old new at grown zero =
    let same : weight_of k.line ≡ weight_of old.line = ap (λ (x : Known). weight_of x.line) (some_same k old at) in
    let more : weight_of k.line ≤ weight_of new.line = omega (arith, same, grown) in
    more
grow_set (k ∷ ks) zero old new at grown (suc i) =
    let same : known_weight (slice_get ks i) ≤ known_weight (slice_get ks i) = omega arith in same
grow_set (k ∷ ks) (suc n) old new at grown zero =
    let same : weight_of k.line ≤ weight_of k.line = omega arith in same
grow_set (k ∷ ks) (suc n) old new at grown (suc i) = grow_set ks n old new at grown i

pub there_set : (ks : List Known) (n : ℕ) (old new : Known) → slice_get ks n ≡ Some old
    → slice_get (set ks n new) n ≡ Some new
there_set [] n old new at = absurd (cc)
there_set (k ∷ ks) zero old new at = refl
there_set (k ∷ ks) (suc n) old new at = there_set ks n old new at

pub grow_again : (first next last : List Known) → Grow first next → Grow next last → Grow first last
grow_again first next last one other n = let a = one n in let b = other n in omega (arith, a, b)

module _ (program : Program) (table : Table) (t : TableTarget) (nodes : List TreeNode) (numbers : List ℕ) where
  abbrev Told : List Known → JudgedLeaf → Type 0
  Told known l = IsTold program table t nodes numbers known l

  told_still : (old new : List Known) → Grow old new → (l : JudgedLeaf) → Told old l → Told new l
  told_still old new grow l told w won =
      let before = told w won in
      let more = grow w.place in
      let some = before.some in
      record {
        some = omega (arith, some, more);
        most = λ plain. let most = before.most plain in omega (arith, most, more);
      }

  module _ (derived : Bool) where
    abbrev ToldIf : List Known → JudgedLeaf → Type 0
    ToldIf known l = IsToldIf program table t nodes derived numbers known l

    -- those that were passed, and one more
    pub told_more : (old new : List Known) → Grow old new → (ls : List JudgedLeaf) (l : JudgedLeaf)
        → AllHave (ToldIf old) ls → ToldIf new l → AllHave (ToldIf new) (ls ++ l ∷ [])
    told_more old new grow ls l all one =
        all_append (ToldIf new) ls (l ∷ [])
        (all_more (ToldIf old) (ToldIf new) ls all
        (λ m told hangs. told_still old new grow m (told hangs))) (one, tt)

  -- both passes together
  pub told_both : (first last : List Known) → Grow first last → (ls : List JudgedLeaf)
      → AllHave (IsToldIf program table t nodes false numbers first) ls
      → AllHave (IsToldIf program table t nodes true numbers last) ls → AllHave (Told last) ls
  told_both first last grow [] one other = tt
  told_both first last grow (l ∷ ls) one other =
      (by (hang_somewhere table (way_of nodes l)) refl, told_both first last grow ls one.1 other.1)
    where
      by : (b : Bool) → hang_somewhere table (way_of nodes l) ≡ b → Told last l
      by true e = other.0 e
      by false e = told_still first last grow l (one.0 e)

-- the second of two flags, where the first is off and one of them is on
pub or_second : (a b c : Bool) → c ≡ (a || b) → c ≡ true → a ≡ false → b ≡ true
or_second a b c is on off = sym (is ∙ ap (λ x. x || b) off) ∙ on

-- a place that was tried
pub placed_tried : {E : Type 0} (program : Program) (table : Table) (t : TableTarget) (w : Won) (region : Constraints)
    (olds news : List Known) (old new : Known) → slice_get olds w.place ≡ Some old → news ≡ set olds w.place new
    → (r : Result (Unit {0}) E) → OnOk r (HasTried program table t w.pos region old new)
    → OnOk r (HasTriedAt program table t w region olds news)
placed_tried program table t w region olds news old new old_is news_are (Ok u) tried =
    record { old = old; old_is = old_is; new = new; tried = tried; news_are = news_are }
placed_tried program table t w region olds news old new old_is news_are (Err e) tried = tt
