-- The definition that wins at a leaf, and what is known of it once the input of that is tried.
use Rattle.std.proofs.Common.{◌≡◌, ◌⊎◌, inl, inr, ℕ, ◌≤◌, Bool, true, false, ◌||◌}
use Rattle.std.proofs.Common.{List}
use Rattle.std.proofs.Common.{[], ◌∷◌, Option, Some, None, slice_get, refl, sym, ap, ◌∙◌}
use Rattle.std.proofs.Common.{subst, arith, true≢false, if◌then◌else◌}
use Rattle.std.specs.Prelude.{reverse}
use Rattle.std.specs.List.{list_any}
use Rattle.std.proofs.Math.Bool.{beq}
use Rattle.std.proofs.lemmas.List.{reverse-append}
use Rattle.std.proofs.lemmas.List.Folds.{list_any-append}
use Rattle.cat_pos.specs.declared.pos.Pos.{Pos}
use Rattle.cat_region.specs.Decided.{admits_none}
use Rattle.cat_scope.specs.declared.programs.Program.{Program}
use Rattle.cat_scope.specs.Outcomes.{scope_outcome}
use Rattle.cat_guard.specs.declared.guard.GuardDef.{GuardDef}
use Rattle.cat_guard.specs.declared.table.Table.{Table}
use Rattle.cat_guard.specs.declared.table.TableTarget.{TableTarget}
use Rattle.cat_guard.specs.declared.tree.TreeNode.{TreeNode}
use Rattle.cat_guard.specs.Judged.{judged_in}
use Rattle.cat_guard.specs.Verdicts.{Verdict, Holds, Empty, Conflict, Open}
use Rattle.cat_search.specs.declared.way.Answer.{Answer}
use Rattle.cat_audit.specs.Findings.{undecided_at, shown_input}
use Rattle.cat_dead_report.specs.declared.found.Known.{Known}
use Rattle.cat_dead_report.specs.declared.found.Won.{Won}
use Rattle.cat_dead.specs.declared.judged.JudgedLeaf.{JudgedLeaf}
use Rattle.cat_dead.specs.declared.judged.LeafJudgement.{LeafJudgement}
use Rattle.cat_dead.specs.declared.judged.LeafJudgement.TheVariants as leaf
use Rattle.cat_dead_report.specs.declared.line.DeadLine.{DeadLine}
use Rattle.cat_dead_report.specs.declared.line.DeadLine.TheVariants as line
use Rattle.cat_dead.specs.Winners.{place_of, holder_of}
use Rattle.cat_dead_report.specs.RunLines.{decides_in, line_in, weight_of}
use Rattle.cat_dead_report.specs.inside.Knowing.{is_final, is_final_at, IsLineIf}
use Rattle.cat_dead_report.specs.inside.Knowing.{IsKnownOf}
use Rattle.cat_dead_report.specs.inside.Knowing.{AreKnownOf, AreKnown, known_weight, Grow}
use Rattle.cat_dead_report.specs.inside.WonLeaves.{won_of, won_by, way_of, led, IsJudgedLeaf, AreJudgedLeaves, Covers}
use Rattle.cat_dead.specs.Leaves.{judgement_of}
use Rattle.cat_dead_report.specs.inside.Places.{AreNumbered}
use Rattle.cat_dead_report.specs.inside.Said.{IsWon, IsWonIn}
use Rattle.cat_dead_report.specs.inside.Tries.{HasTriedAt}
use Rattle.cat_dead.proofs.Exported.{some_same}
use Rattle.cat_dead_report.proofs.KnownLemmas.{from_weight, grow_set, IsKnownAt, known_at, known_set, most_weight}
use Rattle.cat_dead_report.proofs.KnownLemmas.{there_set}
use Rattle.cat_dead_report.proofs.PlaceLemmas.{numbered_at}

-- ---- the definition that wins at a leaf

-- its number, with what it has by it
pub record IsWinner (positions : List Pos) (defs : List GuardDef) (j : LeafJudgement) (w : Won) : Type 0 where
  pub number : ℕ
  pub def : GuardDef
  pub judged : j ≡ leaf.Wins number
  pub def_is : slice_get defs number ≡ Some def
  pub pos_is : def.pos ≡ w.pos
  pub there : slice_get positions w.place ≡ Some w.pos

abbrev place_or : ℕ → Option Won → ℕ
place_or n None = n
place_or n (Some w) = w.place

abbrev pos_or : Pos → Option Won → Pos
pos_or p None = p
pos_or p (Some w) = w.pos

winner_of : (positions : List Pos) (defs : List GuardDef) (numbers : List ℕ) → AreNumbered positions defs numbers
    → (j : LeafJudgement) (w : Won) → won_by numbers defs j ≡ Some w → IsWinner positions defs j w
winner_of positions defs numbers are leaf.Nothing w won = absurd (cc)
winner_of positions defs numbers are leaf.NoWinner w won = absurd (cc)
winner_of positions defs numbers are leaf.Open w won = absurd (cc)
winner_of positions defs numbers are (leaf.Wins d) w won =
    by (slice_get numbers d) (slice_get defs d) refl refl won
  where
    by : (o : Option ℕ) (e : Option GuardDef) → slice_get numbers d ≡ o → slice_get defs d ≡ e → won_of o e ≡ Some w
        → IsWinner positions defs (leaf.Wins d) w
    by None e o_is e_is h = absurd (cc)
    by (Some n) None o_is e_is h = absurd (cc)
    by (Some n) (Some def) o_is e_is h =
        let one = numbered_at positions defs numbers are d def e_is in
        let place : n ≡ w.place = ap (place_or n) h in
        let pos : def.pos ≡ w.pos = ap (pos_or def.pos) h in
        let number : one.number ≡ w.place = some_same one.number n (sym one.is ∙ o_is) ∙ place in
        record {
          number = d;
          def = def;
          judged = refl;
          def_is = e_is;
          pos_is = pos;
          there = ap (slice_get positions) (sym number) ∙ one.there ∙ ap Some pos;
        }

-- where the definition stands that is judged to win
abbrev wins_of : TableTarget → LeafJudgement → List Pos
wins_of t leaf.Nothing = []
wins_of t (leaf.Wins d) = place_of (slice_get t.defs d)
wins_of t leaf.NoWinner = []
wins_of t leaf.Open = []

-- a definition that is judged to win is the winner of the region
winner_here : (t : TableTarget) (d : ℕ) (b : Bool) (v : Verdict)
    → (if b then leaf.Nothing else judgement_of v) ≡ leaf.Wins d
    → (if b then [] else holder_of t v) ≡ place_of (slice_get t.defs d)
winner_here t d true v h = absurd (cc)
winner_here t d false (Holds e) h = ap (wins_of t) h
winner_here t d false Empty h = absurd (cc)
winner_here t d false Conflict h = absurd (cc)
winner_here t d false Open h = absurd (cc)

module _ (table : Table) (t : TableTarget) (nodes : List TreeNode) where
  won_there : (positions : List Pos) (l : JudgedLeaf) (w : Won) → IsJudgedLeaf table t nodes l
      → IsWinner positions t.defs l.judged w → IsWon table t nodes w.pos (led table (way_of nodes l))
  won_there positions l w is winner =
      let region = led table (way_of nodes l) in
      record {
        leaf = is.leaf;
        wins = winner_here t winner.number (admits_none region) (judged_in table.atoms region t)
            (sym is.judged ∙ winner.judged)
            ∙ ap place_of winner.def_is ∙ ap (λ p. p ∷ []) winner.pos_is;
        region_is = is.region_is;
        dims = is.dims;
        inhabited = is.inhabited;
      }

  -- leaves that stand from a later place on
  pub later : (from to : ℕ) (ls : List JudgedLeaf) → from ≤ to → AreJudgedLeaves table t nodes to ls
      → AreJudgedLeaves table t nodes from ls
  later from to [] less are = tt
  later from to (l ∷ ls) less are = let first = are.0 in (omega (arith, less, first), are.1, are.2)

-- ---- a place is tried

module _ (program : Program) (table : Table) (t : TableTarget) (nodes : List TreeNode) (numbers : List ℕ)
    (olds news : List Known) (known : AreKnown program table t nodes numbers olds) (l : JudgedLeaf) (w : Won)
    (is : IsJudgedLeaf table t nodes l) (won : won_by numbers t.defs l.judged ≡ Some w) where
  winner : IsWinner known.positions t.defs l.judged w
  winner = winner_of known.positions t.defs numbers known.numbered l.judged w won

  -- it wins where the way to the leaf leads
  pub won_in : IsWonIn table t w.pos (led table (way_of nodes l))
  won_in =
      let there = won_there table t nodes known.positions l w is winner in
      record {
        wins = there.wins;
        region_is = there.region_is;
        dims = there.dims;
        inhabited = there.inhabited;
      }

  pub before : IsKnownAt program table t nodes olds w.place w.pos
  before = known_at program table t nodes known.positions olds known.each w.place w.pos winner.there

  module _ (tried : HasTriedAt program table t w (led table (way_of nodes l)) olds news) where
    line_if : (o : Option DeadLine) → line_in program table t w.pos (led table (way_of nodes l)) ≡ o
        → IsLineIf program table t nodes w.pos o
    line_if None says = tt
    line_if (Some m) says = record {
      region = led table (way_of nodes l);
      won = won_there table t nodes known.positions l w is winner;
      says = says;
    }

    of_old : IsKnownOf program table t nodes w.pos tried.old
    of_old =
        subst (IsKnownOf program table t nodes w.pos)
        (some_same before.there tried.old (sym before.is ∙ tried.old_is)) before.known_of

    of_new : IsKnownOf program table t nodes w.pos tried.new
    of_new = record { line = by tried.tried.line; default = tried.tried.default }
      where
        by : (tried.new.line ≡ tried.old.line)
            ⊎ (tried.new.line ≡ line_in program table t w.pos (led table (way_of nodes l)))
            → IsLineIf program table t nodes w.pos tried.new.line
        by (inl same) = subst (IsLineIf program table t nodes w.pos) (sym same) of_old.line
        by (inr says) = line_if tried.new.line (sym says)

    pub known_after : AreKnown program table t nodes numbers news
    known_after = record {
      positions = known.positions;
      numbered = known.numbered;
      each = subst (AreKnownOf program table t nodes known.positions) (sym tried.news_are)
          (known_set program table t nodes known.positions olds known.each w.place w.pos tried.new winner.there of_new);
    }

    pub grow_after : Grow olds news
    grow_after =
        subst (Grow olds) (sym tried.news_are)
        (grow_set olds w.place tried.old tried.new tried.old_is tried.tried.grown)

    new_there : known_weight (slice_get news w.place) ≡ weight_of tried.new.line
    new_there =
        ap (λ ks. known_weight (slice_get ks w.place)) tried.news_are
        ∙ ap known_weight (there_set olds w.place tried.old tried.new tried.old_is)

    pub covers_after : Covers program table t nodes news l w
    covers_after =
        let some = tried.tried.some in
        let covers = tried.tried.covers in
        let there = new_there in
        record { some = omega (arith, some, there); most = λ plain. omega (arith, covers, there) }

  -- a place whose line is final needs no run
  pub final_covers : is_final_at t.function (slice_get olds w.place) ≡ true → Covers program table t nodes olds l w
  final_covers final = by (slice_get olds w.place) refl before.is final
    where
      covers : (o : Option DeadLine) → known_weight (slice_get olds w.place) ≡ weight_of o
          → IsLineIf program table t nodes w.pos o → is_final t.function o ≡ true
          → Covers program table t nodes olds l w
      covers None weighs of h = absurd (true≢false (sym h))
      covers (Some (line.Decides input)) weighs of h =
          let most = most_weight (line_in program table t w.pos (led table (way_of nodes l))) in
          let all : known_weight (slice_get olds w.place) ≡ 3 = weighs in
          record { some = omega (arith, all); most = λ plain. omega (arith, all, most) }
      covers (Some (line.Masked input o)) weighs of h =
          let all : known_weight (slice_get olds w.place) ≡ 2 = weighs in
          record { some = omega (arith, all); most = λ plain. absurd (true≢false (sym h ∙ plain)) }
      covers (Some (line.Derived at input o)) weighs of h =
          let all : known_weight (slice_get olds w.place) ≡ 1 = weighs in
          record { some = omega (arith, all); most = λ plain. absurd (true≢false (sym h ∙ plain)) }
      covers (Some line.Budget) weighs of h =
          let some = from_weight (decides_in program table t w.pos of.region)
          (undecided_at table.terms t of.region) (shown_input program table of.region)
          (scope_outcome program table.scope (shown_input program table of.region)) line.Budget of.says in
          let none : 1 ≤ 0 = some in
          absurd (omega (arith, none))
      covers (Some line.Never) weighs of h =
          let some = from_weight (decides_in program table t w.pos of.region)
          (undecided_at table.terms t of.region) (shown_input program table of.region)
          (scope_outcome program table.scope (shown_input program table of.region)) line.Never of.says in
          let none : 1 ≤ 0 = some in
          absurd (omega (arith, none))

      by : (o : Option Known) → slice_get olds w.place ≡ o → o ≡ Some before.there
          → is_final_at t.function o ≡ true → Covers program table t nodes olds l w
      by None e h final = absurd (true≢false (sym final))
      by (Some k) e h final =
          covers k.line (ap known_weight e)
          (subst (λ (x : Known). IsLineIf program table t nodes w.pos x.line) (sym (some_same k before.there h))
          before.known_of.line) final

-- ---- answers and ways

pub any_reversed : (test : Answer → Bool) (ns : List Answer) → list_any test (reverse ns) ≡ list_any test ns
any_reversed test [] = refl
any_reversed test (n ∷ ns) =
    ap (list_any test) (reverse-append (n ∷ []) ns) ∙ list_any-append test (reverse ns) (n ∷ [])
    ∙ ap (λ b. b || (test n || false)) (any_reversed test ns) ∙ by (list_any test ns) (test n)
  where
    by : (a b : Bool) → (a || (b || false)) ≡ (b || a)
    by true true = refl
    by true false = refl
    by false true = refl
    by false false = refl

-- two flags that aren't the same
pub apart : (a b : Bool) → beq a b ≡ false → a ≡ b → ⊥
apart true true h same = true≢false h
apart true false h same = true≢false same
apart false true h same = true≢false (sym same)
apart false false h same = true≢false h
