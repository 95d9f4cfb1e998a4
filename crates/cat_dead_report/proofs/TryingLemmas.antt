-- Leaves whose inputs are tried one after the other.
use Rattle.std.proofs.Common.{◌≡◌, ℕ, zero, suc, ◌+◌, ◌<◌, ◌≤◌, Bool, true, List, [], ◌∷◌, length}
use Rattle.std.proofs.Common.{take, drop}
use Rattle.std.proofs.Common.{Some, None, slice_get, refl, sym, ap, ◌∙◌, subst, arith}
use Rattle.std.specs.Prelude.{slice_index_or}
use Rattle.std.specs.List.{slice_range}
use Rattle.cat_scope.specs.declared.programs.Program.{Program}
use Rattle.cat_scope.specs.Names.{AllHave}
use Rattle.cat_guard.specs.declared.table.Table.{Table}
use Rattle.cat_guard.specs.declared.table.TableTarget.{TableTarget}
use Rattle.cat_guard.specs.declared.tree.TreeNode.{TreeNode}
use Rattle.cat_search.specs.declared.way.Answer.{Answer}
use Rattle.cat_search.specs.Ways.{way_from}
use Rattle.cat_audit.proofs.TriedLemmas.{way_on}
use Rattle.cat_dead_report.specs.declared.found.Known.{Known}
use Rattle.cat_dead_report.specs.declared.found.Won.{Won}
use Rattle.cat_dead.specs.declared.judged.JudgedLeaf.{JudgedLeaf}
use Rattle.cat_dead.specs.declared.judged.LeafJudgement.TheVariants as leaf
use Rattle.cat_dead_report.specs.inside.Hanging.{hang_somewhere}
use Rattle.cat_dead_report.specs.inside.Knowing.{is_final_at, AreKnown, Grow}
use Rattle.cat_dead_report.specs.inside.Said.{IsWonIn}
use Rattle.cat_dead_report.specs.inside.Tries.{HasTriedAt}
use Rattle.cat_dead_report.specs.inside.WonLeaves.{won_by, way_of, led, IsJudgedLeaf, AreJudgedLeaves, Covers}
use Rattle.cat_dead_report.specs.inside.WonLeaves.{IsToldIf}
use Rattle.cat_dead.proofs.Exported.{some_same}
use Rattle.cat_dead_report.proofs.KnownLemmas.{IsKnownAt, grow_again, told_more}
use Rattle.cat_dead_report.proofs.WonLemmas.{before, covers_after, grow_after, known_after, later}
use Rattle.cat_dead_report.proofs.WonLemmas.{final_covers, won_in}
use Rattle.cat_dead_report.proofs.WritingLemmas.{drop_next, take_next}

-- ---- the leaf of an index

abbrev pub item : List JudgedLeaf → ℕ → JudgedLeaf
item ls i = slice_index_or ls i (record { node = 0; judged = leaf.Nothing })

pub at_item : (ls : List JudgedLeaf) (i : ℕ) → i < length ls → slice_get ls i ≡ Some (item ls i)
at_item [] i within = absurd (omega (arith, within))
at_item (l ∷ ls) zero within = refl
at_item (l ∷ ls) (suc i) within = at_item ls i (omega (arith, within))

-- ---- a pass under way

-- where the way is, the leaves that are left, what is known, and of which leaves
pub record IsTrying (program : Program) (table : Table) (t : TableTarget) (nodes : List TreeNode) (derived : Bool)
    (numbers : List ℕ) (leaves : List JudgedLeaf) (first : List Known) (at : ℕ) (way : List Answer) (i : ℕ)
    (known : List Known) : Type 0 where
  pub way_is : way ≡ way_from [] (take at nodes)
  pub ahead : AreJudgedLeaves table t nodes at (drop i leaves)
  pub known_is : AreKnown program table t nodes numbers known
  pub grown : Grow first known
  pub told : AllHave (IsToldIf program table t nodes derived numbers known) (take i leaves)

module _ (program : Program) (table : Table) (t : TableTarget) (nodes : List TreeNode) (derived : Bool)
    (numbers : List ℕ) (leaves : List JudgedLeaf) (first : List Known) where
  abbrev Trying : ℕ → List Answer → ℕ → List Known → Type 0
  Trying at way i known = IsTrying program table t nodes derived numbers leaves first at way i known

  abbrev ToldIf : List Known → JudgedLeaf → Type 0
  ToldIf known l = IsToldIf program table t nodes derived numbers known l

  pub starts : AreJudgedLeaves table t nodes 0 leaves → AreKnown program table t nodes numbers first
      → Trying 0 [] 0 first
  starts are known = record {
    way_is = refl;
    ahead = are;
    known_is = known;
    grown = λ n. omega arith;
    told = tt;
  }

  module _ (at : ℕ) (way : List Answer) (i : ℕ) (known : List Known) (trying : Trying at way i known) (l : JudgedLeaf)
      (there : slice_get leaves i ≡ Some l) where
    ahead : AreJudgedLeaves table t nodes at (l ∷ drop (i + 1) leaves)
    ahead = subst (AreJudgedLeaves table t nodes at) (drop_next leaves i l there) trying.ahead

    -- the next leaf stands ahead
    pub order : at ≤ l.node
    order = ahead.0

    pub next_leaf : IsJudgedLeaf table t nodes l
    next_leaf = ahead.1

    told_then : (news : List Known) → Grow known news → ToldIf news l
        → AllHave (IsToldIf program table t nodes derived numbers news) (take (i + 1) leaves)
    told_then news grow one =
        subst (AllHave (IsToldIf program table t nodes derived numbers news)) (sym (take_next leaves i l there))
        (told_more program table t nodes numbers derived known news grow (take i leaves) l trying.told one)

    -- it is passed, and the way stays
    pub passes : ToldIf known l → Trying at way (i + 1) known
    passes one =
        let order = ahead.0 in
        record {
          way_is = trying.way_is;
          ahead = later table t nodes at (suc l.node) (drop (i + 1) leaves) (omega (arith, order)) ahead.2;
          known_is = trying.known_is;
          grown = trying.grown;
          told = told_then known (λ n. omega arith) one;
        }

    -- none wins there
    pub none_wins : won_by numbers t.defs l.judged ≡ None → ToldIf known l
    none_wins none hangs w won = absurd (some_none (sym none ∙ won))
      where
        some_none : None ≡ Some w → ⊥
        some_none h = absurd (cc)

    module _ (w : Won) (won : won_by numbers t.defs l.judged ≡ Some w) where
      -- nothing more is to be known of the definition that does
      pub final_there : is_final_at t.function (slice_get known w.place) ≡ true → ToldIf known l
      final_there final hangs v is =
          subst (Covers program table t nodes known l) (some_same w v (sym won ∙ is))
          (final_covers program table t nodes numbers known known trying.known_is l w next_leaf won final)

      -- what is known of it
      pub known_there : IsKnownAt program table t nodes known w.place w.pos
      known_there = before program table t nodes numbers known known trying.known_is l w next_leaf won

      module _ (next : List Answer) (goes : next ≡ way_from way (slice_range nodes at l.node)) where
        -- the way leads to the leaf
        pub reached : next ≡ way_of nodes l
        reached =
            goes ∙ ap (λ x. way_from x (slice_range nodes at l.node)) trying.way_is ∙ way_on nodes at l.node ahead.0

        -- the definition wins there
        pub won_there : IsWonIn table t w.pos (led table next)
        won_there =
            subst (λ x. IsWonIn table t w.pos (led table x)) (sym reached)
            (won_in program table t nodes numbers known known trying.known_is l w next_leaf won)

        -- it is one of the other pass
        pub goes_over : (hang_somewhere table next ≡ derived → ⊥) → Trying l.node next (i + 1) known
        goes_over other = record {
          way_is = reached;
          ahead = later table t nodes l.node (suc l.node) (drop (i + 1) leaves) (omega arith) ahead.2;
          known_is = trying.known_is;
          grown = trying.grown;
          told = told_then known (λ n. omega arith) (λ same.
              absurd (other (ap (hang_somewhere table) reached ∙ same)));
        }

        -- it is tried
        pub goes_on : (news : List Known) → HasTriedAt program table t w (led table next) known news
            → Trying l.node next (i + 1) news
        goes_on news tried_next =
            let tried = subst (λ x. HasTriedAt program table t w (led table x) known news) reached tried_next in
            let grow = grow_after program table t nodes numbers known news trying.known_is l w next_leaf won tried in
            record {
              way_is = reached;
              ahead = later table t nodes l.node (suc l.node) (drop (i + 1) leaves) (omega arith) ahead.2;
              known_is = known_after program table t nodes numbers known news trying.known_is l w next_leaf won tried;
              grown = grow_again first known news trying.grown grow;
              told = told_then news grow (λ hangs v is.
                  subst (Covers program table t nodes news l) (some_same w v (sym won ∙ is))
                  (covers_after program table t nodes numbers known news trying.known_is l w next_leaf won tried));
            }
