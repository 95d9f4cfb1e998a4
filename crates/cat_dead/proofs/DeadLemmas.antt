-- What a certificate without open leaves tells of a scope.
use Rattle.std.proofs.Common.{◌≡◌, ℕ, Bool, true, false, not, List, [], ◌∷◌, map, Option}
use Rattle.std.proofs.Common.{refl, sym, ◌∙◌, subst, true≢false}
use Rattle.std.specs.Prelude.{filter, if◌then◌else◌}
use Rattle.std.specs.List.{list_any}
use Rattle.std.proofs.lemmas.Bool.{or_parts}
use Rattle.std.proofs.lemmas.List.Folds.{list_any-append}
use Rattle.cat_pos.specs.declared.pos.Pos.{Pos}
use Rattle.cat_region.specs.Regions.{Constraints, Valuation, IsRegion, IsValuation}
use Rattle.cat_scope.specs.Names.{AllHave}
use Rattle.cat_scope.specs.declared.programs.Program.{Program}
use Rattle.cat_guard.specs.declared.table.Table.{Table}
use Rattle.cat_guard.specs.declared.table.TableTarget.{TableTarget}
use Rattle.cat_guard.specs.Trees.{Tree}
use Rattle.cat_guard.specs.Valuations.{dims_of, holds_at}
use Rattle.cat_guard.proofs.Exported.{all_more, all_and}
use Rattle.cat_guard.specs.declared.table.Atom.{Atom}
use Rattle.cat_guard.specs.declared.table.Term.{Term}
use Rattle.cat_guard.specs.TableJudging.{decided}
use Rattle.cat_cert.specs.Uncovered.{regions_of}
use Rattle.cat_cert.specs.declared.certificate.CertTree.{CertTree}
use Rattle.cat_cert.specs.declared.certificate.Version.TheVariants as version
use Rattle.cat_cert.specs.Lines.{TargetDue}
use Rattle.cat_cert.specs.ReadTrees.{AreReadTrees}
use Rattle.cat_cert.specs.Uncovered.{everything}
use Rattle.cat_cert.specs.inside.Checkable.{last_line, NamesFirst}
use Rattle.cat_cert.specs.declared.certificate.Certificate.{Certificate}
use Rattle.cat_cert.specs.declared.refusal.CertRefusal.{CertRefusal}
use Rattle.cat_cert.specs.declared.refusal.CertRefusal.TheVariants as refusal
use Rattle.cat_dead.specs.Checked.{HasDeadCause}
use Rattle.cat_dead.specs.DeadTexts.{IsDeadRead, IsDeadRefused}
use Rattle.cat_walk.proofs.WholeLemmas.{expanded_whole}
use Rattle.cat_dead.specs.Winners.{winners_in}
use Rattle.cat_dead.specs.NeverDecides.{IsHeldElsewhere, HoldsNowhere, NeverDecides, NoneDecides, NeverDecide}
use Rattle.cat_dead.specs.Winners.{is_same, wins_nowhere, IsKnown, AreKnown, open_lines, tree_winners, targets_winners}
use Rattle.cat_dead.specs.Winners.{winners_of}
use Rattle.cat_dead.specs.Winners.{definitions_of, dead_in}
use Rattle.cat_dead.proofs.DecidesLaws.{SameElsewhere}
use Rattle.cat_dead.proofs.HeldLaws.{NeverHeldIn}

-- those that pass a test
passing : {A : Type 0} (test : A → Bool) (xs : List A) → AllHave (λ x. test x ≡ true) (filter test xs)
passing test [] = tt
passing test (x ∷ xs) = by (test x) refl (passing test xs)
  where
    by : (b : Bool) → test x ≡ b → AllHave (λ y. test y ≡ true) (filter test xs)
        → AllHave (λ y. test y ≡ true) (if b then x ∷ filter test xs else filter test xs)
    by true is more = (is, more)
    by false is more = more

not_there : (b : Bool) → not b ≡ true → b ≡ false
not_there true h = absurd (true≢false (sym h))
not_there false h = refl

module _ (terms : List Term) (atoms : List Atom) (p : Pos) where
  -- a region before any narrowing
  abbrev base : Constraints
  base = everything terms

  each_nowhere : IsRegion base → (ts : List TableTarget) (cs : List CertTree)
      → AreReadTrees last_line version.One (map TargetDue ts) cs → AllHave (NeverHeldIn terms atoms) ts
      → AreKnown atoms base ts cs → list_any (is_same p) (targets_winners atoms base ts cs) ≡ false
      → AllHave (λ t. (v : Valuation) → IsValuation (dims_of terms) v
      → IsHeldElsewhere p (decided t (holds_at atoms v)).end) ts
  each_nowhere is [] cs read never known lost = tt
  each_nowhere is (t ∷ ts) [] read never known lost = absurd (read)
  each_nowhere is (t ∷ ts) (c ∷ cs) read never known lost =
      let parts = or_parts (list_any (is_same p) (tree_winners atoms base t c))
      (list_any (is_same p) (targets_winners atoms base ts cs))
      (sym (list_any-append (is_same p) (tree_winners atoms base t c) (targets_winners atoms base ts cs)) ∙ lost) in
      let one = read.0.is_tree in (
        λ v is_v. never.0 base one.whole p v is refl (expanded_whole c.tree one.whole one.stands)
            (subst (IsKnown atoms base t) one.stands known.0)
            (subst (λ (o : Option Tree). list_any (is_same p) (winners_in atoms t (regions_of atoms base o)) ≡ false)
            one.stands parts.0)
            (record { valuation = is_v; agreeing = refl }),
        each_nowhere is ts cs read.1 never.1 known.1 parts.1,
      )

module _ (program : Program) (table : Table) (cs : List CertTree)
    (read : AreReadTrees last_line version.One (map TargetDue table.targets) cs)
    (is : IsRegion (everything table.terms)) (never : AllHave (NeverHeldIn table.terms table.atoms) table.targets)
    (dies : (p : Pos) → AllHave (λ t. HoldsNowhere table t p → AllHave (SameElsewhere table t p) table.targets
    → NeverDecides program table t p) table.targets)
    (known : AreKnown table.atoms (everything table.terms) table.targets cs) where
  none_decides : (p : Pos) → wins_nowhere (winners_of table cs) p ≡ true → NoneDecides program table p
  none_decides p lost =
      let all : AllHave (λ t. HoldsNowhere table t p) table.targets =
      each_nowhere table.terms table.atoms p is table.targets cs read never known
      (not_there (list_any (is_same p) (winners_of table cs)) lost) in
      all_and (λ t. HoldsNowhere table t p) (λ t. HoldsNowhere table t p
      → AllHave (SameElsewhere table t p) table.targets → NeverDecides program table t p)
      (λ t. NeverDecides program table t p) table.targets all (dies p)
      (λ t nowhere dead. dead nowhere
      (all_more (λ u. HoldsNowhere table u p) (SameElsewhere table t p) table.targets all (λ u there same. there)))

  pub never_decide : NeverDecide program table (dead_in table cs)
  never_decide =
      all_more (λ p. wins_nowhere (winners_of table cs) p ≡ true) (NoneDecides program table) (dead_in table cs)
      (passing (wins_nowhere (winners_of table cs)) (definitions_of table.targets)) none_decides

-- ---- why not

pub refused_cause : (table : Table) (bytes : List ℕ) (why : CertRefusal) → IsDeadRefused table bytes why
    → HasDeadCause table bytes why
refused_cause table bytes (refusal.BadLine n) is = is
refused_cause table bytes (refusal.WrongName n) is = is
refused_cause table bytes (refusal.NotCovered n) is = absurd (is)
refused_cause table bytes refusal.Short is = is
refused_cause table bytes (refusal.Trailing n) is = is
refused_cause table bytes (refusal.TooWide n) is = is
refused_cause table bytes refusal.Memory is = tt

pub open_cause : (table : Table) (bytes : List ℕ) (c : Certificate) → IsDeadRead table bytes c → (why : CertRefusal)
    → NamesFirst (open_lines table c.trees) why → HasDeadCause table bytes why
open_cause table bytes c read (refusal.NotCovered n) is = (c, read, is)
open_cause table bytes c read refusal.Memory is = tt
open_cause table bytes c read (refusal.BadLine n) is = absurd (is)
open_cause table bytes c read (refusal.WrongName n) is = absurd (is)
open_cause table bytes c read refusal.Short is = absurd (is)
open_cause table bytes c read (refusal.Trailing n) is = absurd (is)
open_cause table bytes c read (refusal.TooWide n) is = absurd (is)
