-- What a target comes to hangs on its own atoms alone.
use Rattle.std.proofs.Common.{◌≡◌, ℕ, zero, suc, Bool, List, [], ◌∷◌, map, Option, Some, None, slice_get}
use Rattle.std.proofs.Common.{refl, ap}
use mathlib.Core.Path.{fun_ext}
use Rattle.cat_scope.specs.Names.{AllHave}
use Rattle.cat_scope.specs.Chains.{longest_chain}
use Rattle.cat_scope.specs.Judging.{settle, judge}
use Rattle.cat_guard.specs.declared.guard.GuardDef.{GuardDef}
use Rattle.cat_guard.specs.declared.guard.GuardGroup.{GuardGroup}
use Rattle.cat_guard.specs.declared.table.TableTarget.{TableTarget}
use Rattle.cat_guard.specs.Formulas.{asked}
use Rattle.cat_guard.specs.GuardFormulas.{formula_of}
use Rattle.cat_guard.specs.TableJudging.{Decided, by_truth, decided_def, decided_own, pairs_from, decided}
use Rattle.cat_guard.proofs.FormulaLaws.{all_back, all_front, truth_same}
use Rattle.cat_guard.specs.Judgements.{asked_in, atoms_in}

module _ (holds other : ℕ → Bool) where
  abbrev Same : ℕ → Type 0
  Same a = holds a ≡ other a

  def_same : (defs : List GuardDef) (d : ℕ) → AllHave Same (asked_in defs)
      → decided_def holds (slice_get defs d) ≡ decided_def other (slice_get defs d)
  def_same [] d h = refl
  def_same (e ∷ defs) zero h =
      ap (λ b. by_truth b e.number e.pos) (truth_same holds other (formula_of e.guard)
      (all_front Same (asked (formula_of e.guard)) (asked_in defs) h))
  def_same (e ∷ defs) (suc d) h = def_same defs d (all_back Same (asked (formula_of e.guard)) (asked_in defs) h)

  module _ (t : TableTarget) (same : AllHave Same (atoms_in t)) where
    own_same : (o : Option GuardGroup) → decided_own t holds o ≡ decided_own t other o
    own_same None = refl
    own_same (Some g) =
        ap (λ (each : ℕ → Decided). settle t.target (map each g.defs)) (fun_ext (λ d. def_same t.defs d same))

    pub decided_same : decided t holds ≡ decided t other
    decided_same =
        ap (λ (own : ℕ → Decided). settle t.target
        (map (judge t.target (pairs_from 0 t.groups) own longest_chain) t.roots))
        (fun_ext (λ g. own_same (slice_get t.groups g)))
