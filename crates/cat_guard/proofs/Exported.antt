-- What crates above may cite by path: rewriting, which no clause of a call can give.
pub use Rattle.cat_guard.proofs.FormulaLaws.{same_bool, known_so, known_kept, truth_renamed, truth_same}
pub use Rattle.cat_guard.proofs.GuardLevels.{guarded, guard_at, formulas, formula_of_guard_tree}
pub use Rattle.cat_guard.proofs.Ends.{then_end, one_more, holding_end, settle_end, else_end, or_else_end}
pub use Rattle.cat_guard.proofs.TableLaws.{both_true, all_true, all_more, all_and, Entry, entry}
pub use Rattle.cat_guard.proofs.TableLaws.{excepting_is, above_is}
pub use Rattle.cat_guard.proofs.TableLaws.{IsSoundTarget, sound_parts, targets_sound, are_within_at, chain_on, no_chain}
pub use Rattle.cat_guard.proofs.TableLaws.{target_stands}
pub use Rattle.cat_guard.proofs.TreeLaws.{answered_dims, answered_narrowings, on_side, side}
pub use Rattle.cat_guard.proofs.RegionLaws.{cut_of_term, sound_dims, sound_atoms}
pub use Rattle.cat_guard.proofs.SameCuts.{nat_self, dim_self, cut_self, dim_same, cut_same}
pub use Rattle.cat_guard.proofs.FirstLaws.{firsts_all}
pub use Rattle.cat_guard.proofs.AskedLemmas.{parted_all}
pub use Rattle.cat_guard.proofs.ResultLemmas.{on_ok, if_some, both_some, on_ok_some}
pub use Rattle.cat_guard.proofs.LevelLemmas.{answers_alike}
