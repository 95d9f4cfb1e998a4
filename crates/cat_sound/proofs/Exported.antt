-- What crates above may cite by path: laws in the form in which proofs apply them, and the lemmas under them.
pub use Rattle.cat_sound.proofs.NamedParts.{parts_of, bodies_of, values_of, env_parts, env_item, env_scope}
pub use Rattle.cat_sound.proofs.ByParts.{by_parts}
pub use Rattle.cat_sound.proofs.PartTypes.{parts_typed}
pub use Rattle.cat_sound.proofs.ExprTypes.{expressions_go_on}
pub use Rattle.cat_sound.proofs.Results.{all_front, all_back}
pub use Rattle.cat_sound.proofs.Endings.{ends_as, ends_choose, ends_then}
pub use Rattle.cat_sound.proofs.FormTypes.{same_some}
pub use Rattle.cat_sound.proofs.OneType.{first_result, first_is}
pub use Rattle.cat_sound.proofs.TargetTypes.{DefEnds, groups-all, defs-all, judge_target-ends}
pub use Rattle.cat_sound.proofs.TargetTypes.{all_at, all_more, or_else-ends, settle-ends}
pub use Rattle.cat_sound.proofs.ScopeParts.{DoneAt, IsDone, IsSound, JudgingEnds, callable, called_is, names_of}
pub use Rattle.cat_sound.proofs.ScopeParts.{not_both}
pub use Rattle.cat_sound.proofs.ScopeParts.{inner_target, same_called, stands_end}
pub use Rattle.cat_sound.proofs.ScopeParts.{target_of, unique_target}
pub use Rattle.cat_sound.proofs.InputTypes.{Callee, Placed, function_defined, not_given}
pub use Rattle.cat_sound.proofs.JudgedTypes.{ready}
pub use Rattle.cat_sound.proofs.ScopeTypes.{evaluated-called, evaluated-function, evaluated-variable}
pub use Rattle.cat_sound.proofs.RunEntries.{callee_at, entry_given, free_of_may, no_values-length, with_entry-length}
pub use Rattle.cat_sound.proofs.RunEntries.{with_entry-other, with_entry-same}
pub use Rattle.cat_sound.proofs.TargetsListed.{in_order, one_back, one_front, target_listed}
pub use Rattle.cat_sound.proofs.OrderFacts.{AllIn, Ahead, Behind, ahead_as, ahead-of_IsOrder, all_once}
pub use Rattle.cat_sound.proofs.OrderFacts.{all-of_IsOrder, behind_first}
pub use Rattle.cat_sound.proofs.OrderFacts.{dependencies-at, dependencies-length, in_at, items_ahead, items_listed}
pub use Rattle.cat_sound.proofs.OrderFacts.{in_more, listed_in}
pub use Rattle.cat_sound.proofs.OrderFacts.{moved-behind, moved_new, scopes-at, scopes-length}
pub use Rattle.cat_sound.proofs.RunTypes.{BodyAt, body_at, called-all}
pub use Rattle.cat_sound.proofs.ScopeRuns.{run_scoped-ends}
pub use Rattle.cat_sound.proofs.PlacedRuns.{all_runs-end}
pub use Rattle.cat_sound.proofs.OutcomeTypes.{IsOutcomeOf-prop, any_stands, anything, everywhere, outcome-of}
pub use Rattle.cat_sound.proofs.OutcomeTypes.{settled_programs, logged_within, EndsIn-prop}
pub use Rattle.cat_sound.proofs.GivenValues.{IfGives, if_then, run_through}
pub use Rattle.cat_sound.proofs.RunParts.{first_ok, each_judged}
pub use Rattle.cat_sound.proofs.DecidedLaws.{each_logged}
pub use Rattle.cat_sound.proofs.JudgeLaws.{judging_rule, leads_on}
pub use Rattle.cat_sound.proofs.GroupLaws.{IsAsItsFirst, are_as_their_first}
pub use Rattle.cat_sound.proofs.RootNumbers.{IsNumbered, numbered_groups, roots_are}
pub use Rattle.cat_sound.proofs.Rests.{names_alone}
pub use Rattle.cat_sound.proofs.JudgingSame.{DefSame, target_same}
pub use Rattle.cat_sound.proofs.ScopeLaws.{scopes_by_rule}
pub use Rattle.cat_sound.proofs.Alike.{same_gives}
pub use Rattle.cat_sound.proofs.WellFormedParts.{boolean_is_sound, integer_is_sound}
pub use Rattle.cat_sound.proofs.Trees.{test_sound, test_whole}
pub use Rattle.cat_sound.proofs.ForestLaws.{are_low_says, within_below, within_step, within_none}
