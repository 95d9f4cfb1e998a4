-- What crates above may cite by path: rows of tables by sections, those that are right, what their words tell, and what
-- holds of lists.
pub use Rattle.cat_verify_tables.proofs.WordBytes.{chars_bytes}
pub use Rattle.cat_verify_tables.proofs.PlainLemmas.{first_of}
pub use Rattle.cat_verify_tables.proofs.SameParts.{words_one, map_twice, tests_have}
pub use Rattle.cat_verify_tables.proofs.SameReads.{same_value}
pub use Rattle.cat_verify_tables.proofs.FrontLemmas.{open_scope, opened}
pub use Rattle.cat_verify_tables.proofs.BadLemmas.{files, structures, enumerations}
pub use Rattle.cat_verify_tables.proofs.CountLemmas.{both_functions, functions_before, scopes_parted, items_parted}
pub use Rattle.cat_verify_tables.proofs.RightLemmas.{IsRightStructure, NoContent}
pub use Rattle.cat_verify_tables.proofs.RightRows.{IsRightCase, IsRightEnumeration, IsRightScope, before_item}
pub use Rattle.cat_verify_tables.proofs.AllRight.{none_is_bad}
pub use Rattle.cat_verify_tables.proofs.SoundLemmas.{both_have, each_has}
pub use Rattle.cat_verify_tables.proofs.ThereLemmas.{map_have}
pub use Rattle.cat_verify_tables.proofs.OneTable.{all_mapped}
pub use Rattle.cat_verify_tables.proofs.MadeLemmas.{one_there}
pub use Rattle.cat_verify_tables.proofs.KnownLemmas.{no_flat_list}
pub use Rattle.cat_verify_tables.proofs.FunctionLemmas.{list_words}
pub use Rattle.cat_verify_tables.proofs.TargetTold.{not_called}
