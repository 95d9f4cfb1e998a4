-- What crates above may cite by path: rewriting, which no clause of a call can give.
pub use Rattle.cat_value.proofs.Levels.{height_bounded, height_step, height_zero, level_cut, list_height}
pub use Rattle.cat_value.proofs.Induction.{Each, Within, value_induction}
pub use Rattle.cat_value.proofs.DependencyEquations.{naming}
pub use Rattle.cat_value.proofs.Descending.{content_declared, enumeration_low, enumeration_there, fields_declared}
pub use Rattle.cat_value.proofs.Descending.{found, height_Boolean, height_Date, height_Decimal, height_Duration}
pub use Rattle.cat_value.proofs.Descending.{height_Enumeration, height_Integer, height_List, height_Money}
pub use Rattle.cat_value.proofs.Descending.{height_Structure, list_all_at, structure_low}
pub use Rattle.cat_value.proofs.Descending.{fields_lower, height_positive, structure_there, within}
pub use Rattle.cat_value.proofs.Equations.{case_is, declared, has_type-levels, has_type_Boolean, has_type_Case}
pub use Rattle.cat_value.proofs.Equations.{has_type_Date, has_type_Decimal, has_type_Duration, has_type_Integer}
pub use Rattle.cat_value.proofs.Equations.{has_type_List, has_type_Money, has_type_Structure, is_declared_Boolean}
pub use Rattle.cat_value.proofs.Equations.{is_declared_Date, is_declared_Decimal, is_declared_Duration}
pub use Rattle.cat_value.proofs.Equations.{is_declared_Enumeration, is_declared_Integer, is_declared_List}
pub use Rattle.cat_value.proofs.Equations.{is_declared_Money, is_declared_Structure, list_is, structure_is, tested}
pub use Rattle.cat_value.proofs.Equations.{tested_Case, typing}
pub use Rattle.cat_value.proofs.Examples.{choice, pair, pair_and_choice_are_sound, sample}
pub use Rattle.cat_value.proofs.Inversions.{boolean_value, case_value, date_value, decimal_value, duration_value}
pub use Rattle.cat_value.proofs.Inversions.{integer_value, list_value, money_value, structure_value, whole}
pub use Rattle.cat_value.proofs.HeightLaws.{height_of_is}
