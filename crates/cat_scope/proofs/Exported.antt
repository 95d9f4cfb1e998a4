-- What crates above may cite by path: rewriting and induction, which no clause of a law can give.
pub use Rattle.cat_scope.proofs.RunLaws.{append_append, and_then_and_then, and_then_gives}
pub use Rattle.cat_scope.proofs.Induction.{Each, Within, induction}
pub use Rattle.cat_scope.proofs.Namings.{Own, of_form, names_in_field, names_in_arm, names_in_field_is, names_in_arm_is}
pub use Rattle.cat_scope.proofs.Namings.{names_by_level, namings}
pub use Rattle.cat_scope.proofs.Placings.{arms_placed, fields_placed, later_arms_placed, placed_And, placed_Binary}
pub use Rattle.cat_scope.proofs.Placings.{placed_Call, placed_Case_None, placed_Case_Some, placed_Combine}
pub use Rattle.cat_scope.proofs.Placings.{placed_Contains, placed_Exists, placed_Field, placed_Filter, placed_ForAll}
pub use Rattle.cat_scope.proofs.Placings.{placed_If, placed_IsCase, placed_Item, placed_Length, placed_List}
pub use Rattle.cat_scope.proofs.Placings.{placed_Literal, placed_Local, placed_Map, placed_Match, placed_Or}
pub use Rattle.cat_scope.proofs.Placings.{placed_Output, placed_ScopeCall, placed_Structure, placed_Sum, placed_Unary}
pub use Rattle.cat_scope.proofs.Placings.{placings}
pub use Rattle.cat_scope.proofs.PartEquations.{Field, Branch, field, branch, field_is, branch_is, and_then_same}
pub use Rattle.cat_scope.proofs.Equations.{levels, equations}
pub use Rattle.cat_scope.proofs.Equations.{eval_Literal, eval_Item, eval_Output, eval_Local, eval_Field, eval_Unary}
pub use Rattle.cat_scope.proofs.Equations.{eval_Binary, eval_And, eval_Or, eval_If, eval_Match, eval_IsCase}
pub use Rattle.cat_scope.proofs.Equations.{eval_Case_None, eval_Case_Some, eval_Structure, eval_List, eval_ForAll}
pub use Rattle.cat_scope.proofs.Equations.{eval_Exists, eval_Map, eval_Filter, eval_Combine, eval_Contains}
pub use Rattle.cat_scope.proofs.Equations.{eval_Length, eval_Sum, eval_Call, eval_ScopeCall}
pub use Rattle.cat_scope.proofs.ListLemmas.{all_append, map_append}
