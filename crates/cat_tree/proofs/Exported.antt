-- What crates above may cite by path: rewriting and induction, which no clause of a law can give.
pub use Rattle.cat_tree.proofs.Equations.{arm_row, field_row, phrase_Binary, phrase_Call, phrase_Case, phrase_Combine}
pub use Rattle.cat_tree.proofs.Equations.{phrase_Content, phrase_Each, phrase_Field, phrase_If, phrase_List}
pub use Rattle.cat_tree.proofs.Equations.{phrase_Literal, phrase_Match, phrase_Name, phrase_Parens, phrase_Prefixed}
pub use Rattle.cat_tree.proofs.Equations.{phrase_ScopeCall, phrase_Structure, phrase_Sum, phrase_Test}
