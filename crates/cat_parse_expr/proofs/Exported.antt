-- What crates above may cite by path: the combinators of readers, and that expressions are read rightly.
pub use Rattle.cat_parse_expr.proofs.Rightness.{rightly}
pub use Rattle.cat_parse_expr.proofs.Indexed.{read_whole, as_row}
pub use Rattle.cat_parse_expr.proofs.Joining.{spelled_split, agree_same, no_front, pure_right}
pub use Rattle.cat_parse_expr.proofs.Token.{token_right}
pub use Rattle.cat_parse_expr.proofs.Choices.{Recast, recast, same_reader, recast_self, Same, next_seen, Decides}
pub use Rattle.cat_parse_expr.proofs.Choices.{choice_right}
pub use Rattle.cat_parse_expr.proofs.Leaves.{cue_self, lowered, word_behind, word_at_marks, lower_marks, upper_marks}
unfoldable pub use Rattle.cat_parse_expr.proofs.Sequel.{Past}
pub use Rattle.cat_parse_expr.proofs.Sequel.{part_right}
pub use Rattle.cat_parse_expr.proofs.Types.{a_type_right}
