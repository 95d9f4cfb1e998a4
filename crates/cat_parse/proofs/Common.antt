-- The words that the proofs here name, from one place. Declares nothing.
pub use Rattle.cat_lex.specs.declared.token.Token.{Token}
pub use Rattle.cat_lex.specs.declared.token.TokenKind.{TokenKind}
pub use Rattle.cat_lex.specs.declared.words.Keyword.{Keyword}
pub use Rattle.cat_parse.specs.Causes.{HasProgramCause, IsTooDeep, IsUnexpected}
pub use Rattle.cat_parse.specs.Declarations.{a_case, a_kind, a_variable, called, comma, content, field, is_comma}
pub use Rattle.cat_parse.specs.Declarations.{is_content, is_lower, is_word, key_word, kind_of_one, kind_or, led, listed}
pub use Rattle.cat_parse.specs.Declarations.{own, params, typed_name, variable_type}
pub use Rattle.cat_parse.specs.Ends.{EndsBefore}
pub use Rattle.cat_parse.specs.Exactly.{Exactly, ReadsExpressions, ReadsExpressionsTo, SpellOneProgram, expression_row}
pub use Rattle.cat_parse.specs.Leads.{an_exception, exception_at, exception_of, inner, is_dot, label, lead, names}
pub use Rattle.cat_parse.specs.Leads.{target}
pub use Rattle.cat_parse.specs.Many.{at_most, both, many, optional, some}
pub use Rattle.cat_parse.specs.Programs.{Declared, Enumerations, Scopes, Structures, an_item, block, declaration}
pub use Rattle.cat_parse.specs.Programs.{declared, is_dashes, is_variable, item_of, named, program, to_end}
pub use Rattle.cat_parse.specs.Right.{Before, IsLow, IsRightTo, Outside, none_past}
pub use Rattle.cat_parse.specs.Tails.{Defined, Ruled, Tail, condition, defined, guard, is_under, ruled, tail, use_of}
pub use Rattle.cat_parse.specs.Tails.{whether_fulfilled}
pub use Rattle.cat_parse.specs.Uses.{a_use, asserted, behind_expression, behind_use, direction, is_item, is_rounding}
pub use Rattle.cat_parse.specs.Uses.{is_use, rounded}
pub use Rattle.cat_parse_expr.proofs.Exported.{agree_same, as_row, cue_self, lower_marks, lowered, next_seen, no_front}
pub use Rattle.cat_parse_expr.proofs.Exported.{read_whole, rightly, same_reader, spelled_split, token_right}
pub use Rattle.cat_parse_expr.proofs.Exported.{upper_marks, word_at_marks, word_behind}
pub use Rattle.cat_parse_expr.specs.Cues.{cue_is, kind_of, lower, lower_of, upper, upper_of, word_of, «word»}
pub use Rattle.cat_parse_expr.specs.Followers.{MayFollow, looks_of, may_stand}
pub use Rattle.cat_parse_expr.specs.Places.{Gives, left_behind}
pub use Rattle.cat_parse_expr.specs.Reader.{Fails, Parsed, Reader, Reads, after, by_word, heads, left_of, made_of, pure}
pub use Rattle.cat_parse_expr.specs.Reader.{◌⨟◌}
pub use Rattle.cat_parse_expr.specs.Refusals.{refusal_of}
pub use Rattle.cat_parse_expr.specs.Right.{Agree, AgreePast, Alike, Begun, Is, IsRight, Says, Seen, Taken}
pub use Rattle.cat_parse_expr.specs.Rightly.{IsMeasured, measured_of, operand_row}
pub use Rattle.cat_parse_expr.specs.Types.{a_type}
pub use Rattle.cat_parse_expr.specs.declared.behind.Behind.TheVariants.{Other}
pub use Rattle.cat_parse_expr.specs.declared.cue.Cue.{Cue}
pub use Rattle.cat_parse_expr.specs.declared.measured.Measured.{Measured}
pub use Rattle.cat_parse_expr.specs.declared.miss.Miss.{Miss}
pub use Rattle.cat_parse_expr.specs.declared.miss.Miss.TheVariants.{Broken, Memory}
pub use Rattle.cat_parse_expr.specs.declared.refusal.ParseRefusal.TheVariants.{TooDeep, Unexpected}
pub use Rattle.cat_pos.specs.declared.pos.Pos.{Pos}
pub use Rattle.cat_tree.specs.Declarations.{case_parts, content_parts, field_parts, kind_parts, params_parts}
pub use Rattle.cat_tree.specs.Declarations.{typed_parts, variable_parts, variable_type_parts}
pub use Rattle.cat_tree.specs.Grammar.{phrase}
pub use Rattle.cat_tree.specs.Joined.{all, behind_comma, with_commas, ◌▸◌}
pub use Rattle.cat_tree.specs.Literals.{base_kind, lists_of, type_parts}
pub use Rattle.cat_tree.specs.Phrase.{Anywhere, AreLevelled, AreSpelled, At, End, Operand, Part, Parts, Word, tallest}
pub use Rattle.cat_tree.specs.Programs.{BeginsProgram, SpellsLowProgram, SpellsProgram, are_filled, block_parts}
pub use Rattle.cat_tree.specs.Programs.{condition_parts, highest_in, is_filled, item_parts}
pub use Rattle.cat_tree.specs.Spells.{height_of}
pub use Rattle.cat_tree.specs.Uses.{exception_parts, fulfilled_parts, inner_parts, label_parts, lead_parts, name_parts}
pub use Rattle.cat_tree.specs.Uses.{names_parts, rounding_word, target_parts, use_condition_parts, use_parts}
pub use Rattle.cat_tree.specs.declared.expression.Node.{Node}
pub use Rattle.cat_tree.specs.declared.name.Name.{Name}
pub use Rattle.cat_tree.specs.declared.program.Block.{Block}
pub use Rattle.cat_tree.specs.declared.program.CaseItem.{CaseItem}
pub use Rattle.cat_tree.specs.declared.program.Exception.{Exception}
pub use Rattle.cat_tree.specs.declared.program.FieldItem.{FieldItem}
pub use Rattle.cat_tree.specs.declared.program.Fulfilled.{Fulfilled}
pub use Rattle.cat_tree.specs.declared.program.Item.{Item}
pub use Rattle.cat_tree.specs.declared.program.Lead.{Lead}
pub use Rattle.cat_tree.specs.declared.program.SurfaceLabel.{SurfaceLabel}
pub use Rattle.cat_tree.specs.declared.program.TargetName.{TargetName}
pub use Rattle.cat_tree.specs.declared.program.Tree.{Tree}
pub use Rattle.cat_tree.specs.declared.program.Use.{Use}
pub use Rattle.cat_tree.specs.declared.program.Variable.{Variable}
pub use Rattle.cat_tree.specs.declared.program.VariableKind.{VariableKind}
pub use Rattle.cat_tree.specs.declared.program.VariableKind.TheVariants.{Context, ContextOutput, Input, InputOutput}
pub use Rattle.cat_tree.specs.declared.program.VariableKind.TheVariants.{Internal, Output}
