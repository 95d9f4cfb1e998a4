-- The words that the proofs here name, from one place. Declares nothing.
pub use Rattle.cat_lex.specs.declared.symbol.Symbol.{Symbol}
pub use Rattle.cat_lex.specs.declared.token.Token.{Token}
pub use Rattle.cat_lex.specs.declared.token.TokenKind.{TokenKind}
pub use Rattle.cat_lex.specs.declared.words.Keyword.{Keyword}
pub use Rattle.cat_parse_expr.specs.Causes.{HasCause, HasReachCause}
pub use Rattle.cat_parse_expr.specs.Steps.{ends_test, goes_on, goes_so, nothing_at, operated}
pub use Rattle.cat_parse_expr.specs.Climbing.{climb, primary}
pub use Rattle.cat_parse_expr.specs.Steps.{room_beside, selected, step, step_by, tested}
pub use Rattle.cat_parse_expr.specs.Cues.{base_of, cue_is, kind_of, lower_kind, lower_of, upper_kind, upper_of, word_of}
pub use Rattle.cat_parse_expr.specs.Cues.{«word»}
pub use Rattle.cat_parse_expr.specs.Followers.{MayFollow, is_asked, is_below, is_taken, is_with_pattern, looks_of}
pub use Rattle.cat_parse_expr.specs.Followers.{may_stand}
pub use Rattle.cat_parse_expr.specs.Literals.{is_unit, literal_kind, literal_of, placed, spanned, unit_kind}
pub use Rattle.cat_parse_expr.specs.Fronts.{GoesUpTo, IsSpelled, IsTooHigh}
pub use Rattle.cat_parse_expr.specs.Longest.{KeepsWhole, ReadsAsFar, Stood}
pub use Rattle.cat_parse_expr.specs.Measures.{closed, ending, form, leaf, no_arms, no_elements, no_fields, with_arm}
pub use Rattle.cat_parse_expr.specs.Measures.{with_element, with_field}
pub use Rattle.cat_parse_expr.specs.Openings.{follow_at, follow_of, opening_at, opening_of, stands}
pub use Rattle.cat_parse_expr.specs.Parts.{Lower, arguments, as_many, behind_comma}
pub use Rattle.cat_parse_expr.specs.Arms.{a_pattern, case_from, ends_arms}
pub use Rattle.cat_parse_expr.specs.Parts.{field_value, has_argument, has_field}
pub use Rattle.cat_parse_expr.specs.Arms.{further_arm, has_arm, has_arm_behind}
pub use Rattle.cat_parse_expr.specs.Parts.{is_lower, is_sign, key_word, next_argument, next_field, pair_word}
pub use Rattle.cat_parse_expr.specs.Arms.{next_arm}
pub use Rattle.cat_parse_expr.specs.Places.{Gives, IsWithin, left_behind}
pub use Rattle.cat_parse_expr.specs.Reach.{Found, before, front_found, reach_of}
pub use Rattle.cat_parse_expr.specs.Reader.{Fails, Parsed, Reader, Reads, after, behind_whole, by_word, fallen, heads}
pub use Rattle.cat_parse_expr.specs.Reader.{heads_second, hidden, hidden_in, latest, left_of, made_of, nothing, one}
pub use Rattle.cat_parse_expr.specs.Reader.{pure, too_high, turns, with_room, ◌⨟◌}
pub use Rattle.cat_parse_expr.specs.Right.{Agree, AgreePast, Alike, Begun, Is, IsRight, Says, Seen, Taken, Took}
pub use Rattle.cat_parse_expr.specs.Rightly.{AreRight, IsLow, IsMeasured, measured_of, operand_row}
pub use Rattle.cat_parse_expr.specs.Types.{a_type, base_at, is_list_of, type_after, typed}
pub use Rattle.cat_parse_expr.specs.declared.behind.Behind.{Behind}
pub use Rattle.cat_parse_expr.specs.declared.behind.Behind.TheVariants.{Field, Other}
pub use Rattle.cat_parse_expr.specs.declared.cue.Cue.{Cue}
pub use Rattle.cat_parse_expr.specs.declared.follow.Follow.{Follow}
pub use Rattle.cat_parse_expr.specs.declared.measured.MeasuredNodes.{MeasuredNodes}
pub use Rattle.cat_parse_expr.specs.declared.measured.MeasuredFields.{MeasuredFields}
pub use Rattle.cat_parse_expr.specs.declared.measured.MatchArms.{MatchArms}
pub use Rattle.cat_parse_expr.specs.declared.measured.Measured.{Measured}
pub use Rattle.cat_parse_expr.specs.declared.miss.Break.{Break}
pub use Rattle.cat_parse_expr.specs.declared.miss.Miss.{Miss}
pub use Rattle.cat_parse_expr.specs.declared.miss.Miss.TheVariants.{Broken, Memory}
pub use Rattle.cat_parse_expr.specs.declared.opening.Opening.{Opening}
pub use Rattle.cat_parse_expr.specs.declared.refusal.ParseRefusal.{ParseRefusal}
pub use Rattle.cat_pos.specs.Position.{pos_of}
pub use Rattle.cat_pos.specs.declared.pos.Pos.{Pos}
pub use Rattle.cat_tree.proofs.Exported.{arm_row, field_row, phrase_Binary, phrase_Call, phrase_Case, phrase_Combine}
pub use Rattle.cat_tree.proofs.Exported.{phrase_Content, phrase_Each, phrase_Field, phrase_If, phrase_List}
pub use Rattle.cat_tree.proofs.Exported.{phrase_Literal, phrase_Match, phrase_Name, phrase_Parens, phrase_Prefixed}
pub use Rattle.cat_tree.proofs.Exported.{phrase_ScopeCall, phrase_Structure, phrase_Sum, phrase_Test}
pub use Rattle.cat_tree.specs.Accumulation.{accumulation}
pub use Rattle.cat_tree.specs.Grammar.{phrase}
pub use Rattle.cat_tree.specs.Joined.{all, ◌▸◌}
pub use Rattle.cat_tree.specs.Literals.{base_kind, case_parts, lists_of, literal_parts, literal_rank, span_bound}
pub use Rattle.cat_tree.specs.Literals.{truth_word, type_parts, unit_word}
pub use Rattle.cat_tree.specs.Operators.{left_level, operator_kind, operator_level, prefix_level, prefix_parts}
pub use Rattle.cat_tree.specs.Phrase.{Anywhere, AreLevelled, AreSpelled, At, End, Inner, IsAt, IsLevelled, IsSpelling}
pub use Rattle.cat_tree.specs.Phrase.{Operand, Part, Parts, Phrase, Rank, Row, Stand, Stands, Terminal, Word}
pub use Rattle.cat_tree.specs.Phrase.{ends_in_form, ends_in_match, height, last_in_form, last_in_match, left_strength}
pub use Rattle.cat_tree.specs.Phrase.{right_strength, tallest}
pub use Rattle.cat_tree.specs.Rows.{arms, each_parts, elements, fields, pattern_parts}
pub use Rattle.cat_tree.specs.Spells.{Begins, IsFront, Spells, height_of}
pub use Rattle.cat_tree.specs.Wording.{first, if_some, key_at, left, lower, match_of, of_level, pair_at, part, sign}
pub use Rattle.cat_tree.specs.Wording.{symbol_at, then_, upper, ◌▹◌}
pub use Rattle.cat_tree.specs.declared.expression.Each.{Each}
pub use Rattle.cat_tree.specs.declared.expression.Node.{Node}
pub use Rattle.cat_tree.specs.declared.expression.Node.TheFolds.{ind-Node, map-Node, map-SurfaceArm, map-SurfaceField}
pub use Rattle.cat_tree.specs.declared.expression.Node.TheOpen.{Node-F, SurfaceArm-F, SurfaceField-F}
pub use Rattle.cat_tree.specs.declared.expression.Node.TheViews.{roll-SurfaceArm, roll-SurfaceField}
pub use Rattle.cat_tree.specs.declared.expression.Operator.{Operator}
pub use Rattle.cat_tree.specs.declared.expression.Pattern.{Pattern}
pub use Rattle.cat_tree.specs.declared.expression.Prefix.{Prefix}
pub use Rattle.cat_tree.specs.declared.expression.SurfaceArm.{SurfaceArm}
pub use Rattle.cat_tree.specs.declared.expression.SurfaceField.{SurfaceField}
pub use Rattle.cat_tree.specs.declared.expression.SurfaceLiteral.{SurfaceLiteral}
pub use Rattle.cat_tree.specs.declared.name.Base.{Base}
pub use Rattle.cat_tree.specs.declared.name.CaseName.{CaseName}
pub use Rattle.cat_tree.specs.declared.name.CaseName.TheVariants.{Bare, Qualified}
pub use Rattle.cat_tree.specs.declared.name.Name.{Name}
