-- Each part of a repetition takes a token at least.
use Rattle.std.proofs.Common.{refl}
use Rattle.cat_lex.specs.declared.words.Keyword.TheVariants as key
use Rattle.cat_lex.specs.declared.symbol.Symbol.TheVariants as symbol
use Rattle.cat_parse_expr.specs.declared.cue.Cue.TheVariants as cue
use Rattle.cat_parse.proofs.Common.{Node, behind_comma, typed_parts, field_parts, case_parts, variable_parts}
use Rattle.cat_parse.proofs.Common.{name_parts, use_parts, item_parts, Reader, lower, cue_self, is_word, typed_name}
use Rattle.cat_parse.proofs.Common.{field, a_case, a_variable, is_comma, comma, is_use, is_item, behind_use, a_use}
use Rattle.cat_parse.proofs.Common.{is_variable, is_dashes, an_item, ReadsExpressions}
use Rattle.cat_parse.proofs.Choices.{opens_word}
use Rattle.cat_parse.proofs.Leaves.{word_right}
use Rattle.cat_parse.proofs.Declarations.{Any, typed_right, field_right, case_right}
use Rattle.cat_parse.proofs.Leads.{name_right}
use Rattle.cat_parse.proofs.Listed.{any_word}
use Rattle.cat_parse.proofs.Variables.{behind_variable, variable_right}
use Rattle.cat_parse.proofs.BlockRows.{use_opens, use_right}
use Rattle.cat_parse.proofs.ItemRows.{behind_case, case_no_content, variable_opens, Filled, item_opens, item_right}
use Rattle.cat_parse.proofs.Repeats.{Shrinks, shrinks}

pub field_shrinks : Shrinks field
field_shrinks =
    shrinks 256 any_word (is_word key.Data) Any field_parts field
    (opens_word refl) (λ b. field_right 256 b any_word)

pub case_shrinks : Shrinks a_case
case_shrinks =
    shrinks 256 behind_case is_dashes Any case_parts a_case
    (opens_word (cue_self (cue.Sign symbol.MinusMinus)))
    (λ b. case_right 256 b behind_case case_no_content)

pub param_shrinks : Shrinks (comma typed_name)
param_shrinks =
    shrinks 256 any_word is_comma Any (behind_comma typed_parts) (comma typed_name)
    (opens_word (cue_self (cue.Sign symbol.Comma)))
    (λ b. word_right (cue.Sign symbol.Comma) (λ p. typed_right 256 b any_word))

pub name_shrinks : Shrinks (comma lower)
name_shrinks =
    shrinks 256 any_word is_comma Any (behind_comma name_parts) (comma lower)
    (opens_word (cue_self (cue.Sign symbol.Comma)))
    (λ b. word_right (cue.Sign symbol.Comma) (λ p. name_right 256 b any_word))

pub variable_shrinks : Shrinks a_variable
variable_shrinks = shrinks 256 behind_variable is_variable Any variable_parts a_variable variable_opens
    (variable_right 256)

pub use_shrinks : (ex : Reader Node) → ReadsExpressions ex → Shrinks (a_use ex)
use_shrinks ex right = shrinks 256 behind_use is_use Any use_parts (a_use ex) use_opens (use_right 256 ex right)

pub item_shrinks : (ex : Reader Node) → ReadsExpressions ex → Shrinks (an_item ex)
item_shrinks ex right = shrinks 256 is_item is_item Filled item_parts (an_item ex) item_opens (item_right 256 ex right)
