use Rattle.std.proofs.Common.{◌-◌, length}
use Rattle.cat_lex.specs.declared.words.Keyword.TheVariants as key
use Rattle.cat_parse.proofs.Common.{is_word, field}
use Rattle.cat_parse.proofs.Turns.{Stands, one_and_more}
use Rattle.cat_parse.proofs.parts.structure_fields.Given as goal

abbrev pub invariant-loop-alloc : goal.invariant-loop-alloc
invariant-loop-alloc l =
    Stands (is_word key.Data) field (one_and_more field (is_word key.Data) field) l.tokens l.at l.place l.fields

abbrev pub decreases-loop-alloc : goal.decreases-loop-alloc
decreases-loop-alloc l = length l.tokens - l.place
