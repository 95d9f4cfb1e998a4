use Rattle.std.proofs.Common.{◌≡◌, ◌≤◌, min, drop}
use Rattle.std.specs.Char.{is_ascii_digit}
use Rattle.std.specs.List.{filter}
use Rattle.std.specs.Str.Parse.{digits_value_after}
use Rattle.cat_lex.specs.Values.{number_of}
use Rattle.cat_lex.proofs.values.capped_number.Given as goal

abbrev pub invariant-loop-byte : goal.invariant-loop-byte
invariant-loop-byte l = record {
  number : min (digits_value_after 10 l.number (filter is_ascii_digit (drop l.byte-index l.word)))
      0x1_0000_0000_0000_0000 ≡ min (number_of l.word) 0x1_0000_0000_0000_0000;
  low : l.number ≤ 0x1_0000_0000_0000_0000;
}
