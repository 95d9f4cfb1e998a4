use Rattle.std.proofs.Common.{◌≡◌, drop, length}
use Rattle.std.specs.List.{list_all}
use Rattle.cat_code.specs.Jumps.{is_within}
use Rattle.cat_code.specs.Valid.{keep_rules, places_entered}
use Rattle.cat_verify.proofs.numbers.refuse_numbers.Given as goal

abbrev pub invariant-loop-at : goal.invariant-loop-at
invariant-loop-at l = record {
  within : list_all (is_within l.tables (length l.code)) (drop l.at l.code)
      ≡ list_all (is_within l.tables (length l.code)) l.code;
  rules : keep_rules l.tables l.code (places_entered l.tables l.code) l.at (drop l.at l.code)
      ≡ keep_rules l.tables l.code (places_entered l.tables l.code) 0 l.code;
}
