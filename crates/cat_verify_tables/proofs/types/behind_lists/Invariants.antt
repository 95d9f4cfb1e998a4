use Rattle.std.proofs.Common.{◌≡◌}
use Rattle.std.specs.Str.{IsUtf8}
use Rattle.cat_verify_tables.specs.inside.TypeNaming.{listed}
use Rattle.cat_verify_tables.proofs.types.behind_lists.Given as goal

abbrev pub invariant-loop-lists : goal.invariant-loop-lists
invariant-loop-lists l = record {
  utf8 : IsUtf8 l.rest;
  listed : l.text ≡ listed l.lists l.rest;
}
