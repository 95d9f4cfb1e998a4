use Rattle.std.proofs.Common.{◌≡◌, length}
use Rattle.std.specs.Str.{IsUtf8}
use Rattle.cat_lex.specs.inside.Reading.{after}
use Rattle.unicode_ident.specs.Ident.{is_xid_continue}
use Rattle.cat_lex.proofs.skip.after_word.Given as goal

abbrev pub invariant-loop-c : goal.invariant-loop-c
invariant-loop-c l = record {
  utf8 : IsUtf8 l.rest;
  after : after is_xid_continue l.rest ≡ after is_xid_continue l.text;
}

abbrev pub decreases-loop-c : goal.decreases-loop-c
decreases-loop-c l = length l.rest
