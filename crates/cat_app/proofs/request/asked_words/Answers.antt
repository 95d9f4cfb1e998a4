use Rattle.std.proofs.Common.{subst}
use Rattle.std.specs.Str.{IsUtf8}
use Rattle.cat_app.proofs.NameLines.{lined}
use Rattle.cat_app.proofs.request.asked_words.Goals as goal

pub invariant_of-result : goal.invariant_of-result
invariant_of-result c = record {
  line = lined c.args.line.file.now (subst IsUtf8 c.as_bytes.ensures.value c.as_bytes.ensures.utf8)
      (cc (c.as_bytes.ensures.value, c.contains.ensures.value, c.if-contains.false));
}
