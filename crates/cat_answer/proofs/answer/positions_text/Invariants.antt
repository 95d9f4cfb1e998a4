use Rattle.std.proofs.Common.{◌≡◌, ◌++◌, drop, string_bytes}
use Rattle.cat_answer.specs.Answer.{positions_text}
use Rattle.cat_answer.proofs.answer.positions_text.Given as goal

abbrev pub invariant-loop-pos : goal.invariant-loop-pos
invariant-loop-pos l =
    string_bytes l.text ++ positions_text l.files (drop l.pos-index l.positions) ≡ positions_text l.files l.positions
