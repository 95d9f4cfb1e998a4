use Rattle.std.proofs.Common.{◌≡◌, ◌++◌, length, string_bytes}
use Rattle.std.specs.Prelude.{reverse}
use Rattle.cat_json.specs.Paths.{next_texts, path_text}
use Rattle.cat_json.proofs.path.Path.text.Given as goal

abbrev pub decreases-loop-step : goal.decreases-loop-step
decreases-loop-step l = length l.steps

abbrev pub invariant-loop-step : goal.invariant-loop-step
invariant-loop-step l = string_bytes l.text ++ next_texts (reverse l.steps) ≡ path_text l.fn.self
