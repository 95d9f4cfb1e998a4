use Rattle.std.proofs.Common.{◌≡◌, ◌++◌, take}
use Rattle.std.specs.Prelude.{flat_map}
use Rattle.cat_names.specs.ScopeWords.{scope_words}
use Rattle.cat_check.proofs.words.+words.Given as goal

abbrev pub invariant-add_all-loop-part : goal.invariant-add_all-loop-part
invariant-add_all-loop-part l = l.words ≡ l.fn.words ++ flat_map scope_words (take l.part-index l.parts)

abbrev pub invariant-add_fields-loop-field : goal.invariant-add_fields-loop-field
invariant-add_fields-loop-field l =
    l.words ≡ l.fn.words ++ flat_map (λ f. scope_words f.value) (take l.field-index l.fields)

abbrev pub invariant-add_arms-loop-arm : goal.invariant-add_arms-loop-arm
invariant-add_arms-loop-arm l =
    l.words ≡ l.fn.words ++ flat_map (λ a. scope_words a.body) (take l.arm-index l.arms)
