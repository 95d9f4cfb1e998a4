use Rattle.std.proofs.Common.{◌≡◌, ◌≢◌, ◌∙◌, ◌+◌, ◌-◌, ◌<◌, ◌≤◌, ℕ, List, Some, length, take, drop, ap, arith, sym}
use Rattle.std.specs.List.{prefix_len}
use Rattle.std.proofs.lemmas.Str.{IsCharBoundary-before_ascii, IsCharBoundary-after_ascii}
use Rattle.cat_image.specs.inside.Reads.{is_other}
use Rattle.cat_image.proofs.FeedLemmas.{byte_there, cut_here, not_cut}
use Rattle.cat_image.proofs.words.at_byte.Goals as goal

counted : (place byte : ℕ) (bytes text : List ℕ) → place ≡ prefix_len (is_other byte) bytes → bytes ≡ text
    → prefix_len (is_other byte) text ≡ place
counted place byte bytes text count same = ap (prefix_len (is_other byte)) (sym same) ∙ sym count

inside : (place byte : ℕ) (bytes text : List ℕ) → place ≤ length bytes → bytes ≡ text → place ≢ length text
    → place < length text
inside place byte bytes text within same other =
    let long = ap length same in omega (arith, within, long, other)

pub returns-then-place-text : goal.returns-then-place-text
returns-then-place-text c =
    let text = c.args.text.now in
    let count = counted _ c.args.byte _ text c.first_of-place.ensures.place c.as_bytes.ensures.value in
    sym (not_cut c.args.byte text (omega (arith, count, c.if-place-text.true)))

pub range-requires-clause-end_boundary : goal.range-requires-clause-end_boundary
range-requires-clause-end_boundary c =
    let text = c.args.text.now in
    let place = c.first_of-place.result in
    let count = counted _ c.args.byte _ text c.first_of-place.ensures.place c.as_bytes.ensures.value in
    let less =
    inside _ c.args.byte _ text c.first_of-place.ensures.within c.as_bytes.ensures.value c.if-place-text.false in
    let there = byte_there c.args.byte text place count less in
    IsCharBoundary-before_ascii text place less (omega (arith, there, c.requires))

pub range_from-requires : goal.range_from-requires
range_from-requires c = λ some.
    let text = c.args.text.now in
    let place = c.first_of-place.result in
    let count = counted _ c.args.byte _ text c.first_of-place.ensures.place c.as_bytes.ensures.value in
    let less =
    inside _ c.args.byte _ text c.first_of-place.ensures.within c.as_bytes.ensures.value c.if-place-text.false in
    let there = byte_there c.args.byte text place count less in
    IsCharBoundary-after_ascii text place c.utf8.text less (omega (arith, there, c.requires))

pub returns : goal.returns
returns c =
    let text = c.args.text.now in
    let count = counted _ c.args.byte _ text c.first_of-place.ensures.place c.as_bytes.ensures.value in
    let less =
    inside _ c.args.byte _ text c.first_of-place.ensures.within c.as_bytes.ensures.value c.if-place-text.false in
    let place = c.first_of-place.result in
    let all : place - 0 ≡ place = omega arith in
    rw (c.range.ensures.value, c.range_from.ensures.value)
    (ap (λ (k : ℕ). Some (take k text, drop (place + 1) text)) all
    ∙ sym (cut_here c.args.byte text place count less))
