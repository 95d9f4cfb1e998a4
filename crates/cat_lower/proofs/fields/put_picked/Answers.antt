use Rattle.std.proofs.Common.{rules, ◌≡◌, ◌∙◌, ℕ, List, map, length, ap, sym}
use Rattle.std.proofs.lemmas.List.{drop_all, drop_more, length-map}
use Rattle.cat_lower.specs.Pieces.{indices, picked}
use Rattle.cat_lower.proofs.Grows.{same_code}
use Rattle.cat_lower.proofs.Rests.{step_on, end_on}
use Rattle.cat_lower.proofs.Picking.{picked_at, picked_by}
use Rattle.cat_lower.proofs.fields.put_picked.Goals as goal

pub loop-place-preserved : goal.loop-place-preserved
loop-place-preserved c = λ new. step_on _ _ _ new _ _ _ _
    (ap (λ (ps : List ℕ). picked_at c.args.local (length c.args.fields.now) ps)
    (drop_more c.as_slice-place-items.result.now c.loop-place.place-index 0 c.loop-place-test.true))
    c.loop-place.invariant c.in_ok-put_local.ensures

pub returns : goal.returns
returns c =
    let count = length c.args.fields.now in
    let numbers = map (λ f. f.field) c.args.fields.now in
    let items = c.as_slice-place-items.result.now in
    let long : count ≡ length numbers = sym (length-map c.args.fields.now (λ f. f.field)) in
    let told : picked_at c.args.local count items ≡ picked c.args.local numbers 0 count =
    ap (λ (ps : List ℕ). picked_at c.args.local count ps)
    (c.as_slice-place-items.ensures ∙ c.in_ok-places.ensures ∙ ap (λ (n : ℕ). indices 0 n 0 numbers) c.len.ensures)
    ∙ ap (λ (n : ℕ). picked_at c.args.local n (indices 0 count 0 numbers)) long
    ∙ picked_by c.args.local numbers 0 count in
    same_code _ _ _ _ told (end_on _ _ _ _
    (ap (λ (ps : List ℕ). picked_at c.args.local count ps) (drop_all c.loop-place.place-index items (search rules)))
    c.loop-place.invariant)
