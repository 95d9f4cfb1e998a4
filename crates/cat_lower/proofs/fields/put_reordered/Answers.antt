use Rattle.std.proofs.Common.{◌≡◌, ◌∙◌, ℕ, ap, sym, map, length}
use Rattle.std.proofs.lemmas.List.{length-map}
use Rattle.cat_code.specs.declared.instr.Instr.TheVariants as instr
use Rattle.cat_lower.specs.Laying.{one}
use Rattle.cat_lower.specs.Pieces.{bind_all, picked}
use Rattle.cat_lower.proofs.Grows.{then_ok, same_code, same_ok}
use Rattle.cat_lower.proofs.fields.put_reordered.Goals as goal

pub returns : goal.returns
returns c =
    let numbers = map (λ f. f.field) c.args.fields.now in
    let long : length c.args.fields.now ≡ length numbers = sym (length-map c.args.fields.now (λ f. f.field)) in
    let count : c.in_ok-count.count ≡ length numbers = c.in_ok-count.ensures ∙ c.len.ensures ∙ long in
    let binds = same_code _ _ _ _ (ap (λ (n : ℕ). bind_all n) (c.len-2.ensures ∙ long)) c.in_ok-put_binds.ensures in
    let names = same_code _ _ _ _ (ap (λ (n : ℕ). picked c.args.local numbers 0 n) long) c.in_ok-put_picked.ensures in
    let drops = same_code _ _ _ _ (ap (λ (n : ℕ). one (instr.Drop n)) count) c.in_ok-put.ensures in
    let packs = same_ok _ _ _ _ _ (ap (λ (n : ℕ). one (instr.Pack n)) count) c.put-2.ensures in
    then_ok _ _ _ _ _ _ binds (then_ok _ _ _ _ _ _ names (then_ok _ _ _ _ _ _ drops packs))
