use Rattle.std.proofs.Common.{rules, ◌≡◌, ◌+◌, ℕ, true, false, List, ◌∷◌, drop, ap}
use Rattle.std.proofs.lemmas.List.{drop_all}
use Rattle.cat_value.specs.declared.declaration.ItemDecl.{ItemDecl}
use Rattle.cat_value.specs.Inputs.{is_output}
use Rattle.cat_code.specs.declared.instr.Instr.TheVariants as instr
use Rattle.cat_lower.specs.Laying.{one}
use Rattle.cat_lower.specs.Scopes.{outputs_code}
use Rattle.cat_lower.proofs.Grows.{same_code}
use Rattle.cat_lower.proofs.Rests.{next, step_on, skip_on, end_on}
use Rattle.cat_lower.proofs.ItemRests.{no_output, an_output}
use Rattle.cat_lower.proofs.scopes.put_outputs.Goals as goal

pub loop-number-preserved-then-not-is_output : goal.loop-number-preserved-then-not-is_output
loop-number-preserved-then-not-is_output c =
    let items : List ItemDecl = c.args.items.now in
    let n = c.loop-number.number in
    let item = c.item-item.result in
    let other : is_output item.kind ≡ false = search rules in
    let left : drop n items ≡ item ∷ drop (n + 1) items =
    next items c.as_slice-item-items.result.now n item c.as_slice-item-items.ensures c.loop-number-test.true
    c.item-item.is in
    λ new. skip_on _ _ new _ _ _
    (no_output n (drop n items) (drop (n + 1) items) item left other) c.loop-number.invariant

pub loop-number-preserved : goal.loop-number-preserved
loop-number-preserved c =
    let items : List ItemDecl = c.args.items.now in
    let n = c.loop-number.number in
    let item = c.item-item.result in
    let output : is_output item.kind ≡ true = search rules in
    let left : drop n items ≡ item ∷ drop (n + 1) items =
    next items c.as_slice-item-items.result.now n item c.as_slice-item-items.ensures c.loop-number-test.true
    c.item-item.is in
    λ new. step_on _ _ _ new _ (one (instr.Slot n)) _ _
    (an_output n (drop n items) (drop (n + 1) items) item left output) c.loop-number.invariant
    (same_code _ _ _ _ (ap (λ (m : ℕ). one (instr.Slot m)) c.in_ok-slot.ensures) c.in_ok-put.ensures)

pub returns : goal.returns
returns c =
    end_on _ _ _ _
    (ap (λ (items : List ItemDecl). outputs_code c.loop-number.number items)
    (drop_all c.loop-number.number c.args.items.now (search rules))) c.loop-number.invariant
