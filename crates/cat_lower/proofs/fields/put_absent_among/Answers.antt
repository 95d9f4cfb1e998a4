use Rattle.std.proofs.Common.{◌≡◌, ◌∙◌, ◌&&◌, not, ℕ, Bool, List, map, length, get_or, ap, arith}
use Rattle.std.specs.Prelude.{nat_lt}
use Rattle.std.proofs.lemmas.List.{drop_all}
use Rattle.cat_value.specs.declared.declaration.ItemDecl.{ItemDecl}
use Rattle.cat_value.specs.Inputs.{must_be_given}
use Rattle.cat_scope.specs.Names.{is_in}
use Rattle.cat_lower.specs.Pieces.{indices, pass_absent, absent_code}
use Rattle.cat_lower.proofs.Grows.{same_code}
use Rattle.cat_lower.proofs.Rests.{rest_from, step_on, end_on}
use Rattle.cat_lower.proofs.Picking.{length_indices, given_at}
use Rattle.cat_lower.proofs.fields.put_absent_among.Goals as goal

pub at-requires : goal.at-requires
at-requires c =
    let long : length c.as_slice-place-items.result.now ≡ length c.args.items.now =
    ap length (c.as_slice-place-items.ensures ∙ c.in_ok-places.ensures)
    ∙ length_indices 0 c.len.result 0 (map (λ f. f.field) c.args.fields.now) ∙ c.len.ensures in
    omega (arith, long, c.loop-number-test.true)

pub loop-number-preserved : goal.loop-number-preserved
loop-number-preserved c =
    let i = c.loop-number.number in
    let item = c.at.result.now in
    let items = c.as_slice-place-items.result.now in
    let given = map (λ f. f.field) c.args.fields.now in
    let places : items ≡ indices 0 (length c.args.items.now) 0 given =
    c.as_slice-place-items.ensures ∙ c.in_ok-places.ensures ∙ ap (λ (n : ℕ). indices 0 n 0 given) c.len.ensures in
    let long : length items ≡ length c.args.items.now =
    ap length places ∙ length_indices 0 (length c.args.items.now) 0 given in
    let told : nat_lt (get_or items i 0) c.len-in-loop-number.result ≡ is_in i given =
    ap (λ (n : ℕ). nat_lt (get_or items i 0) n) c.len-in-loop-number.ensures
    ∙ given_at (length c.args.items.now) i (get_or items i 0) c.args.fields.now
    (omega (arith, long, c.loop-number-test.true))
    (ap (λ (ps : List ℕ). get_or ps i 0) places) in
    λ new. step_on _ _ _ new _ _ _ _
    (ap (λ (all : List ItemDecl). pass_absent i given all) (rest_from c.args.items.now i item c.at.ensures))
    c.loop-number.invariant
    (same_code _ _ _ _ (ap (λ (b : Bool). absent_code (must_be_given item.kind && item.condition && not b) i) told)
    c.in_ok-put_where_absent.ensures)

pub returns : goal.returns
returns c =
    let long : length c.as_slice-place-items.result.now ≡ length c.args.items.now =
    ap length (c.as_slice-place-items.ensures ∙ c.in_ok-places.ensures)
    ∙ length_indices 0 c.len.result 0 (map (λ f. f.field) c.args.fields.now) ∙ c.len.ensures in
    end_on _ _ _ _
    (ap (λ (items : List ItemDecl). pass_absent c.loop-number.number (map (λ f. f.field) c.args.fields.now) items)
    (drop_all c.loop-number.number c.args.items.now (omega (arith, long, c.loop-number-test.false))))
    c.loop-number.invariant
