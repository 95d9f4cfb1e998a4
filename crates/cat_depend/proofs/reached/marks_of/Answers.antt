use Rattle.std.proofs.Common.{rules, ◌≡◌, ◌<◌, ℕ, ◌-◌, Bool, IfSome, true, false, All, List, [], drop, length, get_or}
use Rattle.std.proofs.Common.{replicate, set, slice_get, subst, sym, ap, ◌∙◌, arith}
use Rattle.std.proofs.lemmas.List.{drop_all, get_or_default, with_items_is}
use Rattle.cat_scope.specs.declared.defs.Body.{Body}
use Rattle.cat_depend.specs.Reached.{calls_in}
use Rattle.cat_depend.specs.inside.Marks.{is_marked, marked}
use Rattle.cat_depend.proofs.Marking.{IsUnderWay, all_marked, begins}
use Rattle.cat_depend.proofs.Orderly.{counted, orderly}
use Rattle.cat_depend.proofs.Turns.{all_within, below_bodies, below_marks, marked_on}
use Rattle.cat_depend.proofs.reached.marks_of.Goals as goal

pub loop-at-init : goal.loop-at-init
loop-at-init c =
    let program = c.args.program.now in
    let none : drop (length c.scope_order-order.result.now) program.scope_order ≡ [] =
    drop_all (length c.scope_order-order.result.now) program.scope_order
    (omega (arith, ap length c.scope_order-order.ensures)) in
    let items : c.in_ok-marks.marks.items ≡ replicate (length program.bodies) false = search rules in
    let same = counted program.decls program.bodies program.scope_order c.programs_are_well_formed.ensures in
    subst (λ (back : List ℕ). IsUnderWay (calls_in program) c.args.scope back
    (set c.in_ok-marks.marks.items c.args.scope true)) (sym none)
    (subst (λ (bs : List Bool). IsUnderWay (calls_in program) c.args.scope [] (set bs c.args.scope true)) (sym items)
    (begins (calls_in program) (length program.bodies) c.args.scope (sym same) c.requires))

pub index-requires : goal.index-requires
index-requires c =
    let within = c.loop-at.auto.at in
    let e = c.scope_order-order.ensures in
    let below : get_or c.scope_order-order.result.now (c.loop-at.at - 1) 0 < length c.loop-at.marks.items =
    subst (λ (ns : List ℕ). get_or ns (c.loop-at.at - 1) 0 < length c.loop-at.marks.items) (sym e)
    (below_marks c.args.program.now c.programs_are_well_formed.ensures c.args.scope c.loop-at.at c.loop-at-test.true
    (omega (arith, within, ap length e)) c.loop-at.marks.items c.loop-at.invariant) in
    omega (arith, below, c.loop-at.marks.ok.0)

pub calls-requires : goal.calls-requires
calls-requires c =
    let within = c.loop-at.auto.at in
    let e = c.scope_order-order.ensures in
    subst (λ (ns : List ℕ). get_or ns (c.loop-at.at - 1) 0 < length c.args.program.now.bodies) (sym e)
    (below_bodies c.args.program.now c.programs_are_well_formed.ensures c.args.scope c.loop-at.at c.loop-at-test.true
    (omega (arith, within, ap length e)) c.loop-at.marks.items c.loop-at.invariant)

pub mark_all-requires : goal.mark_all-requires
mark_all-requires c =
    let within = c.loop-at.auto.at in
    let e = c.scope_order-order.ensures in
    let told = subst (λ (ns : List ℕ). IfSome (slice_get c.args.program.now.bodies (get_or ns (c.loop-at.at - 1) 0))
    (λ (body : Body). c.calls.result.now ≡ body.calls)) e c.calls.ensures in
    subst (λ (bs : List Bool). All (λ (m : ℕ). m < length bs) c.calls.result.now) (sym c.deref_mut.ensures.value)
    (all_within c.args.program.now c.programs_are_well_formed.ensures c.args.scope c.loop-at.at c.loop-at-test.true
    (omega (arith, within, ap length e)) c.loop-at.marks.items c.loop-at.invariant c.calls.result.now told)

pub loop-at-preserved : goal.loop-at-preserved
loop-at-preserved c =
    let within = c.loop-at.auto.at in
    let e = c.scope_order-order.ensures in
    let told = subst (λ (ns : List ℕ). IfSome (slice_get c.args.program.now.bodies (get_or ns (c.loop-at.at - 1) 0))
    (λ (body : Body). c.calls.result.now ≡ body.calls)) e c.calls.ensures in
    let n = get_or c.scope_order-order.result.now (c.loop-at.at - 1) 0 in
    let below : n < length c.loop-at.marks.items =
    subst (λ (ns : List ℕ). get_or ns (c.loop-at.at - 1) 0 < length c.loop-at.marks.items) (sym e)
    (below_marks c.args.program.now c.programs_are_well_formed.ensures c.args.scope c.loop-at.at c.loop-at-test.true
    (omega (arith, within, ap length e)) c.loop-at.marks.items c.loop-at.invariant) in
    let read : c.index.result.now ≡ true = search rules in
    let there : is_marked c.loop-at.marks.items n ≡ true =
    get_or_default c.loop-at.marks.items n false c.index.result.now below ∙ sym c.index.ensures ∙ read in
    let marks_are : c.mark_all.new.marks ≡ marked c.loop-at.marks.items c.calls.result.now =
    c.mark_all.ensures ∙ ap (λ (bs : List Bool). marked bs c.calls.result.now) c.deref_mut.ensures.value in
    subst (λ (bs : List Bool). IsUnderWay (calls_in c.args.program.now) c.args.scope
    (drop (c.loop-at.at - 1) c.args.program.now.scope_order) bs)
    (sym (with_items_is c.loop-at.marks c.mark_all.new.marks (c.mark_all.auto.marks ∙ c.deref_mut.ensures.len)
    ∙ marks_are))
    (marked_on c.args.program.now c.programs_are_well_formed.ensures c.args.scope c.loop-at.at c.loop-at-test.true
    (omega (arith, within, ap length e)) c.loop-at.marks.items c.loop-at.invariant c.calls.result.now told
    (subst (λ (ns : List ℕ). is_marked c.loop-at.marks.items (get_or ns (c.loop-at.at - 1) 0) ≡ true) e there))

pub returns : goal.returns
returns c =
    let program = c.args.program.now in
    let done : c.loop-at.at ≡ 0 = let over = c.loop-at-test.false in omega (arith, over) in
    all_marked (calls_in program) program.scope_order
    (orderly program.decls program.bodies program.scope_order c.programs_are_well_formed.ensures) c.args.scope
    c.loop-at.marks.items
    (subst (λ (m : ℕ). IsUnderWay (calls_in program) c.args.scope (drop m program.scope_order) c.loop-at.marks.items)
    done c.loop-at.invariant)
