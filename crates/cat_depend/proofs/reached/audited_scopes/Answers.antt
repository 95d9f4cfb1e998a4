use Rattle.std.proofs.Common.{rules, ◌≡◌, ◌<◌, ◌++◌, ℕ, ◌+◌, Bool, true, false, List, [], ◌∷◌, drop, length, get_or}
use Rattle.std.proofs.Common.{subst, sym, ap, ◌∙◌, arith}
use Rattle.std.specs.Prelude.{filter}
use Rattle.std.proofs.lemmas.List.{get_or_default}
use Rattle.cat_scope.specs.declared.programs.Program.{Program}
use Rattle.cat_scope.specs.WellFormed.{IsWellFormed}
use Rattle.cat_depend.specs.Reached.{calls_in}
use Rattle.cat_depend.specs.inside.Marks.{MarkReached, is_marked}
use Rattle.cat_depend.proofs.Orderly.{counted}
use Rattle.cat_depend.proofs.Turns.{kept_next, listed_below}
use Rattle.cat_depend.proofs.reached.audited_scopes.Goals as goal

below_marks : (program : Program) → ∥ IsWellFormed program.decls program.bodies program.scope_order ∥₁
    → (listed : List ℕ) → listed ≡ program.scope_order → (i : ℕ) → i < length listed → (scope : ℕ) (marks : List Bool)
    → MarkReached (calls_in program) scope marks → get_or listed i 0 < length marks
below_marks program formed listed e i within scope marks are =
    let same = counted program.decls program.bodies program.scope_order formed in
    let below : get_or listed i 0 < length program.bodies =
    subst (λ (ns : List ℕ). get_or ns i 0 < length program.bodies) (sym e)
    (listed_below program formed i (subst (λ (ns : List ℕ). i < length ns) e within)) in
    omega (arith, below, same, are.counted)

pub index-requires : goal.index-requires
index-requires c =
    let below = below_marks c.args.program.now c.programs_are_well_formed.ensures
    c.scope_order-number-items.result.now c.scope_order-number-items.ensures c.loop-number.number-index
    c.loop-number-test.true c.args.scope c.in_ok-marks.marks.items c.in_ok-marks.ensures in
    omega (arith, below, c.in_ok-marks.marks.ok.0)

pub loop-number-preserved : goal.loop-number-preserved
loop-number-preserved c =
    let program = c.args.program.now in
    let i = c.loop-number.number-index in
    let e = c.scope_order-number-items.ensures in
    let n = get_or c.scope_order-number-items.result.now i 0 in
    let below = below_marks program c.programs_are_well_formed.ensures c.scope_order-number-items.result.now e i
    c.loop-number-test.true c.args.scope c.in_ok-marks.marks.items c.in_ok-marks.ensures in
    let read : c.index.result.now ≡ true = search rules in
    let there : is_marked c.in_ok-marks.marks.items n ≡ true =
    get_or_default c.in_ok-marks.marks.items n false c.index.result.now below ∙ sym c.index.ensures ∙ read in
    subst (λ (ns : List ℕ). ns ++ filter (is_marked c.in_ok-marks.marks.items) (drop (i + 1) program.scope_order)
    ≡ filter (is_marked c.in_ok-marks.marks.items) program.scope_order) (sym c.in_ok-push.ensures.ok)
    (subst (λ (m : ℕ). (c.loop-number.scopes ++ m ∷ [])
    ++ filter (is_marked c.in_ok-marks.marks.items) (drop (i + 1) program.scope_order)
    ≡ filter (is_marked c.in_ok-marks.marks.items) program.scope_order) (ap (λ (ns : List ℕ). get_or ns i 0) (sym e))
    (kept_next (is_marked c.in_ok-marks.marks.items) c.loop-number.scopes program.scope_order i
    (subst (λ (ns : List ℕ). i < length ns) e c.loop-number-test.true) c.loop-number.invariant
    (subst (λ (ns : List ℕ). is_marked c.in_ok-marks.marks.items (get_or ns i 0) ≡ true) e there)))
