use Rattle.std.proofs.Common.{rules, ◌≡◌, true, false, List, map, ◌∙◌, sym, ap, arith}
use Rattle.std.proofs.lemmas.List.{drop_all}
use Rattle.cat_calc.specs.declared.term.DefaultTerm.{DefaultTerm}
use Rattle.cat_code.specs.declared.instr.Instr.TheVariants as instr
use Rattle.cat_lower.specs.Laying.{Coded, one, all_code, over}
use Rattle.cat_lower.specs.Terms.{condition_code, under, is_never, checked_code, term_code}
use Rattle.cat_lower.specs.Told.{term_standing}
use Rattle.cat_lower.proofs.Grows.{then_ok, grown_then, same_code, same_ok}
use Rattle.cat_lower.proofs.Patches.{jumped}
use Rattle.cat_lower.proofs.Rests.{next, step_on, end_on}
use Rattle.cat_lower.proofs.TermsOf.{term_Empty, kept_term, kept_checked, kept_otherwise, otherwise_over}
use Rattle.cat_lower.proofs.TermsOf.{default_framed}
use Rattle.cat_lower.proofs.terms.+term.Goals as goal

pub emit_term-returns-in-Empty-clause-grown : goal.emit_term-returns-in-Empty-clause-grown
emit_term-returns-in-Empty-clause-grown t c = term_Empty _ _ _ c.in-Empty.is

pub emit_where-returns-clause-grown : goal.emit_where-returns-clause-grown
emit_where-returns-clause-grown t c =
    let at = term_standing c.args.here.now c.args.aim.now c.args.locals.now in
    let test : Coded = condition_code at c.args.test.now in
    let rest : Coded = checked_code at c.args.checked (term_code at c.args.consequence.now) in
    grown_then _ _ _ test (over (λ t. instr.JumpFalse t) rest) c.in_ok-emit_shared.ensures.grown
    (jumped _ _ _ (λ t. instr.JumpFalse t) _ rest _ _
    (grown_then _ _ _ (one (instr.JumpFalse 0)) rest c.in_ok-test.ensures.grown
    (kept_checked _ _ c.args.here.now c.args.aim.now c.args.consequence.now c.args.checked _ _
    c.in_ok-emit_shared.ensures.kept
    c.in_ok-emit_checked.ensures.grown))
    c.in_ok-test.ensures.place c.in_ok-end.ensures c.patch.ensures)

pub emit_framed-returns-clause-grown : goal.emit_framed-returns-clause-grown
emit_framed-returns-clause-grown t c =
    then_ok _ _ _ _ _ _ c.in_ok-put.ensures (then_ok _ _ _ _ _ _ c.in_ok-emit_exceptions.ensures.grown
    (then_ok _ _ _ _ _ _ c.in_ok-put-2.ensures (then_ok _ _ _ _ _ _
    (kept_otherwise _ _ c.args.here.now c.args.aim.now _ _ _ _ c.in_ok-emit_exceptions.ensures.kept
    c.in_ok-emit_otherwise.ensures.grown) c.put-3.ensures)))

pub emit_exceptions-loop-exception-preserved : goal.emit_exceptions-loop-exception-preserved
emit_exceptions-loop-exception-preserved t c =
    let at = term_standing c.args.here.now c.args.aim.now c.args.locals.now in
    record {
      grown = λ new. step_on _ _ _ new _ _ _ _
          (ap (λ (ts : List DefaultTerm). all_code (map (term_code at) ts))
          (next c.args.exceptions.now c.as_slice-exception-items.result.now c.loop-exception.exception-index
          c.exception-item.result
          c.as_slice-exception-items.ensures c.loop-exception-test.true c.exception-item.is))
          c.loop-exception.invariant.grown
          (kept_term _ _ c.args.here.now c.args.aim.now _ _ _ c.loop-exception.invariant.kept
          c.in_ok-emit_term.ensures.grown);
      kept = c.in_ok-emit_term.ensures.kept ∙ c.loop-exception.invariant.kept;
    }

pub emit_exceptions-returns-clause-grown : goal.emit_exceptions-returns-clause-grown
emit_exceptions-returns-clause-grown t c =
    let at = term_standing c.args.here.now c.args.aim.now c.args.locals.now in
    end_on _ _ _ _
    (ap (λ (ts : List DefaultTerm). all_code (map (term_code at) ts))
    (drop_all c.loop-exception.exception-index c.args.exceptions.now (search rules))) c.loop-exception.invariant.grown

pub emit_otherwise-returns-clause-grown : goal.emit_otherwise-returns-clause-grown
emit_otherwise-returns-clause-grown t c =
    let at = term_standing c.args.here.now c.args.aim.now c.args.locals.now in
    let part : Coded = under at c.args.justification.now (checked_code at true (term_code at c.args.consequence.now)) in
    let so : is_never c.args.justification.now ≡ false = search rules in
    same_code _ _ _ _ (otherwise_over at c.args.justification.now (term_code at c.args.consequence.now) so)
    (jumped _ _ _ (λ t. instr.Held t) _ part _ _
    (grown_then _ _ _ (one (instr.Held 0)) part c.in_ok-held.ensures.grown c.in_ok-emit_justified.ensures.grown)
    c.in_ok-held.ensures.place c.in_ok-end.ensures c.patch.ensures)

pub emit_default-returns-clause-grown : goal.emit_default-returns-clause-grown
emit_default-returns-clause-grown t c =
    let at = term_standing c.args.here.now c.args.aim.now c.args.locals.now in
    let some = c.in-len1-up.len_at_least in
    same_ok _ _ _ _ _
    (default_framed at c.args.exceptions.now c.as_slice.result.now c.first-item.result _ c.args.justification.now
    (term_code at c.args.consequence.now)
    c.as_slice.ensures (omega (arith, some)) c.first-item.is (sym c.if-not-wants_frame.ensures))
    c.emit_framed.ensures.grown
