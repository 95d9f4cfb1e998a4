use Rattle.std.proofs.Common.{◌≡◌, true, false, refl, rules}
use Rattle.cat_region.specs.declared.cut.Cut.{Cut}
use Rattle.cat_audit_table.specs.Numbered.{items_at, question_at}
use Rattle.cat_audit_table.proofs.TermNumbers.{old_term, new_term}
use Rattle.cat_audit_table.proofs.term_table.TermTable.number.Goals as goal

pub returns-then-not-fresh : goal.returns-then-not-fresh
returns-then-not-fresh c = λ (cut : Cut).
    let old : c.in_ok-number.fresh ≡ false = search rules in
    old_term (items_at c.args.here.now) (question_at c.args.here.now c.args.expr.now c.args.dim cut) c.args.self.now
    (record { terms = c.args.self.now.terms; keys = c.number.new.self }) c.in_ok-number.number c.in_ok-number.fresh
    c.in_ok-key.key (c.in_ok-key.ensures cut) c.in_ok-number.ensures.number c.in_ok-number.ensures.fresh
    c.in_ok-number.ensures.keys old refl

pub returns : goal.returns
returns c = λ (cut : Cut).
    let new : c.in_ok-number.fresh ≡ true = search rules in
    new_term (items_at c.args.here.now) (question_at c.args.here.now c.args.expr.now c.args.dim cut) c.args.self.now
    (record { terms = c.push.new.self; keys = c.number.new.self }) c.in_ok-number.number c.in_ok-number.fresh
    c.in_ok-key.key (c.in_ok-key.ensures cut) c.in_ok-number.ensures.number c.in_ok-number.ensures.fresh
    c.in_ok-number.ensures.keys c.in_ok-term.term new (c.in_ok-term.ensures cut) c.in_ok-push.ensures.ok
