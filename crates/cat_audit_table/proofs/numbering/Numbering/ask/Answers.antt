use Rattle.std.proofs.Common.{refl}
use Rattle.cat_audit_table.specs.Numbered.{items_at, question_at}
use Rattle.cat_audit_table.proofs.Adding.{adds_atom}
use Rattle.cat_audit_table.proofs.numbering.Numbering.ask.Goals as goal

pub returns : goal.returns
returns c =
    adds_atom (items_at c.args.here.now) (question_at c.args.here.now c.args.expr.now c.args.dim c.args.cut)
    c.args.self.now (record { terms = c.number.new.self; atoms = c.number-2.new.self }) c.in_ok-term.term
    c.in_ok-atom.atom (c.in_ok-term.ensures c.args.cut)
    (c.in_ok-atom.ensures (question_at c.args.here.now c.args.expr.now c.args.dim c.args.cut) refl)
