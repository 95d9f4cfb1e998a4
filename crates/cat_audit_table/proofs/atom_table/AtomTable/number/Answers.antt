use Rattle.std.proofs.Common.{◌≡◌, true, false, refl, rules}
use Rattle.cat_guard.specs.Questions.{Question}
use Rattle.std.proofs.Common.{ap, sym, ◌∙◌}
use Rattle.cat_audit_keys.specs.Atoms.{atom_key}
use Rattle.cat_audit_table.proofs.AtomNumbers.{old_atom, new_atom}
use Rattle.cat_audit_table.proofs.atom_table.AtomTable.number.Goals as goal

pub returns-then-not-fresh : goal.returns-then-not-fresh
returns-then-not-fresh c = λ (q : Question) cut_is.
    let old : c.in_ok-number.fresh ≡ false = search rules in
    old_atom q c.args.term c.args.self.now (record { atoms = c.args.self.now.atoms; keys = c.number.new.self })
    c.in_ok-number.number c.in_ok-number.fresh c.in_ok-key.key
    (c.in_ok-key.ensures ∙ ap (atom_key c.args.term) (sym cut_is)) c.in_ok-number.ensures.number
    c.in_ok-number.ensures.fresh c.in_ok-number.ensures.keys old refl

pub returns : goal.returns
returns c = λ (q : Question) cut_is.
    let new : c.in_ok-number.fresh ≡ true = search rules in
    new_atom q c.args.term c.args.self.now (record { atoms = c.push.new.self; keys = c.number.new.self })
    c.in_ok-number.number c.in_ok-number.fresh c.in_ok-key.key
    (c.in_ok-key.ensures ∙ ap (atom_key c.args.term) (sym cut_is)) c.in_ok-number.ensures.number
    c.in_ok-number.ensures.fresh c.in_ok-number.ensures.keys c.args.cut cut_is new c.in_ok-push.ensures.ok
