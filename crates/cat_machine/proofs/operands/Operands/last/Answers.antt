use Rattle.std.proofs.Common.{◌≡◌, ◌≤◌, ◌∙◌, ◌-◌, ap, arith, length, reverse}
use Rattle.std.proofs.lemmas.List.{length-reverse}
use Rattle.cat_machine.proofs.Reversing.{slice_last}
use Rattle.cat_machine.proofs.operands.Operands.last.Goals as goal

pub returns : goal.returns
returns c =
    let seen : reverse c.deref.result.now ≡ c.args.self.now = ap reverse c.deref.ensures.value ∙ c.self.view_is in
    let few = c.requires in
    let enough : c.args.n ≤ length c.deref.result.now =
    omega (arith, few, ap length seen, length-reverse c.deref.result.now) in
    slice_last c.args.n (c.len.result - c.args.n) c.deref.result.now c.args.self.now enough
    (omega (arith, c.len.ensures, c.deref.ensures.len)) seen
