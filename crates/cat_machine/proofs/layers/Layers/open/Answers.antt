use Rattle.std.proofs.Common.{◌≡◌, arith, length}
use Rattle.cat_machine.proofs.Layering.{nested_opened, opened, starting_at}
use Rattle.cat_machine.proofs.layers.Layers.open.Goals as goal

pub invariant_of-self-2 : goal.invariant_of-self-2
invariant_of-self-2 g c =
    let at_end : c.len-start.result ≡ length c.self.inside.items.items =
    omega (arith, c.len-start.ensures, c.self.inside.items.ok.0) in
    rw c.in_ok-push.ensures.ok
    (nested_opened (starting_at c.args.head c.len-start.result) c.self.inside.starts c.self.inside.items.items at_end
    c.self.invariant)

pub returns-clause-ok : goal.returns-clause-ok
returns-clause-ok g c =
    let at_end : c.len-start.result ≡ length c.self.inside.items.items =
    omega (arith, c.len-start.ensures, c.self.inside.items.ok.0) in
    rw (c.in_ok-push.ensures.ok, ← c.self.view_is)
    (opened (starting_at c.args.head c.len-start.result) c.self.inside.starts c.self.inside.items.items at_end)
