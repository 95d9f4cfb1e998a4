use Rattle.std.proofs.Common.{◌≡◌, ◌≤◌, ◌++◌, length, arith, rules}
use Rattle.std.proofs.lemmas.Grind.{common_steps}
use Rattle.cat_weave.specs.Gathered.{limit_after}
use Rattle.cat_weave.specs.inside.UnderWay.{gathered_of}
use Rattle.cat_weave.proofs.BoundLemmas.{bounded_taken}
use Rattle.cat_weave.proofs.gatherer.Gathering.take.Goals as goal

pub returns-clause-bounded : goal.returns-clause-bounded
returns-clause-bounded g c =
    let bytes = c.in_ok-bytes.bytes.items in
    let size : c.len.result ≡ length bytes = first_of (search rules, omega arith, grind (arith, common_steps)) in
    let after : c.put_in_front.new.self ≡ c.in_ok-segments.segments ++ c.args.self.now.to_come =
    first_of (search rules, cc) in
    let short : length bytes ≤ limit_after c.args.self.now.bytes =
    omega (arith, c.in_ok-bytes.ensures.1.short, c.min-limit.ensures) in
    let within = rw (c.deref.ensures.value, c.in_ok-number.ensures.number) at c.in_ok-segments.ensures.within in
    bounded_taken (gathered_of c.args.self.now) c.args.name.now bytes c.add.new.self c.len.result
    c.in_ok-segments.segments
    c.args.self.now.to_come c.put_in_front.new.self c.in_ok-number.ensures.ok size after short within c.requires.room
    c.requires.bounded
