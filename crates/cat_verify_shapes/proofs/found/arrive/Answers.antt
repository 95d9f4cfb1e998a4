use Rattle.std.proofs.Common.{arith, length, ◌<◌}
use Rattle.cat_verify_shapes.proofs.SpotTests.{arriving_so, read_at}
use Rattle.cat_verify_shapes.proofs.found.arrive.Goals as goal

pub returns : goal.returns
returns c =
    let found = c.args.found.now.items in
    let within : c.args.place < length found =
    omega (arith, c.if-place-len.false, c.len.ensures, c.args.found.now.ok.0) in
    arriving_so found c.args.place c.args.shape c.replace-spot.result c.replace-spot.new.dest c.in_ok-found.field-0
    (read_at found c.args.place c.replace-spot.result c.index_mut.result.now within c.index_mut.ensures.value
    c.replace-spot.ensures.value)
    c.in_ok-found.ensures
