use Rattle.std.proofs.Common.{Ok, Err, sym}
use Rattle.std.proofs.lemmas.List.Sorted.{searched}
use Rattle.cat_audit_table.proofs.Placing.{ascend_at, place_found, none_between}
use Rattle.cat_audit_table.proofs.groups.place_in.Goals as goal

pub returns-in-Ok : goal.returns-in-Ok
returns-in-Ok c =
    let s = searched c.args.numbers.now c.args.number (Ok c.in-Ok.place) c.in-Ok.ensures.position
    (ascend_at c.args.numbers.now c.requires.ascend) in
    sym (place_found c.args.numbers.now c.requires.ascend c.in-Ok.place c.args.number s.0 s.1)

pub returns-in-Err : goal.returns-in-Err
returns-in-Err c =
    let s = searched c.args.numbers.now c.args.number (Err c.in-Err.field-0) c.in-Err.ensures.position
    (ascend_at c.args.numbers.now c.requires.ascend) in
    sym (none_between c.args.numbers.now c.args.number c.in-Err.field-0 s.1 s.2)
