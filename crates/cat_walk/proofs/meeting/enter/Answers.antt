use Rattle.std.proofs.Common.{ap, ◌∙◌}
use Rattle.cat_guard.proofs.Exported.{on_ok}
use Rattle.cat_walk.specs.LeafPlaces.{lists_of}
use Rattle.cat_walk.specs.inside.Meetings.{to_come}
use Rattle.cat_walk.proofs.MeetingLemmas.{comes_in}
use Rattle.cat_walk.proofs.meeting.enter.Goals as goal

pub returns : goal.returns
returns c =
    let lists = lists_of c.args.tree.now in
    on_ok c.push.result c.push.ensures.ok (λ same. ap (to_come lists) same
    ∙ comes_in lists c.requires.earlier c.args.places.now c.args.name c.requires.name)
