use Rattle.cat_weave.specs.inside.UnderWay.{gathered_of}
use Rattle.cat_weave.proofs.GatherLemmas.{code_goes_on, heading_goes_on, include_goes_on, on_ok, if_err}
use Rattle.cat_weave.proofs.BoundLemmas.{bounded_other, bounded_code, bounded_heading}
use Rattle.cat_weave.proofs.gatherer.Gathering.take_segment.Goals as goal

pub include-requires-clause-bounded : goal.include-requires-clause-bounded
include-requires-clause-bounded g c =
    bounded_other (gathered_of c.args.self.now) c.args.segment c.args.self.now.to_come c.requires

pub returns-in_ok-push-in-Code-clause-on : goal.returns-in_ok-push-in-Code-clause-on
returns-in_ok-push-in-Code-clause-on g c = record {
  bounded = bounded_code (gathered_of c.args.self.now) c.push.new.self c.in-Code.piece c.args.segment
      c.args.self.now.to_come c.in-Code.is c.in_ok-push-in-Code.ensures.ok c.requires;
  leads = λ main come. code_goes_on (g.S.Shelf.state c.args.shelf.now).content main (gathered_of c.args.self.now)
      c.push.new.self c.in-Code.piece c.args.segment c.args.self.now.to_come c.in-Code.is
      c.in_ok-push-in-Code.ensures.ok come;
}

pub returns-in_ok-push-in-Heading-clause-on : goal.returns-in_ok-push-in-Heading-clause-on
returns-in_ok-push-in-Heading-clause-on g c = record {
  bounded = bounded_heading (gathered_of c.args.self.now) c.push-in-Heading.new.self c.args.segment
      c.args.self.now.to_come c.requires;
  leads = λ main come. heading_goes_on (g.S.Shelf.state c.args.shelf.now).content main (gathered_of c.args.self.now)
      c.push-in-Heading.new.self c.len-pieces.result c.in-Heading.level c.in-Heading.text c.in-Heading.pos
      c.args.segment
      c.args.self.now.to_come c.in-Heading.is c.len-pieces.ensures c.in_ok-push-in-Heading.ensures.ok come;
}

pub returns-in-Include-clause-on : goal.returns-in-Include-clause-on
returns-in-Include-clause-on g c =
    on_ok c.include.result c.include.ensures.on (λ on. record {
      bounded = on.bounded;
      leads = λ main come. on.leads main (rw c.as_str.ensures (include_goes_on
          (g.S.Shelf.state c.args.shelf.now).content main (gathered_of c.args.self.now) c.in-Include.path
          c.in-Include.pos c.args.self.now.to_come (rw c.in-Include.is at come)));
    })

pub returns-in-Include-clause-cause : goal.returns-in-Include-clause-cause
returns-in-Include-clause-cause g c =
    if_err c.include.result c.include.ensures.cause (λ e cause main come. cause main (rw c.as_str.ensures
    (include_goes_on (g.S.Shelf.state c.args.shelf.now).content main (gathered_of c.args.self.now) c.in-Include.path
    c.in-Include.pos c.args.self.now.to_come (rw c.in-Include.is at come))))
