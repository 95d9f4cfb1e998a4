use Rattle.std.proofs.Common.{◌≡◌, ◌∙◌, ℕ, List, Err, subst}
use Rattle.std.proofs.lemmas.Result.{err_from_is_err_and}
use Rattle.cat_io.specs.Shelf.{Shelved}
use Rattle.cat_weave.specs.Causes.{HasCause}
use Rattle.cat_weave.specs.inside.UnderWay.{gathered_of, AreToCome}
use Rattle.cat_weave.proofs.GatherLemmas.{main_taken, main_refused, whole_cause}
use Rattle.cat_weave.proofs.ToldLemmas.{answer_told}
use Rattle.cat_weave.proofs.gatherer.gather.Goals as goal

pub returns-in_err-take-clause-cause : goal.returns-in_err-take-clause-cause
returns-in_err-take-clause-cause g c =
    let p = err_from_is_err_and c.from_residual.result c.from_residual.ensures.1 in
    rw (p.1, p.2) (main_refused (g.S.Shelf.state c.args.shelf.now) (g.S.Shelf.state c.take.new.shelf) c.args.main.now
    (gathered_of c.new-gathering.result) c.in_err-take.field-0.0 c.new-gathering.ensures.gathered
    c.in_err-take.ensures.refused)

pub returns-in_err-take_segments-clause-cause : goal.returns-in_err-take_segments-clause-cause
returns-in_err-take_segments-clause-cause g c =
    let same : g.S.Shelf.state c.take.new.shelf ≡ g.S.Shelf.state c.args.shelf.now = c.in_ok-take.ensures.taken.same in
    let come = main_taken (g.S.Shelf.state c.args.shelf.now).content c.args.main.now
    (gathered_of c.new-gathering.result) (gathered_of c.take.new.self) c.new-gathering.result.to_come
    c.take.new.self.to_come c.new-gathering.ensures.gathered c.new-gathering.ensures.none
    c.in_ok-take.ensures.taken.takes in
    let new = g.S.Shelf.state c.take_segments.new.shelf in
    let cause = subst (λ (s : Shelved). (main : List ℕ)
    → AreToCome s.content main (gathered_of c.take.new.self) c.take.new.self.to_come
    → HasCause s new main (Err c.in_err-take_segments.field-0.0)) same c.in_err-take_segments.ensures.cause in
    let p = err_from_is_err_and c.from_residual-in_err-take_segments.result
    c.from_residual-in_err-take_segments.ensures.1 in
    rw (p.1, p.2) (cause c.args.main.now come)

pub returns-clause-cause : goal.returns-clause-cause
returns-clause-cause g c =
    let same : g.S.Shelf.state c.take.new.shelf ≡ g.S.Shelf.state c.args.shelf.now = c.in_ok-take.ensures.taken.same in
    let come = main_taken (g.S.Shelf.state c.args.shelf.now).content c.args.main.now
    (gathered_of c.new-gathering.result) (gathered_of c.take.new.self) c.new-gathering.result.to_come
    c.take.new.self.to_come c.new-gathering.ensures.gathered c.new-gathering.ensures.none
    c.in_ok-take.ensures.taken.takes in
    let on = rw same at c.in_ok-take_segments.ensures.on in
    let shelf = g.S.Shelf.state c.args.shelf.now in
    whole_cause shelf (g.S.Shelf.state c.take_segments.new.shelf) c.args.main.now (gathered_of c.take_segments.new.self)
    (c.in_ok-take_segments.ensures.same ∙ same) (on.leads c.args.main.now come)

pub returns-in_err-take-clause-answer : goal.returns-in_err-take-clause-answer
returns-in_err-take-clause-answer g c =
    answer_told (g.S.Shelf.state c.args.shelf.now) (g.S.Shelf.state c.take.new.shelf) c.args.main.now
    c.from_residual.result (returns-in_err-take-clause-cause g c)

pub returns-in_err-take_segments-clause-answer : goal.returns-in_err-take_segments-clause-answer
returns-in_err-take_segments-clause-answer g c =
    answer_told (g.S.Shelf.state c.args.shelf.now) (g.S.Shelf.state c.take_segments.new.shelf) c.args.main.now
    c.from_residual-in_err-take_segments.result (returns-in_err-take_segments-clause-cause g c)

pub returns-clause-answer : goal.returns-clause-answer
returns-clause-answer g c =
    answer_told (g.S.Shelf.state c.args.shelf.now) (g.S.Shelf.state c.take_segments.new.shelf) c.args.main.now _
    (returns-clause-cause g c)
