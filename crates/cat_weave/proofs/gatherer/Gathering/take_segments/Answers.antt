use Rattle.std.proofs.Common.{ℕ, List, ◌∷◌, Err, subst}
use Rattle.std.proofs.lemmas.Result.{err_from_is_err_and}
use Rattle.cat_io.specs.Shelf.{Shelved}
use Rattle.cat_weave.specs.Causes.{HasCause}
use Rattle.cat_weave.specs.inside.UnderWay.{gathered_of, AreToCome}
use Rattle.cat_weave.proofs.gatherer.Gathering.take_segments.Goals as goal

pub returns-in_err-take_segment-clause-cause : goal.returns-in_err-take_segment-clause-cause
returns-in_err-take_segment-clause-cause g c =
    let p = err_from_is_err_and c.from_residual.result c.from_residual.ensures.1 in
    let new = g.S.Shelf.state c.take_segment.new.shelf in
    let cause = subst (λ (s : Shelved). (main : List ℕ)
    → AreToCome s.content main (gathered_of c.loop-segment.self) (c.in-Some.segment ∷ c.next.new.self)
    → HasCause s new main (Err c.in_err-take_segment.field-0.0)) c.loop-segment.invariant.same
    c.in_err-take_segment.ensures.cause in
    rw (p.1, p.2) (λ main come. cause main (rw c.in-Some.ensures at (c.loop-segment.invariant.goes_on main come)))
