use Rattle.std.proofs.Common.{◌≡◌, true, None, rules, sym, subst, ◌∙◌, List}
use Rattle.cat_region.specs.declared.dim.Dim.{Dim}
use Rattle.cat_region.specs.Regions.{is_cut_at, last_narrowing}
use Rattle.cat_region.proofs.SideLemmas.{none_last, last_undone, last_cut, sides_less}
use Rattle.cat_region.proofs.sides.undone.Goals as goal

pub returns-in_err-last-clause-undone : goal.returns-in_err-last-clause-undone
returns-in_err-last-clause-undone c = λ base path whole at.
    let none : c.from_residual.result ≡ None = search rules in
    let last : last_narrowing c.args.region.now.narrowings ≡ None = search rules in
    rw none (none_last base c.args.region.now c.args.room whole path last at)

pub returns-clause-undone : goal.returns-clause-undone
returns-clause-undone c = λ base path whole at.
    last_undone base c.args.region.now c.args.room whole path c.in_ok-last.last c.restore.new.self
    (λ same. c.if-room.false (c.room.ensures.value ∙ same)) (sym c.last.ensures ∙ c.in_ok-last.was) at
    c.restore.ensures.dims c.restore.ensures.narrowings c.restore.ensures.room

pub returns-clause-cut : goal.returns-clause-cut
returns-clause-cut c =
    subst (λ (dims : List Dim). is_cut_at dims c.in_ok-last.last.0 c.in_ok-last.last.1 ≡ true)
    (sym c.restore.ensures.dims)
    (last_cut c.args.region.now.dims c.args.region.now.narrowings c.in_ok-last.last
    (sym c.last.ensures ∙ c.in_ok-last.was) c.room.ensures.sound.narrowings)

pub returns-clause-sides : goal.returns-clause-sides
returns-clause-sides c =
    sides_less c.args.region.now.narrowings c.restore.new.self.narrowings c.in_ok-last.last
    (sym c.last.ensures ∙ c.in_ok-last.was) c.restore.ensures.narrowings
