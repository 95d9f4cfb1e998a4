use Rattle.std.proofs.Common.{sym, arith}
use Rattle.std.proofs.lemmas.Option.{slice_get-get_or}
use Rattle.cat_verify.specs.declared.stamps.Stamps.TheVariants.{Nobody}
use Rattle.cat_verify.specs.inside.OwnerNumbers.{is_shared, IsSharedMark}
use Rattle.cat_verify.proofs.OneOf.{within_of}
use Rattle.cat_verify.proofs.WalkLemmas.{none_more, fails_at}
use Rattle.cat_verify.proofs.owners.refuse_shared.Goals as goal

pub returns-then-is_shared-clause-cause : goal.returns-then-is_shared-clause-cause
returns-then-is_shared-clause-cause c = (
  _,
  slice_get-get_or c.args.marks.now c.loop-at.at Nobody c.loop-at-test.true,
  sym c.if-is_shared.ensures,
)

pub loop-at-preserved : goal.loop-at-preserved
loop-at-preserved c =
    none_more (IsSharedMark c.args.marks.now) c.loop-at.at c.loop-at.invariant
    (fails_at is_shared c.args.marks.now c.loop-at.at Nobody (sym c.if-is_shared.ensures))

pub returns-clause-none : goal.returns-clause-none
returns-clause-none c = λ k is.
    let within = within_of c.args.marks.now k is.0 is.1 in
    let past = c.loop-at-test.false in
    c.loop-at.invariant k (omega (arith, within, past)) is
