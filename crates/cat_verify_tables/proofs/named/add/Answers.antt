use Rattle.std.proofs.Common.{◌∙◌, refl, sym}
use Rattle.std.proofs.lemmas.Bool.{not-true, not-false}
use Rattle.cat_verify_tables.proofs.NameLemmas.{added, not_one_of, one_of}
use Rattle.cat_verify_tables.proofs.named.add.Goals as goal

pub returns-clause-added : goal.returns-clause-added
returns-clause-added c =
    added c.args.names.now c.add.new.self c.args.name.now c.args.number c.in_ok-fresh.ensures.added
    (sym c.in_ok-fresh.ensures.fresh ∙ c.if-not-fresh.false)

pub returns-clause-fresh : goal.returns-clause-fresh
returns-clause-fresh c =
    not_one_of c.args.names.now c.args.name.now (not-true _ (sym c.in_ok-fresh.ensures.fresh ∙ c.if-not-fresh.false))

pub returns-then-not-fresh-clause-cause : goal.returns-then-not-fresh-clause-cause
returns-then-not-fresh-clause-cause c = (
  refl,
  one_of c.args.names.now c.args.name.now (not-false _ (sym c.in_ok-fresh.ensures.fresh ∙ c.if-not-fresh.true)),
)
