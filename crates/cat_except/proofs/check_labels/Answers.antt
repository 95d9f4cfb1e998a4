use Rattle.std.proofs.Common.{◌∙◌, sym}
use Rattle.cat_except.specs.Faults.{unknown_labels, split_labels, ambiguous_exceptions}
use Rattle.cat_except.specs.inside.Finding.{groups_at_each}
use Rattle.cat_except.proofs.Whole.{first_is_one, none_at_all}
use Rattle.cat_except.proofs.check_labels.Goals as goal

pub returns-in-Some-clause-cause : goal.returns-in-Some-clause-cause
returns-in-Some-clause-cause c =
    first_is_one (unknown_labels (groups_at_each c.args.defs.now c.args.targets.now)) c.in-Some.pos
    (sym c.fault_in.ensures ∙ c.in-Some.is)

pub returns-in-Some-fault_in-clause-cause : goal.returns-in-Some-fault_in-clause-cause
returns-in-Some-fault_in-clause-cause c = (
  first_is_one (split_labels (groups_at_each c.args.defs.now c.args.targets.now)) c.in-Some-fault_in.pos
      (sym c.fault_in-2.ensures ∙ c.in-Some-fault_in.is),
  none_at_all (unknown_labels (groups_at_each c.args.defs.now c.args.targets.now))
      (sym c.fault_in.ensures ∙ c.in_default.is),
)

pub returns-in-Some-fault_in-2-clause-cause : goal.returns-in-Some-fault_in-2-clause-cause
returns-in-Some-fault_in-2-clause-cause c = (
  first_is_one (ambiguous_exceptions (groups_at_each c.args.defs.now c.args.targets.now)) c.in-Some-fault_in-2.pos
      (sym c.fault_in-3.ensures ∙ c.in-Some-fault_in-2.is),
  none_at_all (unknown_labels (groups_at_each c.args.defs.now c.args.targets.now))
      (sym c.fault_in.ensures ∙ c.in_default.is),
  none_at_all (split_labels (groups_at_each c.args.defs.now c.args.targets.now))
      (sym c.fault_in-2.ensures ∙ c.in_default-fault_in.is),
)

pub returns-in-None-clause-resolved : goal.returns-in-None-clause-resolved
returns-in-None-clause-resolved c =
    record {
      known = none_at_all (unknown_labels (groups_at_each c.args.defs.now c.args.targets.now))
          (sym c.fault_in.ensures ∙ c.in_default.is);
      unsplit = none_at_all (split_labels (groups_at_each c.args.defs.now c.args.targets.now))
          (sym c.fault_in-2.ensures ∙ c.in_default-fault_in.is);
      rooted = none_at_all (ambiguous_exceptions (groups_at_each c.args.defs.now c.args.targets.now))
          (sym c.fault_in-3.ensures ∙ c.in-None.is);
    }
