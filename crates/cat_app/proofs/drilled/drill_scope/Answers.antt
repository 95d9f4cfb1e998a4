use Rattle.std.proofs.Common.{rules, ◌≡◌, ◌<◌, ℤ, FitsSigned, length, of_z, refl, sym, subst, to_z, to_z-of_z, w64}
use Rattle.cat_value.specs.declared.decls.Decls.{Decls}
use Rattle.cat_app.specs.Runs.{AreRunsOf, HaveSum}
use Rattle.cat_app.specs.declared.runs.Ran.{Ran}
use Rattle.cat_app.specs.Drills.{bands_request}
use Rattle.cat_app.specs.inside.Says.{SaysOutcome}
use Rattle.cat_app.proofs.DrillReplies.{a_line, a_refused_run, a_stop}
use Rattle.cat_app.proofs.Replies.{if_ok, named_within}
use Rattle.cat_app.proofs.drilled.drill_scope.Goals as goal

pub run_all-requires-clause-scope : goal.run_all-requires-clause-scope
run_all-requires-clause-scope c =
    named_within bands_request.scope c.args.scope c.args.built.now.program.decls.scopes c.requires.named

pub audit_bands-requires-clause-scope : goal.audit_bands-requires-clause-scope
audit_bands-requires-clause-scope c =
    named_within bands_request.scope c.args.scope c.args.built.now.program.decls.scopes c.requires.named

pub audit_bands-requires-clause-sum : goal.audit_bands-requires-clause-sum
audit_bands-requires-clause-sum c =
    let fits : FitsSigned w64 c.in-Sum.sum = search rules in
    let back : to_z w64 (of_z w64 c.in-Sum.sum) ≡ c.in-Sum.sum = simp to_z-of_z refl in
    subst (λ (z : ℤ). HaveSum c.args.built.now.program c.args.scope c.args.bands 1000 z) (sym back)
    (subst (λ (r : Ran). AreRunsOf c.args.built.now.program c.args.scope c.args.bands r) c.in-Sum.is
    c.in_ok-ran.ensures)

pub tell-requires : goal.tell-requires
tell-requires c = subst (λ (ds : Decls). c.args.scope < length ds.scopes) (sym c.decls.ensures)
    (named_within bands_request.scope c.args.scope c.args.built.now.program.decls.scopes c.requires.named)

pub returns-in-Sum : goal.returns-in-Sum
returns-in-Sum c = if_ok c.audit_bands.result c.audit_bands.ensures (λ reply says.
    a_line c.args.bands c.args.source.now c.args.built.now c.args.scope c.requires.gathered c.requires.built
    c.requires.named reply says)

pub returns-in-Stopped : goal.returns-in-Stopped
returns-in-Stopped c = if_ok c.tell.result c.tell.ensures (λ reply says.
    a_stop c.args.bands c.args.source.now c.args.built.now c.args.scope c.requires.gathered c.requires.built
    c.requires.named c.in-Stopped.outcome reply
    (subst (λ (r : Ran). AreRunsOf c.args.built.now.program c.args.scope c.args.bands r) c.in-Stopped.is
    c.in_ok-ran.ensures)
    (subst (λ (ds : Decls). SaysOutcome ds c.args.scope c.args.source.now.files c.in-Stopped.outcome reply)
    c.decls.ensures says))

pub returns-in-Refused : goal.returns-in-Refused
returns-in-Refused c = if_ok c.refuse_input.result c.refuse_input.ensures (λ reply says.
    a_refused_run c.args.bands c.args.source.now c.args.built.now c.args.scope c.requires.gathered c.requires.built
    c.requires.named c.in-Refused.refusal reply
    (subst (λ (r : Ran). AreRunsOf c.args.built.now.program c.args.scope c.args.bands r) c.in-Refused.is
    c.in_ok-ran.ensures) says)
