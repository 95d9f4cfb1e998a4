use Rattle.std.proofs.Common.{inl}
use Rattle.cat_app.proofs.Audits.{has_body}
use Rattle.cat_app.proofs.Replies.{if_ok}
use Rattle.cat_app.proofs.checked.checked.Goals as goal

pub certified-requires-clause-counted : goal.certified-requires-clause-counted
certified-requires-clause-counted c =
    let program = c.args.built.now.program in record {
      definitions = c.accepted_programs_are_counted.ensures.definitions c.args.source.now.pieces program
          c.requires.built.accepted;
      cases = c.accepted_programs_are_counted.ensures.cases c.args.source.now.pieces program
          c.requires.built.accepted;
    }

pub certified-requires-clause-scope : goal.certified-requires-clause-scope
certified-requires-clause-scope c =
    let program = c.args.built.now.program in
    has_body program.decls program.bodies program.scope_order c.args.scope c.programs_are_well_formed.ensures
    c.requires.scope

pub returns-in-Ok : goal.returns-in-Ok
returns-in-Ok c = if_ok c.say_yes.result c.say_yes.ensures (λ reply says. inl (
  says.0,
  record {
    over = _;
    over_is = c.in-Ok.ensures.over;
    no_gap = c.in-Ok.ensures.no_gap;
    text_is = says.1;
  },
))
