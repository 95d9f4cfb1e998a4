use Rattle.cat_depend.proofs.Reaching.{are_closed, each_below, each_reached, stand_behind, stand_once}
use Rattle.cat_depend.proofs.laws.audited_scopes_have_what_they_call.Goals as goal

pub returns : goal.returns
returns c =
    let program = c.args.program.now in
    let formed = c.programs_are_well_formed.ensures in
    record {
      closed = λ scope scopes are. are_closed program formed scope scopes are;
      behind = λ scope scopes are. stand_behind program formed scope scopes are;
      once = λ scope scopes are. stand_once program formed scope scopes are;
      reached = λ scope scopes are. each_reached program formed scope scopes are;
      numbers = λ scope scopes are. each_below program formed scope scopes are;
    }
