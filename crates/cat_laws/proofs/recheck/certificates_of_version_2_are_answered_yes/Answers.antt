use Rattle.cat_laws.proofs.Answered.{alone, certified}
use Rattle.cat_laws.proofs.recheck.certificates_of_version_2_are_answered_yes.Goals as goal

pub returns : goal.returns
returns c scope bytes short is =
    let program = c.args.program.now in record {
      certified = is;
      alone = alone program scope bytes c.audited_scopes_have_one_list_of_tables.ensures is;
      kept = λ why cause.
          c.certified_scopes_are_not_refused.ensures scope bytes why short (certified program scope bytes is) cause;
    }
