use Rattle.std.proofs.Common.{rules}
use Rattle.cat_json.proofs.reading.+read.Goals as goal

pub enumeration_in-bare_case-requires : goal.enumeration_in-bare_case-requires
enumeration_in-bare_case-requires t c =
    (c.declarations_are_sound.ensures.enumerations c.args.enumeration c.in-Some.enumeration.now (search rules)).counted

pub enumeration_in-only_case-requires : goal.enumeration_in-only_case-requires
enumeration_in-only_case-requires t c =
    let counted = (c.declarations_are_sound.ensures.enumerations c.args.enumeration c.in-Some.enumeration.now
    (search rules)).counted in
    search rules
