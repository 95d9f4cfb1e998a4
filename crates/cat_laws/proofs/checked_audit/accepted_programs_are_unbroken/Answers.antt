use Rattle.cat_laws.proofs.checked_audit.accepted_programs_are_unbroken.Goals as goal

pub returns : goal.returns
returns c pieces program is =
    let tree = is.program_is.spelled in
    let named = is.program_is.meant.meant.named in
    c.declared_names_are_unbroken.ensures pieces tree.tokens is.program_is.tree _ tree.lexed tree.spelled.spells
    named.declared
