use Rattle.cat_names.proofs.TypingLaws.{each_is_typed}
use Rattle.cat_names.proofs.laws.meanings_have_their_types.Goals as goal

pub returns : goal.returns
returns c scope e locals expected all h = each_is_typed c.args.decls.now c.declarations_are_sound.ensures scope e locals
    expected all h
