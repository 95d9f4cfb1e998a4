use Rattle.std.proofs.Common.{rules, ◌≡◌, List, [], ◌∷◌, subst}
use Rattle.cat_pos.specs.declared.pos.Piece.{Piece}
use Rattle.cat_lex.specs.Lexes.{Lexes}
use Rattle.cat_verify_tables.proofs.WordLemmas.{piece_of, word_reserved}
use Rattle.cat_verify_tables.proofs.names.token_of.Goals as goal

pub returns-in-Ok : goal.returns-in-Ok
returns-in-Ok c =
    let text = c.args.text.now in
    let pos = c.new-pos.result in
    let pieces : c.as_slice.result.now ≡ piece_of text pos ∷ [] = search rules in
    word_reserved text pos c.in-Ok.tokens c.utf8.text c.requires.word c.pieces_have_one_reading.ensures
    (subst (λ (ps : List Piece). Lexes ps c.in-Ok.tokens) pieces c.in-Ok.ensures.lexed)
