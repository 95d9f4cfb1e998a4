use Rattle.std.proofs.Common.{◌≡◌, ℕ, List, ◌++◌, sym, subst}
use Rattle.unicode_ident.specs.Ident.{is_xid_continue}
use Rattle.cat_lex.proofs.Chars.{after_split, word_read_none}
use Rattle.cat_lex.proofs.reader.word.Goals as goal

pub pair-requires : goal.pair-requires
pair-requires c =
    let text = c.args.text.now in
    let P : List ℕ → Type 0 = λ rest. (front : List ℕ) × (text ≡ front ++ rest) in
    subst P (sym c.after_word-rest.ensures) (after_split is_xid_continue text c.utf8.text)

pub returns-in_default : goal.returns-in_default
returns-in_default c = word_read_none _ c.in_default.ensures.split
