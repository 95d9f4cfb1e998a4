use Rattle.std.proofs.Common.{◌≡◌, ℕ, List, ◌++◌, sym, subst, ap, ◌∙◌}
use Rattle.unicode_ident.specs.Ident.{is_xid_continue}
use Rattle.cat_lex.specs.Words.{double_keywords}
use Rattle.cat_lex.specs.inside.Tables.{begins_pair}
use Rattle.cat_lex.proofs.Chars.{after_split}
use Rattle.cat_lex.proofs.Lengths.{alone}
use Rattle.cat_lex.proofs.reader.pair.Goals as goal

pub returns-then-not-begins_pair : goal.returns-then-not-begins_pair
returns-then-not-begins_pair c =
    alone c.args.text.now c.args.rest.now
    (ap (begins_pair double_keywords) (sym c.front_of-first.ensures)
    ∙ sym c.begins_pair.ensures
    ∙ c.if-not-begins_pair.true)

pub front_of-requires : goal.front_of-requires
front_of-requires c =
    let second = c.after_white_space-second.result.now in
    let P : List ℕ → Type 0 = λ rest. (front : List ℕ) × (second ≡ front ++ rest) in
    subst P (sym c.after_word-end.ensures) (after_split is_xid_continue second c.after_white_space-second.utf8)
