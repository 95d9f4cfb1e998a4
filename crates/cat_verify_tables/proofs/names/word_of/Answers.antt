use Rattle.std.proofs.Common.{sym, ◌∙◌}
use Rattle.std.specs.Char.{is_ascii_uppercase}
use Rattle.cat_lex.specs.Forms.{begins_name}
use Rattle.cat_verify_tables.proofs.WordLemmas.{is_spelled, no_text, no_start, no_end, lower_start, upper_start}
use Rattle.cat_verify_tables.proofs.WordLemmas.{other_start, no_keyword, some_keyword}
use Rattle.cat_verify_tables.proofs.names.word_of.Goals as goal

pub returns-in_default : goal.returns-in_default
returns-in_default c =
    let text = c.args.text.now in
    let none = c.in_default.ensures.split in (
      no_text is_ascii_uppercase text c.utf8.text none,
      λ w. no_text begins_name text c.utf8.text none w.0,
    )

pub returns-then-not-are_continuing : goal.returns-then-not-are_continuing
returns-then-not-are_continuing c =
    let text = c.args.text.now in
    let same = c.in-Some.ensures.chars in
    let other = sym c.are_continuing.ensures ∙ c.if-not-are_continuing.true in (
      no_end is_ascii_uppercase text _ _ c.utf8.text same other,
      λ w. no_end begins_name text _ _ c.utf8.text same other w.0,
    )

pub returns-then-is_ascii_uppercase : goal.returns-then-is_ascii_uppercase
returns-then-is_ascii_uppercase c =
    let text = c.args.text.now in
    let same = c.in-Some.ensures.chars in
    let upper = sym c.is_ascii_uppercase.ensures.value ∙ c.if-is_ascii_uppercase.true in (
      is_spelled is_ascii_uppercase text _ _ c.utf8.text same upper
          (sym c.are_continuing.ensures ∙ c.if-not-are_continuing.false),
      λ w. no_start begins_name text _ _ c.utf8.text same (upper_start _ upper) w.0,
    )

pub returns-then-not-is_xid_start : goal.returns-then-not-is_xid_start
returns-then-not-is_xid_start c =
    let text = c.args.text.now in
    let same = c.in-Some.ensures.chars in
    let lower = sym c.is_ascii_uppercase.ensures.value ∙ c.if-is_ascii_uppercase.false in
    let other = sym c.is_xid_start.ensures.value ∙ c.if-not-is_xid_start.true in (
      no_start is_ascii_uppercase text _ _ c.utf8.text same lower,
      λ w. no_start begins_name text _ _ c.utf8.text same (other_start _ other) w.0,
    )

pub is_keyword-requires : goal.is_keyword-requires
is_keyword-requires c =
    is_spelled begins_name c.args.text.now _ _ c.utf8.text c.in-Some.ensures.chars
    (lower_start _ (sym c.is_ascii_uppercase.ensures.value ∙ c.if-is_ascii_uppercase.false)
    (sym c.is_xid_start.ensures.value ∙ c.if-not-is_xid_start.false))
    (sym c.are_continuing.ensures ∙ c.if-not-are_continuing.false)

pub returns-then-keyword : goal.returns-then-keyword
returns-then-keyword c =
    let text = c.args.text.now in
    let lower = sym c.is_ascii_uppercase.ensures.value ∙ c.if-is_ascii_uppercase.false in (
      no_start is_ascii_uppercase text _ _ c.utf8.text c.in-Some.ensures.chars lower,
      λ w. some_keyword _ (sym c.in_ok-keyword.ensures ∙ c.if-keyword.true) w.1,
    )

pub returns : goal.returns
returns c =
    let text = c.args.text.now in
    let same = c.in-Some.ensures.chars in
    let lower = sym c.is_ascii_uppercase.ensures.value ∙ c.if-is_ascii_uppercase.false in (
      (
        is_spelled begins_name text _ _ c.utf8.text same
            (lower_start _ lower (sym c.is_xid_start.ensures.value ∙ c.if-not-is_xid_start.false))
            (sym c.are_continuing.ensures ∙ c.if-not-are_continuing.false),
        no_keyword _ (sym c.in_ok-keyword.ensures ∙ c.if-keyword.false),
      ),
      no_start is_ascii_uppercase text _ _ c.utf8.text same lower,
    )
