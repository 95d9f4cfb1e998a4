use Rattle.std.proofs.Common.{ℕ, List, ◌∙◌, refl, sym, ap, rules}
use Rattle.cat_lex.specs.declared.words.Keyword.{Keyword}
use Rattle.cat_lex.specs.Words.{look_up, keywords}
use Rattle.cat_lex.proofs.Lengths.{among, sought, of_no_length, lengths, keywords_have_lengths}
use Rattle.cat_lex.proofs.tables.keyword.Goals as goal

pub returns-in-2 : goal.returns-in-2
unfolding keywords
returns-in-2 c =
    c.look_up.ensures
    ∙ among 2 _ c.as_bytes-letters.result.now c.args.word.now refl c.in-2.is c.as_bytes-letters.ensures.value

pub returns-in-3 : goal.returns-in-3
unfolding keywords
returns-in-3 c =
    c.look_up-in-3.ensures
    ∙ among 3 _ c.as_bytes-letters.result.now c.args.word.now refl c.in-3.is c.as_bytes-letters.ensures.value

pub returns-in-4 : goal.returns-in-4
unfolding keywords
returns-in-4 c =
    c.look_up-in-4.ensures
    ∙ among 4 _ c.as_bytes-letters.result.now c.args.word.now refl c.in-4.is c.as_bytes-letters.ensures.value

pub returns-in-5 : goal.returns-in-5
unfolding keywords
returns-in-5 c =
    c.look_up-in-5.ensures
    ∙ among 5 _ c.as_bytes-letters.result.now c.args.word.now refl c.in-5.is c.as_bytes-letters.ensures.value

pub returns-in-6 : goal.returns-in-6
unfolding keywords
returns-in-6 c =
    c.look_up-in-6.ensures
    ∙ among 6 _ c.as_bytes-letters.result.now c.args.word.now refl c.in-6.is c.as_bytes-letters.ensures.value

pub returns-in-7 : goal.returns-in-7
unfolding keywords
returns-in-7 c =
    c.look_up-in-7.ensures
    ∙ among 7 _ c.as_bytes-letters.result.now c.args.word.now refl c.in-7.is c.as_bytes-letters.ensures.value

pub returns-in-8 : goal.returns-in-8
unfolding keywords
returns-in-8 c =
    c.look_up-in-8.ensures
    ∙ among 8 _ c.as_bytes-letters.result.now c.args.word.now refl c.in-8.is c.as_bytes-letters.ensures.value

pub returns-in-9 : goal.returns-in-9
unfolding keywords
returns-in-9 c =
    c.look_up-in-9.ensures
    ∙ among 9 _ c.as_bytes-letters.result.now c.args.word.now refl c.in-9.is c.as_bytes-letters.ensures.value

pub returns-in-10 : goal.returns-in-10
unfolding keywords
returns-in-10 c =
    c.look_up-in-10.ensures
    ∙ among 10 _ c.as_bytes-letters.result.now c.args.word.now refl c.in-10.is c.as_bytes-letters.ensures.value

pub returns-in-11 : goal.returns-in-11
unfolding keywords
returns-in-11 c =
    c.look_up-in-11.ensures
    ∙ among 11 _ c.as_bytes-letters.result.now c.args.word.now refl c.in-11.is c.as_bytes-letters.ensures.value

pub returns-in_default : goal.returns-in_default
returns-in_default c =
    let word = c.args.word.now in
    sym (sought keywords word
    ∙ ap (λ (entries : List (List ℕ × Keyword)). look_up entries word)
    (of_no_length _ lengths keywords keywords_have_lengths (search (rules, c.in_default))))
