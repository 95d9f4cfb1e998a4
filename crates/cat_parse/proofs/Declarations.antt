-- The readers of fields, cases and variables are right.
use Rattle.std.proofs.Common.{◌≡◌, ℕ, Bool, true, false, Option, Some, None, refl, ap}
use Rattle.cat_lex.specs.declared.token.TokenKind.TheVariants as kind
use Rattle.cat_lex.specs.declared.words.Keyword.TheVariants as key
use Rattle.cat_lex.specs.declared.symbol.Symbol.TheVariants as symbol
use Rattle.cat_tree.specs.declared.name.Type as types
use Rattle.cat_parse_expr.specs.declared.cue.Cue.TheVariants as cue
use Rattle.cat_parse.proofs.Common.{TokenKind, Name, End, Word, Anywhere, type_parts, typed_parts, field_parts}
use Rattle.cat_parse.proofs.Common.{content_parts, case_parts, IsRightTo, typed_name, field, content, is_content}
use Rattle.cat_parse.proofs.Common.{a_case}
use Rattle.cat_parse.proofs.Choices.{OptionFits, opens_word, optional_right}
use Rattle.cat_parse.proofs.Leaves.{word_right, lower_right, upper_right}
use Rattle.cat_parse.proofs.Types.{a_type_right}
use Rattle.cat_parse.proofs.Last.{last_right}

-- any value
abbrev pub Any : {A : Type 0} → A → Type 0
Any x = Unit {0}

pub typed_right : (limit bound : ℕ) (out : TokenKind → Bool) → IsRightTo limit bound out Any typed_parts typed_name
typed_right limit bound out =
    lower_right (λ y. y.name) λ w.
    word_right (cue.Word key.Content) λ p.
    last_right (λ y. y.ty) (λ t. type_parts t End) (a_type_right limit bound out) (record {
      to = λ t f. (tt, refl);
      from = λ y f. tt;
      back = λ t. refl;
      only = λ y f. ap (λ (n : Name). record { name = n; ty = y.ty }) f.1;
    })

pub field_right : (limit bound : ℕ) (out : TokenKind → Bool) → IsRightTo limit bound out Any field_parts field
field_right limit bound out =
    word_right (cue.Word key.Data) (λ p. typed_right limit bound out)

pub content_right : (limit bound : ℕ) (out : TokenKind → Bool)
    → IsRightTo limit bound out Any (λ t. Word (Anywhere (kind.Word key.Content)) (type_parts t End)) content
content_right limit bound out =
    word_right (cue.Word key.Content) (λ p. a_type_right limit bound out)

pub case_right : (limit bound : ℕ) (out : TokenKind → Bool) → ((k : TokenKind) → out k ≡ true → is_content k ≡ false)
    → IsRightTo limit bound out Any case_parts a_case
case_right limit bound out off =
    word_right (cue.Sign symbol.MinusMinus) λ p.
    upper_right (λ y. y.name) λ u.
    last_right (λ y. y.content) content_parts
    (optional_right Any (λ t. Word (Anywhere (kind.Word key.Content)) (type_parts t End)) (opens_word refl) off refl
    (λ t. refl) (content_right limit bound out)) (record {
      to = λ t f. (tt, refl);
      from = λ y f. any y.content;
      back = λ t. refl;
      only = λ y f. ap (λ (n : Name). record { name = n; content = y.content }) f.1;
    })
  where
    any : (o : Option types.Type) → OptionFits Any o
    any None = tt
    any (Some t) = tt
