-- The token in front of a text, from what is read there.
use Rattle.std.proofs.Common.{◌≡◌, ℕ, List, ◌++◌, refl, sym, ◌∙◌, subst}
use Rattle.std.specs.Prelude.{Some, None}
use Rattle.std.specs.Str.{IsUtf8}
use Rattle.cat_pos.specs.declared.pos.Pos.{Pos}
use Rattle.cat_lex.specs.declared.form.Form.{Form}
use Rattle.cat_lex.specs.declared.token.TokenKind.{TokenKind}
use Rattle.cat_lex.specs.Forms.{IsLongest}
use Rattle.cat_lex.specs.Values.{token_of}
use Rattle.cat_lex.specs.Lexes.{PassesBound}
use Rattle.cat_lex.specs.inside.Steps.{IsFirst}
use Rattle.cat_lex.specs.inside.Reading.{read}
use Rattle.cat_lex.proofs.Fronts.{read_longest}
use Rattle.cat_lex.proofs.Spelled.{rest_utf8}
use Rattle.cat_lex.proofs.Sequences.{cancel_right}

-- where something is read, the text falls into a word and the rest
pub read_suffix : (form : Form) (text rest : List ℕ) → IsUtf8 text → read text ≡ Some (form, rest)
    → (front : List ℕ) × (text ≡ front ++ rest)
read_suffix form text rest utf8 is = let f = read_longest form text rest utf8 is in (f.word, f.split)

pub read_utf8 : (form : Form) (text rest : List ℕ) → IsUtf8 text → read text ≡ Some (form, rest) → IsUtf8 rest
read_utf8 form text rest utf8 is =
    let f = read_longest form text rest utf8 is in
    rest_utf8 form f.word rest f.longest.formed (subst IsUtf8 f.split utf8)

word_longest : (form : Form) (text word rest : List ℕ) → IsUtf8 text → read text ≡ Some (form, rest)
    → text ≡ word ++ rest → IsLongest form word rest
word_longest form text word rest utf8 is split =
    let f = read_longest form text rest utf8 is in
    subst (λ (w : List ℕ). IsLongest form w rest) (cancel_right f.word word rest (sym f.split ∙ split)) f.longest

pub first_of : (form : Form) (text word rest : List ℕ) (kind : TokenKind) (position : Pos) → IsUtf8 text
    → read text ≡ Some (form, rest) → text ≡ word ++ rest → token_of form word ≡ Some kind
    → IsFirst (record { kind = kind; pos = position }) position text rest
first_of form text word rest kind position utf8 is split token =
    record {
      word = word;
      split = split;
      is_token = record {
        form = form;
        longest = word_longest form text word rest utf8 is split;
        kind = token;
        position_is = refl;
      };
    }

pub passes_of : (form : Form) (text word rest : List ℕ) → IsUtf8 text → read text ≡ Some (form, rest)
    → text ≡ word ++ rest → token_of form word ≡ None → PassesBound text
passes_of form text word rest utf8 is split none =
    record {
      form = form;
      word = word;
      rest = rest;
      spelled = split;
      longest = word_longest form text word rest utf8 is split;
      out_of_bound = none;
    }
