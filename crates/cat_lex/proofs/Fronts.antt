-- The reading in front of a text and the longest token there are one.
use Rattle.std.proofs.Common.{◌≡◌, ◌≢◌, ℕ, ◌<◌, ◌≤◌, List, [], ◌∷◌, ◌++◌, length, refl, sym, ap, ◌∙◌, subst, inl, inr}
use Rattle.std.proofs.Common.{arith, append_assoc}
use Rattle.std.specs.Prelude.{Option, Some, None}
use Rattle.std.specs.Str.{IsUtf8}
use Rattle.std.proofs.lemmas.List.{length-append}
use Rattle.cat_lex.specs.declared.form.Form.{Form}
use Rattle.cat_lex.specs.Forms.{HasForm, IsLongest}
use Rattle.cat_lex.specs.Lexes.{BeginsNoToken}
use Rattle.cat_lex.specs.inside.Reading.{read}
use Rattle.cat_lex.proofs.Goes.{Goes, Reaches}
use Rattle.cat_lex.proofs.NumberForms.{IsRead}
use Rattle.cat_lex.proofs.MarkForms.{IsSound}
use Rattle.cat_lex.proofs.Longest.{goes, sound}

-- of two fronts of a text, the one that leaves less goes further
record IsFurther (word rest longer end : List ℕ) : Type 0 where
  more : List ℕ
  longer_is : longer ≡ word ++ more
  rest_is : rest ≡ more ++ end

further : (word rest longer end : List ℕ) → word ++ rest ≡ longer ++ end → length end ≤ length rest
    → IsFurther word rest longer end
further [] rest longer end e l = record { more = longer; longer_is = refl; rest_is = e }
further (c ∷ word) rest [] end e l =
    let same : length (c ∷ (word ++ rest)) ≡ length end = ap (λ (w : List ℕ). length w) e in
    absurd (omega (arith, same, length-append word rest))
further (c ∷ word) rest (d ∷ longer) end e l =
    let head : c ≡ d = cc in
    let tail : word ++ rest ≡ longer ++ end = cc in
    let f = further word rest longer end tail l in
    record { more = f.more; longer_is = rw head (ap (λ (w : List ℕ). d ∷ w) f.longer_is); rest_is = f.rest_is }

same_rest : (more rest : List ℕ) → rest ≡ more ++ rest → more ≡ []
same_rest [] rest e = refl
same_rest (c ∷ more) rest e =
    let same : length rest ≡ length (c ∷ (more ++ rest)) = ap (λ (w : List ℕ). length w) e in
    absurd (omega (arith, same, length-append more rest))

shorter_some : (more rest end : List ℕ) → rest ≡ more ++ end → length end < length rest → more ≢ []
shorter_some more rest end e l none =
    let same : rest ≡ end = e ∙ ap (λ (w : List ℕ). w ++ end) none in
    omega (arith, ap (λ (w : List ℕ). length w) same)

found_by : (form : Form) (word rest : List ℕ) (found : Form × List ℕ) → IsLongest form word rest
    → IsRead found.0 (word ++ rest) found.1 → Goes form rest found → found ≡ (form, rest)
found_by form word rest found longest r (inl e) = e
found_by form word rest found longest r (inr l) =
    let f = further word rest r.word found.1 r.split (omega arith) in
    absurd (longest.longest found.0 f.more found.1 f.rest_is (shorter_some f.more rest found.1 f.rest_is l)
    (subst (λ (w : List ℕ). HasForm found.0 w found.1) f.longer_is r.formed))

longest_by : (form : Form) (word rest : List ℕ) (o : Option (Form × List ℕ)) → IsLongest form word rest
    → IsSound (word ++ rest) o → Reaches form rest o → o ≡ Some (form, rest)
longest_by form word rest None longest s r = absurd r
longest_by form word rest (Some found) longest s r =
    ap (λ (w : Form × List ℕ). Some w) (found_by form word rest found longest s r)

-- the longest token is what is read
pub longest_read : (form : Form) (word rest : List ℕ) → IsLongest form word rest → IsUtf8 (word ++ rest)
    → read (word ++ rest) ≡ Some (form, rest)
longest_read form word rest longest utf8 = longest_by form word rest (read (word ++ rest)) longest
    (sound (word ++ rest) utf8) (goes form word rest longest.formed utf8)

-- what is read in front of a text
pub record IsFront (form : Form) (text rest : List ℕ) : Type 0 where
  pub word : List ℕ
  pub split : text ≡ word ++ rest
  pub longest : IsLongest form word rest

no_longer : (other form : Form) (more after rest : List ℕ) → rest ≡ more ++ after → more ≢ []
    → Goes other after (form, rest) → ⊥
no_longer other form more after rest e some (inl same) =
    let ended : rest ≡ after = ap (λ (w : Form × List ℕ). w.1) same in
    some (same_rest more after (sym ended ∙ e))
no_longer other form more after rest e some (inr l) =
    omega (arith, ap (λ (w : List ℕ). length w) e, length-append more after)

-- what is read is the longest token
pub read_longest : (form : Form) (text rest : List ℕ) → IsUtf8 text → read text ≡ Some (form, rest)
    → IsFront form text rest
read_longest form text rest utf8 is =
    let r : IsRead form text rest = subst (IsSound text) is (sound text utf8) in
    record {
      word = r.word;
      split = r.split;
      longest = record {
        formed = r.formed;
        longest = λ other more after e some formed.
            let whole : text ≡ (r.word ++ more) ++ after =
            r.split ∙ (ap (λ (w : List ℕ). r.word ++ w) e ∙ sym (append_assoc r.word more after)) in
            let reached : Reaches other after (read ((r.word ++ more) ++ after)) =
            goes other (r.word ++ more) after formed (subst IsUtf8 whole utf8) in
            let same : read ((r.word ++ more) ++ after) ≡ Some (form, rest) = ap read (sym whole) ∙ is in
            no_longer other form more after rest e some (subst (Reaches other after) same reached);
      };
    }

pub read_none : (text : List ℕ) → IsUtf8 text → read text ≡ None → BeginsNoToken text
read_none text utf8 none form word rest e formed =
    let reached : Reaches form rest (read (word ++ rest)) = goes form word rest formed (subst IsUtf8 e utf8) in
    subst (Reaches form rest) (ap read (sym e) ∙ none) reached
