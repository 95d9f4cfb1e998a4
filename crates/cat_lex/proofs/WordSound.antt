-- What is read as a word or a double keyword is one.
use Rattle.std.proofs.Common.{◌≡◌, ℕ, Bool, true, false, not, cond, ltb, List, [], ◌∷◌, ◌++◌, refl, sym, ap, ◌∙◌, subst}
use Rattle.std.proofs.Common.{append_assoc}
use Rattle.std.specs.Prelude.{Option, Some, None}
use Rattle.std.specs.Char.{is_ascii_uppercase}
use Rattle.std.specs.List.{list_all}
use Rattle.std.specs.Str.{all_scalars, chars, IsUtf8}
use Rattle.std.proofs.lemmas.Str.{encodes-append, cons_from_encodes, chars-encodes}
use Rattle.unicode_ident.specs.Ident.{is_xid_start, is_xid_continue}
use Rattle.unicode_ident.proofs.IdentLemmas.{is_xid_start-is_xid_continue}
use Rattle.cat_lex.specs.declared.words.DoubleKeyword.{DoubleKeyword}
use Rattle.cat_lex.specs.declared.form.Form.{Form}
use Rattle.cat_lex.specs.declared.form.Form.TheVariants.{TypeWord, Word, Pair}
use Rattle.cat_lex.specs.Gaps.{is_white_space}
use Rattle.cat_lex.specs.Words.{double_keyword_of}
use Rattle.cat_lex.specs.Forms.{begins_name, IsWhole}
use Rattle.cat_lex.specs.inside.Reading.{skip, begins, after, front_of, pair_or, pair_read, begin_word, word_read}
use Rattle.cat_lex.proofs.Skips.{and_true, not_true, skip_pass, skip_stops, skip_run, run_some}
use Rattle.cat_lex.proofs.Characters.{bytes_of, scalars_append, scalars_skip, after_chars, ascii_chars, weaken}
use Rattle.cat_lex.proofs.Characters.{blank_ascii, capital_continues, front_is}
use Rattle.cat_lex.proofs.WordForms.{blank_bytes}
use Rattle.cat_lex.proofs.NumberForms.{IsRead}
use Rattle.cat_lex.proofs.MarkForms.{IsSound}

pair_found : (keyword : DoubleKeyword) (text rest second end front spaces last : List ℕ)
    → double_keyword_of (front_of text rest) (front_of second end) ≡ Some keyword
    → text ≡ front ++ rest → rest ≡ spaces ++ second → second ≡ last ++ end → list_all is_white_space spaces ≡ true
    → begins is_white_space rest ≡ true → begins is_white_space second ≡ false → IsWhole end
    → IsRead (Pair keyword) text end
pair_found keyword text rest second end front spaces last listed whole_is rest_is second_is white begun stopped whole =
    let one : front_of text rest ≡ front = ap (λ (w : List ℕ). front_of w rest) whole_is ∙ front_is front rest in
    let two : front_of second end ≡ last = ap (λ (w : List ℕ). front_of w end) second_is ∙ front_is last end in
    let split : text ≡ (front ++ (spaces ++ last)) ++ end =
    whole_is ∙ (ap (λ (w : List ℕ). front ++ w) (rest_is ∙ ap (λ (w : List ℕ). spaces ++ w) second_is)
    ∙ sym (simp append_assoc)) in
    record {
      word = front ++ (spaces ++ last);
      split = split;
      formed = record {
        first = front;
        spaces = spaces;
        second = last;
        listed = ap (λ (w : List ℕ). double_keyword_of w last) (sym one)
            ∙ (ap (λ (w : List ℕ). double_keyword_of (front_of text rest) w) (sym two) ∙ listed);
        some = run_some is_white_space rest second spaces rest_is begun stopped;
        white = white;
        spelled = refl;
        whole = whole;
      };
    }

stops_bytes : (cs : List ℕ) (b : Bool) → begins is_white_space (bytes_of cs) ≡ b → begins is_white_space cs ≡ false
    → begins is_white_space (bytes_of cs) ≡ false
stops_bytes cs true h stop = absurd (not_true (begins is_white_space cs) (blank_bytes cs h) stop)
stops_bytes cs false h stop = h

whole_end : (es : List ℕ) → begins is_xid_continue es ≡ false → IsWhole (bytes_of es)
whole_end es stop c more e = let one = cons_from_encodes es more c e in ap (begins is_xid_continue) (sym one.1) ∙ stop

record IsNamed (c : ℕ) (run rs : List ℕ) : Type 0 where
  name : begins_name c ≡ true
  continued : list_all is_xid_continue run ≡ true
  scalars : all_scalars rs ≡ true

as_word : (c : ℕ) (run rs : List ℕ) → IsNamed c run rs → IsRead Word (bytes_of ((c ∷ run) ++ rs)) (bytes_of rs)
as_word c run rs n = record {
  word = bytes_of (c ∷ run);
  split = encodes-append (c ∷ run) rs;
  formed = record { first = c; others = run; begun = n.name; continued = n.continued; spelled = refl };
}

pair_option : (c : ℕ) (run rs : List ℕ) → IsNamed c run rs → begins is_white_space (bytes_of rs) ≡ true
    → (o : Option DoubleKeyword)
    → double_keyword_of (front_of (bytes_of ((c ∷ run) ++ rs)) (bytes_of rs))
    (front_of (bytes_of (skip is_white_space rs)) (bytes_of (skip is_xid_continue (skip is_white_space rs)))) ≡ o
    → IsRead (pair_or o (bytes_of (skip is_xid_continue (skip is_white_space rs))) (bytes_of rs)).0
    (bytes_of ((c ∷ run) ++ rs)) (pair_or o (bytes_of (skip is_xid_continue (skip is_white_space rs))) (bytes_of rs)).1
pair_option c run rs n begun None listed = as_word c run rs n
pair_option c run rs n begun (Some keyword) listed =
    let spaces = skip_run is_white_space rs in
    let last = skip_run is_xid_continue (skip is_white_space rs) in
    let ascii : bytes_of spaces.run ≡ spaces.run =
    ascii_chars spaces.run (weaken is_white_space (λ c. ltb c 128) blank_ascii spaces.run spaces.passes) in
    let rest_is : bytes_of rs ≡ spaces.run ++ bytes_of (skip is_white_space rs) =
    ap (λ (w : List ℕ). bytes_of w) spaces.split
    ∙ (encodes-append spaces.run (skip is_white_space rs) ∙ ap (λ (w : List ℕ). w ++ bytes_of (skip is_white_space rs))
    ascii) in
    let second_is : bytes_of (skip is_white_space rs) ≡ bytes_of last.run
    ++ bytes_of (skip is_xid_continue (skip is_white_space rs)) =
    ap (λ (w : List ℕ). bytes_of w) last.split ∙ encodes-append last.run (skip is_xid_continue (skip is_white_space rs))
    in
    pair_found keyword (bytes_of ((c ∷ run) ++ rs)) (bytes_of rs) (bytes_of (skip is_white_space rs))
    (bytes_of (skip is_xid_continue (skip is_white_space rs))) (bytes_of (c ∷ run)) spaces.run (bytes_of last.run)
    listed (encodes-append (c ∷ run) rs) rest_is second_is spaces.passes begun
    (stops_bytes (skip is_white_space rs) (begins is_white_space (bytes_of (skip is_white_space rs))) refl
    (skip_stops is_white_space rs))
    (whole_end (skip is_xid_continue (skip is_white_space rs)) (skip_stops is_xid_continue (skip is_white_space rs)))

abbrev IsFound : List ℕ → Form × List ℕ → Type 0
IsFound text found = IsRead found.0 text found.1

pair_bool : (c : ℕ) (run rs : List ℕ) → IsNamed c run rs → (b : Bool) → begins is_white_space (bytes_of rs) ≡ b
    → IsFound (bytes_of ((c ∷ run) ++ rs))
    (cond b (pair_or (double_keyword_of (front_of (bytes_of ((c ∷ run) ++ rs)) (bytes_of rs))
    (front_of (bytes_of (skip is_white_space rs)) (bytes_of (skip is_xid_continue (skip is_white_space rs)))))
    (bytes_of (skip is_xid_continue (skip is_white_space rs))) (bytes_of rs)) (Word, bytes_of rs))
pair_bool c run rs n false begun = as_word c run rs n
pair_bool c run rs n true begun = pair_option c run rs n begun _ refl

pair_sound : (c : ℕ) (run rs : List ℕ) → IsNamed c run rs → IsFound (bytes_of ((c ∷ run) ++ rs))
    (pair_read (bytes_of ((c ∷ run) ++ rs)) (bytes_of rs))
pair_sound c run rs n =
    let one : after is_white_space (bytes_of rs) ≡ bytes_of (skip is_white_space rs) =
    after_chars is_white_space rs n.scalars in
    let two : after is_xid_continue (bytes_of (skip is_white_space rs)) ≡ bytes_of
    (skip is_xid_continue (skip is_white_space rs)) =
    after_chars is_xid_continue (skip is_white_space rs) (scalars_skip is_white_space rs n.scalars) in
    rw one (rw two (pair_bool c run rs n (begins is_white_space (bytes_of rs)) refl))

rest_is : (c : ℕ) (cs : List ℕ) → all_scalars (c ∷ cs) ≡ true → is_xid_continue c ≡ true
    → after is_xid_continue (bytes_of (c ∷ cs)) ≡ bytes_of (skip is_xid_continue cs)
rest_is c cs h continues = after_chars is_xid_continue (c ∷ cs) h ∙ ap (λ (w : List ℕ). bytes_of w)
    (skip_pass is_xid_continue c cs continues)

type_word_sound : (c : ℕ) (cs : List ℕ) → all_scalars (c ∷ cs) ≡ true → is_ascii_uppercase c ≡ true
    → IsRead TypeWord (bytes_of (c ∷ cs)) (after is_xid_continue (bytes_of (c ∷ cs)))
type_word_sound c cs h capital =
    let run = skip_run is_xid_continue cs in
    let split : bytes_of (c ∷ cs) ≡ bytes_of (c ∷ run.run) ++ bytes_of (skip is_xid_continue cs) =
    ap (λ (w : List ℕ). bytes_of (c ∷ w)) run.split ∙ encodes-append (c ∷ run.run) (skip is_xid_continue cs) in
    rw (rest_is c cs h (capital_continues c capital))
    (record {
      word = bytes_of (c ∷ run.run);
      split = split;
      formed =
          record { first = c; others = run.run; begun = capital; continued = run.passes; spelled = refl };
    })

name_sound : (c : ℕ) (cs : List ℕ) → all_scalars (c ∷ cs) ≡ true → begins_name c ≡ true → is_xid_start c ≡ true
    → IsFound (bytes_of (c ∷ cs)) (pair_read (bytes_of (c ∷ cs)) (after is_xid_continue (bytes_of (c ∷ cs))))
name_sound c cs h name starts =
    let run = skip_run is_xid_continue cs in
    let last : all_scalars (skip is_xid_continue cs) ≡ true =
    scalars_skip is_xid_continue cs (scalars_append (c ∷ []) cs h) in
    let named : IsNamed c run.run (skip is_xid_continue cs) =
    record { name = name; continued = run.passes; scalars = last } in
    let whole : bytes_of ((c ∷ run.run) ++ skip is_xid_continue cs) ≡ bytes_of (c ∷ cs) =
    ap (λ (w : List ℕ). bytes_of (c ∷ w)) (sym run.split) in
    let sound : IsFound (bytes_of (c ∷ cs)) (pair_read (bytes_of (c ∷ cs)) (bytes_of (skip is_xid_continue cs))) =
    subst (λ (w : List ℕ). IsFound w (pair_read w (bytes_of (skip is_xid_continue cs)))) whole
    (pair_sound c run.run (skip is_xid_continue cs) named) in
    subst (λ (w : List ℕ). IsFound (bytes_of (c ∷ cs)) (pair_read (bytes_of (c ∷ cs)) w))
    (sym (rest_is c cs h (is_xid_start-is_xid_continue c starts))) sound

begin_by : (c : ℕ) (cs : List ℕ) (capital starts : Bool) → all_scalars (c ∷ cs) ≡ true → is_ascii_uppercase c ≡ capital
    → is_xid_start c ≡ starts
    → IsSound (bytes_of (c ∷ cs)) (cond capital (Some (TypeWord, after is_xid_continue (bytes_of (c ∷ cs))))
    (cond starts (Some (pair_read (bytes_of (c ∷ cs)) (after is_xid_continue (bytes_of (c ∷ cs))))) None))
begin_by c cs true starts h g s = type_word_sound c cs h g
begin_by c cs false true h g s = name_sound c cs h (and_true (is_xid_start c) _ s (ap not g)) s
begin_by c cs false false h g s = tt

sound_chars : (cs : List ℕ) → all_scalars cs ≡ true → IsSound (bytes_of cs) (begin_word cs (bytes_of cs))
sound_chars [] h = tt
sound_chars (c ∷ cs) h = begin_by c cs (is_ascii_uppercase c) (is_xid_start c) h refl refl

pub word_sound : (text : List ℕ) → IsUtf8 text → IsSound text (word_read text)
word_sound text utf8 =
    let is : chars (bytes_of utf8.0) ≡ utf8.0 = chars-encodes utf8.0 utf8.1.0 in
    let sound : IsSound (bytes_of utf8.0) (word_read (bytes_of utf8.0)) =
    subst (λ (w : List ℕ). IsSound (bytes_of utf8.0) (begin_word w (bytes_of utf8.0))) (sym is)
    (sound_chars utf8.0 utf8.1.0) in
    subst (λ (w : List ℕ). IsSound w (word_read w)) utf8.1.1 sound
