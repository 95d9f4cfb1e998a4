-- Symbols and dates: what is read has its form, and goes as far as any symbol or date that begins there.
use Rattle.std.proofs.Common.{◌≡◌, ℕ, Bool, true, false, cond, List, [], ◌∷◌, ◌++◌, length, take, drop, refl, sym, ap}
use Rattle.std.proofs.Common.{◌∙◌, subst, inl, inr, arith}
use Rattle.std.specs.Prelude.{Option, Some, None, codes, bytes_eq, if◌then◌else◌}
use Rattle.std.specs.Char.{is_ascii_digit}
use Rattle.std.proofs.lemmas.Bool.Decides.{nat_tests}
use Rattle.std.proofs.lemmas.Slice.Eq.{bytes_eq-Decides}
use Rattle.std.proofs.lemmas.List.{take-append-drop}
use Rattle.std.proofs.Math.Seq.{take-append_seam, drop-append_seam}
use Rattle.cat_date.specs.Text.{form_of}
use Rattle.cat_lex.specs.declared.symbol.Symbol.{Symbol}
use Rattle.cat_lex.specs.declared.form.Form.{Form}
use Rattle.cat_lex.specs.declared.form.Form.TheVariants.{Mark, Date}
use Rattle.cat_lex.specs.Words.{symbol_of, symbols}
use Rattle.cat_lex.specs.inside.Reading.{mark_or, mark_read, date_read}
use Rattle.cat_lex.proofs.Listed.{found, is_mark_text, symbols_fit}
use Rattle.cat_date.proofs.Exported.{length-form_of}
use Rattle.cat_lex.proofs.Goes.{Reaches}
use Rattle.cat_lex.proofs.NumberForms.{IsRead}

-- whatever is read has its form
abbrev pub IsSound : List ℕ → Option (Form × List ℕ) → Type 0
IsSound text None = Unit {0}
IsSound text (Some found) = IsRead found.0 text found.1

longer_or : (s : Symbol) (c : ℕ) (rest : List ℕ) (o : Option Symbol) → Reaches (Mark s) (c ∷ rest)
    (mark_or o rest (Some (Mark s, c ∷ rest)))
longer_or s c rest None = inl refl
longer_or s c rest (Some t) = inr (omega arith)

reaches_by : (s : Symbol) (word rest : List ℕ) → is_mark_text word ≡ true → symbol_of word ≡ Some s
    → Reaches (Mark s) rest (mark_read (word ++ rest))
reaches_by s [] rest shape h = cc
reaches_by s (c ∷ []) [] shape h = rw h (inl refl)
reaches_by s (c ∷ []) (d ∷ rest) shape h = rw h (longer_or s d rest (symbol_of (c ∷ d ∷ [])))
reaches_by s (c ∷ d ∷ []) rest shape h = rw h (inl refl)
reaches_by s (c ∷ d ∷ e ∷ cs) rest shape h = cc

pub mark_shape : (s : Symbol) (word : List ℕ) → symbol_of word ≡ Some s → is_mark_text word ≡ true
mark_shape s word h = found is_mark_text symbols word s symbols_fit h

pub mark_goes : (s : Symbol) (word rest : List ℕ) → symbol_of word ≡ Some s
    → Reaches (Mark s) rest (mark_read (word ++ rest))
mark_goes s word rest h = reaches_by s word rest (mark_shape s word h) h

sound_by : (word rest text : List ℕ) (o : Option Symbol) (other : Option (Form × List ℕ)) → symbol_of word ≡ o
    → text ≡ word ++ rest → IsSound text other → IsSound text (mark_or o rest other)
sound_by word rest text None other h split more = more
sound_by word rest text (Some s) other h split more = record { word = word; split = split; formed = h }

pub mark_sound : (text : List ℕ) → IsSound text (mark_read text)
mark_sound [] = tt
mark_sound (c ∷ []) = sound_by (c ∷ []) [] (c ∷ []) (symbol_of (c ∷ [])) None refl refl tt
mark_sound (c ∷ d ∷ rest) =
    sound_by (c ∷ d ∷ []) rest (c ∷ d ∷ rest) (symbol_of (c ∷ d ∷ [])) _ refl refl
    (sound_by (c ∷ []) (d ∷ rest) (c ∷ d ∷ rest) (symbol_of (c ∷ [])) None refl refl tt)

date_split : (word rest : List ℕ) → form_of word ≡ codes "|0000-00-00|" → (take 12 (word ++ rest) ≡ word)
    × (drop 12 (word ++ rest) ≡ rest)
date_split word rest h =
    let long : length word ≡ 12 = sym (length-form_of word) ∙ ap (λ (w : List ℕ). length w) h in (
      subst (λ (n : ℕ). take n (word ++ rest) ≡ word) long (take-append_seam word rest),
      subst (λ (n : ℕ). drop n (word ++ rest) ≡ rest) long (drop-append_seam word rest),
    )

pub date_goes : (word rest : List ℕ) → form_of word ≡ codes "|0000-00-00|"
    → Reaches Date rest (date_read (word ++ rest))
date_goes word rest h =
    let parts = date_split word rest h in
    let same : bytes_eq (form_of (take 12 (word ++ rest))) (codes "|0000-00-00|") ≡ true =
    (bytes_eq-Decides _ _).1 (ap form_of parts.0 ∙ h) in
    rw same (inl (ap (λ (w : List ℕ). (Date, w)) parts.1))

date_by : (text : List ℕ) (b : Bool) → bytes_eq (form_of (take 12 text)) (codes "|0000-00-00|") ≡ b
    → IsSound text (cond b (Some (Date, drop 12 text)) None)
date_by text false h = tt
date_by text true h =
    record { word = take 12 text; split = sym (take-append-drop 12 text); formed = (bytes_eq-Decides _ _).0 h }

pub date_sound : (text : List ℕ) → IsSound text (date_read text)
date_sound text = date_by text (bytes_eq (form_of (take 12 text)) (codes "|0000-00-00|")) refl

pub head_bar : (word : List ℕ) → form_of word ≡ codes "|0000-00-00|" → (cs : List ℕ) × (word ≡ 124 ∷ cs)
head_bar [] h = absurd (let long : 0 ≡ 12 = ap (λ (w : List ℕ). length w) h in omega arith)
head_bar (c ∷ cs) h =
    let same : (if is_ascii_digit c then 48 else c) ≡ 124 = cc in
    let bar : c ≡ 124 = grind (arith, nat_tests) in
    (cs, rw bar refl)
