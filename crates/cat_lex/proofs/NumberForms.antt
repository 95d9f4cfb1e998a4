-- Numbers: what is read has its form, and goes as far as any number that begins there.
use Rattle.std.proofs.Common.{◌≡◌, ◌≢◌, ℕ, ◌<◌, ◌≤◌, Bool, true, false, ◌==◌, cond, List, [], ◌∷◌, ◌++◌, length, drop}
use Rattle.std.proofs.Common.{refl, sym, ap, ◌∙◌, subst, inl, inr, arith, append_assoc}
use Rattle.std.specs.Prelude.{codes}
use Rattle.std.specs.Char.{is_ascii_digit}
use Rattle.std.specs.List.{list_all}
use Rattle.std.proofs.lemmas.Bool.Decides.{nat_tests}
use Rattle.cat_lex.specs.declared.form.Form.{Form}
use Rattle.cat_lex.specs.declared.form.Form.TheVariants.{Whole, Decimal, Percent}
use Rattle.cat_pos.specs.Bytes.{is_blank}
use Rattle.cat_lex.specs.Forms.{AreDigits, after_point, IsDecimal, IsPercent, HasForm}
use Rattle.cat_lex.specs.inside.Reading.{skip, begins, is_pointed, skip_places, is_percent_sign, number_after}
use Rattle.cat_lex.specs.inside.Reading.{number_read}
use Rattle.cat_lex.proofs.Skips.{and_left, and_right, skip-append, skip_stays, skip_stops, skip_run, skip_le}
use Rattle.cat_lex.proofs.Skips.{skip_same_or_shorter, run_some, IsRun}
use Rattle.cat_lex.proofs.Goes.{Goes, goes_on}

drop_one : (p : ℕ → Bool) (text : List ℕ) → begins p text ≡ true → length (drop 1 text) < length text
drop_one p [] h = cc
drop_one p (c ∷ cs) h = omega arith

places_le : (units : List ℕ) (b : Bool) → is_pointed units ≡ b → length (skip_places units) ≤ length units
places_le [] b h = omega arith
places_le (c ∷ cs) true h = rw h (omega (arith, skip_le is_ascii_digit cs))
places_le (c ∷ cs) false h = rw h (omega arith)

places_less : (units : List ℕ) → is_pointed units ≡ true → length (skip_places units) < length units
places_less [] h = cc
places_less (c ∷ cs) h = rw h (omega (arith, skip_le is_ascii_digit cs))

percent_less : (places : List ℕ) → begins is_percent_sign (skip is_blank places) ≡ true
    → length (drop 1 (skip is_blank places)) < length places
percent_less places h = omega (arith, drop_one is_percent_sign (skip is_blank places) h, skip_le is_blank places)

-- what `number_after` says, by its tests
abbrev ended : Bool → Bool → List ℕ → List ℕ → List ℕ → Form × List ℕ
ended percent pointed spaces places units =
    cond percent (Percent, drop 1 spaces) (cond pointed (Decimal, places) (Whole, units))

ends_whole : (percent pointed : Bool) (spaces places units : List ℕ)
    → (percent ≡ true → length (drop 1 spaces) < length units) → (pointed ≡ true → length places < length units)
    → Goes Whole units (ended percent pointed spaces places units)
ends_whole true pointed spaces places units g h = inr (g refl)
ends_whole false true spaces places units g h = inr (h refl)
ends_whole false false spaces places units g h = inl refl

after_whole : (units : List ℕ) → Goes Whole units (number_after units)
after_whole units =
    let places = skip_places units in
    let below : length (skip_places units) ≤ length units = places_le units (is_pointed units) refl in
    ends_whole (begins is_percent_sign (skip is_blank places)) (is_pointed units) (skip is_blank places) places units
    (λ h. omega (arith, percent_less (skip_places units) h, below)) (places_less units)

ends_decimal : (percent : Bool) (spaces places units : List ℕ)
    → (percent ≡ true → length (drop 1 spaces) < length places)
    → Goes Decimal places (ended percent true spaces places units)
ends_decimal true spaces places units g = inr (g refl)
ends_decimal false spaces places units g = inl refl

after_decimal : (digit : ℕ) (text : List ℕ) → is_ascii_digit digit ≡ true → Goes Decimal (skip is_ascii_digit text)
    (number_after (46 ∷ digit ∷ text))
after_decimal digit text h =
    let places = skip is_ascii_digit text in
    let goes : Goes Decimal places (ended (begins is_percent_sign (skip is_blank places)) true (skip is_blank places)
    places (46 ∷ digit ∷ text)) =
    ends_decimal (begins is_percent_sign (skip is_blank places)) (skip is_blank places) places (46 ∷ digit ∷ text)
    (percent_less places) in
    rw h goes

-- the longest number is read
pub whole_read : (word rest : List ℕ) → AreDigits word → Goes Whole rest (number_read (word ++ rest))
whole_read word rest d =
    rw (skip-append is_ascii_digit word rest d.digits)
    (goes_on Whole (skip is_ascii_digit rest) rest _ (skip_same_or_shorter is_ascii_digit rest)
    (after_whole (skip is_ascii_digit rest)))

decimal_parts : (units places rest : List ℕ) → AreDigits units → AreDigits places
    → Goes Decimal rest (number_read (units ++ (after_point places ++ rest)))
decimal_parts units [] rest d e = absurd (e.some refl)
decimal_parts units (c ∷ cs) rest d e =
    let first : is_ascii_digit c ≡ true = and_left _ _ e.digits in
    let run : skip is_ascii_digit (cs ++ rest) ≡ skip is_ascii_digit rest =
    skip-append is_ascii_digit cs rest (and_right _ _ e.digits) in
    let goes : Goes Decimal (skip is_ascii_digit rest) (number_after (46 ∷ c ∷ (cs ++ rest))) =
    subst (λ (q : List ℕ). Goes Decimal q (number_after (46 ∷ c ∷ (cs ++ rest)))) run
    (after_decimal c (cs ++ rest) first) in
    rw (skip-append is_ascii_digit units (after_point (c ∷ cs) ++ rest) d.digits)
    (goes_on Decimal (skip is_ascii_digit rest) rest _ (skip_same_or_shorter is_ascii_digit rest) goes)

pub decimal_read : (word rest : List ℕ) → IsDecimal word → Goes Decimal rest (number_read (word ++ rest))
decimal_read word rest d =
    let regroup : word ++ rest ≡ d.units ++ (after_point d.places ++ rest) =
    ap (λ (w : List ℕ). w ++ rest) d.spelled ∙ append_assoc d.units (after_point d.places) rest in
    rw regroup (decimal_parts d.units d.places rest d.some d.more)

space_begins : (p : ℕ → Bool) (spaces rest : List ℕ) → ((c : ℕ) → is_blank c ≡ true → p c ≡ false)
    → list_all is_blank spaces ≡ true → begins p rest ≡ false → begins p (spaces ++ rest) ≡ false
space_begins p [] rest other h r = r
space_begins p (c ∷ cs) rest other h r = other c (and_left _ _ h)

space_no_digit : (c : ℕ) → is_blank c ≡ true → is_ascii_digit c ≡ false
space_no_digit c h = grind (arith, nat_tests)

abbrev is_point : ℕ → Bool
is_point c = c == 46

space_no_point : (c : ℕ) → is_blank c ≡ true → is_point c ≡ false
space_no_point c h = grind (arith, nat_tests)

no_point : (text : List ℕ) → begins is_point text ≡ false → is_pointed text ≡ false
no_point [] h = refl
no_point (c ∷ cs) h = rw h refl

-- spaces and a percent sign
percent_end : (spaces rest : List ℕ) → list_all is_blank spaces ≡ true → skip is_blank (spaces ++ (37 ∷ rest)) ≡ 37 ∷
    rest
percent_end spaces rest h = skip-append is_blank spaces (37 ∷ rest) h

percent_after : (places spaces rest : List ℕ) → list_all is_ascii_digit places ≡ true → list_all is_blank spaces ≡ true
    → number_after (after_point places ++ (spaces ++ (37 ∷ rest))) ≡ (Percent, rest)
percent_after [] spaces rest d h =
    let none : is_pointed (spaces ++ (37 ∷ rest)) ≡ false =
    no_point (spaces ++ (37 ∷ rest)) (space_begins is_point spaces (37 ∷ rest) space_no_point h refl) in
    rw none (rw (percent_end spaces rest h) refl)
percent_after (c ∷ cs) spaces rest d h =
    let first : is_ascii_digit c ≡ true = and_left _ _ d in
    let stop : skip is_ascii_digit (spaces ++ (37 ∷ rest)) ≡ spaces ++ (37 ∷ rest) = skip_stays is_ascii_digit
    (spaces ++ (37 ∷ rest)) (space_begins is_ascii_digit spaces (37 ∷ rest) space_no_digit h refl) in
    let run : skip is_ascii_digit (cs ++ (spaces ++ (37 ∷ rest))) ≡ spaces ++ (37 ∷ rest) =
    skip-append is_ascii_digit cs (spaces ++ (37 ∷ rest)) (and_right _ _ d) ∙ stop in
    rw first (rw run (rw (percent_end spaces rest h) refl))

digits_end : (places spaces rest : List ℕ) → list_all is_blank spaces ≡ true
    → begins is_ascii_digit (after_point places ++ (spaces ++ (37 ∷ rest))) ≡ false
digits_end [] spaces rest h = space_begins is_ascii_digit spaces (37 ∷ rest) space_no_digit h refl
digits_end (c ∷ cs) spaces rest h = refl

pub percent_read : (word rest : List ℕ) → IsPercent word → Goes Percent rest (number_read (word ++ rest))
percent_read word rest d =
    let regroup : word ++ rest ≡ d.units ++ (after_point d.places ++ (d.spaces ++ (37 ∷ rest))) =
    rw d.spelled (simp append_assoc) in
    let run : skip is_ascii_digit (d.units ++ (after_point d.places ++ (d.spaces ++ (37 ∷ rest)))) ≡ after_point
    d.places ++ (d.spaces ++ (37 ∷ rest)) =
    skip-append is_ascii_digit d.units (after_point d.places ++ (d.spaces ++ (37 ∷ rest))) d.some.digits
    ∙ skip_stays is_ascii_digit _ (digits_end d.places d.spaces rest d.spaced) in
    inl (rw regroup (rw run (percent_after d.places d.spaces rest d.digits d.spaced)))

-- what is read is a number
pub record IsRead (form : Form) (text rest : List ℕ) : Type 0 where
  pub word : List ℕ
  pub split : text ≡ word ++ rest
  pub formed : HasForm form word rest

-- a point with digits, or nothing, and what follows
record HasPlaces (pointed : Bool) (units rest : List ℕ) : Type 0 where
  places : List ℕ
  split : units ≡ after_point places ++ rest
  digits : list_all is_ascii_digit places ≡ true
  some : pointed ≡ true → places ≢ []
  none : pointed ≡ false → places ≡ []

point_places : (run : List ℕ) → run ≢ [] → 46 ∷ run ≡ after_point run
point_places [] some = absurd (some refl)
point_places (c ∷ cs) some = refl

places_by : (units : List ℕ) (b : Bool) → is_pointed units ≡ b → HasPlaces b units (skip_places units)
places_by [] true h = cc
places_by [] false h = record { places = []; split = refl; digits = refl; some = λ e. cc; none = λ e. refl }
places_by (c ∷ cs) true h =
    let run = skip_run is_ascii_digit cs in
    let some : run.run ≢ [] = run_some is_ascii_digit cs (skip is_ascii_digit cs) run.run run.split (and_right _ _ h)
    (skip_stops is_ascii_digit cs) in
    let point : c ≡ 46 = grind (arith, nat_tests, and_left (c == 46) (begins is_ascii_digit cs) h) in
    let split : c ∷ cs ≡ after_point run.run ++ skip is_ascii_digit cs =
    rw point (ap (λ (w : List ℕ). 46 ∷ w) run.split ∙ ap (λ (w : List ℕ). w ++ skip is_ascii_digit cs)
    (point_places run.run some)) in
    rw h (record { places = run.run; split = split; digits = run.passes; some = λ e. some; none = λ e. cc })
places_by (c ∷ cs) false h =
    rw h (record { places = []; split = refl; digits = refl; some = λ e. cc; none = λ e. refl })

head_percent : (spaces : List ℕ) → begins is_percent_sign spaces ≡ true → spaces ≡ 37 ∷ drop 1 spaces
head_percent [] h = cc
head_percent (c ∷ cs) h = let same : c ≡ 37 = grind (arith, nat_tests) in rw same refl

read_by : (text units places spaces : List ℕ) (first : List ℕ) (percent pointed : Bool) → text ≡ first ++ units
    → AreDigits first → HasPlaces pointed units places → IsRun is_blank places spaces
    → (percent ≡ true → spaces ≡ 37 ∷ drop 1 spaces) → IsRead (ended percent pointed spaces places units).0 text
    (ended percent pointed spaces places units).1
read_by text units places spaces first true pointed split digits h run sign =
    let whole : text ≡ first ++ (after_point h.places ++ (run.run ++ (37 ∷ drop 1 spaces))) = split
    ∙ ap (λ (w : List ℕ). first ++ w) (h.split ∙ ap (λ (w : List ℕ). after_point h.places ++ w)
    (run.split ∙ ap (λ (w : List ℕ). run.run ++ w) (sign refl))) in
    record {
      word = first ++ (after_point h.places ++ (run.run ++ codes "%"));
      split = whole ∙ sym (simp append_assoc);
      formed = record {
        units = first;
        places = h.places;
        spaces = run.run;
        some = digits;
        digits = h.digits;
        spaced =
            run.passes;
        spelled = refl;
      };
    }
read_by text units places spaces first false true split digits h run sign =
    record {
      word = first ++ after_point h.places;
      split = split
          ∙ (ap (λ (w : List ℕ). first ++ w) h.split ∙ sym (append_assoc first (after_point h.places) places));
      formed = record {
        units = first;
        places = h.places;
        some = digits;
        more =
            record { some = h.some refl; digits = h.digits };
        spelled = refl;
      };
    }
read_by text units places spaces first false false split digits h run sign =
    record { word = first; split = split; formed = digits }

pub number_sound : (text : List ℕ) → begins is_ascii_digit text ≡ true → IsRead (number_read text).0 text
    (number_read text).1
number_sound text first =
    let units = skip is_ascii_digit text in
    let run = skip_run is_ascii_digit text in
    let some : run.run ≢ [] =
    run_some is_ascii_digit text units run.run run.split first (skip_stops is_ascii_digit text) in
    read_by text units (skip_places units) (skip is_blank (skip_places units)) run.run
    (begins is_percent_sign (skip is_blank (skip_places units))) (is_pointed units)
    run.split (record { some = some; digits = run.passes }) (places_by units (is_pointed units) refl)
    (skip_run is_blank (skip_places units)) (head_percent (skip is_blank (skip_places units)))
