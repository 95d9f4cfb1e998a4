-- Numbers, amounts, days and durations that are read are in range.
use Rattle.std.proofs.Common.{◌≡◌, ℕ, ◌<◌, ◌==◌, ◌*ℤ◌, ℤ, pos, unsigned_abs, nat_lt, nat_le, Bool, true, false, ◌&&◌}
use Rattle.std.proofs.Common.{true≢false, List, [], ◌∷◌, Option, Some, None, Ok, Err, Result}
use Rattle.std.proofs.Common.{codes, bytes_eq, if◌then◌else◌, refl, sym, ap, subst, arith}
use Rattle.std.proofs.lemmas.Bool.Decides.{nat_tests}
use Rattle.jiff_core.specs.declared.civil.date.Date.{Date}
use Rattle.serde_json.specs.Data.{Data, Members}
use Rattle.serde_json.specs.Find.{as_object, get}
use Rattle.cat_num.specs.declared.fault.NumFault.{NumFault}
use Rattle.cat_num.specs.declared.fault.NumFault.TheVariants as num_fault
use Rattle.cat_num.specs.Whole.{largest, fits}
use Rattle.cat_num.specs.Frac.{Fraction, gcd, lowest, ratio, frac_fits, is_reduced, signed}
use Rattle.cat_num.proofs.Exported.{lowest-positive, lowest-coprime}
use Rattle.cat_date.specs.declared.fault.DateFault.{DateFault}
use Rattle.cat_date.specs.declared.fault.DateFault.TheVariants as date_fault
use Rattle.cat_date.specs.Calendar.{IsDay, is_civil, day_number, day_of_civil}
use Rattle.cat_date.specs.Text.{form_of, day_of_text}
use Rattle.cat_date.specs.Span.{SpanOf, is_span}
use Rattle.cat_date.proofs.Exported.{IsDay-epoch_day, epoch_day-day_number, civil-is_civil}
use Rattle.cat_json.specs.declared.step.Step.{Step}
use Rattle.cat_json.specs.declared.refusal.Reason.TheVariants.{WrongForm, OutOfRange}
use Rattle.cat_json.specs.Paths.{Reading, refused, at_step, made_of}
use Rattle.cat_json.specs.Numerals.{Numeral, quotient, pointed, plain, fitting, if_numeral, has_money_form}
use Rattle.cat_json.specs.Numerals.{has_few_digits, cents_of, fraction_of}
use Rattle.cat_json.specs.Numerals.{text_fraction, text_cents, has_minus, without_minus, numeral_of}
use Rattle.cat_json.specs.WholeNumbers.{in_bounds, whole_in, whole_fraction, integer_of}
use Rattle.cat_json.specs.Scalars.{existing, text_day, text_in, fraction_in, cents_in}
use Rattle.cat_json.specs.Keys.{unless_unknown, unknown_key, is_among, with_no_others}
use Rattle.cat_json.specs.Spans.{whole_part, days_and_months, part_in, object_span, span_in}
use Rattle.cat_json.proofs.Numerals.{gcd-one}

both_true : (a b : Bool) → (a && b) ≡ true → (a ≡ true) × (b ≡ true)
both_true true b h = (refl, h)
both_true false b h = absurd (true≢false (sym h))

-- what a reading that goes well is made of
pub made_of-is : {A B : Type 0} (make : A → B) (r : Reading A) (v : B) → made_of make r ≡ Ok v → (a : A) × (r ≡ Ok a)
    × (make a ≡ v)
made_of-is make (Ok a) v e = (a, refl, cc)
made_of-is make (Err refusal) v e = absurd (cc)

pub at_step-is : {A : Type 0} (step : Step) (r : Reading A) (a : A) → at_step step r ≡ Ok a → r ≡ Ok a
at_step-is step (Ok b) a e = e
at_step-is step (Err refusal) a e = absurd (cc)

unless_unknown-is : {A : Type 0} (key : Option (List ℕ)) (b a : A) → unless_unknown key b ≡ Ok a → b ≡ a
unless_unknown-is None b a e = cc
unless_unknown-is (Some key) b a e = absurd (cc)

pub with_no_others-is : {A : Type 0} (names : List (List ℕ)) (ms : Members) (r : Reading A) (a : A)
    → with_no_others names ms r ≡ Ok a → r ≡ Ok a
with_no_others-is names ms (Ok b) a e = ap Ok (unless_unknown-is (unknown_key (is_among names) ms) b a e)
with_no_others-is names ms (Err refusal) a e = absurd (cc)

in_bounds-fits : (n z : ℤ) → in_bounds n ≡ Ok z → fits z ≡ true
in_bounds-fits n z e = by (fits n) refl e
  where
    by : (test : Bool) → fits n ≡ test → (if test then Ok n else refused OutOfRange) ≡ Ok z → fits z ≡ true
    by true h e = let same : n ≡ z = cc in subst (λ (m : ℤ). fits m ≡ true) same h
    by false h e = absurd (cc)

pub whole_in-fits : (o : Option ℤ) (z : ℤ) → whole_in o ≡ Ok z → fits z ≡ true
whole_in-fits (Some n) z e = in_bounds-fits n z e
whole_in-fits None z e = absurd (cc)

reduced_is : (f : Fraction) → frac_fits f ≡ true → 0 < f.den → gcd (unsigned_abs f.num) f.den ≡ 1 → is_reduced f ≡ true
reduced_is f h low coprime =
    let parts = both_true (fits f.num) (nat_le f.den largest) h in
    let positive : nat_lt 0 f.den ≡ true = grind (arith, nat_tests) in
    rw (positive, parts.1, parts.0, coprime) refl

not_zero : (d : ℕ) → (d == 0) ≡ false → 0 < d
not_zero d h = grind (arith, nat_tests)

ratio-reduced : (n : ℤ) (d : ℕ) (f : Fraction) → ratio n d ≡ Ok f → is_reduced f ≡ true
unfolding ratio
ratio-reduced n d f e = by (d == 0) (frac_fits (lowest n d)) refl refl e
  where
    by : (zero_den fitting : Bool) → (d == 0) ≡ zero_den → frac_fits (lowest n d) ≡ fitting
        → (if zero_den then Err num_fault.DivisionByZero else
        (if fitting then Ok (lowest n d) else Err num_fault.Overflow)) ≡ Ok f → is_reduced f ≡ true
    by true fitting z h e = absurd (cc)
    by false false z h e = absurd (cc)
    by false true z h e =
        let same : lowest n d ≡ f = cc in
        let low = not_zero d z in
        subst (λ (g : Fraction). is_reduced g ≡ true) same (reduced_is (lowest n d) h (lowest-positive n d low)
        (lowest-coprime n d low))

if_numeral-is : {A : Type 0} (form few : Bool) (r : Reading A) (a : A) → if_numeral form few r ≡ Ok a → r ≡ Ok a
if_numeral-is false few r a e = absurd (cc)
if_numeral-is true false r a e = absurd (cc)
if_numeral-is true true r a e = e

fitting-is : (r : Result Fraction NumFault) (f : Fraction) → fitting r ≡ Ok f → r ≡ Ok f
fitting-is (Ok g) f e = let same : g ≡ f = cc in ap Ok same
fitting-is (Err fault) f e = absurd (cc)

fraction_of-reduced : (negative : Bool) (n : Numeral) (f : Fraction) → fraction_of negative n ≡ Ok f
    → is_reduced f ≡ true
fraction_of-reduced negative (quotient num den) f e = ratio-reduced _ _ f e
fraction_of-reduced negative (pointed whole places) f e = ratio-reduced _ _ f e
fraction_of-reduced negative (plain whole) f e = ratio-reduced _ _ f e

text_fraction-reduced : (text : List ℕ) (f : Fraction) → text_fraction text ≡ Ok f → is_reduced f ≡ true
unfolding text_fraction
text_fraction-reduced text f e =
    let numeral = numeral_of (without_minus text) in
    fraction_of-reduced (has_minus text) numeral f (fitting-is _ f (if_numeral-is _ _ _ f e))

whole_fraction-reduced : (n : ℤ) → fits n ≡ true → is_reduced (whole_fraction n) ≡ true
whole_fraction-reduced n h = rw (h, gcd-one (unsigned_abs n)) refl

pub fraction_in-reduced : (n : Option ℤ) (text : Option (List ℕ)) (f : Fraction) → fraction_in n text ≡ Ok f
    → is_reduced f ≡ true
fraction_in-reduced (Some n) text f e =
    let p = made_of-is whole_fraction (in_bounds n) f e in
    subst (λ (g : Fraction). is_reduced g ≡ true) p.2 (whole_fraction-reduced p.0 (in_bounds-fits n p.0 p.1))
fraction_in-reduced None (Some text) f e = text_fraction-reduced text f e
fraction_in-reduced None None f e = absurd (cc)

text_cents-fits : (text : List ℕ) (z : ℤ) → text_cents text ≡ Ok z → fits z ≡ true
unfolding text_cents
text_cents-fits text z e =
    let numeral = numeral_of (without_minus text) in
    let cents = signed (has_minus text) (cents_of numeral) in
    in_bounds-fits cents z (if_numeral-is (has_money_form numeral) (has_few_digits numeral) (in_bounds cents) z e)

pub cents_in-fits : (n : Option ℤ) (text : Option (List ℕ)) (z : ℤ) → cents_in n text ≡ Ok z → fits z ≡ true
cents_in-fits (Some n) text z e = in_bounds-fits (n *ℤ pos 100) z e
cents_in-fits None (Some text) z e = text_cents-fits text z e
cents_in-fits None None z e = absurd (cc)

day_number-IsDay : (y : ℤ) (m d : ℕ) → is_civil y m d ≡ true → IsDay (day_number y m d)
day_number-IsDay y m d h =
    let civil = civil-is_civil y m d h in
    let date : Date =
    record { year = y; month = m; day = d; year_in = civil.0.0; month_in = civil.0.1; day_in = civil.0.2 } in
    subst IsDay (epoch_day-day_number date civil.1) (IsDay-epoch_day date civil.1)

day_of_civil-IsDay : (y : ℤ) (m d : ℕ) (z : ℤ) → day_of_civil y m d ≡ Ok z → IsDay z
unfolding day_of_civil
day_of_civil-IsDay y m d z e = by (is_civil y m d) refl e
  where
    by : (test : Bool) → is_civil y m d ≡ test → (if test then Ok (day_number y m d) else Err date_fault.NotADay) ≡ Ok z
        → IsDay z
    by true h e = let same : day_number y m d ≡ z = cc in subst IsDay same (day_number-IsDay y m d h)
    by false h e = absurd (cc)

day_of_text-IsDay : (text : List ℕ) (z : ℤ) → day_of_text text ≡ Ok z → IsDay z
unfolding day_of_text
day_of_text-IsDay text z e = by (bytes_eq (form_of text) (codes "0000-00-00")) _ _ _ e
  where
    by : (test : Bool) (y : ℤ) (m d : ℕ) → (if test then day_of_civil y m d else Err date_fault.NotADay) ≡ Ok z
        → IsDay z
    by true y m d e = day_of_civil-IsDay y m d z e
    by false y m d e = absurd (cc)

existing-is : (r : Result ℤ DateFault) (z : ℤ) → existing r ≡ Ok z → r ≡ Ok z
existing-is (Ok n) z e = let same : n ≡ z = cc in ap Ok same
existing-is (Err fault) z e = absurd (cc)

text_day-IsDay : (text : List ℕ) (z : ℤ) → text_day text ≡ Ok z → IsDay z
unfolding text_day
text_day-IsDay text z e = by (bytes_eq (form_of text) (codes "0000-00-00")) e
  where
    by : (test : Bool) → (if test then existing (day_of_text text) else refused WrongForm) ≡ Ok z → IsDay z
    by true e = day_of_text-IsDay text z (existing-is (day_of_text text) z e)
    by false e = absurd (cc)

pub date_in-IsDay : (text : Option (List ℕ)) (z : ℤ) → text_in text_day text ≡ Ok z → IsDay z
date_in-IsDay (Some text) z e = text_day-IsDay text z e
date_in-IsDay None z e = absurd (cc)

whole_part-fits : (d : Option Data) (z : ℤ) → whole_part d ≡ Ok z → fits z ≡ true
whole_part-fits (Some d) z e = whole_in-fits (integer_of d) z e
whole_part-fits None z e = absurd (cc)

part_in-fits : (name : List ℕ) (d : Data) (z : ℤ) → part_in name d ≡ Ok z → fits z ≡ true
part_in-fits name d z e = whole_part-fits (get name d) z (at_step-is _ (whole_part (get name d)) z e)

days_and_months-is : (days months : Reading ℤ) (span : SpanOf) → days_and_months days months ≡ Ok span
    → (days ≡ Ok span.days)
    × (months ≡ Ok span.months)
days_and_months-is (Ok d) (Ok m) span e =
    let same : record { months = m; days = d } ≡ span = cc in
    (ap (λ (s : SpanOf). Ok s.days) same, ap (λ (s : SpanOf). Ok s.months) same)
days_and_months-is (Ok d) (Err refusal) span e = absurd (cc)
days_and_months-is (Err refusal) months span e = absurd (cc)

object_span-is_span : (d : Data) (ms : Option Members) (span : SpanOf) → object_span d ms ≡ Ok span
    → is_span span ≡ true
object_span-is_span d None span e = absurd (cc)
object_span-is_span d (Some ms) span e =
    let days = part_in (codes "days") d in
    let months = part_in (codes "months") d in
    let both = with_no_others-is (codes "days" ∷ codes "months" ∷ []) ms (days_and_months days months) span e in
    let parts = days_and_months-is days months span both in
    rw (part_in-fits (codes "days") d span.days parts.0, part_in-fits (codes "months") d span.months parts.1) refl

pub span_in-is_span : (d : Data) (span : SpanOf) → span_in d ≡ Ok span → is_span span ≡ true
span_in-is_span d span e = object_span-is_span d (as_object d) span e
