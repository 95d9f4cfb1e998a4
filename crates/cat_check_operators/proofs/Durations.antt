-- Years as durations.
use Rattle.std.proofs.Common.{◌≡◌, ◌∙◌, Bool, true, false, ℤ, pos, ◌*ℤ◌, Option, Some, None, Result, Ok, Err, refl}
use Rattle.std.proofs.Common.{sym, ap}
use Rattle.std.proofs.Math.IntN.{zero-*ℤ}
use Rattle.std.specs.Prelude.{if◌then◌else◌}
use Rattle.cat_date.specs.declared.fault.DateFault.{DateFault}
use Rattle.cat_date.specs.declared.fault.DateFault.TheVariants.{Overflow}
use Rattle.cat_date.specs.Span.{SpanOf, is_span, span_in_range, span_multiple}
use Rattle.cat_check_operators.specs.inside.Years.{years_of}

abbrev kept : {A B : Type 0} → Result A B → Option A
kept (Ok a) = Some a
kept (Err b) = None

kept_if : (b : Bool) (s : SpanOf) → kept (if b then Ok s else Err Overflow) ≡ (if b then Some s else None)
kept_if true s = refl
kept_if false s = refl

whole_years : (n : ℤ) → kept (span_in_range (record { months = pos 12 *ℤ n; days = pos 0 *ℤ n })) ≡ years_of n
unfolding span_in_range
whole_years n =
    ap (λ (days : ℤ). kept (span_in_range (record { months = pos 12 *ℤ n; days = days }))) (zero-*ℤ n)
    ∙ kept_if (is_span (record { months = pos 12 *ℤ n; days = pos 0 })) (record { months = pos 12 *ℤ n; days = pos 0 })

abbrev one_year : SpanOf
one_year = record { months = pos 12; days = pos 0 }

times : (n m : ℤ) (a : SpanOf) (r : Result SpanOf DateFault) → r ≡ span_multiple a m → a ≡ one_year → m ≡ n
    → kept r ≡ years_of n
times n m a r is first second = ap kept (is ∙ ap (λ (b : SpanOf). span_multiple b m) first
    ∙ ap (span_multiple one_year) second) ∙ whole_years n

pub years_ok : (n m : ℤ) (a : SpanOf) (r : Result SpanOf DateFault) (s : SpanOf) → r ≡ span_multiple a m
    → a ≡ one_year → m ≡ n → r ≡ Ok s → Some s ≡ years_of n
years_ok n m a r s is first second ok = sym (ap kept ok) ∙ times n m a r is first second

pub years_err : (n m : ℤ) (a : SpanOf) (r : Result SpanOf DateFault) (e : DateFault) → r ≡ span_multiple a m
    → a ≡ one_year → m ≡ n → r ≡ Err e → None ≡ years_of n
years_err n m a r e is first second err = sym (ap kept err) ∙ times n m a r is first second
