-- Known days, sums and texts, from Python's `datetime`, so that a wrong rule in the specs does not check.
use Rattle.std.proofs.Common.{◌≡◌, refl, pos, negsuc, neg_ℤ, Ok, Err, codes}
use Rattle.std.specs.declared.cmp.Ordering.TheVariants.{Less, Equal, Greater}
use Rattle.cat_date.specs.declared.fault.DateFault.TheVariants.{Overflow, AmbiguousDate, Uncomparable, NotADay}
use Rattle.cat_date.specs.declared.rounding.Rounding.TheVariants.{Up, Down, Refuse}
use Rattle.cat_date.proofs.OnLiterals.{cat_date_on_literals}
use Rattle.cat_date.specs.Calendar.{civil_of, day_of_civil}
use Rattle.cat_date.specs.Add.{day_plus_span}
use Rattle.cat_date.specs.Span.{compared_spans, span_sum, span_difference, span_multiple}
use Rattle.cat_date.specs.Text.{day_text, day_of_text}

-- from the first day to the last, around leap days and at the epoch
pub known_days : (day_of_civil (pos 1) 1 1 ≡ Ok (negsuc 719_161))
    × (day_of_civil (pos 1900) 3 1 ≡ Ok (negsuc 25_507))
    × (day_of_civil (pos 1970) 1 1 ≡ Ok (pos 0))
    × (day_of_civil (pos 2000) 2 29 ≡ Ok (pos 11_016))
    × (day_of_civil (pos 2024) 2 29 ≡ Ok (pos 19_782))
    × (day_of_civil (pos 9999) 12 31 ≡ Ok (pos 2_932_896))
    × (day_of_civil (pos 1900) 2 29 ≡ Err NotADay)
    × (day_of_civil (pos 0) 12 31 ≡ Err NotADay)
unfolding cat_date_on_literals
known_days = (refl, refl, refl, refl, refl, refl, refl, refl)

pub known_dates : (civil_of (negsuc 719_161) ≡ record { year = pos 1; month = 1; day = 1 })
    × (civil_of (pos 11_016) ≡ record { year = pos 2000; month = 2; day = 29 })
    × (civil_of (negsuc 0) ≡ record { year = pos 1969; month = 12; day = 31 })
    × (civil_of (pos 2_932_896) ≡ record { year = pos 9999; month = 12; day = 31 })
unfolding cat_date_on_literals
known_dates = (refl, refl, refl, refl)

-- 2024-01-31 and a month, by each rounding; 9999-12-31 and a day
pub known_sums : (day_plus_span (pos 19_753) (record { months = pos 1; days = pos 0 }) Down ≡ Ok (pos 19_782))
    × (day_plus_span (pos 19_753) (record { months = pos 1; days = pos 0 }) Up ≡ Ok (pos 19_783))
    × (day_plus_span (pos 19_753) (record { months = pos 1; days = pos 0 }) Refuse ≡ Err AmbiguousDate)
    × (day_plus_span (pos 2_932_896) (record { months = pos 0; days = pos 1 }) Up ≡ Err Overflow)
    × (day_plus_span (pos 19_753) (record { months = neg_ℤ (pos 9_223_372_036_854_775_807); days = pos 0 }) Refuse ≡ Err
    Overflow)
unfolding cat_date_on_literals
known_sums = (refl, refl, refl, refl, refl)

pub known_texts : (day_text (negsuc 719_161) ≡ codes "0001-01-01") × (day_text (pos 19_782) ≡ codes "2024-02-29")
    × (day_of_text (codes "2024-02-29") ≡ Ok (pos 19_782))
    × (day_of_text (codes "2023-02-29") ≡ Err NotADay)
    × (day_of_text (codes "2024-2-029") ≡ Err NotADay)
    × (day_of_text (codes "2024-02-290") ≡ Err NotADay)
unfolding cat_date_on_literals
known_texts = (refl, refl, refl, refl, refl, refl)

pub known_orders : (compared_spans (record { months = pos 1; days = pos 0 }) (record { months = pos 0; days = pos 31 })
    ≡ Err Uncomparable)
    × (compared_spans (record { months = pos 1; days = pos 0 }) (record { months = pos 12; days = pos 0 }) ≡ Ok Less)
    × (compared_spans (record { months = pos 0; days = pos 0 }) (record { months = pos 0; days = pos 0 }) ≡ Ok Equal)
    × (compared_spans (record { months = pos 0; days = pos 7 }) (record { months = pos 0; days = negsuc 6 }) ≡ Ok
    Greater)
    × (compared_spans (record { months = pos 1; days = pos 1 }) (record { months = pos 1; days = pos 1 }) ≡ Err
    Uncomparable)
unfolding cat_date_on_literals
known_orders = (refl, refl, refl, refl, refl)

-- the greatest part and one more, and both parts by a negative number
pub known_spans : (span_sum (record { months = pos 9_223_372_036_854_775_806; days = pos 0 })
    (record { months = pos 1; days = pos 1 }) ≡ Ok (record { months = pos 9_223_372_036_854_775_807; days = pos 1 }))
    × (span_sum (record { months = pos 0; days = pos 9_223_372_036_854_775_807 })
    (record { months = pos 0; days = pos 1 }) ≡ Err Overflow)
    × (span_difference (record { months = negsuc 9_223_372_036_854_775_806; days = pos 0 })
    (record { months = pos 1; days = pos 0 }) ≡ Err Overflow)
    × (span_multiple (record { months = pos 2; days = negsuc 2 }) (negsuc 1) ≡ Ok
    (record { months = negsuc 3; days = pos 6 }))
    × (span_multiple (record { months = pos 1; days = pos 0 }) (negsuc 9_223_372_036_854_775_807) ≡ Err Overflow)
unfolding cat_date_on_literals
known_spans = (refl, refl, refl, refl, refl)
