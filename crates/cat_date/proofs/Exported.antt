-- What crates above may cite by path: rewriting and induction, which no clause of a law can give.
pub use Rattle.cat_date.proofs.CalendarLemmas.{IsDay-epoch_day, bounds-IsDay, civil-is_civil, epoch_day-day_number}
unfoldable pub use Rattle.cat_date.proofs.OnLiterals.{cat_date_on_literals}
pub use Rattle.cat_date.proofs.TextLemmas.{length-form_of, other_length}
pub use Rattle.cat_date.proofs.DateOfDay.{civil_of-IsDateOf}
