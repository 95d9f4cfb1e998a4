-- What crates above may cite by path: rewriting and induction, which no clause of a law can give.
pub use Rattle.cat_json.proofs.InputsTyped.{items_sound}
pub use Rattle.cat_json.proofs.JsonRead.{json_of-read}
pub use Rattle.cat_json.proofs.Levels.{at_level, members_of-get}
pub use Rattle.cat_json.proofs.NumberTexts.{text_fraction-decimal_bytes, text_cents-money_bytes}
