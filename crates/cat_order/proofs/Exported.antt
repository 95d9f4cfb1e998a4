-- What crates above may cite by path: rewriting and induction, which no clause of a law can give.
pub use Rattle.cat_order.proofs.Theorems.{order_of-iff_IsOrder}
pub use Rattle.cat_order.proofs.Fronts.{Ready-of_is_ready}
pub use Rattle.cat_order.proofs.Apart.{apart_push}
