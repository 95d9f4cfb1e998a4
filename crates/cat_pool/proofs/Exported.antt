-- What crates above may cite by path: how what is read of a pool stays, and that its marks do.
pub use Rattle.cat_pool.proofs.Reading.{at-front, at-last, below-append, below-drop, below-more, below-take}
pub use Rattle.cat_pool.proofs.Reading.{in_range-append, kept_parts-append}
pub use Rattle.cat_pool.proofs.Reading.{length-values, map_at-front, seen_at-front, slice_get-at, values-append}
pub use Rattle.cat_pool.proofs.Cutting.{IsMarkIn-of_Extends}
pub use Rattle.cat_pool.proofs.Counting.{extends_itself, extends_more}
pub use Rattle.cat_pool.proofs.LoadingLemmas.{behind_of, extends_on, longer, seen_at-extends}
