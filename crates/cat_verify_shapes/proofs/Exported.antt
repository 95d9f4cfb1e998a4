-- What crates above may cite by path: where instructions lead, and what fitting shapes tell of where a run may come.
pub use Rattle.cat_verify_shapes.proofs.FlowPlaces.{EntersFunction}
pub use Rattle.cat_verify_shapes.proofs.PlaceLemmas.{forward_there}
pub use Rattle.cat_verify_shapes.proofs.FineLemmas.{fine_there}
pub use Rattle.cat_verify_shapes.proofs.OwnedShapes.{leads_fine, comes_own, one_owner}
