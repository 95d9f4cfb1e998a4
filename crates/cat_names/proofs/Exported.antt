-- What crates above may cite by path: rewriting, which no clause of a law can give.
pub use Rattle.cat_names.proofs.TypeEquations.{views}
pub use Rattle.cat_names.proofs.SameTypes.{decided}
pub use Rattle.cat_names.proofs.Equations.{alone, forms, meant_Binary, meant_Call, meant_Case, meant_Combine}
pub use Rattle.cat_names.proofs.Equations.{meant_Content, meant_Each, meant_Field, meant_If, meant_List, meant_Literal}
pub use Rattle.cat_names.proofs.Equations.{meant_Match, meant_Name, meant_Parens, meant_Prefixed, meant_ScopeCall}
pub use Rattle.cat_names.proofs.Equations.{meant_Structure, meant_Sum, meant_Test}
pub use Rattle.cat_names.proofs.UnknownEquations.{arm_row, field_row, unknowns, unknown_Binary, unknown_Call}
pub use Rattle.cat_names.proofs.UnknownEquations.{unknown_Case, unknown_Combine, unknown_Content, unknown_Each}
pub use Rattle.cat_names.proofs.UnknownEquations.{unknown_Field, unknown_If, unknown_List, unknown_Literal}
pub use Rattle.cat_names.proofs.UnknownEquations.{unknown_Match, unknown_Name, unknown_Parens, unknown_Prefixed}
pub use Rattle.cat_names.proofs.UnknownEquations.{unknown_ScopeCall, unknown_Structure, unknown_Sum, unknown_Test}
pub use Rattle.cat_names.proofs.WordEquations.{words}
pub use Rattle.cat_names.proofs.ListLaws.{behind, in_front}
pub use Rattle.cat_names.proofs.OkParts.{both_ok, then_ok}
pub use Rattle.cat_names.proofs.OnlyLaws.{split}
pub use Rattle.cat_names.proofs.KnownBodies.{item_name}
pub use Rattle.cat_names.proofs.Steps.{beside_stands, found_stands, left_stands, left_tells}
pub use Rattle.cat_names.proofs.Steps.{right_stands, right_tells, then_stands, then_tells}
pub use Rattle.cat_names.proofs.Lookups.{first_is, inner_is, numbered_is, one_of_two}
pub use Rattle.cat_names.proofs.DistinctNames.{Apart, names_apart, scopes_apart, first_at}
pub use Rattle.cat_names.proofs.CycleFound.{Cyclic, Ordered, ordered_or_cyclic}
pub use Rattle.cat_names.proofs.DeclaredForward.{each_on, as_many}
pub use Rattle.cat_names.proofs.MadeTypes.{AreMade, IsMade, nested_named, types_are_items}
pub use Rattle.cat_names.proofs.DeclaredMade.{DeclaredParts, declared_parts, all_made, are_made}
pub use Rattle.cat_names.proofs.LowDeclared.{AreLow, declared_low}
pub use Rattle.cat_names.proofs.SoundDeclared.{declared_sound}
pub use Rattle.cat_names.proofs.DeclaredCounts.{fine_items, none_past, positions_counted}
pub use Rattle.cat_names.proofs.ByOrder.{by_order}
pub use Rattle.cat_names.proofs.WholeLaws.{IsTypedBody}
pub use Rattle.cat_names.proofs.MeantCalls.{IsCalledBy}
pub use Rattle.cat_names.proofs.MeantDependencies.{CallOf, meant_body, meant_called, meant_calls, meant_counted}
pub use Rattle.cat_names.proofs.MeantDependencies.{meant_items, meant_scopes, meant_targets}
pub use Rattle.cat_names.proofs.ShortChains.{chains_short, functions_short, functions_are_items}
pub use Rattle.cat_names.proofs.SoundDeclared.{declared_are_sound}
pub use Rattle.cat_names.proofs.RefusedLaws.{IsSound, with_parts, parts_same}
