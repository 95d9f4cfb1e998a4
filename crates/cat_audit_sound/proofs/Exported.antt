-- What crates above may cite by path: rewriting, which no clause of a call can give.
pub use Rattle.cat_audit_sound.proofs.PartEquations.{part_Structure, part_other}
pub use Rattle.cat_audit_sound.proofs.AskedTypes.{IsAskedOf}
pub use Rattle.cat_audit_sound.proofs.AtomAnswers.{IsOfDef, targets_all}
pub use Rattle.cat_audit_sound.proofs.AtomAnswers.{params_agree, any_values_length, append_nil, alike_points}
pub use Rattle.cat_audit_sound.proofs.Numbered.{all_at}
pub use Rattle.cat_audit_sound.proofs.Numbered.{numbered, get_map, all_are}
pub use Rattle.cat_audit_sound.proofs.SameSelf.{question_of_term, IsOneTerm, one_term, one_question}
unfoldable pub use Rattle.cat_audit_sound.proofs.TableGroups.{IsAt}
pub use Rattle.cat_audit_sound.proofs.TableGroups.{defs_at, same_def, place_is, group_there, no_group, above_are}
pub use Rattle.cat_audit_sound.proofs.TableGroups.{as_many, no_cycle}
pub use Rattle.cat_audit_sound.proofs.AuditLaws.{body_is}
pub use Rattle.cat_audit_sound.proofs.TypedLaws.{drop_at}
