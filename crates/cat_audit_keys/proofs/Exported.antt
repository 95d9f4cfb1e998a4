-- What crates above may cite by path: rewriting, which no clause of a call can give.
pub use Rattle.cat_audit_keys.proofs.KeyForms.{arm_of, field_of, opened, key_level, arm_is, field_is, parts_are}
pub use Rattle.cat_audit_keys.proofs.KeyForms.{form_is}
pub use Rattle.cat_audit_keys.proofs.KeyLaws.{tells, one_key}
pub use Rattle.cat_audit_keys.proofs.TermLaws.{one_term}
pub use Rattle.cat_audit_keys.proofs.CutLaws.{one_cut}
