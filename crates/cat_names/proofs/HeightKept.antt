-- Where declarations keep what they are to keep, no declared type is too high.
use Rattle.std.proofs.Common.{◌≡◌, ◌≤◌, ◌&&◌, not, nat_le, ℕ, suc, false, List, [], Option, Some, None, slice_get, refl}
use Rattle.std.proofs.Common.{arith, rules}
use Rattle.std.proofs.lemmas.Bool.Decides.{nat_tests}
use Rattle.cat_value.specs.declared.ty.Ty.{Ty}
use Rattle.cat_value.specs.declared.ty.Ty.TheVariants as flat_ty
use Rattle.cat_value.specs.declared.ty.Ty.TheViews as ty
use Rattle.cat_value.specs.declared.declaration.Structure.{Structure}
use Rattle.cat_value.specs.declared.declaration.Enumeration.{Enumeration}
use Rattle.cat_value.specs.declared.decls.Decls.{Decls}
use Rattle.cat_value.specs.Declarations.{highest}
use Rattle.cat_value.specs.Heights.{height_to}
use Rattle.cat_value.specs.Laws.{AreSound, height_of}
use Rattle.cat_tree.specs.declared.name.Name.{Name}
use Rattle.cat_names.specs.declared.fault.Fault.TheVariants.{TooMany}
use Rattle.cat_names.specs.Lists.{numbered}
use Rattle.cat_names.specs.Heights.{is_high, has_low_parts, high_named}
use Rattle.cat_names.specs.Accepted.{parts_of}
use Rattle.cat_names.proofs.Steps.{no_fault}

pub low_test : (h : ℕ) → h ≤ highest → not (nat_le h highest) ≡ false
low_test h low = grind (arith, nat_tests)

-- a number that names nothing is no high type
no_structure : (ss : List Structure) (es : List Enumeration) (k n : ℕ) → slice_get ss n ≡ None
    → height_to ss es (suc k) (flat_ty.Structure n) ≡ 1
unfolding height_to
no_structure ss es k n none = search (rules, ty.the_lemmas, none)

no_enumeration : (ss : List Structure) (es : List Enumeration) (k n : ℕ) → slice_get es n ≡ None
    → height_to ss es (suc k) (flat_ty.Enumeration n) ≡ 1
unfolding height_to
no_enumeration ss es k n none = search (rules, ty.the_lemmas, none)

module _ (ds : Decls) (sound : AreSound ds) where
  structure_low : (n : ℕ) → is_high (parts_of ds) (flat_ty.Structure n) ≡ false
  structure_low n = by (slice_get ds.structures n) refl
    where
      by : (o : Option Structure) → slice_get ds.structures n ≡ o → is_high (parts_of ds) (flat_ty.Structure n) ≡ false
      by None e = low_test (height_of ds (flat_ty.Structure n))
          (omega (arith, no_structure ds.structures ds.enumerations 63 n e))
      by (Some s) e = low_test (height_of ds (flat_ty.Structure n)) ((sound.structures n s e).low)

  enumeration_low : (n : ℕ) → is_high (parts_of ds) (flat_ty.Enumeration n) ≡ false
  enumeration_low n = by (slice_get ds.enumerations n) refl
    where
      by : (o : Option Enumeration) → slice_get ds.enumerations n ≡ o → is_high (parts_of ds) (flat_ty.Enumeration n)
          ≡ false
      by None e = low_test (height_of ds (flat_ty.Enumeration n))
          (omega (arith, no_enumeration ds.structures ds.enumerations 63 n e))
      by (Some s) e = low_test (height_of ds (flat_ty.Enumeration n)) ((sound.enumerations n s e).low)

  named_low : (of_number : ℕ → Ty) → ((n : ℕ) → is_high (parts_of ds) (of_number n) ≡ false) → (ws : List Name)
      → high_named (parts_of ds) of_number ws ≡ []
  named_low of_number low ws =
      no_fault (λ w. is_high (parts_of ds) (of_number w.0) && has_low_parts (parts_of ds) (of_number w.0))
      (λ w. TooMany w.1.pos) (numbered ws) (λ w. rw (low w.0) refl)

  pub structures_named_low : (ws : List Name) → high_named (parts_of ds) flat_ty.Structure ws ≡ []
  structures_named_low ws = named_low flat_ty.Structure structure_low ws

  pub enumerations_named_low : (ws : List Name) → high_named (parts_of ds) flat_ty.Enumeration ws ≡ []
  enumerations_named_low ws = named_low flat_ty.Enumeration enumeration_low ws
