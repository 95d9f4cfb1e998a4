-- Code whose numbers are those of entries, and that keeps the rules of listings, names nothing wrongly.
use Rattle.std.proofs.Common.{◌≡◌, ◌+◌, ℕ, zero, suc, true, false, List, [], ◌∷◌, Some, slice_get}
use Rattle.std.proofs.Common.{subst, arith, sym, true≢false, ◌<◌, ◌∙◌, ◌⊎◌, inl, inr, length}
use Rattle.std.proofs.lemmas.Bool.Decides.{nat_tests}
use Rattle.std.proofs.lemmas.Bool.{and_parts}
use Rattle.std.specs.Prelude.{nat_lt}
use Rattle.cat_code.specs.declared.instr.Instr.{Instr}
use Rattle.cat_code.specs.declared.code.Tables.{Tables}
use Rattle.cat_code.specs.Valid.{keeps_rules, keep_rules, entries_of, places_entered}
use Rattle.cat_code.specs.Places.{function_places}
use Rattle.cat_code.specs.Jumps.{is_within}
use Rattle.cat_value.proofs.Exported.{list_all_at}
use Rattle.cat_verify.specs.WrongCode.{BeginsOutside, CallsAbroad, IsBadNumber, IsUndeclared, NamesWrongly}
use Rattle.cat_verify.specs.inside.GoodNumbers.{HasGoodNumbers}
use Rattle.cat_verify.proofs.OneOf.{at_of_in, within_of}

rule_at : (tables : Tables) (code : List Instr) (places : List ℕ) (p : ℕ) (is : List Instr) (k : ℕ) (i : Instr)
    → keep_rules tables code places p is ≡ true → slice_get is k ≡ Some i
    → keeps_rules tables code places (p + k) i ≡ true
rule_at tables code places p [] k i keep there = absurd (cc there)
rule_at tables code places p (x ∷ is) zero i keep there =
    let here : p ≡ p + 0 = omega arith in
    subst (λ (n : ℕ). keeps_rules tables code places n i ≡ true) here
    (subst (λ (j : Instr). keeps_rules tables code places p j ≡ true) (same there)
    (and_parts (keeps_rules tables code places p x) (keep_rules tables code places (p + 1) is) keep).0)
  where
    same : Some x ≡ Some i → x ≡ i
    same e = cc e
rule_at tables code places p (x ∷ is) (suc k) i keep there =
    let next : p + 1 + k ≡ p + suc k = omega arith in
    subst (λ (n : ℕ). keeps_rules tables code places n i ≡ true) next
    (rule_at tables code places (p + 1) is k i
    (and_parts (keeps_rules tables code places p x) (keep_rules tables code places (p + 1) is) keep).1 there)

rule_there : (tables : Tables) (code : List Instr) (places : List ℕ) (k : ℕ) (i : Instr)
    → keep_rules tables code places 0 code ≡ true → slice_get code k ≡ Some i
    → keeps_rules tables code places k i ≡ true
rule_there tables code places k i keep there =
    let here : 0 + k ≡ k = omega arith in
    subst (λ (n : ℕ). keeps_rules tables code places n i ≡ true) here
    (rule_at tables code places 0 code k i keep there)

module _ (tables : Tables) (code : List Instr) (good : HasGoodNumbers tables code)
    (counted : length tables.functions ≡ length (function_places tables.decls)) where
  none_wrong : (k : ℕ) → NamesWrongly tables code k → ⊥
  none_wrong k names = by_case names.wrong
    where
      by_case : (is_within tables (length code) names.instruction ≡ false)
          ⊎ (keeps_rules tables code (places_entered tables code) k names.instruction ≡ false) → ⊥
      by_case (inl outside) = true≢false (sym (list_all_at (is_within tables (length code)) code k names.instruction
          good.numbers names.is) ∙ outside)
      by_case (inr broken) = true≢false (sym (rule_there tables code (places_entered tables code) k names.instruction
          good.rules names.is) ∙ broken)

  none_outside : (k : ℕ) → BeginsOutside tables code k → ⊥
  none_outside k outside =
      let at = at_of_in (entries_of tables) outside.entry outside.is_entry in
      let inside : nat_lt outside.entry (length code) ≡ true =
      list_all_at (λ place. nat_lt place (length code)) (entries_of tables) at.0 outside.entry good.entries at.1 in
      let past = outside.outside in
      grind (arith, nat_tests, inside, past)

  none_undeclared : (k : ℕ) → IsUndeclared tables code k → ⊥
  none_undeclared k undeclared =
      let within : undeclared.function < length tables.functions =
      within_of tables.functions undeclared.function k undeclared.entry_is in
      let past = undeclared.undeclared in
      omega (arith, within, past, counted)

  -- nothing stands against its numbers where no call leaves its scope
  pub none_bad : ((k : ℕ) → CallsAbroad tables code k → ⊥) → (k : ℕ) → IsBadNumber tables code k → ⊥
  none_bad home k (inl wrong) = none_wrong k wrong
  none_bad home k (inr (inl outside)) = none_outside k outside
  none_bad home k (inr (inr (inl undeclared))) = none_undeclared k undeclared
  none_bad home k (inr (inr (inr abroad))) = home k abroad
