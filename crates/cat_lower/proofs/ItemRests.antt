-- Items that are laid one by one: functions, what is given to a called scope, and outputs.
use Rattle.std.proofs.Common.{◌≡◌, ℕ, ◌+◌, true, false, List, [], ◌∷◌, ◌++◌, length, sym, ap, ◌∙◌, append_assoc}
use Rattle.cat_value.specs.declared.declaration.ItemDecl.{ItemDecl}
use Rattle.cat_value.specs.Inputs.{may_be_given, is_output}
use Rattle.cat_scope.specs.Names.{is_function}
use Rattle.cat_code.specs.declared.instr.Instr.TheVariants as instr
use Rattle.cat_lower.specs.declared.growing.Growing.{Growing}
use Rattle.cat_lower.specs.Grown.{Grown, ends_of}
use Rattle.cat_lower.specs.Laying.{Ends, then_code, led, end_of}
use Rattle.cat_lower.specs.Scopes.{ScopeStanding, function_code, functions_code, function_entries, inner_code}
use Rattle.cat_lower.specs.Scopes.{inner_codes, outputs_code}
use Rattle.cat_lower.proofs.Grows.{ends_are}
use Rattle.cat_lower.proofs.Rests.{if_true, if_false}

module _ (at : ScopeStanding) (n : ℕ) (items rest : List ItemDecl) (item : ItemDecl) (is : items ≡ item ∷ rest) where
  pub no_function : is_function item ≡ false → functions_code at n items ≡ functions_code at (n + 1) rest
  no_function other =
      ap (λ (l : List ItemDecl). functions_code at n l) is
      ∙ if_false (is_function item) (then_code (function_code at n item) (functions_code at (n + 1) rest))
      (functions_code at (n + 1) rest) other

  pub a_function : is_function item ≡ true
      → functions_code at n items ≡ then_code (function_code at n item) (functions_code at (n + 1) rest)
  a_function function =
      ap (λ (l : List ItemDecl). functions_code at n l) is
      ∙ if_true (is_function item) (then_code (function_code at n item) (functions_code at (n + 1) rest))
      (functions_code at (n + 1) rest) function

  no_entry : (ends : Ends) → is_function item ≡ false
      → function_entries at n items ends ≡ function_entries at (n + 1) rest ends
  no_entry ends other =
      ap (λ (l : List ItemDecl). function_entries at n l ends) is
      ∙ if_false (is_function item)
      (ends.place ∷ function_entries at (n + 1) rest (end_of (function_code at n item) ends))
      (function_entries at (n + 1) rest ends) other

  an_entry : (ends : Ends) → is_function item ≡ true
      → function_entries at n items ends ≡ ends.place
      ∷ function_entries at (n + 1) rest (end_of (function_code at n item) ends)
  an_entry ends function =
      ap (λ (l : List ItemDecl). function_entries at n l ends) is
      ∙ if_true (is_function item)
      (ends.place ∷ function_entries at (n + 1) rest (end_of (function_code at n item) ends))
      (function_entries at (n + 1) rest ends) function

  -- the entries that are there, with those that are left
  pub not_entered : (ends : Ends) (made whole : List ℕ) → is_function item ≡ false
      → made ++ function_entries at n items ends ≡ whole
      → made ++ function_entries at (n + 1) rest ends ≡ whole
  not_entered ends made whole other so_far = ap (λ (l : List ℕ). made ++ l) (sym (no_entry ends other)) ∙ so_far

  pub entered : (old new : Growing) (p : ℕ) (made now whole : List ℕ) → is_function item ≡ true
      → p ≡ length old.instructions → now ≡ made ++ p ∷ []
      → Grown old new (function_code at n item) → made ++ function_entries at n items (ends_of old) ≡ whole
      → now ++ function_entries at (n + 1) rest (ends_of new) ≡ whole
  entered old new p made now whole function place pushed grown so_far =
      let later : List ℕ = function_entries at (n + 1) rest (ends_of new) in
      let begins : function_entries at n items (ends_of old) ≡ p ∷ later =
      an_entry (ends_of old) function
      ∙ ap (λ (e : Ends). length old.instructions ∷ function_entries at (n + 1) rest e)
      (sym (ends_are old new (function_code at n item) grown))
      ∙ ap (λ (m : ℕ). m ∷ later) (sym place) in
      ap (λ (l : List ℕ). l ++ later) pushed ∙ append_assoc made (p ∷ []) later
      ∙ ap (λ (l : List ℕ). made ++ l) (sym begins) ∙ so_far

  pub not_given : (k : ℕ) (decl : ItemDecl) → may_be_given item.kind ≡ false
      → inner_codes at k decl n items ≡ inner_codes at k decl (n + 1) rest
  not_given k decl other =
      ap (λ (l : List ItemDecl). inner_codes at k decl n l) is
      ∙ if_false (may_be_given item.kind) (then_code (inner_code at k decl n item) (inner_codes at k decl (n + 1) rest))
      (inner_codes at k decl (n + 1) rest) other

  pub one_given : (k : ℕ) (decl : ItemDecl) → may_be_given item.kind ≡ true
      → inner_codes at k decl n items ≡ then_code (inner_code at k decl n item) (inner_codes at k decl (n + 1) rest)
  one_given k decl given =
      ap (λ (l : List ItemDecl). inner_codes at k decl n l) is
      ∙ if_true (may_be_given item.kind) (then_code (inner_code at k decl n item) (inner_codes at k decl (n + 1) rest))
      (inner_codes at k decl (n + 1) rest) given

module _ (n : ℕ) (items rest : List ItemDecl) (item : ItemDecl) (is : items ≡ item ∷ rest) where
  pub no_output : is_output item.kind ≡ false → outputs_code n items ≡ outputs_code (n + 1) rest
  no_output other =
      ap (λ (l : List ItemDecl). outputs_code n l) is
      ∙ if_false (is_output item.kind) (led (instr.Slot n) (outputs_code (n + 1) rest))
      (outputs_code (n + 1) rest) other

  pub an_output : is_output item.kind ≡ true → outputs_code n items ≡ led (instr.Slot n) (outputs_code (n + 1) rest)
  an_output output =
      ap (λ (l : List ItemDecl). outputs_code n l) is
      ∙ if_true (is_output item.kind) (led (instr.Slot n) (outputs_code (n + 1) rest))
      (outputs_code (n + 1) rest) output
