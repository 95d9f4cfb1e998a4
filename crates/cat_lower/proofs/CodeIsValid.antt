-- The code of a calculus is valid, and tame with that.
use Rattle.std.proofs.Common.{◌≡◌, ℕ, suc, ◌+◌, List, [], ◌∷◌, length, Some, slice_get, refl}
use Rattle.std.proofs.Common.{sym, ap, ◌∙◌, subst, arith}
use Rattle.cat_value.specs.declared.decls.Decls.{Decls}
use Rattle.cat_value.specs.declared.declaration.Scope.{Scope}
use Rattle.cat_value.specs.Laws.{AreSound}
use Rattle.cat_scope.specs.Names.{AllHave}
use Rattle.cat_calc.specs.declared.calcs.CalcScope.{CalcScope}
use Rattle.cat_calc.specs.declared.calcs.Calc.{Calc}
use Rattle.cat_calc.specs.WellFormed.{AreCalcScopes, IsCalc}
use Rattle.cat_code.specs.declared.instr.Instr.{Instr}
use Rattle.cat_code.specs.declared.code.Constant.{Constant}
use Rattle.cat_code.specs.declared.code.TargetEntry.{TargetEntry}
use Rattle.cat_code.specs.declared.code.Tables.{Tables}
use Rattle.cat_code.specs.Shapes.{Owner, Shape}
use Rattle.cat_code.specs.Places.{function_places, functions_from, functions_in}
use Rattle.cat_code.specs.Shaped.{scope_entry}
use Rattle.cat_code.specs.Valid.{IsValidBy, IsValid}
use Rattle.cat_lower.specs.Laying.{Ends, end_of}
use Rattle.cat_lower.specs.Stands.{HasAt}
use Rattle.cat_lower.specs.Scopes.{function_entries}
use Rattle.cat_lower.specs.Definitions.{definitions_of}
use Rattle.cat_lower.specs.Lowered.{AreCodeOf, scopes_laid, calc_laid, none, standing, scope_code}
use Rattle.cat_lower.proofs.Stacks.{length_append}
use Rattle.cat_lower.proofs.Whole.{has_self, has_all}
use Rattle.cat_lower.proofs.Places.{past_length}
use Rattle.cat_lower.proofs.LaidScopes.{entries_counted}
use Rattle.cat_lower.proofs.Spots.{Spots, Arrives, AreKept, IsConstant, IsTargetEntry}
use Rattle.cat_lower.proofs.Ranks.{Calls, entry}
use Rattle.cat_lower.proofs.KeptCode.{shapes_of}
use Rattle.cat_lower.proofs.ValidCode.{AllKept, is_valid}
use Rattle.cat_lower.proofs.AllCode.{all_kept}

as_many : (ds : Decls) (scopes : List Scope) (all : List CalcScope) → AreCalcScopes ds scopes all
    → length scopes ≡ length all
as_many ds [] [] are = refl
as_many ds [] (t ∷ all) are = absurd are
as_many ds (s ∷ scopes) [] are = absurd are
as_many ds (s ∷ scopes) (t ∷ all) are = ap suc (as_many ds scopes all are.1)

-- each function has an entry
functions_counted : (ds : Decls) (ss : List Scope) (rest : List CalcScope) (n functions definitions : ℕ) (ends : Ends)
    → length ss ≡ length rest
    → length (scopes_laid ds n functions definitions ss rest ends).functions ≡ length (functions_from n ss)
functions_counted ds [] rest n functions definitions ends same = refl
functions_counted ds (s ∷ ss) [] n functions definitions ends same = absurd (omega (arith, same))
functions_counted ds (s ∷ ss) (t ∷ rest) n functions definitions ends same =
    let at = standing ds n functions definitions s t in
    let later =
    functions_counted ds ss rest (n + 1) (functions + length (functions_in n 0 s.items))
    (definitions + length (definitions_of t.terms []))
    (end_of (scope_code at) ends) (omega (arith, same)) in
    length_append (function_entries at 0 s.items ends) _
    ∙ ap (λ m. m + length (scopes_laid ds (n + 1) (functions + length (functions_in n 0 s.items))
    (definitions + length (definitions_of t.terms [])) ss rest
    (end_of (scope_code at) ends)).functions) (entries_counted at s.items 0 ends n 0)
    ∙ ap (λ m. length (functions_in n 0 s.items) + m) later
    ∙ sym (length_append (functions_in n 0 s.items) (functions_from (n + 1) ss))

module _ (calc : Calc) (given : Tables) (code : List Instr) (low : AreCodeOf calc given code)
    (formed : IsCalc calc.decls calc.scopes calc.scope_order)
    (sound : AreSound calc.decls) where
  -- the tables, with the declarations of the calculus
  abbrev tables : Tables
  tables = record given { decls = calc.decls }

  same_tables : tables ≡ given
  same_tables = ap (λ (d : Decls). record given { decls = d }) (sym low.decls)

  abbrev M : Owner → Owner → Type 0
  M = Calls calc.decls calc.scopes calc.scope_order

  abbrev E : ℕ → Shape
  E = entry calc.decls calc.scopes calc.scope_order

  zero_in_front : (i : ℕ) → i ≡ 0 + i
  zero_in_front i = omega arith

  abbrev whole : AllKept tables code M E none (calc_laid calc) 0 0 calc.decls.scopes
  whole =
      all_kept tables code calc.scopes calc.scope_order sound low.cases formed calc.decls.scopes calc.scopes 0 0 0 none
      (as_many calc.decls calc.decls.scopes calc.scopes formed.scopes_are)
      (record {
        instructions = has_all code (calc_laid calc).code.instructions low.instructions;
        constants = has_all given.constants (calc_laid calc).code.constants low.constants;
        positions = has_all given.positions (calc_laid calc).code.positions low.positions;
        targets = has_all given.targets (calc_laid calc).code.targets low.targets;
      })
      (has_all given.functions (calc_laid calc).functions low.functions)
      (has_all given.scopes (calc_laid calc).scopes low.scopes)
      (has_all given.definitions (calc_laid calc).definitions low.definitions)
      (has_self (function_places calc.decls))
      (λ i s is. ap (λ m. slice_get calc.decls.scopes m) (sym (zero_in_front i)) ∙ is)
      (λ i t is. ap (λ m. slice_get calc.scopes m) (sym (zero_in_front i)) ∙ is)

  abbrev all : Spots
  all = whole.kept.spots

  there : HasAt all 0 all
  there = has_self all

  entered : (i p : ℕ) → slice_get tables.functions i ≡ Some p → Arrives all p (E i)
  entered i p is =
      subst (λ m. Arrives all p (E m)) (sym (zero_in_front i))
      (whole.entered all there i p (ap (λ (l : List ℕ). slice_get l i) (sym low.functions) ∙ is))

  begun : (i p : ℕ) (scope : Scope) → slice_get calc.decls.scopes i ≡ Some scope → slice_get tables.scopes i ≡ Some p
      → Arrives all p (scope_entry i scope.items)
  begun i p scope is_scope is =
      subst (λ m. Arrives all p (scope_entry m scope.items)) (sym (zero_in_front i))
      (whole.begun all there i p scope is_scope (ap (λ (l : List ℕ). slice_get l i) (sym low.scopes) ∙ is))

  kept : AreKept tables code M E all 0 code all
  kept =
      subst (λ (is : List Instr). AreKept tables code M E all 0 is all) (sym low.instructions)
      (whole.kept.kept all (λ f place is. (entered f place is).0) there)

  long : length all ≡ length code
  long =
      let a = past_length 0 all in
      let b = past_length 0 (calc_laid calc).code.instructions in
      let c = whole.kept.as_long 0 in
      let d = ap (λ (is : List Instr). length is) low.instructions in
      omega (arith, a, b, c, d)

  valid : IsValidBy tables code (shapes_of tables code M E all all)
  valid =
      is_valid tables code calc.scopes calc.scope_order all kept long entered begun
      (ap (λ (l : List ℕ). length l) low.scopes ∙ whole.counted) low.cases
      (ap (λ (l : List ℕ). length l) low.functions
      ∙ functions_counted calc.decls calc.decls.scopes calc.scopes 0 0 0 none
      (as_many calc.decls calc.decls.scopes calc.scopes formed.scopes_are))
      (subst (λ (cs : List Constant). AllHave (IsConstant tables) cs) (sym low.constants) whole.kept.constants)
      (subst (λ (es : List TargetEntry). AllHave (IsTargetEntry tables) es) (sym low.targets) whole.kept.targets)

  pub code_is_valid : IsValid given code
  code_is_valid = subst (λ (t : Tables). IsValid t code) same_tables (shapes_of tables code M E all all, valid)
