-- The code of a calculus is valid and tame.
use Rattle.std.proofs.Common.{◌≡◌, ℕ, zero, suc, ◌+◌, nat_lt, ◌&&◌, true, List, [], ◌∷◌, length, Some, is_some}
use Rattle.std.proofs.Common.{slice_get, refl, sym, ap, ◌∙◌, subst, arith}
use Rattle.std.specs.List.{list_all}
use Rattle.cat_value.specs.declared.declaration.Scope.{Scope}
use Rattle.cat_value.specs.Typing.{is_type, has_type}
use Rattle.cat_scope.specs.Fitting.{is_low_type}
use Rattle.cat_scope.specs.Names.{AllHave}
use Rattle.cat_sound.proofs.Results.{and_both}
use Rattle.cat_calc.specs.declared.calcs.CalcScope.{CalcScope}
use Rattle.cat_code.specs.declared.instr.Instr.{Instr}
use Rattle.cat_code.specs.declared.code.Constant.{Constant}
use Rattle.cat_code.specs.declared.code.TargetEntry.{TargetEntry}
use Rattle.cat_code.specs.declared.code.Tables.{Tables}
use Rattle.cat_code.specs.Shapes.{Owner, Shape}
use Rattle.cat_code.specs.Places.{case_places, function_places, target_form}
use Rattle.cat_code.specs.Shaped.{IsMet, AreEntries, scope_entry}
use Rattle.cat_code.specs.Jumps.{jumps_in}
use Rattle.cat_code.specs.Valid.{IsValidBy, constant_is_sound, entries_of, places_entered}
use Rattle.cat_lower.specs.Laying.{Ends}
use Rattle.cat_lower.specs.Stands.{HasAt}
use Rattle.cat_lower.specs.Lowered.{Laid}
use Rattle.cat_lower.proofs.Spots.{Spot, Spots, Arrives, Marked, Meeting, AreKept, IsConstant, IsTargetEntry}
use Rattle.cat_lower.proofs.Sketches.{all_both}
use Rattle.cat_lower.proofs.Ranks.{Calls, entry, calls_further, none_itself}
use Rattle.cat_lower.proofs.KeptCode.{shapes_of, all_fine, all_open, all_ruled, is_tame}
use Rattle.cat_lower.proofs.KeptNumbers.{all_within}
use Rattle.cat_lower.proofs.KeptScopes.{Kept}
use Rattle.cat_lower.proofs.ShapedForms.{within_so}
use Rattle.cat_lower.proofs.ShapedParts.{read_map}

-- constants and targets that are so, one by one
constants_so : (tables : Tables) (cs : List Constant) → AllHave (IsConstant tables) cs
    → list_all (constant_is_sound tables.decls) cs ≡ true
constants_so tables [] h = refl
constants_so tables (c ∷ cs) h =
    let ds = tables.decls in
    let low = and_both (is_type ds c.ty) (is_low_type ds c.ty) h.0.0.declared h.0.0.low in
    let first = and_both (is_type ds c.ty && is_low_type ds c.ty) (has_type ds c.value c.ty) low h.0.1 in
    and_both (constant_is_sound ds c) (list_all (constant_is_sound ds) cs) first (constants_so tables cs h.1)

targets_so : (tables : Tables) (es : List TargetEntry) → AllHave (IsTargetEntry tables) es
    → list_all (λ (e : TargetEntry). is_some (target_form tables.decls e.target)) es ≡ true
targets_so tables [] h = refl
targets_so tables (e ∷ es) h =
    let rest = targets_so tables es h.1 in
    let first : is_some (target_form tables.decls e.target) ≡ true = ap is_some h.0.1 in
    rw (first, rest) refl

-- all code of some scopes is kept, and each of their functions and scopes begins with its shape
pub record AllKept (tables : Tables) (code : List Instr) (M : Owner → Owner → Type 0) (E : ℕ → Shape) (ends : Ends)
    (laid : Laid) (functions n : ℕ)
    (scopes : List Scope) : Type 0 where
  pub kept : Kept tables code M E ends laid.code
  pub entered : (all : Spots) → HasAt all ends.place kept.spots → (i p : ℕ) → slice_get laid.functions i ≡ Some p
      → Arrives all p (E (functions + i))
  pub begun : (all : Spots) → HasAt all ends.place kept.spots → (i p : ℕ) (scope : Scope)
      → slice_get scopes i ≡ Some scope → slice_get laid.scopes i ≡ Some p
      → Arrives all p (scope_entry (n + i) scope.items)
  pub counted : length laid.scopes ≡ length scopes

module _ (tables : Tables) (code : List Instr) (scopes : List CalcScope) (scope_order : List ℕ) (all : Spots)
    (kept : AreKept tables code (Calls tables.decls scopes scope_order)
    (entry tables.decls scopes scope_order) all 0 code all)
    (long : length all ≡ length code)
    (entered : (i p : ℕ) → slice_get tables.functions i ≡ Some p
    → Arrives all p (entry tables.decls scopes scope_order i))
    (begun : (i p : ℕ) (scope : Scope) → slice_get tables.decls.scopes i ≡ Some scope
    → slice_get tables.scopes i ≡ Some p
    → Arrives all p (scope_entry i scope.items))
    (scopes_long : length tables.scopes ≡ length tables.decls.scopes)
    (cases : tables.cases ≡ case_places 0 tables.decls.enumerations)
    (functions_long : length tables.functions ≡ length (function_places tables.decls))
    (constants : AllHave (IsConstant tables) tables.constants)
    (targets : AllHave (IsTargetEntry tables) tables.targets) where
  abbrev M : Owner → Owner → Type 0
  M = Calls tables.decls scopes scope_order

  abbrev E : ℕ → Shape
  E = entry tables.decls scopes scope_order

  -- each entry of a list stands at its number
  numbers_open : (ps : List ℕ) → ((i p : ℕ) → slice_get ps i ≡ Some p → Marked true all p)
      → AllHave (Marked true all) ps
  numbers_open [] each = tt
  numbers_open (p ∷ ps) each = (each 0 p refl, numbers_open ps (λ i q is. each (suc i) q is))

  scope_of : (ss : List Scope) (i : ℕ) (ps : List ℕ) (p : ℕ) → length ps ≡ length ss → slice_get ps i ≡ Some p
      → (s : Scope) × (slice_get ss i ≡ Some s)
  scope_of ss i [] p same is = absurd (cc is)
  scope_of [] i (q ∷ ps) p same is = absurd (omega (arith, same))
  scope_of (s ∷ ss) zero (q ∷ ps) p same is = (s, refl)
  scope_of (s ∷ ss) (suc i) (q ∷ ps) p same is = scope_of ss i ps p (omega (arith, same)) is

  all_entries_open : AllHave (Marked true all) (entries_of tables)
  all_entries_open =
      all_both (Marked true all) tables.scopes tables.functions
      (numbers_open tables.scopes
      (λ i p is. let s = scope_of tables.decls.scopes i tables.scopes p scopes_long is in (begun i p s.0 s.1 is).1))
      (numbers_open tables.functions (λ i p is. (entered i p is).1))

  all_places_open : AllHave (Marked true all) (places_entered tables code)
  all_places_open =
      all_both (Marked true all) (jumps_in code) (entries_of tables)
      (all_open tables code M E all 0 code all kept) all_entries_open

  -- each place that is open is that of an instruction
  places_within : (ps : List ℕ) → AllHave (Marked true all) ps
      → list_all (λ place. nat_lt place (length code)) ps ≡ true
  places_within [] h = refl
  places_within (p ∷ ps) h =
      let first : nat_lt p (length code) ≡ true = ap (nat_lt p) (sym long) ∙ within_so all p h.0.spot h.0.is in
      let rest = places_within ps h.1 in
      rw (first, rest) refl

  met_is : (p : ℕ) (s : Shape) → Meeting all p s → IsMet (shapes_of tables code M E all all) p s
  met_is p s m =
      record { shape = m.spot.shape; is = read_map (λ (x : Spot). Some x.shape) all p m.spot m.is; meets = m.meets }

  entries_met : (n : ℕ) (ss : List Scope) (es : List ℕ) → length es ≡ length ss
      → ((i p : ℕ) (s : Scope) → slice_get ss i ≡ Some s → slice_get es i ≡ Some p
      → Meeting all p (scope_entry (n + i) s.items))
      → AreEntries (shapes_of tables code M E all all) n ss es
  entries_met n [] [] same each = tt
  entries_met n [] (e ∷ es) same each = absurd (omega (arith, same))
  entries_met n (s ∷ ss) [] same each = absurd (omega (arith, same))
  entries_met n (s ∷ ss) (e ∷ es) same each = (
    met_is e (scope_entry n s.items)
        (let z : n + 0 ≡ n = omega arith in
        subst (λ m. Meeting all e (scope_entry m s.items)) z (each 0 e s refl refl)),
    entries_met (n + 1) ss es (omega (arith, same)) (λ i p x is at.
        let z : n + suc i ≡ (n + 1) + i = omega arith in
        subst (λ m. Meeting all p (scope_entry m x.items)) z (each (suc i) p x is at)),
  )

  pub is_valid : IsValidBy tables code (shapes_of tables code M E all all)
  is_valid = record {
    cases = cases;
    functions = functions_long;
    targets = targets_so tables tables.targets targets;
    constants = constants_so tables tables.constants constants;
    entries = places_within (entries_of tables) all_entries_open;
    numbers = all_within tables code M E all long scopes_long 0 code all kept;
    rules = all_ruled tables code M E all (places_entered tables code) all_places_open 0 code all kept;
    shaped = record {
      entries = entries_met 0 tables.decls.scopes tables.scopes scopes_long (λ i p s is at.
          let z : i ≡ 0 + i = omega arith in
          subst (λ m. Meeting all p (scope_entry m s.items)) z (begun i p s is at).0);
      fine = all_fine tables code M E all 0 code all kept;
    };
    tame =
        is_tame tables code M E all kept (calls_further tables.decls scopes scope_order)
        (none_itself tables.decls scopes scope_order);
  }
