-- Scopes that are laid one behind the other.
use Rattle.std.proofs.Common.{◌≡◌, ℕ, suc, ◌+◌, Bool, true, false, List, [], ◌∷◌, ◌++◌, length, refl, sym, ap, ◌∙◌}
use Rattle.std.proofs.Common.{subst, append_assoc, length-append, Result, Ok, Err, OnOk, if◌then◌else◌}
use Rattle.std.specs.declared.alloc.AllocError.{AllocError}
use Rattle.cat_pos.specs.declared.pos.Pos.{Pos}
use Rattle.cat_value.specs.declared.decls.Decls.{Decls}
use Rattle.cat_value.specs.declared.declaration.ItemDecl.{ItemDecl}
use Rattle.cat_value.specs.declared.declaration.Scope.{Scope}
use Rattle.cat_scope.specs.Names.{is_function}
use Rattle.cat_calc.specs.declared.calcs.CalcScope.{CalcScope}
use Rattle.cat_code.specs.Places.{functions_in}
use Rattle.cat_lower.specs.declared.calculus.Draft.{Draft}
use Rattle.cat_lower.specs.Laying.{Ends, nothing, end_of}
use Rattle.cat_lower.specs.Grown.{ends_of, Grown}
use Rattle.cat_lower.specs.Scopes.{ScopeStanding, function_code, functions_code, function_entries}
use Rattle.cat_lower.specs.Definitions.{definitions_of}
use Rattle.cat_lower.specs.Lowered.{Laid, scope_code, standing, in_front, scopes_laid}
use Rattle.cat_lower.specs.Drafts.{Lays, Holds}
use Rattle.cat_lower.proofs.Grows.{ends_are, none_more}

-- what stands there, with all that is left, is all
pub record GoesTo (draft : Draft) (rest whole : Laid) : Type 0 where
  pub instructions : draft.growing.instructions ++ rest.code.instructions ≡ whole.code.instructions
  pub constants : draft.growing.constants ++ rest.code.constants ≡ whole.code.constants
  pub positions : draft.growing.positions ++ rest.code.positions ≡ whole.code.positions
  pub targets : draft.growing.targets ++ rest.code.targets ≡ whole.code.targets
  pub functions : draft.functions ++ rest.functions ≡ whole.functions
  pub scopes : draft.scopes ++ rest.scopes ≡ whole.scopes
  pub definitions : draft.definitions ++ rest.definitions ≡ whole.definitions

-- all that is left from scope n on
abbrev pub left_of : Decls → ℕ → List Scope → List CalcScope → Draft → Laid
left_of ds n scopes terms draft =
    scopes_laid ds n (length draft.functions) (length draft.definitions) scopes terms (ends_of draft.growing)

-- there are as many entries of functions as functions
entries_counted : (at : ScopeStanding) (items : List ItemDecl) (j : ℕ) (ends : Ends) (n k : ℕ)
    → length (function_entries at j items ends) ≡ length (functions_in n k items)
entries_counted at [] j ends n k = refl
entries_counted at (item ∷ items) j ends n k =
    by (is_function item) (entries_counted at items (j + 1) (end_of (function_code at j item) ends) n (k + 1))
    (entries_counted at items (j + 1) ends n (k + 1))
  where
    by : (b : Bool) → length (function_entries at (j + 1) items (end_of (function_code at j item) ends))
        ≡ length (functions_in n (k + 1) items)
        → length (function_entries at (j + 1) items ends) ≡ length (functions_in n (k + 1) items)
        → length (if b then ends.place ∷ function_entries at (j + 1) items (end_of (function_code at j item) ends)
        else function_entries at (j + 1) items ends)
        ≡ length (if b then record { scope = n; item = k; decl = item } ∷ functions_in n (k + 1) items
        else functions_in n (k + 1) items)
    by true e f = ap suc e
    by false e f = f

on : {A : Type 0} (old new part rest whole : List A) → new ≡ old ++ part → old ++ (part ++ rest) ≡ whole
    → new ++ rest ≡ whole
on old new part rest whole is so_far = ap (λ l. l ++ rest) is ∙ append_assoc old part rest ∙ so_far

-- a scope more
pub goes_on : (ds : Decls) (n : ℕ) (scope : Scope) (scopes all_scopes : List Scope) (terms : CalcScope)
    (rest all_terms : List CalcScope)
    (old new : Draft) (whole : Laid) → all_scopes ≡ scope ∷ scopes → all_terms ≡ terms ∷ rest
    → Lays old new (standing ds n (length old.functions) (length old.definitions) scope terms)
    → GoesTo old (left_of ds n all_scopes all_terms old) whole → GoesTo new (left_of ds (n + 1) scopes rest new) whole
goes_on ds n scope scopes all_scopes terms rest all_terms old new whole is_scopes is_terms laid so_far =
    let at = standing ds n (length old.functions) (length old.definitions) scope terms in
    let ends = ends_of old.growing in
    let first : GoesTo old (left_of ds n (scope ∷ scopes) (terms ∷ rest) old) whole =
    subst (λ (l : List CalcScope). GoesTo old (left_of ds n (scope ∷ scopes) l old) whole) is_terms
    (subst (λ (l : List Scope). GoesTo old (left_of ds n l all_terms old) whole) is_scopes so_far) in
    let functions : length old.functions + length (functions_in n 0 scope.items) ≡ length new.functions =
    ap (λ (m : ℕ). length old.functions + m) (sym (entries_counted at scope.items 0 ends n 0))
    ∙ sym (ap length laid.functions ∙ length-append old.functions (function_entries at 0 scope.items ends)) in
    let definitions : length old.definitions + length (definitions_of terms.terms []) ≡ length new.definitions =
    sym (ap length laid.definitions ∙ length-append old.definitions (definitions_of terms.terms [])) in
    let behind : scopes_laid ds (n + 1) (length old.functions + length (functions_in n 0 scope.items))
    (length old.definitions + length (definitions_of terms.terms [])) scopes rest (end_of (scope_code at) ends)
    ≡ left_of ds (n + 1) scopes rest new =
    ap (λ (m : ℕ). scopes_laid ds (n + 1) m
    (length old.definitions + length (definitions_of terms.terms [])) scopes rest (end_of (scope_code at) ends))
    functions
    ∙ ap (λ (m : ℕ). scopes_laid ds (n + 1) (length new.functions) m scopes rest (end_of (scope_code at) ends))
    definitions
    ∙ ap (λ (e : Ends). scopes_laid ds (n + 1) (length new.functions) (length new.definitions) scopes rest e)
    (sym (ends_are old.growing new.growing (scope_code at) laid.growing)) in
    let told : GoesTo old (in_front at ends (left_of ds (n + 1) scopes rest new)) whole =
    subst (λ (l : Laid). GoesTo old (in_front at ends l) whole) behind first in
    record {
      instructions = on _ _ _ _ _ laid.growing.instructions told.instructions;
      constants = on _ _ _ _ _ laid.growing.constants told.constants;
      positions = on _ _ _ _ _ laid.growing.positions told.positions;
      targets = on _ _ _ _ _ laid.growing.targets told.targets;
      functions = on _ _ _ _ _ laid.functions told.functions;
      scopes = on _ _ _ _ _ laid.scopes told.scopes;
      definitions = on _ _ _ _ _ laid.definitions told.definitions;
    }

-- nothing more
abbrev empty_rest : Ends → Laid
empty_rest ends = record { code = nothing ends; functions = []; scopes = []; definitions = [] }

all_there : (draft : Draft) (ends : Ends) (whole : Laid) → GoesTo draft (empty_rest ends) whole → Holds draft whole
all_there draft ends whole g = record {
  instructions = none_more draft.growing.instructions ∙ g.instructions;
  constants = none_more draft.growing.constants ∙ g.constants;
  positions = none_more draft.growing.positions ∙ g.positions;
  targets = none_more draft.growing.targets ∙ g.targets;
  functions = none_more draft.functions ∙ g.functions;
  scopes = none_more draft.scopes ∙ g.scopes;
  definitions = none_more draft.definitions ∙ g.definitions;
}

-- no scope has terms left, or no terms have a scope
pub no_terms : (ds : Decls) (n : ℕ) (scopes : List Scope) (terms : List CalcScope) (draft : Draft) (whole : Laid)
    → terms ≡ []
    → GoesTo draft (left_of ds n scopes terms draft) whole → Holds draft whole
no_terms ds n [] terms draft whole is g = all_there draft (ends_of draft.growing) whole g
no_terms ds n (s ∷ scopes) terms draft whole is g =
    all_there draft (ends_of draft.growing) whole
    (subst (λ (l : List CalcScope). GoesTo draft (left_of ds n (s ∷ scopes) l draft) whole) is g)

pub no_scopes : (ds : Decls) (n : ℕ) (scopes : List Scope) (terms : List CalcScope) (draft : Draft) (whole : Laid)
    → scopes ≡ []
    → GoesTo draft (left_of ds n scopes terms draft) whole → Holds draft whole
no_scopes ds n scopes terms draft whole is g =
    all_there draft (ends_of draft.growing) whole
    (subst (λ (l : List Scope). GoesTo draft (left_of ds n l terms draft) whole) is g)

standing_alike : (ds : Decls) (scope : Scope) (terms : CalcScope) (n m f g d e : ℕ) → n ≡ m → f ≡ g → d ≡ e
    → standing ds n f d scope terms ≡ standing ds m g e scope terms
standing_alike ds scope terms n m f g d e numbers functions definitions =
    ap (λ (k : ℕ). standing ds k f d scope terms) numbers ∙ ap (λ (k : ℕ). standing ds m k d scope terms) functions
    ∙ ap (λ (k : ℕ). standing ds m g k scope terms) definitions

-- a scope is laid where its code, its entries and its definitions are there
pub laid_ok : (r : Result Unit AllocError) (old new : Draft) (ds : Decls) (scope : Scope) (terms : CalcScope)
    (n m f g d e : ℕ) (ps : List Pos)
    → n ≡ m → f ≡ g → d ≡ e → Grown old.growing new.growing (scope_code (standing ds n f d scope terms))
    → new.functions ≡ old.functions
    ++ function_entries (standing ds n f d scope terms) 0 scope.items (ends_of old.growing)
    → new.scopes ≡ old.scopes
    ++ (end_of (functions_code (standing ds n f d scope terms) 0 scope.items) (ends_of old.growing)).place ∷ []
    → ps ≡ definitions_of terms.terms [] → OnOk r (new.definitions ≡ old.definitions ++ ps)
    → OnOk r (Lays old new (standing ds m g e scope terms))
laid_ok (Err x) old new ds scope terms n m f g d e ps numbers functions definitions grown entries begins placed h = tt
laid_ok (Ok u) old new ds scope terms n m f g d e ps numbers functions definitions grown entries begins placed h =
    subst (λ (at : ScopeStanding). Lays old new at)
    (standing_alike ds scope terms n m f g d e numbers functions definitions)
    (record {
      growing = grown;
      functions = entries;
      scopes = begins;
      definitions = h ∙ ap (λ (l : List Pos). old.definitions ++ l) placed;
    })
