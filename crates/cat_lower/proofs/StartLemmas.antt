-- What the tables that are made once tell.
use Rattle.std.proofs.Common.{◌≡◌, ℕ, zero, suc, ◌+◌, Bool, true, false, List, [], ◌∷◌, length, take, Option, Some}
use Rattle.std.proofs.Common.{None, slice_get, Result, Ok, Err, IfOk, refl, sym, ap, ◌∙◌, arith, if◌then◌else◌}
use Rattle.std.specs.declared.alloc.AllocError.{AllocError}
use Rattle.cat_value.specs.declared.decls.Decls.{Decls}
use Rattle.cat_value.specs.declared.declaration.Enumeration.{Enumeration}
use Rattle.cat_value.specs.declared.declaration.ItemDecl.{ItemDecl}
use Rattle.cat_value.specs.declared.declaration.Scope.{Scope}
use Rattle.cat_value.specs.Inputs.{is_output, outputs_in}
use Rattle.cat_scope.specs.Names.{is_function, items_in, output_at}
use Rattle.cat_code.specs.Places.{functions_in}
use Rattle.cat_lower.specs.Pieces.{cases_before}
use Rattle.cat_lower.specs.Starts.{case_starts, function_starts, output_numbers, outputs_of_each}

pub case_start : (k n m : ℕ) (es : List Enumeration) → slice_get (case_starts k es) n ≡ Some m
    → m ≡ k + cases_before n es
case_start k zero m [] is = absurd (cc is)
case_start k (suc n) m [] is = absurd (cc is)
case_start k zero m (e ∷ es) is = let same : k ≡ m = cc is in omega (arith, same)
case_start k (suc n) m (e ∷ es) is = let rest = case_start (k + length e.cases) n m es is in omega (arith, rest)

pub function_start : (k j n m : ℕ) (items : List ItemDecl) → slice_get (function_starts k items) n ≡ Some m
    → m ≡ k + length (functions_in 0 j (take n items))
function_start k j zero m [] is = absurd (cc is)
function_start k j (suc n) m [] is = absurd (cc is)
function_start k j zero m (item ∷ items) is = let same : k ≡ m = cc is in omega (arith, same)
function_start k j (suc n) m (item ∷ items) is = by (is_function item) is (λ l e. function_start l (j + 1) n m items e)
  where
    by : (b : Bool) → slice_get (if b then function_starts (k + 1) items else function_starts k items) n ≡ Some m
        → ((l : ℕ) → slice_get (function_starts l items) n ≡ Some m
        → m ≡ l + length (functions_in 0 (j + 1) (take n items)))
        → m ≡ k + length (if b then record { scope = 0; item = j; decl = item }
        ∷ functions_in 0 (j + 1) (take n items) else functions_in 0 (j + 1) (take n items))
    by true e again = let r = again (k + 1) e in omega (arith, r)
    by false e again = again k e

-- an item by its number, where there is one
abbrev pub read_at : List ItemDecl → Option ℕ → Option ItemDecl
read_at all None = None
read_at all (Some j) = slice_get all j

pub output_there : (all : List ItemDecl) (n k : ℕ) (items : List ItemDecl)
    → ((m : ℕ) → slice_get all (n + m) ≡ slice_get items m)
    → slice_get (outputs_in items) k ≡ read_at all (slice_get (output_numbers n items) k)
output_there all n zero [] there = refl
output_there all n (suc k) [] there = refl
output_there all n k (item ∷ items) there =
    by (is_output item.kind) k
    (λ l. output_there all (n + 1) l items
    (λ m. let e : (n + 1) + m ≡ n + suc m = omega arith in ap (λ i. slice_get all i) e ∙ there (suc m)))
  where
    by : (b : Bool) (l : ℕ) → ((l : ℕ)
        → slice_get (outputs_in items) l ≡ read_at all (slice_get (output_numbers (n + 1) items) l))
        → slice_get (if b then item ∷ outputs_in items else outputs_in items) l
        ≡ read_at all (slice_get (if b then n ∷ output_numbers (n + 1) items else output_numbers (n + 1) items) l)
    by true zero again = let e : n + 0 ≡ n = omega arith in sym (ap (λ i. slice_get all i) (sym e) ∙ there 0)
    by true (suc l) again = again l
    by false l again = again l

pub numbers_there : (scopes : List Scope) (s : ℕ) (scope : Scope) → slice_get scopes s ≡ Some scope
    → slice_get (outputs_of_each scopes) s ≡ Some (output_numbers 0 scope.items)
numbers_there [] zero scope is = absurd (cc is)
numbers_there [] (suc s) scope is = absurd (cc is)
numbers_there (x ∷ scopes) zero scope is = let same : x ≡ scope = cc is in
    ap (λ (z : Scope). Some (output_numbers 0 z.items)) same
numbers_there (x ∷ scopes) (suc s) scope is = numbers_there scopes s scope is

-- an output, by its number among those of its scope
pub output_read : (ds : Decls) (s k : ℕ) (scope : Scope) (o : Option ℕ) → slice_get ds.scopes s ≡ Some scope
    → slice_get (output_numbers 0 scope.items) k ≡ o → read_at scope.items o ≡ output_at ds s k
output_read ds s k scope o there is =
    ap (λ (p : Option ℕ). read_at scope.items p) (sym is)
    ∙ sym (output_there scope.items 0 k scope.items
    (λ m. let e : 0 + m ≡ m = omega arith in ap (λ i. slice_get scope.items i) e))
    ∙ sym (ap (λ (p : Option Scope). slice_get (outputs_in (items_in p)) k) there)

-- a number that is the same is told
pub told_alike : (r : Result ℕ AllocError) (n m : ℕ) → n ≡ m → IfOk r (λ x. x ≡ n) → IfOk r (λ x. x ≡ m)
told_alike (Ok x) n m is h = h ∙ is
told_alike (Err e) n m is h = tt
