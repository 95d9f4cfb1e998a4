-- Entries and instructions that are looked at one by one, and why they are refused.
use Rattle.std.proofs.Common.{◌≡◌, ◌<◌, ◌≤◌, ◌+◌, ◌-◌, ℕ, zero, suc, true, false, List, [], ◌∷◌}
use Rattle.std.proofs.Common.{length, get_or, take, drop, Option, inl, inr, refl, sym, ap, ◌∙◌, subst, arith}
use Rattle.std.specs.Prelude.{Result, Ok, Err, IfErr, slice_get}
use Rattle.std.proofs.lemmas.List.{drop_more, drop_all}
use Rattle.std.proofs.lemmas.Option.{slice_get-get_or}
use Rattle.cat_scope.specs.Names.{IsOneOf}
use Rattle.cat_code.specs.declared.instr.Instr.{Instr}
use Rattle.cat_code.specs.declared.code.Tables.{Tables}
use Rattle.cat_code.specs.Jumps.{jump_of}
use Rattle.cat_code.specs.Tame.{is_forward, AreForward}
use Rattle.cat_code.specs.Valid.{are_tested, entries_of}
use Rattle.cat_verify.specs.declared.refusal.VerifyRefusal.{VerifyRefusal}
use Rattle.cat_verify.specs.declared.refusal.VerifyRefusal.TheVariants as refusal
use Rattle.cat_verify.specs.WrongCode.{JumpsBack}
use Rattle.cat_verify.specs.inside.GoodNumbers.{NumbersCause, EntriesCause}

-- ---- one of a list

pub one_of_at : {A : Type 0} (xs : List A) (i : ℕ) (d : A) → i < length xs → IsOneOf (get_or xs i d) xs
one_of_at [] i d within = absurd (omega (arith, within))
one_of_at (x ∷ xs) zero d within = inl refl
one_of_at (x ∷ xs) (suc i) d within = inr (one_of_at xs i d (omega (arith, within)))

-- ---- jumps that go forward

pub forward_on : (code : List Instr) (at : ℕ) (d : Instr) → at < length code
    → is_forward code at (get_or code at d) (jump_of (get_or code at d)) ≡ true
    → AreForward code (at + 1) (drop (at + 1) code) → AreForward code at (drop at code)
forward_on code at d within is rest = subst (AreForward code at) (sym (drop_more code at d within)) (is, rest)

pub forward_end : (code : List Instr) (at : ℕ) → length code ≤ at → AreForward code at (drop at code)
forward_end code at over = subst (AreForward code at) (sym (drop_all at code over)) tt

pub jumps_back : (code : List Instr) (at : ℕ) (d : Instr) → at < length code
    → false ≡ is_forward code at (get_or code at d) (jump_of (get_or code at d)) → JumpsBack code at
jumps_back code at d within back = record {
  instruction = get_or code at d;
  is = slice_get-get_or code at d within;
  back = sym back;
}

-- ---- four instructions in front

taken : (code : List Instr) (m k : ℕ) → k < m → slice_get (take m code) k ≡ slice_get code k
taken [] zero k within = refl
taken [] (suc m) k within = refl
taken (i ∷ is) zero k within = absurd (omega (arith, within))
taken (i ∷ is) (suc m) zero within = refl
taken (i ∷ is) (suc m) (suc k) within = taken is m k (omega (arith, within))

dropped : (code : List Instr) (n k : ℕ) → slice_get (drop n code) k ≡ slice_get code (n + k)
dropped code zero k = let same : k ≡ 0 + k = omega arith in ap (slice_get code) same
dropped [] (suc n) k = refl
dropped (i ∷ is) (suc n) k =
    let same : suc (n + k) ≡ suc n + k = omega arith in
    dropped is n k ∙ ap (slice_get (i ∷ is)) same

in_window : (code : List Instr) (m n k q : ℕ) → k < m → n + k ≡ q
    → slice_get (take m (drop n code)) k ≡ slice_get code q
in_window code m n k q within same = taken (drop n code) m k within ∙ dropped code n k ∙ ap (slice_get code) same

pub tested_in_front : (tables : Tables) (code : List Instr) (p m : ℕ) → 4 ≤ p → 3 < m
    → are_tested tables (slice_get (take m (drop (p - 4) code)) 0) (slice_get (take m (drop (p - 4) code)) 1)
    (slice_get (take m (drop (p - 4) code)) 2) (slice_get (take m (drop (p - 4) code)) 3)
    ≡ are_tested tables (slice_get code (p - 4)) (slice_get code (p - 3)) (slice_get code (p - 2))
    (slice_get code (p - 1))
tested_in_front tables code p m far long =
    let window = take m (drop (p - 4) code) in
    ap (λ (i : Option Instr). are_tested tables i (slice_get window 1) (slice_get window 2) (slice_get window 3))
    (in_window code m (p - 4) 0 (p - 4) (omega (arith, long)) (omega arith))
    ∙ ap (λ (i : Option Instr). are_tested tables (slice_get code (p - 4)) i (slice_get window 2) (slice_get window 3))
    (in_window code m (p - 4) 1 (p - 3) (omega (arith, long)) (omega (arith, far)))
    ∙ ap (λ (i : Option Instr). are_tested tables (slice_get code (p - 4)) (slice_get code (p - 3)) i
    (slice_get window 3))
    (in_window code m (p - 4) 2 (p - 2) (omega (arith, long)) (omega (arith, far)))
    ∙ ap (λ (i : Option Instr). are_tested tables (slice_get code (p - 4)) (slice_get code (p - 3))
    (slice_get code (p - 2)) i)
    (in_window code m (p - 4) 3 (p - 1) (omega (arith, long)) (omega (arith, far)))

-- ---- causes

pub if_err : {T E : Type 0} (P Q : E → Type 0) (r : Result T E) → IfErr r P → ((why : E) → P why → Q why) → IfErr r Q
if_err P Q (Ok done) holds go = tt
if_err P Q (Err why) holds go = go why holds

pub entries_cause : (tables : Tables) (code : List Instr) (entries : List ℕ)
    → ((e : ℕ) → IsOneOf e entries → IsOneOf e (entries_of tables)) → (why : VerifyRefusal)
    → EntriesCause entries (length code) why → NumbersCause tables code why
entries_cause tables code entries among (refusal.BadNumber k) cause =
    inr (record { entry = cause.1; is_entry = among cause.1 cause.2; outside = cause.3; number = cause.0 })
entries_cause tables code entries among (refusal.BadTable n) cause = cause
entries_cause tables code entries among (refusal.Endless k) cause = cause
entries_cause tables code entries among (refusal.BadShape k) cause = cause
entries_cause tables code entries among refusal.Memory cause = tt
