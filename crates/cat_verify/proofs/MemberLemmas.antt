-- Members of buckets, and the calls of a list.
use Rattle.std.proofs.Common.{◌≡◌, ◌+◌, ℕ, zero, suc, nat_eq, Bool, true, false, List, [], ◌∷◌}
use Rattle.std.proofs.Common.{get_or, Option, Some, None, refl, sym, ap, ◌∙◌, subst, inl, inr, arith}
use Rattle.std.proofs.Common.{if◌then◌else◌}
use Rattle.std.proofs.lemmas.Bool.Decides.{nat_tests}
use Rattle.std.specs.Prelude.{slice_get}
use Rattle.cat_order.specs.Order.{is_listed}
use Rattle.cat_scope.specs.Names.{IsOneOf}
use Rattle.cat_code.specs.declared.instr.Instr.{Instr}
use Rattle.cat_verify.specs.declared.buckets.Member.{Member}
use Rattle.cat_verify.specs.declared.stamps.Stamps.{Stamps}
use Rattle.cat_verify.specs.declared.stamps.Stamps.TheVariants.{Nobody}
use Rattle.cat_verify.specs.inside.Buckets.{numbers_of, with_member}
use Rattle.cat_verify.specs.inside.CallNumbers.{call_number, calls_from}

-- ---- members of buckets

abbrev pub member : ℕ → ℕ → Member
member bucket number = record { bucket = bucket; number = number }

pub listed_of : (b a : ℕ) (ms : List Member) → IsOneOf (record { bucket = b; number = a }) ms
    → is_listed (numbers_of b ms) a ≡ true
listed_of b a [] one = absurd one
listed_of b a (m ∷ ms) (inl same) =
    let bucket : b ≡ m.bucket = ap (λ (x : Member). x.bucket) same in
    let number : a ≡ m.number = ap (λ (x : Member). x.number) same in
    grind (arith, nat_tests, bucket, number)
listed_of b a (m ∷ ms) (inr more) = by (nat_eq m.bucket b) (listed_of b a ms more)
  where
    by : (t : Bool) → is_listed (numbers_of b ms) a ≡ true
        → is_listed (if t then m.number ∷ numbers_of b ms else numbers_of b ms) a ≡ true
    by true rest = grind (arith, nat_tests, rest)
    by false rest = rest

pub of_listed : (b a : ℕ) (ms : List Member) → is_listed (numbers_of b ms) a ≡ true
    → IsOneOf (record { bucket = b; number = a }) ms
of_listed b a [] h = absurd (cc h)
of_listed b a (m ∷ ms) h = by (λ k. of_listed b a ms k) (nat_eq m.bucket b) refl h
  where
    by : (is_listed (numbers_of b ms) a ≡ true → IsOneOf (record { bucket = b; number = a }) ms) → (t : Bool)
        → nat_eq m.bucket b ≡ t
        → is_listed (if t then m.number ∷ numbers_of b ms else numbers_of b ms) a ≡ true
        → IsOneOf (record { bucket = b; number = a }) (m ∷ ms)
    by later false e h = inr (later h)
    by later true e h = number (nat_eq m.number a) refl h
      where
        bucket : m.bucket ≡ b
        bucket = grind (arith, nat_tests, e)

        number : (t : Bool) → nat_eq m.number a ≡ t → is_listed (m.number ∷ numbers_of b ms) a ≡ true
            → IsOneOf (record { bucket = b; number = a }) (m ∷ ms)
        number true same h =
            let equal : a ≡ m.number = grind (arith, nat_tests, same) in
            inl (ap (λ (n : ℕ). member n a) (sym bucket) ∙ ap (member m.bucket) equal)
        number false other h = inr (later (grind (arith, nat_tests, other, h)))

-- ---- calls in a list

with_in : (o : Option Member) (ms : List Member) (c : Member) → IsOneOf c ms → IsOneOf c (with_member o ms)
with_in None ms c one = one
with_in (Some m) ms c one = inr one

with_here : (o : Option Member) (ms : List Member) (c : Member) → o ≡ Some c → IsOneOf c (with_member o ms)
with_here None ms c h = absurd (cc h)
with_here (Some m) ms c h = inl (same h)
  where
    same : Some m ≡ Some c → c ≡ m
    same e = cc e

pub in_calls : (scopes : ℕ) (marks : List Stamps) (p : ℕ) (code : List Instr) (k : ℕ) (i : Instr) (c : Member)
    → slice_get code k ≡ Some i → call_number scopes (get_or marks (p + k) Nobody) i ≡ Some c
    → IsOneOf c (calls_from scopes marks p code)
in_calls scopes marks p [] k i c at is = absurd (cc at)
in_calls scopes marks p (x ∷ code) zero i c at is =
    let here : p + 0 ≡ p = omega arith in
    with_here (call_number scopes (get_or marks p Nobody) x) (calls_from scopes marks (p + 1) code) c
    (subst (λ (n : ℕ). call_number scopes (get_or marks n Nobody) x ≡ Some c) here
    (subst (λ (j : Instr). call_number scopes (get_or marks (p + 0) Nobody) j ≡ Some c) (instruction at) is))
  where
    instruction : Some x ≡ Some i → i ≡ x
    instruction e = cc e
in_calls scopes marks p (x ∷ code) (suc k) i c at is =
    let next : p + suc k ≡ p + 1 + k = omega arith in
    with_in (call_number scopes (get_or marks p Nobody) x) (calls_from scopes marks (p + 1) code) c
    (in_calls scopes marks (p + 1) code k i c at
    (subst (λ (n : ℕ). call_number scopes (get_or marks n Nobody) i ≡ Some c) next is))

-- where a call of a list stands
pub record CallAt (scopes : ℕ) (marks : List Stamps) (p : ℕ) (code : List Instr) (c : Member) : Type 0 where
  pub place : ℕ
  pub instruction : Instr
  pub instruction_is : slice_get code place ≡ Some instruction
  pub call_is : call_number scopes (get_or marks (p + place) Nobody) instruction ≡ Some c

pub call_at : (scopes : ℕ) (marks : List Stamps) (p : ℕ) (code : List Instr) (c : Member)
    → IsOneOf c (calls_from scopes marks p code) → CallAt scopes marks p code c
call_at scopes marks p [] c one = absurd one
call_at scopes marks p (x ∷ code) c one =
    by (λ more. call_at scopes marks (p + 1) code c more) (call_number scopes (get_or marks p Nobody) x) refl one
  where
    later : CallAt scopes marks (p + 1) code c → CallAt scopes marks p (x ∷ code) c
    later rest =
        let next : p + 1 + rest.place ≡ p + suc rest.place = omega arith in
        record {
          place = suc rest.place;
          instruction = rest.instruction;
          instruction_is = rest.instruction_is;
          call_is = subst (λ (n : ℕ). call_number scopes (get_or marks n Nobody) rest.instruction ≡ Some c) next
              rest.call_is;
        }

    by : (IsOneOf c (calls_from scopes marks (p + 1) code) → CallAt scopes marks (p + 1) code c) → (o : Option Member)
        → call_number scopes (get_or marks p Nobody) x ≡ o
        → IsOneOf c (with_member o (calls_from scopes marks (p + 1) code)) → CallAt scopes marks p (x ∷ code) c
    by behind None e one = later (behind one)
    by behind (Some m) e (inl same) =
        let here : p ≡ p + 0 = omega arith in
        record {
          place = 0;
          instruction = x;
          instruction_is = refl;
          call_is = subst (λ (n : ℕ). call_number scopes (get_or marks n Nobody) x ≡ Some c) here
              (e ∙ ap Some (sym same));
        }
    by behind (Some m) e (inr more) = later (behind more)

abbrev pub bucket_of : Option Member → ℕ
bucket_of None = 0
bucket_of (Some m) = m.bucket

abbrev pub member_of : Option Member → ℕ
member_of None = 0
member_of (Some m) = m.number
