-- Calls by numbers: where they stand, and that their numbers are those of owners.
use Rattle.std.proofs.Common.{◌≡◌, ◌<◌, ◌≤◌, ◌+◌, ℕ, zero, suc, nat_eq, Bool, true, false, List, [], ◌∷◌}
use Rattle.std.proofs.Common.{length, get_or, drop, All, Option, Some, None, refl, sym, ap, ◌∙◌, subst, inl, inr, arith}
use Rattle.std.proofs.Common.{true≢false, if◌then◌else◌}
use Rattle.std.proofs.lemmas.List.{drop_more, drop_all, get_or_default}
use Rattle.std.proofs.lemmas.Option.{slice_get-get_or}
use Rattle.std.proofs.lemmas.Bool.{and_parts}
use Rattle.std.proofs.lemmas.Bool.Decides.{nat_tests}
use Rattle.cat_order.specs.Order.{AreItems}
use Rattle.cat_value.proofs.Exported.{list_all_at}
use Rattle.cat_scope.specs.Names.{IsOneOf, AllHave}
use Rattle.cat_code.specs.declared.instr.Instr.{Instr}
use Rattle.cat_code.specs.declared.instr.Instr.TheVariants as instr
use Rattle.cat_code.specs.declared.code.Tables.{Tables}
use Rattle.cat_code.specs.Jumps.{is_within}
use Rattle.cat_verify.specs.declared.buckets.Member.{Member}
use Rattle.cat_verify.specs.declared.stamps.Stamps.{Stamps}
use Rattle.cat_verify.specs.declared.stamps.Stamps.TheVariants.{Nobody, One, Two}
use Rattle.cat_verify.specs.inside.GoodNumbers.{HasGoodNumbers}
use Rattle.cat_verify.specs.inside.Buckets.{numbers_of, with_member}
use Rattle.cat_verify.specs.inside.CallNumbers.{owner_count, AreMarked, called_number, with_caller, call_number}
use Rattle.cat_verify.specs.inside.CallNumbers.{is_call, calls_from, calls_in, IsCallPlace, AreCallers}
use Rattle.cat_verify.proofs.OneOf.{within_of}
use Rattle.cat_verify.proofs.PlacedLemmas.{all_of}
use Rattle.cat_verify.proofs.MemberLemmas.{member, bucket_of, member_of, CallAt, call_at}

pub within_at : (tables : Tables) (code : List Instr) (at : ℕ) (d : Instr) → HasGoodNumbers tables code
    → at < length code → is_within tables (length code) (get_or code at d) ≡ true
within_at tables code at d good within =
    list_all_at (is_within tables (length code)) code at (get_or code at d) good.numbers
    (slice_get-get_or code at d within)

-- ---- the first place of a call

call_some : (o : Option Member) (a b : ℕ) → is_call o a b ≡ true → o ≡ Some (member b a)
call_some None a b h = absurd (cc h)
call_some (Some m) a b h =
    let both = and_parts (nat_eq m.number a) (nat_eq m.bucket b) h in
    let number : m.number ≡ a = (let e = both.0 in grind (arith, nat_tests, e)) in
    let bucket : m.bucket ≡ b = (let e = both.1 in grind (arith, nat_tests, e)) in
    ap (λ (n : ℕ). Some (member n m.number)) bucket ∙ ap (λ (n : ℕ). Some (member b n)) number

call_none : (a b : ℕ) → is_call (Some (member b a)) a b ≡ true
call_none a b = grind (arith, nat_tests)

pub call_place : (tables : Tables) (code : List Instr) (marks : List Stamps) (at a b : ℕ) (d : Instr)
    (o : Option Member) → at < length code
    → o ≡ call_number (length tables.scopes) (get_or marks at Nobody) (get_or code at d) → true ≡ is_call o a b
    → IsCallPlace tables code marks a b at
call_place tables code marks at a b d o within is test = record {
  instruction = get_or code at d;
  instruction_is = slice_get-get_or code at d within;
  call = sym is ∙ call_some o a b (sym test);
}

pub call_later : (tables : Tables) (code : List Instr) (marks : List Stamps) (at a b : ℕ) (d : Instr)
    (o : Option Member) → at < length code
    → o ≡ call_number (length tables.scopes) (get_or marks at Nobody) (get_or code at d) → false ≡ is_call o a b
    → IsOneOf (member b a) (calls_from (length tables.scopes) marks at (drop at code))
    → IsOneOf (member b a) (calls_from (length tables.scopes) marks (at + 1) (drop (at + 1) code))
call_later tables code marks at a b d o within is test one =
    by o test (subst (λ (x : Option Member). IsOneOf (member b a)
    (with_member x (calls_from (length tables.scopes) marks (at + 1) (drop (at + 1) code)))) (sym is)
    (subst (λ (xs : List Instr). IsOneOf (member b a) (calls_from (length tables.scopes) marks at xs))
    (drop_more code at d within) one))
  where
    by : (x : Option Member) → false ≡ is_call x a b
        → IsOneOf (member b a) (with_member x (calls_from (length tables.scopes) marks (at + 1) (drop (at + 1) code)))
        → IsOneOf (member b a) (calls_from (length tables.scopes) marks (at + 1) (drop (at + 1) code))
    by None test one = one
    by (Some m) test (inr more) = more
    by (Some m) test (inl same) = absurd (true≢false (sym (call_none a b)
        ∙ ap (λ (x : Member). is_call (Some x) a b) same ∙ sym test))

pub no_call_left : (tables : Tables) (code : List Instr) (marks : List Stamps) (at a b : ℕ) → length code ≤ at
    → IsOneOf (member b a) (calls_from (length tables.scopes) marks at (drop at code)) → ⊥
no_call_left tables code marks at a b past one =
    subst (λ (xs : List Instr). IsOneOf (member b a) (calls_from (length tables.scopes) marks at xs))
    (drop_all at code past) one

-- ---- numbers of owners

called_below : (tables : Tables) (size b : ℕ) (i : Instr) → is_within tables size i ≡ true
    → called_number (length tables.scopes) i ≡ Some b → b < owner_count tables
called_below tables size b (instr.Scope n) inside h =
    let same : n ≡ b = cc h in
    let below : n < length tables.scopes = grind (arith, nat_tests, inside) in
    omega (arith, same, below)
called_below tables size b (instr.Call f count) inside h =
    let same : length tables.scopes + f ≡ b = cc h in
    let below : f < length tables.functions = grind (arith, nat_tests, inside) in
    omega (arith, same, below)
called_below tables size b _ inside h = absurd (cc h)

-- both numbers of a call are those of owners
call_below : (tables : Tables) (code : List Instr) (marks : List Stamps) → AreMarked tables code marks → (c : Member)
    → CallAt (length tables.scopes) marks 0 code c → (c.bucket < owner_count tables) × (c.number < owner_count tables)
call_below tables code marks are c at = by (get_or marks at.place Nobody) refl
    (subst (λ (n : ℕ). call_number (length tables.scopes) (get_or marks n Nobody) at.instruction ≡ Some c) here
    at.call_is)
  where
    here : 0 + at.place ≡ at.place
    here = omega arith

    within : at.place < length code
    within = within_of code at.place at.instruction at.instruction_is

    by : (m : Stamps) → get_or marks at.place Nobody ≡ m
        → call_number (length tables.scopes) m at.instruction ≡ Some c
        → (c.bucket < owner_count tables) × (c.number < owner_count tables)
    by Nobody e h = absurd (cc h)
    by (Two a b) e h = absurd (cc h)
    by (One a) e h = numbers (called_number (length tables.scopes) at.instruction) refl h
      where
        numbers : (n : Option ℕ) → called_number (length tables.scopes) at.instruction ≡ n
            → with_caller a n ≡ Some c → (c.bucket < owner_count tables) × (c.number < owner_count tables)
        numbers None f h = absurd (cc h)
        numbers (Some d) f h =
            let bucket : d ≡ c.bucket = ap bucket_of h in
            let number : a ≡ c.number = ap member_of h in (
              called_below tables (length code) c.bucket at.instruction
                  (list_all_at (is_within tables (length code)) code at.place at.instruction are.good.numbers
                  at.instruction_is) (f ∙ ap Some bucket),
              are.numbers at.place c.number
                  (slice_get-get_or marks at.place Nobody (omega (arith, within, are.one_each))
                  ∙ ap Some (e ∙ ap One number)),
            )

pub calls_below : (tables : Tables) (code : List Instr) (marks : List Stamps) → AreMarked tables code marks
    → AllHave (λ c. c.bucket < owner_count tables) (calls_in tables code marks)
calls_below tables code marks are =
    all_of (λ (c : Member). c.bucket < owner_count tables) (calls_in tables code marks)
    (λ c one. (call_below tables code marks are c (call_at (length tables.scopes) marks 0 code c one)).0)

number_below : (count n : ℕ) (ms : List Member) → ((c : Member) → IsOneOf c ms → c.number < count)
    → All (λ (item : ℕ). item < count) (numbers_of n ms)
number_below count n [] each k d within = absurd (omega (arith, within))
number_below count n (m ∷ ms) each k d within =
    by (number_below count n ms (λ c one. each c (inr one))) (nat_eq m.bucket n) k d within
  where
    by : All (λ (item : ℕ). item < count) (numbers_of n ms) → (b : Bool)
        → All (λ (item : ℕ). item < count) (if b then m.number ∷ numbers_of n ms else numbers_of n ms)
    by rest false k d within = rest k d within
    by rest true zero d within = each m (inl refl)
    by rest true (suc k) d within = rest k d (omega (arith, within))

pub callers_are_items : (tables : Tables) (code : List Instr) (marks : List Stamps) (callers : List (List ℕ))
    → AreMarked tables code marks → AreCallers tables code marks callers → AreItems callers
callers_are_items tables code marks callers are buckets k d within =
    let numbers : All (λ (item : ℕ). item < owner_count tables) (numbers_of k (calls_in tables code marks)) =
    number_below (owner_count tables) k (calls_in tables code marks)
    (λ c one. (call_below tables code marks are c (call_at (length tables.scopes) marks 0 code c one)).1) in
    let here : numbers_of k (calls_in tables code marks) ≡ get_or callers k d =
    sym (buckets.numbers k) ∙ get_or_default callers k [] d within in
    subst (λ (n : ℕ). All (λ (item : ℕ). item < n) (get_or callers k d)) (sym buckets.one_each)
    (subst (λ (ns : List ℕ). All (λ (item : ℕ). item < owner_count tables) ns) here numbers)
