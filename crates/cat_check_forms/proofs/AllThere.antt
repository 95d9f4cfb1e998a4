-- Numbers that are all there, and arms for all cases.
use Rattle.std.proofs.Common.{◌≡◌, ◌∙◌, ℕ, zero, suc, ◌+◌, ◌-◌, ◌<◌, ◌&&◌, ◌||◌, Bool, true, false, not, cond, nat_eq}
use Rattle.std.proofs.Common.{List, []}
use Rattle.std.proofs.Common.{◌∷◌, ◌++◌, take, length, get_or, slice_get, map, option_map, Option, Some, None, refl}
use Rattle.std.proofs.Common.{sym, ap, subst, arith}
use Rattle.std.specs.List.{list_all, list_any}
use Rattle.std.proofs.lemmas.Bool.Decides.{nat_tests}
use Rattle.std.proofs.lemmas.List.{take_more}
use Rattle.std.specs.Prelude.{if◌then◌else◌}
use Rattle.cat_value.specs.declared.declaration.ItemDecl.{ItemDecl}
use Rattle.cat_value.specs.declared.declaration.Scope.{Scope}
use Rattle.cat_value.specs.declared.declaration.Structure.{Structure}
use Rattle.cat_value.specs.Entries.{fields_in, some_passes}
use Rattle.cat_value.specs.declared.decls.Decls.{Decls}
use Rattle.cat_value.specs.Inputs.{must_be_given}
use Rattle.cat_scope.specs.declared.expr.Arm.{Arm}
use Rattle.cat_scope.specs.Fitting.{is_anything, anything_is_last, are_call_fields, are_complete, are_fields_of}
use Rattle.cat_scope.specs.Fitting.{cases_in}
use Rattle.cat_scope.specs.Fitting.{cases_of, ends_in_anything}
use Rattle.cat_scope.specs.Names.{all_differ, are_all_in, inputs_given, is_in, items_in, scope_items}
use Rattle.cat_check_forms.specs.Tabled.{required_from}

-- the same numbers
abbrev pub Alike : List ℕ → List ℕ → Type 0
Alike ns ms = (k : ℕ) → is_in k ns ≡ is_in k ms

pub all_alike : (ns ms : List ℕ) → Alike ns ms → (n : ℕ) → are_all_in n ns ≡ are_all_in n ms
all_alike ns ms same zero = refl
all_alike ns ms same (suc n) = rw (same n, all_alike ns ms same n) refl

pub each_alike : (ns ms : List ℕ) → Alike ns ms → (ks : List ℕ)
    → list_all (λ k. is_in k ns) ks ≡ list_all (λ k. is_in k ms) ks
each_alike ns ms same [] = refl
each_alike ns ms same (k ∷ ks) = rw (same k, each_alike ns ms same ks) refl

-- a number below a bound that isn't there
pub missing : (count n : ℕ) (ns : List ℕ) → n < count → is_in n ns ≡ false → are_all_in count ns ≡ false
missing zero n ns within none = absurd (omega (arith, within))
missing (suc count) n ns within none = by (nat_eq n count) refl (λ less. missing count n ns less none)
  where
    none_of : (b : Bool) → (b && false) ≡ false
    none_of true = refl
    none_of false = refl

    by : (b : Bool) → nat_eq n count ≡ b → (n < count → are_all_in count ns ≡ false)
        → (is_in count ns && are_all_in count ns) ≡ false
    by true is lower = let same : n ≡ count = grind (arith, nat_tests, is) in
        rw (subst (λ (k : ℕ). is_in k ns ≡ false) same none) refl
    by false is lower = let less : n < count = grind (arith, nat_tests, is, within) in
        rw (lower less) (none_of (is_in count ns))

-- one number more
pub in_more : (ns : List ℕ) (n k : ℕ) → is_in k (ns ++ n ∷ []) ≡ (nat_eq k n || is_in k ns)
in_more [] n k = by (nat_eq k n)
  where
    by : (b : Bool) → (if b then true else false) ≡ (b || false)
    by true = refl
    by false = refl
in_more (m ∷ ns) n k = rw (in_more ns n k) (by (nat_eq k m) (nat_eq k n) (is_in k ns))
  where
    by : (a b c : Bool) → (if a then true else (b || c)) ≡ (b || (if a then true else c))
    by true true c = refl
    by true false c = refl
    by false true c = refl
    by false false c = refl

swapped : (m n : ℕ) → nat_eq m n ≡ nat_eq n m
swapped m n = grind (arith, nat_tests)

pub differ_more : (ns : List ℕ) (n : ℕ) → all_differ (ns ++ n ∷ []) ≡ (not (is_in n ns) && all_differ ns)
differ_more [] n = refl
differ_more (m ∷ ns) n = rw (in_more ns n m, differ_more ns n, swapped m n)
    (by (nat_eq n m) (is_in m ns) (is_in n ns) (all_differ ns))
  where
    by : (a b c d : Bool) → (not (a || b) && (not c && d)) ≡ (not (if a then true else c) && (not b && d))
    by true b c d = refl
    by false true true d = refl
    by false true false d = refl
    by false false true d = refl
    by false false false d = refl

-- one number more of a set, and whether it is new
pub set_more : (numbers : List ℕ) (i n : ℕ) (old new : List ℕ) → i < length numbers → get_or numbers i n ≡ n
    → Alike old (take i numbers) → ((k : ℕ) → is_in k new ≡ (nat_eq k n || is_in k old))
    → Alike new (take (i + 1) numbers)
set_more numbers i n old new within is before added k =
    added k ∙ ap (λ (b : Bool). nat_eq k n || b) (before k) ∙ sym (in_more (take i numbers) n k)
    ∙ sym (ap (is_in k) (take_more numbers i n within ∙ ap (λ (m : ℕ). take i numbers ++ m ∷ []) is))

pub fresh_more : (numbers : List ℕ) (i n : ℕ) (old : List ℕ) (differ : Bool) → i < length numbers
    → get_or numbers i n ≡ n → Alike old (take i numbers) → differ ≡ all_differ (take i numbers)
    → all_differ (take (i + 1) numbers) ≡ (not (is_in n old) && differ)
fresh_more numbers i n old differ within is before so_far =
    ap all_differ (take_more numbers i n within ∙ ap (λ (m : ℕ). take i numbers ++ m ∷ []) is)
    ∙ differ_more (take i numbers) n ∙ rw (before n, so_far) refl

-- the inputs that must be given
pub required_is : (n : ℕ) (items : List ItemDecl) (fields : List ℕ)
    → inputs_given n items fields ≡ list_all (λ k. is_in k fields) (required_from n items)
required_is n [] fields = refl
required_is n (item ∷ items) fields =
    rw (required_is (n + 1) items fields) (by (must_be_given item.kind && not item.condition))
  where
    rest : List ℕ
    rest = required_from (n + 1) items

    by : (b : Bool) → ((if b then is_in n fields else true) && list_all (λ k. is_in k fields) rest)
        ≡ list_all (λ k. is_in k fields) (if b then n ∷ rest else rest)
    by true = refl
    by false = refl

-- the last of some arms
pub last_ends : (arms : List Arm) (n : ℕ) (a : Arm) → n + 1 ≡ length arms → slice_get arms n ≡ Some a
    → is_anything a.pattern ≡ ends_in_anything arms
last_ends [] n a long at = absurd (omega (arith, long))
last_ends (x ∷ []) zero a long at = let is : x ≡ a = cc at in ap (λ (b : Arm). is_anything b.pattern) (sym is)
last_ends (x ∷ []) (suc n) a long at = absurd (omega (arith, long))
last_ends (x ∷ y ∷ arms) zero a long at = absurd (omega (arith, long))
last_ends (x ∷ y ∷ arms) (suc n) a long at = last_ends (y ∷ arms) n a (omega (arith, long)) at

-- a set of numbers has what is one of its keys
pub any_in : (ns : List ℕ) (k : ℕ) → list_any (nat_eq k) ns ≡ is_in k ns
any_in [] k = refl
any_in (n ∷ ns) k = rw (any_in ns k) (by (nat_eq k n) (is_in k ns))
  where
    by : (a b : Bool) → (a || b) ≡ (if a then true else b)
    by true b = refl
    by false b = refl

pub added_in : (old new : List ℕ) (n : ℕ)
    → ((w : ℕ) → list_any (nat_eq w) new ≡ cond (nat_eq n w) true (list_any (nat_eq w) old))
    → (k : ℕ) → is_in k new ≡ (nat_eq k n || is_in k old)
added_in old new n added k =
    sym (any_in new k) ∙ added k ∙ rw (any_in old k, swapped n k) (by (nat_eq k n) (is_in k old))
  where
    by : (a b : Bool) → cond a true b ≡ (a || b)
    by true b = refl
    by false b = refl

-- the inputs of a scope, by the table of those that must be given
inputs_at : (scopes : List Scope) (n : ℕ)
    → slice_get (map (λ s. required_from 0 s.items) scopes) n
    ≡ option_map (λ s. required_from 0 s.items) (slice_get scopes n)
inputs_at [] n = refl
inputs_at (s ∷ scopes) zero = refl
inputs_at (s ∷ scopes) (suc n) = inputs_at scopes n

pub inputs_there : (ds : Decls) (inputs : List (List ℕ)) (scope : ℕ) (given required : List ℕ)
    → inputs ≡ map (λ s. required_from 0 s.items) ds.scopes → slice_get inputs scope ≡ Some required
    → list_all (λ k. is_in k given) required ≡ inputs_given 0 (scope_items ds scope) given
inputs_there ds inputs scope given required table at =
    by (slice_get ds.scopes scope) refl
    (sym (inputs_at ds.scopes scope) ∙ sym (ap (λ rows. slice_get rows scope) table) ∙ at)
  where
    by : (s : Option Scope) → slice_get ds.scopes scope ≡ s
        → option_map (λ r. required_from 0 r.items) (slice_get ds.scopes scope) ≡ Some required
        → list_all (λ k. is_in k given) required ≡ inputs_given 0 (scope_items ds scope) given
    by None none is = absurd (cc (is, none))
    by (Some s) found is =
        let same : required_from 0 s.items ≡ required = cc (is, found) in
        sym (ap (λ (r : Option Scope). inputs_given 0 (items_in r) given) found ∙ required_is 0 s.items given
        ∙ ap (list_all (λ k. is_in k given)) same)

pub no_inputs : (ds : Decls) (inputs : List (List ℕ)) (scope : ℕ) (given : List ℕ)
    → inputs ≡ map (λ s. required_from 0 s.items) ds.scopes → slice_get inputs scope ≡ None
    → true ≡ inputs_given 0 (scope_items ds scope) given
no_inputs ds inputs scope given table none =
    by (slice_get ds.scopes scope) refl
    (sym (inputs_at ds.scopes scope) ∙ sym (ap (λ rows. slice_get rows scope) table) ∙ none)
  where
    by : (s : Option Scope) → slice_get ds.scopes scope ≡ s
        → option_map (λ r. required_from 0 r.items) (slice_get ds.scopes scope) ≡ None
        → true ≡ inputs_given 0 (scope_items ds scope) given
    by None found is = sym (ap (λ (r : Option Scope). inputs_given 0 (items_in r) given) found)
    by (Some s) found is = absurd (cc (is, found))

pub inputs_alike : (ns ms : List ℕ) → Alike ns ms → (n : ℕ) (items : List ItemDecl)
    → inputs_given n items ns ≡ inputs_given n items ms
inputs_alike ns ms same n items =
    required_is n items ns ∙ each_alike ns ms same (required_from n items) ∙ sym (required_is n items ms)

pub last_is : (arms : List Arm) (a : Arm) → Some a ≡ slice_get arms (length arms - 1)
    → is_anything a.pattern ≡ ends_in_anything arms
last_is [] a at = absurd (cc at)
last_is (x ∷ arms) a at = last_ends (x ∷ arms) (length (x ∷ arms) - 1) a (omega arith) (sym at)

-- the tests of a scope call, of a structure and of arms, by the set of their numbers
pub call_fields_are : (ds : Decls) (scope : ℕ) (ms ns given : List ℕ) (r : Bool) → ms ≡ ns → Alike given ms
    → true ≡ all_differ ms → r ≡ inputs_given 0 (scope_items ds scope) given → r ≡ are_call_fields ds scope ns
call_fields_are ds scope ms ns given r same alike differ is =
    subst (λ ks. r ≡ are_call_fields ds scope ks) same
    (is ∙ inputs_alike given ms alike 0 (scope_items ds scope)
    ∙ ap (λ (b : Bool). b && inputs_given 0 (scope_items ds scope) ms) differ)

pub not_differing : (ds : Decls) (scope : ℕ) (ms ns : List ℕ) → ms ≡ ns → false ≡ all_differ ms
    → false ≡ are_call_fields ds scope ns
not_differing ds scope ms ns same differ = subst (λ ks. false ≡ are_call_fields ds scope ks) same
    (ap (λ (b : Bool). b && inputs_given 0 (scope_items ds scope) ms) differ)

pub fields_are : (ds : Decls) (n : ℕ) (ms ns given : List ℕ) (s : Structure) (r : Bool) → ms ≡ ns → Alike given ms
    → slice_get ds.structures n ≡ Some s → length ns ≡ length s.fields → r ≡ are_all_in (length s.fields) given
    → r ≡ are_fields_of ds n ns
fields_are ds n ms ns given s r same alike at long is =
    is ∙ all_alike given ms alike (length s.fields) ∙ ap (are_all_in (length s.fields)) same
    ∙ ap (λ (b : Bool). b && are_all_in (length s.fields) ns) long_is
    ∙ sym (ap (λ (r : Option Structure).
    some_passes (λ fields. nat_eq (length ns) (length fields) && are_all_in (length fields) ns) (fields_in r)) at)
  where
    long_is : true ≡ nat_eq (length ns) (length s.fields)
    long_is = grind (arith, nat_tests, long)

pub not_as_many : (ds : Decls) (n : ℕ) (ns : List ℕ) (s : Structure) → slice_get ds.structures n ≡ Some s
    → nat_eq (length ns) (length s.fields) ≡ false → false ≡ are_fields_of ds n ns
not_as_many ds n ns s at other =
    sym (ap (λ (b : Bool). b && are_all_in (length s.fields) ns) other)
    ∙ sym (ap (λ (r : Option Structure).
    some_passes (λ fields. nat_eq (length ns) (length fields) && are_all_in (length fields) ns) (fields_in r)) at)

pub arms_are : (ds : Decls) (n : ℕ) (arms : List Arm) (ms given : List ℕ) (r : Bool) → ms ≡ cases_of arms
    → Alike given ms → true ≡ anything_is_last arms → true ≡ all_differ ms → ends_in_anything arms ≡ false
    → r ≡ are_all_in (cases_in (slice_get ds.enumerations n)) given → r ≡ are_complete ds n arms
arms_are ds n arms ms given r same alike last differ ends is =
    is ∙ all_alike given ms alike (cases_in (slice_get ds.enumerations n))
    ∙ ap (are_all_in (cases_in (slice_get ds.enumerations n))) same
    ∙ sym (rw (sym last, sym (differ ∙ ap all_differ same), ends) refl)

pub same_entry : {A : Type 0} (xs : List A) (i : ℕ) (d : A) → i < length xs
    → get_or xs i (get_or xs i d) ≡ get_or xs i d
same_entry [] i d within = absurd (omega (arith, within))
same_entry (x ∷ xs) zero d within = refl
same_entry (x ∷ xs) (suc i) d within = same_entry xs i d (omega arith)
