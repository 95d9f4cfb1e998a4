-- Definitions parted by their targets.
use Rattle.std.proofs.Common.{◌≡◌, ◌∙◌, ℕ, ◌+◌, ◌<◌, ◌≤◌, suc, nat_lt, eqb, Bool, true, false, not, ◌||◌, ◌&&◌, cond}
use Rattle.std.proofs.Common.{if◌then◌else◌}
use Rattle.std.proofs.Common.{List, [], ◌∷◌, ◌++◌, length, take, get_or, Option, Some, None, refl, sym, ap, subst}
use Rattle.std.proofs.Common.{arith, true≢false, rules}
use Rattle.std.proofs.lemmas.Bool.Decides.{Decides-eqb, nat_tests}
use Rattle.std.proofs.lemmas.List.{take_more, get_or_past, length-take}
use Rattle.std.specs.List.{list_any, position_or_len, position}
use Rattle.std.specs.Option.{option_eq, unwrap_or}
use Rattle.indexmap.specs.IndexSet.{insert_key}
use Rattle.cat_value.specs.declared.outcome.Target.{Target}
use Rattle.cat_scope.specs.declared.defs.Def.{Def}
use Rattle.cat_scope.specs.Targets.{same_inner, same_target, defs_from}
use Rattle.cat_scope.specs.Forests.{definition_numbers}
use Rattle.cat_except.specs.Parted.{TargetKey, is_at, list_at, ArePartedBy}
use Rattle.cat_except.specs.inside.Listing.{with_number}

abbrev pub key_eq : TargetKey → TargetKey → Bool
key_eq p q = eqb p.0 q.0 && option_eq eqb p.1 q.1

both : (a b : Bool) → (a && b) ≡ true → (a ≡ true) × (b ≡ true)
both true true e = (refl, refl)
both true false e = absurd (true≢false (sym e))
both false b e = absurd (true≢false (sym e))

inner_same : (a b : Option ℕ) → option_eq eqb a b ≡ true → a ≡ b
inner_same None None is = refl
inner_same None (Some n) is = absurd (true≢false (sym is))
inner_same (Some n) None is = absurd (true≢false (sym is))
inner_same (Some n) (Some m) is = ap Some ((Decides-eqb n m).0 is)

key_same : (p q : TargetKey) → key_eq p q ≡ true → p ≡ q
key_same p q is =
    let parts : (eqb p.0 q.0 ≡ true) × (option_eq eqb p.1 q.1 ≡ true) = both (eqb p.0 q.0) (option_eq eqb p.1 q.1) is in
    ap (λ (n : ℕ). (n, p.1)) ((Decides-eqb p.0 q.0).0 parts.0) ∙ ap (λ (n : Option ℕ). (q.0, n))
    (inner_same p.1 q.1 parts.1)

eqb_swap : (a b : ℕ) → eqb a b ≡ eqb b a
eqb_swap a b = grind (arith, nat_tests)

inner_swap : (a b : Option ℕ) → option_eq eqb a b ≡ same_inner b a
inner_swap None None = refl
inner_swap None (Some n) = refl
inner_swap (Some n) None = refl
inner_swap (Some n) (Some m) = eqb_swap n m

pub at_key : (target : Target) (key : TargetKey) → key_eq (target.item, target.inner) key ≡ is_at target key
at_key target key =
    ap (λ b. b && option_eq eqb target.inner key.1) (eqb_swap target.item key.0)
    ∙ ap (λ b. eqb key.0 target.item && b) (inner_swap target.inner key.1)

-- a number in front of a list, or none
abbrev grown : Bool → List ℕ → ℕ → List ℕ
grown true list n = list ++ n ∷ []
grown false list n = list

abbrev keyed : Bool → List TargetKey → TargetKey → List TargetKey
keyed there keys key = if there then keys else keys ++ key ∷ []

head_open : (b there : Bool) (target : Target) (key other : TargetKey) (n : ℕ) (keys : List TargetKey) (list : List ℕ)
    (lists more : List (List ℕ))
    → list_at target (keyed (b || there) (other ∷ keys) key) (if b then (list ++ n ∷ []) ∷ lists else list ∷ more)
    ≡ (if is_at target other then (if b then list ++ n ∷ [] else list)
    else (if b then list_at target keys lists else list_at target (keyed there keys key) more))
head_open true there target key other n keys list lists more = refl
head_open false true target key other n keys list lists more = refl
head_open false false target key other n keys list lists more = refl

head_or_rest : (b c a : Bool) (n : ℕ) (list rest grew : List ℕ) → (b ≡ true → c ≡ a)
    → (c ≡ true → a ≡ true → b ≡ true) → grew ≡ grown a rest n
    → (if c then (if b then list ++ n ∷ [] else list) else (if b then rest else grew)) ≡ grown a
    (if c then list else rest) n
head_or_rest true true a n list rest grew same one more = ap (λ (b : Bool). grown b list n) (same refl)
head_or_rest true false a n list rest grew same one more = ap (λ (b : Bool). grown b rest n) (same refl)
head_or_rest false true true n list rest grew same one more = absurd (true≢false (sym (one refl refl)))
head_or_rest false true false n list rest grew same one more = refl
head_or_rest false false a n list rest grew same one more = more

one_key : (target : Target) (key other : TargetKey) → is_at target other ≡ true → is_at target key ≡ true
    → key_eq key other ≡ true
one_key target key other here there =
    let this : (target.item, target.inner) ≡ other =
    key_same (target.item, target.inner) other (at_key target other ∙ here) in
    let that : (target.item, target.inner) ≡ key =
    key_same (target.item, target.inner) key (at_key target key ∙ there) in
    subst (λ (p : TargetKey). key_eq p other ≡ true) that (at_key target other ∙ here)

pub added_at : (target : Target) (key : TargetKey) (n : ℕ) (keys : List TargetKey) (lists : List (List ℕ))
    → length lists ≡ length keys
    → list_at target (keyed (list_any (key_eq key) keys) keys key) (with_number key_eq key n keys lists)
    ≡ grown (is_at target key) (list_at target keys lists) n
added_at target key n [] [] same = alone (is_at target key) where
  alone : (b : Bool) → (if b then n ∷ [] else []) ≡ grown b [] n
  alone true = refl
  alone false = refl
added_at target key n [] (list ∷ lists) same = absurd (omega (arith, same))
added_at target key n (other ∷ keys) [] same = absurd (omega (arith, same))
added_at target key n (other ∷ keys) (list ∷ lists) same =
    head_open (key_eq key other) (list_any (key_eq key) keys) target key other n keys list lists
    (with_number key_eq key n keys lists)
    ∙ head_or_rest (key_eq key other) (is_at target other) (is_at target key) n list (list_at target keys lists)
    (list_at target (keyed (list_any (key_eq key) keys) keys key) (with_number key_eq key n keys lists))
    (λ is. ap (is_at target) (sym (key_same key other is))) (one_key target key other)
    (added_at target key n keys lists (omega (arith, same)))

-- as many lists as keys
pub as_many : {K : Type 0} (eq : K → K → Bool) (key : K) (n : ℕ) (keys : List K) (lists : List (List ℕ))
    → length lists ≡ length keys → length (with_number eq key n keys lists) ≡ length (insert_key eq keys key)
as_many eq key n [] lists same = length_push lists (n ∷ []) ∙ ap suc same where
  length_push : (ls : List (List ℕ)) (l : List ℕ) → length (ls ++ l ∷ []) ≡ suc (length ls)
  length_push [] l = refl
  length_push (m ∷ ls) l = ap suc (length_push ls l)
as_many eq key n (k ∷ ks) [] same = absurd (omega (arith, same))
as_many eq key n (k ∷ ks) (list ∷ lists) same =
    by (eq key k) (list_any (eq key) ks) (as_many eq key n ks lists (omega (arith, same))) where
      by : (b there : Bool) → length (with_number eq key n ks lists) ≡ length (if there then ks else ks ++ key ∷ [])
          → length (if b then (list ++ n ∷ []) ∷ lists else list ∷ with_number eq key n ks lists)
          ≡ length (if b || there then k ∷ ks else k ∷ (ks ++ key ∷ []))
      by true there rest = same
      by false true rest = ap suc rest
      by false false rest = ap suc rest

grown_behind : (b : Bool) (m n : ℕ) (list : List ℕ) → m ∷ grown b list n ≡ grown b (m ∷ list) n
grown_behind true m n list = refl
grown_behind false m n list = refl

defs_push : (target : Target) (n : ℕ) (ds : List Def) (d : Def)
    → definition_numbers (defs_from target n (ds ++ d ∷ []))
    ≡ grown (same_target d.target target) (definition_numbers (defs_from target n ds)) (n + length ds)
defs_push target n [] d = by (same_target d.target target) where
  by : (b : Bool) → definition_numbers (if b then (n, d) ∷ [] else []) ≡ grown b [] (n + 0)
  by true = ap (λ (k : ℕ). k ∷ []) (omega arith)
  by false = refl
defs_push target n (e ∷ ds) d =
    by (same_target e.target target)
    (defs_push target (n + 1) ds d
    ∙ ap (grown (same_target d.target target) (definition_numbers (defs_from target (n + 1) ds))) (omega arith)) where
      by : (b : Bool) → definition_numbers (defs_from target (n + 1) (ds ++ d ∷ []))
          ≡ grown (same_target d.target target) (definition_numbers (defs_from target (n + 1) ds)) (n + suc (length ds))
          → definition_numbers
          (if b then (n, e) ∷ defs_from target (n + 1) (ds ++ d ∷ []) else defs_from target (n + 1) (ds ++ d ∷ []))
          ≡ grown (same_target d.target target)
          (definition_numbers (if b then (n, e) ∷ defs_from target (n + 1) ds else defs_from target (n + 1) ds))
          (n + suc (length ds))
      by true rest = ap (λ ns. n ∷ ns) rest
          ∙ grown_behind (same_target d.target target) n (n + suc (length ds))
          (definition_numbers (defs_from target (n + 1) ds))
      by false rest = rest

-- one definition more
pub one_def_more : (defs : List Def) (i : ℕ) (d : Def) (keys new : List TargetKey) (lists now : List (List ℕ))
    → i < length defs → get_or defs i d ≡ d → ArePartedBy (take i defs) keys lists
    → new ≡ insert_key key_eq keys (d.target.item, d.target.inner)
    → now ≡ with_number key_eq (d.target.item, d.target.inner) i keys lists
    → ArePartedBy (take (i + 1) defs) new now
one_def_more defs i d keys new lists now within is parted inserted more =
    let key : TargetKey = (d.target.item, d.target.inner) in
    let front : length (take i defs) ≡ i = search (rules, length-take) in
    let at : i ≡ 0 + length (take i defs) = omega (arith, front) in (
      ap length more ∙ as_many key_eq key i keys lists parted.0 ∙ sym (ap length inserted),
      λ target.
          ap (λ (ls : List (List ℕ)). list_at target new ls) more
          ∙ ap (λ (ps : List TargetKey). list_at target ps (with_number key_eq key i keys lists)) inserted
          ∙ added_at target key i keys lists parted.0
          ∙ ap (λ (l : List ℕ). grown (is_at target key) l i) (parted.1 target)
          ∙ ap (grown (is_at target key) (definition_numbers (defs_from target 0 (take i defs)))) at
          ∙ sym (defs_push target 0 (take i defs) d)
          ∙ ap (λ (ds : List Def). definition_numbers (defs_from target 0 ds))
          (sym (take_more defs i d within ∙ ap (λ (e : Def). take i defs ++ e ∷ []) is)),
    )

list_found : (target : Target) (keys : List TargetKey) (lists : List (List ℕ)) → length lists ≡ length keys
    → list_at target keys lists ≡ get_or lists (position_or_len (key_eq (target.item, target.inner)) keys) []
list_found target [] [] same = refl
list_found target [] (list ∷ lists) same = absurd (omega (arith, same))
list_found target (key ∷ keys) [] same = absurd (omega (arith, same))
list_found target (key ∷ keys) (list ∷ lists) same =
    ap (λ (b : Bool). if b then list else list_at target keys lists) (sym (at_key target key))
    ∙ by (key_eq (target.item, target.inner) key) (position_or_len (key_eq (target.item, target.inner)) keys)
    (list_found target keys lists (omega (arith, same))) where
      by : (b : Bool) (i : ℕ) → list_at target keys lists ≡ get_or lists i []
          → (if b then list else list_at target keys lists) ≡ get_or (list ∷ lists) (cond (not b) (1 + i) 0) []
      by true i rest = refl
      by false i rest =
          let one : suc i ≡ 1 + i = omega arith in
          rest ∙ ap (λ (k : ℕ). get_or (list ∷ lists) k []) one

pub found : (b : Bool) (i index : ℕ) → cond b (Some i) None ≡ Some index → i ≡ index
found true i index is = ap (λ (o : Option ℕ). unwrap_or o i) is
found false i index is = absurd (search (rules, is))

pub list_at_found : (target : Target) (keys : List TargetKey) (lists : List (List ℕ)) (index : ℕ)
    → length lists ≡ length keys → position (key_eq (target.item, target.inner)) keys ≡ Some index
    → list_at target keys lists ≡ get_or lists index []
list_at_found target keys lists index same at =
    list_found target keys lists same ∙ ap (λ (i : ℕ). get_or lists i []) (found
    (nat_lt (position_or_len (key_eq (target.item, target.inner)) keys) (length keys))
    (position_or_len (key_eq (target.item, target.inner)) keys) index at)

pub not_found : (i n : ℕ) → cond (nat_lt i n) (Some i) None ≡ None → n ≤ i
not_found i n none = by (nat_lt i n) refl none where
  by : (b : Bool) → nat_lt i n ≡ b → cond b (Some i) None ≡ None → n ≤ i
  by true is none = absurd (search (rules, none))
  by false is none = grind (arith, nat_tests, is)

pub list_at_none : (target : Target) (keys : List TargetKey) (lists : List (List ℕ))
    → length lists ≡ length keys → position (key_eq (target.item, target.inner)) keys ≡ None
    → list_at target keys lists ≡ []
list_at_none target keys lists same none =
    list_found target keys lists same
    ∙ get_or_past lists (position_or_len (key_eq (target.item, target.inner)) keys) []
    (omega (arith, same, not_found (position_or_len (key_eq (target.item, target.inner)) keys) (length keys) none))
