-- The groups of lists of numbers, of which one takes a number more.
use Rattle.std.proofs.Common.{◌≡◌, ◌∙◌, ℕ, ◌<◌, ◌≤◌, ◌+◌, suc, Bool, true, false, ◌||◌, if◌then◌else◌, List, [], ◌∷◌}
use Rattle.std.proofs.Common.{◌++◌, length}
use Rattle.std.proofs.Common.{Option, Some, None, slice_get, take, get_or, refl, sym, ap, subst, arith, rules}
use Rattle.std.proofs.Common.{true≢false, cond, not, nat_lt}
use Rattle.std.proofs.lemmas.List.{take_more, length-take}
use Rattle.std.proofs.lemmas.Bool.Decides.{nat_tests}
use Rattle.std.proofs.lemmas.Option.{slice_get-get_or}
use Rattle.std.specs.List.{list_any, position, position_or_len}
use Rattle.indexmap.specs.IndexSet.{insert_key}
use Rattle.cat_scope.specs.declared.defs.Def.{Def}
use Rattle.cat_scope.specs.Names.{AllHave}
use Rattle.cat_scope.specs.Groups.{Numbered, Key, Labelled, Base, Alone, Group, key_of, same_key, groups_of}
use Rattle.cat_scope.specs.Groups.{group_numbers, only}
use Rattle.cat_except.specs.declared.group_key.GroupKey.{GroupKey}
use Rattle.cat_except.specs.inside.Keys.{coded_key, is_labelled}
use Rattle.cat_except.specs.inside.Listing.{with_number}
use Rattle.cat_except.specs.inside.Grouping.{numbered, defs_at, group_by, groups_at, coded_keys, AreApart, ArePlaced}
use Rattle.cat_except.specs.inside.Grouping.{AreParted}
use Rattle.cat_except.proofs.Joining.{joined, groups_push, key_is}

pub defs_at_push : (defs : List Def) (n : ℕ) (d : Def) → slice_get defs n ≡ Some d → (ns : List ℕ)
    → defs_at defs (ns ++ n ∷ []) ≡ defs_at defs ns ++ (n, d) ∷ []
defs_at_push defs n d there [] = ap (λ (o : Option Def). numbered n o []) there
defs_at_push defs n d there (m ∷ ns) =
    ap (numbered m (slice_get defs m)) (defs_at_push defs n d there ns) ∙ by (slice_get defs m) where
      by : (o : Option Def) → numbered m o (defs_at defs ns ++ (n, d) ∷ []) ≡ numbered m o (defs_at defs ns)
          ++ (n, d) ∷ []
      by None = refl
      by (Some e) = refl

grow_group : (defs : List Def) (n : ℕ) (d : Def) → slice_get defs n ≡ Some d → (list : List ℕ) → 0 < length list
    → AllHave (λ m. m < length defs) list
    → group_by (defs_at defs (list ++ n ∷ []))
    ≡ record {
      key = (group_by (defs_at defs list)).key;
      except = (group_by (defs_at defs list)).except;
      defs = (group_by (defs_at defs list)).defs ++ (n, d) ∷ [];
    }
grow_group defs n d there [] some each = absurd (omega (arith, some))
grow_group defs n d there (m ∷ ms) some each = by (slice_get defs m) refl where
  by : (o : Option Def) → slice_get defs m ≡ o → group_by (numbered m o (defs_at defs (ms ++ n ∷ [])))
      ≡ record {
        key = (group_by (numbered m o (defs_at defs ms))).key;
        except = (group_by (numbered m o (defs_at defs ms))).except;
        defs = (group_by (numbered m o (defs_at defs ms))).defs ++ (n, d) ∷ [];
      }
  by None is =
      let none : Some (get_or defs m d) ≡ None = sym (slice_get-get_or defs m d each.0) ∙ is in
      absurd (search (rules, none))
  by (Some e) is =
      ap (λ (ds : List Numbered). record { key = key_of (m, e); except = e.except; defs = (m, e) ∷ ds })
      (defs_at_push defs n d there ms)

-- `==` of keys as the code has them
abbrev pub IsSameKey : (GroupKey → GroupKey → Bool) → Type 0
IsSameKey eq = (a b : Key) → eq (coded_key a) (coded_key b) ≡ same_key a b

joined_at : (eq : GroupKey → GroupKey → Bool) → IsSameKey eq → (defs : List Def) (n : ℕ) (d : Def)
    → slice_get defs n ≡ Some d → (lists : List (List ℕ)) → ArePlaced defs lists
    → groups_at defs
    (with_number eq (coded_key (key_of (n, d))) n (coded_keys (groups_at defs lists)) lists)
    ≡ joined (n, d) (groups_at defs lists)
joined_at eq same defs n d there [] placed =
    ap (λ (o : Option Def). group_by (numbered n o []) ∷ []) there
joined_at eq same defs n d there (list ∷ lists) placed =
    by (eq (coded_key (key_of (n, d))) (coded_key (group_by (defs_at defs list)).key))
    (same_key (key_of (n, d)) (group_by (defs_at defs list)).key)
    (same (key_of (n, d)) (group_by (defs_at defs list)).key) (joined_at eq same defs n d there lists placed.1) where
      more : List (List ℕ)
      more = with_number eq (coded_key (key_of (n, d))) n (coded_keys (groups_at defs lists)) lists

      by : (a b : Bool) → a ≡ b → groups_at defs more ≡ joined (n, d) (groups_at defs lists)
          → groups_at defs (if a then (list ++ n ∷ []) ∷ lists else list ∷ more)
          ≡ (if b then record {
            key = (group_by (defs_at defs list)).key;
            except = (group_by (defs_at defs list)).except;
            defs = (group_by (defs_at defs list)).defs ++ (n, d) ∷ [];
          } ∷ groups_at defs lists else group_by (defs_at defs list) ∷ joined (n, d) (groups_at defs lists))
      by true true is rest =
          ap (λ (g : Group). g ∷ groups_at defs lists) (grow_group defs n d there list placed.0.0 placed.0.1)
      by true false is rest = absurd (true≢false is)
      by false true is rest = absurd (true≢false (sym is))
      by false false is rest = ap (λ (gs : List Group). group_by (defs_at defs list) ∷ gs) rest

keys_joined : (eq : GroupKey → GroupKey → Bool) → IsSameKey eq → (d : Numbered) (gs : List Group)
    → coded_keys (joined d gs) ≡ insert_key eq (coded_keys gs) (coded_key (key_of d))
keys_joined eq same d [] = refl
keys_joined eq same d (g ∷ gs) =
    by (eq (coded_key (key_of d)) (coded_key g.key)) (same_key (key_of d) g.key) (same (key_of d) g.key)
    (list_any (eq (coded_key (key_of d))) (coded_keys gs)) (keys_joined eq same d gs) where
      by : (a b : Bool) → a ≡ b → (there : Bool)
          → coded_keys (joined d gs)
          ≡ (if there then coded_keys gs else coded_keys gs ++ coded_key (key_of d) ∷ [])
          → coded_keys (if b then record { key = g.key; except = g.except; defs = g.defs ++ d ∷ [] } ∷ gs
          else g ∷ joined d gs)
          ≡ (if a || there then coded_key g.key ∷ coded_keys gs
          else coded_key g.key ∷ (coded_keys gs ++ coded_key (key_of d) ∷ []))
      by true true is there rest = refl
      by true false is there rest = absurd (true≢false is)
      by false true is there rest = absurd (true≢false (sym is))
      by false false is true rest = ap (λ ks. coded_key g.key ∷ ks) rest
      by false false is false rest = ap (λ ks. coded_key g.key ∷ ks) rest

pub all_push : {A : Type 0} (P : A → Type 0) (xs : List A) (x : A) → AllHave P xs → P x → AllHave P (xs ++ x ∷ [])
all_push P [] x all here = (here, tt)
all_push P (y ∷ xs) x all here = (all.0, all_push P xs x all.1 here)

length_push : (ns : List ℕ) (n : ℕ) → 0 < length (ns ++ n ∷ [])
length_push [] n = omega arith
length_push (m ∷ ns) n = omega arith

placed_more : {K : Type 0} (eq : K → K → Bool) (key : K) (defs : List Def) (n : ℕ) → n < length defs → (keys : List K)
    (lists : List (List ℕ)) → ArePlaced defs lists → ArePlaced defs (with_number eq key n keys lists)
placed_more eq key defs n within [] lists placed =
    all_push (λ (list : List ℕ). (0 < length list) × AllHave (λ m. m < length defs) list) lists (n ∷ []) placed
    (omega arith, (within, tt))
placed_more eq key defs n within (k ∷ ks) [] placed = tt
placed_more eq key defs n within (k ∷ ks) (list ∷ lists) placed =
    by (eq key k) (placed_more eq key defs n within ks lists placed.1) where
      by : (b : Bool) → ArePlaced defs (with_number eq key n ks lists)
          → ArePlaced defs (if b then (list ++ n ∷ []) ∷ lists else list ∷ with_number eq key n ks lists)
      by true rest = ((length_push list n, all_push (λ (m : ℕ). m < length defs) list n placed.0.1 within), placed.1)
      by false rest = (placed.0, rest)

pub as_many_keys : (defs : List Def) (lists : List (List ℕ))
    → length lists ≡ length (coded_keys (groups_at defs lists))
as_many_keys defs [] = refl
as_many_keys defs (list ∷ lists) = ap suc (as_many_keys defs lists)

-- groups stay apart
all_joined : (k : Key) (d : Numbered) → same_key (key_of d) k ≡ false → (gs : List Group)
    → AllHave (λ (h : Group). same_key h.key k ≡ false) gs
    → AllHave (λ (h : Group). same_key h.key k ≡ false) (joined d gs)
all_joined k d other [] all = (other, tt)
all_joined k d other (g ∷ gs) all = by (same_key (key_of d) g.key) (all_joined k d other gs all.1) where
  by : (b : Bool) → AllHave (λ (h : Group). same_key h.key k ≡ false) (joined d gs)
      → AllHave (λ (h : Group). same_key h.key k ≡ false)
      (if b then record { key = g.key; except = g.except; defs = g.defs ++ d ∷ [] } ∷ gs else g ∷ joined d gs)
  by true rest = all
  by false rest = (all.0, rest)

apart_joined : (d : Numbered) (gs : List Group) → AreApart gs → AreApart (joined d gs)
apart_joined d [] apart = (tt, tt)
apart_joined d (g ∷ gs) apart = by (same_key (key_of d) g.key) refl (apart_joined d gs apart.1) where
  by : (b : Bool) → same_key (key_of d) g.key ≡ b → AreApart (joined d gs)
      → AreApart (if b then record { key = g.key; except = g.except; defs = g.defs ++ d ∷ [] } ∷ gs else
      g ∷ joined d gs)
  by true is rest = apart
  by false is rest = (all_joined g.key d is gs apart.0, rest)

few_more : {K : Type 0} (eq : K → K → Bool) (key : K) (n : ℕ) (keys : List K) (lists : List (List ℕ))
    → length (with_number eq key n keys lists) ≤ length lists + 1
few_more eq key n [] lists = omega (arith, longer lists) where
  longer : (ls : List (List ℕ)) → length (ls ++ (n ∷ []) ∷ []) ≡ length ls + 1
  longer [] = omega arith
  longer (l ∷ ls) = omega (arith, longer ls)
few_more eq key n (k ∷ ks) [] = omega arith
few_more eq key n (k ∷ ks) (list ∷ lists) = by (eq key k) (few_more eq key n ks lists) where
  by : (b : Bool) → length (with_number eq key n ks lists) ≤ length lists + 1
      → length (if b then (list ++ n ∷ []) ∷ lists else list ∷ with_number eq key n ks lists) ≤ suc (length lists) + 1
  by true rest = omega arith
  by false rest = omega (arith, rest)

pub one_number_more : (eq : GroupKey → GroupKey → Bool) → IsSameKey eq → (defs : List Def) (numbers : List ℕ) (i n : ℕ)
    (d : Def) (key : GroupKey) (keys new : List GroupKey) (lists now : List (List ℕ)) → i < length numbers
    → get_or numbers i n ≡ n → n < length defs → slice_get defs n ≡ Some d → key ≡ coded_key (key_of (n, d))
    → new ≡ insert_key eq keys key → now ≡ with_number eq key n keys lists → AreParted defs (take i numbers) keys lists
    → AreParted defs (take (i + 1) numbers) new now
one_number_more eq same defs numbers i n d key keys new lists now within at low there is inserted more have =
    let now_is : now
    ≡ with_number eq (coded_key (key_of (n, d))) n (coded_keys (groups_at defs lists)) lists =
    more ∙ ap (λ (k : GroupKey). with_number eq k n keys lists) is
    ∙ ap (λ (ks : List GroupKey). with_number eq (coded_key (key_of (n, d))) n ks lists) have.keys_are in
    let grown : groups_at defs now ≡ joined (n, d) (groups_at defs lists) =
    ap (groups_at defs) now_is ∙ joined_at eq same defs n d there lists have.placed in
    let front : length (take i numbers) ≡ i = search (rules, length-take) in
    let longer : length (take (i + 1) numbers) ≡ i + 1 = search (rules, length-take) in
    let keys_now : new ≡ coded_keys (groups_at defs now) =
    inserted ∙ ap (insert_key eq keys) is
    ∙ ap (λ (ks : List GroupKey). insert_key eq ks (coded_key (key_of (n, d)))) have.keys_are
    ∙ sym (keys_joined eq same (n, d) (groups_at defs lists)) ∙ ap coded_keys (sym grown) in
    record {
      groups = grown ∙ ap (joined (n, d)) have.groups ∙ sym (groups_push (defs_at defs (take i numbers)) (n, d))
          ∙ ap groups_of (sym (defs_at_push defs n d there (take i numbers)))
          ∙ ap (λ (ns : List ℕ). groups_of (defs_at defs ns))
          (sym (take_more numbers i n within ∙ ap (λ (m : ℕ). take i numbers ++ m ∷ []) at));
      keys_are = keys_now;
      counted = ap length keys_now ∙ sym (as_many_keys defs now);
      apart = subst (λ (gs : List Group). AreApart gs) (sym grown)
          (apart_joined (n, d) (groups_at defs lists) have.apart);
      few = subst (λ (ls : List (List ℕ)). length ls ≤ length (take (i + 1) numbers)) (sym more)
          (omega (arith, few_more eq key n keys lists, have.few, front, longer));
      placed = subst (λ (ls : List (List ℕ)). ArePlaced defs ls) (sym more)
          (placed_more eq key defs n low keys lists have.placed);
    }

-- what a group is an exception to
pub first_except : (defs : List Def) (list : List ℕ) (d : Def) → 0 < length list → get_or list 0 0 < length defs
    → (get_or defs (get_or list 0 0) d).except ≡ (group_by (defs_at defs list)).except
first_except defs [] d some within = absurd (omega (arith, some))
first_except defs (n ∷ ns) d some within =
    ap (λ (o : Option Def). (group_by (numbered n o (defs_at defs ns))).except) (sym (slice_get-get_or defs n d within))

-- a group is found by its label
other_numbers : (l : List ℕ) (k : Key) → same_key (Labelled l) k ≡ true → (n : ℕ) (gs : List Group)
    → AllHave (λ (h : Group). same_key h.key k ≡ false) gs
    → group_numbers (λ (g : Group). same_key (Labelled l) g.key) n gs ≡ []
other_numbers l k is n [] all = refl
other_numbers l k is n (g ∷ gs) all =
    by (same_key (Labelled l) g.key) refl (other_numbers l k is (n + 1) gs all.1) where
      by : (b : Bool) → same_key (Labelled l) g.key ≡ b
          → group_numbers (λ (g : Group). same_key (Labelled l) g.key) (n + 1) gs ≡ []
          → (if b then n ∷ group_numbers (λ (g : Group). same_key (Labelled l) g.key) (n + 1) gs
          else group_numbers (λ (g : Group). same_key (Labelled l) g.key) (n + 1) gs) ≡ []
      by true same rest =
          absurd (true≢false (sym is ∙ ap (λ (a : Key). same_key a k) (key_is (Labelled l) g.key same) ∙ all.0))
      by false same rest = rest

at_key : (l : List ℕ) (k : Key) → is_labelled l (coded_key k) ≡ same_key (Labelled l) k
at_key l (Labelled m) = refl
at_key l Base = refl
at_key l (Alone n) = refl

abbrev IsFound : List ℕ → ℕ → List Group → ℕ → Type 0
IsFound l n gs index =
    only (group_numbers (λ (g : Group). same_key (Labelled l) g.key) n gs)
    ≡ cond (nat_lt index (length (coded_keys gs))) (Some (n + index)) None

found_from : (l : List ℕ) (n : ℕ) (gs : List Group) → AreApart gs
    → IsFound l n gs (position_or_len (is_labelled l) (coded_keys gs))
found_from l n [] apart = refl
found_from l n (g ∷ gs) apart =
    by (is_labelled l (coded_key g.key)) (same_key (Labelled l) g.key) (at_key l g.key) refl
    (position_or_len (is_labelled l) (coded_keys gs)) (found_from l (n + 1) gs apart.1) where
      by : (a b : Bool) → a ≡ b → same_key (Labelled l) g.key ≡ b → (index : ℕ) → IsFound l (n + 1) gs index
          → only (if b then n ∷ group_numbers (λ (g : Group). same_key (Labelled l) g.key) (n + 1) gs
          else group_numbers (λ (g : Group). same_key (Labelled l) g.key) (n + 1) gs)
          ≡ cond (nat_lt (cond (not a) (1 + index) 0) (suc (length (coded_keys gs))))
          (Some (n + cond (not a) (1 + index) 0)) None
      by true true is same index rest =
          let low : nat_lt 0 (suc (length (coded_keys gs))) ≡ true = grind (arith, nat_tests) in
          ap (λ ns. only (n ∷ ns)) (other_numbers l g.key same (n + 1) gs apart.0) ∙ ap Some (omega arith)
          ∙ sym (ap (λ b. cond b (Some (n + 0)) None) low)
      by true false is same index rest = absurd (true≢false is)
      by false true is same index rest = absurd (true≢false (sym is))
      by false false is same index rest =
          let behind : nat_lt index (length (coded_keys gs)) ≡ nat_lt (1 + index) (suc (length (coded_keys gs))) =
          grind (arith, nat_tests) in
          rest ∙ ap (λ b. cond b (Some ((n + 1) + index)) None) behind
          ∙ ap (λ (m : ℕ). cond (nat_lt (1 + index) (suc (length (coded_keys gs)))) (Some m) None) (omega arith)

pub label_found : (l : List ℕ) (gs : List Group) → AreApart gs
    → position (is_labelled l) (coded_keys gs)
    ≡ only (group_numbers (λ (g : Group). same_key (Labelled l) g.key) 0 gs)
label_found l gs apart =
    let index : ℕ = position_or_len (is_labelled l) (coded_keys gs) in
    let zero_more : 0 + index ≡ index = omega arith in
    sym (found_from l 0 gs apart
    ∙ ap (λ (m : ℕ). cond (nat_lt index (length (coded_keys gs))) (Some m) None) zero_more)
