-- Definitions by the numbers of their places.
use Rattle.std.proofs.Common.{◌≡◌, ℕ, zero, suc, ◌+◌, nat_eq, Bool, true, false, ◌&&◌, if◌then◌else◌}
use Rattle.std.proofs.Common.{List, []}
use Rattle.std.proofs.Common.{◌∷◌, ◌++◌, map, length, Some, slice_get, refl, sym, ap, ◌∙◌, subst}
use Rattle.std.proofs.Common.{arith}
use Rattle.std.proofs.Common.{true≢false, ◌||◌}
use Rattle.std.specs.List.{list_any, position_or_len}
use Rattle.cat_pos.specs.declared.pos.Pos.{Pos}
use Rattle.cat_guard.specs.declared.guard.GuardDef.{GuardDef}
use Rattle.cat_dead.specs.Winners.{is_same}
use Rattle.cat_dead_report.specs.inside.Places.{number_of, AreNumbered, HaveNumbers}
use Rattle.cat_dead.proofs.Exported.{same_is, same_self, some_same}

-- ---- one of the definitions

-- a definition by its number, with that of its place
pub record IsNumbered (positions : List Pos) (numbers : List ℕ) (d : ℕ) (def : GuardDef) : Type 0 where
  pub number : ℕ
  pub is : slice_get numbers d ≡ Some number
  pub number_is : number ≡ number_of positions def.pos
  pub there : slice_get positions number ≡ Some def.pos

pub numbered_at : (positions : List Pos) (defs : List GuardDef) (numbers : List ℕ) → AreNumbered positions defs numbers
    → (d : ℕ) (def : GuardDef) → slice_get defs d ≡ Some def → IsNumbered positions numbers d def
numbered_at positions [] [] are d def at = absurd (cc)
numbered_at positions [] (n ∷ ns) are d def at = absurd (are)
numbered_at positions (e ∷ defs) [] are d def at = absurd (are)
numbered_at positions (e ∷ defs) (n ∷ ns) are zero def at =
    let same : e ≡ def = some_same e def at in
    record {
      number = n;
      is = refl;
      number_is = are.0 ∙ ap (λ (x : GuardDef). number_of positions x.pos) same;
      there = are.1 ∙ ap (λ (x : GuardDef). Some x.pos) same;
    }
numbered_at positions (e ∷ defs) (n ∷ ns) are (suc d) def at =
    let rest = numbered_at positions defs ns are.2 d def at in
    record { number = rest.number; is = rest.is; number_is = rest.number_is; there = rest.there }

-- ---- the first that passes a test

here : {A : Type 0} (test : A → Bool) (x : A) (xs : List A) → test x ≡ true → position_or_len test (x ∷ xs) ≡ 0
here test x xs e = rw e refl

later : {A : Type 0} (test : A → Bool) (x : A) (xs : List A) → test x ≡ false
    → position_or_len test (x ∷ xs) ≡ suc (position_or_len test xs)
later test x xs e =
    let one : 1 + position_or_len test xs ≡ suc (position_or_len test xs) = omega arith in rw e one

-- ---- places more

-- a position keeps its number
number_kept : (positions : List Pos) (p q : Pos) (n : ℕ) → n ≡ number_of positions p → slice_get positions n ≡ Some p
    → n ≡ number_of (positions ++ q ∷ []) p
number_kept [] p q n is there = absurd (cc)
number_kept (r ∷ ps) p q n is there = by (is_same p r) refl n is there (number_kept ps p q)
  where
    by : (b : Bool) → is_same p r ≡ b → (m : ℕ) → m ≡ number_of (r ∷ ps) p → slice_get (r ∷ ps) m ≡ Some p
        → ((k : ℕ) → k ≡ number_of ps p → slice_get ps k ≡ Some p → k ≡ number_of (ps ++ q ∷ []) p)
        → m ≡ number_of (r ∷ (ps ++ q ∷ [])) p
    by true e m is there rest = is ∙ here (is_same p) r ps e ∙ sym (here (is_same p) r (ps ++ q ∷ []) e)
    by false e zero is there rest =
        let same : r ≡ p = some_same r p there in
        absurd (true≢false (sym (same_self p) ∙ subst (λ (x : Pos). is_same p x ≡ false) same e))
    by false e (suc m) is there rest =
        let whole : suc m ≡ suc (number_of ps p) = is ∙ later (is_same p) r ps e in
        let one : m ≡ number_of ps p = omega (arith, whole) in
        ap suc (rest m one there) ∙ sym (later (is_same p) r (ps ++ q ∷ []) e)

there_kept : (positions : List Pos) (p q : Pos) (n : ℕ) → slice_get positions n ≡ Some p
    → slice_get (positions ++ q ∷ []) n ≡ Some p
there_kept [] p q n there = absurd (cc)
there_kept (r ∷ ps) p q zero there = there
there_kept (r ∷ ps) p q (suc n) there = there_kept ps p q n there

numbered_kept : (positions : List Pos) (q : Pos) (defs : List GuardDef) (numbers : List ℕ)
    → AreNumbered positions defs numbers → AreNumbered (positions ++ q ∷ []) defs numbers
numbered_kept positions q [] [] are = tt
numbered_kept positions q [] (n ∷ ns) are = absurd (are)
numbered_kept positions q (d ∷ defs) [] are = absurd (are)
numbered_kept positions q (d ∷ defs) (n ∷ ns) are = (
  number_kept positions d.pos q n are.0 are.1,
  there_kept positions d.pos q n are.1,
  numbered_kept positions q defs ns are.2,
)

-- a definition more
numbered_more : (positions : List Pos) (defs : List GuardDef) (numbers : List ℕ)
    → AreNumbered positions defs numbers
    → (d : GuardDef) (n : ℕ) → n ≡ number_of positions d.pos → slice_get positions n ≡ Some d.pos
    → AreNumbered positions (defs ++ d ∷ []) (numbers ++ n ∷ [])
numbered_more positions [] [] are d n is there = (is, there, tt)
numbered_more positions [] (m ∷ ns) are d n is there = absurd (are)
numbered_more positions (e ∷ defs) [] are d n is there = absurd (are)
numbered_more positions (e ∷ defs) (m ∷ ns) are d n is there =
    (are.0, are.1, numbered_more positions defs ns are.2 d n is there)

-- ---- positions as the keys of a set

-- a position as a key
abbrev pub Key : Type 0
Key = ℕ × ℕ

abbrev pub key_of : Pos → Key
key_of p = (p.line, p.place)

-- the test of keys that a set makes
abbrev pub same_key : Key → Key → Bool
same_key k j = nat_eq k.0 j.0 && nat_eq k.1 j.1

-- places have these keys
abbrev pub keys_of : List Pos → List Key
keys_of positions = map key_of positions

key_number : (positions : List Pos) (p : Pos)
    → position_or_len (same_key (key_of p)) (keys_of positions) ≡ number_of positions p
key_number [] p = refl
key_number (q ∷ ps) p = by (is_same p q) refl (key_number ps p)
  where
    by : (b : Bool) → is_same p q ≡ b → position_or_len (same_key (key_of p)) (keys_of ps) ≡ number_of ps p
        → position_or_len (same_key (key_of p)) (keys_of (q ∷ ps)) ≡ number_of (q ∷ ps) p
    by true e rest =
        here (same_key (key_of p)) (key_of q) (keys_of ps) e ∙ sym (here (is_same p) q ps e)
    by false e rest =
        later (same_key (key_of p)) (key_of q) (keys_of ps) e ∙ ap suc rest ∙ sym (later (is_same p) q ps e)

-- where a position is among others
found_there : (positions : List Pos) (p : Pos) → list_any (same_key (key_of p)) (keys_of positions) ≡ true
    → slice_get positions (number_of positions p) ≡ Some p
found_there [] p h = absurd (true≢false (sym h))
found_there (q ∷ ps) p h = by (is_same p q) refl h (found_there ps p)
  where
    by : (b : Bool) → is_same p q ≡ b → list_any (same_key (key_of p)) (keys_of (q ∷ ps)) ≡ true
        → (list_any (same_key (key_of p)) (keys_of ps) ≡ true → slice_get ps (number_of ps p) ≡ Some p)
        → slice_get (q ∷ ps) (number_of (q ∷ ps) p) ≡ Some p
    by true e h rest =
        let first : number_of (q ∷ ps) p ≡ 0 = here (is_same p) q ps e in
        ap (slice_get (q ∷ ps)) first ∙ ap Some (sym (same_is p q e))
    by false e h rest =
        let next : number_of (q ∷ ps) p ≡ suc (number_of ps p) = later (is_same p) q ps e in
        let among : list_any (same_key (key_of p)) (keys_of ps) ≡ true =
        sym (ap (λ b. b || list_any (same_key (key_of p)) (keys_of ps)) e) ∙ h in
        ap (slice_get (q ∷ ps)) next ∙ rest among

-- and where it isn't, it goes last
put_last : (positions : List Pos) (p : Pos) → list_any (same_key (key_of p)) (keys_of positions) ≡ false
    → (number_of positions p ≡ length positions) × (number_of (positions ++ p ∷ []) p ≡ length positions)
put_last [] p h = (refl, here (is_same p) p [] (same_self p))
put_last (q ∷ ps) p h = by (is_same p q) refl h (put_last ps p)
  where
    by : (b : Bool) → is_same p q ≡ b → list_any (same_key (key_of p)) (keys_of (q ∷ ps)) ≡ false
        → (list_any (same_key (key_of p)) (keys_of ps) ≡ false
        → (number_of ps p ≡ length ps) × (number_of (ps ++ p ∷ []) p ≡ length ps))
        → (number_of (q ∷ ps) p ≡ length (q ∷ ps)) × (number_of (q ∷ (ps ++ p ∷ [])) p ≡ length (q ∷ ps))
    by true e h rest = absurd (true≢false (sym (ap (λ b. b || list_any (same_key (key_of p)) (keys_of ps)) e) ∙ h))
    by false e h rest =
        let among : list_any (same_key (key_of p)) (keys_of ps) ≡ false =
        sym (ap (λ b. b || list_any (same_key (key_of p)) (keys_of ps)) e) ∙ h in
        let two = rest among in
        (later (is_same p) q ps e ∙ ap suc two.0, later (is_same p) q (ps ++ p ∷ []) e ∙ ap suc two.1)

last_there : (positions : List Pos) (p : Pos) → slice_get (positions ++ p ∷ []) (length positions) ≡ Some p
last_there [] p = refl
last_there (q ∷ ps) p = last_there ps p

-- ---- the set of places while it grows

-- the first definitions have the numbers of their positions among these keys
pub record IsPlacing (defs : List GuardDef) (keys : List Key) (numbers : List ℕ) : Type 0 where
  pub positions : List Pos
  pub keys_are : keys ≡ keys_of positions
  pub numbered : AreNumbered positions defs numbers

keys_more : (positions : List Pos) (p : Pos) → keys_of (positions ++ p ∷ []) ≡ keys_of positions ++ key_of p ∷ []
keys_more [] p = refl
keys_more (q ∷ ps) p = ap (λ ks. key_of q ∷ ks) (keys_more ps p)

module _ (defs : List GuardDef) (keys next : List Key) (numbers : List ℕ) (before : IsPlacing defs keys numbers)
    (d : GuardDef) (n : ℕ)
    (grown : next ≡ (if list_any (same_key (key_of d.pos)) keys then keys else keys ++ key_of d.pos ∷ []))
    (number_is : n ≡ position_or_len (same_key (key_of d.pos)) keys) where
  own : n ≡ number_of before.positions d.pos
  own =
      number_is ∙ ap (position_or_len (same_key (key_of d.pos))) before.keys_are
      ∙ key_number before.positions d.pos

  by_test : (b : Bool) → list_any (same_key (key_of d.pos)) (keys_of before.positions) ≡ b
      → next ≡ (if b then keys else keys ++ key_of d.pos ∷ [])
      → IsPlacing (defs ++ d ∷ []) next (numbers ++ n ∷ [])
  by_test true e is = record {
    positions = before.positions;
    keys_are = is ∙ before.keys_are;
    numbered = numbered_more before.positions defs numbers before.numbered d n own
        (ap (slice_get before.positions) own ∙ found_there before.positions d.pos e);
  }
  by_test false e is =
      let last = put_last before.positions d.pos e in
      record {
        positions = before.positions ++ d.pos ∷ [];
        keys_are = is ∙ ap (λ ks. ks ++ key_of d.pos ∷ []) before.keys_are ∙ sym (keys_more before.positions d.pos);
        numbered = numbered_more (before.positions ++ d.pos ∷ []) defs numbers
            (numbered_kept before.positions d.pos defs numbers before.numbered) d n
            (own ∙ last.0 ∙ sym last.1)
            (ap (slice_get (before.positions ++ d.pos ∷ [])) (own ∙ last.0) ∙ last_there before.positions d.pos);
      }

  pub placed_more : IsPlacing (defs ++ d ∷ []) next (numbers ++ n ∷ [])
  placed_more =
      by_test (list_any (same_key (key_of d.pos)) (keys_of before.positions)) refl
      (grown ∙ ap (λ ks. if list_any (same_key (key_of d.pos)) ks then keys else keys ++ key_of d.pos ∷ [])
      before.keys_are)

pub placed_first : IsPlacing [] [] []
placed_first = record { positions = []; keys_are = refl; numbered = tt }

keys_count : (positions : List Pos) → length (keys_of positions) ≡ length positions
keys_count [] = refl
keys_count (p ∷ ps) = let rest = keys_count ps in omega (arith, rest)

pub placed_all : (defs : List GuardDef) (keys : List Key) (numbers : List ℕ) (count : ℕ) → count ≡ length keys
    → IsPlacing defs keys numbers → HaveNumbers defs numbers count
placed_all defs keys numbers count is placed = record {
  positions = placed.positions;
  numbered = placed.numbered;
  count_is = sym (is ∙ ap (λ (ks : List Key). length ks) placed.keys_are ∙ keys_count placed.positions);
}
