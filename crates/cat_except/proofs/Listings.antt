-- Lists by key.
use Rattle.std.proofs.Common.{◌≡◌, ℕ, ◌+◌, suc, Bool, true, false, not, ◌||◌, cond, List, [], ◌∷◌, ◌++◌, length, set}
use Rattle.std.proofs.Common.{get_or, refl, ap, sym}
use Rattle.std.proofs.Common.{◌∙◌, true≢false, subst, arith, if◌then◌else◌}
use Rattle.std.proofs.Common.{Result, Ok, Err, OnOk}
use Rattle.std.specs.List.{list_any, position_or_len}
use Rattle.cat_except.specs.inside.Listing.{with_number}

-- the lists with room for a new key
abbrev pub with_room : Bool → List (List ℕ) → List (List ℕ)
with_room true lists = lists
with_room false lists = lists ++ [] ∷ []

pub room_new : (there is_new : Bool) (lists now : List (List ℕ)) (list : List ℕ) → is_new ≡ not there → is_new ≡ true
    → now ≡ lists ++ list ∷ [] → list ≡ [] → now ≡ with_room there lists
room_new true is_new lists now list new is pushed none = absurd (true≢false (sym is ∙ new))
room_new false is_new lists now list new is pushed none = pushed ∙ ap (λ (l : List ℕ). lists ++ l ∷ []) none

pub room_old : (there is_new : Bool) (lists now : List (List ℕ)) → is_new ≡ not there → is_new ≡ false → now ≡ lists
    → now ≡ with_room there lists
room_old true is_new lists now new is same = same
room_old false is_new lists now new is same = absurd (true≢false (sym new ∙ is))

abbrev Puts : {K : Type 0} → (K → K → Bool) → K → ℕ → List K → List (List ℕ) → Bool → ℕ → Type 0
Puts eq key n keys lists there index =
    set (with_room there lists) index (get_or (with_room there lists) index [] ++ n ∷ [])
    ≡ with_number eq key n keys lists

here_or_behind : (b there : Bool) (index n : ℕ) (list : List ℕ) (lists rest : List (List ℕ))
    → set (with_room there lists) index (get_or (with_room there lists) index [] ++ n ∷ []) ≡ rest
    → set (with_room (b || there) (list ∷ lists)) (cond (not b) (suc index) 0)
    (get_or (with_room (b || there) (list ∷ lists)) (cond (not b) (suc index) 0) [] ++ n ∷ [])
    ≡ (if b then (list ++ n ∷ []) ∷ lists else list ∷ rest)
here_or_behind true there index n list lists rest behind = refl
here_or_behind false true index n list lists rest behind = ap (λ ls. list ∷ ls) behind
here_or_behind false false index n list lists rest behind = ap (λ ls. list ∷ ls) behind

one_behind : (b : Bool) (index : ℕ) → cond (not b) (suc index) 0 ≡ cond (not b) (1 + index) 0
one_behind true index = refl
one_behind false index = omega arith

pub put_under : {K : Type 0} (eq : K → K → Bool) (key : K) (n : ℕ) (keys : List K) (lists : List (List ℕ))
    → length lists ≡ length keys → Puts eq key n keys lists (list_any (eq key) keys) (position_or_len (eq key) keys)
put_under eq key n [] [] same = refl
put_under eq key n [] (list ∷ lists) same = absurd (omega (arith, same))
put_under eq key n (k ∷ ks) [] same = absurd (omega (arith, same))
put_under eq key n (k ∷ ks) (list ∷ lists) same =
    subst (λ (i : ℕ). Puts eq key n (k ∷ ks) (list ∷ lists) (list_any (eq key) (k ∷ ks)) i)
    (one_behind (eq key k) (position_or_len (eq key) ks))
    (here_or_behind (eq key k) (list_any (eq key) ks) (position_or_len (eq key) ks) n list lists
    (with_number eq key n ks lists) (put_under eq key n ks lists (omega (arith, same))))

-- the same of values that are known by equations
pub put_at : {K : Type 0} (eq : K → K → Bool) (key : K) (n : ℕ) (keys : List K) (lists now : List (List ℕ)) (index : ℕ)
    (grown : List ℕ) → length lists ≡ length keys → now ≡ with_room (list_any (eq key) keys) lists
    → index ≡ position_or_len (eq key) keys → grown ≡ get_or now index [] ++ n ∷ []
    → set now index grown ≡ with_number eq key n keys lists
put_at eq key n keys lists now index grown same is at grows =
    ap (set now index) grows
    ∙ ap (λ (ls : List (List ℕ)). set ls index (get_or ls index [] ++ n ∷ [])) is
    ∙ ap (λ (i : ℕ). set (with_room (list_any (eq key) keys) lists) i
    (get_or (with_room (list_any (eq key) keys) lists) i [] ++ n ∷ [])) at
    ∙ put_under eq key n keys lists same

pub on_ok : {A E : Type 0} {P Q : Type 0} (r : Result A E) → OnOk r P → (P → Q) → OnOk r Q
on_ok (Ok a) is go = go is
on_ok (Err e) is go = tt
