-- What one more of a list adds, and what is found at an index.
use Rattle.std.proofs.Common.{◌≡◌, ◌∙◌, ℕ, zero, suc, ◌+◌, ◌<◌, List, [], ◌∷◌, ◌++◌, length, map, take, get_or, Option}
use Rattle.std.proofs.Common.{None, Some, slice_get, inl, refl, sym, ap, arith}
use Rattle.std.specs.Prelude.{flat_map, option_map}
use Rattle.std.proofs.lemmas.Grind.{flat_map-append}
use Rattle.std.proofs.lemmas.List.{append_assoc, append-nil, map-append, take_more}
use Rattle.std.proofs.lemmas.List.Folds.{flat_map-map}
use Rattle.std.proofs.lemmas.Option.{slice_get-map}
use Rattle.std.proofs.lemmas.Simd.{map-map}
use Rattle.cat_scope.specs.Names.{IsOneOf}
use Rattle.cat_tree.specs.declared.name.Name.{Name}
use Rattle.cat_names.specs.declared.fault.Fault.TheVariants.{TooMany}
use Rattle.cat_names.specs.DeclarationFaults.{too_many, past}
use Rattle.cat_names.specs.Written.{positions, names_of}
use Rattle.cat_declare.specs.declared.written.Declaration.{Declaration}
use Rattle.cat_declare.specs.inside.Writings.{as_pair}

next_taken : {A : Type 0} (xs : List A) (i : ℕ) (x : A) → i < length xs → get_or xs i x ≡ x
    → take (i + 1) xs ≡ take i xs ++ x ∷ []
next_taken xs i x within is = take_more xs i x within ∙ ap (λ y. take i xs ++ y ∷ []) is

pub map_next : {A B : Type 0} (f : A → B) (xs : List A) (i : ℕ) (x : A) (ys new : List B) (y : B) → i < length xs
    → get_or xs i x ≡ x → ys ≡ map f (take i xs) → y ≡ f x → new ≡ ys ++ y ∷ [] → new ≡ map f (take (i + 1) xs)
map_next f xs i x ys new y within is so_far made pushed = pushed ∙ ap (λ zs. zs ++ y ∷ []) so_far
    ∙ ap (λ z. map f (take i xs) ++ z ∷ []) made ∙ sym (map-append f (take i xs) (x ∷ []))
    ∙ sym (ap (map f) (next_taken xs i x within is))

pub flat_next : {A B : Type 0} (f : A → List B) (xs : List A) (i : ℕ) (x : A) (old ys new : List B) → i < length xs
    → get_or xs i x ≡ x → ys ≡ old ++ flat_map f (take i xs) → new ≡ ys ++ f x
    → new ≡ old ++ flat_map f (take (i + 1) xs)
flat_next f xs i x old ys new within is so_far added = added ∙ ap (λ zs. zs ++ f x) so_far
    ∙ append_assoc old (flat_map f (take i xs)) (f x)
    ∙ ap (λ zs. old ++ zs) (ap (λ zs. flat_map f (take i xs) ++ zs) (sym (append-nil (f x)))
    ∙ sym (flat_map-append f (take i xs) (x ∷ [])) ∙ sym (ap (flat_map f) (next_taken xs i x within is)))

pub first_of : {A : Type 0} (xs : List A) (x : A) → slice_get xs 0 ≡ Some x → IsOneOf x xs
first_of [] x h = cc h
first_of (y ∷ ys) x h = let is : x ≡ y = cc h in inl is

pub none_first : {A : Type 0} (xs : List A) → slice_get xs 0 ≡ None → xs ≡ []
none_first [] h = refl
none_first (x ∷ xs) h = cc h

-- ---- positions

past_is : {A : Type 0} (f : A → Name) (xs : List A) (limit : ℕ)
    → past limit (positions (map f xs)) ≡ too_many (option_map (λ x. (f x).pos) (slice_get xs limit))
past_is f xs limit = ap too_many (slice_get-map (λ (w : Name). w.pos) (map f xs) limit
    ∙ ap (option_map (λ (w : Name). w.pos)) (slice_get-map f xs limit) ∙ by (slice_get xs limit))
  where
    by : (o : Option _) → option_map (λ (w : Name). w.pos) (option_map f o) ≡ option_map (λ x. (f x).pos) o
    by None = refl
    by (Some x) = refl

pub past_some : {A : Type 0} (f : A → Name) (xs : List A) (limit : ℕ) (x : A) → slice_get xs limit ≡ Some x
    → past limit (positions (map f xs)) ≡ TooMany (f x).pos ∷ []
past_some f xs limit x h = past_is f xs limit ∙ ap (λ o. too_many (option_map (λ y. (f y).pos) o)) h

pub past_none : {A : Type 0} (f : A → Name) (xs : List A) (limit : ℕ) → slice_get xs limit ≡ None
    → past limit (positions (map f xs)) ≡ []
past_none f xs limit h = past_is f xs limit ∙ ap (λ o. too_many (option_map (λ y. (f y).pos) o)) h

position_at : {T : Type 0} (ds : List (Declaration T)) (pairs : List (Name × List T)) (k : ℕ) (d : Declaration T)
    → map as_pair ds ≡ pairs → slice_get ds k ≡ Some d
    → slice_get (positions (names_of pairs)) k ≡ Some d.name.now.pos
position_at ds pairs k d is h = sym (ap (λ ps. slice_get (positions (names_of ps)) k) is) ∙ by ds k h
  where
    by : (es : List (Declaration _)) (n : ℕ) → slice_get es n ≡ Some d
        → slice_get (positions (names_of (map as_pair es))) n ≡ Some d.name.now.pos
    by [] n g = cc g
    by (e ∷ es) zero g = let same : e ≡ d = cc g in ap (λ (x : Declaration _). Some x.name.now.pos) same
    by (e ∷ es) (suc n) g = by es n g

get_front : {A : Type 0} (xs ys : List A) (k : ℕ) (x : A) → slice_get xs k ≡ Some x → slice_get (xs ++ ys) k ≡ Some x
get_front [] ys k x h = cc h
get_front (y ∷ xs) ys zero x h = h
get_front (y ∷ xs) ys (suc k) x h = get_front xs ys k x h

get_behind : {A : Type 0} (xs ys : List A) (k : ℕ) → slice_get (xs ++ ys) (length xs + k) ≡ slice_get ys k
get_behind [] ys k = ap (slice_get ys) (omega arith)
get_behind (x ∷ xs) ys k = let same : length (x ∷ xs) + k ≡ suc (length xs + k) = omega arith in
    ap (slice_get (x ∷ xs ++ ys)) same ∙ get_behind xs ys k

-- ---- lists of lists

pub flat_flat : {A B C : Type 0} (f : B → List C) (g : A → List B) (xs : List A)
    → flat_map f (flat_map g xs) ≡ flat_map (λ x. flat_map f (g x)) xs
flat_flat f g [] = refl
flat_flat f g (x ∷ xs) = flat_map-append f (g x) (flat_map g xs) ∙ ap (λ ys. flat_map f (g x) ++ ys) (flat_flat f g xs)

-- ---- positions of types

positions_of_names : {T : Type 0} (ps : List (Name × List T)) → length (positions (names_of ps)) ≡ length ps
positions_of_names [] = refl
positions_of_names (p ∷ ps) = omega (arith, positions_of_names ps)

pub position_front : {T U : Type 0} (ds : List (Declaration T)) (ps : List (Name × List T)) (qs : List (Name × List U))
    (k : ℕ) (d : Declaration T) → map as_pair ds ≡ ps → slice_get ds k ≡ Some d
    → slice_get (positions (names_of ps) ++ positions (names_of qs)) k ≡ Some d.name.now.pos
position_front ds ps qs k d is h =
    get_front (positions (names_of ps)) (positions (names_of qs)) k d.name.now.pos (position_at ds ps k d is h)

pub position_behind : {T U : Type 0} (ds : List (Declaration U)) (ps : List (Name × List T)) (qs : List (Name × List U))
    (k n : ℕ) (d : Declaration U) → map as_pair ds ≡ qs → n ≡ length ps + k → slice_get ds k ≡ Some d
    → slice_get (positions (names_of ps) ++ positions (names_of qs)) n ≡ Some d.name.now.pos
position_behind ds ps qs k n d is at h =
    let same : n ≡ length (positions (names_of ps)) + k = omega (arith, at, positions_of_names ps) in
    ap (slice_get (positions (names_of ps) ++ positions (names_of qs))) same
    ∙ get_behind (positions (names_of ps)) (positions (names_of qs)) k ∙ position_at ds qs k d is h

-- ---- declarations and pairs

pub made_pairs : {T B : Type 0} (f : Name × List T → B) (ds : List (Declaration T)) (ps : List (Name × List T))
    → map as_pair ds ≡ ps → map (λ d. f (as_pair d)) ds ≡ map f ps
made_pairs f ds ps is = sym (map-map f as_pair ds) ∙ ap (map f) is

pub flat_pairs : {T B : Type 0} (f : Name × List T → List B) (ds : List (Declaration T)) (ps : List (Name × List T))
    → map as_pair ds ≡ ps → flat_map (λ d. f (as_pair d)) ds ≡ flat_map f ps
flat_pairs f ds ps is = sym (flat_map-map f as_pair ds) ∙ ap (flat_map f) is

pub three_behind : {A : Type 0} (old one two three a b c x y z : List A) → one ≡ old ++ a → two ≡ one ++ b
    → three ≡ two ++ c → a ≡ x → b ≡ y → c ≡ z → three ≡ old ++ (x ++ y ++ z)
three_behind old one two three a b c x y z p q r i j k = r ∙ ap (λ l. l ++ c) (q ∙ ap (λ l. l ++ b) p)
    ∙ ap (λ l. old ++ l ++ b ++ c) i ∙ ap (λ l. old ++ x ++ l ++ c) j ∙ ap (λ l. old ++ x ++ y ++ l) k
    ∙ ap (λ l. l ++ z) (append_assoc old x y) ∙ append_assoc old (x ++ y) z
