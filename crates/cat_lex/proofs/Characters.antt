-- Texts by their characters.
use Rattle.std.proofs.Common.{◌≡◌, ℕ, ◌-◌, ◌<◌, ◌≤◌, ◌⊎◌, Bool, true, false, cond, ltb, List, [], ◌∷◌, ◌++◌, length}
use Rattle.std.proofs.Common.{take, refl, sym, ap, ◌∙◌, inl, inr, arith, append_assoc}
use Rattle.std.specs.Char.{encode_utf8, is_ascii_uppercase, is_ascii_lowercase}
use Rattle.std.specs.List.{list_all}
use Rattle.std.specs.Str.{encode_utf8_all, all_scalars}
use Rattle.std.proofs.lemmas.Bool.Decides.{nat_tests}
use Rattle.std.proofs.lemmas.List.{length-append}
use Rattle.std.proofs.lemmas.Str.{chars-encodes, encode_ascii, cons_from_encodes, length-encode, len_utf8_bounds}
use Rattle.std.proofs.Math.Seq.{take-append_seam}
use Rattle.unicode_ident.specs.Ident.{is_xid_start, is_xid_continue}
use Rattle.unicode_ident.proofs.IdentLemmas.{is_xid_start-ascii, is_xid_continue-ascii}
use Rattle.cat_lex.specs.Gaps.{is_white_space}
use Rattle.cat_lex.specs.inside.Reading.{skip, after, front_of}
use Rattle.cat_lex.proofs.Skips.{and_left, and_right, and_true, skip_run}

abbrev pub bytes_of : List ℕ → List ℕ
bytes_of cs = encode_utf8_all cs

pub scalars_append : (xs ys : List ℕ) → all_scalars (xs ++ ys) ≡ true → all_scalars ys ≡ true
scalars_append [] ys h = h
scalars_append (x ∷ xs) ys h = scalars_append xs ys (and_right _ _ h)

pub scalars_skip : (p : ℕ → Bool) (cs : List ℕ) → all_scalars cs ≡ true → all_scalars (skip p cs) ≡ true
scalars_skip p cs h =
    let run = skip_run p cs in
    let whole : all_scalars (run.run ++ skip p cs) ≡ true = ap all_scalars (sym run.split) ∙ h in
    scalars_append run.run (skip p cs) whole

-- on the characters
pub after_chars : (p : ℕ → Bool) (cs : List ℕ) → all_scalars cs ≡ true → after p (bytes_of cs) ≡ bytes_of (skip p cs)
after_chars p cs h = ap (λ (w : List ℕ). bytes_of (skip p w)) (chars-encodes cs h)

-- characters in front are characters of the text
pub peel : (ws cs rest : List ℕ) → bytes_of cs ≡ bytes_of ws ++ rest
    → (es : List ℕ) × (cs ≡ ws ++ es) × (bytes_of es ≡ rest)
peel [] cs rest e = (cs, refl, e)
peel (w ∷ ws) cs rest e =
    let one = cons_from_encodes cs (bytes_of ws ++ rest) w (e ∙ append_assoc (encode_utf8 w) (bytes_of ws) rest) in
    let more = peel ws one.0 rest one.2 in
    (more.0, one.1 ∙ ap (λ (x : List ℕ). w ∷ x) more.1, more.2)

pub longer : (c : ℕ) (cs : List ℕ) → length (bytes_of cs) < length (bytes_of (c ∷ cs))
longer c cs =
    let bound = len_utf8_bounds c in
    omega (arith, bound.0, length-append (encode_utf8 c) (bytes_of cs), length-encode c)

pub near_at : (p : ℕ → Bool) (c : ℕ) (cs : List ℕ) (b : Bool)
    → (skip p cs ≡ cs) ⊎ (length (bytes_of (skip p cs)) < length (bytes_of cs))
    → (cond b (skip p cs) (c ∷ cs) ≡ c ∷ cs) ⊎
    (length (bytes_of (cond b (skip p cs) (c ∷ cs))) < length (bytes_of (c ∷ cs)))
near_at p c cs true (inl e) = inr (omega (arith, longer c cs, ap (λ (w : List ℕ). length (bytes_of w)) e))
near_at p c cs true (inr l) = inr (omega (arith, longer c cs))
near_at p c cs false n = inl refl

pub skip_near : (p : ℕ → Bool) (cs : List ℕ) → (skip p cs ≡ cs) ⊎ (length (bytes_of (skip p cs)) < length (bytes_of cs))
skip_near p [] = inl refl
skip_near p (c ∷ cs) = near_at p c cs (p c) (skip_near p cs)

pub near_le : (p : ℕ → Bool) (cs : List ℕ)
    (n : (skip p cs ≡ cs) ⊎ (length (bytes_of (skip p cs)) < length (bytes_of cs)))
    → length (bytes_of (skip p cs)) ≤ length (bytes_of cs)
near_le p cs (inl e) = omega (arith, ap (λ (w : List ℕ). length (bytes_of w)) e)
near_le p cs (inr l) = omega arith

-- ASCII
pub ascii_one : (c : ℕ) (cs : List ℕ) → ltb c 128 ≡ true → bytes_of cs ≡ cs → bytes_of (c ∷ cs) ≡ c ∷ cs
ascii_one c cs h e =
    let low : c < 128 = grind (arith, nat_tests) in
    let one : encode_utf8 c ≡ c ∷ [] = encode_ascii c low in
    ap (λ (w : List ℕ). w ++ bytes_of cs) one ∙ ap (λ (w : List ℕ). c ∷ w) e

pub ascii_chars : (cs : List ℕ) → list_all (λ c. ltb c 128) cs ≡ true → bytes_of cs ≡ cs
ascii_chars [] h = refl
ascii_chars (c ∷ cs) h = ascii_one c cs (and_left _ _ h) (ascii_chars cs (and_right _ _ h))

pub weaken : (p q : ℕ → Bool) → ((c : ℕ) → p c ≡ true → q c ≡ true) → (cs : List ℕ) → list_all p cs ≡ true
    → list_all q cs ≡ true
weaken p q more [] h = refl
weaken p q more (c ∷ cs) h =
    and_true (q c) (list_all q cs) (more c (and_left _ _ h)) (weaken p q more cs (and_right _ _ h))

pub small_ascii : (c : ℕ) → is_ascii_lowercase c ≡ true → ltb c 128 ≡ true
small_ascii c h = grind (arith, nat_tests)

pub blank_ascii : (c : ℕ) → is_white_space c ≡ true → ltb c 128 ≡ true
blank_ascii c h = grind (arith, nat_tests)

pub small_continues : (c : ℕ) → is_ascii_lowercase c ≡ true → is_xid_continue c ≡ true
small_continues c h =
    let low : c < 128 = grind (arith, nat_tests) in
    is_xid_continue-ascii c low ∙ grind (arith, nat_tests)

pub small_starts : (c : ℕ) → is_ascii_lowercase c ≡ true → is_xid_start c ≡ true
small_starts c h =
    let low : c < 128 = grind (arith, nat_tests) in
    is_xid_start-ascii c low ∙ grind (arith, nat_tests)

pub blank_ends : (c : ℕ) → is_white_space c ≡ true → is_xid_continue c ≡ false
blank_ends c h =
    let low : c < 128 = grind (arith, nat_tests) in
    is_xid_continue-ascii c low ∙ grind (arith, nat_tests)

pub capital_continues : (c : ℕ) → is_ascii_uppercase c ≡ true → is_xid_continue c ≡ true
capital_continues c h =
    let low : c < 128 = grind (arith, nat_tests) in
    is_xid_continue-ascii c low ∙ grind (arith, nat_tests)

pub small_no_capital : (c : ℕ) → is_ascii_lowercase c ≡ true → is_ascii_uppercase c ≡ false
small_no_capital c h = grind (arith, nat_tests)

pub small_no_blank : (c : ℕ) → is_ascii_lowercase c ≡ true → is_white_space c ≡ false
small_no_blank c h = grind (arith, nat_tests)

-- what stands in front
pub front_is : (front rest : List ℕ) → front_of (front ++ rest) rest ≡ front
front_is front rest =
    let position : length (front ++ rest) - length rest ≡ length front = omega (arith, length-append front rest) in
    ap (λ (n : ℕ). take n (front ++ rest)) position ∙ take-append_seam front rest
