-- The longest type in front of a blank.
use Rattle.std.proofs.Common.{◌≡◌, ℕ, zero, suc, ◌+◌, ◌≤◌, ◌<◌, Bool, true, false, ◌&&◌, List, [], ◌∷◌, ◌++◌, length}
use Rattle.std.proofs.Common.{drop, Option, Some, None, refl, sym, ap, ◌∙◌, arith, length-append, append_assoc}
use Rattle.std.specs.Prelude.{◌==◌, codes, if◌then◌else◌}
use Rattle.std.proofs.lemmas.Bool.{eqb-true, and_parts}
use Rattle.cat_image.specs.Words.{Text, words, parts, byte_before, has_bytes, begin_list, is_type_of}
use Rattle.cat_image.specs.inside.Typed.{unparted, typed_or, typed_of}
use Rattle.cat_image.proofs.CutLemmas.{HasFirst, some_part}
use Rattle.cat_image.proofs.TypeLemmas.{both_words}

-- ---- words of a text, and back

unparted_before : (b : ℕ) (ps : List Text) → HasFirst ps → unparted (byte_before b ps) ≡ b ∷ unparted ps
unparted_before b ps has =
    ap (λ (qs : List Text). unparted (byte_before b qs)) has.are ∙ by has.first has.more
    ∙ ap (λ (qs : List Text). b ∷ unparted qs) (sym has.are)
  where
    by : (first : Text) (more : List Text) → unparted (byte_before b (first ∷ more)) ≡ b ∷ unparted (first ∷ more)
    by first [] = refl
    by first (next ∷ more) = refl

unparted_nothing : (ps : List Text) → HasFirst ps → unparted ([] ∷ ps) ≡ 32 ∷ unparted ps
unparted_nothing ps has =
    ap (λ (qs : List Text). unparted ([] ∷ qs)) has.are ∙ ap (λ (qs : List Text). 32 ∷ unparted qs) (sym has.are)

unparted_step : (b : ℕ) (bs : Text) (same : Bool) → (b == 32) ≡ same → unparted (words bs) ≡ bs
    → unparted (if same then [] ∷ words bs else byte_before b (words bs)) ≡ b ∷ bs
unparted_step b bs true is more =
    unparted_nothing (words bs) (some_part 32 bs) ∙ ap (λ (t : Text). 32 ∷ t) more
    ∙ ap (λ (c : ℕ). c ∷ bs) (sym (eqb-true b 32 is))
unparted_step b bs false is more =
    unparted_before b (words bs) (some_part 32 bs) ∙ ap (λ (t : Text). b ∷ t) more

pub unparted_words : (text : Text) → unparted (words text) ≡ text
unfolding parts
unparted_words [] = refl
unparted_words (b ∷ bs) = unparted_step b bs (b == 32) refl (unparted_words bs)

-- ---- words of two texts

before_append : (b : ℕ) (ps qs : List Text) → HasFirst ps → byte_before b (ps ++ qs) ≡ byte_before b ps ++ qs
before_append b ps qs has =
    ap (λ (rs : List Text). byte_before b (rs ++ qs)) has.are
    ∙ ap (λ (rs : List Text). byte_before b rs ++ qs) (sym has.are)

append_step : (byte b : ℕ) (bs rest : Text) (same : Bool)
    → parts byte (bs ++ byte ∷ rest) ≡ parts byte bs ++ parts byte rest
    → (if same then [] ∷ parts byte (bs ++ byte ∷ rest) else byte_before b (parts byte (bs ++ byte ∷ rest)))
    ≡ (if same then [] ∷ parts byte bs else byte_before b (parts byte bs)) ++ parts byte rest
append_step byte b bs rest true more = ap (λ (ps : List Text). [] ∷ ps) more
append_step byte b bs rest false more =
    ap (byte_before b) more ∙ before_append b (parts byte bs) (parts byte rest) (some_part byte bs)

pub words_append : (front rest : Text) → words (front ++ 32 ∷ rest) ≡ words front ++ words rest
unfolding parts
words_append [] rest = refl
words_append (b ∷ bs) rest = append_step 32 b bs rest (b == 32) (words_append bs rest)

pub unparted_append : (ps qs : List Text) → HasFirst ps → HasFirst qs
    → unparted (ps ++ qs) ≡ unparted ps ++ 32 ∷ unparted qs
unparted_append ps qs first last =
    ap (λ (rs : List Text). unparted (rs ++ qs)) first.are ∙ by first.first first.more
    ∙ ap (λ (rs : List Text). unparted rs ++ 32 ∷ unparted qs) (sym first.are)
  where
    by : (p : Text) (ps : List Text) → unparted (p ∷ ps ++ qs) ≡ unparted (p ∷ ps) ++ 32 ∷ unparted qs
    by p [] =
        ap (λ (rs : List Text). unparted (p ∷ rs)) last.are
        ∙ ap (λ (rs : List Text). p ++ 32 ∷ unparted rs) (sym last.are)
    by p (r ∷ rs) =
        ap (λ (t : Text). p ++ 32 ∷ t) (by r rs)
        ∙ sym (append_assoc p (32 ∷ unparted (r ∷ rs)) (32 ∷ unparted qs))

-- ---- the longest type

-- no words are a type in front of others
abbrev pub NoType : List Text → Type 0
NoType ws = (ts rest : List Text) → is_type_of ts ≡ true → HasFirst rest → ws ≡ ts ++ rest → ⊥

-- the longest of the types in front of others
pub record IsLongest (ws : List Text) (p : List Text × List Text) : Type 0 where
  pub split : ws ≡ p.0 ++ p.1
  pub is_type : is_type_of p.0 ≡ true
  pub some : HasFirst p.1
  pub most : (ts rest : List Text) → is_type_of ts ≡ true → HasFirst rest → ws ≡ ts ++ rest → length ts ≤ length p.0

abbrev pub IsTyped : List Text → Option (List Text × List Text) → Type 0
IsTyped ws None = NoType ws
IsTyped ws (Some p) = IsLongest ws p

abbrev first_of : List Text → Text
first_of [] = []
first_of (w ∷ ws) = w

some_length : (ws : List Text) → HasFirst ws → 0 < length ws
some_length ws has = let count = ap length has.are in omega (arith, count)

none_typed : NoType []
none_typed [] rest is some same = absurd (cc)
none_typed (t ∷ ts) rest is some same = absurd (cc)

one_typed : (a : Text) → NoType (a ∷ [])
one_typed a [] rest is some same = absurd (cc)
one_typed a (t ∷ ts) rest is some same =
    let count = ap length same in
    let long = length-append (t ∷ ts) rest in
    let more = some_length rest some in
    absurd (omega (arith, count, long, more))

-- two words that begin no list
plain_typed : (a b : Text) (more ts rest : List Text) → begin_list a b ≡ false → is_type_of ts ≡ true
    → a ∷ b ∷ more ≡ ts ++ rest → (length ts ≤ 1) × (has_bytes a ≡ true)
plain_typed a b more [] rest other is same = absurd (cc)
plain_typed a b more (t ∷ []) rest other is same =
    (omega arith, ap (λ (ws : List Text). has_bytes (first_of ws)) same ∙ is)
plain_typed a b more (t ∷ u ∷ ts) rest other is same =
    let lists = (and_parts (begin_list t u) (is_type_of ts) is).0 in
    let one : a ≡ t = ap first_of same in
    let two : b ≡ u = ap (λ (ws : List Text). first_of (drop 1 ws)) same in
    let clash : begin_list a b ≡ true = ap (λ (w : Text). begin_list w b) one ∙ ap (begin_list t) two ∙ lists in
    absurd (cc)

plain_longest : (a b : Text) (more : List Text) → begin_list a b ≡ false → (named : Bool) → has_bytes a ≡ named
    → IsTyped (a ∷ b ∷ more) (if named then Some (a ∷ [], b ∷ more) else None)
plain_longest a b more other true named = record {
  split = refl;
  is_type = named;
  some = record { first = b; more = more; are = refl };
  most = λ ts rest is some same. (plain_typed a b more ts rest other is same).0;
}
plain_longest a b more other false named =
    λ ts rest is some same.
    let clash = (plain_typed a b more ts rest other is same).1 in
    absurd (cc)

list_longest : (a b : Text) (more : List Text) → (a ≡ codes "list") × (b ≡ codes "of")
    → (o : Option (List Text × List Text)) → IsTyped more o → IsTyped (a ∷ b ∷ more) (typed_or more o)
list_longest a b more same None told = record {
  split = ap (λ (w : Text). w ∷ b ∷ more) same.0 ∙ ap (λ (w : Text). codes "list" ∷ w ∷ more) same.1;
  is_type = refl;
  some = record { first = codes "of"; more = more; are = refl };
  most = longest;
}
  where
    longest : (ts rest : List Text) → is_type_of ts ≡ true → HasFirst rest → a ∷ b ∷ more ≡ ts ++ rest → length ts ≤ 1
    longest [] rest is some split = absurd (cc)
    longest (t ∷ []) rest is some split = omega arith
    longest (t ∷ u ∷ ts) rest is some split =
        absurd (told ts rest (and_parts (begin_list t u) (is_type_of ts) is).1 some (ap (drop 2) split))
list_longest a b more same (Some p) told = record {
  split =
      ap (λ (w : Text). w ∷ b ∷ more) same.0 ∙ ap (λ (w : Text). codes "list" ∷ w ∷ more) same.1
      ∙ ap (λ (ws : List Text). codes "list" ∷ codes "of" ∷ ws) told.split;
  is_type = told.is_type;
  some = told.some;
  most = longest;
}
  where
    longest : (ts rest : List Text) → is_type_of ts ≡ true → HasFirst rest → a ∷ b ∷ more ≡ ts ++ rest
        → length ts ≤ length (codes "list" ∷ codes "of" ∷ p.0)
    longest [] rest is some split = absurd (cc)
    longest (t ∷ []) rest is some split = omega arith
    longest (t ∷ u ∷ ts) rest is some split =
        let fewer = told.most ts rest (and_parts (begin_list t u) (is_type_of ts) is).1 some (ap (drop 2) split) in
        omega (arith, fewer)

typed_step : (a b : Text) (more : List Text) (lists : Bool) → begin_list a b ≡ lists → IsTyped more (typed_of more)
    → IsTyped (a ∷ b ∷ more)
    (if lists then typed_or more (typed_of more) else (if has_bytes a then Some (a ∷ [], b ∷ more) else None))
typed_step a b more true is told = list_longest a b more (both_words a b is) (typed_of more) told
typed_step a b more false is told = plain_longest a b more is (has_bytes a) refl

pub typed_told : (ws : List Text) → IsTyped ws (typed_of ws)
typed_told [] = none_typed
typed_told (a ∷ []) = one_typed a
typed_told (a ∷ b ∷ more) = typed_step a b more (begin_list a b) refl (typed_told more)
