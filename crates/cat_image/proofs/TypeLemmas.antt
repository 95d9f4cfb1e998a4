-- Types of a text, by what stands in front of its blanks.
use Rattle.std.proofs.Common.{◌≡◌, ℕ, suc, ◌-◌, ◌<◌, ◌≤◌, ◌==◌, Bool, true, false, ◌&&◌, ◌||◌, get_or, List, [], ◌∷◌}
use Rattle.std.proofs.Common.{◌++◌, length, Option, Some, None}
use Rattle.std.proofs.Common.{subst, refl, sym, ap, ◌∙◌, arith}
use Rattle.std.specs.Prelude.{codes, if◌then◌else◌}
use Rattle.std.specs.Str.{bytes_eq}
use Rattle.std.proofs.lemmas.Bool.{and_parts, and_left, and_right, false_from_ne_true, or_from}
use Rattle.std.proofs.lemmas.Slice.Eq.{bytes_eq-Decides}
use Rattle.cat_image.specs.Words.{Text, words, has_bytes, is_name_of, begin_list, is_type_of, is_followed}
use Rattle.cat_image.specs.Words.{are_types_of, is_what_of}
use Rattle.cat_image.specs.Words.{is_name, is_type, is_what}
use Rattle.cat_image.specs.inside.Reads.{when, cut, element_of, passed, params_by, named_by}
use Rattle.cat_image.proofs.CutLemmas.{IsCutTo, cut_told, shorter_behind, HasFirst, some_part}

-- ---- `list of`

-- whether words are `list of` and more
abbrev pub begins_list : List Text → Bool
begins_list (a ∷ b ∷ c ∷ more) = begin_list a b
begins_list _ = false

pub both_words : (a b : Text) → begin_list a b ≡ true → (a ≡ codes "list") × (b ≡ codes "of")
both_words a b is =
    let both = and_parts (bytes_eq a (codes "list")) (bytes_eq b (codes "of")) is in
    ((bytes_eq-Decides a (codes "list")).0 both.0, (bytes_eq-Decides b (codes "of")).0 both.1)

-- the words of a text, by what stands behind `list of`
abbrev pub IsElement : Text → Option Text → Type 0
IsElement text None = begins_list (words text) ≡ false
IsElement text (Some element) =
    (words text ≡ codes "list" ∷ codes "of" ∷ words element) × (length element < length text)

no_list : (a b : Text) (ws : List Text) → HasFirst ws → begin_list a b ≡ false → begins_list (a ∷ b ∷ ws) ≡ false
no_list a b ws has is = ap (λ (more : List Text). begins_list (a ∷ b ∷ more)) has.are ∙ is

element_three : (text a b rest : Text) → words text ≡ a ∷ b ∷ words rest → length rest < length text
    → (same : Bool) → begin_list a b ≡ same → IsElement text (if same then Some rest else None)
element_three text a b rest are short true is =
    let same = both_words a b is in (
      are ∙ (ap (λ (w : Text). w ∷ b ∷ words rest) same.0
          ∙ ap (λ (w : Text). codes "list" ∷ w ∷ words rest) same.1),
      short,
    )
element_three text a b rest are short false is = ap begins_list are ∙ no_list a b (words rest) (some_part 32 rest) is

element_two : (text a behind : Text) → words text ≡ a ∷ words behind → length behind < length text
    → (o : Option (Text × Text)) → cut 32 behind ≡ o → IsCutTo 32 behind o
    → IsElement text (when o (λ b. if begin_list a b.0 then Some b.1 else None))
element_two text a behind are short None at told =
    ap begins_list (are ∙ ap (λ (ws : List Text). a ∷ ws) told)
element_two text a behind are short (Some b) at told =
    let less = shorter_behind 32 behind b at in
    element_three text a b.0 b.1 (are ∙ ap (λ (ws : List Text). a ∷ ws) told.1) (omega (arith, less, short))
    (begin_list a b.0) refl

element_one : (text : Text) (o : Option (Text × Text)) → cut 32 text ≡ o → IsCutTo 32 text o
    → IsElement text (when o (λ a. when (cut 32 a.1) (λ b. if begin_list a.0 b.0 then Some b.1 else None)))
element_one text None at told = ap begins_list told
element_one text (Some a) at told =
    element_two text a.0 a.1 told.1 (shorter_behind 32 text a at) (cut 32 a.1) refl (cut_told 32 a.1)

pub element_told : (text : Text) → IsElement text (element_of text)
unfolding element_of
element_told text = element_one text (cut 32 text) refl (cut_told 32 text)

-- ---- a type

pub type_is_name : (ws : List Text) → begins_list ws ≡ false → is_type_of ws ≡ is_name_of ws
type_is_name [] other = refl
type_is_name (a ∷ []) other = refl
type_is_name (a ∷ b ∷ []) other = and_right (begin_list a b) false refl
type_is_name (a ∷ b ∷ c ∷ more) other = and_left (begin_list a b) (is_type_of (c ∷ more)) other

-- ---- types

-- types by what is passed of them
abbrev pub IsPassed : Text → Option Text → Type 0
IsPassed text None = are_types_of (words text) ≡ is_name_of (words text)
IsPassed text (Some rest) = (are_types_of (words text) ≡ are_types_of (words rest)) × (length rest < length text)

followed_no_list : (a b : Text) → is_followed a ≡ true → begin_list a b ≡ false
followed_no_list a b followed = false_from_ne_true (begin_list a b) (λ lists.
    let clash : is_followed (codes "list") ≡ true =
    subst (λ (w : Text). is_followed w ≡ true) (both_words a b lists).0 followed in
    absurd (cc))

-- by the last byte
pub followed_last : (bs : Text) → 1 < length bs → (get_or bs (length bs - 1) 0 == 44) ≡ is_followed bs
followed_last [] long = absurd (omega (arith, long))
followed_last (a ∷ []) long = absurd (omega (arith, long))
followed_last (a ∷ b ∷ []) long = refl
followed_last (a ∷ b ∷ c ∷ bs) long =
    let at : length (a ∷ b ∷ c ∷ bs) - 1 ≡ suc (length (b ∷ c ∷ bs) - 1) = omega arith in
    ap (λ (n : ℕ). get_or (a ∷ b ∷ c ∷ bs) n 0 == 44) at ∙ followed_last (b ∷ c ∷ bs) (omega arith)

pub followed_short : (bs : Text) → length bs ≤ 1 → is_followed bs ≡ false
followed_short [] short = refl
followed_short (a ∷ []) short = refl
followed_short (a ∷ b ∷ bs) short = absurd (omega (arith, short))

pass_comma : (a : Text) (ws : List Text) → is_followed a ≡ true → HasFirst ws → are_types_of (a ∷ ws) ≡ are_types_of ws
pass_comma a ws followed has =
    let at_first : are_types_of (a ∷ has.first ∷ has.more) ≡ are_types_of (has.first ∷ has.more) =
    rw (followed, followed_no_list a has.first followed) (or_same (are_types_of (has.first ∷ has.more))) in
    ap (λ (more : List Text). are_types_of (a ∷ more)) has.are ∙ at_first ∙ sym (ap are_types_of has.are)
  where
    or_same : (b : Bool) → (b || false) ≡ b
    or_same true = refl
    or_same false = refl

types_are_name : (ws : List Text) (a : Text) → is_followed a ≡ false → begins_list (a ∷ ws) ≡ false
    → are_types_of (a ∷ ws) ≡ is_name_of (a ∷ ws)
types_are_name [] a other lists = refl
types_are_name (b ∷ []) a other lists = rw other (and_right (begin_list a b) false refl)
types_are_name (b ∷ c ∷ more) a other lists = rw other (and_left (begin_list a b) (are_types_of (c ∷ more)) lists)

pass_element : (text : Text) (a : Text) (ws : List Text) → words text ≡ a ∷ ws → is_followed a ≡ false
    → (o : Option Text) → IsElement text o → IsPassed text o
pass_element text a ws are other None told =
    ap are_types_of are ∙ types_are_name ws a other (sym (ap begins_list are) ∙ told) ∙ sym (ap is_name_of are)
pass_element text a ws are other (Some element) told = (ap are_types_of told.0, told.1)

pass_two : (text a behind : Text) → words text ≡ a ∷ words behind → length behind < length text
    → (same : Bool) → is_followed a ≡ same → IsPassed text (if same then Some behind else element_of text)
pass_two text a behind are short true is =
    (ap are_types_of are ∙ pass_comma a (words behind) is (some_part 32 behind), short)
pass_two text a behind are short false is =
    pass_element text a (words behind) are is (element_of text) (element_told text)

pass_one : (text : Text) (o : Option (Text × Text)) → cut 32 text ≡ o → IsCutTo 32 text o
    → IsPassed text (when o (λ a. if is_followed a.0 then Some a.1 else element_of text))
pass_one text None at told = ap are_types_of told ∙ sym (ap is_name_of told)
pass_one text (Some a) at told = pass_two text a.0 a.1 told.1 (shorter_behind 32 text a at) (is_followed a.0) refl

pub passed_told : (text : Text) → IsPassed text (passed text)
unfolding passed
passed_told text = pass_one text (cut 32 text) refl (cut_told 32 text)

-- ---- a type with parameters

what_more : (a f : Text) (m : List Text) → begins_list (a ∷ f ∷ m) ≡ false
    → is_what_of (a ∷ f ∷ m) ≡ (has_bytes a && (bytes_eq f (codes "of") && are_types_of m))
what_more a f [] lists = or_false (has_bytes a && (bytes_eq f (codes "of") && false)) (begin_list a f && false)
    (and_right (begin_list a f) false refl)
  where
    or_false : (x y : Bool) → y ≡ false → (x || y) ≡ x
    or_false true y is = refl
    or_false false y is = is
what_more a f (c ∷ more) lists =
    or_false (has_bytes a && (bytes_eq f (codes "of") && are_types_of (c ∷ more)))
    (begin_list a f && is_what_of (c ∷ more))
    (and_left (begin_list a f) (is_what_of (c ∷ more)) lists)
  where
    or_false : (x y : Bool) → y ≡ false → (x || y) ≡ x
    or_false true y is = refl
    or_false false y is = is

what_two : (a behind : Text) (o : Option (Text × Text)) → IsCutTo 32 behind o
    → begins_list (a ∷ words behind) ≡ false → is_what_of (a ∷ words behind) ≡ (has_bytes a && params_by o)
what_two a behind None told lists =
    ap (λ (ws : List Text). is_what_of (a ∷ ws)) told
    ∙ what_more a behind [] (sym (ap (λ (ws : List Text). begins_list (a ∷ ws)) told) ∙ lists)
    ∙ ap (λ (b : Bool). has_bytes a && b) (and_right (bytes_eq behind (codes "of")) false refl)
what_two a behind (Some q) told lists =
    ap (λ (ws : List Text). is_what_of (a ∷ ws)) told.1
    ∙ what_more a q.0 (words q.1) (sym (ap (λ (ws : List Text). begins_list (a ∷ ws)) told.1) ∙ lists)

what_one : (text : Text) (o : Option (Text × Text)) → IsCutTo 32 text o
    → begins_list (words text) ≡ false → is_what_of (words text) ≡ named_by text o
what_one text None told lists = ap is_what_of told
what_one text (Some p) told lists =
    ap is_what_of told.1 ∙ what_two p.0 p.1 (cut 32 p.1) (cut_told 32 p.1) (sym (ap begins_list told.1) ∙ lists)

-- where it doesn't begin with `list of`
pub what_named : (text : Text) → begins_list (words text) ≡ false
    → is_what_of (words text) ≡ named_by text (cut 32 text)
what_named text lists = what_one text (cut 32 text) (cut_told 32 text) lists

-- a list, or types of parameters behind `list` as a name
pub what_element : (text element : Text) (is_list : Bool) → words text ≡ codes "list" ∷ codes "of" ∷ words element
    → ((is_list && are_types_of (words text)) || is_what_of (words text))
    ≡ ((true && are_types_of (words element)) || is_what_of (words element))
what_element text element is_list are =
    ap (λ (ws : List Text). (is_list && are_types_of ws) || is_what_of ws) are
    ∙ twice is_list (are_types_of (words element)) (is_what_of (words element))
  where
    twice : (l t w : Bool) → ((l && t) || (t || w)) ≡ (t || w)
    twice false t w = refl
    twice true true w = refl
    twice true false w = refl

-- ---- as a text is read

element_is : (text element : Text) → Some element ≡ element_of text → IsElement text (Some element)
element_is text element is = subst (IsElement text) (sym is) (element_told text)

pub no_element : (text : Text) → None ≡ element_of text → begins_list (words text) ≡ false
no_element text is = subst (IsElement text) (sym is) (element_told text)

pub element_words : (text element : Text) → Some element ≡ element_of text
    → words text ≡ codes "list" ∷ codes "of" ∷ words element
element_words text element is = (element_is text element is).0

pub element_shorter : (text element : Text) → Some element ≡ element_of text → length element < length text
element_shorter text element is = (element_is text element is).1

pub type_goes_on : (text element : Text) → Some element ≡ element_of text → is_type element ≡ is_type text
type_goes_on text element is = sym (ap is_type_of (element_words text element is))

pub type_ends : (text : Text) → None ≡ element_of text → is_name text ≡ is_type text
type_ends text is = sym (type_is_name (words text) (no_element text is))

passed_is : (text rest : Text) → Some rest ≡ passed text → IsPassed text (Some rest)
passed_is text rest is = subst (IsPassed text) (sym is) (passed_told text)

pub passed_shorter : (text rest : Text) → Some rest ≡ passed text → length rest < length text
passed_shorter text rest is = (passed_is text rest is).1

pub types_go_on : (text rest : Text) → Some rest ≡ passed text → are_types_of (words rest) ≡ are_types_of (words text)
types_go_on text rest is = sym (passed_is text rest is).0

pub types_end : (text : Text) → None ≡ passed text → is_name text ≡ are_types_of (words text)
types_end text is =
    let told : IsPassed text None = subst (IsPassed text) (sym is) (passed_told text) in
    sym told

pub what_goes_on : (text element : Text) (is_list : Bool) → Some element ≡ element_of text
    → ((true && are_types_of (words element)) || is_what element)
    ≡ ((is_list && are_types_of (words text)) || is_what text)
what_goes_on text element is_list is = sym (what_element text element is_list (element_words text element is))

-- where it may be types behind `list` and is none
what_or : (l t w named : Bool) → (l && t) ≡ false → w ≡ named → ((l && t) || w) ≡ named
what_or l t w named none same = rw none same

pub what_ends : (text : Text) (is_list : Bool) → None ≡ element_of text → (is_list && are_types_of (words text)) ≡ false
    → ((is_list && are_types_of (words text)) || is_what text) ≡ named_by text (cut 32 text)
what_ends text is_list is none =
    what_or is_list (are_types_of (words text)) (is_what text) (named_by text (cut 32 text)) none
    (what_named text (no_element text is))

pub what_by_types : (types what whole : Bool) → types ≡ true → (types || what) ≡ whole → true ≡ whole
what_by_types types what whole is same = sym (ap (λ (b : Bool). b || what) is) ∙ same
