-- The longest type as it is read: lists counted one by one, and then a name.
use Rattle.std.proofs.Common.{◌≡◌, ℕ, zero, suc, ◌+◌, ◌-◌, Bool, true, false, List, [], ◌∷◌, ◌++◌, length, drop}
use Rattle.std.proofs.Common.{Option, Some, None}
use Rattle.std.proofs.Common.{subst, refl, sym, ap, ◌∙◌, arith, append_assoc}
use Rattle.std.specs.Prelude.{codes, if◌then◌else◌}
use Rattle.std.specs.Option.{option_map}
use Rattle.cat_image.specs.Words.{Text, words, has_bytes, begin_list}
use Rattle.cat_image.specs.inside.Reads.{when, cut, element_of}
use Rattle.cat_image.specs.inside.Typed.{unparted, typed_or, typed_of, named, lists_words, listed}
use Rattle.cat_image.proofs.CutLemmas.{IsCutTo, cut_told, HasFirst, some_part}
use Rattle.cat_image.proofs.TypeLemmas.{begins_list, both_words, no_element, element_words}

abbrev Typing : Type 0
Typing = Option (List Text × List Text)

-- ---- lists in front of what is left

-- the longest type behind so many times `list of`, by that of the words that are left
abbrev pub behind_lists : ℕ → List Text → Typing → Typing
behind_lists zero ws o = o
behind_lists (suc n) ws None = Some (lists_words n (codes "list" ∷ []), codes "of" ∷ ws)
behind_lists (suc n) ws (Some p) = Some (lists_words (suc n) p.0, p.1)

lists_inside : (n : ℕ) (ws : List Text)
    → lists_words n (codes "list" ∷ codes "of" ∷ ws) ≡ codes "list" ∷ codes "of" ∷ lists_words n ws
lists_inside zero ws = refl
lists_inside (suc n) ws = ap (λ (us : List Text). codes "list" ∷ codes "of" ∷ us) (lists_inside n ws)

-- once more
pub behind_more : (n : ℕ) (before ws : List Text) (o : Typing)
    → behind_lists n before (typed_or ws o) ≡ behind_lists (suc n) ws o
behind_more zero before ws None = refl
behind_more zero before ws (Some p) = refl
behind_more (suc n) before ws None = refl
behind_more (suc n) before ws (Some p) =
    ap (λ (us : List Text). Some (codes "list" ∷ codes "of" ∷ us, p.1)) (lists_inside n p.0)

pub behind_some : (n : ℕ) (ws : List Text) (p : List Text × List Text)
    → behind_lists n ws (Some p) ≡ Some (lists_words n p.0, p.1)
behind_some zero ws p = refl
behind_some (suc n) ws p = refl

-- what is left stands behind the last `list of`
abbrev pub IsLast : ℕ → Text → Text → Type 0
IsLast zero last rest = Unit {0}
IsLast (suc n) last rest = words last ≡ codes "list" ∷ codes "of" ∷ words rest

-- ---- a name in front of a blank

name_more : (a f : Text) (m : List Text) → begins_list (a ∷ f ∷ m) ≡ false
    → typed_of (a ∷ f ∷ m) ≡ (if has_bytes a then Some (a ∷ [], f ∷ m) else None)
name_more a f [] lists = by (begin_list a f) refl
  where
    by : (same : Bool) → begin_list a f ≡ same
        → (if same then typed_or [] None else (if has_bytes a then Some (a ∷ [], f ∷ []) else None))
        ≡ (if has_bytes a then Some (a ∷ [], f ∷ []) else None)
    by true is =
        let both = both_words a f is in
        let first : codes "list" ≡ a = sym both.0 in
        let second : codes "of" ≡ f = sym both.1 in
        ap (λ (t : Text). Some (codes "list" ∷ [], t ∷ [])) second
        ∙ ap (λ (t : Text). if has_bytes t then Some (t ∷ [], f ∷ []) else None) first
    by false is = refl
name_more a f (c ∷ more) lists = rw lists refl

name_behind : (a : Text) (ws : List Text) → HasFirst ws → begins_list (a ∷ ws) ≡ false
    → typed_of (a ∷ ws) ≡ (if has_bytes a then Some (a ∷ [], ws) else None)
name_behind a ws has lists =
    ap (λ (us : List Text). typed_of (a ∷ us)) has.are
    ∙ name_more a has.first has.more (sym (ap (λ (us : List Text). begins_list (a ∷ us)) has.are) ∙ lists)
    ∙ ap (λ (us : List Text). if has_bytes a then Some (a ∷ [], us) else None) (sym has.are)

abbrev named_words : Text × Text → List Text × List Text
named_words q = (q.0 ∷ [], words q.1)

named_if : (p : Text × Text) (some : Bool)
    → (if some then Some (named_words p) else None) ≡ option_map named_words (if some then Some p else None)
named_if p true = refl
named_if p false = refl

named_by : (text : Text) (o : Option (Text × Text)) → IsCutTo 32 text o → begins_list (words text) ≡ false
    → typed_of (words text)
    ≡ option_map named_words (when o (λ p. if has_bytes p.0 then Some p else None))
named_by text None told lists = ap typed_of told
named_by text (Some p) told lists =
    ap typed_of told.1
    ∙ name_behind p.0 (words p.1) (some_part 32 p.1) (sym (ap begins_list told.1) ∙ lists)
    ∙ named_if p (has_bytes p.0)

-- where the words don't begin with `list of`
pub typed_named : (text : Text) → begins_list (words text) ≡ false
    → typed_of (words text) ≡ option_map named_words (named text)
typed_named text lists = named_by text (cut 32 text) (cut_told 32 text) lists

-- ---- as a text

listed_step : (n : ℕ) (name : Text) → listed n name ≡ unparted (lists_words n (name ∷ []))
    → listed (suc n) name ≡ unparted (lists_words (suc n) (name ∷ []))
listed_step zero name is = refl
listed_step (suc n) name is = ap (λ (t : Text). codes "list of " ++ t) is

pub listed_words : (n : ℕ) (name : Text) → listed n name ≡ unparted (lists_words n (name ∷ []))
listed_words zero name = refl
listed_words (suc n) name = listed_step n name (listed_words n name)

-- so many times `list of`
abbrev pub fronts : ℕ → Text
fronts zero = []
fronts (suc n) = codes "list of " ++ fronts n

pub fronts_more : (n : ℕ) → fronts n ++ codes "list of " ≡ fronts (suc n)
fronts_more zero = refl
fronts_more (suc n) = ap (λ (t : Text). codes "list of " ++ t) (fronts_more n)

pub fronts_listed : (n : ℕ) (name : Text) → fronts n ++ name ≡ listed n name
fronts_listed zero name = refl
fronts_listed (suc n) name = ap (λ (t : Text). codes "list of " ++ t) (fronts_listed n name)

pub fronts_next : (n : ℕ) (text : Text) → text ≡ fronts n → text ++ codes "list of " ≡ fronts (n + 1)
fronts_next n text is =
    let one : suc n ≡ n + 1 = omega arith in
    ap (λ (t : Text). t ++ codes "list of ") is ∙ fronts_more n ∙ ap fronts one

pub fronts_end : (n : ℕ) (text name : Text) → text ≡ fronts n → text ++ name ≡ listed n name
fronts_end n text name is = ap (λ (t : Text). t ++ name) is ∙ fronts_listed n name

-- ---- as it is read

pub longest_goes_on : (n : ℕ) (text element : Text) → Some element ≡ element_of text
    → behind_lists (n + 1) (words element) (typed_of (words element))
    ≡ behind_lists n (words text) (typed_of (words text))
longest_goes_on n text element is =
    let one : suc n ≡ n + 1 = omega arith in
    let more : typed_of (words text) ≡ typed_or (words element) (typed_of (words element)) =
    ap typed_of (element_words text element is) in
    sym (ap (behind_lists n (words text)) more ∙ behind_more n (words text) (words element) (typed_of (words element))
    ∙ ap (λ (k : ℕ). behind_lists k (words element) (typed_of (words element))) one)

pub last_goes_on : (n : ℕ) (text element : Text) → Some element ≡ element_of text → IsLast (n + 1) text element
last_goes_on n text element is =
    let one : suc n ≡ n + 1 = omega arith in
    subst (λ (k : ℕ). IsLast k text element) one (element_words text element is)

pub longest_named : (n : ℕ) (rest name value : Text) → None ≡ element_of rest → Some (name, value) ≡ named rest
    → Some (lists_words n (name ∷ []), words value) ≡ behind_lists n (words rest) (typed_of (words rest))
longest_named n rest name value is found =
    let typed : typed_of (words rest) ≡ Some (named_words (name, value)) =
    typed_named rest (no_element rest is) ∙ ap (option_map named_words) (sym found) in
    sym (ap (behind_lists n (words rest)) typed ∙ behind_some n (words rest) (named_words (name, value)))

not_named : (rest : Text) → None ≡ element_of rest → None ≡ named rest → typed_of (words rest) ≡ None
not_named rest is none = typed_named rest (no_element rest is) ∙ ap (option_map named_words) (sym none)

pub longest_none : (n : ℕ) (rest : Text) → n ≡ 0 → None ≡ element_of rest → None ≡ named rest
    → None ≡ behind_lists n (words rest) (typed_of (words rest))
longest_none n rest zero_is is none =
    sym (ap (λ (k : ℕ). behind_lists k (words rest) (typed_of (words rest))) zero_is ∙ not_named rest is none)

pub last_has_blank : (n : ℕ) (last rest : Text) → (n ≡ 0 → ⊥) → IsLast n last rest → None ≡ cut 32 last → ⊥
last_has_blank zero last rest some is none = some refl
last_has_blank (suc n) last rest some is none =
    let told : words last ≡ last ∷ [] = subst (IsCutTo 32 last) (sym none) (cut_told 32 last) in
    let count = ap length (sym told ∙ is) in
    omega (arith, count)

abbrev first_of : List Text → Text
first_of [] = []
first_of (w ∷ ws) = w

-- the last `list` is a name
pub longest_last : (n : ℕ) (last rest name value : Text) → (n ≡ 0 → ⊥) → IsLast n last rest
    → Some (name, value) ≡ cut 32 last
    → None ≡ element_of rest → None ≡ named rest
    → Some (lists_words (n - 1) (name ∷ []), words value) ≡ behind_lists n (words rest) (typed_of (words rest))
longest_last zero last rest name value some is at none unnamed = absurd (some refl)
longest_last (suc n) last rest name value some is at none unnamed =
    let told : IsCutTo 32 last (Some (name, value)) = subst (IsCutTo 32 last) (sym at) (cut_told 32 last) in
    let same : name ∷ words value ≡ codes "list" ∷ codes "of" ∷ words rest = sym told.1 ∙ is in
    let first : name ≡ codes "list" = list_first name (words value) (codes "list") (codes "of" ∷ words rest) same in
    let more : words value ≡ codes "of" ∷ words rest = ap (drop 1) same in
    let count : suc n - 1 ≡ n = omega arith in
    ap (λ (k : ℕ). Some (lists_words k (name ∷ []), words value)) count
    ∙ ap (λ (t : Text). Some (lists_words n (t ∷ []), words value)) first
    ∙ ap (λ (ws : List Text). Some (lists_words n (codes "list" ∷ []), ws)) more
    ∙ sym (ap (behind_lists (suc n) (words rest)) (not_named rest none unnamed))
  where
    list_first : (v : Text) (vs : List Text) (w : Text) (ws : List Text) → v ∷ vs ≡ w ∷ ws → v ≡ w
    list_first v vs w ws same = ap first_of same
