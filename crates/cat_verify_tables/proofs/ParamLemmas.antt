-- The types of parameters, parted by commas.
use Rattle.std.proofs.Common.{◌≡◌, ◌<◌, ◌≤◌, ◌+◌, ◌-◌, ◌==◌, ℕ, zero, suc, Bool, true, false, List, [], ◌∷◌}
use Rattle.std.proofs.Common.{◌++◌, length, length-append, Option, Some, None, refl, sym, ap, ◌∙◌, subst, arith}
use Rattle.std.proofs.Common.{append-nil}
use Rattle.std.specs.Prelude.{codes, if◌then◌else◌, option_and_then}
use Rattle.std.specs.List.{AllZip}
use Rattle.std.proofs.lemmas.Bool.Decides.{nat_tests}
use Rattle.cat_value.specs.declared.ty.Ty.{Ty}
use Rattle.cat_names.specs.Limits.{most_parameters}
use Rattle.cat_image.specs.Words.{Text}
use Rattle.cat_image.specs.inside.Reads.{cut}
use Rattle.cat_image.proofs.CutLemmas.{IsCutTo, cut_told, cut_at, shorter_behind}
use Rattle.cat_verify_tables.specs.declared.types.TypeNames.{TypeNames}
use Rattle.cat_verify_tables.specs.WrongParts.{more_params}
use Rattle.cat_verify_tables.specs.inside.PartWords.{Spells, SpellsNone}
use Rattle.cat_verify_tables.specs.inside.ItemWords.{AreParamsOf}
use Rattle.cat_verify_tables.specs.inside.HeldWords.{ArePlain, behind_blank}
use Rattle.cat_verify_tables.specs.inside.HeldWords.{before_all, parted_by, texts_in, AreParamsIn, HasNoParams}
use Rattle.cat_verify_tables.proofs.PlainLemmas.{no_comma, listed_single}
use Rattle.cat_verify_tables.proofs.HeldLemmas.{one_spelled, held_based}

-- ---- texts that commas part

-- what is told of a text of some texts
pub record AreTexts (most : ℕ) (text : Text) (texts : List Text) : Type 0 where
  pub first : Text
  pub others : List Text
  pub are : texts ≡ first ∷ others
  pub text_is : text ≡ first ++ more_params others
  pub few : length texts ≤ most

behind_is : (text : Text) (next : Text) → behind_blank text ≡ Some next → text ≡ 32 ∷ next
behind_is [] next is = absurd (cc is)
behind_is (b ∷ bs) next is = by (b == 32) refl is
  where
    by : (same : Bool) → (b == 32) ≡ same → (if same then Some bs else None) ≡ Some next → b ∷ bs ≡ 32 ∷ next
    by true test is =
        let blank : b ≡ 32 = grind (arith, nat_tests, test) in
        let rest : bs ≡ next = cc is in
        ap (λ (c : ℕ). c ∷ bs) blank ∙ ap (λ (cs : Text). 32 ∷ cs) rest
    by false test is = absurd (cc is)

-- what stands behind a comma and a blank is shorter
pub shorter : (rest : Text) (p : Text × Text) (next : Text) → cut 44 rest ≡ Some p → behind_blank p.1 ≡ Some next
    → length next < length rest
shorter rest p next at blank =
    let one = shorter_behind 44 rest p at in
    let more = ap length (behind_is p.1 next blank) in
    omega (arith, one, more)

pub texts_are : (most : ℕ) (text : Text) (texts : List Text) → texts_in most text ≡ Some texts
    → AreTexts most text texts
unfolding texts_in
texts_are zero text texts is = absurd (cc is)
texts_are (suc most) text texts is = by (texts_are most) (cut 44 text) (cut_told 44 text) is
  where
    last : text ∷ [] ≡ texts → AreTexts (suc most) text texts
    last same = record {
      first = text;
      others = [];
      are = sym same;
      text_is = sym (append-nil text);
      few = let one = ap length same in omega (arith, one);
    }

    more : ((next : Text) (us : List Text) → texts_in most next ≡ Some us → AreTexts most next us) → (p : Text × Text)
        → text ≡ p.0 ++ 44 ∷ p.1 → (next : Text) → behind_blank p.1 ≡ Some next
        → (o : Option (List Text)) → texts_in most next ≡ o → before_all p.0 o ≡ Some texts
        → AreTexts (suc most) text texts
    more others p split next blank None at is = absurd (cc is)
    more others p split next blank (Some us) at is =
        let rest = others next us at in
        let same : p.0 ∷ us ≡ texts = cc is in
        let tail : more_params us ≡ 44 ∷ p.1 =
        ap more_params rest.are ∙ ap (λ (t : Text). codes ", " ++ t) (sym rest.text_is)
        ∙ ap (λ (t : Text). 44 ∷ t) (sym (behind_is p.1 next blank)) in
        record {
          first = p.0;
          others = us;
          are = sym same;
          text_is = split ∙ ap (λ (t : Text). p.0 ++ t) (sym tail);
          few = let many = ap length same in let few = rest.few in omega (arith, many, few);
        }

    blanked : ((next : Text) (us : List Text) → texts_in most next ≡ Some us → AreTexts most next us)
        → (p : Text × Text) → text ≡ p.0 ++ 44 ∷ p.1 → (o : Option Text) → behind_blank p.1 ≡ o
        → before_all p.0 (option_and_then (texts_in most) o) ≡ Some texts → AreTexts (suc most) text texts
    blanked others p split None blank is = absurd (cc is)
    blanked others p split (Some next) blank is = more others p split next blank (texts_in most next) refl is

    by : ((next : Text) (us : List Text) → texts_in most next ≡ Some us → AreTexts most next us)
        → (o : Option (Text × Text)) → IsCutTo 44 text o → parted_by (texts_in most) text o ≡ Some texts
        → AreTexts (suc most) text texts
    by others None told is = last (cc is)
    by others (Some p) told is = blanked others p told.0 (behind_blank p.1) refl is

-- no comma stands in one of them
abbrev pub AllSingle : List Text → Type 0
AllSingle [] = Unit {0}
AllSingle (t ∷ ts) = (cut 44 t ≡ None) × AllSingle ts

pub texts_back : (most : ℕ) (first : Text) (others : List Text) → length (first ∷ others) ≤ most
    → AllSingle (first ∷ others) → texts_in most (first ++ more_params others) ≡ Some (first ∷ others)
unfolding texts_in
texts_back zero first others few single = absurd (omega (arith, few))
texts_back (suc most) first [] few single =
    ap (λ (t : Text). parted_by (texts_in most) t (cut 44 t)) (append-nil first)
    ∙ ap (parted_by (texts_in most) first) single.0
texts_back (suc most) first (next ∷ others) few single =
    let behind = next ++ more_params others in
    let rest = texts_back most next others (omega (arith, few)) single.1 in
    ap (parted_by (texts_in most) (first ++ (codes ", " ++ behind))) (cut_at 44 first (32 ∷ behind) single.0)
    ∙ ap (before_all first) rest

module _ (types : TypeNames) (plain : ArePlain types) where
  pub spelled_single : (text : Text) (t : Ty) → Spells types text t → cut 44 text ≡ None
  spelled_single text t spells =
      let it = held_based types plain text false t spells in
      ap (cut 44) it.text_is ∙ listed_single it.lists it.base (no_comma it.base it.plain_base)

  pub all_single : (texts : List Text) (params : List Ty) → AllZip (Spells types) texts params → AllSingle texts
  all_single [] params each = tt
  all_single (t ∷ ts) [] each = absurd each
  all_single (t ∷ ts) (p ∷ ps) each = (spelled_single t p each.0, all_single ts ps each.1)

  -- parameters that are told by some texts are found in the text of these
  pub params_in : (first : Text) (others : List Text) (params : List Ty) → AreParamsOf types (first ∷ others) params
      → AreParamsIn types (first ++ more_params others) params
  params_in first others params told = record {
    texts = first ∷ others;
    parted = texts_back most_parameters first others told.few (all_single (first ∷ others) params told.each);
    each = told.each;
  }

-- ---- parameters so far

abbrev pub before_many : List Text → Option (List Text) → Option (List Text)
before_many [] texts = texts
before_many (t ∷ ts) texts = before_all t (before_many ts texts)

many_some : (done texts : List Text) → before_many done (Some texts) ≡ Some (done ++ texts)
many_some [] texts = refl
many_some (t ∷ done) texts = ap (before_all t) (many_some done texts)

many_none : (done : List Text) → before_many done None ≡ None
many_none [] = refl
many_none (t ∷ done) = ap (before_all t) (many_none done)

many_more : (done : List Text) (t : Text) (texts : Option (List Text))
    → before_many (done ++ t ∷ []) texts ≡ before_many done (before_all t texts)
many_more [] t texts = refl
many_more (u ∷ done) t texts = ap (before_all u) (many_more done t texts)

-- some parameters were found, and these may stand in the rest
pub record IsUnderWay (types : TypeNames) (text : Text) (params : List Ty) (rest : Text) : Type 0 where
  pub done : List Text
  pub each : AllZip (Spells types) done params
  pub count : length done ≡ length params
  pub few : length params < most_parameters
  pub whole : texts_in most_parameters text ≡ before_many done (texts_in (most_parameters - length params) rest)

zip_push : {A B : Type 0} (R : A → B → Type 0) (xs : List A) (ys : List B) (x : A) (y : B) → AllZip R xs ys → R x y
    → AllZip R (xs ++ x ∷ []) (ys ++ y ∷ [])
zip_push R [] [] x y all last = (last, tt)
zip_push R [] (z ∷ ys) x y all last = absurd all
zip_push R (z ∷ xs) [] x y all last = absurd all
zip_push R (z ∷ xs) (w ∷ ys) x y all last = (all.0, zip_push R xs ys x y all.1 last)

zip_in : {A B : Type 0} (R : A → B → Type 0) (xs : List A) (x : A) (more : List A) (ys : List B)
    → AllZip R (xs ++ x ∷ more) ys → (y : B) × R x y
zip_in R [] x more [] all = absurd all
zip_in R [] x more (y ∷ ys) all = (y, all.0)
zip_in R (z ∷ xs) x more [] all = absurd all
zip_in R (z ∷ xs) x more (w ∷ ys) all = zip_in R xs x more ys all.1

pub begun : (types : TypeNames) (text : Text) → IsUnderWay types text [] text
begun types text = record { done = []; each = tt; count = refl; few = omega arith; whole = refl }

module _ (types : TypeNames) (text : Text) (params : List Ty) (rest : Text)
    (way : IsUnderWay types text params rest) where
  abbrev left : ℕ
  left = most_parameters - length params - 1

  pub rest_parted : texts_in (most_parameters - length params) rest ≡ parted_by (texts_in left) rest (cut 44 rest)
  unfolding texts_in
  rest_parted =
      let one : most_parameters - length params ≡ suc left = let few = way.few in omega (arith, few) in
      ap (λ (n : ℕ). texts_in n rest) one

  -- where none are left, there are none
  none_left : parted_by (texts_in left) rest (cut 44 rest) ≡ None → HasNoParams types text
  none_left none others are =
      cc (sym are.parted ∙ way.whole ∙ ap (before_many way.done) (rest_parted ∙ none) ∙ many_none way.done)

  -- the text of a parameter is a type
  pub no_param : (word : Text) (more : Option (List Text)) → SpellsNone types word
      → parted_by (texts_in left) rest (cut 44 rest) ≡ before_all word more → HasNoParams types text
  no_param word None spells is others are = none_left is others are
  no_param word (Some more) spells is others are =
      let texts : are.texts ≡ way.done ++ word ∷ more = cc (sym are.parted ∙ way.whole
      ∙ ap (before_many way.done) (rest_parted ∙ is) ∙ many_some way.done (word ∷ more)) in
      let one = zip_in (Spells types) way.done word more others
      (subst (λ (ts : List Text). AllZip (Spells types) ts others) texts are.each) in
      one_spelled types word one.0 one.1 spells

  module _ (p : Text × Text) (at : cut 44 rest ≡ Some p) where
    at_comma : parted_by (texts_in left) rest (cut 44 rest)
        ≡ before_all p.0 (option_and_then (texts_in left) (behind_blank p.1))
    at_comma = ap (parted_by (texts_in left) rest) at

    pub too_many : most_parameters ≤ length params + 1 → HasNoParams types text
    unfolding texts_in
    too_many many = none_left (at_comma ∙ ap (before_all p.0) (by (behind_blank p.1)))
      where
        none : (next : Text) → texts_in left next ≡ None
        none next = let zero_left : left ≡ 0 = omega (arith, many) in ap (λ (n : ℕ). texts_in n next) zero_left

        by : (o : Option Text) → option_and_then (texts_in left) o ≡ None
        by None = refl
        by (Some next) = none next

    pub no_type : SpellsNone types p.0 → HasNoParams types text
    no_type none = no_param p.0 (option_and_then (texts_in left) (behind_blank p.1)) none at_comma

    pub no_next : behind_blank p.1 ≡ None → HasNoParams types text
    no_next none =
        none_left (at_comma ∙ ap (λ (o : Option Text). before_all p.0 (option_and_then (texts_in left) o)) none)

    pub goes_on : (next : Text) (param : Ty) → behind_blank p.1 ≡ Some next → length params + 1 < most_parameters
        → Spells types p.0 param → IsUnderWay types text (params ++ param ∷ []) next
    goes_on next param blank few spells =
        let many : length (params ++ param ∷ []) ≡ length params + 1 = length-append params (param ∷ []) in
        let own : length (way.done ++ p.0 ∷ []) ≡ length way.done + 1 = length-append way.done (p.0 ∷ []) in
        let count = way.count in
        let less : left ≡ most_parameters - length (params ++ param ∷ []) = omega (arith, many) in record {
          done = way.done ++ p.0 ∷ [];
          each = zip_push (Spells types) way.done params p.0 param way.each spells;
          count = omega (arith, many, own, count);
          few = omega (arith, many, few);
          whole = way.whole ∙ ap (before_many way.done) (rest_parted ∙ at_comma
              ∙ ap (λ (o : Option Text). before_all p.0 (option_and_then (texts_in left) o)) blank
              ∙ ap (λ (n : ℕ). before_all p.0 (texts_in n next)) less)
              ∙ sym (many_more way.done p.0 (texts_in (most_parameters - length (params ++ param ∷ [])) next));
        }

  module _ (at : cut 44 rest ≡ None) where
    at_end : parted_by (texts_in left) rest (cut 44 rest) ≡ Some (rest ∷ [])
    at_end = ap (parted_by (texts_in left) rest) at

    pub no_last : SpellsNone types rest → HasNoParams types text
    no_last none = no_param rest (Some []) none at_end

    pub ends : (param : Ty) → Spells types rest param → AreParamsIn types text (params ++ param ∷ [])
    ends param spells = record {
      texts = way.done ++ rest ∷ [];
      parted = way.whole ∙ ap (before_many way.done) (rest_parted ∙ at_end) ∙ many_some way.done (rest ∷ []);
      each = zip_push (Spells types) way.done params rest param way.each spells;
    }
