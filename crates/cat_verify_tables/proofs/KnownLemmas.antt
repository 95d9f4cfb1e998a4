-- Texts that are types, and texts that are none.
use Rattle.std.proofs.Common.{◌≡◌, ◌≢◌, ◌<◌, ◌≤◌, ◌+◌, ◌-◌, ℕ, zero, suc, nat_lt, Bool, true, false, List, [], ◌∷◌}
use Rattle.std.proofs.Common.{◌++◌, drop, Option, Some, None, inl, inr, refl, sym, ap, ◌∙◌, subst, arith}
use Rattle.std.specs.Prelude.{codes, if◌then◌else◌, is_some}
use Rattle.std.specs.Option.{option_map, option_or}
use Rattle.std.specs.Str.{encode_utf8_all}
use Rattle.std.proofs.lemmas.Bool.Decides.{nat_tests}
use Rattle.std.proofs.lemmas.Str.{encode_ascii}
use Rattle.cat_scope.specs.Names.{AllHave, IsOneOf}
use Rattle.cat_value.specs.declared.ty.Ty.{Ty}
use Rattle.cat_value.specs.declared.ty.Ty.TheViews as ty
use Rattle.cat_value.specs.Declarations.{highest}
use Rattle.cat_check_names.specs.Table.{number_in}
use Rattle.cat_image.specs.declared.tables.ImageTables.{ImageTables}
use Rattle.cat_image.specs.Words.{Text}
use Rattle.cat_verify_tables.specs.declared.types.TypeNames.{TypeNames}
use Rattle.cat_verify_tables.specs.TypeWords.{IsTypeName, IsKnown, IsHigher, flat_types, type_names}
use Rattle.cat_verify_tables.specs.TypeWords as words
use Rattle.cat_verify_tables.specs.WrongParts.{IsWrongType}
use Rattle.cat_verify_tables.specs.inside.NamedWords.{names_in}
use Rattle.cat_verify_tables.specs.inside.PartWords.{Spells, SpellsNone}
use Rattle.cat_verify_tables.specs.inside.TypeNaming.{flat_type, base_of, named_in, of_number, lists_of, listed}
use Rattle.cat_verify_tables.proofs.NameLemmas.{one_of, not_one_of}
use Rattle.cat_verify_tables.proofs.TypeLemmas.{flat_is, if_low}
use Rattle.cat_verify_tables.proofs.PlainLemmas.{first_of}

-- the names of types are those of structures and enumerations, spelled as they have to be
pub record Knows (tables : ImageTables) (types : TypeNames) : Type 0 where
  pub names : names_in types.numbers ≡ type_names tables
  pub spelled : AllHave (λ w. (IsTypeName w → ⊥) → ⊥) (type_names tables)

-- ---- lists

pub known_lists : (tables : ImageTables) (n : ℕ) (text : Text) → IsKnown tables text → IsKnown tables (listed n text)
known_lists tables zero text known = known
known_lists tables (suc n) text known = words.list (known_lists tables n text known)

pub higher_lists : (tables : ImageTables) (n : ℕ) (text : Text) → IsHigher tables n (listed n text)
higher_lists tables zero text = words.any
higher_lists tables (suc n) text = words.list (higher_lists tables n text)

pub higher_less : (tables : ImageTables) (n : ℕ) (text : Text) → IsHigher tables (suc n) text → IsHigher tables n text
higher_less tables zero text high = words.any
higher_less tables (suc n) text (words.list high) = words.list (higher_less tables n _ high)
higher_less tables (suc n) text (words.part has high) = words.part has (higher_less tables n _ high)

pub higher_down : (tables : ImageTables) (n k : ℕ) (text : Text) → IsHigher tables (k + n) text → IsHigher tables n text
higher_down tables n zero text high =
    let none : 0 + n ≡ n = omega arith in subst (λ (m : ℕ). IsHigher tables m text) none high
higher_down tables n (suc k) text high =
    let one : suc k + n ≡ suc (k + n) = omega arith in
    higher_down tables n k text (higher_less tables (k + n) text (subst (λ (m : ℕ). IsHigher tables m text) one high))

-- ---- words of types without parts

pub flat_there : (word : Text) (t : Ty) → flat_type word ≡ Some t → IsOneOf word flat_types
flat_there = flat_is (λ word t. IsOneOf word flat_types) (inl refl) (inr (inl refl)) (inr (inr (inl refl)))
    (inr (inr (inr (inl refl)))) (inr (inr (inr (inr (inl refl))))) (inr (inr (inr (inr (inr (inl refl))))))

flat_found : (word : Text) → IsOneOf word flat_types → flat_type word ≡ None → ⊥
unfolding flat_type
flat_found word (inl is) none = absurd (cc (subst (λ (w : Text). flat_type w ≡ None) is none))
flat_found word (inr (inl is)) none = absurd (cc (subst (λ (w : Text). flat_type w ≡ None) is none))
flat_found word (inr (inr (inl is))) none = absurd (cc (subst (λ (w : Text). flat_type w ≡ None) is none))
flat_found word (inr (inr (inr (inl is)))) none = absurd (cc (subst (λ (w : Text). flat_type w ≡ None) is none))
flat_found word (inr (inr (inr (inr (inl is))))) none = absurd (cc (subst (λ (w : Text). flat_type w ≡ None) is none))
flat_found word (inr (inr (inr (inr (inr (inl is)))))) none =
    absurd (cc (subst (λ (w : Text). flat_type w ≡ None) is none))
flat_found word (inr (inr (inr (inr (inr (inr is)))))) none = is

-- ---- a list is no word

pub no_named_list : (text rest : Text) → IsTypeName text → text ≡ codes "list of " ++ rest → ⊥
no_named_list text rest w is =
    let begun = w.begun in
    let small : w.first < 128 = grind (arith, nat_tests, begun) in
    let other : w.first ≢ 108 = grind (arith, nat_tests, begun) in
    let same : codes "list of " ++ rest ≡ w.first ∷ encode_utf8_all w.others =
    sym is ∙ w.spelled ∙ ap (λ (front : Text). front ++ encode_utf8_all w.others) (encode_ascii w.first small) in
    other (sym (ap first_of same))

-- the word of a type without parts has no capital
pub no_flat_name : (word : Text) (t : Ty) → flat_type word ≡ Some t → IsTypeName word → ⊥
no_flat_name word t is w =
    let begun = w.begun in
    let small : w.first < 128 = grind (arith, nat_tests, begun) in
    let first : first_of word ≡ w.first =
    ap first_of (w.spelled ∙ ap (λ (front : Text). front ++ encode_utf8_all w.others) (encode_ascii w.first small)) in
    let upper : w.first ≤ 90 = grind (arith, nat_tests, begun) in
    let lower : 90 < first_of word = flat_is (λ v u. 90 < first_of v) (omega arith) (omega arith) (omega arith)
    (omega arith) (omega arith) (omega arith) word t is in
    omega (arith, first, upper, lower)

pub no_flat_list : (text rest : Text) → IsOneOf text flat_types → text ≡ codes "list of " ++ rest → ⊥
no_flat_list text rest (inl is) same =
    let first : 98 ≡ 108 = ap first_of (sym is ∙ same) in omega (arith, first)
no_flat_list text rest (inr (inl is)) same =
    let first : 105 ≡ 108 = ap first_of (sym is ∙ same) in omega (arith, first)
no_flat_list text rest (inr (inr (inl is))) same =
    let first : 100 ≡ 108 = ap first_of (sym is ∙ same) in omega (arith, first)
no_flat_list text rest (inr (inr (inr (inl is)))) same =
    let first : 109 ≡ 108 = ap first_of (sym is ∙ same) in omega (arith, first)
no_flat_list text rest (inr (inr (inr (inr (inl is))))) same =
    let first : 100 ≡ 108 = ap first_of (sym is ∙ same) in omega (arith, first)
no_flat_list text rest (inr (inr (inr (inr (inr (inl is)))))) same =
    let first : 100 ≡ 108 = ap first_of (sym is ∙ same) in omega (arith, first)
no_flat_list text rest (inr (inr (inr (inr (inr (inr none)))))) same = none

pub have_one : {A : Type 0} (Has : A → Type 0) (x : A) (xs : List A) → IsOneOf x xs → AllHave Has xs → Has x
have_one Has x [] one all = absurd one
have_one Has x (y ∷ xs) (inl same) all = subst Has (sym same) all.0
have_one Has x (y ∷ xs) (inr more) all = have_one Has x xs more all.1

-- ---- one word

module _ (tables : ImageTables) (types : TypeNames) (knows : Knows tables types) where
  base_known : (word : Text) (t : Ty) → base_of types.numbers types.structures word ≡ Some t → IsKnown tables word
  base_known word t is = by (flat_type word) refl (number_in types.numbers word) refl is
    where
      by : (o : Option Ty) → flat_type word ≡ o → (n : Option ℕ) → number_in types.numbers word ≡ n
          → option_or o (option_map (of_number types.structures) n) ≡ Some t → IsKnown tables word
      by (Some u) f n g is = words.flat (flat_there word u f)
      by None f (Some n) g is = words.declared (subst (IsOneOf word) knows.names
          (one_of types.numbers word (ap is_some g)))
      by None f None g is = absurd (cc is)

  base_unknown : (word : Text) → base_of types.numbers types.structures word ≡ None
      → ((rest : Text) → word ≡ codes "list of " ++ rest → ⊥) → IsKnown tables word → ⊥
  base_unknown word none single known =
      by (flat_type word) refl (number_in types.numbers word) refl none word known refl
    where
      by : (o : Option Ty) → flat_type word ≡ o → (n : Option ℕ) → number_in types.numbers word ≡ n
          → option_or o (option_map (of_number types.structures) n) ≡ None → (w : Text) → IsKnown tables w → w ≡ word
          → ⊥
      by (Some u) f n g is w k same = cc is
      by None f (Some n) g is w k same = cc is
      by None f None g is w (words.flat one) same =
          flat_found word (subst (λ (x : Text). IsOneOf x flat_types) same one) f
      by None f None g is w (words.declared one) same = not_one_of types.numbers word (ap is_some g)
          (subst (IsOneOf word) (sym knows.names) (subst (λ (x : Text). IsOneOf x (type_names tables)) same one))
      by None f None g is w (words.list {text} more) same = single text (sym same)

  -- ---- lists of what is known

  element_known : (w element : Text) → IsKnown tables w → w ≡ codes "list of " ++ element → IsKnown tables element
  element_known w element (words.flat one) is = absurd (no_flat_list w element one is)
  element_known w element (words.declared one) is =
      absurd (have_one (λ v. (IsTypeName v → ⊥) → ⊥) w (type_names tables) one knows.spelled
      (λ typed. no_named_list w element typed is))
  element_known w element (words.list {text} more) is =
      let same : text ≡ element = ap (drop 8) is in subst (IsKnown tables) same more

  elements_known : (n : ℕ) (text : Text) → IsKnown tables (listed n text) → IsKnown tables text
  elements_known zero text known = known
  elements_known (suc n) text known =
      elements_known n text (element_known (listed (suc n) text) (listed n text) known refl)

  -- ---- whole types

  pub spelled_known : (text : Text) (t : Ty) → Spells types text t → IsKnown tables text
  spelled_known text t spells = by (nat_lt spells.lists highest) spells.found_is
    where
      found : (o : Option Ty) → Some t ≡ option_map (lists_of spells.lists) o
          → base_of types.numbers types.structures spells.base ≡ o → IsKnown tables text
      found None is base = absurd (cc is)
      found (Some u) is base = subst (IsKnown tables) (sym spells.behind.text_is)
          (known_lists tables spells.lists spells.base (base_known spells.base u base))

      by : (b : Bool) → Some t ≡ (if b then option_map (lists_of spells.lists)
          (base_of types.numbers types.structures spells.base) else None) → IsKnown tables text
      by true is = found (base_of types.numbers types.structures spells.base) is refl
      by false is = absurd (cc is)

  -- no type: it isn't there, or has more lists than a type may be high
  pub spelled_none : (text : Text) → SpellsNone types text → IsWrongType tables highest text
  spelled_none text none = by (nat_lt none.lists highest) refl none.found_is
    where
      unknown : none.lists < highest → (o : Option Ty) → base_of types.numbers types.structures none.base ≡ o
          → None ≡ option_map (lists_of none.lists) o → IsKnown tables text → ⊥
      unknown low None base is known = base_unknown none.base base (none.behind.all low)
          (elements_known none.lists none.base (subst (IsKnown tables) none.behind.text_is known))
      unknown low (Some u) base is known = cc is

      by : (b : Bool) → nat_lt none.lists highest ≡ b
          → None ≡ (if b then option_map (lists_of none.lists) (base_of types.numbers types.structures none.base)
          else None) → IsWrongType tables highest text
      by true test is = inl (unknown (grind (arith, nat_tests, test))
          (base_of types.numbers types.structures none.base) refl is)
      by false test is =
          let high : highest ≤ none.lists = grind (arith, nat_tests, test) in
          let more : none.lists - highest + highest ≡ none.lists = omega (arith, high) in
          inr (subst (IsHigher tables highest) (sym none.behind.text_is)
          (higher_down tables highest (none.lists - highest) (listed none.lists none.base)
          (subst (λ (k : ℕ). IsHigher tables k (listed none.lists none.base)) (sym more)
          (higher_lists tables none.lists none.base))))

  -- ---- what is known and not too high is a type

  flat_some : (word : Text) → IsOneOf word flat_types → (t : Ty) × (flat_type word ≡ Some t)
  flat_some word one = by (flat_type word) refl
    where
      by : (o : Option Ty) → flat_type word ≡ o → (t : Ty) × (flat_type word ≡ Some t)
      by (Some t) is = (t, is)
      by None is = absurd (flat_found word one is)

  named_some : (word : Text) → IsOneOf word (type_names tables)
      → (n : ℕ) × (number_in types.numbers word ≡ Some n)
  named_some word one = by (number_in types.numbers word) refl
    where
      by : (o : Option ℕ) → number_in types.numbers word ≡ o → (n : ℕ) × (number_in types.numbers word ≡ Some n)
      by (Some n) is = (n, is)
      by None is = absurd (not_one_of types.numbers word (ap is_some is) (subst (IsOneOf word) (sym knows.names) one))

  -- the type of a word, without lists in front
  word_spelled : (word : Text) (t : Ty) → base_of types.numbers types.structures word ≡ Some t
      → ((rest : Text) → word ≡ codes "list of " ++ rest → ⊥) → Spells types word t
  word_spelled word t is single = record {
    lists = 0;
    base = word;
    behind = record { text_is = refl; most = omega arith; all = λ low. single };
    found_is = ap (option_map (lists_of 0)) (sym is);
  }

  too_many_lists : (n : ℕ) (base : Text) → highest ≤ n → IsHigher tables highest (listed n base)
  too_many_lists n base high = higher_down tables highest (n - highest) (listed n base)
      (subst (λ (k : ℕ). IsHigher tables k (listed n base))
      (let it : n ≡ n - highest + highest = omega (arith, high) in it) (higher_lists tables n base))

  few_lists_known : (n : ℕ) (base : Text) → (IsHigher tables highest (listed n base) → ⊥) → n < highest
  few_lists_known n base low = by (nat_lt n highest) refl
    where
      by : (b : Bool) → nat_lt n highest ≡ b → n < highest
      by true test = grind (arith, nat_tests, test)
      by false test = absurd (low (too_many_lists n base (grind (arith, nat_tests, test))))

  found_below : (n : ℕ) (o found : Option Ty) → n < highest
      → found ≡ (if nat_lt n highest then option_map (lists_of n) o else None) → found ≡ option_map (lists_of n) o
  found_below n o found few is = is ∙ if_low (option_map (lists_of n) o) None n few

  one_list_more : (n : ℕ) (o : Option Ty) (t : Ty) → Some t ≡ option_map (lists_of n) o
      → Some (ty.List t) ≡ option_map (lists_of (suc n)) o
  one_list_more n None t is = absurd (cc is)
  one_list_more n (Some u) t is = let same : t ≡ lists_of n u = cc is in ap (λ (v : Ty). Some (ty.List v)) same

  list_spelled : (word : Text) (t : Ty) → Spells types word t → (IsHigher tables highest (codes "list of " ++ word) → ⊥)
      → Spells types (codes "list of " ++ word) (ty.List t)
  list_spelled word t spells low =
      let n = spells.lists in
      let base = spells.base in
      let o = base_of types.numbers types.structures base in
      let whole : codes "list of " ++ word ≡ listed (suc n) base =
      ap (λ (w : Text). codes "list of " ++ w) spells.behind.text_is in
      let few : suc n < highest =
      few_lists_known (suc n) base (λ high. low (subst (IsHigher tables highest) (sym whole) high)) in
      let fewer : n < highest = omega (arith, few) in record {
        lists = suc n;
        base = base;
        behind = record { text_is = whole; most = omega (arith, few); all = λ less. spells.behind.all fewer };
        found_is = one_list_more n o t (found_below n o (Some t) fewer spells.found_is)
            ∙ sym (if_low (option_map (lists_of (suc n)) o) None (suc n) few);
      }

  -- a list is no word
  single_flat : (word : Text) → IsOneOf word flat_types → (rest : Text) → word ≡ codes "list of " ++ rest → ⊥
  single_flat word one rest same = no_flat_list word rest one same

  single_named : (word : Text) → IsOneOf word (type_names tables) → (rest : Text) → word ≡ codes "list of " ++ rest → ⊥
  single_named word one rest same = have_one (λ v. (IsTypeName v → ⊥) → ⊥) word (type_names tables) one knows.spelled
      (λ typed. no_named_list word rest typed same)

  named_base : (word : Text) (n : ℕ) (o : Option Ty) → flat_type word ≡ o → number_in types.numbers word ≡ Some n
      → (t : Ty) × (base_of types.numbers types.structures word ≡ Some t)
  named_base word n (Some t) f g =
      (t, ap (λ (o : Option Ty). option_or o (named_in types.numbers types.structures word)) f)
  named_base word n None f g = (
    of_number types.structures n,
    ap (λ (o : Option Ty). option_or o (named_in types.numbers types.structures word)) f
        ∙ ap (option_map (of_number types.structures)) g,
  )

  pub known_spelled : (text : Text) → IsKnown tables text → (IsHigher tables highest text → ⊥)
      → (t : Ty) × Spells types text t
  known_spelled text (words.flat one) low =
      let it = flat_some text one in (
        it.0,
        word_spelled text it.0
            (ap (λ (o : Option Ty). option_or o (named_in types.numbers types.structures text)) it.1)
            (single_flat text one),
      )
  known_spelled text (words.declared one) low =
      let number = named_some text one in
      let it = named_base text number.0 (flat_type text) refl number.1 in
      (it.0, word_spelled text it.0 it.1 (single_named text one))
  known_spelled text (words.list {text = element} known) low =
      let it = known_spelled element known (λ high. low (higher_less tables highest (codes "list of " ++ element)
      (words.list high))) in
      (ty.List it.0, list_spelled element it.0 it.1 low)
