-- What is read of a constant is what it spells, and what it spells is read.
use Rattle.std.proofs.Common.{◌≡◌, ℕ, ◌≤◌, Bool, true, false, List, [], ◌∷◌, ◌++◌, length, Option, Some, None}
use Rattle.std.proofs.Common.{subst, refl, sym, ap, ◌∙◌, arith}
use Rattle.std.specs.Prelude.{codes}
use Rattle.std.specs.Option.{option_map}
use Rattle.cat_image.specs.declared.tables.ImageConstant.{ImageConstant}
use Rattle.cat_image.specs.declared.row.Row.{Row}
use Rattle.cat_image.specs.declared.row.Row.TheVariants as row
use Rattle.cat_image.specs.Words.{Text, words, is_type_of, is_type}
use Rattle.cat_image.specs.Rows.{row_text, IsRow, IsConstant}
use Rattle.cat_image.specs.inside.Reads.{cut}
use Rattle.cat_image.specs.inside.Typed.{unparted, typed_of, constant_of, lists_words, listed}
use Rattle.cat_image.proofs.CutLemmas.{IsCutTo, cut_told, HasFirst, some_part, AllLack, parts_lack}
use Rattle.cat_image.proofs.ReadLemmas.{Holds, all_front, all_back, same_fronts}
use Rattle.cat_image.proofs.ListedLemmas.{listed_words}
use Rattle.cat_image.proofs.TypedLemmas.{unparted_words, words_append, unparted_append, IsLongest, IsTyped, typed_told}

-- ---- words without blanks

abbrev Lacks : Text → Type 0
Lacks word = cut 32 word ≡ None

alone : (w : Text) → Lacks w → words w ≡ w ∷ []
alone w lacks = subst (IsCutTo 32 w) lacks (cut_told 32 w)

words_unparted : (w : Text) (ws : List Text) → AllLack 32 (w ∷ ws) → words (unparted (w ∷ ws)) ≡ w ∷ ws
words_unparted w [] all = alone w all.0
words_unparted w (v ∷ ws) all =
    words_append w (unparted (v ∷ ws)) ∙ ap (λ (us : List Text). us ++ words (unparted (v ∷ ws))) (alone w all.0)
    ∙ ap (λ (us : List Text). w ∷ us) (words_unparted v ws all.1)

some_words : (ws : List Text) → HasFirst ws → AllLack 32 ws → words (unparted ws) ≡ ws
some_words ws has all =
    ap (λ (us : List Text). words (unparted us)) has.are
    ∙ words_unparted has.first has.more (subst (AllLack 32) has.are all) ∙ sym has.are

type_first : (ws : List Text) → is_type_of ws ≡ true → HasFirst ws
type_first [] is = absurd (cc)
type_first (w ∷ ws) is = record { first = w; more = ws; are = refl }

-- ---- a type and a value

-- the text of the longest type and of what stands behind it
pub record IsParted (text : Text) (p : List Text × List Text) : Type 0 where
  pub text_is : text ≡ unparted p.0 ++ 32 ∷ unparted p.1
  pub type_words : words (unparted p.0) ≡ p.0
  pub value_words : words (unparted p.1) ≡ p.1

parted : (text : Text) (p : List Text × List Text) → IsLongest (words text) p → IsParted text p
parted text p longest =
    let first = type_first p.0 longest.is_type in
    let lack : AllLack 32 (p.0 ++ p.1) = subst (AllLack 32) longest.split (parts_lack 32 text) in
    record {
      text_is = sym (unparted_words text) ∙ ap unparted longest.split ∙ unparted_append p.0 p.1 first longest.some;
      type_words = some_words p.0 first (all_front Lacks p.0 p.1 lack);
      value_words = some_words p.1 longest.some (all_back Lacks p.0 p.1 lack);
    }

-- a line is that of a row
pub record IsRowOf (line : Text) (r : Row) : Type 0 where
  pub line_is : line ≡ row_text r
  pub is_row : IsRow r

longest_row : (text : Text) (p : List Text × List Text) → IsLongest (words text) p
    → IsRowOf (codes "const " ++ text) (row.Constant (record { ty = unparted p.0; value = unparted p.1 }))
longest_row text p longest =
    let made = parted text p longest in
    record {
      line_is = ap (λ (t : Text). codes "const " ++ t) made.text_is;
      is_row = (ap is_type_of made.type_words ∙ longest.is_type, most);
    }
  where
    most : (ty rest : Text) → is_type ty ≡ true → unparted p.0 ++ 32 ∷ unparted p.1 ≡ ty ++ 32 ∷ rest
        → length (words ty) ≤ length (words (unparted p.0))
    most ty rest is same =
        let made = parted text p longest in
        let split = ap words (made.text_is ∙ same) ∙ words_append ty rest in
        let fewer = longest.most (words ty) (words rest) is (some_part 32 rest) split in
        let count = ap length made.type_words in
        omega (arith, fewer, count)

constant_by : (text : Text) (o : Option (List Text × List Text)) → IsTyped (words text) o
    → Holds (IsRowOf (codes "const " ++ text))
    (option_map (λ p. row.Constant (record { ty = unparted p.0; value = unparted p.1 })) o)
constant_by text None told = tt
constant_by text (Some p) told = longest_row text p told

pub constant_read : (text : Text) → Holds (IsRowOf (codes "const " ++ text)) (constant_of text)
unfolding constant_of
constant_read text = constant_by text (typed_of (words text)) (typed_told (words text))

same_row : (c : ImageConstant) (p : List Text × List Text) → IsConstant c → IsLongest (words (c.ty ++ 32 ∷ c.value)) p
    → (words c.ty ≡ p.0) × (words c.value ≡ p.1)
same_row c p is longest =
    let text = c.ty ++ 32 ∷ c.value in
    let made = parted text p longest in
    let split = words_append c.ty c.value in
    let one = longest.most (words c.ty) (words c.value) is.0 (some_part 32 c.value) split in
    let two = is.1 (unparted p.0) (unparted p.1) (ap is_type_of made.type_words ∙ longest.is_type) made.text_is in
    let count = ap length made.type_words in
    same_fronts (words c.ty) (words c.value) p.0 p.1 (omega (arith, one, two, count)) (sym split ∙ longest.split)

written_by : (c : ImageConstant) → IsConstant c → (o : Option (List Text × List Text))
    → IsTyped (words (c.ty ++ 32 ∷ c.value)) o
    → option_map (λ p. row.Constant (record { ty = unparted p.0; value = unparted p.1 })) o ≡ Some (row.Constant c)
written_by c is None told =
    absurd (told (words c.ty) (words c.value) is.0 (some_part 32 c.value) (words_append c.ty c.value))
written_by c is (Some p) told =
    let same = same_row c p is told in
    let ty : unparted p.0 ≡ c.ty = ap unparted (sym same.0) ∙ unparted_words c.ty in
    let value : unparted p.1 ≡ c.value = ap unparted (sym same.1) ∙ unparted_words c.value in
    ap (λ (t : Text). Some (row.Constant (record { ty = t; value = unparted p.1 }))) ty
    ∙ ap (λ (t : Text). Some (row.Constant (record { ty = c.ty; value = t }))) value

pub constant_written : (c : ImageConstant) → IsConstant c → constant_of (c.ty ++ 32 ∷ c.value) ≡ Some (row.Constant c)
unfolding constant_of
constant_written c is =
    written_by c is (typed_of (words (c.ty ++ 32 ∷ c.value))) (typed_told (words (c.ty ++ 32 ∷ c.value)))

-- as it is read: a name behind its lists, and a value
pub constant_listed : (text name rest ty value : Text) (n : ℕ)
    → Some (lists_words n (name ∷ []), words rest) ≡ typed_of (words text) → ty ≡ listed n name → value ≡ rest
    → Some (row.Constant (record { ty = ty; value = value })) ≡ constant_of text
unfolding constant_of
constant_listed text name rest ty value n typed ty_is value_is =
    ap (λ (t : Text). Some (row.Constant (record { ty = t; value = value }))) (ty_is ∙ listed_words n name)
    ∙ ap (λ (t : Text). Some (row.Constant (record { ty = unparted (lists_words n (name ∷ [])); value = t })))
    (value_is ∙ sym (unparted_words rest))
    ∙ ap (option_map (λ p. row.Constant (record { ty = unparted p.0; value = unparted p.1 }))) typed
