-- The texts of types are words as types are, with those of parameters behind them too.
use Rattle.std.proofs.Common.{◌≡◌, ◌≤◌, ◌+◌, ℕ, Bool, true, false, true≢false, IsTrue, List, []}
use Rattle.std.proofs.Common.{◌∷◌, ◌++◌}
use Rattle.std.proofs.Common.{map, length, bytes_eq, refl, sym, ap, ◌∙◌, subst, arith, append_assoc}
use Rattle.std.proofs.Common.{append-nil, drop}
use Rattle.std.specs.Prelude.{codes}
use Rattle.std.proofs.lemmas.Bool.{and_parts, or_right}
use Rattle.std.proofs.lemmas.Slice.Eq.{bytes_eq-Decides}
use Rattle.cat_value.specs.declared.ty.Ty.{Ty}
use Rattle.cat_value.specs.declared.ty.Ty.TheVariants as flat
use Rattle.cat_value.specs.declared.ty.Ty.TheViews as ty
use Rattle.cat_value.specs.declared.declaration.Structure.{Structure}
use Rattle.cat_value.specs.declared.declaration.Enumeration.{Enumeration}
use Rattle.cat_value.specs.declared.decls.Decls.{Decls}
use Rattle.cat_value.specs.Declarations.{is_declared}
use Rattle.cat_value.proofs.Exported.{found, is_declared_List, structure_there, enumeration_there}
use Rattle.cat_value.proofs.Induction.{type_induction}
use Rattle.cat_scope.specs.Names.{AllHave}
use Rattle.cat_listing.specs.Texts.{type_text, name_at, lines_of}
use Rattle.cat_listing.specs.DeclarationLines.{param_text, params_text}
use Rattle.cat_listing.proofs.TypeTexts as texts
use Rattle.cat_image.specs.Words.{Text, parts, words, has_bytes, begin_list, is_type_of, is_type, is_followed}
use Rattle.cat_image.specs.Words.{are_types_of}
use Rattle.cat_image.specs.Words.{is_what_of, is_what}
use Rattle.cat_image.specs.Listed.{is_line}
use Rattle.cat_image.specs.Rows.{IsConstant}
use Rattle.cat_image.proofs.TypedLemmas.{words_append}
use Rattle.cat_verify_tables.specs.WrongParts as wrong
use Rattle.cat_verify_tables.proofs.Exported.{list_words, first_of}
use Rattle.cat_emitted.specs.Spelled.{AreSpelledDecls, IsTypeWord}
use Rattle.cat_emitted.proofs.ListFacts.{all_at}
use Rattle.cat_emitted.proofs.FirstLetters.{first_capital}
use Rattle.cat_emitted.proofs.WordFacts.{type_inner, word_some, words_one, unparted_append, type_line}
use Rattle.cat_emitted.proofs.WordFacts.{line_append}
use Rattle.cat_emitted.proofs.LineFacts.{plain_line}

-- ---- tests

name_bytes : (word : Text) → IsTypeWord word → has_bytes word ≡ true
name_bytes word t = word_some _ word t.word

pub name_no_list : (word : Text) → IsTypeWord word → bytes_eq word (codes "list") ≡ false
name_no_list word t = by (bytes_eq word (codes "list")) refl
  where
    by : (b : Bool) → bytes_eq word (codes "list") ≡ b → b ≡ false
    by false is = refl
    by true is =
        let same = ap first_of ((bytes_eq-Decides word (codes "list")).0 is) in
        let capital = first_capital word t.word in
        absurd (omega (arith, same, capital))

followed : (w : Text) → has_bytes w ≡ true → is_followed (w ++ codes ",") ≡ true
followed [] some = cc some
followed (a ∷ []) some = refl
followed (a ∷ b ∷ []) some = refl
followed (a ∷ b ∷ c ∷ cs) some = followed (b ∷ c ∷ cs) refl

-- types in front of others
more_types : (a : Text) (more : List Text) → is_followed a ≡ true → are_types_of more ≡ true
    → are_types_of (a ∷ more) ≡ true
more_types a [] behind types = absurd (true≢false (sym types))
more_types a (b ∷ more) behind types = rw (behind, types) refl

-- ---- words

word_of : words (codes "of") ≡ codes "of" ∷ []
unfolding parts
word_of = refl

pub of_words : (front text : Text) → words (front ++ (codes " of " ++ text)) ≡ words front ++ codes "of" ∷ words text
of_words front text =
    words_append front (codes "of " ++ text)
    ∙ ap (λ (ws : List Text). words front ++ ws) (words_append (codes "of") text
    ∙ ap (λ (ws : List Text). ws ++ words text) word_of)

module _ (ds : Decls) (spelled : AreSpelledDecls ds) where
  abbrev pub IsDeclared : Ty → Type 0
  IsDeclared t = IsTrue (is_declared ds.structures ds.enumerations t)

  -- a type without parts has one word, which begins no list, and so has the name of one that is declared
  pub record IsWordly (word : Text) : Type 0 where
    pub one : words word ≡ word ∷ []
    pub one_behind : words (word ++ codes ",") ≡ (word ++ codes ",") ∷ []
    pub some : has_bytes word ≡ true
    pub no_list : bytes_eq word (codes "list") ≡ false
    pub line : is_line word ≡ true

  pub named_wordly : (word : Text) → IsTypeWord word → IsWordly word
  named_wordly word t = record {
    one = words_one word (type_inner word t);
    one_behind = words_one (word ++ codes ",") (unparted_append word (codes ",") (type_inner word t) refl);
    some = name_bytes word t;
    no_list = name_no_list word t;
    line = type_line word t;
  }

  pub word_type : (word : Text) → IsWordly word → is_type word ≡ true
  word_type word wordly = ap is_type_of wordly.one ∙ wordly.some

  -- what holds of each word, and of a list where it holds of its elements, holds of each declared type
  module _ (P : Text → Type 0) (word : (w : Text) → IsWordly w → P w)
      (list : (text : Text) → P text → P (codes "list of " ++ text)) where
    abbrev Holds : Ty → Type 0
    Holds t = IsDeclared t → P (type_text ds t)

    flat_holds : (w : Text) (t : Ty) → type_text ds t ≡ w → IsWordly w → Holds t
    flat_holds w t text wordly declared = subst P (sym text) (word w wordly)

    list_holds : (t : Ty) → Holds t → Holds (ty.List t)
    list_holds t is declared =
        subst P (sym (texts.type_text-List ds t))
        (list (type_text ds t) (is (subst IsTrue (is_declared_List ds.structures ds.enumerations t) declared)))

    structure_holds : (n : ℕ) → Holds (flat.Structure n)
    structure_holds n declared =
        let it = found ds.structures n (structure_there ds n declared) in
        let text = texts.type_text-Structure ds n ∙ ap (name_at (λ (s : Structure). s.name)) it.1 in
        subst P (sym text)
        (word it.0.name (named_wordly it.0.name (all_at _ ds.structures n it.0 spelled.structures it.1).name))

    enumeration_holds : (n : ℕ) → Holds (flat.Enumeration n)
    enumeration_holds n declared =
        let it = found ds.enumerations n (enumeration_there ds n declared) in
        let text = texts.type_text-Enumeration ds n ∙ ap (name_at (λ (e : Enumeration). e.name)) it.1 in
        subst P (sym text)
        (word it.0.name (named_wordly it.0.name (all_at _ ds.enumerations n it.0 spelled.enumerations it.1).name))

    pub each_text : (t : Ty) → Holds t
    unfolding parts
    each_text = type_induction Holds
        (flat_holds (codes "boolean") flat.Boolean (texts.type_text-Boolean ds)
        (record {
          one = refl;
          one_behind = refl;
          some = refl;
          no_list = refl;
          line = plain_line (codes "boolean") refl;
        }))
        (flat_holds (codes "integer") flat.Integer (texts.type_text-Integer ds)
        (record {
          one = refl;
          one_behind = refl;
          some = refl;
          no_list = refl;
          line = plain_line (codes "integer") refl;
        }))
        (flat_holds (codes "decimal") flat.Decimal (texts.type_text-Decimal ds)
        (record {
          one = refl;
          one_behind = refl;
          some = refl;
          no_list = refl;
          line = plain_line (codes "decimal") refl;
        }))
        (flat_holds (codes "money") flat.Money (texts.type_text-Money ds)
        (record {
          one = refl;
          one_behind = refl;
          some = refl;
          no_list = refl;
          line = plain_line (codes "money") refl;
        }))
        (flat_holds (codes "date") flat.Date (texts.type_text-Date ds)
        (record {
          one = refl;
          one_behind = refl;
          some = refl;
          no_list = refl;
          line = plain_line (codes "date") refl;
        }))
        (flat_holds (codes "duration") flat.Duration (texts.type_text-Duration ds)
        (record {
          one = refl;
          one_behind = refl;
          some = refl;
          no_list = refl;
          line = plain_line (codes "duration") refl;
        }))
        list_holds structure_holds enumeration_holds

  -- ---- a line

  pub type_lined : (t : Ty) → IsDeclared t → is_line (type_text ds t) ≡ true
  type_lined = each_text (λ text. is_line text ≡ true) (λ w wordly. wordly.line)
      (λ text is. line_append (codes "list of ") text (plain_line (codes "list of ") refl) is)

  params_lined : (ts : List Ty) → AllHave IsDeclared ts → is_line (wrong.more_params (map (type_text ds) ts)) ≡ true
  params_lined [] all = plain_line [] refl
  params_lined (t ∷ ts) all =
      line_append (codes ", ") _ (plain_line (codes ", ") refl)
      (line_append (type_text ds t) _ (type_lined t all.0) (params_lined ts all.1))

  pub behind_lined : (ts : List Ty) → AllHave IsDeclared ts
      → is_line (wrong.params_text (map (type_text ds) ts)) ≡ true
  behind_lined [] all = plain_line [] refl
  behind_lined (t ∷ ts) all =
      line_append (codes " of ") _ (plain_line (codes " of ") refl)
      (line_append (type_text ds t) _ (type_lined t all.0) (params_lined ts all.1))

  -- ---- a type

  pub type_is : (t : Ty) → IsDeclared t → is_type (type_text ds t) ≡ true
  type_is = each_text (λ text. is_type text ≡ true)
      word_type
      (λ text is. ap is_type_of (list_words text) ∙ is)

  -- and none with parameters
  abbrev IsNoType : Text → Type 0
  IsNoType text = (more : List Text) → is_type_of (words text ++ codes "of" ∷ more) ≡ false

  word_no_type : (w : Text) → IsWordly w → IsNoType w
  word_no_type w wordly more =
      ap (λ (ws : List Text). is_type_of (ws ++ codes "of" ∷ more)) wordly.one ∙ rw wordly.no_list refl

  list_no_type : (text : Text) → IsNoType text → IsNoType (codes "list of " ++ text)
  list_no_type text is more =
      ap (λ (ws : List Text). is_type_of (ws ++ codes "of" ∷ more)) (list_words text) ∙ is more

  pub no_type : (t : Ty) → IsDeclared t → IsNoType (type_text ds t)
  no_type = each_text IsNoType word_no_type list_no_type

  -- in front of others no longer type stands
  abbrev pub IsLongest : Text → Type 0
  IsLongest text = (ts us rest : List Text) → is_type_of ts ≡ true → words text ++ us ≡ ts ++ rest
      → length ts ≤ length (words text)

  word_longest : (w : Text) → IsWordly w → IsLongest w
  word_longest w wordly ts us rest typed same =
      let count = ap length wordly.one in
      let one = by ts typed (sym (ap (λ (ws : List Text). ws ++ us) wordly.one) ∙ same) in
      omega (arith, count, one)
    where
      by : (ts : List Text) → is_type_of ts ≡ true → w ∷ us ≡ ts ++ rest → length ts ≤ 1
      by [] is e = absurd (true≢false (sym is))
      by (a ∷ []) is e = omega arith
      by (a ∷ b ∷ more) is e =
          let first : w ≡ a = cc e in
          let lists = (and_parts (begin_list a b) (is_type_of more) is).0 in
          let list = (and_parts (bytes_eq a (codes "list")) (bytes_eq b (codes "of")) lists).0 in
          absurd (true≢false (sym list ∙ ap (λ (v : Text). bytes_eq v (codes "list")) (sym first) ∙ wordly.no_list))

  list_longest : (text : Text) → IsLongest text → IsLongest (codes "list of " ++ text)
  list_longest text is ts us rest typed same =
      let count = ap length (list_words text) in
      let one = by ts typed (sym (ap (λ (ws : List Text). ws ++ us) (list_words text)) ∙ same) in
      omega (arith, count, one)
    where
      by : (ts : List Text) → is_type_of ts ≡ true → codes "list" ∷ codes "of" ∷ (words text ++ us) ≡ ts ++ rest
          → length ts ≤ 2 + length (words text)
      by [] t e = absurd (true≢false (sym t))
      by (a ∷ []) t e = omega arith
      by (a ∷ b ∷ more) t e =
          let below = is more us rest (and_parts (begin_list a b) (is_type_of more) t).1 (ap (drop 2) e) in
          omega (arith, below)

  longest : (t : Ty) → IsDeclared t → IsLongest (type_text ds t)
  longest = each_text IsLongest word_longest list_longest

  -- a type in front of a value
  pub constant_is : (t : Ty) (value : Text) → IsDeclared t
      → IsConstant (record { ty = type_text ds t; value = value })
  constant_is t value declared = (
    type_is t declared,
    λ ty rest typed same. longest t declared (words ty) (words value) (words rest) typed
        (sym (words_append (type_text ds t) value) ∙ ap words same ∙ words_append ty rest),
  )

  -- ---- what a variable is

  pub what_is : (t : Ty) → IsDeclared t → is_what (type_text ds t) ≡ true
  what_is = each_text (λ text. is_what text ≡ true)
      (λ w wordly. ap is_what_of wordly.one ∙ wordly.some)
      (λ text is. ap is_what_of (list_words text) ∙ or_right _ (is_what_of (words text)) is)

  abbrev IsFunction : Text → Type 0
  IsFunction text =
      (more : List Text) → are_types_of more ≡ true → is_what_of (words text ++ codes "of" ∷ more) ≡ true

  word_function : (w : Text) → IsWordly w → IsFunction w
  word_function w wordly more types =
      ap (λ (ws : List Text). is_what_of (ws ++ codes "of" ∷ more)) wordly.one ∙ rw (wordly.some, types) refl

  list_function : (text : Text) → IsFunction text → IsFunction (codes "list of " ++ text)
  list_function text is more types =
      ap (λ (ws : List Text). is_what_of (ws ++ codes "of" ∷ more)) (list_words text)
      ∙ or_right _ (is_what_of (words text ++ codes "of" ∷ more)) (is more types)

  pub function_is : (t : Ty) → IsDeclared t → IsFunction (type_text ds t)
  function_is = each_text IsFunction word_function list_function

  -- ---- types behind one another

  pub last_type : (t : Ty) → IsDeclared t → are_types_of (words (type_text ds t)) ≡ true
  last_type = each_text (λ text. are_types_of (words text) ≡ true)
      (λ w wordly. ap are_types_of wordly.one ∙ wordly.some)
      (λ text is. ap are_types_of (list_words text) ∙ is)

  abbrev IsFront : Text → Type 0
  IsFront text =
      (more : List Text) → are_types_of more ≡ true → are_types_of (words (text ++ codes ",") ++ more) ≡ true

  word_front : (w : Text) → IsWordly w → IsFront w
  word_front w wordly more types =
      ap (λ (ws : List Text). are_types_of (ws ++ more)) wordly.one_behind
      ∙ more_types (w ++ codes ",") more (followed w wordly.some) types

  list_front : (text : Text) → IsFront text → IsFront (codes "list of " ++ text)
  list_front text is more types =
      ap (λ (ws : List Text). are_types_of (ws ++ more)) (list_words (text ++ codes ","))
      ∙ is more types

  pub front_type : (t : Ty) → IsDeclared t → IsFront (type_text ds t)
  front_type = each_text IsFront word_front list_front

  -- ---- parameters

  more_same : (ts : List Ty) → lines_of (param_text ds) ts ≡ wrong.more_params (map (type_text ds) ts)
  unfolding param_text
  more_same [] = refl
  more_same (t ∷ ts) =
      ap (λ (x : Text). codes ", " ++ type_text ds t ++ x) (more_same ts)
      ∙ append_assoc (codes ", ") (type_text ds t) (wrong.more_params (map (type_text ds) ts))

  pub params_same : (ts : List Ty) → params_text ds ts ≡ wrong.params_text (map (type_text ds) ts)
  params_same [] = refl
  params_same (t ∷ ts) = ap (λ (x : Text). codes " of " ++ (type_text ds t ++ x)) (more_same ts)

  params_types : (t : Ty) (ts : List Ty) → IsDeclared t → AllHave IsDeclared ts
      → are_types_of (words (type_text ds t ++ wrong.more_params (map (type_text ds) ts))) ≡ true
  params_types t [] declared all =
      ap (λ (x : Text). are_types_of (words x)) (append-nil (type_text ds t)) ∙ last_type t declared
  params_types t (u ∷ ts) declared all =
      let rest = type_text ds u ++ wrong.more_params (map (type_text ds) ts) in
      ap (λ (x : Text). are_types_of (words x)) (sym (append_assoc (type_text ds t) (codes ",") (codes " " ++ rest)))
      ∙ ap are_types_of (words_append (type_text ds t ++ codes ",") rest)
      ∙ front_type t declared (words rest) (params_types u ts all.0 all.1)

  -- what a variable is, with its parameters
  pub with_params : (t : Ty) (ts : List Ty) → IsDeclared t → AllHave IsDeclared ts
      → is_what (type_text ds t ++ wrong.params_text (map (type_text ds) ts)) ≡ true
  with_params t [] declared all = ap is_what (append-nil (type_text ds t)) ∙ what_is t declared
  with_params t (u ∷ ts) declared all =
      let rest = type_text ds u ++ wrong.more_params (map (type_text ds) ts) in
      ap is_what_of (of_words (type_text ds t) rest)
      ∙ function_is t declared (words rest) (params_types u ts all.0 all.1)

  condition_word : words (codes "condition") ≡ codes "condition" ∷ []
  unfolding parts
  condition_word = refl

  pub condition_params : (ts : List Ty) → AllHave IsDeclared ts
      → is_what (codes "condition" ++ wrong.params_text (map (type_text ds) ts)) ≡ true
  condition_params [] all = ap is_what_of condition_word
  condition_params (u ∷ ts) all =
      let rest = type_text ds u ++ wrong.more_params (map (type_text ds) ts) in
      ap is_what_of (of_words (codes "condition") rest)
      ∙ ap (λ (ws : List Text). is_what_of (ws ++ codes "of" ∷ words rest)) condition_word
      ∙ rw (params_types u ts all.0 all.1) refl

  -- ---- with parameters it is no type, and without them it is one

  pub type_alone : (t : Ty) → IsDeclared t → is_type (type_text ds t ++ wrong.params_text []) ≡ true
  type_alone t declared = ap is_type (append-nil (type_text ds t)) ∙ type_is t declared

  pub type_with : (t u : Ty) (ts : List Ty) → IsDeclared t
      → is_type (type_text ds t ++ wrong.params_text (map (type_text ds) (u ∷ ts))) ≡ false
  type_with t u ts declared =
      let rest = type_text ds u ++ wrong.more_params (map (type_text ds) ts) in
      ap is_type_of (of_words (type_text ds t) rest) ∙ no_type t declared (words rest)

  pub condition_alone : is_type (codes "condition" ++ wrong.params_text []) ≡ true
  condition_alone = ap is_type_of condition_word

  pub condition_with : (u : Ty) (ts : List Ty)
      → is_type (codes "condition" ++ wrong.params_text (map (type_text ds) (u ∷ ts))) ≡ false
  condition_with u ts =
      let rest = type_text ds u ++ wrong.more_params (map (type_text ds) ts) in
      ap is_type_of (of_words (codes "condition") rest)
      ∙ ap (λ (ws : List Text). is_type_of (ws ++ codes "of" ∷ words rest)) condition_word
