-- Items that are functions, by their words and by what they are declared as.
use Rattle.std.proofs.Common.{◌≡◌, ◌&&◌, ℕ, zero, suc, not, Bool, true, false, List, [], ◌∷◌, ◌++◌}
use Rattle.std.proofs.Common.{Some, None, bytes_eq, refl, sym, ap, ◌∙◌, subst, append-nil}
use Rattle.std.proofs.Common.{true≢false}
use Rattle.std.specs.Prelude.{codes, is_some}
use Rattle.std.specs.List.{AllZip}
use Rattle.std.proofs.lemmas.List.{append_assoc}
use Rattle.std.proofs.lemmas.Slice.Eq.{bytes_eq-Decides}
use Rattle.cat_scope.specs.Names as names
use Rattle.cat_scope.specs.Names.{AllHave}
use Rattle.cat_value.specs.declared.ty.Ty.{Ty}
use Rattle.cat_value.specs.declared.declaration.Kind.{Kind}
use Rattle.cat_value.specs.declared.declaration.Kind.TheVariants as kind
use Rattle.cat_value.specs.declared.declaration.ItemDecl.{ItemDecl}
use Rattle.cat_image.specs.declared.tables.ImageItem.{ImageItem}
use Rattle.cat_image.specs.Words.{Text, words, has_bytes, begin_list, is_type, is_type_of}
use Rattle.cat_image.specs.inside.Reads.{cut}
use Rattle.cat_image.proofs.CutLemmas.{IsCutTo, cut_told, cut_at}
use Rattle.cat_verify_tables.specs.declared.scoping.Known.{Known}
use Rattle.cat_verify_tables.specs.TypeWords.{IsTypeName}
use Rattle.cat_verify_tables.specs.RowFronts.{is_function}
use Rattle.cat_verify_tables.specs.WrongParts.{params_text, more_params}
use Rattle.cat_verify_tables.specs.inside.HeldWords.{ArePlain}
use Rattle.cat_verify_tables.specs.inside.NamedWords.{names_in}
use Rattle.cat_verify_tables.specs.inside.TypeNaming.{listed}
use Rattle.cat_verify_tables.specs.inside.PartWords.{Spells}
use Rattle.cat_verify_tables.specs.inside.ItemWords.{IsHeldOf, IsWhatOf, IsDeclOf}
use Rattle.cat_verify_tables.proofs.HeldLemmas.{IsBasedOn, held_based}
use Rattle.cat_verify_tables.proofs.KnownLemmas.{have_one}
use Rattle.cat_verify_tables.proofs.NameLemmas.{one_of}
use Rattle.cat_verify_tables.proofs.PlainLemmas.{is_plain, no_blank, not_other_plain}

-- ---- the words of a text

words_cut : (front rest : Text) → cut 32 front ≡ None → words (front ++ 32 ∷ rest) ≡ front ∷ words rest
words_cut front rest none =
    let told : IsCutTo 32 (front ++ 32 ∷ rest) (Some (front, rest)) =
    subst (IsCutTo 32 (front ++ 32 ∷ rest)) (cut_at 32 front rest none) (cut_told 32 (front ++ 32 ∷ rest)) in
    told.1

words_whole : (text : Text) → cut 32 text ≡ None → words text ≡ text ∷ []
words_whole text none = subst (IsCutTo 32 text) none (cut_told 32 text)

pub list_words : (text : Text) → words (codes "list of " ++ text) ≡ codes "list" ∷ codes "of" ∷ words text
unfolding cut
list_words text =
    words_cut (codes "list") (codes "of " ++ text) refl
    ∙ ap (λ (ws : List Text). codes "list" ∷ ws) (words_cut (codes "of") text refl)

list_type : (text : Text) → is_type (codes "list of " ++ text) ≡ is_type text
list_type text = ap is_type_of (list_words text)

-- ---- a type, with the types of parameters or without

plain_bytes : (word : Text) → is_plain word ≡ true → has_bytes word ≡ true
plain_bytes [] plain = plain
plain_bytes (b ∷ bs) plain = refl

plain_no_list : (word other : Text) → is_plain word ≡ true → begin_list word other ≡ false
plain_no_list word other plain = by (bytes_eq word (codes "list")) refl
  where
    by : (b : Bool) → bytes_eq word (codes "list") ≡ b
        → (bytes_eq word (codes "list") && bytes_eq other (codes "of")) ≡ false
    by false is = ap (λ (b : Bool). b && bytes_eq other (codes "of")) is
    by true is =
        let same = (bytes_eq-Decides word (codes "list")).0 is in
        absurd (true≢false (sym plain ∙ ap is_plain same))

pub type_is : (n : ℕ) (base : Text) → is_plain base ≡ true → is_type (listed n base) ≡ true
type_is zero base plain = ap is_type_of (words_whole base (no_blank base plain)) ∙ plain_bytes base plain
type_is (suc n) base plain = list_type (listed n base) ∙ type_is n base plain

of_words : (rest : Text) → words (codes "of " ++ rest) ≡ codes "of" ∷ words rest
unfolding cut
of_words rest = words_cut (codes "of") rest refl

pub no_type : (n : ℕ) (base first : Text) (others : List Text) → is_plain base ≡ true
    → is_type (listed n base ++ params_text (first ∷ others)) ≡ false
no_type zero base first others plain =
    let rest = first ++ more_params others in
    ap is_type_of (words_cut base (codes "of " ++ rest) (no_blank base plain)
    ∙ ap (λ (ws : List Text). base ∷ ws) (of_words rest))
    ∙ ap (λ (b : Bool). b && is_type_of (words rest)) (plain_no_list base (codes "of") plain)
no_type (suc n) base first others plain =
    ap is_type (append_assoc (codes "list of ") (listed n base) (params_text (first ∷ others)))
    ∙ list_type (listed n base ++ params_text (first ∷ others)) ∙ no_type n base first others plain

-- ---- items

module _ (known : Known) (plain : ArePlain known.types)
    (spelled : AllHave (λ name. (IsTypeName name → ⊥) → ⊥) (names_in known.scopes)) where
  held_same : (x : ImageItem) (item : ItemDecl) → names.is_called item.kind ≡ false
      → IsHeldOf known.types x.what (record { ty = item.ty; condition = item.condition; params = item.params })
      → is_function x ≡ names.is_function item
  held_same x item variable held = by held.texts item.params held.params_are.each held.what_is
    where
      base : IsBasedOn known.types plain held.text item.condition item.ty
      base = held_based known.types plain held.text item.condition item.ty held.ty_is

      own : (params : List Ty) → (not (names.is_called item.kind) && not (names.has_none params))
          ≡ not (names.has_none params)
      own params = ap (λ (b : Bool). not b && not (names.has_none params)) variable

      by : (texts : List Text) (params : List Ty) → AllZip (Spells known.types) texts params
          → x.what ≡ held.text ++ params_text texts
          → not (is_type x.what) ≡ (not (names.is_called item.kind) && not (names.has_none params))
      by [] [] each is =
          ap (λ (w : Text). not (is_type w)) (is ∙ append-nil held.text ∙ base.text_is)
          ∙ ap not (type_is base.lists base.base base.plain_base) ∙ sym (own [])
      by [] (p ∷ params) each is = absurd each
      by (t ∷ texts) [] each is = absurd each
      by (t ∷ texts) (p ∷ params) each is =
          ap (λ (w : Text). not (is_type w)) (is ∙ ap (λ (w : Text). w ++ params_text (t ∷ texts)) base.text_is)
          ∙ ap not (no_type base.lists base.base t texts base.plain_base) ∙ sym (own (p ∷ params))

  what_same : (x : ImageItem) (item : ItemDecl) (k : Kind) → item.kind ≡ k → IsWhatOf known x.what item k
      → is_function x ≡ names.is_function item
  what_same x item (kind.Called n) is told =
      let one = have_one (λ w. (IsTypeName w → ⊥) → ⊥) x.what (names_in known.scopes)
      (one_of known.scopes x.what (ap is_some told.0)) spelled in
      ap not (type_is 0 x.what (not_other_plain x.what one))
      ∙ sym (ap (λ (k : Kind). not (names.is_called k) && not (names.has_none item.params)) is)
  what_same x item kind.Input is told = held_same x item (ap names.is_called is) told
  what_same x item kind.Output is told = held_same x item (ap names.is_called is) told
  what_same x item kind.Internal is told = held_same x item (ap names.is_called is) told
  what_same x item kind.Context is told = held_same x item (ap names.is_called is) told
  what_same x item kind.InputOutput is told = held_same x item (ap names.is_called is) told
  what_same x item kind.ContextOutput is told = held_same x item (ap names.is_called is) told

  pub function_same : (x : ImageItem) (item : ItemDecl) → IsDeclOf known x item
      → is_function x ≡ names.is_function item
  function_same x item decl = what_same x item item.kind refl decl.what
