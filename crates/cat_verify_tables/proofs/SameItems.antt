-- Items with the same words are the same.
use Rattle.std.proofs.Common.{◌≡◌, ◌<◌, ◌/◌, ◌%◌, ◌&&◌, ℕ, Bool, true, false, IsTrue, List, [], ◌∷◌, ◌++◌, length, map}
use Rattle.std.proofs.Common.{drop, not, nat_lt, Option, Some, None, slice_get, refl, sym, ap, ◌∙◌, arith}
use Rattle.std.proofs.Common.{true≢false}
use Rattle.std.specs.Prelude.{codes, if◌then◌else◌, nat_le}
use Rattle.std.specs.List.{list_all}
use Rattle.std.proofs.lemmas.Bool.{and_parts}
use Rattle.std.proofs.lemmas.Bool.Decides.{nat_tests}
use Rattle.cat_pos.specs.declared.pos.Pos.{Pos}
use Rattle.cat_pos.specs.declared.limits.TheConstants.{MOST_FILES}
use Rattle.cat_scope.specs.Names.{AllHave, is_called}
use Rattle.cat_value.specs.declared.ty.Ty.{Ty}
use Rattle.cat_value.specs.declared.ty.Ty.TheViews.{out-Ty}
use Rattle.cat_value.specs.declared.declaration.Kind.{Kind}
use Rattle.cat_value.specs.declared.declaration.Kind.TheVariants as kind
use Rattle.cat_value.specs.declared.declaration.ItemDecl.{ItemDecl}
use Rattle.cat_value.specs.declared.declaration.Scope.{Scope}
use Rattle.cat_value.specs.declared.decls.Decls.{Decls}
use Rattle.cat_value.specs.Declarations.{highest, is_boolean, is_counted, is_declared, is_sound, item_is_sound}
use Rattle.cat_value.specs.Declarations.{kind_is_sound}
use Rattle.cat_value.specs.Heights.{height_to}
use Rattle.cat_listing.specs.Texts.{lines_of, name_at, type_text}
use Rattle.cat_listing.specs.DeclarationLines as listing
use Rattle.cat_listing.specs.DeclarationLines.{defined_text, param_text, what_text}
use Rattle.cat_image.specs.declared.tables.ImagePos.{ImagePos}
use Rattle.cat_image.specs.declared.tables.ImageKind.{ImageKind}
use Rattle.cat_image.specs.declared.tables.ImageKind.TheVariants as words
use Rattle.cat_image.specs.declared.tables.ImageItem.{ImageItem}
use Rattle.cat_image.specs.declared.tables.ImageTables.{ImageTables}
use Rattle.cat_image.specs.Words.{Text}
use Rattle.cat_image.specs.Listed.{enumeration_words, item_words, kind_words, pos_words, structure_words}
use Rattle.cat_verify_tables.specs.TableWords.{IsToldWhole}
use Rattle.cat_verify_tables.proofs.MadeLemmas.{Apart}
use Rattle.cat_verify_tables.proofs.OneText.{named_text}
use Rattle.cat_verify_tables.proofs.SameParts.{enumeration_names, structure_names, tests_have, type_one}
use Rattle.cat_verify_tables.proofs.SoundLemmas.{each_has}
use Rattle.cat_verify_tables.proofs.TextParts.{BeginsWith, IsListed, condition_listed, front_one, named_listed}
use Rattle.cat_verify_tables.proofs.TextParts.{no_condition, parted_one, single}

-- ---- positions and kinds

pub pos_one : (p q : Pos) → pos_words p ≡ pos_words q → p ≡ q
pos_one p q same =
    let file : p.place % MOST_FILES ≡ q.place % MOST_FILES = ap (λ (w : ImagePos). w.file) same in
    let column : p.place / MOST_FILES ≡ q.place / MOST_FILES = ap (λ (w : ImagePos). w.column) same in
    let place : p.place ≡ q.place = omega (arith, file, column) in
    ap (λ (n : ℕ). record p { line = n }) (ap (λ (w : ImagePos). w.line) same)
    ∙ ap (λ (n : ℕ). record q { place = n }) place

abbrev calls : ImageKind → Bool
calls words.Called = true
calls _ = false

abbrev variable_of : ImageKind → Option Kind
variable_of words.Input = Some kind.Input
variable_of words.Output = Some kind.Output
variable_of words.Internal = Some kind.Internal
variable_of words.Context = Some kind.Context
variable_of words.InputOutput = Some kind.InputOutput
variable_of words.ContextOutput = Some kind.ContextOutput
variable_of words.Called = None

called_words : (k : Kind) → calls (kind_words k) ≡ is_called k
called_words (kind.Called n) = refl
called_words kind.Input = refl
called_words kind.Output = refl
called_words kind.Internal = refl
called_words kind.Context = refl
called_words kind.InputOutput = refl
called_words kind.ContextOutput = refl

variable_back : (k : Kind) → is_called k ≡ false → variable_of (kind_words k) ≡ Some k
variable_back (kind.Called n) variable = absurd (true≢false variable)
variable_back kind.Input variable = refl
variable_back kind.Output variable = refl
variable_back kind.Internal variable = refl
variable_back kind.Context variable = refl
variable_back kind.InputOutput variable = refl
variable_back kind.ContextOutput variable = refl

variable_text_is : (ds : Decls) (item : ItemDecl) (k : Kind) → is_called k ≡ false
    → what_text ds item k ≡ defined_text ds item
variable_text_is ds item (kind.Called n) variable = absurd (true≢false variable)
variable_text_is ds item kind.Input variable = refl
variable_text_is ds item kind.Output variable = refl
variable_text_is ds item kind.Internal variable = refl
variable_text_is ds item kind.Context variable = refl
variable_text_is ds item kind.InputOutput variable = refl
variable_text_is ds item kind.ContextOutput variable = refl

pub called_is : (k : Kind) → is_called k ≡ true → (n : ℕ) × (k ≡ kind.Called n)
called_is (kind.Called n) called = (n, refl)
called_is kind.Input called = absurd (true≢false (sym called))
called_is kind.Output called = absurd (true≢false (sym called))
called_is kind.Internal called = absurd (true≢false (sym called))
called_is kind.Context called = absurd (true≢false (sym called))
called_is kind.InputOutput called = absurd (true≢false (sym called))
called_is kind.ContextOutput called = absurd (true≢false (sym called))

-- ---- what is sound of an item

pub record IsSoundItem (ds : Decls) (item : ItemDecl) : Type 0 where
  pub kind : IsTrue (kind_is_sound (length ds.scopes) item.ty item.condition item.kind)
  pub ty : is_declared ds.structures ds.enumerations item.ty ≡ true
  pub params : AllHave (λ t. is_declared ds.structures ds.enumerations t ≡ true) item.params

pub sound_item : (ds : Decls) (item : ItemDecl)
    → IsTrue (item_is_sound ds.structures ds.enumerations (length ds.scopes) item) → IsSoundItem ds item
sound_item ds item sound =
    let k = kind_is_sound (length ds.scopes) item.ty item.condition item.kind in
    let own = is_sound ds.structures ds.enumerations item.ty in
    let count = is_counted item.params in
    let all = list_all (is_sound ds.structures ds.enumerations) item.params in
    let three = and_parts (k && own && count) all sound in
    let two = and_parts (k && own) count three.0 in
    let one = and_parts k own two.0 in record {
      kind = one.0;
      ty = declared item.ty one.1;
      params = each_has (λ t. IsTrue (is_sound ds.structures ds.enumerations t))
          (λ t. is_declared ds.structures ds.enumerations t ≡ true) declared item.params
          (tests_have (is_sound ds.structures ds.enumerations) item.params three.1);
    }
  where
    declared : (t : Ty) → IsTrue (is_sound ds.structures ds.enumerations t)
        → is_declared ds.structures ds.enumerations t ≡ true
    declared t is = (and_parts (is_declared ds.structures ds.enumerations t)
        (nat_le (height_to ds.structures ds.enumerations highest t) highest) is).0

-- ---- what variables are

pub record IsSameVariable (i j : ItemDecl) : Type 0 where
  pub ty : i.ty ≡ j.ty
  pub condition : i.condition ≡ j.condition
  pub params : i.params ≡ j.params

begins_comma : (ds : Decls) (ts : List Ty) → BeginsWith 44 (lines_of (param_text ds) ts)
unfolding param_text
begins_comma ds [] = tt
begins_comma ds (t ∷ ts) = refl

begins_blank : (ds : Decls) (ts : List Ty) → BeginsWith 32 (listing.params_text ds ts)
begins_blank ds [] = tt
begins_blank ds (t ∷ ts) = refl

module _ (tables : ImageTables) (apart : Apart tables) (ds us : Decls)
    (structures : tables.structures ≡ map (structure_words ds) ds.structures)
    (enumerations : tables.enumerations ≡ map (enumeration_words ds) ds.enumerations)
    (others : tables.structures ≡ map (structure_words us) us.structures)
    (more : tables.enumerations ≡ map (enumeration_words us) us.enumerations) where
  same_type : (t u : Ty) → is_declared ds.structures ds.enumerations t ≡ true → type_text ds t ≡ type_text us u → t ≡ u
  same_type = type_one tables apart ds us structures enumerations others more

  first_listed : (t : Ty) → is_declared ds.structures ds.enumerations t ≡ true → IsListed (type_text ds t)
  first_listed t declared = named_listed tables apart (type_text ds t) t (named_text tables ds
      (structure_names tables ds structures) (enumeration_names tables ds enumerations) t declared)

  second_listed : (t : Ty) → is_declared us.structures us.enumerations t ≡ true → IsListed (type_text us t)
  second_listed t declared = named_listed tables apart (type_text us t) t (named_text tables us
      (structure_names tables us others) (enumeration_names tables us more) t declared)

  first_no_condition : (t : Ty) → is_declared ds.structures ds.enumerations t ≡ true
      → type_text ds t ≡ codes "condition" → ⊥
  first_no_condition t declared = no_condition tables apart (type_text ds t) t (named_text tables ds
      (structure_names tables ds structures) (enumeration_names tables ds enumerations) t declared)

  second_no_condition : (t : Ty) → is_declared us.structures us.enumerations t ≡ true
      → type_text us t ≡ codes "condition" → ⊥
  second_no_condition t declared = no_condition tables apart (type_text us t) t (named_text tables us
      (structure_names tables us others) (enumeration_names tables us more) t declared)

  more_one : (ts us_ts : List Ty) → AllHave (λ t. is_declared ds.structures ds.enumerations t ≡ true) ts
      → AllHave (λ t. is_declared us.structures us.enumerations t ≡ true) us_ts
      → lines_of (param_text ds) ts ≡ lines_of (param_text us) us_ts → ts ≡ us_ts
  unfolding param_text
  more_one [] [] all each same = refl
  more_one [] (v ∷ vs) all each same = absurd (cc same)
  more_one (t ∷ ts) [] all each same = absurd (cc same)
  more_one (t ∷ ts) (v ∷ vs) all each same =
      let it = parted_one 44 (type_text ds t) (type_text us v) (lines_of (param_text ds) ts)
      (lines_of (param_text us) vs) (single (type_text ds t) (first_listed t all.0))
      (single (type_text us v) (second_listed v each.0)) (begins_comma ds ts) (begins_comma us vs)
      (ap (drop 2) same) in
      ap (λ (x : Ty). x ∷ ts) (same_type t v all.0 it.0)
      ∙ ap (λ (xs : List Ty). v ∷ xs) (more_one ts vs all.1 each.1 it.1)

  params_one : (ts us_ts : List Ty) → AllHave (λ t. is_declared ds.structures ds.enumerations t ≡ true) ts
      → AllHave (λ t. is_declared us.structures us.enumerations t ≡ true) us_ts
      → listing.params_text ds ts ≡ listing.params_text us us_ts → ts ≡ us_ts
  params_one [] [] all each same = refl
  params_one [] (v ∷ vs) all each same = absurd (cc same)
  params_one (t ∷ ts) [] all each same = absurd (cc same)
  params_one (t ∷ ts) (v ∷ vs) all each same =
      let it = parted_one 44 (type_text ds t) (type_text us v) (lines_of (param_text ds) ts)
      (lines_of (param_text us) vs) (single (type_text ds t) (first_listed t all.0))
      (single (type_text us v) (second_listed v each.0)) (begins_comma ds ts) (begins_comma us vs)
      (ap (drop 4) same) in
      ap (λ (x : Ty). x ∷ ts) (same_type t v all.0 it.0)
      ∙ ap (λ (xs : List Ty). v ∷ xs) (more_one ts vs all.1 each.1 it.1)

  module _ (i j : ItemDecl) (sound : IsSoundItem ds i) (also : IsSoundItem us j) (whole : IsToldWhole i)
      (told : IsToldWhole j) where
    params_same : listing.params_text ds i.params ≡ listing.params_text us j.params → i.params ≡ j.params
    params_same = params_one i.params j.params sound.params also.params

    defined_one : defined_text ds i ≡ defined_text us j → IsSameVariable i j
    defined_one same = by i.condition j.condition refl refl same
      where
        by : (a b : Bool) → i.condition ≡ a → j.condition ≡ b
            → (if a then codes "condition" else type_text ds i.ty) ++ listing.params_text ds i.params
            ≡ (if b then codes "condition" else type_text us j.ty) ++ listing.params_text us j.params
            → IsSameVariable i j
        by true true one other same =
            let it = front_one (codes "condition") (codes "condition") (listing.params_text ds i.params)
            (listing.params_text us j.params) condition_listed condition_listed (begins_blank ds i.params)
            (begins_blank us j.params) same in record {
              ty = whole.condition one ∙ sym (told.condition other);
              condition = one ∙ sym other;
              params = params_same it.1;
            }
        by true false one other same =
            let it = front_one (codes "condition") (type_text us j.ty) (listing.params_text ds i.params)
            (listing.params_text us j.params) condition_listed (second_listed j.ty also.ty) (begins_blank ds i.params)
            (begins_blank us j.params) same in
            absurd (second_no_condition j.ty also.ty (sym it.0))
        by false true one other same =
            let it = front_one (type_text ds i.ty) (codes "condition") (listing.params_text ds i.params)
            (listing.params_text us j.params) (first_listed i.ty sound.ty) condition_listed (begins_blank ds i.params)
            (begins_blank us j.params) same in
            absurd (first_no_condition i.ty sound.ty it.0)
        by false false one other same =
            let it = front_one (type_text ds i.ty) (type_text us j.ty) (listing.params_text ds i.params)
            (listing.params_text us j.params) (first_listed i.ty sound.ty) (second_listed j.ty also.ty)
            (begins_blank ds i.params) (begins_blank us j.params) same in record {
              ty = same_type i.ty j.ty sound.ty it.0;
              condition = one ∙ sym other;
              params = params_same it.1;
            }

    -- ---- whole items

    abbrev CalledOnce : Type 0
    CalledOnce = (n m : ℕ) → n < length ds.scopes → m < length us.scopes
        → name_at (λ (s : Scope). s.name) (slice_get ds.scopes n)
        ≡ name_at (λ (s : Scope). s.name) (slice_get us.scopes m) → n ≡ m

    kind_one : CalledOnce → kind_words i.kind ≡ kind_words j.kind
        → what_text ds i i.kind ≡ what_text us j j.kind → (b : Bool) → is_called i.kind ≡ b → i.kind ≡ j.kind
    kind_one once same what false variable =
        let other : is_called j.kind ≡ false =
        sym (called_words j.kind) ∙ ap calls (sym same) ∙ called_words i.kind ∙ variable in
        let back : Some i.kind ≡ Some j.kind =
        sym (variable_back i.kind variable) ∙ ap variable_of same ∙ variable_back j.kind other in
        cc back
    kind_one once same what true called =
        let n = called_is i.kind called in
        let m = called_is j.kind
        (sym (called_words j.kind) ∙ ap calls (sym same) ∙ called_words i.kind ∙ called) in
        n.1 ∙ ap kind.Called (once n.0 m.0 (within ds i n.0 n.1 sound.kind) (within us j m.0 m.1 also.kind)
        (sym (ap (what_text ds i) n.1) ∙ what ∙ ap (what_text us j) m.1)) ∙ sym m.1
      where
        within : (es : Decls) (item : ItemDecl) (n : ℕ) → item.kind ≡ kind.Called n
            → IsTrue (kind_is_sound (length es.scopes) item.ty item.condition item.kind) → n < length es.scopes
        within es item n is sound =
            let test = sym (ap (kind_is_sound (length es.scopes) item.ty item.condition) is) ∙ sound in
            let two = and_parts (nat_lt n (length es.scopes) && is_boolean (out-Ty item.ty)) (not item.condition) test
            in
            let one = (and_parts (nat_lt n (length es.scopes)) (is_boolean (out-Ty item.ty)) two.0).0 in
            grind (arith, nat_tests, one)

    variable_one : kind_words i.kind ≡ kind_words j.kind → what_text ds i i.kind ≡ what_text us j j.kind
        → (b : Bool) → is_called i.kind ≡ b → IsSameVariable i j
    variable_one same what false variable =
        let other : is_called j.kind ≡ false =
        sym (called_words j.kind) ∙ ap calls (sym same) ∙ called_words i.kind ∙ variable in
        defined_one (sym (variable_text_is ds i i.kind variable) ∙ what ∙ variable_text_is us j j.kind other)
    variable_one same what true called =
        let one = whole.called called in
        let other = told.called (sym (called_words j.kind) ∙ ap calls (sym same) ∙ called_words i.kind ∙ called) in
        record {
          ty = one.ty ∙ sym other.ty;
          condition = one.condition ∙ sym other.condition;
          params = one.params ∙ sym other.params;
        }

    pub item_one : CalledOnce → item_words ds i ≡ item_words us j → i ≡ j
    item_one once same =
        let kinds = ap (λ (l : ImageItem). l.kind) same in
        let what = ap (λ (l : ImageItem). l.what) same in
        let variable = variable_one kinds what (is_called i.kind) refl in
        ap (λ (name : Text). record i { name = name }) (ap (λ (l : ImageItem). l.name) same)
        ∙ ap (λ (pos : Pos). record i { name = j.name; pos = pos })
        (pos_one i.pos j.pos (ap (λ (l : ImageItem). l.pos) same))
        ∙ ap (λ (k : Kind). record i { name = j.name; pos = j.pos; kind = k })
        (kind_one once kinds what (is_called i.kind) refl)
        ∙ ap (λ (t : Ty). record j { ty = t; condition = i.condition; params = i.params }) variable.ty
        ∙ ap (λ (c : Bool). record j { condition = c; params = i.params }) variable.condition
        ∙ ap (λ (ts : List Ty). record j { params = ts }) variable.params
