-- Tables of types that have grown.
use Rattle.std.proofs.Common.{◌≡◌, ◌⊎◌, inl, inr, ℕ, zero, suc, Bool, true, false, true≢false, List, []}
use Rattle.std.proofs.Common.{◌∷◌, ◌++◌}
use Rattle.std.proofs.Common.{length, replicate, Option, Some, None, slice_get, slice_set, refl, sym, ap, ◌∙◌, subst}
use Rattle.std.proofs.Common.{arith}
use Rattle.std.specs.Option.{option_map}
use Rattle.std.proofs.lemmas.List.{append-nil}
use Rattle.cat_value.specs.declared.ty.Ty.TheVariants as ty
use Rattle.cat_value.specs.declared.decls.Decls.{Decls}
use Rattle.cat_scope.specs.Names.{IsOneOf}
use Rattle.cat_code.specs.Forms as code
use Rattle.cat_code.specs.Forms.{form_of}
use Rattle.cat_verify_shapes.specs.declared.forms.Form.{Form}
use Rattle.cat_verify_shapes.specs.declared.forms.Form.TheVariants as form
use Rattle.cat_verify_shapes.specs.declared.forms.Forms.{Forms}
use Rattle.cat_verify_shapes.specs.inside.FormKinds.{Kind, One, Row, type_in, row_in, in_front, kind_of, AreKinds}
use Rattle.cat_verify_shapes.specs.inside.FormKinds.{empty, grown}
use Rattle.cat_verify_shapes.specs.inside.FormKinds.{StandsFor}
use Rattle.cat_verify_shapes.specs.inside.Senses.{Stands, Grows, IsTable}
use Rattle.cat_verify_shapes.specs.inside.Growing.{StandsAs, IsNumber, HasKind, Adds, is_row}
use Rattle.cat_verify_shapes.proofs.ListLemmas.{none_some, some_is, get_as_long, get_replicate, set_there, set_is}
use Rattle.cat_verify_shapes.proofs.TableLemmas.{get_more, get_last, kind_at, kinds_apart, kinds_long, most, one_at}
use Rattle.cat_verify_shapes.proofs.TableLemmas.{senses_of, senses_exist, enumeration_of}
use Rattle.cat_verify_shapes.proofs.PassLemmas.{same_or_not, senses_before}

-- ---- what entries stand for

kind_as : (fs : List Form) (ks : List Kind) (n : ℕ) (f : Form) → AreKinds fs ks → slice_get fs n ≡ Some f
    → StandsAs ks n (is_row f)
kind_as fs ks n f are e = let at = kind_at are n f e in by_form f at.0 at.1 at.2
  where
    by_form : (f : Form) (k : Kind) → slice_get ks n ≡ Some k → kind_of ks f ≡ Some k → StandsAs ks n (is_row f)
    by_form form.Truth k at is = (code.Truth, at ∙ sym is)
    by_form form.Whole k at is = (code.Whole, at ∙ sym is)
    by_form form.Fraction k at is = (code.Fraction, at ∙ sym is)
    by_form form.Amount k at is = (code.Amount, at ∙ sym is)
    by_form form.Day k at is = (code.Day, at ∙ sym is)
    by_form form.Span k at is = (code.Span, at ∙ sym is)
    by_form (form.OneOf m) k at is = (code.OneOf m, at ∙ sym is)
    by_form form.Last k at is = (code.Last, at ∙ sym is)
    by_form (form.Many m) k at is = by_type (type_in (slice_get ks m)) is
      where
        by_type : (o : Option code.Form) → option_map (λ t. One (code.Many t)) o ≡ Some k → StandsAs ks n false
        by_type None e = absurd (none_some k e)
        by_type (Some t) e = (code.Many t, at ∙ sym e)
    by_form (form.Fields m) k at is = by_row (row_in (slice_get ks m)) is
      where
        by_row : (o : Option code.Forms) → option_map (λ ts. One (code.Fields ts)) o ≡ Some k → StandsAs ks n false
        by_row None e = absurd (none_some k e)
        by_row (Some ts) e = (code.Fields ts, at ∙ sym e)
    by_form (form.More l m) k at is = by_parts (type_in (slice_get ks l)) (row_in (slice_get ks m)) is
      where
        by_parts : (o : Option code.Form) (u : Option code.Forms) → in_front o u ≡ Some k → StandsAs ks n true
        by_parts None u e = absurd (none_some k e)
        by_parts (Some t) None e = absurd (none_some k e)
        by_parts (Some t) (Some ts) e = (code.More t ts, at ∙ sym e)

pub is_number : (forms : Forms) (n : ℕ) (f : Form) (b : Bool) → slice_get forms.kinds.keys n ≡ Some f → is_row f ≡ b
    → IsNumber forms n b
is_number forms n f b e row ks are = subst (StandsAs ks n) row (kind_as forms.kinds.keys ks n f are e)

type_at : (ks : List Kind) (n : ℕ) → StandsAs ks n false → (t : code.Form) × (type_in (slice_get ks n) ≡ Some t)
type_at ks n s = (s.0, ap type_in s.1)

row_at : (ks : List Kind) (n : ℕ) → StandsAs ks n true → (ts : code.Forms) × (row_in (slice_get ks n) ≡ Some ts)
row_at ks n s = (s.0, ap row_in s.1)

pub kind_Many : (forms : Forms) (n : ℕ) → IsNumber forms n false → HasKind forms (form.Many n)
kind_Many forms n h ks are =
    let t = type_at ks n (h ks are) in
    (One (code.Many t.0), ap (option_map (λ u. One (code.Many u))) t.1)

pub kind_Fields : (forms : Forms) (n : ℕ) → IsNumber forms n true → HasKind forms (form.Fields n)
kind_Fields forms n h ks are =
    let ts = row_at ks n (h ks are) in
    (One (code.Fields ts.0), ap (option_map (λ us. One (code.Fields us))) ts.1)

pub kind_More : (forms : Forms) (n m : ℕ) → IsNumber forms n false → IsNumber forms m true
    → HasKind forms (form.More n m)
kind_More forms n m h k ks are =
    let t = type_at ks n (h ks are) in
    let ts = row_at ks m (k ks are) in (
      Row (code.More t.0 ts.0),
      ap (λ (o : Option code.Form). in_front o (row_in (slice_get ks m))) t.1 ∙ ap (in_front (Some t.0)) ts.1,
    )

-- ---- entries that stand for one kind are the same

abbrev number_of : Form → ℕ
number_of form.Truth = 0
number_of form.Whole = 1
number_of form.Fraction = 2
number_of form.Amount = 3
number_of form.Day = 4
number_of form.Span = 5
number_of (form.Many n) = 6
number_of (form.Fields n) = 7
number_of (form.OneOf n) = 8
number_of form.Last = 9
number_of (form.More n m) = 10

abbrev number_in : Kind → ℕ
number_in (One code.Truth) = 0
number_in (One code.Whole) = 1
number_in (One code.Fraction) = 2
number_in (One code.Amount) = 3
number_in (One code.Day) = 4
number_in (One code.Span) = 5
number_in (One (code.Many t)) = 6
number_in (One (code.Fields ts)) = 7
number_in (One (code.OneOf n)) = 8
number_in (Row code.Last) = 9
number_in (Row (code.More t ts)) = 10

-- what a kind is made of
abbrev part_of : Kind → code.Form
part_of (One (code.Many t)) = t
part_of (One (code.OneOf n)) = code.OneOf n
part_of (Row (code.More t ts)) = t
part_of _ = code.Truth

abbrev rest_of : Kind → code.Forms
rest_of (One (code.Fields ts)) = ts
rest_of (Row (code.More t ts)) = ts
rest_of _ = code.Last

module _ (ks : List Kind) where
  type_is : (n : ℕ) (t : code.Form) → type_in (slice_get ks n) ≡ Some t → slice_get ks n ≡ Some (One t)
  type_is n t e = by_kind (slice_get ks n) e
    where
      by_kind : (o : Option Kind) → type_in o ≡ Some t → o ≡ Some (One t)
      by_kind None e = absurd (none_some t e)
      by_kind (Some (Row ts)) e = absurd (none_some t e)
      by_kind (Some (One u)) e = ap (λ (v : code.Form). Some (One v)) (some_is u t e)

  row_is : (n : ℕ) (ts : code.Forms) → row_in (slice_get ks n) ≡ Some ts → slice_get ks n ≡ Some (Row ts)
  row_is n ts e = by_kind (slice_get ks n) e
    where
      by_kind : (o : Option Kind) → row_in o ≡ Some ts → o ≡ Some (Row ts)
      by_kind None e = absurd (none_some ts e)
      by_kind (Some (One u)) e = absurd (none_some ts e)
      by_kind (Some (Row us)) e = ap (λ (v : code.Forms). Some (Row v)) (some_is us ts e)

  many_kind : (n : ℕ) (k : Kind) → kind_of ks (form.Many n) ≡ Some k
      → (number_in k ≡ 6) × (slice_get ks n ≡ Some (One (part_of k)))
  many_kind n k e = by_type (type_in (slice_get ks n)) refl e
    where
      by_type : (o : Option code.Form) → type_in (slice_get ks n) ≡ o → option_map (λ t. One (code.Many t)) o ≡ Some k
          → (number_in k ≡ 6) × (slice_get ks n ≡ Some (One (part_of k)))
      by_type None at h = absurd (none_some k h)
      by_type (Some t) at h =
          let is = some_is (One (code.Many t)) k h in (
            ap number_in (sym is),
            type_is n t at ∙ ap (λ (j : Kind). Some (One (part_of j))) is,
          )

  fields_kind : (n : ℕ) (k : Kind) → kind_of ks (form.Fields n) ≡ Some k
      → (number_in k ≡ 7) × (slice_get ks n ≡ Some (Row (rest_of k)))
  fields_kind n k e = by_row (row_in (slice_get ks n)) refl e
    where
      by_row : (o : Option code.Forms) → row_in (slice_get ks n) ≡ o
          → option_map (λ ts. One (code.Fields ts)) o ≡ Some k
          → (number_in k ≡ 7) × (slice_get ks n ≡ Some (Row (rest_of k)))
      by_row None at h = absurd (none_some k h)
      by_row (Some ts) at h =
          let is = some_is (One (code.Fields ts)) k h in (
            ap number_in (sym is),
            row_is n ts at ∙ ap (λ (j : Kind). Some (Row (rest_of j))) is,
          )

  more_kind : (n m : ℕ) (k : Kind) → kind_of ks (form.More n m) ≡ Some k
      → (number_in k ≡ 10) × (slice_get ks n ≡ Some (One (part_of k))) × (slice_get ks m ≡ Some (Row (rest_of k)))
  more_kind n m k e = by_parts (type_in (slice_get ks n)) (row_in (slice_get ks m)) refl refl e
    where
      by_parts : (o : Option code.Form) (u : Option code.Forms) → type_in (slice_get ks n) ≡ o
          → row_in (slice_get ks m) ≡ u → in_front o u ≡ Some k
          → (number_in k ≡ 10) × (slice_get ks n ≡ Some (One (part_of k))) × (slice_get ks m ≡ Some (Row (rest_of k)))
      by_parts None u at of h = absurd (none_some k h)
      by_parts (Some t) None at of h = absurd (none_some k h)
      by_parts (Some t) (Some ts) at of h =
          let is = some_is (Row (code.More t ts)) k h in (
            ap number_in (sym is),
            type_is n t at ∙ ap (λ (j : Kind). Some (One (part_of j))) is,
            row_is m ts of ∙ ap (λ (j : Kind). Some (Row (rest_of j))) is,
          )

  number_is : (f : Form) (k : Kind) → kind_of ks f ≡ Some k → number_in k ≡ number_of f
  number_is form.Truth k e = ap number_in (sym (some_is (One code.Truth) k e))
  number_is form.Whole k e = ap number_in (sym (some_is (One code.Whole) k e))
  number_is form.Fraction k e = ap number_in (sym (some_is (One code.Fraction) k e))
  number_is form.Amount k e = ap number_in (sym (some_is (One code.Amount) k e))
  number_is form.Day k e = ap number_in (sym (some_is (One code.Day) k e))
  number_is form.Span k e = ap number_in (sym (some_is (One code.Span) k e))
  number_is (form.Many n) k e = (many_kind n k e).0
  number_is (form.Fields n) k e = (fields_kind n k e).0
  number_is (form.OneOf n) k e = ap number_in (sym (some_is (One (code.OneOf n)) k e))
  number_is form.Last k e = ap number_in (sym (some_is (Row code.Last) k e))
  number_is (form.More n m) k e = (more_kind n m k e).0

-- entries of one number, whose parts are the same
same_by : (ks : List Kind) → ((n m : ℕ) (k : Kind) → slice_get ks n ≡ Some k → slice_get ks m ≡ Some k → n ≡ m)
    → (f g : Form) (k : Kind) → number_of f ≡ number_of g → kind_of ks f ≡ Some k → kind_of ks g ≡ Some k → f ≡ g
unfolding enumeration_of
same_by ks apart form.Truth form.Truth k same e h = refl
same_by ks apart form.Whole form.Whole k same e h = refl
same_by ks apart form.Fraction form.Fraction k same e h = refl
same_by ks apart form.Amount form.Amount k same e h = refl
same_by ks apart form.Day form.Day k same e h = refl
same_by ks apart form.Span form.Span k same e h = refl
same_by ks apart form.Last form.Last k same e h = refl
same_by ks apart (form.Many n) (form.Many m) k same e h =
    ap form.Many (apart n m (One (part_of k)) (many_kind ks n k e).1 (many_kind ks m k h).1)
same_by ks apart (form.Fields n) (form.Fields m) k same e h =
    ap form.Fields (apart n m (Row (rest_of k)) (fields_kind ks n k e).1 (fields_kind ks m k h).1)
same_by ks apart (form.OneOf n) (form.OneOf m) k same e h =
    ap (λ (j : Kind). form.OneOf (enumeration_of (part_of j)))
    (some_is (One (code.OneOf n)) (One (code.OneOf m)) (e ∙ sym h))
same_by ks apart (form.More n l) (form.More m j) k same e h =
    ap (λ (i : ℕ). form.More i l) (apart n m (One (part_of k)) (more_kind ks n l k e).1 (more_kind ks m j k h).1)
    ∙ ap (form.More m) (apart l j (Row (rest_of k)) (more_kind ks n l k e).2 (more_kind ks m j k h).2)
same_by ks apart _ _ k same e h = absurd (omega (arith, same))

-- ---- a table with an entry more

find_kind : (k : Kind) (ks : List Kind) → IsOneOf k ks → (n : ℕ) × (slice_get ks n ≡ Some k)
find_kind k [] h = absurd h
find_kind k (j ∷ ks) (inl e) = (zero, ap Some (sym e))
find_kind k (j ∷ ks) (inr h) = let at = find_kind k ks h in (suc at.0, at.1)

-- a kind that stands there is that of an entry
entry_of : (fs : List Form) (ks : List Kind) → AreKinds fs ks → (n : ℕ) (k : Kind) → slice_get ks n ≡ Some k
    → (f : Form) × (slice_get fs n ≡ Some f)
entry_of fs ks are n k e = get_as_long ks fs n k (sym (kinds_long are)) e

new_kind : (fs : List Form) (ks : List Kind) (f : Form) (k : Kind) → AreKinds fs ks → kind_of ks f ≡ Some k
    → ((n : ℕ) → slice_get fs n ≡ Some f → ⊥) → IsOneOf k ks → ⊥
new_kind fs ks f k are is absent among =
    let at = find_kind k ks among in
    let entry = entry_of fs ks are at.0 k at.1 in
    let was = kind_at are at.0 entry.0 entry.1 in
    let kind : kind_of ks entry.0 ≡ Some k = was.2 ∙ sym was.1 ∙ at.1 in
    absurd (absent at.0 (entry.1 ∙ ap Some
    (same_by ks (kinds_apart are) entry.0 f k (sym (number_is ks entry.0 k kind) ∙ number_is ks f k is) kind is)))

-- the table is as it was, or has the entry more behind all
abbrev pub HasKeys : Forms → Forms → Form → Type 0
HasKeys before after f = (after.kinds.keys ≡ before.kinds.keys) ⊎ ((after.kinds.keys ≡ before.kinds.keys ++ f ∷ [])
    × ((m : ℕ) → slice_get before.kinds.keys m ≡ Some f → ⊥))

pub added : (before after : Forms) (f : Form) (n : ℕ) → HasKind before f → HasKeys before after f
    → after.structures ≡ before.structures → after.outputs ≡ before.outputs
    → slice_get after.kinds.keys n ≡ Some f → Adds before after f n
added before after f n has keys structures outputs at =
    record {
      grows =
          record { kinds = kinds keys; table = table keys; structures = structures; outputs = outputs };
      entry = at;
    }
  where
    kinds : HasKeys before after f → (m : ℕ) (g : Form) → slice_get before.kinds.keys m ≡ Some g
        → slice_get after.kinds.keys m ≡ Some g
    kinds (inl same) m g e = ap (λ (fs : List Form). slice_get fs m) same ∙ e
    kinds (inr more) m g e =
        ap (λ (fs : List Form). slice_get fs m) more.0 ∙ get_more before.kinds.keys (f ∷ []) m g e

    table : HasKeys before after f → (ks : List Kind) → AreKinds before.kinds.keys ks
        → (more : List Kind) × AreKinds after.kinds.keys (ks ++ more)
    table (inl same) ks are = (
      [],
      subst (λ (fs : List Form). AreKinds fs (ks ++ [])) (sym same)
          (subst (AreKinds before.kinds.keys) (sym (append-nil ks)) are),
    )
    table (inr more) ks are =
        let k = has ks are in (
          k.0 ∷ [],
          subst (λ (fs : List Form). AreKinds fs (ks ++ k.0 ∷ [])) (sym more.0)
              (grown before.kinds.keys ks f k.0 are k.1 (new_kind before.kinds.keys ks f k.0 are k.1 more.1)),
        )

-- ---- what numbers stand for, when a table has grown

pub stands_on : (ds : Decls) (before after : Forms) (n : ℕ) (t : code.Form) → Grows before after
    → Stands ds before n t → Stands ds after n t
stands_on ds before after n t grows stands d h = stands d (senses_before ds before after d grows h)

-- ---- the whole table

pub table_on : (ds : Decls) (before after : Forms) → Grows before after → IsTable ds before → IsTable ds after
table_on ds before after grows (ks, table) =
    let more = grows.table ks table.kinds in (
      ks ++ more.0,
      record {
        kinds = more.1;
        structures = λ s n e. get_more ks more.0 n (One (form_of ds (ty.Structure s)))
            (table.structures s n (ap (λ (xs : List (Option ℕ)). slice_get xs s) (sym grows.structures) ∙ e));
        outputs = λ s n e. get_more ks more.0 n (One (code.outputs_form ds s))
            (table.outputs s n (ap (λ (xs : List ℕ). slice_get xs s) (sym grows.outputs) ∙ e));
      },
    )

is_enumeration : code.Form → Bool
is_enumeration (code.OneOf n) = true
is_enumeration _ = false

-- a number that stands for a structure in all senses is one of the table
fields_for : (ks : List Kind) (n : ℕ) (ts : code.Forms) → (senses_of ks).one n ≡ code.Fields ts
    → StandsFor ks n (code.Fields ts)
unfolding is_enumeration
fields_for ks n ts e = by_kind (slice_get ks n) refl e
  where
    by_kind : (o : Option Kind) → slice_get ks n ≡ o → one_at (most ks) o n ≡ code.Fields ts
        → slice_get ks n ≡ Some (One (code.Fields ts))
    by_kind (Some (One t)) at h = at ∙ ap (λ (u : code.Form). Some (One u)) h
    by_kind (Some (Row us)) at h = absurd (true≢false (ap is_enumeration h))
    by_kind None at h = absurd (true≢false (ap is_enumeration h))

pub structure_set : (ds : Decls) (before : Forms) (s n : ℕ) (ts : code.Forms) (structures : List (Option ℕ))
    → IsTable ds before → Stands ds before n (code.Fields ts) → form_of ds (ty.Structure s) ≡ code.Fields ts
    → structures ≡ slice_set before.structures s (Some n) → IsTable ds (record before { structures = structures })
structure_set ds before s n ts structures (ks, table) stands is set = (
  ks,
  record { kinds = table.kinds; structures = others; outputs = table.outputs },
)
  where
    here : StandsFor ks n (form_of ds (ty.Structure s))
    here =
        subst (StandsFor ks n) (sym is)
        (fields_for ks n ts (stands (senses_of ks) (senses_exist ds before ks table)))

    others : (r m : ℕ) → slice_get structures r ≡ Some (Some m) → StandsFor ks m (form_of ds (ty.Structure r))
    others r m e = by_place (same_or_not r s) (ap (λ (xs : List (Option ℕ)). slice_get xs r) (sym set) ∙ e)
      where
        by_place : (r ≡ s) ⊎ (r ≡ s → ⊥) → slice_get (slice_set before.structures s (Some n)) r ≡ Some (Some m)
            → StandsFor ks m (form_of ds (ty.Structure r))
        by_place (inr apart) h = table.structures r m (sym (set_there before.structures s r (Some n) apart) ∙ h)
        by_place (inl same) h =
            subst (λ (i : ℕ). StandsFor ks m (form_of ds (ty.Structure i))) (sym same)
            (subst (λ (i : ℕ). StandsFor ks i (form_of ds (ty.Structure s)))
            (some_is n m (set_is before.structures s (Some n) (Some m)
            (ap (slice_get (slice_set before.structures s (Some n))) (sym same) ∙ h))) here)

pub outputs_pushed : (ds : Decls) (before : Forms) (n : ℕ) (ts : code.Forms) (outputs : List ℕ)
    → IsTable ds before → Stands ds before n (code.Fields ts)
    → code.outputs_form ds (length before.outputs) ≡ code.Fields ts
    → outputs ≡ before.outputs ++ n ∷ [] → IsTable ds (record before { outputs = outputs })
outputs_pushed ds before n ts outputs (ks, table) stands is more = (
  ks,
  record { kinds = table.kinds; structures = table.structures; outputs = others },
)
  where
    here : StandsFor ks n (code.outputs_form ds (length before.outputs))
    here =
        subst (StandsFor ks n) (sym is)
        (fields_for ks n ts (stands (senses_of ks) (senses_exist ds before ks table)))

    others : (r m : ℕ) → slice_get outputs r ≡ Some m → StandsFor ks m (code.outputs_form ds r)
    others r m e =
        by_place (get_last before.outputs n r m (ap (λ (xs : List ℕ). slice_get xs r) (sym more) ∙ e))
      where
        by_place : (slice_get before.outputs r ≡ Some m) ⊎ ((r ≡ length before.outputs) × (n ≡ m))
            → StandsFor ks m (code.outputs_form ds r)
        by_place (inl h) = table.outputs r m h
        by_place (inr h) =
            subst (λ (i : ℕ). StandsFor ks m (code.outputs_form ds i)) (sym h.0)
            (subst (λ (i : ℕ). StandsFor ks i (code.outputs_form ds (length before.outputs))) h.1 here)

-- a table without entries
pub empty_table : (ds : Decls) (forms : Forms) (count : ℕ) → forms.kinds.keys ≡ []
    → forms.structures ≡ replicate count None → forms.outputs ≡ [] → IsTable ds forms
empty_table ds forms count keys structures outputs = (
  [],
  record {
    kinds = subst (λ (fs : List Form). AreKinds fs []) (sym keys) empty;
    structures = λ s n e. absurd (none_some n (sym (get_replicate count s None (Some n)
        (ap (λ (xs : List (Option ℕ)). slice_get xs s) (sym structures) ∙ e))));
    outputs = λ s n e. absurd (none_some n (ap (λ (xs : List ℕ). slice_get xs s) (sym outputs) ∙ e));
  },
)
