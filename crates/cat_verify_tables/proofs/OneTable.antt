-- The words of an image are those of one table, where no line is wrong.
use Rattle.std.proofs.Common.{◌≡◌, ◌+◌, ℕ, zero, suc, List, [], ◌∷◌, ◌++◌, length, map, take, Some, None}
use Rattle.std.proofs.Common.{slice_get, inl, inr, refl, sym, ap, ◌∙◌, subst, append-nil, arith}
use Rattle.std.specs.Prelude.{flat_map, nat_le}
use Rattle.std.proofs.lemmas.Bool.{and_parts}
use Rattle.std.proofs.lemmas.List.{append_assoc}
use Rattle.cat_pos.specs.declared.pos.Pos.{Pos}
use Rattle.cat_scope.specs.Names.{AllHave, IsOneOf}
use Rattle.cat_value.specs.declared.ty.Ty.{Ty}
use Rattle.cat_value.specs.declared.value.Value.{Value}
use Rattle.cat_value.specs.declared.declaration.ItemDecl.{ItemDecl}
use Rattle.cat_value.specs.declared.declaration.Scope.{Scope}
use Rattle.cat_value.specs.declared.decls.Decls.{Decls}
use Rattle.cat_value.specs.declared.outcome.Target.{Target}
use Rattle.cat_value.specs.Declarations.{highest, is_declared}
use Rattle.cat_value.specs.Heights.{height_to}
use Rattle.cat_json.specs.InputsRead.{value_read}
use Rattle.cat_code.specs.declared.code.CasePlace.{CasePlace}
use Rattle.cat_code.specs.declared.code.Constant.{Constant}
use Rattle.cat_code.specs.declared.code.TargetEntry.{TargetEntry}
use Rattle.cat_code.specs.declared.code.Tables.{Tables}
use Rattle.cat_code.specs.Places as places
use Rattle.cat_answer.specs.Answer.{target_text}
use Rattle.cat_image.specs.declared.tables.ImageConstant.{ImageConstant}
use Rattle.cat_image.specs.declared.tables.ImageItem.{ImageItem}
use Rattle.cat_image.specs.declared.tables.ImageScope.{ImageScope}
use Rattle.cat_image.specs.declared.tables.ImageTarget.{ImageTarget}
use Rattle.cat_image.specs.declared.tables.ImageTables.{ImageTables}
use Rattle.cat_image.specs.Words.{Text}
use Rattle.cat_image.specs.Listed.{item_words, pos_words, scopes_words, target_words}
use Rattle.cat_image.specs.Rows.{scope_rows}
use Rattle.cat_image.specs.inside.Reads.{cut}
use Rattle.cat_verify_tables.specs.TableWords.{AreConstantsOf, AreTablesOf, IsConstantOf}
use Rattle.cat_verify_tables.specs.TypeWords.{IsPartName, IsTypeName}
use Rattle.cat_verify_tables.specs.RowFronts.{Open}
use Rattle.cat_verify_tables.specs.WrongParts.{HasItem, IsWrongName, NamesVariable}
use Rattle.cat_verify_tables.specs.WrongParts as wrong
use Rattle.cat_verify_tables.specs.WrongTables.{IsBadTable}
use Rattle.cat_verify_tables.specs.inside.Causes.{lines_in}
use Rattle.cat_verify_tables.specs.inside.DeclaredWords.{enumeration_name, scope_name, structure_name, structures_named}
use Rattle.cat_verify_tables.specs.inside.Entries.{AreRight}
use Rattle.cat_verify_tables.specs.inside.NamedWords.{IsWrongHeader, case_count, field_count, item_count}
use Rattle.cat_verify_tables.proofs.ApartLemmas.{AreRightNames, names_apart, once, spelled_names}
use Rattle.cat_verify_tables.proofs.BadLemmas.{enumeration_name_bad, enumerations, files, first, second}
use Rattle.cat_verify_tables.proofs.BadLemmas.{structure_name_bad}
use Rattle.cat_verify_tables.proofs.BadLemmas.{structures}
use Rattle.cat_verify_tables.proofs.BadScopes.{item_bad, scope_name_bad, third}
use Rattle.cat_verify_tables.proofs.FrontLemmas.{open_scope}
use Rattle.cat_verify_tables.proofs.MadeLemmas.{Apart, index_of, named_at}
use Rattle.cat_verify_tables.proofs.OneTarget.{HavePlainNames, IsNamedPlace, no_empty_part, of_inner, of_own}
use Rattle.cat_verify_tables.proofs.OneTarget.{one_target}
use Rattle.cat_verify_tables.proofs.PlainLemmas.{part_no_dot, type_no_dot}
use Rattle.cat_verify_tables.proofs.SameItems.{pos_one}
use Rattle.cat_verify_tables.proofs.SameParts.{type_one, words_one}
use Rattle.cat_verify_tables.proofs.SameScopes.{AreOnce, same_decls, same_scopes}
use Rattle.cat_verify_tables.proofs.TailFaults.{target_bad, targets_at}
use Rattle.cat_verify_tables.proofs.TargetLemmas.{item_name}

-- ---- entries without a fault

all_right : {A : Type 0} (Fault : List A → A → Type 0) (front xs : List A)
    → ((k : ℕ) (x : A) → slice_get xs k ≡ Some x → Fault (front ++ take k xs) x → ⊥) → AreRight Fault front xs
all_right Fault front [] each = tt
all_right Fault front (x ∷ xs) each = (
  λ fault. each 0 x refl (subst (λ ys. Fault ys x) (sym (append-nil front)) fault),
  all_right Fault (front ++ x ∷ []) xs (λ k y at fault. each (suc k) y at
      (subst (λ ys. Fault ys y) (append_assoc front (x ∷ []) (take k xs)) fault)),
)

all_of : {A : Type 0} (P : A → Type 0) (xs : List A) → ((x : A) → IsOneOf x xs → P x) → AllHave P xs
all_of P [] each = tt
all_of P (x ∷ xs) each = (each x (inl refl), all_of P xs (λ y one. each y (inr one)))

pub all_mapped : {A B : Type 0} (P : B → Type 0) (f : A → B) (xs : List A) → AllHave P (map f xs)
    → AllHave (λ x. P (f x)) xs
all_mapped P f [] all = tt
all_mapped P f (x ∷ xs) all = (all.0, all_mapped P f xs all.1)

-- ---- scopes by their words

record HasScopeAt (ds : Decls) (lines : List ImageScope) (k : ℕ) (s : Scope) : Type 0 where
  pub line : ImageScope
  pub at : slice_get lines k ≡ Some line
  pub name : line.name ≡ s.name
  pub items : line.items ≡ map (item_words ds) s.items

scope_words_at : (ds : Decls) (ss : List Scope) (entries : List ℕ) → length entries ≡ length ss → (k : ℕ) (s : Scope)
    → slice_get ss k ≡ Some s → HasScopeAt ds (scopes_words ds ss entries) k s
scope_words_at ds [] entries each k s at = absurd (cc at)
scope_words_at ds (r ∷ ss) [] each k s at = absurd (cc each)
scope_words_at ds (r ∷ ss) (entry ∷ entries) each zero s at =
    let same : r ≡ s = cc at in record {
      line = record { name = r.name; entry = entry; items = map (item_words ds) r.items };
      at = refl;
      name = ap (λ (x : Scope). x.name) same;
      items = ap (λ (x : Scope). map (item_words ds) x.items) same;
    }
scope_words_at ds (r ∷ ss) (entry ∷ entries) each (suc k) s at =
    let rest = scope_words_at ds ss entries (omega (arith, each)) k s at in
    record { line = rest.line; at = rest.at; name = rest.name; items = rest.items }

module _ (image : ImageTables) (right : (n : ℕ) → IsBadTable image n → ⊥) where
  structures_right : AreRight (IsWrongHeader structure_name []) [] image.structures
  structures_right = all_right (IsWrongHeader structure_name []) [] image.structures (λ k s at fault.
      right (first image + lines_in field_count (take k image.structures)) (structure_name_bad image
      (first image + lines_in field_count (take k image.structures))
      (record { index = k; entry = s; at = at; fault = (refl, fault) })))

  enumerations_right : AreRight (IsWrongHeader enumeration_name (structures_named image)) [] image.enumerations
  enumerations_right = all_right (IsWrongHeader enumeration_name (structures_named image)) [] image.enumerations
      (λ k e at fault. right (second image + lines_in case_count (take k image.enumerations))
      (enumeration_name_bad image (second image + lines_in case_count (take k image.enumerations))
      (record { index = k; entry = e; at = at; fault = (refl, fault) })))

  scopes_right : AreRight (IsWrongHeader scope_name []) [] image.scopes
  scopes_right = all_right (IsWrongHeader scope_name []) [] image.scopes (λ k s at fault.
      right (third image + lines_in item_count (take k image.scopes)) (scope_name_bad image
      (third image + lines_in item_count (take k image.scopes))
      (record { index = k; entry = s; at = at; fault = (refl, fault) })))

  items_right : (k : ℕ) (s : ImageScope) → slice_get image.scopes k ≡ Some s
      → AreRightNames IsPartName item_name [] s.items
  items_right k s at = all_right (λ front x. IsWrongName IsPartName (map item_name front) x.name) [] s.items
      (λ i x there fault. right (third image + lines_in item_count (take k image.scopes) + 1 + i)
      (item_bad image k s i x at there (wrong.name (subst (λ (o : Open). IsWrongName IsPartName o.parts x.name)
      (sym (open_scope (files image ++ structures image ++ enumerations image
      ++ flat_map scope_rows (take k image.scopes)) s.name s.entry (take i s.items))) fault))))

  apart : Apart image
  apart = names_apart image structures_right enumerations_right

  scope_once : AreOnce (map scope_name image.scopes)
  scope_once = once IsTypeName scope_name [] image.scopes scopes_right

  -- ---- names of scopes and items

  scope_plain : (k : ℕ) (s : ImageScope) → slice_get image.scopes k ≡ Some s → cut 46 s.name ≡ None
  scope_plain k s at = type_no_dot s.name
      (spelled_names IsTypeName scope_name [] image.scopes scopes_right k s.name
      (named_at scope_name image.scopes k s at))

  item_spelled : (k : ℕ) (s : ImageScope) → slice_get image.scopes k ≡ Some s → (i : ℕ) (x : ImageItem)
      → slice_get s.items i ≡ Some x → (IsPartName x.name → ⊥) → ⊥
  item_spelled k s at i x there = spelled_names IsPartName item_name [] s.items (items_right k s at) i x.name
      (named_at item_name s.items i x there)

  item_plain : (k : ℕ) (s : ImageScope) → slice_get image.scopes k ≡ Some s → (i : ℕ) (x : ImageItem)
      → slice_get s.items i ≡ Some x → cut 46 x.name ≡ None
  item_plain k s at i x there = part_no_dot x.name (item_spelled k s at i x there)

  -- what an item of an image is called
  record HasPlainName (scope : Text) (x : ImageItem) : Type 0 where
    pub scope_none : cut 46 scope ≡ None
    pub none : cut 46 x.name ≡ None
    pub some : x.name ≡ [] → ⊥

  plain_name : (scope : Text) (x : ImageItem) → HasItem image scope x → HasPlainName scope x
  plain_name scope x has =
      let s = index_of has.declared image.scopes has.is_declared in
      let i = index_of x has.declared.items has.is_item in record {
        scope_none = ap (cut 46) (sym has.name) ∙ scope_plain s.0 has.declared s.1;
        none = item_plain s.0 has.declared s.1 i.0 x i.1;
        some = λ empty. item_spelled s.0 has.declared s.1 i.0 x i.1 (λ part. no_empty_part x.name part empty);
      }

  named_place : (place : Text) → NamesVariable image place → IsNamedPlace place
  named_place place (wrong.own {scope} {i} has other) =
      let it = plain_name scope i has in of_own scope i.name it.scope_none it.none it.some
  named_place place (wrong.inner {scope} {i} {j} has called inside other) =
      let it = plain_name scope i has in
      let one = plain_name i.what j inside in of_inner scope i.name j.name it.scope_none it.none one.some

  targets_named : AllHave (λ (t : ImageTarget). (IsNamedPlace t.place → ⊥) → ⊥) image.targets
  targets_named = all_of (λ (t : ImageTarget). (IsNamedPlace t.place → ⊥) → ⊥) image.targets (λ t one none.
      let there = index_of t image.targets one in
      right (targets_at image + there.0) (target_bad image (targets_at image + there.0) (record {
        index = there.0;
        entry = t;
        at = there.1;
        line_is = refl;
        fault = inr (λ named. none (named_place t.place named));
      })))

  -- ---- declarations with these words

  module _ (ds : Decls) (entries : List ℕ) (are : image.scopes ≡ scopes_words ds ds.scopes entries)
      (each : length entries ≡ length ds.scopes) where
    line_at : (k : ℕ) (s : Scope) → slice_get ds.scopes k ≡ Some s → HasScopeAt ds image.scopes k s
    line_at k s at = subst (λ (lines : List ImageScope). HasScopeAt ds lines k s) (sym are)
        (scope_words_at ds ds.scopes entries each k s at)

    name_is : (k : ℕ) (s : Scope) → slice_get ds.scopes k ≡ Some s
        → slice_get (map scope_name image.scopes) k ≡ Some s.name
    name_is k s at =
        let l = line_at k s at in named_at scope_name image.scopes k l.line l.at ∙ ap Some l.name

    item_at : (k : ℕ) (s : Scope) (at : slice_get ds.scopes k ≡ Some s) (i : ℕ) (x : ItemDecl)
        → slice_get s.items i ≡ Some x → slice_get (line_at k s at).line.items i ≡ Some (item_words ds x)
    item_at k s at i x there = ap (λ (ls : List ImageItem). slice_get ls i) (line_at k s at).items ∙ by s.items i there
      where
        by : (xs : List ItemDecl) (n : ℕ) → slice_get xs n ≡ Some x
            → slice_get (map (item_words ds) xs) n ≡ Some (item_words ds x)
        by [] n there = absurd (cc there)
        by (y ∷ xs) zero there = let same : y ≡ x = cc there in ap (λ z. Some (item_words ds z)) same
        by (y ∷ xs) (suc n) there = by xs n there

    plain_names : HavePlainNames ds
    plain_names = record {
      scope_once = λ i j s r one other same. scope_once i j r.name (name_is i s one ∙ ap Some same) (name_is j r other);
      scope_plain = λ k s at.
          let l = line_at k s at in ap (cut 46) (sym l.name) ∙ scope_plain k l.line l.at;
      item_once = λ k s at i j x y one other same.
          let l = line_at k s at in
          once IsPartName item_name [] l.line.items (items_right k l.line l.at) i j y.name
          (named_at item_name l.line.items i (item_words ds x) (item_at k s at i x one) ∙ ap Some same)
          (named_at item_name l.line.items j (item_words ds y) (item_at k s at j y other));
      item_plain = λ k s at i x there.
          let l = line_at k s at in item_plain k l.line l.at i (item_words ds x) (item_at k s at i x there);
    }

    entry_one : (x y : TargetEntry) → ((IsNamedPlace (target_text ds x.target) → ⊥) → ⊥)
        → target_words ds x ≡ target_words ds y → x ≡ y
    entry_one x y named same =
        ap (λ (t : Target). record x { target = t })
        (one_target ds plain_names x.target y.target named (ap (λ (l : ImageTarget). l.place) same))
        ∙ ap (λ (p : Pos). record y { pos = p }) (pos_one x.pos y.pos (ap (λ (l : ImageTarget). l.pos) same))

    targets_one : (xs ys : List TargetEntry) → image.targets ≡ map (target_words ds) xs
        → image.targets ≡ map (target_words ds) ys → xs ≡ ys
    targets_one xs ys one other = words_one (target_words ds) (target_words ds)
        (λ entry. (IsNamedPlace (target_text ds entry.target) → ⊥) → ⊥) entry_one xs ys
        (all_mapped (λ (t : ImageTarget). (IsNamedPlace t.place → ⊥) → ⊥) (target_words ds) xs
        (subst (AllHave (λ (t : ImageTarget). (IsNamedPlace t.place → ⊥) → ⊥)) one targets_named)) (sym one ∙ other)

  -- ---- tables

  positions_one : (xs ys : List Pos) → map pos_words xs ≡ map pos_words ys → xs ≡ ys
  positions_one xs ys = words_one pos_words pos_words (λ p. Unit {0}) (λ p q trivial same. pos_one p q same) xs ys
      (all_of (λ p. Unit {0}) xs (λ p one. tt))

  module _ (t u : Tables) (are : AreTablesOf image t) (also : AreTablesOf image u) where
    decls_one : t.decls ≡ u.decls
    decls_one = same_decls image apart t.decls u.decls are.structures are.enumerations also.structures
        also.enumerations t.scopes u.scopes are.scopes also.scopes are.one_entry_each also.one_entry_each scope_once
        are.items also.items

    entries_one : t.scopes ≡ u.scopes
    entries_one = (same_scopes image apart t.decls u.decls are.structures are.enumerations also.structures
        also.enumerations t.scopes u.scopes are.scopes also.scopes are.one_entry_each also.one_entry_each scope_once
        are.items also.items).1

    constant_one : (w : ImageConstant) (c d : Constant) → IsConstantOf t.decls w c → IsConstantOf t.decls w d → c ≡ d
    constant_one w c d one other =
        let declared = (and_parts (is_declared t.decls.structures t.decls.enumerations c.ty)
        (nat_le (height_to t.decls.structures t.decls.enumerations highest c.ty) highest) one.low).0 in
        let ty : c.ty ≡ d.ty = type_one image apart t.decls t.decls are.structures are.enumerations are.structures
        are.enumerations c.ty d.ty declared (sym one.ty ∙ other.ty) in
        let read = sym one.value ∙ ap (λ (v : Ty). value_read t.decls v w.value) ty ∙ other.value in
        let value : c.value ≡ d.value = cc read in
        ap (λ (v : Ty). record c { ty = v }) ty ∙ ap (λ (v : Value). record d { value = v }) value

    constants_one : (ws : List ImageConstant) (cs es : List Constant) → AreConstantsOf t.decls ws cs
        → AreConstantsOf t.decls ws es → cs ≡ es
    constants_one [] [] [] one other = refl
    constants_one [] [] (e ∷ es) one other = absurd other
    constants_one [] (c ∷ cs) es one other = absurd one
    constants_one (w ∷ ws) [] es one other = absurd one
    constants_one (w ∷ ws) (c ∷ cs) [] one other = absurd other
    constants_one (w ∷ ws) (c ∷ cs) (e ∷ es) one other =
        ap (λ (x : Constant). x ∷ cs) (constant_one w c e one.0 other.0)
        ∙ ap (λ (xs : List Constant). e ∷ xs) (constants_one ws cs es one.1 other.1)

    pub one_table : t ≡ u
    one_table =
        let targets = targets_one t.decls t.scopes are.scopes are.one_entry_each t.targets u.targets are.targets
        (subst (λ (ds : Decls). image.targets ≡ map (target_words ds) u.targets) (sym decls_one) also.targets) in
        let constants = constants_one image.constants t.constants u.constants are.constants
        (subst (λ (ds : Decls). AreConstantsOf ds image.constants u.constants) (sym decls_one) also.constants) in
        let cases = are.cases
        ∙ ap (λ (ds : Decls). places.case_places 0 ds.enumerations) decls_one ∙ sym also.cases in
        let definitions = positions_one t.definitions u.definitions (sym are.definitions ∙ also.definitions) in
        let positions = positions_one t.positions u.positions (sym are.positions ∙ also.positions) in
        let functions = sym are.functions ∙ also.functions in
        ap (λ (x : Decls). record t { decls = x }) decls_one
        ∙ ap (λ (x : List CasePlace). record t { decls = u.decls; cases = x }) cases
        ∙ ap (λ (x : List ℕ). record t { decls = u.decls; cases = u.cases; scopes = x }) entries_one
        ∙ ap (λ (x : List TargetEntry). record t { decls = u.decls; cases = u.cases; scopes = u.scopes; targets = x })
        targets
        ∙ ap (λ (x : List Pos). record u {
          definitions = x;
          functions = t.functions;
          positions = t.positions;
          constants = t.constants;
        }) definitions
        ∙ ap (λ (x : List ℕ). record u { functions = x; positions = t.positions; constants = t.constants }) functions
        ∙ ap (λ (x : List Pos). record u { positions = x; constants = t.constants }) positions
        ∙ ap (λ (x : List Constant). record u { constants = x }) constants
