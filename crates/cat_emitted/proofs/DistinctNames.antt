-- No two fields, cases or inputs of spelled declarations have one name.
use Rattle.std.proofs.Common.{◌≡◌, ℕ, Bool, true, false, true≢false, IsTrue, List, [], ◌∷◌, map, inl, inr}
use Rattle.std.proofs.Common.{refl}
use Rattle.std.proofs.Common.{sym, ap, subst}
use Rattle.std.specs.Prelude.{bytes_eq, if◌then◌else◌}
use Rattle.std.specs.List.{list_all}
use Rattle.std.proofs.lemmas.Slice.Eq.{bytes_eq-Decides}
use Rattle.cat_scope.specs.Names.{AllHave, IsOneOf}
use Rattle.cat_value.specs.declared.declaration.Case.{Case}
use Rattle.cat_value.specs.declared.declaration.Field.{Field}
use Rattle.cat_value.specs.declared.declaration.ItemDecl.{ItemDecl}
use Rattle.cat_value.specs.declared.decls.Decls.{Decls}
use Rattle.cat_value.specs.Inputs.{may_be_given}
use Rattle.cat_json.specs.InputsRead.{given_names}
use Rattle.cat_json.specs.Keys.{field_names, is_among}
use Rattle.cat_json.specs.Names.{are_distinct, case_names, cases_are_distinct, fields_are_distinct}
use Rattle.cat_json.specs.Names.{inputs_are_distinct, names_are_distinct}
use Rattle.cat_emitted.specs.Spelled.{AreApart, AreSpelledDecls, IsSpelledStructure, IsSpelledEnumeration}
use Rattle.cat_emitted.specs.Spelled.{IsSpelledScope}

-- ---- texts apart are distinct

among_one : (ts : List (List ℕ)) (t : List ℕ) → is_among ts t ≡ true → IsOneOf t ts
among_one [] t h = absurd (true≢false (sym h))
among_one (u ∷ us) t h = by (bytes_eq u t) refl h (among_one us t)
  where
    by : (b : Bool) → bytes_eq u t ≡ b → (if b then true else is_among us t) ≡ true
        → (is_among us t ≡ true → IsOneOf t us) → IsOneOf t (u ∷ us)
    by true is more rest = inl (sym ((bytes_eq-Decides u t).0 is))
    by false is more rest = inr (rest more)

not_among : (ts : List (List ℕ)) (t : List ℕ) → (IsOneOf t ts → ⊥) → is_among ts t ≡ false
not_among ts t none = by (is_among ts t) refl
  where
    by : (b : Bool) → is_among ts t ≡ b → b ≡ false
    by true is = absurd (none (among_one ts t is))
    by false is = refl

distinct : (ts : List (List ℕ)) → AreApart ts → IsTrue (are_distinct ts)
distinct [] h = refl
distinct (t ∷ ts) h = rw (not_among ts t h.0) (distinct ts h.1)

-- ---- parts

field_names_are : (fs : List Field) → map (λ (f : Field). f.name) fs ≡ field_names fs
field_names_are [] = refl
field_names_are (f ∷ fs) = ap (λ (ts : List (List ℕ)). f.name ∷ ts) (field_names_are fs)

case_names_are : (cs : List Case) → map (λ (c : Case). c.name) cs ≡ case_names cs
case_names_are [] = refl
case_names_are (c ∷ cs) = ap (λ (ts : List (List ℕ)). c.name ∷ ts) (case_names_are cs)

-- names of which some are left out stay apart
given_one : (is : List ItemDecl) (t : List ℕ) → IsOneOf t (given_names is)
    → IsOneOf t (map (λ (i : ItemDecl). i.name) is)
given_one [] t one = one
given_one (i ∷ is) t one = by (may_be_given i.kind) one (given_one is t)
  where
    by : (b : Bool) → IsOneOf t (if b then i.name ∷ given_names is else given_names is)
        → (IsOneOf t (given_names is) → IsOneOf t (map (λ (x : ItemDecl). x.name) is))
        → IsOneOf t (i.name ∷ map (λ (x : ItemDecl). x.name) is)
    by true (inl same) rest = inl same
    by true (inr more) rest = inr (rest more)
    by false more rest = inr (rest more)

given_apart : (is : List ItemDecl) → AreApart (map (λ (i : ItemDecl). i.name) is) → AreApart (given_names is)
given_apart [] apart = tt
given_apart (i ∷ is) apart = by (may_be_given i.kind) (given_apart is apart.1)
  where
    by : (b : Bool) → AreApart (given_names is) → AreApart (if b then i.name ∷ given_names is else given_names is)
    by true rest = (λ one. apart.0 (given_one is i.name one), rest)
    by false rest = rest

-- ---- declarations

all_true : {A : Type 0} (P : A → Type 0) (test : A → Bool) → ((x : A) → P x → IsTrue (test x)) → (xs : List A)
    → AllHave P xs → IsTrue (list_all test xs)
all_true P test each [] h = refl
all_true P test each (x ∷ xs) h = rw (each x h.0) (all_true P test each xs h.1)

pub names_distinct : (ds : Decls) → AreSpelledDecls ds → IsTrue (names_are_distinct ds)
unfolding names_are_distinct
names_distinct ds spelled =
    rw (
      all_true IsSpelledStructure fields_are_distinct
          (λ s h. distinct (field_names s.fields) (subst AreApart (field_names_are s.fields) h.apart)) ds.structures
          spelled.structures,
      all_true IsSpelledEnumeration cases_are_distinct
          (λ e h. distinct (case_names e.cases) (subst AreApart (case_names_are e.cases) h.apart)) ds.enumerations
          spelled.enumerations,
      all_true IsSpelledScope inputs_are_distinct
          (λ s h. distinct (given_names s.items) (given_apart s.items h.apart)) ds.scopes spelled.scopes,
    ) refl
