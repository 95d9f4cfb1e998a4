-- Names in a table.
use Rattle.std.proofs.Common.{◌≡◌, ◌<◌, ◌+◌, ℕ, Bool, true, false, not, cond, List, [], ◌∷◌, ◌++◌, length, take}
use Rattle.std.proofs.Common.{map}
use Rattle.std.proofs.Common.{get_or, Some, bytes_eq, refl, sym, ap, ◌∙◌, subst, arith, true≢false}
use Rattle.std.proofs.Common.{inl, inr}
use Rattle.std.specs.Prelude.{if◌then◌else◌}
use Rattle.std.specs.Option.{is_some}
use Rattle.std.specs.Bool.{MatchBool}
use Rattle.std.proofs.lemmas.List.{append_assoc, length-map, length-take-le}
use Rattle.std.proofs.lemmas.Slice.Eq.{bytes_eq-Decides}
use Rattle.cat_scope.specs.Names.{IsOneOf}
use Rattle.cat_check_names.specs.Table.{Table, number_in, with_name}
use Rattle.cat_image.specs.Words.{Text}
use Rattle.cat_verify_tables.specs.WrongParts.{IsWrongName}
use Rattle.cat_verify_tables.specs.inside.NamedWords.{names_in, numbered}
use Rattle.cat_verify_tables.proofs.EntryLemmas.{map_more}

-- a name that is new
pub added : (table new : Table) (w : Text) (n : ℕ) → new ≡ with_name table w n
    → not (is_some (number_in table w)) ≡ true → new ≡ table ++ (w, n) ∷ []
added table new w n is fresh = by (is_some (number_in table w)) refl is
  where
    by : (b : Bool) → is_some (number_in table w) ≡ b → new ≡ with_name table w n → new ≡ table ++ (w, n) ∷ []
    by true h is = absurd (true≢false (sym fresh ∙ ap not h))
    by false h is = is ∙ ap (λ (b : Bool). if b then table else table ++ (w, n) ∷ []) h

same_bytes : (xs ys : Text) → bytes_eq xs ys ≡ true → xs ≡ ys
same_bytes xs ys h = (bytes_eq-Decides xs ys).0 h

pub not_one_of : (table : Table) (w : Text) → is_some (number_in table w) ≡ false → IsOneOf w (names_in table) → ⊥
not_one_of [] w h one = one
not_one_of (e ∷ table) w h one = by (not_one_of table w) (bytes_eq w e.0) refl h one
  where
    by : (is_some (number_in table w) ≡ false → IsOneOf w (names_in table) → ⊥) → (b : Bool) → bytes_eq w e.0 ≡ b
        → is_some (cond b (Some e.1) (number_in table w)) ≡ false → IsOneOf w (names_in (e ∷ table)) → ⊥
    by rest true t h one = true≢false h
    by rest false t h (inl same) = true≢false (sym ((bytes_eq-Decides w e.0).1 same) ∙ t)
    by rest false t h (inr more) = rest h more

pub one_of : (table : Table) (w : Text) → is_some (number_in table w) ≡ true → IsOneOf w (names_in table)
one_of [] w h = true≢false (sym h)
one_of (e ∷ table) w h = by (one_of table w) (bytes_eq w e.0) refl h
  where
    by : (is_some (number_in table w) ≡ true → IsOneOf w (names_in table)) → (b : Bool) → bytes_eq w e.0 ≡ b
        → is_some (cond b (Some e.1) (number_in table w)) ≡ true → IsOneOf w (names_in (e ∷ table))
    by rest true t h = inl (same_bytes w e.0 t)
    by rest false t h = inr (rest h)

-- a name that is spelled so, and is new
pub right_name : (Spelled : Text → Type 0) (names : List Text) (name : Text) → Spelled name
    → (IsOneOf name names → ⊥) → IsWrongName Spelled names name → ⊥
right_name Spelled names name spelled fresh (inl there) = fresh there
right_name Spelled names name spelled fresh (inr other) = other spelled

pub names_push : (table : Table) (w : Text) (n : ℕ) → names_in (table ++ (w, n) ∷ []) ≡ names_in table ++ w ∷ []
names_push [] w n = refl
names_push (e ∷ table) w n = ap (λ (ns : List Text). e.0 ∷ ns) (names_push table w n)

numbered_push : (k : ℕ) (ns : List Text) (n : Text)
    → numbered k (ns ++ n ∷ []) ≡ numbered k ns ++ (n, k + length ns) ∷ []
numbered_push k [] n = ap (λ (m : ℕ). (n, m) ∷ []) (omega arith)
numbered_push k (m ∷ ns) n =
    ap (λ (t : Table). (m, k) ∷ t) (numbered_push (k + 1) ns n
    ∙ ap (λ (l : ℕ). numbered (k + 1) ns ++ (n, l) ∷ []) (omega arith))

-- what a test tells
pub passed : (P Q : Type 0) (b : Bool) → MatchBool b P Q → b ≡ true → P
passed P Q true told h = told
passed P Q false told h = absurd (true≢false (sym h))

pub failed : (P Q : Type 0) (b : Bool) → MatchBool b P Q → b ≡ false → Q
failed P Q true told h = absurd (true≢false h)
failed P Q false told h = told

pub names_append : (one other : Table) → names_in (one ++ other) ≡ names_in one ++ names_in other
names_append [] other = refl
names_append (e ∷ one) other = ap (λ (ns : List Text). e.0 ∷ ns) (names_append one other)

pub names_back : (k : ℕ) (ns : List Text) → names_in (numbered k ns) ≡ ns
names_back k [] = refl
names_back k (n ∷ ns) = ap (λ (ms : List Text). n ∷ ms) (names_back (k + 1) ns)

-- the names of a table to which numbered ones were added
pub names_numbered : (old new : Table) (k : ℕ) (ns : List Text) → new ≡ old ++ numbered k ns
    → names_in new ≡ names_in old ++ ns
names_numbered old new k ns is =
    ap names_in is ∙ names_append old (numbered k ns) ∙ ap (λ ms. names_in old ++ ms) (names_back k ns)

-- one name more
pub numbered_more : {A : Type 0} (name_of : A → Text) (from : ℕ) (xs : List A) (i : ℕ) (x : A) (old now new : Table)
    (name : Text) (number : ℕ) → i < length xs → get_or xs i x ≡ x
    → now ≡ old ++ numbered from (map name_of (take i xs)) → name ≡ name_of x → number ≡ from + i
    → new ≡ now ++ (name, number) ∷ [] → new ≡ old ++ numbered from (map name_of (take (i + 1) xs))
numbered_more name_of from xs i x old now new name number within is before named counted pushed =
    let ns = map name_of (take i xs) in
    let many : length ns ≡ i = length-map (take i xs) name_of ∙ length-take-le i xs (omega (arith, within)) in
    let number_is : number ≡ from + length ns = omega (arith, counted, many) in
    pushed ∙ ap (λ (t : Table). t ++ (name, number) ∷ []) before
    ∙ append_assoc old (numbered from ns) ((name, number) ∷ [])
    ∙ ap (λ (t : Table). old ++ t)
    (ap (λ (m : Text). numbered from ns ++ (m, number) ∷ []) named
    ∙ ap (λ (n : ℕ). numbered from ns ++ (name_of x, n) ∷ []) number_is
    ∙ sym (numbered_push from ns (name_of x))
    ∙ ap (numbered from) (sym (map_more name_of xs i x within is)))

-- the same of equal names
pub wrong_moved : (Spelled : Text → Type 0) (names others : List Text) (name other : Text) → names ≡ others
    → name ≡ other → IsWrongName Spelled names name → IsWrongName Spelled others other
wrong_moved Spelled names others name other same called wrong =
    subst (λ (w : Text). IsWrongName Spelled others w) called
    (subst (λ (ns : List Text). IsWrongName Spelled ns name) same wrong)
