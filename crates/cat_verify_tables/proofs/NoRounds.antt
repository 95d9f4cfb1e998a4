-- No part leads back to what it is a part of where structures and enumerations have an order.
use Rattle.std.proofs.Common.{◌≡◌, ◌≤◌, ◌+◌, ◌||◌, ℕ, zero, suc, nat_lt, Bool, true, false, IsTrue, List}
use Rattle.std.proofs.Common.{[]}
use Rattle.std.proofs.Common.{◌∷◌, ◌++◌, length, map, Option, Some, None, slice_get, inl, inr, refl, sym, ap, ◌∙◌}
use Rattle.std.proofs.Common.{subst}
use Rattle.std.proofs.Common.{arith, drop, ◌-◌}
use Rattle.std.specs.Prelude.{codes}
use Rattle.std.proofs.lemmas.Bool.Decides.{nat_tests}
use Rattle.std.proofs.lemmas.List.{length-map}
use Rattle.cat_order.specs.Order.{is_listed}
use Rattle.cat_order.specs.Cycle.{DependsOn, IsOnCycle}
use Rattle.cat_value.specs.declared.ty.Ty.{Ty}
use Rattle.cat_value.specs.declared.declaration.Field.{Field}
use Rattle.cat_value.specs.declared.declaration.Structure.{Structure}
use Rattle.cat_value.specs.declared.declaration.Case.{Case}
use Rattle.cat_value.specs.declared.declaration.Enumeration.{Enumeration}
use Rattle.cat_value.specs.Dependencies.{named_by, named_by_fields, named_by_content, named_by_cases, type_dependencies}
use Rattle.cat_image.specs.declared.tables.ImageTables.{ImageTables}
use Rattle.cat_image.specs.Words.{Text}
use Rattle.cat_depend.specs.CycleWays.{LeadsTo}
use Rattle.cat_verify_tables.specs.declared.types.TypeNames.{TypeNames}
use Rattle.cat_verify_tables.specs.TypeWords.{HasPart, IsBase, IsMadeOf}
use Rattle.cat_verify_tables.specs.TypeWords as words
use Rattle.cat_verify_tables.specs.WrongParts.{ClosesCycle}
use Rattle.cat_verify_tables.specs.inside.Entries.{AreTold}
use Rattle.cat_verify_tables.specs.inside.DeclaredWords.{structure_name, enumeration_name, structures_named}
use Rattle.cat_verify_tables.specs.inside.DeclaredWords.{enumerations_named}
use Rattle.cat_verify_tables.specs.inside.PartWords.{Spells, IsFieldOf, field_names, IsStructureOf, IsContentOf}
use Rattle.cat_verify_tables.specs.inside.PartWords.{IsCaseOf, case_names, IsEnumerationOf}
use Rattle.cat_verify_tables.proofs.DeclaringLemmas.{told_many}
use Rattle.cat_verify_tables.proofs.KnownLemmas.{flat_there, no_flat_list, no_flat_name, no_named_list}
use Rattle.cat_depend.proofs.Listing.{listed_both}
use Rattle.cat_verify_tables.proofs.MadeLemmas.{Apart, IsNamed, plain, structure, enumeration, list, index_of, named_at}
use Rattle.cat_verify_tables.proofs.MadeLemmas.{named_of_spelled, told_for}
use Rattle.cat_verify_tables.proofs.NumberLemmas.{AreNumbered, at_behind, at_front}
use Rattle.cat_verify_tables.proofs.OrderLemmas.{index_at, index_behind, index_front, names_List, names_Structure}
use Rattle.cat_verify_tables.proofs.OrderLemmas.{names_Enumeration}
use Rattle.cat_verify_tables.proofs.RoundLemmas.{at_one, at_other}

-- ---- what parts name

listed_first : (xs ys : List ℕ) (n : ℕ) → IsTrue (is_listed xs n) → IsTrue (is_listed (xs ++ ys) n)
listed_first xs ys n h = listed_both xs ys n ∙ ap (λ (b : Bool). b || is_listed ys n) h

listed_second : (xs ys : List ℕ) (n : ℕ) → IsTrue (is_listed ys n) → IsTrue (is_listed (xs ++ ys) n)
listed_second xs ys n h = listed_both xs ys n ∙ ap (λ (b : Bool). is_listed xs n || b) h ∙ either (is_listed xs n)
  where
    either : (b : Bool) → (b || true) ≡ true
    either true = refl
    either false = refl

field_listed : (s : ℕ) (fs : List Field) (i : ℕ) (f : Field) (n : ℕ) → slice_get fs i ≡ Some f
    → IsTrue (is_listed (named_by s f.ty) n) → IsTrue (is_listed (named_by_fields s fs) n)
field_listed s [] i f n at h = absurd (cc at)
field_listed s (g ∷ fs) zero f n at h = let same : g ≡ f = cc at in
    listed_first (named_by s g.ty) (named_by_fields s fs) n
    (subst (λ (x : Field). IsTrue (is_listed (named_by s x.ty) n)) (sym same) h)
field_listed s (g ∷ fs) (suc i) f n at h =
    listed_second (named_by s g.ty) (named_by_fields s fs) n (field_listed s fs i f n at h)

content_listed : (s : ℕ) (cs : List Case) (i : ℕ) (c : Case) (t : Ty) (n : ℕ) → slice_get cs i ≡ Some c
    → c.content ≡ Some t → IsTrue (is_listed (named_by s t) n) → IsTrue (is_listed (named_by_cases s cs) n)
content_listed s [] i c t n at is h = absurd (cc at)
content_listed s (d ∷ cs) zero c t n at is h = let same : d ≡ c = cc at in
    listed_first (named_by_content s d.content) (named_by_cases s cs) n
    (ap (λ (x : Case). is_listed (named_by_content s x.content) n) same
    ∙ ap (λ o. is_listed (named_by_content s o) n) is ∙ h)
content_listed s (d ∷ cs) (suc i) c t n at is h =
    listed_second (named_by_content s d.content) (named_by_cases s cs) n (content_listed s cs i c t n at is h)

module _ (tables : ImageTables) (types : TypeNames) (ss : List Structure) (es : List Enumeration)
    (are : AreNumbered types (structures_named tables) (enumerations_named tables))
    (structures_told : AreTold (λ _. IsStructureOf types) [] tables.structures ss)
    (enumerations_told : AreTold (λ _. IsEnumerationOf types) [] tables.enumerations es) (apart : Apart tables) where
  abbrev S : List Text
  S = structures_named tables

  abbrev E : List Text
  E = enumerations_named tables

  abbrev deps : List (List ℕ)
  deps = type_dependencies ss es

  structures_many : length ss ≡ length S
  structures_many =
      told_many (λ _. IsStructureOf types) [] tables.structures ss structures_told
      ∙ sym (length-map tables.structures structure_name)

  -- the number of a structure's name, and of an enumeration's
  one_number : (k b : ℕ) (w : Text) → slice_get S k ≡ Some w → slice_get (S ++ E) b ≡ Some w → b ≡ k
  one_number k b w own at = by (nat_lt b (length S)) refl
    where
      by : (less : Bool) → nat_lt b (length S) ≡ less → b ≡ k
      by true test = apart.structures b k w (at_front S E b w at (grind (arith, nat_tests, test))) own
      by false test = absurd (apart.both k (b - length S) w own (at_behind S E b w at (grind (arith, nat_tests, test))))

  other_number : (k b : ℕ) (w : Text) → slice_get E k ≡ Some w → slice_get (S ++ E) b ≡ Some w → b ≡ length S + k
  other_number k b w own at = by (nat_lt b (length S)) refl
    where
      by : (less : Bool) → nat_lt b (length S) ≡ less → b ≡ length S + k
      by true test = absurd (apart.both b k w (at_front S E b w at (grind (arith, nat_tests, test))) own)
      by false test =
          let same = apart.enumerations (b - length S) k w
          (at_behind S E b w at (grind (arith, nat_tests, test))) own in
          grind (arith, nat_tests, test, same)

  same_number : (a b : ℕ) (w : Text) → slice_get (S ++ E) a ≡ Some w → slice_get (S ++ E) b ≡ Some w → a ≡ b
  same_number a b w one other = by (nat_lt b (length S)) refl
    where
      by : (less : Bool) → nat_lt b (length S) ≡ less → a ≡ b
      by true test = one_number b a w (at_front S E b w other (grind (arith, nat_tests, test))) one
      by false test =
          let past : length S ≤ b = grind (arith, nat_tests, test) in
          let same = other_number (b - length S) a w (at_behind S E b w other past) one in
          omega (arith, same, past)

  -- a name is spelled as it has to be
  spelled_name : (b : ℕ) (w : Text) → slice_get (S ++ E) b ≡ Some w → (words.IsTypeName w → ⊥) → ⊥
  spelled_name b w at = by (nat_lt b (length S)) refl
    where
      by : (less : Bool) → nat_lt b (length S) ≡ less → (words.IsTypeName w → ⊥) → ⊥
      by true test = apart.spelled_structures b w (at_front S E b w at (grind (arith, nat_tests, test)))
      by false test =
          apart.spelled_enumerations (b - length S) w (at_behind S E b w at (grind (arith, nat_tests, test)))

  no_list_name : (b : ℕ) (w rest : Text) → slice_get (S ++ E) b ≡ Some w → w ≡ codes "list of " ++ rest → ⊥
  no_list_name b w rest at is = spelled_name b w at (λ typed. no_named_list w rest typed is)

  -- a type names the base of its text, where that is declared
  base_listed : (w : Text) (t : Ty) → IsNamed S E w t → (v base : Text) → v ≡ w → IsBase v base → (b : ℕ)
      → slice_get (S ++ E) b ≡ Some base → IsTrue (is_listed (named_by (length ss) t) b)
  base_listed w t (plain x u is) v base same words.itself b at = absurd (spelled_name b v at
      (λ typed. no_flat_name x u is (subst words.IsTypeName same typed)))
  base_listed w t (plain x u is) v base same (words.list {text} more) b at =
      absurd (no_flat_list x text (flat_there x u is) (sym same))
  base_listed w t (structure x k own) v base same words.itself b at =
      let number = one_number k b v (own ∙ ap Some (sym same)) at in
      names_Structure (length ss) b k ∙ grind (arith, nat_tests, number)
  base_listed w t (structure x k own) v base same (words.list {text} more) b at =
      absurd (no_list_name k x text (at_one S E k x own) (sym same))
  base_listed w t (enumeration x k own) v base same words.itself b at =
      let number = other_number k b v (own ∙ ap Some (sym same)) at in
      let many = structures_many in
      names_Enumeration (length ss) b k ∙ grind (arith, nat_tests, number, many)
  base_listed w t (enumeration x k own) v base same (words.list {text} more) b at =
      absurd (no_list_name (length S + k) x text (at_other S E k (length S + k) x refl own) (sym same))
  base_listed w t (list x u is) v base same words.itself b at = absurd (no_list_name b v x at same)
  base_listed w t (list x u is) v base same (words.list {text} more) b at =
      let inner : text ≡ x = ap (drop 8) same in
      names_List (length ss) b u ∙ base_listed x u is text base inner more b at

  -- ---- ways

  -- the number of what has a part, which leads at once to that of the part's base
  record IsOwner (name ty : Text) : Type 0 where
    pub number : ℕ
    pub at : slice_get (S ++ E) number ≡ Some name
    pub leads : (base : Text) → IsBase ty base → (b : ℕ) → slice_get (S ++ E) b ≡ Some base → DependsOn deps number b

  named : (w : Text) (t : Ty) → Spells types w t → IsNamed S E w t
  named = named_of_spelled types S E are

  abbrev fields : Structure → List ℕ
  fields s = named_by_fields (length ss) s.fields

  abbrev cases : Enumeration → List ℕ
  cases e = named_by_cases (length ss) e.cases

  content_told : (text : Option Text) (content : Option Ty) (w : Text) → IsContentOf types text content
      → text ≡ Some w → (t : Ty) × (content ≡ Some t) × IsNamed S E w t
  content_told None None w told is = absurd (cc is)
  content_told None (Some u) w told is = absurd told
  content_told (Some v) None w told is = absurd told
  content_told (Some v) (Some u) w told is =
      let same : v ≡ w = cc is in (u, refl, subst (λ (x : Text). IsNamed S E x u) same (named v u told))

  owner : (name ty : Text) → HasPart tables name ty → IsOwner name ty
  owner name ty (words.field s f one own) =
      let k = index_of s tables.structures one in
      let made = told_for (λ _. IsStructureOf types) [] tables.structures ss k.0 s structures_told k.1 in
      let there = index_of f s.fields own in
      let field = told_for (λ front. IsFieldOf types (field_names front)) [] s.fields made.0.fields there.0 f
      made.3.fields there.1 in
      record {
        number = k.0;
        at = at_one S E k.0 s.name (named_at structure_name tables.structures k.0 s k.1);
        leads = λ base is b at. ap (λ ns. is_listed ns b) (index_front fields ss (map cases es) k.0 made.0 [] made.1)
            ∙ field_listed (length ss) made.0.fields there.0 field.0 b field.1
            (base_listed f.ty field.0.ty (named f.ty field.0.ty field.3.ty) f.ty base refl is b at);
      }
  owner name ty (words.content e c x one own content) =
      let k = index_of e tables.enumerations one in
      let made = told_for (λ _. IsEnumerationOf types) [] tables.enumerations es k.0 e enumerations_told k.1 in
      let there = index_of c e.cases own in
      let case = told_for (λ front. IsCaseOf types (case_names front)) [] e.cases made.0.cases there.0 c
      made.3.cases.each there.1 in
      let t = content_told c.content case.0.content x case.3.content content in
      let behind : length S + k.0 ≡ length (map fields ss) + k.0 =
      let many = structures_many in let front = length-map ss fields in omega (arith, many, front) in
      record {
        number = length S + k.0;
        at = at_other S E k.0 (length S + k.0) e.name refl (named_at enumeration_name tables.enumerations k.0 e k.1);
        leads = λ base is b at. ap (λ ns. is_listed ns b)
            (index_behind (map fields ss) (map cases es) (length S + k.0) k.0 [] behind
            ∙ index_at cases es k.0 made.0 [] made.1)
            ∙ content_listed (length ss) made.0.cases there.0 case.0 t.0 b case.1 t.1
            (base_listed x t.0 t.2 x base refl is b at);
      }

  -- what a way begins with is declared, where its end is
  begins : (w v : Text) → IsMadeOf tables w v → (n : ℕ) → slice_get (S ++ E) n ≡ Some v
      → (b : ℕ) × (slice_get (S ++ E) b ≡ Some w)
  begins w v words.here n at = (n, at)
  begins w v (words.part {name} {ty} has is more) n at = let it = owner name ty has in (it.number, it.at)

  way_back : (w v : Text) → IsMadeOf tables w v → (a n : ℕ) → slice_get (S ++ E) a ≡ Some w
      → slice_get (S ++ E) n ≡ Some v → LeadsTo deps a n
  way_back w v words.here a n one other = inl (same_number a n w one other)
  way_back w v (words.part {name} {ty} {base} has is more) a n one other =
      let it = owner name ty has in
      let b = begins base v more n other in
      let number : it.number ≡ a = same_number it.number a name it.at one in
      let on = subst (λ (k : ℕ). DependsOn deps k b.0) number (it.leads base is b.0 b.1) in
      by on (way_back base v more b.0 n b.1 other)
    where
      by : {b : ℕ} → DependsOn deps a b → LeadsTo deps b n → LeadsTo deps a n
      by {b} on (inl same) = inr ([], subst (λ (k : ℕ). DependsOn deps a k) same on)
      by {b} on (inr way) = inr (b ∷ way.0, (on, way.1))

  pub no_round : ((n : ℕ) → IsOnCycle deps n → ⊥) → (name ty : Text) → HasPart tables name ty
      → ClosesCycle tables name ty → ⊥
  unfolding IsOnCycle
  no_round acyclic name ty has closes =
      let it = owner name ty has in
      let b = begins closes.base name closes.back it.number it.at in
      let on = it.leads closes.base closes.is_base b.0 b.1 in
      by on (way_back closes.base name closes.back b.0 it.number b.1 it.at)
    where
      by : {a b : ℕ} → DependsOn deps a b → LeadsTo deps b a → ⊥
      by {a} {b} on (inl same) = acyclic a ([], subst (λ (k : ℕ). DependsOn deps a k) same on)
      by {a} {b} on (inr way) = acyclic a (b ∷ way.0, (on, way.1))
