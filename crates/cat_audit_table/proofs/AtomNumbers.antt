-- One question more, by the key of its atom.
use Rattle.std.proofs.Common.{◌≡◌, ℕ, ◌+◌, Bool, true, false, not, List, [], ◌∷◌, ◌++◌, map}
use Rattle.std.proofs.Common.{refl, sym, ap, ◌∙◌, arith, true≢false, if◌then◌else◌}
use Rattle.std.specs.List.{list_any, position_or_len}
use Rattle.std.specs.Str.{bytes_eq}
use Rattle.std.proofs.lemmas.Slice.Eq.{bytes_eq-Decides}
use Rattle.std.proofs.lemmas.List.{append_assoc}
use Rattle.indexmap.specs.IndexSet.{insert_key}
use Rattle.cat_region.specs.declared.cut.Cut.{Cut}
use Rattle.cat_scope.specs.Names.{AllHave}
use Rattle.cat_region.proofs.Exported.{and-parts, and-both}
use Rattle.cat_guard.specs.declared.table.Atom.{Atom}
use Rattle.cat_guard.specs.Questions.{Question}
use Rattle.cat_guard.specs.Numbering.{is_seen, firsts, number_of}
use Rattle.cat_guard.specs.Terms.{same_term, same_cut, same_question, term_number, atom_of, atom_number}
use Rattle.cat_guard.proofs.Exported.{firsts_all}
use Rattle.cat_audit_keys.specs.Keys.{term_key}
use Rattle.cat_audit_keys.proofs.Exported.{one_term}
use Rattle.cat_audit_keys.specs.Atoms.{atom_key}
use Rattle.cat_audit_keys.proofs.Exported.{one_cut}
use Rattle.cat_audit_table.specs.declared.atom_table.AtomTable.{AtomTable}
use Rattle.cat_audit_table.specs.Numbered.{key_in, AreAtomsOf, AddsAtom}
use Rattle.cat_audit_table.proofs.Firsts.{number_kept, seen_kept, seen_push, all_seen}
use Rattle.cat_audit_table.proofs.Keyed.{same_truth, not_true, not_false, keys_pushed, number_pushed, old_made}
use Rattle.cat_audit_table.proofs.Keyed.{new_made}
use Rattle.cat_audit_table.proofs.TermNumbers.{term_told, term_self}

abbrev first_number : List ℕ → ℕ
first_number [] = 0
first_number (n ∷ ns) = n

abbrev behind : List ℕ → List ℕ
behind [] = []
behind (n ∷ ns) = ns

-- ---- terms of one number are one

-- an element that two are the same as
record Common {A : Type 0} (same : A → A → Bool) (a b : A) : Type 0 where
  value : A
  left : same value a ≡ true
  right : same value b ≡ true

common : {A : Type 0} (same : A → A → Bool) (a b : A) (xs : List A) → is_seen same a xs ≡ true
    → is_seen same b xs ≡ true → number_of same a xs ≡ number_of same b xs → Common same a b
common same a b [] h g e = absurd (true≢false (sym h))
common same a b (x ∷ xs) h g e = by (same x a) (same x b) refl refl h g e (common same a b xs)
  where
    by : (c d : Bool) → same x a ≡ c → same x b ≡ d → (if c then true else is_seen same a xs) ≡ true
        → (if d then true else is_seen same b xs) ≡ true
        → (if c then 0 else 1 + number_of same a xs) ≡ (if d then 0 else 1 + number_of same b xs)
        → (is_seen same a xs ≡ true → is_seen same b xs ≡ true → number_of same a xs ≡ number_of same b xs
        → Common same a b) → Common same a b
    by true true l r h g e rest = record { value = x; left = l; right = r }
    by true false l r h g e rest = absurd (omega (arith, e))
    by false true l r h g e rest = absurd (omega (arith, e))
    by false false l r h g e rest = rest h g (omega (arith, e))

one_number : (a b : Question) (qs : List Question) → term_key a ≡ term_key b
    → number_of same_term a qs ≡ number_of same_term b qs
one_number a b [] e = refl
one_number a b (q ∷ qs) e =
    ap (λ (c : Bool). if c then 0 else 1 + number_of same_term a qs)
    (term_told a q ∙ ap (λ (k : List ℕ). bytes_eq k (term_key q)) e ∙ sym (term_told b q))
    ∙ ap (λ (n : ℕ). if same_term q b then 0 else 1 + n) (one_number a b qs e)

-- ---- keys tell atoms

-- the term of a question is among those of some
abbrev HasTerm : List Question → Question → Type 0
HasTerm qs q = is_seen same_term q (firsts same_term [] qs) ≡ true

atom_told : (qs : List Question) (a b : Question) → HasTerm qs a → HasTerm qs b
    → same_question b a ≡ bytes_eq (key_in qs a) (key_in qs b)
atom_told qs a b has also = same_truth (same_question b a) (bytes_eq (key_in qs a) (key_in qs b)) there back
  where
    there : same_question b a ≡ true → bytes_eq (key_in qs a) (key_in qs b) ≡ true
    there h =
        let two = and-parts (same_term b a) (same_cut b.cut a.cut) h in
        (bytes_eq-Decides (key_in qs a) (key_in qs b)).1
        (ap (λ (n : ℕ). atom_key n a.cut)
        (one_number a b (firsts same_term [] qs) (sym ((one_term b a).0 two.0)))
        ∙ ap (λ (ns : List ℕ). term_number qs b ∷ ns) (sym ((one_cut b.cut a.cut).0 two.1)))

    back : bytes_eq (key_in qs a) (key_in qs b) ≡ true → same_question b a ≡ true
    back h =
        let keys : key_in qs a ≡ key_in qs b = (bytes_eq-Decides (key_in qs a) (key_in qs b)).0 h in
        let one = common same_term a b (firsts same_term [] qs) has also (ap first_number keys) in
        and-both (same_term b a) (same_cut b.cut a.cut)
        ((one_term b a).1 (sym ((one_term one.value b).0 one.right) ∙ (one_term one.value a).0 one.left))
        ((one_cut b.cut a.cut).1 (sym (ap behind keys)))

pub question_self : (q : Question) → same_question q q ≡ true
question_self q = and-both (same_term q q) (same_cut q.cut q.cut) (term_self q) ((one_cut q.cut q.cut).1 refl)

-- ---- with one question more

each : {A : Type 0} {P Q : A → Type 0} (xs : List A) → ((a : A) → P a → Q a) → AllHave P xs → AllHave Q xs
each [] go h = tt
each (x ∷ xs) go h = (go x h.0, each xs go h.1)

map_same : {A B : Type 0} (f g : A → B) (xs : List A) → AllHave (λ x. f x ≡ g x) xs → map f xs ≡ map g xs
map_same f g [] h = refl
map_same f g (x ∷ xs) h = ap (λ y. y ∷ map f xs) h.0 ∙ ap (λ ys. g x ∷ ys) (map_same f g xs h.1)

abbrev the_atom : ℕ → Cut → Atom
the_atom n c = record { term = n; cut = c }

-- each of the atoms has its term
all_have : (qs : List Question) → AllHave (HasTerm qs) (firsts same_question [] qs)
all_have qs = firsts_all (HasTerm qs) same_question [] qs (all_seen same_term term_self qs)

module _ (qs more : List Question) where
  number_same : (r : Question) → HasTerm qs r → term_number qs r ≡ term_number (qs ++ more) r
  number_same r h = sym (number_kept same_term r qs more h)

  atoms_same : map (atom_of qs) (firsts same_question [] qs) ≡ map (atom_of (qs ++ more)) (firsts same_question [] qs)
  atoms_same = map_same (atom_of qs) (atom_of (qs ++ more)) (firsts same_question [] qs)
      (each (firsts same_question [] qs) one (all_have qs))
    where
      one : (r : Question) → HasTerm qs r → atom_of qs r ≡ atom_of (qs ++ more) r
      one r h = ap (λ (n : ℕ). the_atom n r.cut) (number_same r h)

  keys_same : map (key_in qs) (firsts same_question [] qs) ≡ map (key_in (qs ++ more)) (firsts same_question [] qs)
  keys_same = map_same (key_in qs) (key_in (qs ++ more)) (firsts same_question [] qs)
      (each (firsts same_question [] qs) (λ r h. ap (λ (n : ℕ). atom_key n r.cut) (number_same r h)) (all_have qs))

module _ (q : Question) (term : ℕ) (before after : AtomTable) (number : ℕ) (fresh : Bool) (key : List ℕ)
    (key_is : key ≡ atom_key term q.cut) (number_is : number ≡ position_or_len (bytes_eq key) before.keys)
    (fresh_is : fresh ≡ not (list_any (bytes_eq key) before.keys))
    (inserted : after.keys ≡ insert_key bytes_eq before.keys key) where
  module _ (qs : List Question) (term_is : term ≡ term_number (qs ++ q ∷ []) q) (are : AreAtomsOf qs before) where
    abbrev whole : List Question
    whole = qs ++ q ∷ []

    own_key : key ≡ key_in whole q
    own_key = key_is ∙ ap (λ (n : ℕ). atom_key n q.cut) term_is

    told : AllHave (λ b. same_question b q ≡ bytes_eq (key_in whole q) (key_in whole b)) (firsts same_question [] qs)
    told = each (firsts same_question [] qs)
        (λ r h. atom_told whole q r (seen_push same_term term_self qs q) (seen_kept same_term r qs (q ∷ []) h))
        (all_have qs)

    keys_were : before.keys ≡ map (key_in whole) (firsts same_question [] qs)
    keys_were = are.keys_are ∙ keys_same qs (q ∷ [])

    atoms_were : before.atoms ≡ map (atom_of whole) (firsts same_question [] qs)
    atoms_were = are.atoms_are ∙ atoms_same qs (q ∷ [])

    there : (b : Bool) → list_any (bytes_eq key) before.keys ≡ b → list_any (bytes_eq (key_in whole q)) before.keys ≡ b
    there b e = ap (λ (k : List ℕ). list_any (bytes_eq k) before.keys) (sym own_key) ∙ e

    keys_are : after.keys ≡ map (key_in whole) (firsts same_question [] whole)
    keys_are =
        keys_pushed same_question question_self (key_in whole) qs q told before.keys keys_were after.keys
        (inserted ∙ ap (insert_key bytes_eq before.keys) own_key)

    numbered : number ≡ atom_number whole q
    numbered =
        number_pushed same_question question_self (key_in whole) qs q told before.keys keys_were number
        (number_is ∙ ap (λ (k : List ℕ). position_or_len (bytes_eq k) before.keys) own_key)

  numbered_for_ever : (qs rest : List Question) → term ≡ term_number (qs ++ q ∷ []) q → AreAtomsOf qs before
      → number ≡ atom_number (qs ++ q ∷ rest) q
  numbered_for_ever qs rest term_is are =
      numbered qs term_is are
      ∙ sym (number_kept same_question q (qs ++ q ∷ []) rest (seen_push same_question question_self qs q))
      ∙ ap (λ (xs : List Question). atom_number xs q) (append_assoc qs (q ∷ []) rest)

  -- an atom that was there
  pub old_atom : fresh ≡ false → after.atoms ≡ before.atoms → AddsAtom q term before after number
  old_atom old same = record {
    grown = λ qs term_is are. record {
      atoms_are = same
          ∙ old_made same_question question_self (key_in (qs ++ q ∷ [])) qs q (told qs term_is are) before.keys
          (keys_were qs term_is are) (atom_of (qs ++ q ∷ [])) before.atoms
          (there qs term_is are true (not_true (list_any (bytes_eq key) before.keys) fresh fresh_is old))
          (atoms_were qs term_is are);
      keys_are = keys_are qs term_is are;
    };
    number_is = numbered_for_ever;
  }

  -- a new one
  pub new_atom : (cut : Cut) → q.cut ≡ cut → fresh ≡ true → after.atoms ≡ before.atoms ++ the_atom term cut ∷ []
      → AddsAtom q term before after number
  new_atom cut cut_is new pushed = record {
    grown = λ qs term_is are. record {
      atoms_are = new_made same_question question_self (key_in (qs ++ q ∷ [])) qs q (told qs term_is are) before.keys
          (keys_were qs term_is are) (atom_of (qs ++ q ∷ [])) before.atoms after.atoms (the_atom term cut)
          (there qs term_is are false (not_false (list_any (bytes_eq key) before.keys) fresh fresh_is new))
          (atoms_were qs term_is are)
          (ap (λ (c : Cut). the_atom term c) (sym cut_is) ∙ ap (λ (n : ℕ). the_atom n q.cut) term_is) pushed;
      keys_are = keys_are qs term_is are;
    };
    number_is = numbered_for_ever;
  }
