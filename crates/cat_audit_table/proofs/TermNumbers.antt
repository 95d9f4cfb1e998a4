-- One question more, by the key of its term.
use Rattle.std.proofs.Common.{◌≡◌, ℕ, Bool, true, false, not, List, [], ◌∷◌, ◌++◌, map, refl, sym, ap, ◌∙◌}
use Rattle.std.specs.List.{list_any, position_or_len}
use Rattle.std.specs.Str.{bytes_eq}
use Rattle.std.proofs.lemmas.Slice.Eq.{bytes_eq-Decides}
use Rattle.indexmap.specs.IndexSet.{insert_key}
use Rattle.cat_value.specs.declared.declaration.ItemDecl.{ItemDecl}
use Rattle.cat_scope.specs.Names.{AllHave}
use Rattle.cat_guard.specs.declared.table.Term.{Term}
use Rattle.cat_guard.specs.Questions.{Question}
use Rattle.cat_guard.specs.Numbering.{firsts}
use Rattle.cat_guard.specs.Terms.{same_term, term_of, term_number}
use Rattle.cat_audit_keys.specs.Keys.{term_key}
use Rattle.cat_audit_keys.proofs.Exported.{one_term}
use Rattle.cat_audit_table.specs.declared.term_table.TermTable.{TermTable}
use Rattle.cat_audit_table.specs.Numbered.{AreTermsOf, AddsTerm}
use Rattle.cat_audit_table.proofs.Keyed.{same_truth, not_true, not_false, keys_pushed, number_pushed, old_made}
use Rattle.cat_audit_table.proofs.Keyed.{new_made}

-- keys tell terms
pub term_told : (a b : Question) → same_term b a ≡ bytes_eq (term_key a) (term_key b)
term_told a b =
    same_truth (same_term b a) (bytes_eq (term_key a) (term_key b))
    (λ h. (bytes_eq-Decides (term_key a) (term_key b)).1 (sym ((one_term b a).0 h)))
    (λ h. (one_term b a).1 (sym ((bytes_eq-Decides (term_key a) (term_key b)).0 h)))

pub term_self : (q : Question) → same_term q q ≡ true
term_self q = (one_term q q).1 refl

all_told : (a : Question) (qs : List Question)
    → AllHave (λ b. same_term b a ≡ bytes_eq (term_key a) (term_key b)) qs
all_told a [] = tt
all_told a (q ∷ qs) = (term_told a q, all_told a qs)

module _ (items : List ItemDecl) (q : Question) (before after : TermTable) (number : ℕ) (fresh : Bool) (key : List ℕ)
    (key_is : key ≡ term_key q) (number_is : number ≡ position_or_len (bytes_eq key) before.keys)
    (fresh_is : fresh ≡ not (list_any (bytes_eq key) before.keys))
    (inserted : after.keys ≡ insert_key bytes_eq before.keys key) where
  there : (b : Bool) → list_any (bytes_eq key) before.keys ≡ b → list_any (bytes_eq (term_key q)) before.keys ≡ b
  there b e = ap (λ (k : List ℕ). list_any (bytes_eq k) before.keys) (sym key_is) ∙ e

  keys_are : (qs : List Question) → AreTermsOf items qs before
      → after.keys ≡ map term_key (firsts same_term [] (qs ++ q ∷ []))
  keys_are qs are =
      keys_pushed same_term term_self term_key qs q (all_told q (firsts same_term [] qs)) before.keys are.keys_are
      after.keys (inserted ∙ ap (insert_key bytes_eq before.keys) key_is)

  numbered : (qs : List Question) → AreTermsOf items qs before → number ≡ term_number (qs ++ q ∷ []) q
  numbered qs are =
      number_pushed same_term term_self term_key qs q (all_told q (firsts same_term [] qs)) before.keys are.keys_are
      number (number_is ∙ ap (λ (k : List ℕ). position_or_len (bytes_eq k) before.keys) key_is)

  -- a term that was there
  pub old_term : fresh ≡ false → after.terms ≡ before.terms → AddsTerm items q before after number
  old_term old same = record {
    grown = λ qs are. record {
      terms_are = same
          ∙ old_made same_term term_self term_key qs q (all_told q (firsts same_term [] qs)) before.keys are.keys_are
          (term_of items) before.terms
          (there true (not_true (list_any (bytes_eq key) before.keys) fresh fresh_is old)) are.terms_are;
      keys_are = keys_are qs are;
    };
    number_is = numbered;
  }

  -- a new one
  pub new_term : (term : Term) → fresh ≡ true → term ≡ term_of items q → after.terms ≡ before.terms ++ term ∷ []
      → AddsTerm items q before after number
  new_term term new is pushed = record {
    grown = λ qs are. record {
      terms_are = new_made same_term term_self term_key qs q (all_told q (firsts same_term [] qs)) before.keys
          are.keys_are (term_of items) before.terms after.terms term
          (there false (not_false (list_any (bytes_eq key) before.keys) fresh fresh_is new)) are.terms_are is pushed;
      keys_are = keys_are qs are;
    };
    number_is = numbered;
  }
