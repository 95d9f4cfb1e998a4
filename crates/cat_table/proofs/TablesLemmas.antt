-- Tables that are made one after the other.
use Rattle.std.proofs.Common.{◌≡◌, ◌∙◌, ◌||◌, ◌+◌, ◌≤◌, ℕ, Bool, true, false, if◌then◌else◌, List, []}
use Rattle.std.proofs.Common.{◌∷◌, ◌++◌, drop, length, Option, Some, slice_get, refl, sym, ap, subst}
use Rattle.std.proofs.Common.{append_assoc, add-one}
use Rattle.std.proofs.lemmas.List.{append-nil}
use Rattle.cat_value.specs.declared.decls.Decls.{Decls}
use Rattle.cat_guard.specs.declared.table.Table.{Table}
use Rattle.cat_guard.specs.declared.table.TableTarget.{TableTarget}
use Rattle.cat_audit_sound.proofs.Lists.{drop_next, drop_past}
use Rattle.cat_table.specs.Rows.{table_text}
use Rattle.cat_table.specs.Wanted.{AreTables, is_spent, is_wanted, wanted_of}
use Rattle.cat_table.specs.inside.OneTable.{IsOneTable}

-- ---- lists

-- the rest from an element on
pub rest_at : {A : Type 0} (xs : List A) (i : ℕ) (x : A) → slice_get xs i ≡ Some x → drop i xs ≡ x ∷ drop (i + 1) xs
rest_at xs i x is = drop_next xs i x is ∙ ap (λ k. x ∷ drop k xs) (sym (add-one i))

-- ---- truth values

or_assoc : (a b c : Bool) → ((a || b) || c) ≡ (a || (b || c))
or_assoc true b c = refl
or_assoc false b c = refl

or_false : (a : Bool) → (a || false) ≡ a
or_false true = refl
or_false false = refl

-- ---- tables

module _ (ds : Decls) (files : List (List ℕ)) (table : Table) (budget : ℕ) (wanted : Option (List ℕ)) where
  -- the tables of some targets that are wanted
  abbrev pub Are : List TableTarget → List ℕ → Bool → Type 0
  Are ts text spent = AreTables ds files table budget (wanted_of wanted ts) text spent

  -- behind what is written, the tables of the rest are those of all
  pub record Leads (rest all : List TableTarget) (text : List ℕ) (spent : Bool) : Type 0 where
    pub to : (more : List ℕ) (b : Bool) → Are rest more b → Are all (text ++ more) (spent || b)

  wanted_next : (t : TableTarget) (ts : List TableTarget) (b : Bool) → is_wanted wanted t ≡ b
      → wanted_of wanted (t ∷ ts) ≡ (if b then t ∷ wanted_of wanted ts else wanted_of wanted ts)
  wanted_next t ts b is = ap (λ c. if c then t ∷ wanted_of wanted ts else wanted_of wanted ts) is

  -- behind the table of one that is
  pub leads_on : (rest next all : List TableTarget) (t : TableTarget) (text new own : List ℕ) (spent one : Bool)
      → rest ≡ t ∷ next → is_wanted wanted t ≡ true → IsOneTable ds files table budget t own one → new ≡ text ++ own
      → Leads rest all text spent → Leads next all new (spent || one)
  leads_on rest next all t text new own spent one is yes_one made grown leads = record {
    to = λ more b are.
        subst (λ c. Are all (new ++ more) c) (sym (or_assoc spent one b))
        (subst (λ (x : List ℕ). Are all x (spent || (one || b)))
        (sym (ap (λ (x : List ℕ). x ++ more) grown ∙ append_assoc text own more))
        (leads.to (own ++ more) (one || b)
        (subst (λ ts. AreTables ds files table budget ts (own ++ more) (one || b))
        (sym (ap (wanted_of wanted) is ∙ wanted_next t next true yes_one))
        (record {
          searches = made.search ∷ are.searches;
          tabled = (made.tabled, are.tabled);
          text_is = ap (λ (x : List ℕ). x ++ more) made.text_is
              ∙ ap (λ (x : List ℕ). table_text ds files table t made.search ++ x) are.text_is;
          spent_is = ap (λ c. c || b) made.spent_is
              ∙ ap (λ c. is_spent made.search || c) are.spent_is;
        }))));
  }

  -- at the end
  pub leads_past : (all : List TableTarget) (n : ℕ) (text : List ℕ) (spent : Bool) → length all ≤ n
      → Leads (drop n all) all text spent → Are all text spent
  leads_past all n text spent short leads =
      subst (λ c. Are all text c) (or_false spent)
      (subst (λ (x : List ℕ). Are all x (spent || false)) (append-nil text)
      (leads.to [] false (subst (λ ts. Are ts [] false) (sym (drop_past all n short))
      (record { searches = []; tabled = tt; text_is = refl; spent_is = refl }))))
