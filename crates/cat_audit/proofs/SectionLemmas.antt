-- Sections, by the scopes that they are of.
use Rattle.std.proofs.Common.{◌≡◌, ℕ, Bool, true, false, List, [], ◌∷◌, ◌++◌, map}
use Rattle.std.proofs.Common.{refl, sym, ap, ◌∙◌, subst, arith, true≢false, if◌then◌else◌}
use Rattle.std.specs.Prelude.{nat_eq}
use Rattle.std.proofs.lemmas.Bool.Decides.{nat_tests}
use Rattle.cat_scope.specs.declared.programs.Program.{Program}
use Rattle.cat_scope.specs.Names.{AllHave, all_differ, is_in}
use Rattle.cat_guard.specs.declared.table.Table.{Table}
use Rattle.cat_guard.specs.Tables.{TablesScope}
use Rattle.cat_audit.specs.declared.finding.TargetLine.{TargetLine}
use Rattle.cat_depend.proofs.Exported.{differ_first, differ_rest, in_here, in_later, one_or_other}
use Rattle.cat_audit.specs.declared.report.Verdict.{Verdict}
use Rattle.cat_audit.specs.declared.report.Verdict.TheVariants as verdict
use Rattle.cat_audit.specs.declared.report.Section.{Section}
use Rattle.cat_audit.specs.Called.{verdict_in}
use Rattle.cat_audit.specs.Reports.{AreSections, last_verdict}
use Rattle.cat_audit_table.specs.AuditedTables.{scopes_of}
use Rattle.cat_audit.specs.Sections.{IsSection}
use Rattle.cat_audit_table.proofs.TableLemmas.{table_in}

-- the scopes of sections
abbrev pub section_scopes : List Section → List ℕ
section_scopes sections = map (λ s. s.scope) sections

-- ---- the verdict of a scope

pub verdict_here : (s : Section) (sections : List Section) → verdict_in (s ∷ sections) s.scope ≡ s.verdict
verdict_here s sections = by (nat_eq s.scope s.scope) (same s.scope)
  where
    same : (n : ℕ) → nat_eq n n ≡ true
    same n = grind (arith, nat_tests)

    by : (b : Bool) → b ≡ true → (if b then s.verdict else verdict_in sections s.scope) ≡ s.verdict
    by true e = refl
    by false e = absurd (true≢false (sym e))

pub verdict_past : (s : Section) (sections : List Section) (n : ℕ) → nat_eq s.scope n ≡ false
    → verdict_in (s ∷ sections) n ≡ verdict_in sections n
verdict_past s sections n e = rw e refl

-- each section has the verdict of its scope, where scopes stand once
pub own_verdicts : (sections : List Section) → all_differ (section_scopes sections) ≡ true
    → AllHave (λ s. s.verdict ≡ verdict_in sections s.scope) sections
own_verdicts [] differ = tt
own_verdicts (s ∷ sections) differ = (
  sym (verdict_here s sections),
  later sections (differ_first s.scope (section_scopes sections) differ)
      (own_verdicts sections (differ_rest s.scope (section_scopes sections) differ)),
)
  where
    others : (n : ℕ) (t : Section) (rest : List Section) → is_in n (section_scopes (t ∷ rest)) ≡ false
        → (nat_eq n t.scope ≡ false) × (is_in n (section_scopes rest) ≡ false)
    others n t rest e = by (nat_eq n t.scope) refl e
      where
        by : (b : Bool) → nat_eq n t.scope ≡ b → (if b then true else is_in n (section_scopes rest)) ≡ false
            → (nat_eq n t.scope ≡ false) × (is_in n (section_scopes rest) ≡ false)
        by true g f = absurd (true≢false f)
        by false g f = (g, f)

    later : (rest : List Section) → is_in s.scope (section_scopes rest) ≡ false
        → AllHave (λ t. t.verdict ≡ verdict_in sections t.scope) rest
        → AllHave (λ t. t.verdict ≡ verdict_in (s ∷ sections) t.scope) rest
    later [] out h = tt
    later (t ∷ rest) out h =
        let both = others s.scope t rest out in
        (h.0 ∙ sym (verdict_past s sections t.scope both.0), later rest both.1 h.1)

-- ---- sections and their tables

-- the section of a scope, by its table
pub record ToldAt (program : Program) (budget : ℕ) (f : ℕ → Verdict) (tables : List Table) (default : Table)
    (n : ℕ) (v : Verdict) : Type 0 where
  pub section : Section
  pub made : List TargetLine
  pub told : IsSection program budget f (table_in tables default n) made section
  pub scope_is : (table_in tables default n).scope ≡ n
  pub tabled : TablesScope program n (table_in tables default n)
  pub verdict_is : section.verdict ≡ v

module _ (program : Program) (budget : ℕ) (f : ℕ → Verdict) (default : Table) where
  same_number : (n m : ℕ) → nat_eq n m ≡ true → n ≡ m
  same_number n m e = grind (arith, nat_tests)

  -- a scope that is complete has a section
  pub told_at : (tables : List Table) (made : List (List TargetLine)) (sections : List Section)
      → AllHave (λ t. TablesScope program t.scope t) tables → AreSections program budget f tables made sections
      → (n : ℕ) → verdict_in sections n ≡ verdict.Complete
      → ToldAt program budget f tables default n verdict.Complete
  told_at [] [] [] tabled are n e = absurd (cc)
  told_at [] [] (s ∷ sections) tabled are n e = elim are [ ]
  told_at [] (m ∷ made) sections tabled are n e = elim are [ ]
  told_at (t ∷ tables) [] sections tabled are n e = elim are [ ]
  told_at (t ∷ tables) (m ∷ made) [] tabled are n e = elim are [ ]
  told_at (t ∷ tables) (m ∷ made) (s ∷ sections) tabled are n e =
      by (nat_eq t.scope n) refl (told_at tables made sections tabled.1 are.1 n)
    where
      by : (b : Bool) → nat_eq t.scope n ≡ b
          → (verdict_in sections n ≡ verdict.Complete → ToldAt program budget f tables default n verdict.Complete)
          → ToldAt program budget f (t ∷ tables) default n verdict.Complete
      by true g rest =
          let here : nat_eq s.scope n ≡ true = ap (λ (k : ℕ). nat_eq k n) are.0.scope_is ∙ g in
          let table_is : t ≡ table_in (t ∷ tables) default n =
          ap (λ (b : Bool). if b then t else table_in tables default n) (sym g) in
          let is : t.scope ≡ n = same_number t.scope n g in
          record {
            section = s;
            made = m;
            told = subst (λ (x : Table). IsSection program budget f x m s) table_is are.0;
            scope_is = ap (λ (x : Table). x.scope) (sym table_is) ∙ is;
            tabled = subst (λ (x : Table). TablesScope program n x) table_is
                (subst (λ (k : ℕ). TablesScope program k t) is tabled.0);
            verdict_is = ap (λ (b : Bool). if b then s.verdict else verdict_in sections n) (sym here) ∙ e;
          }
      by false g rest =
          let past : nat_eq s.scope n ≡ false = ap (λ (k : ℕ). nat_eq k n) are.0.scope_is ∙ g in
          let table_is : table_in tables default n ≡ table_in (t ∷ tables) default n =
          ap (λ (b : Bool). if b then t else table_in tables default n) (sym g) in
          let found = rest (sym (verdict_past s sections n past) ∙ e) in
          record {
            section = found.section;
            made = found.made;
            told = subst (λ (x : Table). IsSection program budget f x found.made found.section) table_is found.told;
            scope_is = ap (λ (x : Table). x.scope) (sym table_is) ∙ found.scope_is;
            tabled = subst (λ (x : Table). TablesScope program n x) table_is found.tabled;
            verdict_is = found.verdict_is;
          }

module _ (program : Program) (budget : ℕ) (f : ℕ → Verdict) where
  -- sections are of the scopes of their tables
  pub scopes_are : (tables : List Table) (made : List (List TargetLine)) (sections : List Section)
      → AreSections program budget f tables made sections → section_scopes sections ≡ scopes_of tables
  scopes_are [] [] [] are = refl
  scopes_are [] [] (s ∷ sections) are = elim are [ ]
  scopes_are [] (m ∷ made) sections are = elim are [ ]
  scopes_are (t ∷ tables) [] sections are = elim are [ ]
  scopes_are (t ∷ tables) (m ∷ made) [] are = elim are [ ]
  scopes_are (t ∷ tables) (m ∷ made) (s ∷ sections) are =
      ap (λ (n : ℕ). n ∷ section_scopes sections) are.0.scope_is
      ∙ ap (λ (ns : List ℕ). t.scope ∷ ns) (scopes_are tables made sections are.1)

-- ---- the last section

-- the last section's scope, where scopes end with one
pub last_is : (sections : List Section) (front : List ℕ) (n : ℕ) → section_scopes sections ≡ front ++ n ∷ []
    → all_differ (section_scopes sections) ≡ true → verdict_in sections n ≡ last_verdict sections
last_is [] [] n e differ = absurd (cc)
last_is [] (m ∷ front) n e differ = absurd (cc)
last_is (s ∷ []) [] n e differ =
    let same : s.scope ≡ n = cc in
    subst (λ (k : ℕ). verdict_in (s ∷ []) k ≡ s.verdict) same (verdict_here s [])
last_is (s ∷ []) (m ∷ []) n e differ = absurd (cc)
last_is (s ∷ []) (m ∷ k ∷ front) n e differ = absurd (cc)
last_is (s ∷ t ∷ sections) [] n e differ = absurd (cc)
last_is (s ∷ t ∷ sections) (m ∷ front) n e differ =
    let more : section_scopes (t ∷ sections) ≡ front ++ n ∷ [] = cc in
    let out = differ_first s.scope (section_scopes (t ∷ sections)) differ in
    verdict_past s (t ∷ sections) n (apart s.scope n (section_scopes (t ∷ sections)) out
    (subst (λ (ns : List ℕ). is_in n ns ≡ true) (sym more) (at_end front)))
    ∙ last_is (t ∷ sections) front n more (differ_rest s.scope (section_scopes (t ∷ sections)) differ)
  where
    at_end : (front : List ℕ) → is_in n (front ++ n ∷ []) ≡ true
    at_end [] = in_here n []
    at_end (k ∷ front) = in_later n k (front ++ n ∷ []) (at_end front)

    apart : (a b : ℕ) (ns : List ℕ) → is_in a ns ≡ false → is_in b ns ≡ true → nat_eq a b ≡ false
    apart a b ns out there = one_or_other (nat_eq a b ≡ false) a b
        (λ same. absurd (true≢false (sym (subst (λ (k : ℕ). is_in k ns ≡ true) (sym same) there) ∙ out))) (λ g. g)
