-- Sections that are made one after the other.
use Rattle.std.proofs.Common.{◌≡◌, ◌<◌, ℕ, zero, suc, Bool, true, false, IsTrue, List, [], ◌∷◌, ◌++◌, map, length}
use Rattle.std.proofs.Common.{set, refl, sym, ap, ◌∙◌, subst, arith, true≢false}
use Rattle.std.proofs.Common.{if◌then◌else◌}
use Rattle.std.specs.Prelude.{nat_eq}
use Rattle.std.proofs.lemmas.Bool.Decides.{nat_tests}
use Rattle.std.proofs.lemmas.List.{length-set}
use Rattle.std.proofs.lemmas.Option.{slice_get_within}
use Rattle.cat_order.specs.Order.{dependencies_of}
use Rattle.cat_scope.specs.declared.programs.Program.{Program}
use Rattle.cat_scope.specs.Names.{AllHave, all_differ, is_in}
use Rattle.cat_scope.specs.WellFormed.{IsWellFormed}
use Rattle.cat_scope.proofs.Exported.{append_append}
use Rattle.cat_sound.proofs.Exported.{in_at}
use Rattle.cat_guard.specs.declared.table.Table.{Table}
use Rattle.cat_guard.specs.declared.tree.CaseTree.{CaseTree}
use Rattle.cat_guard.specs.Tables.{TablesScope}
use Rattle.cat_audit.specs.declared.finding.TargetLine.{TargetLine}
use Rattle.cat_depend.specs.Reached.{StandBehind, calls_in}
use Rattle.cat_depend.proofs.Exported.{all_have, apart, in_both, in_cons, in_front, in_here, one_or_other}
use Rattle.cat_audit.specs.declared.report.Verdict.{Verdict}
use Rattle.cat_audit.specs.declared.report.Verdict.TheVariants as verdict
use Rattle.cat_audit.specs.declared.report.Section.{Section}
use Rattle.cat_audit.specs.Called.{verdict_in}
use Rattle.cat_audit.specs.Reports.{AreSections, trees_of}
use Rattle.cat_audit_table.specs.AuditedTables.{scopes_of}
use Rattle.cat_audit.specs.Sections.{IsSection}
use Rattle.cat_audit.specs.inside.Underway.{MakesSection, verdict_at}
use Rattle.cat_audit.proofs.CalledLemmas.{all_as, lines_same}
use Rattle.cat_audit.proofs.SectionLemmas.{scopes_are, section_scopes, verdict_past}
use Rattle.cat_scope.proofs.Exported.{map_append}

-- ---- lists that grow

trees_push : (made : List (List TargetLine)) (m : List TargetLine)
    → trees_of (made ++ m ∷ []) ≡ trees_of made ++ map (λ l. l.tree) m
trees_push [] m = append_none (map (λ l. l.tree) m)
  where
    append_none : (trees : List CaseTree) → trees ++ [] ≡ trees
    append_none [] = refl
    append_none (c ∷ trees) = ap (λ cs. c ∷ cs) (append_none trees)
trees_push (n ∷ made) m = ap (λ cs. map (λ l. l.tree) n ++ cs) (trees_push made m)
    ∙ sym (append_append (map (λ l. l.tree) n) (trees_of made) (map (λ l. l.tree) m))

-- ---- verdicts of sections that grow

verdict_more : (sections : List Section) (s : Section) (n : ℕ) → nat_eq s.scope n ≡ false
    → verdict_in (sections ++ s ∷ []) n ≡ verdict_in sections n
verdict_more [] s n e = verdict_past s [] n e
verdict_more (t ∷ sections) s n e =
    ap (λ (v : Verdict). if nat_eq t.scope n then t.verdict else v) (verdict_more sections s n e)

verdict_new : (sections : List Section) (s : Section) → is_in s.scope (section_scopes sections) ≡ false
    → verdict_in (sections ++ s ∷ []) s.scope ≡ s.verdict
verdict_new [] s out = by (nat_eq s.scope s.scope) (same s.scope)
  where
    same : (n : ℕ) → nat_eq n n ≡ true
    same n = grind (arith, nat_tests)

    by : (b : Bool) → b ≡ true → (if b then s.verdict else verdict.Undecided) ≡ s.verdict
    by true e = refl
    by false e = absurd (true≢false (sym e))
verdict_new (t ∷ sections) s out =
    by (nat_eq s.scope t.scope) refl out (λ rest. verdict_new sections s rest)
  where
    turned : (n m : ℕ) → nat_eq n m ≡ false → nat_eq m n ≡ false
    turned n m e = grind (arith, nat_tests)

    by : (b : Bool) → nat_eq s.scope t.scope ≡ b
        → (if b then true else is_in s.scope (section_scopes sections)) ≡ false
        → (is_in s.scope (section_scopes sections) ≡ false
        → verdict_in (sections ++ s ∷ []) s.scope ≡ s.verdict)
        → verdict_in ((t ∷ sections) ++ s ∷ []) s.scope ≡ s.verdict
    by true e g rest = absurd (true≢false g)
    by false e g rest =
        verdict_past t (sections ++ s ∷ []) s.scope (turned s.scope t.scope e) ∙ rest g

-- ---- verdicts by a list

verdict_set : (verdicts : List Verdict) (n : ℕ) (v : Verdict) → n < length verdicts
    → verdict_at (set verdicts n v) n ≡ v
verdict_set [] n v within = absurd (omega arith)
verdict_set (w ∷ verdicts) zero v within = refl
verdict_set (w ∷ verdicts) (suc n) v within = verdict_set verdicts n v (omega (arith, within))

verdict_kept : (verdicts : List Verdict) (n m : ℕ) (v : Verdict) → (n ≡ m → ⊥)
    → verdict_at (set verdicts n v) m ≡ verdict_at verdicts m
verdict_kept [] n m v other = refl
verdict_kept (w ∷ verdicts) zero zero v other = absurd (other refl)
verdict_kept (w ∷ verdicts) zero (suc m) v other = refl
verdict_kept (w ∷ verdicts) (suc n) zero v other = refl
verdict_kept (w ∷ verdicts) (suc n) (suc m) v other = verdict_kept verdicts n m v (λ e. other (ap suc e))

-- ---- sections on the way

pub record IsUnderWay (program : Program) (budget : ℕ) (front : List Table) (verdicts : List Verdict)
    (sections : List Section) (trees : List CaseTree) : Type 0 where
  pub made : List (List TargetLine)
  pub sections_are : AreSections program budget (verdict_in sections) front made sections
  pub counted : length verdicts ≡ length program.bodies
  pub verdicts_are : (n : ℕ) → verdict_at verdicts n ≡ verdict_in sections n
  pub closed : (k : ℕ) → is_in k (section_scopes sections) ≡ true
      → AllHave (λ m. IsTrue (is_in m (section_scopes sections))) (dependencies_of (calls_in program) k)
  pub trees_are : trees ≡ trees_of made

sections_push : (program : Program) (budget : ℕ) (f : ℕ → Verdict) (tables : List Table)
    (made : List (List TargetLine)) (sections : List Section) (t : Table) (m : List TargetLine) (s : Section)
    → AreSections program budget f tables made sections → IsSection program budget f t m s
    → AreSections program budget f (tables ++ t ∷ []) (made ++ m ∷ []) (sections ++ s ∷ [])
sections_push program budget f [] [] [] t m s are is = (is, tt)
sections_push program budget f [] [] (x ∷ sections) t m s are is = elim are [ ]
sections_push program budget f [] (x ∷ made) sections t m s are is = elim are [ ]
sections_push program budget f (x ∷ tables) [] sections t m s are is = elim are [ ]
sections_push program budget f (x ∷ tables) (y ∷ made) [] t m s are is = elim are [ ]
sections_push program budget f (x ∷ tables) (y ∷ made) (z ∷ sections) t m s are is =
    (are.0, sections_push program budget f tables made sections t m s are.1 is)

-- a section stays one where the verdicts of what its scope calls stay
section_as : (program : Program) → ∥ IsWellFormed program.decls program.bodies program.scope_order ∥₁ → (budget : ℕ)
    (f g : ℕ → Verdict) (t : Table) (m : List TargetLine) (s : Section) → TablesScope program t.scope t
    → ((n : ℕ) → is_in n (dependencies_of (calls_in program) t.scope) ≡ true → f n ≡ g n)
    → IsSection program budget f t m s → IsSection program budget g t m s
section_as program formed budget f g t m s tabled same is = record {
  scope_is = is.scope_is;
  made_are = is.made_are;
  lines_are = is.lines_are;
  called_are = is.called_are
      ∙ lines_same program t.scope tabled.0 tabled.1 tabled.2 tabled.3 f g formed same;
  verdict_is = is.verdict_is;
}

sections_as : (program : Program) → ∥ IsWellFormed program.decls program.bodies program.scope_order ∥₁
    → (budget : ℕ) (f g : ℕ → Verdict) (among : List ℕ)
    → ((k : ℕ) → is_in k among ≡ true → (n : ℕ) → is_in n (dependencies_of (calls_in program) k) ≡ true → f n ≡ g n)
    → (tables : List Table) (made : List (List TargetLine)) (sections : List Section)
    → AllHave (λ t. TablesScope program t.scope t) tables
    → AllHave (λ k. is_in k among ≡ true) (scopes_of tables)
    → AreSections program budget f tables made sections → AreSections program budget g tables made sections
sections_as program formed budget f g among same [] [] [] tabled there are = tt
sections_as program formed budget f g among same [] [] (s ∷ sections) tabled there are = elim are [ ]
sections_as program formed budget f g among same [] (m ∷ made) sections tabled there are = elim are [ ]
sections_as program formed budget f g among same (t ∷ tables) [] sections tabled there are = elim are [ ]
sections_as program formed budget f g among same (t ∷ tables) (m ∷ made) [] tabled there are = elim are [ ]
sections_as program formed budget f g among same (t ∷ tables) (m ∷ made) (s ∷ sections) tabled there are = (
  section_as program formed budget f g t m s tabled.0 (same t.scope there.0) are.0,
  sections_as program formed budget f g among same tables made sections tabled.1 there.1 are.1,
)

-- ---- one section more

module _ (program : Program) (formed : ∥ IsWellFormed program.decls program.bodies program.scope_order ∥₁)
    (budget : ℕ) (tables front rest : List Table) (t : Table) (is : tables ≡ front ++ t ∷ rest)
    (tabled : AllHave (λ t. TablesScope program t.scope t) front) (here : TablesScope program t.scope t)
    (behind : StandBehind (calls_in program) (scopes_of tables)) (once : all_differ (scopes_of tables) ≡ true)
    (verdicts : List Verdict) (sections : List Section) (old : List CaseTree)
    (way : IsUnderWay program budget front verdicts sections old) (new : List CaseTree) (s : Section)
    (makes : MakesSection program budget verdicts t old new s) where
  scopes_split : scopes_of tables ≡ scopes_of front ++ t.scope ∷ scopes_of rest
  scopes_split = ap scopes_of is ∙ map_append (λ (x : Table). x.scope) front (t ∷ rest)

  same_scopes : section_scopes sections ≡ scopes_of front
  same_scopes = scopes_are program budget (verdict_in sections) front way.made sections way.sections_are

  -- what the scope calls has its section
  deps_there : AllHave (λ m. IsTrue (is_in m (section_scopes sections))) (dependencies_of (calls_in program) t.scope)
  deps_there = subst (λ (ns : List ℕ). AllHave (λ m. IsTrue (is_in m ns)) (dependencies_of (calls_in program) t.scope))
      (sym same_scopes) (behind (scopes_of front) (scopes_of rest) t.scope scopes_split)

  not_there : (b : Bool) → is_in t.scope (section_scopes sections) ≡ b
      → is_in t.scope (section_scopes sections) ≡ false
  not_there false e = e
  not_there true e = absurd (apart t.scope (scopes_of front) (t.scope ∷ scopes_of rest)
      (subst (λ (ns : List ℕ). all_differ ns ≡ true) scopes_split once)
      (subst (λ (ns : List ℕ). is_in t.scope ns ≡ true) same_scopes e) (in_here t.scope (scopes_of rest)))

  new_scope : is_in s.scope (section_scopes sections) ≡ false
  new_scope = subst (λ (k : ℕ). is_in k (section_scopes sections) ≡ false) (sym makes.section_is.scope_is)
      (not_there (is_in t.scope (section_scopes sections)) refl)

  abbrev f : ℕ → Verdict
  f n = verdict_in sections n

  abbrev g : ℕ → Verdict
  g n = verdict_in (sections ++ s ∷ []) n

  -- what has its section keeps its verdict
  kept : (n : ℕ) → is_in n (section_scopes sections) ≡ true → f n ≡ g n
  kept n there = one_or_other (f n ≡ g n) s.scope n
      (λ same. absurd (true≢false (sym (subst (λ (k : ℕ). is_in k (section_scopes sections) ≡ true) (sym same) there)
      ∙ new_scope)))
      (λ e. sym (verdict_more sections s n e))

  old_sections : AreSections program budget g front way.made sections
  old_sections = sections_as program formed budget f g (section_scopes sections)
      (λ k there n on. kept n
      (in_at (λ (m : ℕ). IsTrue (is_in m (section_scopes sections))) (dependencies_of (calls_in program) k) n
      (way.closed k there) on))
      front way.made sections tabled
      (subst (λ (ns : List ℕ). AllHave (λ k. is_in k (section_scopes sections) ≡ true) ns) same_scopes
      (all_have (λ k. is_in k (section_scopes sections) ≡ true) (section_scopes sections)
      (λ n h. h)))
      way.sections_are

  new_section : IsSection program budget g t makes.made s
  new_section = section_as program formed budget (verdict_at verdicts) g t makes.made s here
      (λ n on. way.verdicts_are n ∙ kept n
      (in_at (λ (m : ℕ). IsTrue (is_in m (section_scopes sections))) (dependencies_of (calls_in program) t.scope) n
      deps_there on))
      makes.section_is

  pub scope_below : t.scope < length verdicts
  scope_below =
      let within = slice_get_within program.bodies t.scope here.1 here.3 in
      let count = way.counted in omega (arith, within, count)

  verdicts_on : (n : ℕ) → verdict_at (set verdicts t.scope s.verdict) n ≡ g n
  verdicts_on n = one_or_other (verdict_at (set verdicts t.scope s.verdict) n ≡ g n) t.scope n
      (λ same. subst (λ (k : ℕ). verdict_at (set verdicts t.scope s.verdict) k ≡ g k) same
      (verdict_set verdicts t.scope s.verdict scope_below
      ∙ sym (subst (λ (k : ℕ). g k ≡ s.verdict) makes.section_is.scope_is (verdict_new sections s new_scope))))
      (λ e. verdict_kept verdicts t.scope n s.verdict (differ t.scope n e)
      ∙ way.verdicts_are n
      ∙ sym (verdict_more sections s n (ap (λ (k : ℕ). nat_eq k n) makes.section_is.scope_is ∙ e)))
    where
      differ : (n m : ℕ) → nat_eq n m ≡ false → n ≡ m → ⊥
      differ n m e same = grind (arith, nat_tests)

  new_scopes : section_scopes (sections ++ s ∷ []) ≡ section_scopes sections ++ s.scope ∷ []
  new_scopes = map_append (λ (x : Section). x.scope) sections (s ∷ [])

  wider : (k : ℕ) → AllHave (λ m. IsTrue (is_in m (section_scopes sections))) (dependencies_of (calls_in program) k)
      → AllHave (λ m. IsTrue (is_in m (section_scopes (sections ++ s ∷ [])))) (dependencies_of (calls_in program) k)
  wider k h = all_as (λ m. IsTrue (is_in m (section_scopes sections)))
      (λ m. IsTrue (is_in m (section_scopes (sections ++ s ∷ [])))) (dependencies_of (calls_in program) k)
      (λ m there. subst (λ (ns : List ℕ). is_in m ns ≡ true) (sym new_scopes)
      (in_front m (section_scopes sections) (s.scope ∷ []) there)) h

  closed_on : (k : ℕ) → is_in k (section_scopes (sections ++ s ∷ [])) ≡ true
      → AllHave (λ m. IsTrue (is_in m (section_scopes (sections ++ s ∷ [])))) (dependencies_of (calls_in program) k)
  closed_on k there =
      in_both
      (AllHave (λ m. IsTrue (is_in m (section_scopes (sections ++ s ∷ [])))) (dependencies_of (calls_in program) k))
      k (section_scopes sections) (s.scope ∷ [])
      (subst (λ (ns : List ℕ). is_in k ns ≡ true) new_scopes there)
      (λ h. wider k (way.closed k h))
      (λ h. in_cons
      (AllHave (λ m. IsTrue (is_in m (section_scopes (sections ++ s ∷ [])))) (dependencies_of (calls_in program) k))
      k s.scope [] h
      (λ same. wider k (subst (λ (j : ℕ). AllHave (λ m. IsTrue (is_in m (section_scopes sections)))
      (dependencies_of (calls_in program) j)) (sym (same ∙ makes.section_is.scope_is)) deps_there))
      (λ none. absurd (true≢false (sym none))))

  pub one_more : IsUnderWay program budget (front ++ t ∷ []) (set verdicts t.scope s.verdict) (sections ++ s ∷ [])
      new
  one_more = record {
    made = way.made ++ makes.made ∷ [];
    sections_are = sections_push program budget g front way.made sections t makes.made s old_sections new_section;
    counted = length-set verdicts t.scope s.verdict ∙ way.counted;
    verdicts_are = verdicts_on;
    closed = closed_on;
    trees_are = makes.trees_are ∙ ap (λ (cs : List CaseTree). cs ++ map (λ l. l.tree) makes.made) way.trees_are
        ∙ sym (trees_push way.made makes.made);
  }
