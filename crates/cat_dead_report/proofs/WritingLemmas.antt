-- What is written of a report.
use Rattle.std.proofs.Common.{◌≡◌, ℕ, zero, suc, ◌+◌, ◌≤◌, Bool, true, false, ◌&&◌, ◌||◌, if◌then◌else◌, List, []}
use Rattle.std.proofs.Common.{◌∷◌, ◌++◌, map}
use Rattle.std.proofs.Common.{length, take, drop, Option, Some, None, slice_get, refl, sym, ap, ◌∙◌, arith}
use Rattle.std.proofs.Common.{append_assoc}
use Rattle.std.specs.Prelude.{option_map, is_ok, OnOk, Result, Ok, Err}
use Rattle.std.specs.List.{list_all, list_any}
use Rattle.std.proofs.lemmas.Option.{slice_get-map}
use Rattle.cat_value.specs.declared.decls.Decls.{Decls}
use Rattle.cat_scope.specs.declared.programs.Program.{Program}
use Rattle.cat_guard.specs.declared.guard.GuardDef.{GuardDef}
use Rattle.cat_guard.specs.declared.table.Table.{Table}
use Rattle.cat_guard.specs.declared.table.TableTarget.{TableTarget}
use Rattle.cat_cert.specs.declared.certificate.Version.TheVariants as version
use Rattle.cat_cert.specs.Lines.{TargetDue, due_lines, dues_of, heading_line, tree_lines}
use Rattle.cat_cert.specs.Texts.{text_of}
use Rattle.cat_audit_sound.proofs.Lists.{drop_past}
use Rattle.cat_audit_sound.proofs.Lists as lists
use Rattle.cat_dead_report.specs.declared.line.DeadLine.{DeadLine}
use Rattle.cat_dead_report.specs.declared.line.TargetLines.{TargetLines}
use Rattle.cat_dead_report.specs.DeadReports.{IsSaidOf, AreDeadLines, certificate_lines, cited_tree, is_decider}
use Rattle.cat_dead_report.specs.DeadReports.{is_never}
use Rattle.cat_dead.specs.DeadTexts.{first_line}
use Rattle.cat_dead_report.specs.ReportLines.{lines_of, dead_line, target_lines, all_lines}
use Rattle.cat_dead_report.specs.inside.Writing.{line_at, line_of}

-- ---- lists

pub drop_next : {A : Type 0} (xs : List A) (i : ℕ) (x : A) → slice_get xs i ≡ Some x → drop i xs ≡ x ∷ drop (i + 1) xs
drop_next xs i x at = let one : suc i ≡ i + 1 = omega arith in lists.drop_next xs i x at ∙ ap (λ k. x ∷ drop k xs) one

past_at : {A : Type 0} (xs : List A) (i : ℕ) → slice_get xs i ≡ None → drop i xs ≡ []
past_at [] zero at = refl
past_at [] (suc i) at = refl
past_at (x ∷ xs) zero at = absurd (cc)
past_at (x ∷ xs) (suc i) at = past_at xs i at

past_on : {A : Type 0} (xs : List A) (i : ℕ) → drop i xs ≡ [] → drop (suc i) xs ≡ []
past_on [] zero none = refl
past_on [] (suc i) none = refl
past_on (x ∷ xs) zero none = absurd (cc)
past_on (x ∷ xs) (suc i) none = past_on xs i none

take_at : {A : Type 0} (xs : List A) (i : ℕ) (x : A) → slice_get xs i ≡ Some x → take (suc i) xs ≡ take i xs ++ x ∷ []
take_at [] i x at = absurd (cc)
take_at (y ∷ xs) zero x at = let same : y ≡ x = cc in ap (λ z. z ∷ []) same
take_at (y ∷ xs) (suc i) x at = ap (λ zs. y ∷ zs) (take_at xs i x at)

pub take_next : {A : Type 0} (xs : List A) (i : ℕ) (x : A) → slice_get xs i ≡ Some x
    → take (i + 1) xs ≡ take i xs ++ x ∷ []
take_next xs i x at = let one : i + 1 ≡ suc i = omega arith in ap (λ k. take k xs) one ∙ take_at xs i x at

-- ---- texts

pub text_append : (xs ys : List (List ℕ)) → text_of (xs ++ ys) ≡ text_of xs ++ text_of ys
text_append [] ys = refl
text_append (x ∷ xs) ys =
    ap (λ t. x ++ 10 ∷ t) (text_append xs ys) ∙ sym (append_assoc x (10 ∷ text_of xs) (text_of ys))

-- ---- the lines of a target

abbrev flat : Option (Option DeadLine) → Option DeadLine
flat None = None
flat (Some o) = o

line_there : (f : TargetLines) (n : ℕ) → line_of f n ≡ flat (slice_get (lines_of f) n)
line_there f n =
    by (slice_get f.places n)
    ∙ sym (ap flat (slice_get-map (λ (place : ℕ). slice_get f.lines place) f.places n))
  where
    by : (o : Option ℕ) → line_at f.lines o ≡ flat (option_map (λ (place : ℕ). slice_get f.lines place) o)
    by None = refl
    by (Some place) = refl

module _ (ds : Decls) (scope : ℕ) (files : List (List ℕ)) (budget : ℕ) (t : TableTarget) where
  abbrev Lines : List GuardDef → List (Option DeadLine) → List (List ℕ)
  Lines defs os = target_lines ds scope files budget t defs os

  none_said : (defs : List GuardDef) → Lines defs [] ≡ []
  none_said [] = refl
  none_said (d ∷ defs) = refl

  -- a definition without a line
  pub passed_line : (f : TargetLines) (i : ℕ) (d : GuardDef) → slice_get t.defs i ≡ Some d → line_of f i ≡ None
      → Lines (drop i t.defs) (drop i (lines_of f)) ≡ Lines (drop (i + 1) t.defs) (drop (i + 1) (lines_of f))
  passed_line f i d at none =
      ap (λ defs. Lines defs (drop i (lines_of f))) (drop_next t.defs i d at)
      ∙ by (slice_get (lines_of f) i) refl (sym (line_there f i) ∙ none)
    where
      by : (o : Option (Option DeadLine)) → slice_get (lines_of f) i ≡ o → flat o ≡ None
          → Lines (d ∷ drop (i + 1) t.defs) (drop i (lines_of f))
          ≡ Lines (drop (i + 1) t.defs) (drop (i + 1) (lines_of f))
      by None e h =
          let here = past_at (lines_of f) i e in
          let one : suc i ≡ i + 1 = omega arith in
          let more : drop (i + 1) (lines_of f) ≡ [] =
          ap (λ k. drop k (lines_of f)) (sym one) ∙ past_on (lines_of f) i here in
          ap (Lines (d ∷ drop (i + 1) t.defs)) here
          ∙ sym (ap (Lines (drop (i + 1) t.defs)) more ∙ none_said (drop (i + 1) t.defs))
      by (Some None) e h = ap (Lines (d ∷ drop (i + 1) t.defs)) (drop_next (lines_of f) i None e)
      by (Some (Some l)) e h = absurd (cc)

  -- a definition with its line
  pub next_line : (f : TargetLines) (i : ℕ) (d : GuardDef) (l : DeadLine) → slice_get t.defs i ≡ Some d
      → line_of f i ≡ Some l
      → Lines (drop i t.defs) (drop i (lines_of f))
      ≡ dead_line ds scope files budget t d l ∷ Lines (drop (i + 1) t.defs) (drop (i + 1) (lines_of f))
  next_line f i d l at some =
      ap (λ defs. Lines defs (drop i (lines_of f))) (drop_next t.defs i d at)
      ∙ by (slice_get (lines_of f) i) refl (sym (line_there f i) ∙ some)
    where
      by : (o : Option (Option DeadLine)) → slice_get (lines_of f) i ≡ o → flat o ≡ Some l
          → Lines (d ∷ drop (i + 1) t.defs) (drop i (lines_of f))
          ≡ dead_line ds scope files budget t d l ∷ Lines (drop (i + 1) t.defs) (drop (i + 1) (lines_of f))
      by None e h = absurd (cc)
      by (Some None) e h = absurd (cc)
      by (Some (Some m)) e h =
          let same : m ≡ l = cc in
          ap (Lines (d ∷ drop (i + 1) t.defs)) (drop_next (lines_of f) i (Some m) e)
          ∙ ap (λ x. dead_line ds scope files budget t d x ∷ Lines (drop (i + 1) t.defs) (drop (i + 1) (lines_of f)))
          same

  -- what is written when all are passed
  pub passed_all : (f : TargetLines) (i : ℕ) → length t.defs ≤ i
      → Lines (drop i t.defs) (drop i (lines_of f)) ≡ []
  passed_all f i short = ap (λ defs. Lines defs (drop i (lines_of f))) (drop_past t.defs i short)

-- ---- the lines of all targets

module _ (ds : Decls) (scope : ℕ) (files : List (List ℕ)) (budget : ℕ) where
  abbrev All : List TableTarget → List TargetLines → List (List ℕ)
  All ts fs = all_lines ds scope files budget ts fs

  pub next_target : (ts : List TableTarget) (fs : List TargetLines) (i : ℕ) (t : TableTarget) (f : TargetLines)
      → slice_get ts i ≡ Some t → slice_get fs i ≡ Some f
      → text_of (All (drop i ts) (drop i fs))
      ≡ text_of (target_lines ds scope files budget t t.defs (lines_of f))
      ++ text_of (All (drop (i + 1) ts) (drop (i + 1) fs))
  next_target ts fs i t f t_at f_at =
      ap (λ us. text_of (All us (drop i fs))) (drop_next ts i t t_at)
      ∙ ap (λ gs. text_of (All (t ∷ drop (i + 1) ts) gs)) (drop_next fs i f f_at)
      ∙ text_append (target_lines ds scope files budget t t.defs (lines_of f)) (All (drop (i + 1) ts) (drop (i + 1) fs))

  pub all_passed : (ts : List TableTarget) (fs : List TargetLines) (i : ℕ) → length fs ≡ length ts → length fs ≤ i
      → text_of (All (drop i ts) (drop i fs)) ≡ []
  all_passed ts fs i same short =
      ap (λ us. text_of (All us (drop i fs))) (drop_past ts i (omega (arith, same, short)))

-- ---- the certificate

abbrev pub Dues : List TableTarget → List TargetLines → List (List ℕ)
Dues ts fs = due_lines version.One (map TargetDue ts ++ []) (map cited_tree fs)

pub next_due : (ts : List TableTarget) (fs : List TargetLines) (i : ℕ) (t : TableTarget) (f : TargetLines)
    → slice_get ts i ≡ Some t → slice_get fs i ≡ Some f
    → text_of (Dues (drop i ts) (drop i fs))
    ≡ text_of (heading_line (TargetDue t) ∷ tree_lines version.One (cited_tree f))
    ++ text_of (Dues (drop (i + 1) ts) (drop (i + 1) fs))
next_due ts fs i t f t_at f_at =
    ap (λ us. text_of (Dues us (drop i fs))) (drop_next ts i t t_at)
    ∙ ap (λ gs. text_of (Dues (t ∷ drop (i + 1) ts) gs)) (drop_next fs i f f_at)
    ∙ text_append (heading_line (TargetDue t) ∷ tree_lines version.One (cited_tree f))
    (Dues (drop (i + 1) ts) (drop (i + 1) fs))

pub dues_passed : (ts : List TableTarget) (fs : List TargetLines) (i : ℕ) → length fs ≡ length ts → length fs ≤ i
    → Dues (drop i ts) (drop i fs) ≡ Dues [] []
dues_passed ts fs i same short =
    ap (λ us. Dues us (drop i fs)) (drop_past ts i (omega (arith, same, short)))
    ∙ ap (Dues []) (drop_past fs i short)

-- ---- the lines of a table

module _ (program : Program) (table : Table) (budget : ℕ) where
  pub dead_more : (ts : List TableTarget) (fs : List TargetLines) → AreDeadLines program table budget ts fs
      → (t : TableTarget) (f : TargetLines) → IsSaidOf program table budget t f
      → AreDeadLines program table budget (ts ++ t ∷ []) (fs ++ f ∷ [])
  dead_more [] [] are t f is = (is, tt)
  dead_more [] (g ∷ fs) are t f is = absurd (are)
  dead_more (u ∷ ts) [] are t f is = absurd (are)
  dead_more (u ∷ ts) (g ∷ fs) are t f is = (are.0, dead_more ts fs are.1 t f is)

  pub as_many : (ts : List TableTarget) (fs : List TargetLines) → AreDeadLines program table budget ts fs
      → length fs ≡ length ts
  as_many [] [] are = refl
  as_many [] (g ∷ fs) are = absurd (are)
  as_many (u ∷ ts) [] are = absurd (are)
  as_many (u ∷ ts) (g ∷ fs) are = let rest = as_many ts fs are.1 in omega (arith, rest)

-- ---- the whole

-- what ends with a text that is pushed
pub ends_pushed : {A E : Type 0} (r : Result A E) (P : Type 0) (old new more : List ℕ)
    → new ≡ (if is_ok r then old ++ more else old) → (new ≡ old ++ more → P) → OnOk r P
ends_pushed (Ok a) P old new more is go = go is
ends_pushed (Err e) P old new more is go = tt

-- a first line with lines behind
pub lines_behind : (head : List ℕ) (lines : List (List ℕ)) (old new : List ℕ) → old ≡ head ++ 10 ∷ []
    → new ≡ old ++ text_of lines → new ≡ text_of (head ∷ lines)
lines_behind head lines old new first grown =
    grown ∙ ap (λ (t : List ℕ). t ++ text_of lines) first ∙ append_assoc head (10 ∷ []) (text_of lines)

module _ (table : Table) (fs : List TargetLines) where
  abbrev Due : List (List ℕ)
  Due = first_line ∷ due_lines version.One (dues_of (table ∷ [])) (map cited_tree fs)

  pub no_certificate : list_all (λ f. f.whole) fs ≡ false → certificate_lines table fs ≡ []
  no_certificate part = ap (λ (b : Bool). if b then Due else []) part

  pub with_certificate : list_all (λ f. f.whole) fs ≡ true → certificate_lines table fs
      ≡ first_line ∷ due_lines version.One (dues_of (table ∷ [])) (map cited_tree fs)
  with_certificate all = ap (λ (b : Bool). if b then Due else []) all

-- ---- the status

any_mapped : {A B : Type 0} (f : A → B) (test : B → Bool) (xs : List A)
    → list_any (λ x. test (f x)) xs ≡ list_any test (map f xs)
any_mapped f test [] = refl
any_mapped f test (x ∷ xs) = ap (λ b. test (f x) || b) (any_mapped f test xs)

all_mapped : {A B : Type 0} (f : A → B) (test : B → Bool) (xs : List A)
    → list_all (λ x. test (f x)) xs ≡ list_all test (map f xs)
all_mapped f test [] = refl
all_mapped f test (x ∷ xs) = ap (λ b. test (f x) && b) (all_mapped f test xs)

pub never_there : (f : TargetLines)
    → list_any (λ (place : ℕ). is_never (slice_get f.lines place)) f.places ≡ list_any is_never (lines_of f)
never_there f = any_mapped (λ (place : ℕ). slice_get f.lines place) is_never f.places

pub decider_there : (f : TargetLines)
    → list_all (λ (place : ℕ). is_decider (slice_get f.lines place)) f.places ≡ list_all is_decider (lines_of f)
decider_there f = all_mapped (λ (place : ℕ). slice_get f.lines place) is_decider f.places
