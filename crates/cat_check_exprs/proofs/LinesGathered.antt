-- Lines that are found one after another, behind what was said before.
use Rattle.std.proofs.Common.{◌≡◌, ◌∙◌, ℕ, ◌+◌, ◌<◌, List, [], ◌∷◌, ◌++◌, Option, Ok, Err, length, drop, map}
use Rattle.std.proofs.Common.{get_or, refl, ap, sym, subst}
use Rattle.std.proofs.lemmas.List.{append_assoc, drop_more}
use Rattle.cat_scope.specs.declared.defs.Def.{Def}
use Rattle.cat_scope.specs.declared.defs.Assertion as asserted
use Rattle.cat_scope.specs.declared.defs.SourcePart.{SourcePart}
use Rattle.cat_names.specs.declared.fault.Refusal.{Refusal}
use Rattle.cat_names.specs.declared.fault.Refusal.TheVariants.{Memory, Refused}
use Rattle.cat_names.specs.declared.typed.Typed.{Typed}
use Rattle.cat_names.specs.Bodies.{defs_in, assertions_in, source_part}
use Rattle.cat_names.specs.Found.{Found, Tells, and_then, both}
use Rattle.cat_names.specs.Lines.{Line, Declaration, Condition, Definition, Assertion, all_lines, condition_lines}
use Rattle.cat_names.proofs.Exported.{left_tells, then_tells}
use Rattle.cat_check_exprs.specs.declared.said.Said.{Said}
use Rattle.cat_check_exprs.specs.Saying.{behind, with_lines}

-- ---- words on lines in two parts

defs_append : (xs ys : List Line) → defs_in (xs ++ ys) ≡ defs_in xs ++ defs_in ys
defs_append [] ys = refl
defs_append (Declaration ∷ xs) ys = defs_append xs ys
defs_append (Condition e ∷ xs) ys = defs_append xs ys
defs_append (Definition d ∷ xs) ys = ap (λ ds. d ∷ ds) (defs_append xs ys)
defs_append (Assertion a ∷ xs) ys = defs_append xs ys

assertions_append : (xs ys : List Line) → assertions_in (xs ++ ys) ≡ assertions_in xs ++ assertions_in ys
assertions_append [] ys = refl
assertions_append (Declaration ∷ xs) ys = assertions_append xs ys
assertions_append (Condition e ∷ xs) ys = assertions_append xs ys
assertions_append (Definition d ∷ xs) ys = assertions_append xs ys
assertions_append (Assertion a ∷ xs) ys = ap (λ more. a ∷ more) (assertions_append xs ys)

parts_append : (xs ys : List Line) → map source_part (xs ++ ys) ≡ map source_part xs ++ map source_part ys
parts_append [] ys = refl
parts_append (x ∷ xs) ys = ap (λ more. source_part x ∷ more) (parts_append xs ys)

said_is : (a d : List Def) (b e : List asserted.Assertion) (c f : List SourcePart) → a ≡ d → b ≡ e → c ≡ f
    → ◌≡◌ {A = Said} (record { defs = a; assertions = b; source = c })
    (record { defs = d; assertions = e; source = f })
said_is a d b e c f defs assertions source = rw (defs, assertions, source) refl

pub with_more : (said : Said) (xs ys : List Line)
    → with_lines (with_lines said xs) ys ≡ with_lines said (xs ++ ys)
with_more said xs ys = said_is ((said.defs ++ defs_in xs) ++ defs_in ys) (said.defs ++ defs_in (xs ++ ys))
    ((said.assertions ++ assertions_in xs) ++ assertions_in ys) (said.assertions ++ assertions_in (xs ++ ys))
    ((said.source ++ map source_part xs) ++ map source_part ys) (said.source ++ map source_part (xs ++ ys))
    (append_assoc said.defs (defs_in xs) (defs_in ys) ∙ ap (λ ds. said.defs ++ ds) (sym (defs_append xs ys)))
    (append_assoc said.assertions (assertions_in xs) (assertions_in ys)
    ∙ ap (λ more. said.assertions ++ more) (sym (assertions_append xs ys)))
    (append_assoc said.source (map source_part xs) (map source_part ys)
    ∙ ap (λ more. said.source ++ more) (sym (parts_append xs ys)))

-- ---- lines that are found in two parts

-- the lines of both parts
abbrev pub lines_and : Found (List Line) → Found (List Line) → Found (List Line)
lines_and a b = both a b (λ xs ys. Ok (xs ++ ys))

-- where the first part is found, the second stands behind it
pub gather_on : (said mid : Said) (a b : Found (List Line)) → behind said a ≡ Ok mid
    → behind mid b ≡ behind said (lines_and a b)
gather_on said mid (Ok xs) (Ok ys) is = let same : with_lines said xs ≡ mid = cc is in
    ap Ok (ap (λ now. with_lines now ys) (sym same) ∙ with_more said xs ys)
gather_on said mid (Ok xs) (Err fs) is = refl
gather_on said mid (Err fs) b is = cc is

-- what stands in the first part stands in both
pub gather_off : (said : Said) (a b : Found (List Line)) (e : Refusal) → Tells {A = Said} (Err e) (behind said a)
    → Tells {A = Said} (Err e) (behind said (lines_and a b))
gather_off said a b e h = then_tells e (lines_and a b) (λ xs. Ok (with_lines said xs))
    (left_tells e a b (λ xs ys. Ok (xs ++ ys)) (in_part e a h))
  where
    in_part : (e : Refusal) (a : Found (List Line)) → Tells {A = Said} (Err e) (behind said a)
        → Tells {A = List Line} (Err e) a
    in_part Memory a h = tt
    in_part (Refused f) (Ok xs) h = elim h [ ]
    in_part (Refused f) (Err fs) h = h

-- a condition, and then lines
pub block_is : (cond : Found (Option Typed)) (lines : Found (List Line))
    → both cond lines (λ x more. Ok (condition_lines x ++ more))
    ≡ lines_and (and_then cond (λ x. Ok (condition_lines x))) lines
block_is (Ok x) (Ok lines) = refl
block_is (Ok x) (Err fs) = refl
block_is (Err fs) (Ok lines) = refl
block_is (Err fs) (Err gs) = refl

-- ---- lines of a list of things

-- what is left, one thing on
dropped : {A : Type 0} (xs : List A) (i : ℕ) (x : A) → i < length xs → get_or xs i x ≡ x
    → drop i xs ≡ x ∷ drop (i + 1) xs
dropped xs i x within is = drop_more xs i x within ∙ ap (λ y. y ∷ drop (i + 1) xs) is

-- the lines from a thing on: where those of that thing are found, the others stand behind them
pub turn_on : {A : Type 0} (f : A → Found (List Line)) (xs : List A) (i : ℕ) (x : A) (said mid : Said)
    (whole : Found Said) → i < length xs → get_or xs i x ≡ x → behind said (f x) ≡ Ok mid
    → behind said (all_lines f (drop i xs)) ≡ whole → behind mid (all_lines f (drop (i + 1) xs)) ≡ whole
turn_on f xs i x said mid whole within is found before =
    gather_on said mid (f x) (all_lines f (drop (i + 1) xs)) found
    ∙ ap (λ from. behind said (all_lines f from)) (sym (dropped xs i x within is)) ∙ before

-- and what stands in that thing stands in the whole
pub turn_off : {A : Type 0} (f : A → Found (List Line)) (xs : List A) (i : ℕ) (x : A) (said : Said)
    (whole : Found Said) (e : Refusal) → i < length xs → get_or xs i x ≡ x
    → Tells {A = Said} (Err e) (behind said (f x))
    → behind said (all_lines f (drop i xs)) ≡ whole → Tells {A = Said} (Err e) whole
turn_off f xs i x said whole e within is h before = subst (λ found. Tells {A = Said} (Err e) found)
    (ap (λ from. behind said (all_lines f from)) (sym (dropped xs i x within is)) ∙ before)
    (gather_off said (f x) (all_lines f (drop (i + 1) xs)) e h)
