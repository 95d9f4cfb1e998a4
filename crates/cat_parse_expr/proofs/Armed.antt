-- Lists of arms, and their one row.
use Rattle.std.proofs.Common.{◌≡◌, ℕ, max, false, List, [], ◌∷◌, ◌++◌, None, Some, refl, sym, ap, subst, ◌∙◌, arith}
use Rattle.std.proofs.Common.{map, append_assoc, append-nil}
use Rattle.cat_lex.specs.declared.symbol.Symbol.TheVariants as symbol
use Rattle.cat_tree.specs.declared.expression.Pattern.TheVariants as pattern
use Rattle.cat_parse_expr.proofs.Common.{Token, Phrase, Parts, End, Word, Part, Operand, ◌▹◌, sign, part, phrase}
use Rattle.cat_parse_expr.proofs.Common.{arm_row, Measured, measured_of, IsMeasured, ◌▸◌, all, AreLevelled, AreSpelled}
use Rattle.cat_parse_expr.proofs.Common.{IsLevelled, SurfaceArm, arms, pattern_parts, MatchArms, with_arm, Pattern}
use Rattle.cat_parse_expr.proofs.Common.{Bare, Qualified, Inner, Stand, Stands, Terminal, Parsed, Reader, Fails, Reads}
use Rattle.cat_parse_expr.proofs.Common.{after, pure, ◌⨟◌}
use Rattle.cat_parse_expr.proofs.Lists.{put_all}
use Rattle.cat_parse_expr.proofs.Operands.{match_is}

-- ---- lists of arms

abbrev pub Armed : Type 0
Armed = Pattern × Measured

abbrev pub arms_of : List Armed → List SurfaceArm
arms_of [] = []
arms_of (x ∷ xs) = record { pattern = x.0; body = x.1.node } ∷ arms_of xs

abbrev pub arm_rows : List Armed → List (Pattern × Phrase)
arm_rows [] = []
arm_rows (x ∷ xs) = (x.0, phrase x.1.node) ∷ arm_rows xs

abbrev pub highest_of : List Armed → ℕ
highest_of [] = 0
highest_of (x ∷ xs) = max x.1.height (highest_of xs)

abbrev pub armed_of : List SurfaceArm → List Armed
armed_of [] = []
armed_of (a ∷ more) = (a.pattern, measured_of a.body) ∷ armed_of more

pub arms_back : (xs : List SurfaceArm) → arms_of (armed_of xs) ≡ xs
arms_back [] = refl
arms_back (a ∷ more) = ap (λ (z : List SurfaceArm). a ∷ z) (arms_back more)

pub rows_are : (xs : List Armed) → map arm_row (arms_of xs) ≡ arm_rows xs
rows_are [] = refl
rows_are (x ∷ xs) = ap (λ (z : List (Pattern × Phrase)). (x.0, phrase x.1.node) ∷ z) (rows_are xs)

abbrev pub put_arm : MatchArms → Armed → MatchArms
put_arm l x = with_arm l x.0 x.1

abbrev pub arms_from : MatchArms → List Armed → MatchArms
arms_from = put_all put_arm

pub arms_are : (l : MatchArms) (xs : List Armed) → (arms_from l xs).arms ≡ l.arms ++ arms_of xs
arms_are l [] = sym (append-nil l.arms)
arms_are l (x ∷ xs) =
    arms_are (with_arm l x.0 x.1) xs
    ∙ append_assoc l.arms (record { pattern = x.0; body = x.1.node } ∷ []) (arms_of xs)

pub highest_is : (l : MatchArms) (xs : List Armed) → (arms_from l xs).tallest ≡ max l.tallest (highest_of xs)
highest_is l [] = omega arith
highest_is l (x ∷ xs) = omega (arith, highest_is (with_arm l x.0 x.1) xs)

-- one arm
abbrev pub arm_parts : Armed → Parts
arm_parts x = sign symbol.MinusMinus ▹ pattern_parts x.0 (sign symbol.Colon ▹ part 0 (phrase x.1.node) ▹ End)

-- ---- one row of them all

-- arms, of which none but the last ends in a match
abbrev pub AreArmed : Armed → List Armed → Type 0
AreArmed x [] = IsMeasured x.1
AreArmed x (y ∷ ys) = IsMeasured x.1 × (x.1.in_match ≡ false) × AreArmed y ys

pub armed_first : (x : Armed) (xs : List Armed) → AreArmed x xs → IsMeasured x.1
armed_first x [] m = m
armed_first x (y ∷ ys) m = m.0

abbrev arm_stand : Stand → Armed → Parts → Parts
arm_stand st x rest =
    sign symbol.MinusMinus ▹ pattern_parts x.0 (sign symbol.Colon ▹ Part st (phrase x.1.node) rest)

pattern_push : (a : Pattern) (ps rest : Parts) → pattern_parts a ps ▸ rest ≡ pattern_parts a (ps ▸ rest)
pattern_push pattern.Anything ps rest = refl
pattern_push (pattern.Case (Bare u) None) ps rest = refl
pattern_push (pattern.Case (Qualified d u) None) ps rest = refl
pattern_push (pattern.Case (Bare u) (Some w)) ps rest = refl
pattern_push (pattern.Case (Qualified d u) (Some w)) ps rest = refl

pattern_levels : (a : Pattern) (ps : Parts) → AreLevelled (pattern_parts a ps) ≡ AreLevelled ps
pattern_levels pattern.Anything ps = refl
pattern_levels (pattern.Case (Bare u) None) ps = refl
pattern_levels (pattern.Case (Qualified d u) None) ps = refl
pattern_levels (pattern.Case (Bare u) (Some w)) ps = refl
pattern_levels (pattern.Case (Qualified d u) (Some w)) ps = refl

pub record Respells (ps qs : Parts) : Type 0 where
  pub to : (w : List Token) → AreSpelled ps w → AreSpelled qs w

word_respelled : {m : Terminal} {ps qs : Parts} → Respells ps qs → Respells (Word m ps) (Word m qs)
word_respelled f = record { to = λ w s. (s.0, s.1, s.2, s.3, f.to s.1 s.4) }

pattern_respelled : (a : Pattern) (ps qs : Parts) → Respells ps qs → Respells (pattern_parts a ps) (pattern_parts a qs)
pattern_respelled pattern.Anything ps qs f = word_respelled f
pattern_respelled (pattern.Case (Bare u) None) ps qs f = word_respelled f
pattern_respelled (pattern.Case (Qualified d u) None) ps qs f = word_respelled (word_respelled (word_respelled f))
pattern_respelled (pattern.Case (Bare u) (Some w)) ps qs f = word_respelled (word_respelled (word_respelled f))
pattern_respelled (pattern.Case (Qualified d u) (Some w)) ps qs f =
    word_respelled (word_respelled (word_respelled (word_respelled (word_respelled f))))

restood : (st st2 : Stand) (x : Armed) (rest rest2 : Parts) → Respells rest rest2
    → Respells (arm_stand st x rest) (arm_stand st2 x rest2)
restood st st2 x rest rest2 f =
    word_respelled (pattern_respelled x.0 (sign symbol.Colon ▹ Part st (phrase x.1.node) rest)
    (sign symbol.Colon ▹ Part st2 (phrase x.1.node) rest2)
    (word_respelled (record { to = λ w s. (s.0, s.1, s.2, s.3, f.to s.1 s.4) })))

stand_levels : (st : Stand) (x : Armed) (rest : Parts) → AreLevelled (arm_stand st x rest)
    ≡ (Stands st (phrase x.1.node) × IsLevelled (phrase x.1.node) × AreLevelled rest)
stand_levels st x rest = pattern_levels x.0 (sign symbol.Colon ▹ Part st (phrase x.1.node) rest)

abbrev pub chain_row_of : Armed → List Armed → Parts
chain_row_of x xs = arm_parts x ▸ all arm_parts xs

abbrev pub arms_row_of : Armed → List Armed → Parts
arms_row_of x xs = arms (arm_rows (x ∷ xs))

chain_stand : (x : Armed) (xs : List Armed) → chain_row_of x xs ≡ arm_stand (Operand 0) x (all arm_parts xs)
chain_stand x xs =
    ap (λ (ps : Parts). sign symbol.MinusMinus ps)
    (pattern_push x.0 (sign symbol.Colon ▹ part 0 (phrase x.1.node) ▹ End) (all arm_parts xs))

pub to_arms_spelled : (x : Armed) (xs : List Armed) → Respells (chain_row_of x xs) (arms_row_of x xs)
to_arms_spelled x [] = record { to = λ w s. subst (λ (ps : Parts). AreSpelled ps w) (chain_stand x []) s }
to_arms_spelled x (y ∷ ys) =
    let f = restood (Operand 0) Inner x (chain_row_of y ys) (arms_row_of y ys) (to_arms_spelled y ys) in
    record { to = λ w s. f.to w (subst (λ (ps : Parts). AreSpelled ps w) (chain_stand x (y ∷ ys)) s) }

pub from_arms_spelled : (x : Armed) (xs : List Armed) → Respells (arms_row_of x xs) (chain_row_of x xs)
from_arms_spelled x [] = record { to = λ w s. subst (λ (ps : Parts). AreSpelled ps w) (sym (chain_stand x [])) s }
from_arms_spelled x (y ∷ ys) =
    let f = restood Inner (Operand 0) x (arms_row_of y ys) (chain_row_of y ys) (from_arms_spelled y ys) in
    record { to = λ w s. subst (λ (ps : Parts). AreSpelled ps w) (sym (chain_stand x (y ∷ ys))) (f.to w s) }

cast_type : {A B : Type 0} → A ≡ B → A → B
cast_type e a = subst (λ (X : Type 0). X) e a

pub to_arms_levels : (x : Armed) (xs : List Armed) → AreArmed x xs → AreLevelled (chain_row_of x xs)
    → AreLevelled (arms_row_of x xs)
to_arms_levels x [] m l = subst AreLevelled (chain_stand x []) l
to_arms_levels x (y ∷ ys) m l =
    let s = cast_type (stand_levels (Operand 0) x (chain_row_of y ys)) (subst AreLevelled (chain_stand x (y ∷ ys)) l) in
    cast_type (sym (stand_levels Inner x (arms_row_of y ys)))
    (sym (match_is x.1 m.0) ∙ m.1, s.1, to_arms_levels y ys m.2 s.2)

pub from_arms_levels : (x : Armed) (xs : List Armed) → AreLevelled (arms_row_of x xs) → AreLevelled (chain_row_of x xs)
from_arms_levels x [] l = subst AreLevelled (sym (chain_stand x [])) l
from_arms_levels x (y ∷ ys) l =
    let s = cast_type (stand_levels Inner x (arms_row_of y ys)) l in
    subst AreLevelled (sym (chain_stand x (y ∷ ys)))
    (cast_type (sym (stand_levels (Operand 0) x (chain_row_of y ys))) (omega arith, s.1, from_arms_levels y ys s.2))

-- arms that stand where they may are such
pub levelled_armed : (a : SurfaceArm) (more : List SurfaceArm) → AreLevelled (arms (map arm_row (a ∷ more)))
    → AreArmed (a.pattern, measured_of a.body) (armed_of more)
levelled_armed a [] l = refl
levelled_armed a (c ∷ more) l =
    let s = cast_type (pattern_levels a.pattern
    (sign symbol.Colon ▹ Part Inner (phrase a.body) (arms (map arm_row (c ∷ more))))) l in
    (refl, s.0, levelled_armed c more s.2)

pub head_regrouped : {A B C D : Type 0} (o : Parsed A) (second : Reader B) (third : Reader C) (g : B → Reader D)
    → after (after o (λ p. second ⨟ λ a. third ⨟ λ q. pure a)) g ≡ after o (λ p. second ⨟ λ a. third ⨟ λ q. g a)
head_regrouped (Fails left deep whole) second third g = refl
head_regrouped {B = B} {C = C} {D = D} (Reads p left) second third g = by (second left)
  where
    inner : (a : B) (o : Parsed C) → after {B = D} (after {B = B} o (λ q. pure a)) g ≡ after o (λ q. g a)
    inner a (Fails l d f) = refl
    inner a (Reads q l) = refl

    by : (o : Parsed B) → after {B = D} (after {B = B} o (λ a. third ⨟ λ q. pure a)) g ≡ after o (λ a. third ⨟ λ q. g a)
    by (Fails l d f) = refl
    by (Reads a l) = inner a (third l)
