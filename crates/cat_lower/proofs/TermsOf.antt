-- A part that adds the code of the form of a term adds the code of the term.
use Rattle.std.proofs.Common.{◌≡◌, ◌∙◌, ◌<◌, ℕ, zero, suc, ◌+◌, take, drop, length, get_or, Bool, true, false, List, []}
use Rattle.std.proofs.Common.{◌∷◌, map, Result, OnOk, refl, sym, ap, subst}
use Rattle.std.specs.declared.alloc.AllocError.{AllocError}
use Rattle.cat_pos.specs.declared.pos.Pos.{Pos}
use Rattle.cat_scope.specs.declared.expr.Expr.{Expr}
use Rattle.cat_value.specs.declared.ty.Ty.{Ty}
use Rattle.cat_calc.specs.declared.term.Justification.{Justification}
use Rattle.cat_calc.specs.declared.term.Justification.TheVariants as justification
use Rattle.cat_calc.specs.declared.term.DefaultTerm.{DefaultTerm}
use Rattle.cat_calc.specs.declared.term.DefaultTerm.TheVariants as leaf
use Rattle.cat_calc.specs.declared.term.DefaultTerm.TheViews as term
use Rattle.cat_code.specs.declared.instr.Instr.TheVariants as instr
use Rattle.cat_lower.specs.declared.growing.Growing.{Growing}
use Rattle.cat_lower.specs.Grown.{Grown}
use Rattle.cat_lower.specs.declared.scene.LoweringScene.{LoweringScene}
use Rattle.cat_lower.specs.declared.terms.TypedTarget.{TypedTarget}
use Rattle.cat_lower.specs.Laying.{Coded, one, then_code, over}
use Rattle.cat_lower.specs.Terms.{TermStanding, value_code, default_code, term_code, checked_code, is_never}
use Rattle.cat_lower.specs.Terms.{wants_frame, under, otherwise, framed}
use Rattle.cat_lower.specs.Told.{term_standing}
use Rattle.cat_lower.proofs.Rests.{next}
use Rattle.cat_lower.proofs.TermEquations.{code_Empty, code_Consequence, code_Default}
use Rattle.cat_lower.proofs.Grows.{grown_none}

pub term_Empty : (growing : Growing) (at : TermStanding) (whole : DefaultTerm) → whole ≡ leaf.Empty
    → Grown growing growing (term_code at whole)
term_Empty growing at whole is =
    subst (λ (t : DefaultTerm). Grown growing growing (term_code at t)) (sym is)
    (subst (λ (c : Coded). Grown growing growing c) (sym (code_Empty at)) (grown_none growing))

pub term_Consequence : (r : Result Unit AllocError) (old new : Growing) (at : TermStanding) (number : ℕ) (p : Pos)
    (e : Expr)
    → OnOk r (Grown old new (then_code (value_code at e) (one (instr.Hold (at.here.definitions + number)))))
    → OnOk r (Grown old new (term_code at (leaf.Consequence number p e)))
term_Consequence r old new at number p e h =
    subst (λ (c : Coded). OnOk r (Grown old new c)) (sym (code_Consequence at number p e)) h

pub term_Default : (r : Result Unit AllocError) (old new : Growing) (at : TermStanding) (ts : List DefaultTerm)
    (j : Justification) (t : DefaultTerm)
    → OnOk r (Grown old new (default_code at (map (term_code at) ts) j (term_code at t)))
    → OnOk r (Grown old new (term_code at (term.Default ts j t)))
term_Default r old new at ts j t h = subst (λ (c : Coded). OnOk r (Grown old new c)) (sym (code_Default at ts j t)) h

-- the same under the same names
pub kept_term : (old new : Growing) (here : LoweringScene) (aim : TypedTarget) (term : DefaultTerm)
    (later first : List Ty) → later ≡ first
    → Grown old new (term_code (term_standing here aim later) term)
    → Grown old new (term_code (term_standing here aim first) term)
kept_term old new here aim term later first is g =
    subst (λ (ls : List Ty). Grown old new (term_code (term_standing here aim ls) term)) is g

pub kept_checked : (old new : Growing) (here : LoweringScene) (aim : TypedTarget) (term : DefaultTerm) (b : Bool)
    (later first : List Ty) → later ≡ first
    → Grown old new (checked_code (term_standing here aim later) b (term_code (term_standing here aim later) term))
    → Grown old new (checked_code (term_standing here aim first) b (term_code (term_standing here aim first) term))
kept_checked old new here aim term b later first is g =
    subst (λ (ls : List Ty). Grown old new
    (checked_code (term_standing here aim ls) b (term_code (term_standing here aim ls) term))) is g

pub kept_otherwise : (old new : Growing) (here : LoweringScene) (aim : TypedTarget) (j : Justification)
    (term : DefaultTerm) (later first : List Ty) → later ≡ first
    → Grown old new (otherwise (term_standing here aim later) j (term_code (term_standing here aim later) term))
    → Grown old new (otherwise (term_standing here aim first) j (term_code (term_standing here aim first) term))
kept_otherwise old new here aim j term later first is g =
    subst (λ (ls : List Ty). Grown old new
    (otherwise (term_standing here aim ls) j (term_code (term_standing here aim ls) term))) is g

-- a default with exceptions that wants a frame
first_framed : (at : TermStanding) (first : DefaultTerm) (rest : List DefaultTerm) (j : Justification) (a : Coded)
    → wants_frame j rest ≡ true
    → framed at (map (term_code at) (first ∷ rest)) j a ≡ default_code at (map (term_code at) (first ∷ rest)) j a
first_framed at first [] justification.Never a is = absurd (cc is)
first_framed at first [] justification.Always a is = refl
first_framed at first [] (justification.Where e) a is = refl
first_framed at first (t ∷ rest) justification.Never a is = refl
first_framed at first (t ∷ rest) justification.Always a is = refl
first_framed at first (t ∷ rest) (justification.Where e) a is = refl

wants_more : (j : Justification) (n : ℕ) (rest : List DefaultTerm) → wants_frame j (take n rest) ≡ true
    → wants_frame j rest ≡ true
wants_more justification.Never zero [] is = is
wants_more justification.Never (suc n) [] is = is
wants_more justification.Never n (t ∷ rest) is = refl
wants_more justification.Always n rest is = refl
wants_more (justification.Where e) n rest is = refl

-- the same, by what was read of the exceptions
pub default_framed : (at : TermStanding) (es ys : List DefaultTerm) (first : DefaultTerm) (n : ℕ) (j : Justification)
    (a : Coded) → ys ≡ es
    → 0 < length ys → first ≡ get_or ys 0 first → wants_frame j (take n (drop 1 ys)) ≡ true
    → framed at (map (term_code at) es) j a ≡ default_code at (map (term_code at) es) j a
default_framed at es ys first n j a same long is wants =
    let whole : es ≡ first ∷ drop 1 es = next es ys 0 first same long is in
    let more : wants_frame j (drop 1 es) ≡ true =
    subst (λ (l : List DefaultTerm). wants_frame j (drop 1 l) ≡ true) same (wants_more j n (drop 1 ys) wants) in
    ap (λ (ts : List DefaultTerm). framed at (map (term_code at) ts) j a) whole
    ∙ first_framed at first (drop 1 es) j a more
    ∙ sym (ap (λ (ts : List DefaultTerm). default_code at (map (term_code at) ts) j a) whole)

-- what stands behind exceptions, where something does
pub otherwise_over : (at : TermStanding) (j : Justification) (a : Coded) → is_never j ≡ false
    → over (λ t. instr.Held t) (under at j (checked_code at true a)) ≡ otherwise at j a
otherwise_over at justification.Never a is = absurd (cc is)
otherwise_over at justification.Always a is = refl
otherwise_over at (justification.Where e) a is = refl
