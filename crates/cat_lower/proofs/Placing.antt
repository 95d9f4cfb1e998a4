-- Positions that are put at the numbers of their definitions.
use Rattle.std.proofs.Common.{◌≡◌, ◌≤◌, ◌<◌, ℕ, zero, suc, List, [], ◌∷◌, ◌++◌, length, map, Result, Ok, Err, OnOk}
use Rattle.std.proofs.Common.{refl, sym, ap, ◌∙◌, arith}
use Rattle.std.specs.Prelude.{slice_set}
use Rattle.std.specs.declared.alloc.AllocError.{AllocError}
use Rattle.cat_pos.specs.declared.pos.Pos.{Pos}
use Rattle.cat_scope.specs.declared.expr.Expr.{Expr}
use Rattle.cat_scope.specs.Judging.{Held}
use Rattle.cat_calc.specs.declared.term.Justification.{Justification}
use Rattle.cat_calc.specs.declared.term.DefaultTerm.{DefaultTerm}
use Rattle.cat_calc.specs.declared.term.DefaultTerm.TheVariants as leaf
use Rattle.cat_calc.specs.declared.term.DefaultTerm.TheViews as term
use Rattle.cat_calc.specs.Terms.{all_in, consequences_in}
use Rattle.cat_calc.proofs.Exported.{consequences_Empty, consequences_Consequence, consequences_Default}
use Rattle.cat_lower.specs.Definitions.{placed, all_placed, terms_placed}

-- a number that has a position
pub placed_within : (n : ℕ) (p : Pos) (ps : List Pos) → n < length ps → slice_set ps n p ≡ placed n p ps
placed_within n p [] less = absurd (omega (arith, less))
placed_within zero p (q ∷ ps) less = refl
placed_within (suc n) p (q ∷ ps) less = ap (λ l. q ∷ l) (placed_within n p ps (omega (arith, less)))

-- one position more in front of the number
pub placed_push : (n : ℕ) (p : Pos) (ps : List Pos) → length ps ≤ n → placed n p (ps ++ p ∷ []) ≡ placed n p ps
placed_push zero p [] le = refl
placed_push zero p (q ∷ ps) le = absurd (omega (arith, le))
placed_push (suc n) p [] le = refl
placed_push (suc n) p (q ∷ ps) le = ap (λ l. q ∷ l) (placed_push n p ps (omega (arith, le)))

placed_both : (hs gs : List (Held Expr)) (ps : List Pos) → all_placed (hs ++ gs) ps ≡ all_placed gs (all_placed hs ps)
placed_both [] gs ps = refl
placed_both (h ∷ hs) gs ps = placed_both hs gs (placed h.number h.pos ps)

placed_terms : (ts : List DefaultTerm) (ps : List Pos)
    → all_placed (all_in (map consequences_in ts)) ps ≡ terms_placed ts ps
placed_terms [] ps = refl
placed_terms (t ∷ ts) ps =
    placed_both (consequences_in t) (all_in (map consequences_in ts)) ps
    ∙ placed_terms ts (all_placed (consequences_in t) ps)

pub placed_Empty : (whole : DefaultTerm) (ps : List Pos) → whole ≡ leaf.Empty
    → ps ≡ all_placed (consequences_in whole) ps
placed_Empty whole ps is =
    sym (ap (λ (t : DefaultTerm). all_placed (consequences_in t) ps) is
    ∙ ap (λ (hs : List (Held Expr)). all_placed hs ps) consequences_Empty)

pub placed_Consequence : (n : ℕ) (p : Pos) (e : Expr) (ps : List Pos)
    → placed n p ps ≡ all_placed (consequences_in (leaf.Consequence n p e)) ps
placed_Consequence n p e ps = sym (ap (λ (hs : List (Held Expr)). all_placed hs ps) (consequences_Consequence n p e))

pub placed_Default : (ts : List DefaultTerm) (j : Justification) (t : DefaultTerm) (ps : List Pos)
    → all_placed (consequences_in t) (terms_placed ts ps) ≡ all_placed (consequences_in (term.Default ts j t)) ps
placed_Default ts j t ps =
    sym (ap (λ (hs : List (Held Expr)). all_placed hs ps) (consequences_Default ts j t)
    ∙ placed_both (all_in (map consequences_in ts)) (consequences_in t) ps
    ∙ ap (λ (l : List Pos). all_placed (consequences_in t) l) (placed_terms ts ps))

pub placed_Consequence_ok : (r : Result Unit AllocError) (new ps : List Pos) (whole : DefaultTerm) (n : ℕ) (p : Pos)
    (e : Expr)
    → whole ≡ leaf.Consequence n p e → OnOk r (new ≡ placed n p ps)
    → OnOk r (new ≡ all_placed (consequences_in whole) ps)
placed_Consequence_ok (Err x) new ps whole n p e is h = tt
placed_Consequence_ok (Ok u) new ps whole n p e is h =
    h ∙ placed_Consequence n p e ps ∙ sym (ap (λ (t : DefaultTerm). all_placed (consequences_in t) ps) is)

pub placed_Default_ok : (r : Result Unit AllocError) (new mid ps : List Pos) (whole : DefaultTerm)
    (ts : List DefaultTerm) (j : Justification)
    (t last : DefaultTerm) → whole ≡ term.Default ts j t → last ≡ t → mid ≡ terms_placed ts ps
    → OnOk r (new ≡ all_placed (consequences_in last) mid) → OnOk r (new ≡ all_placed (consequences_in whole) ps)
placed_Default_ok (Err x) new mid ps whole ts j t last is same placed h = tt
placed_Default_ok (Ok u) new mid ps whole ts j t last is same placed h =
    h ∙ ap (λ (s : DefaultTerm). all_placed (consequences_in s) mid) same
    ∙ ap (λ (l : List Pos). all_placed (consequences_in t) l) placed
    ∙ placed_Default ts j t ps ∙ sym (ap (λ (s : DefaultTerm). all_placed (consequences_in s) ps) is)
