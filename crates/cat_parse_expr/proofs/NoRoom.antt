-- The reader that reads nothing for want of room.
use Rattle.std.proofs.Common.{◌≡◌, ℕ, ◌≤◌, Bool, true, false, List, [], ◌∷◌, ◌++◌, None, refl, sym, ap, ◌∙◌}
use Rattle.std.proofs.Common.{append_assoc}
use Rattle.cat_parse_expr.proofs.Common.{Token, TokenKind, Measured, nothing_at, ReadsAsFar, opening_of, opening_at}
use Rattle.cat_parse_expr.proofs.Common.{stands, Fails, Agree, Is, Taken, Says, Alike, IsMeasured, operand_row}
use Rattle.cat_parse_expr.proofs.Firsts.{class_of}
use Rattle.cat_parse_expr.proofs.Joining.{no_front}
use Rattle.cat_parse_expr.proofs.Openers.{opens_with}
use Rattle.cat_parse_expr.proofs.Read.{IsRead}
use Rattle.cat_parse_expr.proofs.Sampled.{sampled}
use Rattle.cat_parse_expr.proofs.Sampling.{name_sample}
use Rattle.cat_parse_expr.proofs.Standing.{stands_all}
use Rattle.cat_parse_expr.proofs.Truth.{clash}

-- the next word of an operand
pub operand_opens : (k : ℕ) (y : Measured) (w v : List Token) → Is IsMeasured (operand_row k) y w
    → opening_at (w ++ v) ≡ class_of y.node
operand_opens k y w v i =
    let s = i.spelled in
    ap (λ (u : List Token). opening_at (u ++ v)) (s.2 ∙ ap (λ (u : List Token). s.0 ++ u) s.4)
    ∙ ap opening_at (append_assoc s.0 [] v) ∙ opens_with y.node s.0 v s.3

pub operand_stands : (k : ℕ) (y : Measured) (w v : List Token) → Is IsMeasured (operand_row k) y w
    → stands k (opening_at (w ++ v)) ≡ true
operand_stands k y w v i =
    ap (stands k) (operand_opens k y w v i) ∙ stands_all y.node k i.levels.1 i.levels.0

agree_opens : (ts others : List Token) → Agree ts others → opening_at ts ≡ opening_at others
agree_opens [] [] g = refl
agree_opens [] (q ∷ qs) g = absurd g
agree_opens (p ∷ ps) [] g = absurd g
agree_opens (p ∷ ps) (q ∷ qs) g = ap (λ (t : Token). opening_of t.kind) g

module _ (low : Measured → Type 0) (out : Measured → List Token → Type 0) (looks : TokenKind → Bool) (k : ℕ)
    (le : k ≤ 9)
    (high : (y : Measured) → IsMeasured y → low y → ⊥) where
  taken_by : (ts : List Token) (c : Bool) → stands k (opening_at ts) ≡ c
      → Taken low IsMeasured (operand_row k) (Fails ts c None) ts
  taken_by ts false e = record { front = []; text = refl; took = name_sample k le }
  taken_by [] true e = absurd cc
  taken_by (p ∷ ts) true e =
      record {
        front = [];
        text = refl;
        took = record { next = p; after = ts; text = refl; begun = sampled k p le e };
      }

  says_by : (ts front : List Token) (y : Measured) (w : List Token) → ts ≡ front ++ ts → (c : Bool)
      → stands k (opening_at ts) ≡ c → Alike out looks IsMeasured (operand_row k) (Fails ts c None) front y w
      → Says low (Fails ts c None) y w front
  says_by ts front y w text true e a = high y a.is.fit
  says_by ts front y w text false e a =
      clash (stands k (opening_at ts))
      (ap (stands k) (agree_opens ts a.others a.seen
      ∙ ap opening_at (sym (a.text ∙ ap (λ (u : List Token). u ++ a.others) (no_front front ts text))))
      ∙ operand_stands k y w a.behind a.is) e

  longest_by : (ts : List Token) (y : Measured) (w v : List Token) → ts ≡ w ++ v → Is IsMeasured (operand_row k) y w
      → (c : Bool) → stands k (opening_at ts) ≡ c → ReadsAsFar low (Fails ts c None) y v
  longest_by ts y w v text i true e = high y i.fit
  longest_by ts y w v text i false e =
      clash (stands k (opening_at ts)) (ap (λ (u : List Token). stands k (opening_at u)) text
      ∙ operand_stands k y w v i) e

  pub nothing_read : {K : Type 0} → IsRead (λ y. y) K (Unit {0}) (Unit {0}) low out looks IsMeasured (operand_row k)
      (nothing_at k)
  nothing_read = record {
    reader = nothing_at k;
    maps = λ ts. refl;
    alive = λ f. name_sample k le;
    right =
        λ f c bound. record {
          alive = name_sample k le;
          taken = λ ts less. taken_by ts (stands k (opening_at ts)) refl;
          says = λ ts front y w less text a. says_by ts front y w text (stands k (opening_at ts)) refl a;
        };
    keeps =
        λ n f c bound. record {
          longest = λ ts y w v less text i. longest_by ts y w v text i (stands k (opening_at ts)) refl;
          stood = λ ts less. tt;
        };
  }
