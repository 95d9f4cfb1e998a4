-- What stood whole changes nothing of what is read, and a word that wants room is read or too high.
use Rattle.std.proofs.Common.{◌≡◌, ℕ, Bool, true, false, List, ◌++◌, Option, None, refl, sym, subst}
use Rattle.cat_parse_expr.proofs.Common.{Token, TokenKind, Parts, Parsed, Reader, Fails, Reads, left_of, hidden_in}
use Rattle.cat_parse_expr.proofs.Common.{hidden, fallen, behind_whole, latest, Taken, Says, Alike, IsRight}

-- a parse that differs at most in what stood whole
abbrev pub SameBut : {A : Type 0} → Parsed A → Parsed A → Type 0
SameBut (Fails left deep whole) p = (other : Option (List Token)) × (p ≡ Fails left deep other)
SameBut (Reads x left) p = p ≡ Reads x left

pub hidden_same : {A : Type 0} (o : Parsed A) → SameBut o (hidden_in o)
hidden_same (Fails left deep whole) = (None, refl)
hidden_same (Reads x left) = refl

pub fallen_same : {A : Type 0} (ts : List Token) (o : Parsed A) → SameBut o (fallen ts o)
fallen_same ts (Fails left deep whole) = (latest whole ts, refl)
fallen_same ts (Reads x left) = refl

module _ {B : Type 0} (low : B → Type 0) (out : B → List Token → Type 0) (looks : TokenKind → Bool) (fits : B → Type 0)
    (row : B → Parts) where
  abbrev Took_of : List Token → Parsed B → Type 0
  Took_of ts o = Taken low fits row o ts

  took_same : (o p : Parsed B) → SameBut o p → (ts : List Token) → Took_of ts o → Took_of ts p
  took_same (Fails left false whole) p s ts t =
      subst (Took_of ts) (sym s.1) (record { front = t.front; text = t.text; took = t.took })
  took_same (Fails left true whole) p s ts t =
      subst (Took_of ts) (sym s.1) (record { front = t.front; text = t.text; took = t.took })
  took_same (Reads x left) p s ts t = subst (Took_of ts) (sym s) t

  abbrev Sayer : List Token → Parsed B → Type 0
  Sayer ts o =
      (front : List Token) (y : B) (w : List Token) → ts ≡ front ++ left_of o → Alike out looks fits row o front y w
      → Says low o y w front

  -- a break that is told of another one
  abbrev told : (left : List Token) (deep : Bool) (whole other : Option (List Token)) (front : List Token) (y : B)
      (w : List Token) → Alike out looks fits row (Fails left deep other) front y w
      → Alike out looks fits row (Fails left deep whole) front y w
  told left deep whole other front y w x =
      record {
        others = x.others;
        behind = x.behind;
        seen = x.seen;
        is = x.is;
        outside = x.outside;
        text = x.text;
      }

  says_same : (o p : Parsed B) → SameBut o p → (ts : List Token) → Sayer ts o → Sayer ts p
  says_same (Fails left false whole) p s ts says =
      subst (Sayer ts) (sym s.1) (λ front y w text x. says front y w text (told left false whole s.0 front y w x))
  says_same (Fails left true whole) p s ts says =
      subst (Sayer ts) (sym s.1) (λ front y w text x. says front y w text (told left true whole s.0 front y w x))
  says_same (Reads x left) p s ts says = subst (Sayer ts) (sym s) says

  pub same_right : (bound : ℕ) (r s : Reader B) → ((ts : List Token) → SameBut (r ts) (s ts))
      → IsRight low bound out looks fits row r → IsRight low bound out looks fits row s
  same_right bound r s same right = record {
    alive = right.alive;
    taken = λ ts le. took_same (r ts) (s ts) (same ts) ts (right.taken ts le);
    says =
        λ ts front y w le text a. says_same (r ts) (s ts) (same ts) ts
        (λ front y w text a. right.says ts front y w le text a) front y w text a;
  }

  -- a break within a part that words follow
  pub hidden_right : (bound : ℕ) (r : Reader B) → IsRight low bound out looks fits row r
      → IsRight low bound out looks fits row (hidden r)
  hidden_right bound r right = same_right bound r (hidden r) (λ ts. hidden_same (r ts)) right

  -- a reader behind something whole
  pub behind_right : (bound : ℕ) (r : Reader B) → IsRight low bound out looks fits row r
      → IsRight low bound out looks fits row (behind_whole r)
  behind_right bound r right = same_right bound r (behind_whole r) (λ ts. fallen_same ts (r ts)) right
