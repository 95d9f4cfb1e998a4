-- A reader that goes by the first word is right, where each of those that it picks is.
use Rattle.std.proofs.Common.{◌≡◌, ℕ, ◌≤◌, Bool, false, List, [], ◌∷◌, ◌++◌, length, None, refl, sym, ap, subst, ◌∙◌}
use Rattle.std.proofs.Common.{◌⊎◌, inl, inr}
use Rattle.cat_parse_expr.proofs.Common.{Token, TokenKind, Parts, AreSpelled, Parsed, Reader, Fails, left_of, Agree}
use Rattle.cat_parse_expr.proofs.Common.{Begun, Taken, Says, Alike, IsRight}
use Rattle.cat_parse_expr.proofs.Choices.{next_seen, refit, widened}

-- what a list of tokens begins with, told by its first token alone
abbrev pub IsByHead : {C : Type 0} → (List Token → C) → Type 0
IsByHead at = (p : Token) (ps qs : List Token) → at (p ∷ ps) ≡ at (p ∷ qs)

module _ {B C : Type 0} (low : B → Type 0) (bound : ℕ) (out : B → List Token → Type 0) (looks : TokenKind → Bool)
    (fits : B → Type 0) (row : B → Parts) (at : List Token → C) (class : B → C) (pick : C → Reader B)
    (by_head : IsByHead at)
    (classed : (y : B) (w v : List Token) → fits y → AreSpelled (row y) w → at (w ++ v) ≡ class y)
    (alive : Begun fits row []) where
  -- values of that class
  abbrev pub of_class : C → B → Type 0
  of_class c y = fits y × (class y ≡ c)

  -- either the reader of a class is right, or it has no value and nothing is read
  abbrev pub Sorted : C → Type 0
  Sorted c =
      IsRight low bound out looks (of_class c) row (pick c)
      ⊎ (((y : B) → fits y → class y ≡ c → ⊥) × ((ts : List Token) → pick c ts ≡ Fails ts false None))

  same_class : (front left others : List Token) → Agree left others → at (front ++ left) ≡ at (front ++ others)
  same_class [] [] [] g = refl
  same_class [] [] (q ∷ qs) g = absurd g
  same_class [] (p ∷ ps) [] g = absurd g
  same_class [] (p ∷ ps) (q ∷ qs) g = by_head p ps qs ∙ ap (λ (t : Token). at (t ∷ qs)) g
  same_class (p ∷ front) left others g = by_head p (front ++ left) (front ++ others)

  class_is : (ts front : List Token) (o : Parsed B) (y : B) (w : List Token) → ts ≡ front ++ left_of o
      → (a : Alike out looks fits row o front y w) → class y ≡ at ts
  class_is ts front o y w text a =
      sym (ap at text ∙ same_class front (left_of o) a.others (next_seen looks o a.others a.seen)
      ∙ ap at (sym a.text) ∙ classed y w a.behind a.is.fit a.is.spelled)

  taken_by : (ts : List Token) → length ts ≤ bound → (c : C) → Sorted c → Taken low fits row (pick c ts) ts
  taken_by ts le c (inl right) =
      let t = right.taken ts le in
      record {
        front = t.front;
        text = t.text;
        took = widened low (of_class c) fits row (pick c ts) t.front (λ y f. f.0) t.took;
      }
  taken_by ts le c (inr none) =
      subst (λ (o : Parsed B). Taken low fits row o ts) (sym (none.1 ts))
      (record { front = []; text = refl; took = alive })

  abbrev Sayer : List Token → Parsed B → Type 0
  Sayer ts o =
      (front : List Token) (y : B) (w : List Token) → ts ≡ front ++ left_of o → Alike out looks fits row o front y w
      → Says low o y w front

  says_by : (ts : List Token) → length ts ≤ bound → (c : C) → at ts ≡ c → Sorted c → Sayer ts (pick c ts)
  says_by ts le c e (inl right) =
      λ front y w text a. right.says ts front y w le text
      (record {
        others = a.others;
        behind = a.behind;
        seen = a.seen;
        is = refit fits (of_class c) row y w (a.is.fit, class_is ts front (pick c ts) y w text a ∙ e) a.is;
        outside = a.outside;
        text = a.text;
      })
  says_by ts le c e (inr none) =
      subst (Sayer ts) (sym (none.1 ts))
      (λ front y w text a. none.0 y a.is.fit (class_is ts front (Fails ts false None) y w text a ∙ e))

  pub headed_right : ((c : C) → Sorted c) → IsRight low bound out looks fits row (λ ts. pick (at ts) ts)
  headed_right sorted = record {
    alive = alive;
    taken = λ ts le. taken_by ts le (at ts) (sorted (at ts));
    says = λ ts front y w le text a. says_by ts le (at ts) refl (sorted (at ts)) front y w text a;
  }
