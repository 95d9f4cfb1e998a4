-- Readers that are put together from right ones are right.
use Rattle.std.proofs.Common.{◌≡◌, ℕ, Bool, List, [], ◌∷◌, ◌++◌, length, refl, sym, ap, subst, ◌∙◌, append_assoc, arith}
use Rattle.std.proofs.lemmas.List.{append_cancel_right}
use Rattle.cat_parse_expr.proofs.Common.{Token, TokenKind, Parts, End, Word, Part, AreLevelled, AreSpelled, ◌▸◌, pure}
use Rattle.cat_parse_expr.proofs.Common.{Agree, IsRight}

-- ---- rows behind one another

pub levels_join : (ps qs : Parts) → AreLevelled ps → AreLevelled qs → AreLevelled (ps ▸ qs)
levels_join End qs a b = b
levels_join (Word m ps) qs a b = levels_join ps qs a b
levels_join (Part s e ps) qs a b = (a.0, a.1, levels_join ps qs a.2 b)

pub levels_split : (ps qs : Parts) → AreLevelled (ps ▸ qs) → AreLevelled ps × AreLevelled qs
levels_split End qs a = (tt, a)
levels_split (Word m ps) qs a = levels_split ps qs a
levels_split (Part s e ps) qs a = let more = levels_split ps qs a.2 in ((a.0, a.1, more.0), more.1)

pub spelled_join : (ps qs : Parts) (a b : List Token) → AreSpelled ps a → AreSpelled qs b
    → AreSpelled (ps ▸ qs) (a ++ b)
spelled_join End qs a b x y = subst (λ (w : List Token). AreSpelled qs (w ++ b)) (sym x) y
spelled_join (Word m ps) qs a b x y =
    (x.0, x.1 ++ b, ap (λ (w : List Token). w ++ b) x.2, x.3, spelled_join ps qs x.1 b x.4 y)
spelled_join (Part s e ps) qs a b x y =
    (x.0, x.1 ++ b, ap (λ (w : List Token). w ++ b) x.2 ∙ append_assoc x.0 x.1 b, x.3, spelled_join ps qs x.1 b x.4 y)

pub record Splits (ps qs : Parts) (w : List Token) : Type 0 where
  pub first : List Token
  pub second : List Token
  pub text : w ≡ first ++ second
  pub one : AreSpelled ps first
  pub two : AreSpelled qs second

pub spelled_split : (ps qs : Parts) (w : List Token) → AreSpelled (ps ▸ qs) w → Splits ps qs w
spelled_split End qs w x = record { first = []; second = w; text = refl; one = refl; two = x }
spelled_split (Word m ps) qs w x =
    let s = spelled_split ps qs x.1 x.4 in
    record {
      first = x.0 ∷ s.first;
      second = s.second;
      text = x.2 ∙ ap (λ (u : List Token). x.0 ∷ u) s.text;
      one = (x.0, s.first, refl, x.3, s.one);
      two = s.two;
    }
spelled_split (Part k e ps) qs w x =
    let s = spelled_split ps qs x.1 x.4 in
    record {
      first = x.0 ++ s.first;
      second = s.second;
      text = x.2 ∙ ap (λ (u : List Token). x.0 ++ u) s.text
          ∙ sym (append_assoc x.0 s.first s.second);
      one = (x.0, s.first, refl, x.3, s.one);
      two = s.two;
    }

-- ---- nothing more

pub agree_same : (ts us : List Token) → Agree ts us → length ts ≡ 0 → us ≡ []
agree_same [] [] a e = refl
agree_same [] (q ∷ us) a e = absurd a
agree_same (p ∷ ts) us a e = absurd (omega (arith, e))

pub no_front : (front ts : List Token) → ts ≡ front ++ ts → front ≡ []
no_front front ts e = append_cancel_right front [] ts (sym e)

pub pure_right : {B : Type 0} → (low : B → Type 0) (bound : ℕ) (out : B → List Token → Type 0)
    (looks : TokenKind → Bool)
    (fits : B → Type 0) (x : B) → fits x → low x → ((y : B) → fits y → y ≡ x)
    → IsRight low bound out looks fits (λ y. End) (pure x)
pure_right low bound out looks fits x fit fine only = record {
  alive = record { value = x; more = []; is = record { fit = fit; levels = tt; spelled = refl } };
  taken =
      λ ts le. record { front = []; text = refl; took = (record { fit = fit; levels = tt; spelled = refl }, fine) };
  says = λ ts front y spelling le text a. (only y a.is.fit, a.is.spelled ∙ sym (no_front front ts text));
}
