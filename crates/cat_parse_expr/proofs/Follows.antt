-- What may follow a part, where it is followed by a word, or where it ends an expression.
use Rattle.std.proofs.Common.{◌≡◌, ℕ, zero, suc, ◌≤◌, ◌<◌, Bool, true, false, not, nat_eq, ◌&&◌, ◌||◌, cond, List, []}
use Rattle.std.proofs.Common.{◌∷◌, ◌++◌, refl, sym, ap, subst, ◌∙◌, arith, inl, inr, ◌⊎◌}
use Rattle.std.proofs.lemmas.Bool.Decides.{nat_tests}
use Rattle.cat_lex.specs.declared.symbol.Symbol.TheVariants as symbol
use Rattle.cat_tree.specs.declared.expression.Operator.TheVariants as op
use Rattle.cat_tree.specs.declared.expression.Prefix.TheVariants as prefix
use Rattle.cat_parse_expr.specs.declared.follow.Follow.TheVariants as follow
use Rattle.cat_parse_expr.proofs.Common.{Token, TokenKind, Operator, Prefix, operator_level, left_level, prefix_level}
use Rattle.cat_parse_expr.proofs.Common.{Phrase, Row, Terminal, At, Anywhere, IsAt, height, phrase, Behind, Follow}
use Rattle.cat_parse_expr.proofs.Common.{Measured, follow_of, goes_so, goes_on, is_sign, is_taken, is_asked, is_below}
use Rattle.cat_parse_expr.proofs.Common.{may_stand, MayFollow, IsMeasured}
use Rattle.cat_parse_expr.proofs.Truth.{first_false, last_true, none_of, second_false}

-- ---- heights

pub tall : (f : Phrase) → 1 ≤ height f
tall (Row r ps) = omega arith

pub tall_enough : (y : Measured) → IsMeasured y → 1 ≤ y.height
tall_enough y m = omega (arith, tall (phrase y.node), ap (λ (z : Measured). z.height) m)

-- ---- a word

abbrev pub kind_at : Terminal → TokenKind
kind_at (At k p) = k
kind_at (Anywhere k) = k

pub kind_is : (m : Terminal) (t : Token) → IsAt m t → t.kind ≡ kind_at m
kind_is (At k p) t e = ap (λ (t : Token). t.kind) e
kind_is (Anywhere k) t e = e

pub not_taken : (b : Behind) (k s : ℕ) (m : Bool) (p : TokenKind) (ts : List Token) → is_taken p ≡ false
    → may_stand b k s m p ts ≡ true
not_taken b k s m p ts e =
    ap (λ (c : Bool). not c || (is_asked b p ts || ((nat_eq k 9 && is_sign symbol.Comma p)
    || ((not m && is_sign symbol.MinusMinus p) || (not (nat_eq s 0) && is_below k (follow_of p)))))) e

-- a word that nothing takes may follow
pub word_follows : (b : Behind) (k : ℕ) (y : Measured) (c : TokenKind) {X : List Token → Type 0} (w v : List Token)
    → is_taken c ≡ false
    → ((t : Token) × (more : List Token) × (w ≡ t ∷ more) × (t.kind ≡ c) × X more) → MayFollow b k y (w ++ v)
word_follows b k y c w v e s =
    subst (λ (u : List Token). MayFollow b k y (u ++ v)) (sym s.2)
    (not_taken b k y.strength y.in_match s.0.kind (s.1 ++ v) (ap is_taken s.3 ∙ e))

-- ---- what ends an expression

-- whether a part may be followed by all that may follow what it ends
pub record Hands (k : ℕ) (y : Measured) (j : ℕ) (e : Measured) : Type 0 where
  pub in_match : y.in_match ≡ e.in_match
  pub comma : nat_eq k 9 ≡ false
  pub below : (f : Follow) → (not (nat_eq y.strength 0) && is_below k f) ≡ true
      → (not (nat_eq e.strength 0) && is_below j f) ≡ true
  pub going : (b : Behind) (f : Follow) (ts : List Token) → goes_so b k y.strength f ts ≡ true
      → (not (nat_eq e.strength 0) && is_below j f) ≡ true

widened : (a b c c2 d e e2 : Bool) → c ≡ false → (e ≡ true → e2 ≡ true) → (not a || (b || (c || (d || e)))) ≡ true
    → (not a || (b || (c2 || (d || e2)))) ≡ true
widened false b c c2 d e e2 none f h = refl
widened true true c c2 d e e2 none f h = refl
widened true false true c2 d e e2 none f h = absurd cc
widened true false false true d e e2 none f h = refl
widened true false false false true e e2 none f h = refl
widened true false false false false e e2 none f h = f h

-- what may follow the whole, or goes on with it, may follow its last part
pub handed : (b : Behind) (k : ℕ) (y : Measured) (j : ℕ) (e : Measured) (v : List Token) → Hands k y j e
    → MayFollow b k y v ⊎ (goes_on b k y v ≡ true) → MayFollow b j e v
handed b k y j e [] h o = tt
handed b k y j e (p ∷ ts) h (inl o) =
    widened (is_taken p.kind) (is_asked b p.kind ts) (nat_eq k 9 && is_sign symbol.Comma p.kind)
    (nat_eq j 9 && is_sign symbol.Comma p.kind) (not e.in_match && is_sign symbol.MinusMinus p.kind)
    (not (nat_eq y.strength 0) && is_below k (follow_of p.kind))
    (not (nat_eq e.strength 0) && is_below j (follow_of p.kind))
    (first_false (nat_eq k 9) (is_sign symbol.Comma p.kind) h.comma) (h.below (follow_of p.kind))
    (ap (λ (m : Bool). not (is_taken p.kind) || (is_asked b p.kind ts || ((nat_eq k 9 && is_sign symbol.Comma p.kind)
    || ((not m && is_sign symbol.MinusMinus p.kind)
    || (not (nat_eq y.strength 0) && is_below k (follow_of p.kind)))))) (sym h.in_match) ∙ o)
handed b k y j e (p ∷ ts) h (inr o) =
    last_true (is_taken p.kind) (is_asked b p.kind ts) (nat_eq j 9 && is_sign symbol.Comma p.kind)
    (not e.in_match && is_sign symbol.MinusMinus p.kind)
    (not (nat_eq e.strength 0) && is_below j (follow_of p.kind)) (h.going b (follow_of p.kind) (p ∷ ts) o)

-- ---- by levels

pub one_level : (o : Operator) → (1 ≤ left_level o) × (operator_level o ≤ left_level o) × (1 ≤ operator_level o)
    × (operator_level o ≤ 6)
one_level op.Or = (omega arith, omega arith, omega arith, omega arith)
one_level _ = (omega arith, omega arith, omega arith, omega arith)

-- what a part of level j says where it ends something of level t
pub record Ends (k t j : ℕ) : Type 0 where
  pub high : t ≤ 8
  pub low : k ≤ t
  pub above : t ≤ j
  pub operators : (o : Operator) → left_level o ≤ t → operator_level o < j
  pub tests : 5 ≤ t → 4 < j

module _ (k t j : ℕ) (c : Ends k t j) where
  below_by : (s : ℕ) (f : Follow) → (not (nat_eq (cond (nat_eq s 0) 0 t) 0) && is_below k f) ≡ true
      → (not (nat_eq s 0) && is_below j f) ≡ true
  below_by zero f h = absurd cc
  below_by (suc s) (follow.Operated o) h = grind (arith, nat_tests, h, c.low, c.above)
  below_by (suc s) follow.Dotted h = grind (arith, nat_tests, h, c.low, c.above)
  below_by (suc s) follow.Tests h = grind (arith, nat_tests, h, c.low, c.above)
  below_by (suc s) follow.Other h = grind (arith, nat_tests, h)

  going_by : (b : Behind) (s : ℕ) (f : Follow) (ts : List Token) → goes_so b k (cond (nat_eq s 0) 0 t) f ts ≡ true
      → (not (nat_eq s 0) && is_below j f) ≡ true
  going_by b zero (follow.Operated o) ts h = grind (arith, nat_tests, h, (one_level o).0)
  going_by b zero follow.Dotted ts h = grind (arith, nat_tests, h)
  going_by b zero follow.Tests ts h = grind (arith, nat_tests, h)
  going_by b zero follow.Other ts h = absurd cc
  going_by b (suc s) (follow.Operated o) ts h =
      let above : left_level o ≤ t = grind (arith, nat_tests, h) in
      let less : operator_level o < j = c.operators o above in
      grind (arith, nat_tests, less)
  going_by b (suc s) follow.Dotted ts h = grind (arith, nat_tests, h, c.high)
  going_by b (suc s) follow.Tests ts h =
      let above : 5 ≤ t = grind (arith, nat_tests, h) in
      let less : 4 < j = c.tests above in
      grind (arith, nat_tests, less)
  going_by b (suc s) follow.Other ts h = absurd cc

  -- something that ends in an operand
  pub ending_hands : (y e : Measured) → y.strength ≡ cond (nat_eq e.strength 0) 0 t → y.in_match ≡ e.in_match
      → Hands k y j e
  ending_hands y e is same = record {
    in_match = same;
    comma = grind (arith, nat_tests, c.low, c.high);
    below = λ f h. below_by e.strength f (ap (λ (s : ℕ). not (nat_eq s 0) && is_below k f) (sym is) ∙ h);
    going = λ b f ts h. going_by b e.strength f ts (ap (λ (s : ℕ). goes_so b k s f ts) (sym is) ∙ h);
  }

pub no_going : (b : Behind) (k : ℕ) (f : Follow) (ts : List Token) → goes_so b k 0 f ts ≡ true → ⊥
no_going b k (follow.Operated o) ts h = grind (arith, nat_tests, h, (one_level o).0)
no_going b k follow.Dotted ts h = grind (arith, nat_tests, h)
no_going b k follow.Tests ts h = grind (arith, nat_tests, h)
no_going b k follow.Other ts h = absurd cc

no_below : (c : Bool) → (not (nat_eq 0 0) && c) ≡ true → ⊥
no_below c h = absurd cc

-- a form that ends in a part
pub form_hands : (k : ℕ) (y : Measured) (j : ℕ) (e : Measured) → k ≤ 8 → y.strength ≡ 0 → y.in_match ≡ e.in_match
    → Hands k y j e
form_hands k y j e le is same = record {
  in_match = same;
  comma = grind (arith, nat_tests, le);
  below =
      λ f h. absurd (no_below (is_below k f) (ap (λ (s : ℕ). not (nat_eq s 0) && is_below k f) (sym is) ∙ h));
  going = λ b f ts h. absurd (no_going b k f ts (ap (λ (s : ℕ). goes_so b k s f ts) (sym is) ∙ h));
}

pub prefix_ends : (k : ℕ) (o : Prefix) → k ≤ prefix_level o → Ends k (prefix_level o) (prefix_level o)
prefix_ends k o le = record {
  high = (levels o).0;
  low = le;
  above = omega arith;
  operators = (levels o).1;
  tests = λ h. omega (arith, h);
}
  where
    three : (o : Operator) → left_level o ≤ 3 → operator_level o < 3
    three op.Or h = omega arith
    three op.Xor h = omega arith
    three op.And h = omega arith
    three _ h = absurd (omega (arith, h))

    levels : (o : Prefix) → (prefix_level o ≤ 8) × ((p : Operator) → left_level p ≤ prefix_level o
        → operator_level p < prefix_level o)
    levels prefix.Not = (omega arith, three)
    levels prefix.Negate = (omega arith, λ p h. omega (arith, (one_level p).3))
    levels _ = (omega arith, λ p h. omega (arith, (one_level p).3))

pub call_ends : (k : ℕ) → k ≤ 8 → Ends k 8 8
call_ends k le = record {
  high = omega arith;
  low = le;
  above = omega arith;
  operators = λ o h. omega (arith, (one_level o).3);
  tests = λ h. omega arith;
}

pub operator_ends : (k : ℕ) (o : Operator) → k ≤ operator_level o → Ends k (operator_level o) (suc (operator_level o))
operator_ends k o le = record {
  high = omega (arith, (one_level o).3);
  low = le;
  above = omega arith;
  operators = λ p h. omega (arith, h, (one_level p).1);
  tests = λ h. omega (arith, h);
}

pub argument_ends : (k : ℕ) → k ≤ 8 → Ends k 8 9
argument_ends k le = record {
  high = omega arith;
  low = le;
  above = omega arith;
  operators = λ o h. omega (arith, (one_level o).3);
  tests = λ h. omega arith;
}

-- ---- words that something would have taken

-- a word that is taken, but by no operator, and that no form asks for
abbrev pub IsOwn : TokenKind → Type 0
IsOwn p =
    (is_taken p ≡ true) × (follow_of p ≡ follow.Other) × (is_sign symbol.MinusMinus p ≡ false)
    × ((b : Behind) (ts : List Token) → is_asked b p ts ≡ false)

-- it doesn't follow
pub own_not : (b : Behind) (k : ℕ) (y : Measured) (p : Token) (ts : List Token) → IsOwn p.kind
    → (nat_eq k 9 && is_sign symbol.Comma p.kind) ≡ false
    → MayFollow b k y (p ∷ ts) ⊎ (goes_on b k y (p ∷ ts) ≡ true) → ⊥
own_not b k y p ts own comma (inl h) =
    none_of (is_taken p.kind) (is_asked b p.kind ts) (nat_eq k 9 && is_sign symbol.Comma p.kind)
    (not y.in_match && is_sign symbol.MinusMinus p.kind)
    (not (nat_eq y.strength 0) && is_below k (follow_of p.kind)) own.0 (own.3 b ts) comma
    (second_false (not y.in_match) (is_sign symbol.MinusMinus p.kind) own.2)
    (second_false (not (nat_eq y.strength 0)) (is_below k (follow_of p.kind)) (ap (is_below k) own.1)) h
own_not b k y p ts own comma (inr h) =
    not_both (goes_so b k y.strength (follow_of p.kind) (p ∷ ts)) h
    (ap (λ (f : Follow). goes_so b k y.strength f (p ∷ ts)) own.1)
  where
    not_both : (c : Bool) → c ≡ true → c ≡ false → ⊥
    not_both c x z = absurd cc
