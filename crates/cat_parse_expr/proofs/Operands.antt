-- Forms as operands.
use Rattle.std.proofs.Common.{◌≡◌, ℕ, ◌≤◌, Bool, true, not, ◌&&◌, if◌then◌else◌, cond, nat_eq, List, [], ◌++◌, refl}
use Rattle.std.proofs.Common.{sym, ap, subst, ◌∙◌, arith, inl, inr, ◌⊎◌, length}
use Rattle.std.proofs.lemmas.List.{append-nil}
use Rattle.cat_lex.specs.declared.symbol.Symbol.TheVariants as symbol
use Rattle.cat_parse_expr.proofs.Common.{Token, TokenKind, Node, Phrase, Row, Rank, Parts, Part, End, Operand}
use Rattle.cat_parse_expr.proofs.Common.{IsLevelled, AreLevelled, AreSpelled, height, right_strength, left_strength}
use Rattle.cat_parse_expr.proofs.Common.{ends_in_form, ends_in_match, phrase, Behind, Measured, Opening, Parsed, Fails}
use Rattle.cat_parse_expr.proofs.Common.{Reads, Reader, heads, hidden, after, pure, goes_on, MayFollow, looks_of}
use Rattle.cat_parse_expr.proofs.Common.{KeepsWhole, Lower, is_sign, Is, measured_of, IsMeasured, IsLow, operand_row}
use Rattle.cat_parse_expr.proofs.Common.{AreRight, left_of, hidden_in}
use Rattle.cat_parse_expr.proofs.Choices.{Recast}
use Rattle.cat_parse_expr.proofs.Firsts.{class_of, Shape, IsPrimary, primary_by, is_bare}
use Rattle.cat_parse_expr.proofs.Follows.{Ends, handed, form_hands, ending_hands}
use Rattle.cat_parse_expr.proofs.Measuring.{in_form_is}
use Rattle.cat_parse_expr.proofs.Read.{IsRead}
use Rattle.cat_parse_expr.proofs.Shaping.{made_read}
use Rattle.cat_parse_expr.proofs.Wholes.{hidden_right}
use Rattle.cat_parse_expr.proofs.Truth.{second_true}
use Rattle.cat_parse_expr.proofs.Sequels.{no_longer}

-- ---- what follows something that stands in front of all operators

-- whether it goes on: a field of a bare case is read with it
abbrev pub goes_past : Behind → (k : ℕ) → Measured → List Token → Bool
goes_past b k a ts = not (is_bare (phrase a.node) && heads (is_sign symbol.Dot) ts) && goes_on b k a ts

-- something ends here, or goes on
abbrev pub Next : Behind → (k : ℕ) → Measured → List Token → Type 0
Next b k a v = MayFollow b k a v ⊎ (goes_past b k a v ≡ true)

pub goes_then : (b : Behind) (k : ℕ) (a : Measured) (v : List Token) → Next b k a v
    → MayFollow b k a v ⊎ (goes_on b k a v ≡ true)
goes_then b k a v (inl h) = inl h
goes_then b k a v (inr h) =
    inr (second_true (not (is_bare (phrase a.node) && heads (is_sign symbol.Dot) v)) (goes_on b k a v) h)

-- behind a form that ends in a part
pub form_next : (b : Behind) (k : ℕ) (y : Measured) (j : ℕ) (e : Measured) (v : List Token) → k ≤ 8 → y.strength ≡ 0
    → y.in_match ≡ e.in_match → Next b k y v → MayFollow b j e v
form_next b k y j e v le is same o = handed b k y j e v (form_hands k y j e le is same) (goes_then b k y v o)

-- behind something that ends in an operand
pub ending_next : (b : Behind) (k : ℕ) (y : Measured) (t j : ℕ) (e : Measured) (v : List Token) → Ends k t j
    → y.strength ≡ cond (nat_eq e.strength 0) 0 t → y.in_match ≡ e.in_match → Next b k y v → MayFollow b j e v
ending_next b k y t j e v c is same o = handed b k y j e v (ending_hands k t j c y e is same) (goes_then b k y v o)

-- ---- values of a form, as operands

-- an operand of the level, that is no step behind another one
pub record Placed (k : ℕ) (y : Measured) : Type 0 where
  pub measured : IsMeasured y
  pub primary : IsPrimary y.node
  pub level : k ≤ right_strength (phrase y.node)

-- one of a form
abbrev pub OfClass : (k : ℕ) → Opening → Measured → Type 0
OfClass k c y = Placed k y × (class_of y.node ≡ c)

-- how the values of a form are made of their parts
pub record Form {T : Type 0} (k : ℕ) (c : Opening) (fits : T → Type 0) (row : T → Parts) (f : T → Measured) :
    Type 0 where
  pub rank : T → Rank
  pub is : (t : T) → phrase (f t).node ≡ Row (rank t) (row t)
  pub measured : (t : T) → fits t → IsMeasured (f t)
  pub level : (t : T) → fits t → k ≤ (rank t).level
  pub bounded : (t : T) → fits t → (rank t).fits ≡ true
  pub class : (t : T) → class_of (f t).node ≡ c
  pub shape : (t : T) → Shape c (f t).node
  pub split : (n : Node) → Shape c n → IsLevelled (phrase n) → k ≤ right_strength (phrase n) → (t : T)
      × (n ≡ (f t).node) × fits t

-- the same tokens spell it as an operand
pub operand_is : (k : ℕ) (n : Node) (r : Rank) (ps : Parts) (w : List Token) → phrase n ≡ Row r ps → k ≤ r.level
    → r.fits ≡ true → AreLevelled ps → AreSpelled ps w
    → AreLevelled (Part (Operand k) (phrase n) End) × AreSpelled (Part (Operand k) (phrase n) End) w
operand_is k n r ps w e level bounded levels spelled =
    subst (λ (f : Phrase). AreLevelled (Part (Operand k) f End) × AreSpelled (Part (Operand k) f End) w) (sym e)
    ((level, (bounded, levels), tt), (w, [], sym (append-nil w), spelled, refl))

pub operand_parts : (k : ℕ) (n : Node) (r : Rank) (ps : Parts) (w : List Token) → phrase n ≡ Row r ps
    → AreLevelled (Part (Operand k) (phrase n) End) → AreSpelled (Part (Operand k) (phrase n) End) w
    → AreLevelled ps × AreSpelled ps w
operand_parts k n r ps w e levels spelled =
    by (subst (λ (f : Phrase). AreLevelled (Part (Operand k) f End)) e levels)
    (subst (λ (f : Phrase). AreSpelled (Part (Operand k) f End) w) e spelled)
  where
    by : AreLevelled (Part (Operand k) (Row r ps) End) → AreSpelled (Part (Operand k) (Row r ps) End) w
        → AreLevelled ps × AreSpelled ps w
    by a b =
        (a.1.1, subst (AreSpelled ps) (sym (b.2 ∙ ap (λ (u : List Token). b.0 ++ u) b.4 ∙ append-nil b.0)) b.3)

pub same_measured : (y z : Measured) → IsMeasured y → IsMeasured z → y.node ≡ z.node → y ≡ z
same_measured y z a b e = a ∙ ap measured_of e ∙ sym b

module _ {T : Type 0} (k high : ℕ) (out : Measured → List Token → Type 0) (c : Opening) (fits : T → Type 0)
    (row : T → Parts)
    (f : T → Measured) (m : Form k c fits row f) where
  to_operand : (t : T) (w : List Token) → Is fits row t w → Is (OfClass k c) (operand_row k) (f t) w
  to_operand t w i =
      let o = operand_is k (f t).node (m.rank t) (row t) w (m.is t) (m.level t i.fit)
      (m.bounded t i.fit) i.levels i.spelled in
      record {
        fit = (
          record {
            measured = m.measured t i.fit;
            primary = primary_by (f t).node c (m.class t) (m.shape t);
            level = o.0.0;
          },
          m.class t,
        );
        levels = o.0;
        spelled = o.1;
      }

  from_operand : (y : Measured) (w : List Token) → Is (OfClass k c) (operand_row k) y w
      → (t : T) × (y ≡ f t) × Is fits row t w
  from_operand y w i =
      let s = m.split y.node (subst (λ (d : Opening). Shape d y.node) i.fit.1 i.fit.0.primary) i.levels.1 i.levels.0 in
      let p = operand_parts k y.node (m.rank s.0) (row s.0) w (ap phrase s.1 ∙ m.is s.0) i.levels i.spelled in (
        s.0,
        same_measured y (f s.0) i.fit.0.measured (m.measured s.0 s.2) s.1,
        record { fit = s.2; levels = p.0; spelled = p.1 },
      )

  pub form_cast : Recast (λ t. (f t).height ≤ high) (λ y. y.height ≤ high) (λ t v. out (f t) v) out fits
      (OfClass k c) row
      (operand_row k) f
  form_cast = record {
    to = to_operand;
    from = from_operand;
    lows = λ t fit low. low;
    back = λ t fit low. low;
    outside = λ t v fit o. o;
  }

pub form_read : {T : Type 0} {K : Type 0} {looks : TokenKind → Bool} (k high : ℕ) (out : Measured → List Token → Type 0)
    (c : Opening) (fits : T → Type 0) (row : T → Parts) (f : T → Measured) (s : Reader Measured)
    → Form k c fits row f
    → IsRead f K (Unit {0}) (Unit {0}) (λ t. (f t).height ≤ high) (λ t v. out (f t) v) looks fits row s
    → IsRead (λ y. y) K (Unit {0}) (Unit {0}) (IsLow high) out looks (OfClass k c) (operand_row k) s
form_read k high out c fits row f s m h =
    let cast = form_cast k high out c fits row f m in
    made_read (λ t. (f t).height ≤ high) (λ t v. out (f t) v) fits row (λ u. u) (λ u c. c) (λ u. cast.to)
    (λ u c. cast) h

-- ---- what counts of a form

abbrev with_height : Node → (height strength : ℕ) → Bool → Measured
with_height n h s m = record { node = n; height = h; strength = s; in_match = m }

pub measured_by : (n : Node) (f : Phrase) (h s : ℕ) (m : Bool) → phrase n ≡ f → h ≡ height f → s ≡ left_strength f
    → m ≡ ends_in_match f → IsMeasured (with_height n h s m)
measured_by n f h s m e a b c =
    ap (λ (x : ℕ). with_height n x s m) a ∙ ap (λ (x : ℕ). with_height n (height f) x m) b
    ∙ ap (λ (x : Bool). with_height n (height f) (left_strength f) x) c
    ∙ ap (λ (g : Phrase). with_height n (height g) (left_strength g) (ends_in_match g)) (sym e)

pub height_is : (e : Measured) → IsMeasured e → e.height ≡ height (phrase e.node)
height_is e m = ap (λ (z : Measured). z.height) m

pub match_is : (e : Measured) → IsMeasured e → e.in_match ≡ ends_in_match (phrase e.node)
match_is e m = ap (λ (z : Measured). z.in_match) m

-- one that ends in an operand
pub strength_by : (e : Measured) (j : ℕ) → IsMeasured e → 1 ≤ right_strength (phrase e.node)
    → cond (nat_eq e.strength 0) 0 j ≡ (if ends_in_form (phrase e.node) then 0 else j)
strength_by e j m low =
    ap (λ (s : ℕ). cond (nat_eq s 0) 0 j) (ap (λ (z : Measured). z.strength) m)
    ∙ ap (λ (b : Bool). cond b 0 j) (in_form_is (phrase e.node) low)

-- ---- the readers of parts

module _ (ex : Lower) (room : ℕ) (right : AreRight room ex) where
  pub whole_same : {A : Type 0} (o : Parsed A) → o ≡ after o pure
  whole_same (Fails left deep whole) = refl
  whole_same (Reads x left) = refl

  -- a part that words follow
  pub inner_read : (b : Behind) → IsRead (λ (y : Measured). y) ⊥ (Unit {0}) (Unit {0}) (IsLow room) (MayFollow b 0)
      (looks_of b)
      IsMeasured (operand_row 0) (hidden (ex b 0))
  inner_read b = record {
    reader = hidden (ex b 0);
    maps = λ ts. whole_same (hidden (ex b 0) ts);
    alive = λ f. (right b 0 0 (omega arith)).alive;
    right =
        λ f c bound. hidden_right (IsLow room) (MayFollow b 0) (looks_of b) IsMeasured (operand_row 0) bound (ex b 0)
        (right b 0 bound (omega arith));
    keeps = λ k f c bound. absurd k;
  }

  -- a part that may be the last one
  pub end_read : {K : Type 0} (b : Behind) (j : ℕ) → j ≤ 9
      → ((bound : ℕ) → KeepsWhole (IsLow room) bound IsMeasured (operand_row j) (ex b j))
      → IsRead (λ (y : Measured). y) K (Unit {0}) (Unit {0}) (IsLow room) (MayFollow b j) (looks_of b) IsMeasured
      (operand_row j) (ex b j)
  end_read b j le keeps = record {
    reader = ex b j;
    maps = λ ts. whole_same (ex b j ts);
    alive = λ f. (right b j 0 le).alive;
    right = λ f c bound. right b j bound le;
    keeps = λ k f c bound. keeps bound;
  }

-- ---- how far parts are read

-- what is left of a part
pub part_shrinks : (ex : Lower) (room : ℕ) → AreRight room ex → (b : Behind) (j : ℕ) → j ≤ 9 → (ts : List Token)
    → length (left_of (ex b j ts)) ≤ length ts
part_shrinks ex room right b j le ts =
    no_longer (IsLow room) IsMeasured (operand_row j) (ex b j ts) ts
    ((right b j (length ts) le).taken ts (omega arith))

pub hidden_left : {A : Type 0} (o : Parsed A) → left_of (hidden_in o) ≡ left_of o
hidden_left (Fails left deep whole) = refl
hidden_left (Reads x left) = refl
