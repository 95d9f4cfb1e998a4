-- What a reader of expressions comes to, by the indices of a list of tokens, where it is right and keeps whole fronts.
use Rattle.std.proofs.Common.{◌≡◌, ℕ, zero, suc, ◌+◌, ◌-◌, ◌<◌, ◌≤◌, Bool, true, false, List, [], ◌∷◌, ◌++◌, length}
use Rattle.std.proofs.Common.{take, drop, Option, Some, None, Ok, refl, sym, ap, subst, ◌∙◌, append_assoc, append-nil}
use Rattle.std.proofs.Common.{arith}
use Rattle.std.specs.Prelude.{slice_range}
use Rattle.std.proofs.lemmas.List.{take_at, length-append, length-drop}
use Rattle.cat_parse_expr.proofs.Common.{Token, TokenKind, Node, phrase, IsSpelling, Spells, Begins, height_of, Other}
use Rattle.cat_parse_expr.proofs.Common.{Measured, MayFollow, looks_of, GoesUpTo, IsTooHigh, Gives, Parsed, Reader}
use Rattle.cat_parse_expr.proofs.Common.{Fails, Reads, left_of, Agree, AgreePast, Seen, Is, Taken, Says, IsRight}
use Rattle.cat_parse_expr.proofs.Common.{measured_of, IsMeasured, IsLow, operand_row}

-- ---- tokens by their indices

-- what stands before a place, and behind it
pub before_is : (tokens front : List Token) (at place : ℕ) → at ≤ length tokens → place ≤ length tokens
    → drop at tokens ≡ front ++ drop place tokens → slice_range tokens at place ≡ front
before_is tokens front at place le within text =
    let both = length-append front (drop place tokens) in
    let len : length tokens - at ≡ length front + (length tokens - place) =
    omega (arith, length-drop at tokens, ap length text, both, length-drop place tokens) in
    ap (take (place - at)) text ∙ take_at front (drop place tokens) (place - at) (omega (arith, len))

pub order_is : (tokens front : List Token) (at place : ℕ) → at ≤ length tokens → place ≤ length tokens
    → drop at tokens ≡ front ++ drop place tokens → at ≤ place
order_is tokens front at place le within text =
    let both = length-append front (drop place tokens) in
    omega (arith, length-drop at tokens, ap length text, both, length-drop place tokens)

-- the next token at a place
pub record Next (tokens : List Token) (place : ℕ) : Type 0 where
  pub token : Token
  pub is : drop place tokens ≡ token ∷ drop (suc place) tokens

pub next_at : (tokens : List Token) (place : ℕ) → place < length tokens → Next tokens place
next_at [] place lt = absurd (omega (arith, lt))
next_at (t ∷ ts) zero lt = record { token = t; is = refl }
next_at (t ∷ ts) (suc place) lt =
    let n = next_at ts place (omega (arith, lt)) in
    record { token = n.token; is = n.is }

-- ---- what is said of lists of tokens

agrees : (ts : List Token) → Agree ts ts
agrees [] = tt
agrees (t ∷ ts) = refl

agrees_past : (looks : TokenKind → Bool) (ts : List Token) → AgreePast looks ts ts
agrees_past looks [] = tt
agrees_past looks (t ∷ ts) = (refl, λ h. agrees ts)

pub seen_itself : {B : Type 0} (looks : TokenKind → Bool) (o : Parsed B) → Seen looks o (left_of o)
seen_itself looks (Fails left deep front) = agrees left
seen_itself looks (Reads x left) = agrees_past looks left

-- an expression as a row of one part
pub as_row : (e : Node) (w : List Token) → Spells e w → Is IsMeasured (operand_row 0) (measured_of e) w
as_row e w s =
    record { fit = refl; levels = (omega arith, s.levels, tt); spelled = (w, [], sym (append-nil w), s.words, refl) }

pub spells_row : (y : Measured) (w : List Token) → Is IsMeasured (operand_row 0) y w → Spells y.node w
spells_row y w is =
    let s = is.spelled in
    let same : w ≡ s.0 = s.2 ∙ ap (λ (r : List Token). s.0 ++ r) s.4 ∙ append-nil s.0 in
    record { levels = is.levels.1; words = subst (IsSpelling (phrase y.node)) (sym same) s.3 }

module _ (limit : ℕ) (r : Reader Measured)
    (right : (bound : ℕ) → IsRight (IsLow limit) bound (MayFollow Other 0) (looks_of Other) IsMeasured
    (operand_row 0) r) where
  -- what a reader says of an expression that begins alike
  pub alike : (ts front others : List Token) (e : Node) (w : List Token) → ts ≡ front ++ left_of (r ts)
      → Seen (looks_of Other) (r ts) others → Spells e w → w ≡ front ++ others
      → Says (IsLow limit) (r ts) (measured_of e) w front
  alike ts front others e w text seen s same =
      (right (length ts)).says ts front (measured_of e) w (omega arith) text (record {
        others = others;
        behind = [];
        seen = seen;
        is = as_row e w s;
        outside = tt;
        text = append-nil w ∙ same;
      })

  -- what it says of an expression that is the tokens
  pub itself : (ts : List Token) (e : Node) → Spells e ts → (o : Parsed Measured) → r ts ≡ o
      → (t : Taken (IsLow limit) IsMeasured (operand_row 0) o ts) → Says (IsLow limit) o (measured_of e) ts t.front
  itself ts e s o is t =
      subst (λ (x : Parsed Measured). Says (IsLow limit) x (measured_of e) ts t.front) is
      (alike ts t.front (left_of (r ts)) e ts (t.text ∙ ap (λ (x : Parsed Measured). t.front ++ left_of x) (sym is))
      (seen_itself (looks_of Other) (r ts)) s
      (t.text ∙ ap (λ (x : Parsed Measured). t.front ++ left_of x) (sym is)))

  -- a low expression that is the tokens is read whole
  pub reads_all : (ts : List Token) (e : Node) → Spells e ts → height_of e ≤ limit → (o : Parsed Measured) → r ts ≡ o
      → Taken (IsLow limit) IsMeasured (operand_row 0) o ts → o ≡ Reads (measured_of e) []
  reads_all ts e s low (Fails left false whole) is t = absurd (itself ts e s (Fails left false whole) is t)
  reads_all ts e s low (Fails left true whole) is t = absurd (itself ts e s (Fails left true whole) is t low)
  reads_all ts e s low (Reads x left) is t =
      let says = itself ts e s (Reads x left) is t in
      let none : left ≡ [] = ends t.front left (sym says.1 ∙ t.text) in
      ap (λ (l : List Token). Reads x l) none ∙ ap (λ (y : Measured). Reads y []) (sym says.0)
    where
      ends : (front left : List Token) → front ≡ front ++ left → left ≡ []
      ends front [] h = refl
      ends front (p ∷ left) h = absurd (omega (arith, ap length h, length-append front (p ∷ left)))

  taken_as : (ts : List Token) (o : Parsed Measured) → r ts ≡ o → Taken (IsLow limit) IsMeasured (operand_row 0) o ts
  taken_as ts o is =
      subst (λ (x : Parsed Measured). Taken (IsLow limit) IsMeasured (operand_row 0) x ts) is
      ((right (length ts)).taken ts (omega arith))

  pub read_whole : (ts : List Token) (e : Node) → Spells e ts → height_of e ≤ limit → r ts ≡ Reads (measured_of e) []
  read_whole ts e s low = reads_all ts e s low (r ts) refl (taken_as ts (r ts) refl)

  module _ (tokens : List Token) (at : ℕ) (le : at ≤ length tokens) where
    -- what stands before a place, with the next token
    with_next : (front : List Token) (place : ℕ) (n : Next tokens place) → place < length tokens
        → drop at tokens ≡ front ++ drop place tokens → slice_range tokens at (suc place) ≡ front ++ n.token ∷ []
    with_next front place n lt text =
        before_is tokens (front ++ n.token ∷ []) at (suc place) le (omega (arith, lt))
        (text ∙ ap (λ (w : List Token). front ++ w) n.is
        ∙ sym (append_assoc front (n.token ∷ []) (drop (suc place) tokens)))

    -- ---- what was read

    pub record Read (e : Measured) (place : ℕ) : Type 0 where
      pub order : at ≤ place
      pub spells : Spells e.node (slice_range tokens at place)
      pub low : height_of e.node ≤ limit

    pub was_read : (e : Measured) (place : ℕ) → Gives r tokens at (Ok (e, place)) → Read e place
    was_read e place g =
        let t = taken_as (drop at tokens) (Reads e (drop place tokens)) g.0 in
        let same = before_is tokens t.front at place le g.2 t.text in
        record {
          order = g.1;
          spells = subst (Spells e.node) (sym same) (spells_row e t.front t.took.0);
          low = omega (arith, t.took.1, ap (λ (y : Measured). y.height) t.took.0.fit);
        }

    -- tokens in front that go on with none, where another one that goes on so is no longer
    pub ends_read : (e : Measured) (place : ℕ) → Gives r tokens at (Ok (e, place)) → GoesUpTo tokens at place
    ends_read e place g =
        let t = taken_as (drop at tokens) (Reads e (drop place tokens)) g.0 in
        let same = before_is tokens t.front at place le g.2 t.text in
        record {
          within = g.2;
          begins = record {
            tree = e.node;
            rest = [];
            spells =
                subst (Spells e.node) (sym same ∙ sym (append-nil (slice_range tokens at place)))
                (spells_row e t.front t.took.0);
          };
          ends =
              λ lt b.
              let n = next_at tokens place lt in
              let next = with_next t.front place n lt t.text in
              let says = says_read t.front (n.token ∷ b.rest) b.tree
              (slice_range tokens at (suc place) ++ b.rest) t.text
              (subst (λ (l : List Token). AgreePast (looks_of Other) l (n.token ∷ b.rest)) (sym n.is)
              (refl, λ h. absurd cc)) b.spells
              (ap (λ (v : List Token). v ++ b.rest) next ∙ append_assoc t.front (n.token ∷ []) b.rest) in
              omega (
                arith,
                ap length says.1,
                length-append (slice_range tokens at (suc place)) b.rest,
                ap length next,
                length-append t.front (n.token ∷ []),
              );
        }
      where
        says_read : (front others : List Token) (a : Node) (w : List Token)
            → drop at tokens ≡ front ++ drop place tokens
            → AgreePast (looks_of Other) (drop place tokens) others → Spells a w → w ≡ front ++ others
            → (measured_of a ≡ e) × (w ≡ front)
        says_read front others a w text seen s is =
            subst (λ (x : Parsed Measured). Says (IsLow limit) x (measured_of a) w front) g.0
            (alike (drop at tokens) front others a w
            (text ∙ ap (λ (x : Parsed Measured). front ++ left_of x) (sym g.0))
            (subst (λ (x : Parsed Measured). Seen (looks_of Other) x others) (sym g.0) seen) s is)

    -- ---- where it broke off

    broken : (place : ℕ) (deep : Bool) (whole : Option (List Token))
        → r (drop at tokens) ≡ Fails (drop place tokens) deep whole
        → Taken (IsLow limit) IsMeasured (operand_row 0) (Fails (drop place tokens) deep whole) (drop at tokens)
    broken place deep whole is = taken_as (drop at tokens) (Fails (drop place tokens) deep whole) is

    -- what is said of another expression whose spelling begins with the tokens up to and with the next one
    says_next : (front : List Token) (place : ℕ) (deep : Bool) (whole : Option (List Token))
        → r (drop at tokens) ≡ Fails (drop place tokens) deep whole
        → drop at tokens ≡ front ++ drop place tokens → place < length tokens
        → (b : Begins (slice_range tokens at (suc place)))
        → Says (IsLow limit) (Fails (drop place tokens) deep whole) (measured_of b.tree)
        (slice_range tokens at (suc place) ++ b.rest) front
    says_next front place deep whole is text lt b =
        let n = next_at tokens place lt in
        let same = with_next front place n lt text in
        let w = slice_range tokens at (suc place) ++ b.rest in
        subst (λ (x : Parsed Measured). Says (IsLow limit) x (measured_of b.tree) w front) is
        (alike (drop at tokens) front (n.token ∷ b.rest) b.tree w
        (text ∙ ap (λ (x : Parsed Measured). front ++ left_of x) (sym is))
        (subst (λ (x : Parsed Measured). Seen (looks_of Other) x (n.token ∷ b.rest)) (sym is)
        (subst (λ (l : List Token). Agree l (n.token ∷ b.rest)) (sym n.is) refl))
        b.spells
        (ap (λ (v : List Token). v ++ b.rest) same ∙ append_assoc front (n.token ∷ []) b.rest))

    pub goes_up_to : (place : ℕ) (whole : Option (List Token))
        → r (drop at tokens) ≡ Fails (drop place tokens) false whole
        → place ≤ length tokens → GoesUpTo tokens at place
    goes_up_to place whole is within =
        let t = broken place false whole is in
        let same = before_is tokens t.front at place le within t.text in
        record {
          within = within;
          begins = record {
            tree = t.took.value.node;
            rest = t.took.more;
            spells =
                subst (λ (w : List Token). Spells t.took.value.node (w ++ t.took.more)) (sym same)
                (spells_row t.took.value (t.front ++ t.took.more) t.took.is);
          };
          ends = λ lt b. says_next t.front place false whole is t.text lt b;
        }

    pub is_too_high : (place : ℕ) (whole : Option (List Token))
        → r (drop at tokens) ≡ Fails (drop place tokens) true whole
        → place ≤ length tokens → limit ≡ 256 → IsTooHigh tokens at place
    is_too_high place whole is within most =
        let t = broken place true whole is in
        let lt : place < length tokens =
        omega (arith, within, length-drop place tokens, ap length t.took.text) in
        let n = next_at tokens place lt in
        let same = with_next t.front place n lt t.text in
        let first : n.token ∷ drop (suc place) tokens ≡ t.took.next ∷ t.took.after = sym n.is ∙ t.took.text in
        let token : n.token ≡ t.took.next = cc in
        let b = t.took.begun in
        record {
          within = lt;
          begins = record {
            tree = b.value.node;
            rest = b.more;
            spells =
                subst (λ (w : List Token). Spells b.value.node (w ++ b.more))
                (ap (λ (p : Token). t.front ++ p ∷ []) (sym token) ∙ sym same)
                (spells_row b.value ((t.front ++ t.took.next ∷ []) ++ b.more) b.is);
          };
          none_low = λ x low. says_next t.front place true whole is t.text lt x
              (subst (λ (m : ℕ). height_of x.tree ≤ m) (sym most) low);
        }

  -- ---- one expression for each list of tokens

  pub one : (a b : Node) (ts : List Token) → Spells a ts → Spells b ts → height_of a ≤ limit → height_of b ≤ limit
      → a ≡ b
  one a b ts sa sb la lb =
      let e = sym (read_whole ts a sa la) ∙ read_whole ts b sb lb in
      node_of e
    where
      node : Parsed Measured → Option Node
      node (Fails left deep front) = None
      node (Reads x left) = Some x.node

      node_of : Reads (measured_of a) [] ≡ Reads (measured_of b) [] → a ≡ b
      node_of e = let h : Some a ≡ Some b = ap node e in cc
