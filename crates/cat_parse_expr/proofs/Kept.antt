-- The longest front of a list of tokens, by indices, where a reader of expressions keeps whole fronts.
use Rattle.std.proofs.Common.{◌≡◌, ℕ, ◌+◌, ◌-◌, ◌≤◌, Bool, true, false, List, [], length, take, drop, Option, Some}
use Rattle.std.proofs.Common.{None, Ok, sym, ap, subst, ◌∙◌, arith}
use Rattle.std.specs.Prelude.{slice_range}
use Rattle.std.proofs.lemmas.List.{take-append-drop, length-drop, drop-take}
use Rattle.cat_parse_expr.proofs.Common.{Token, Node, Spells, IsFront, height_of, Other, Measured, IsSpelled, MayFollow}
use Rattle.cat_parse_expr.proofs.Common.{looks_of, ReadsAsFar, Stood, KeepsWhole, Gives, before, Parsed, Reader, Fails}
use Rattle.cat_parse_expr.proofs.Common.{Reads, IsRight, measured_of, IsMeasured, IsLow, operand_row}
use Rattle.cat_parse_expr.proofs.Indexed.{before_is, order_is, as_row, spells_row, read_whole}

-- the tokens up to a place are those before the rest
pub before_place : (tokens : List Token) (at place : ℕ) → at ≤ place → place ≤ length tokens
    → before (drop place tokens) (drop at tokens) ≡ drop at (take place tokens)
before_place tokens at place order within =
    let many : length (drop at tokens) - length (drop place tokens) ≡ place - at =
    omega (arith, length-drop at tokens, length-drop place tokens) in
    let sum : place ≡ at + (place - at) = omega arith in
    ap (λ (n : ℕ). take n (drop at tokens)) many ∙ sym (drop-take at (place - at) tokens)
    ∙ ap (λ (n : ℕ). drop at (take n tokens)) (sym sum)

module _ (limit : ℕ) (r : Reader Measured)
    (right : (bound : ℕ) → IsRight (IsLow limit) bound (MayFollow Other 0) (looks_of Other) IsMeasured
    (operand_row 0) r)
    (keeps : (bound : ℕ) → KeepsWhole (IsLow limit) bound IsMeasured (operand_row 0) r)
    (tokens : List Token) (at : ℕ) (le : at ≤ length tokens) where
  -- an expression in front reaches no further than what was read, or than what stood whole
  as_far : (o : Parsed Measured) → r (drop at tokens) ≡ o → (e : Node) (next : ℕ)
      → Spells e (slice_range tokens at next)
      → ReadsAsFar (IsLow limit) o (measured_of e) (drop (next - at) (drop at tokens))
  as_far o is e next s =
      subst (λ (x : Parsed Measured). ReadsAsFar (IsLow limit) x (measured_of e) (drop (next - at) (drop at tokens))) is
      ((keeps (length (drop at tokens))).longest (drop at tokens) (measured_of e) (slice_range tokens at next)
      (drop (next - at) (drop at tokens)) (omega arith) (sym (take-append-drop (next - at) (drop at tokens)))
      (as_row e (slice_range tokens at next) s))

  -- how much is left behind a front
  rest_is : (next place : ℕ) → at ≤ next → next ≤ length tokens → place ≤ length tokens
      → length (drop place tokens) ≤ length (drop (next - at) (drop at tokens)) → next ≤ place
  rest_is next place order within fits h =
      omega (arith, h, length-drop place tokens, length-drop (next - at) (drop at tokens), length-drop at tokens)

  pub longest_read : (x : Measured) (place : ℕ) → Gives r tokens at (Ok (x, place)) → limit ≡ 256
      → (e : Node) (next : ℕ)
      → IsFront tokens at next e → next ≤ place
  longest_read x place g most e next f =
      rest_is next place f.order f.within g.2 (as_far (Reads x (drop place tokens)) g.0 e next f.spells)

  pub longest_whole : (left : List Token) (deep : Bool) (place : ℕ)
      → r (drop at tokens) ≡ Fails left deep (Some (drop place tokens)) → place ≤ length tokens → limit ≡ 256
      → (e : Node) (next : ℕ)
      → IsFront tokens at next e → next ≤ place
  longest_whole left true place is within most e next f =
      rest_is next place f.order f.within within
      (as_far (Fails left true (Some (drop place tokens))) is e next f.spells
      (subst (λ (m : ℕ). height_of e ≤ m) (sym most) f.low))
  longest_whole left false place is within most e next f =
      rest_is next place f.order f.within within
      (as_far (Fails left false (Some (drop place tokens))) is e next f.spells)

  pub none_spelled : (left : List Token) → r (drop at tokens) ≡ Fails left false None → (next : ℕ)
      → IsSpelled tokens at next → ⊥
  none_spelled left is next f = as_far (Fails left false None) is f.0 next f.3

  pub none_low : (left : List Token) (deep : Bool) → r (drop at tokens) ≡ Fails left deep None → limit ≡ 256
      → (next : ℕ) (e : Node) → IsFront tokens at next e → ⊥
  none_low left true is most next e f =
      as_far (Fails left true None) is e next f.spells (subst (λ (m : ℕ). height_of e ≤ m) (sym most) f.low)
  none_low left false is most next e f = as_far (Fails left false None) is e next f.spells

  -- ---- the front that stood whole

  pub record Whole (place : ℕ) : Type 0 where
    pub tree : Node
    pub order : at ≤ place
    pub spells : Spells tree (slice_range tokens at place)
    pub low : height_of tree ≤ limit
    pub again : r (drop at (take place tokens)) ≡ Reads (measured_of tree) []

  pub stood_whole : (left : List Token) (deep : Bool) (place : ℕ)
      → r (drop at tokens) ≡ Fails left deep (Some (drop place tokens)) → place ≤ length tokens → Whole place
  stood_whole left deep place is within =
      let s : Stood (IsLow limit) IsMeasured (operand_row 0) (Fails left deep (Some (drop place tokens)))
      (drop at tokens) =
      subst (λ (x : Parsed Measured). Stood (IsLow limit) IsMeasured (operand_row 0) x (drop at tokens)) is
      ((keeps (length (drop at tokens))).stood (drop at tokens) (omega arith)) in
      let order = order_is tokens s.1 at place le within s.2 in
      let same = before_is tokens s.1 at place le within s.2 in
      let spells : Spells s.0.node (slice_range tokens at place) =
      subst (Spells s.0.node) (sym same) (spells_row s.0 s.1 s.3) in
      let low : height_of s.0.node ≤ limit = omega (arith, s.4, ap (λ (y : Measured). y.height) s.3.fit) in
      let sum : place ≡ at + (place - at) = omega (arith, order) in
      let part : drop at (take place tokens) ≡ slice_range tokens at place =
      ap (λ (n : ℕ). drop at (take n tokens)) sum ∙ drop-take at (place - at) tokens in
      record {
        tree = s.0.node;
        order = order;
        spells = spells;
        low = low;
        again =
            ap r part ∙ read_whole limit r right (slice_range tokens at place) s.0.node spells low;
      }

  -- reading it once more finds it
  pub found_again : (w : Measured) (place none : ℕ) → Whole place → place ≤ length tokens
      → Gives r (take place tokens) at (Ok (w, none))
      → Spells w.node (slice_range tokens at place) × (height_of w.node ≤ limit)
  found_again w place none h within g =
      let same : Reads (measured_of h.tree) [] ≡ Reads w (drop none (take place tokens)) = sym h.again ∙ g.0 in
      subst (λ (e : Node). Spells e (slice_range tokens at place) × (height_of e ≤ limit)) (node_of same)
      (h.spells, h.low)
    where
      node : Parsed Measured → Option Node
      node (Fails left deep front) = None
      node (Reads x left) = Some x.node

      node_of : {a b : Measured} {ls ms : List Token} → Reads a ls ≡ Reads b ms → a.node ≡ b.node
      node_of {a = a} {b = b} e = let h : Some a.node ≡ Some b.node = ap node e in cc
