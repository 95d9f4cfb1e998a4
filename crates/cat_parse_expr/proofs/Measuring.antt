-- What counts of an expression with one step more is told rightly, where it was of its parts.
use Rattle.std.proofs.Common.{◌≡◌, ℕ, zero, suc, ◌≤◌, max, Bool, true, false, if◌then◌else◌, cond, nat_eq, refl, sym}
use Rattle.std.proofs.Common.{ap, ◌∙◌, arith}
use Rattle.std.proofs.lemmas.Bool.Decides.{nat_tests}
use Rattle.cat_tree.specs.declared.expression.Node.TheViews as node
use Rattle.cat_parse_expr.proofs.Common.{Pos, Name, Operator, Node, Phrase, height, left_strength, right_strength}
use Rattle.cat_parse_expr.proofs.Common.{ends_in_form, ends_in_match, phrase, operator_level, phrase_Binary}
use Rattle.cat_parse_expr.proofs.Common.{phrase_Field, Measured, closed, ending, measured_of, IsMeasured}

-- what counts of a phrase
abbrev of_phrase : Node → Phrase → Measured
of_phrase n f = record { node = n; height = height f; strength = left_strength f; in_match = ends_in_match f }

measured_by : (n : Node) (f : Phrase) → phrase n ≡ f → (m : Measured) → m ≡ of_phrase n f → m ≡ measured_of n
measured_by n f e m same = same ∙ ap (of_phrase n) (sym e)

-- an expression ends in a form exactly where its strength as a left operand is none
pub in_form_is : (f : Phrase) → 1 ≤ right_strength f → nat_eq (left_strength f) 0 ≡ ends_in_form f
in_form_is f low = by (ends_in_form f) (right_strength f) low
  where
    by : (b : Bool) (s : ℕ) → 1 ≤ s → nat_eq (if b then 0 else s) 0 ≡ b
    by true s low = refl
    by false zero low = absurd (omega (arith, low))
    by false (suc s) low = grind (arith, nat_tests)

module _ (a e : Measured) (am : IsMeasured a) (em : IsMeasured e) where
  height_a : a.height ≡ height (phrase a.node)
  height_a = ap (λ (m : Measured). m.height) am

  height_e : e.height ≡ height (phrase e.node)
  height_e = ap (λ (m : Measured). m.height) em

  strength_e : e.strength ≡ left_strength (phrase e.node)
  strength_e = ap (λ (m : Measured). m.strength) em

  match_e : e.in_match ≡ ends_in_match (phrase e.node)
  match_e = ap (λ (m : Measured). m.in_match) em

  tall : suc (max a.height e.height) ≡ suc (max (height (phrase a.node)) (max (height (phrase e.node)) 0))
  tall = omega (arith, height_a, height_e)

  -- one that ends in an operand
  pub binary_measured : (o : Operator) (p : Pos) → 1 ≤ right_strength (phrase e.node)
      → IsMeasured (ending (operator_level o) (max a.height e.height) e.strength e.in_match
      (node.Binary o p a.node e.node))
  binary_measured o p low =
      measured_by (node.Binary o p a.node e.node) _ (phrase_Binary o p a.node e.node) _
      (ap (λ (h : ℕ). record {
        node = node.Binary o p a.node e.node;
        height = h;
        strength = cond (nat_eq e.strength 0) 0 (operator_level o);
        in_match = e.in_match;
      }) tall
      ∙ ap (λ (b : Bool). record {
        node = node.Binary o p a.node e.node;
        height = suc (max (height (phrase a.node)) (max (height (phrase e.node)) 0));
        strength = cond b 0 (operator_level o);
        in_match = e.in_match;
      }) (ap (λ (s : ℕ). nat_eq s 0) strength_e ∙ in_form_is (phrase e.node) low)
      ∙ ap (λ (b : Bool). record {
        node = node.Binary o p a.node e.node;
        height = suc (max (height (phrase a.node)) (max (height (phrase e.node)) 0));
        strength = cond (ends_in_form (phrase e.node)) 0 (operator_level o);
        in_match = b;
      }) match_e)

-- one with a field
pub field_measured : (a : Measured) (w : Name) → IsMeasured a → IsMeasured (closed 9 a.height (node.Field a.node w))
field_measured a w am =
    let tall : suc a.height ≡ suc (max (height (phrase a.node)) 0) =
    omega (arith, ap (λ (m : Measured). m.height) am) in
    measured_by (node.Field a.node w) _ (phrase_Field a.node w) _
    (ap (λ (h : ℕ). record { node = node.Field a.node w; height = h; strength = 9; in_match = false }) tall)
