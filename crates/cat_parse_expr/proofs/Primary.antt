-- What stands in front of all operators is read rightly.
use Rattle.std.proofs.Common.{◌≡◌, ℕ, suc, ◌≤◌, Bool, true, false, if◌then◌else◌, List, [], ◌∷◌, ◌++◌, None, refl, sym}
use Rattle.std.proofs.Common.{ap, subst, ◌∙◌, append_assoc, arith, inl, inr, ◌⊎◌, map}
use Rattle.cat_parse_expr.specs.declared.opening.Opening.TheVariants as opening
use Rattle.cat_parse_expr.specs.Climbing as climbing
use Rattle.cat_parse_expr.proofs.Common.{Token, Node, prefix_level, Phrase, right_strength, AreSpelled, phrase}
use Rattle.cat_parse_expr.proofs.Common.{phrase_Combine, phrase_Each, phrase_If, phrase_Match, phrase_Name}
use Rattle.cat_parse_expr.proofs.Common.{phrase_Prefixed, phrase_Sum, arm_row, Behind, Measured, Opening, looks_of}
use Rattle.cat_parse_expr.proofs.Common.{KeepsWhole, opening_at, stands, Lower, Fails, Reader, Begun, measured_of}
use Rattle.cat_parse_expr.proofs.Common.{IsMeasured, IsLow, operand_row, AreRight}
use Rattle.cat_parse_expr.proofs.Braces.{scoped_read}
use Rattle.cat_parse_expr.proofs.Bracketed.{listed_read}
use Rattle.cat_parse_expr.proofs.Ending.{parens_read, choice_read}
use Rattle.cat_parse_expr.proofs.Firsts.{class_of, Shape, primary_by, class_Name}
use Rattle.cat_parse_expr.proofs.Fronts.{combined_read, summed_read, prefixed_read}
use Rattle.cat_parse_expr.proofs.Matching.{matched_read}
use Rattle.cat_parse_expr.proofs.Naming.{name_read}
use Rattle.cat_parse_expr.proofs.Openers.{opens_with}
use Rattle.cat_parse_expr.proofs.Operands.{Next, Placed, OfClass}
use Rattle.cat_parse_expr.proofs.ListForms.{over_read}
use Rattle.cat_parse_expr.proofs.Positive.{match_level}
use Rattle.cat_parse_expr.proofs.Read.{IsRead}
use Rattle.cat_parse_expr.proofs.Sampling.{a_name, a_node, lower_token, name_sample, node_levels, node_spelled}
use Rattle.cat_parse_expr.proofs.Spanned.{literal_read}
use Rattle.cat_parse_expr.proofs.UpperReader.{case_read}
use Rattle.cat_parse_expr.proofs.Truth.{clash, le_of, le_true}
use Rattle.cat_parse_expr.proofs.Heading as heading

level_in : (k : ℕ) (n : Node) (f : Phrase) → phrase n ≡ f → k ≤ right_strength (phrase n) → k ≤ right_strength f
level_in k n f e le = subst (λ (g : Phrase). k ≤ right_strength g) e le

-- of what level each form is
shape_low : (k : ℕ) (c : Opening) (n : Node) → Shape c n → k ≤ right_strength (phrase n) → stands k c ≡ true
shape_low k opening.Literal n s le = refl
shape_low k opening.Name n s le = refl
shape_low k opening.Case n s le = refl
shape_low k opening.Parens n s le = refl
shape_low k opening.List n s le = refl
shape_low k opening.ScopeCall n s le = refl
shape_low k (opening.Prefixed o) n s le =
    le_true k (prefix_level o) (level_in k n _ (ap phrase s.2 ∙ phrase_Prefixed o s.0 s.1) le)
shape_low k opening.Sum n s le = le_true k 8 (level_in k n _ (ap phrase s.3 ∙ phrase_Sum s.0 s.1 s.2) le)
shape_low k opening.If n s le = le_true k 8 (level_in k n _ (ap phrase s.4 ∙ phrase_If s.0 s.1 s.2 s.3) le)
shape_low k opening.Match n s le =
    let l = level_in k n _ (ap phrase s.3 ∙ phrase_Match s.0 s.1 s.2) le in
    le_true k 8 (omega (arith, l, match_level (map arm_row s.2)))
shape_low k (opening.Each q) n s le =
    le_true k 8 (level_in k n _ (ap phrase s.4 ∙ phrase_Each q s.0 s.1 s.2 s.3) le)
shape_low k opening.Combine n s le =
    le_true k 8 (level_in k n _ (ap phrase s.6 ∙ phrase_Combine s.0 s.1 s.2 s.3 s.4 s.5) le)
shape_low k opening.Nothing n s le = absurd s

pub placed_stands : (k : ℕ) (c : Opening) (y : Measured) → Placed k y → class_of y.node ≡ c → stands k c ≡ true
placed_stands k c y p e =
    shape_low k c y.node (subst (λ (d : Opening). Shape d y.node) e p.primary) p.level

placed_opens : (k : ℕ) (y : Measured) (w v : List Token) → AreSpelled (operand_row k y) w
    → opening_at (w ++ v) ≡ class_of y.node
placed_opens k y w v s =
    ap (λ (u : List Token). opening_at (u ++ v)) (s.2 ∙ ap (λ (u : List Token). s.0 ++ u) s.4)
    ∙ ap opening_at (append_assoc s.0 [] v) ∙ opens_with y.node s.0 v s.3

module _ (ex : Lower) (room : ℕ) (right : AreRight room ex)
    (kept : (b : Behind) (j bound : ℕ) → j ≤ 9 → KeepsWhole (IsLow room) bound IsMeasured (operand_row j) (ex b j))
    (b : Behind) (k : ℕ) (le : k ≤ 9) where
  abbrev pick : Opening → Reader Measured
  pick c ts = if stands k c then climbing.opened_by ex room b k c ts else Fails ts false None

  abbrev chosen : Opening → Bool → Reader Measured
  chosen c z ts = if z then climbing.opened_by ex room b k c ts else Fails ts false None

  abbrev Picked : (K : Type 0) → Opening → Reader Measured → Type 0
  Picked K c r =
      IsRead (λ y. y) K (Unit {0}) (Unit {0}) (IsLow (suc room)) (Next b k) (looks_of b) (OfClass k c) (operand_row k) r
      ⊎ (((y : Measured) → Placed k y → class_of y.node ≡ c → ⊥) × ((ts : List Token) → r ts ≡ Fails ts false None))

  none_so : (c : Opening) → stands k c ≡ false → (y : Measured) → Placed k y → class_of y.node ≡ c → ⊥
  none_so c e y p i = clash (stands k c) (placed_stands k c y p i) e

  by_level : {K : Type 0} (c : Opening) → (stands k c ≡ true
      → IsRead (λ y. y) K (Unit {0}) (Unit {0}) (IsLow (suc room)) (Next b k) (looks_of b) (OfClass k c) (operand_row k)
      (climbing.opened_by ex room b k c)) → (z : Bool) → stands k c ≡ z → Picked K c (chosen c z)
  by_level c h true e = inl (h e)
  by_level c h false e = inr (none_so c e, λ ts. refl)

  picked : {K : Type 0} (c : Opening) → Picked K c (pick c)
  picked opening.Literal = inl (literal_read room b k le)
  picked opening.Name = inl (name_read ex room right kept b k le)
  picked opening.Case = inl (case_read ex room right kept b k le)
  picked opening.Parens = inl (parens_read ex room right kept b k le)
  picked opening.List = inl (listed_read ex room right b k le)
  picked opening.ScopeCall = inl (scoped_read ex room right b k le)
  picked (opening.Prefixed o) =
      by_level (opening.Prefixed o) (λ e. prefixed_read ex room right kept b k o (le_of k (prefix_level o) e))
      (stands k (opening.Prefixed o)) refl
  picked opening.Sum =
      by_level opening.Sum (λ e. summed_read ex room right kept b k (le_of k 8 e)) (stands k opening.Sum) refl
  picked opening.If =
      by_level opening.If (λ e. choice_read ex room right kept b k (le_of k 8 e)) (stands k opening.If) refl
  picked opening.Match =
      by_level opening.Match (λ e. matched_read ex room right kept b k (le_of k 8 e)) (stands k opening.Match) refl
  picked (opening.Each q) =
      by_level (opening.Each q) (λ e. over_read ex room right kept b k q (le_of k 8 e)) (stands k (opening.Each q)) refl
  picked opening.Combine =
      by_level opening.Combine (λ e. combined_read ex room right kept b k (le_of k 8 e)) (stands k opening.Combine) refl
  picked opening.Nothing = inr (none_so opening.Nothing refl, λ ts. refl)

  alive : Begun (Placed k) (operand_row k) []
  alive =
      let s = name_sample k le in
      let levels = subst (λ (f : Phrase). k ≤ right_strength f) (sym (phrase_Name a_name)) le in
      record {
        value = measured_of a_node;
        more = lower_token ∷ [];
        is =
            record {
              fit =
                  record {
                    measured = refl;
                    primary = primary_by a_node opening.Name (class_Name a_name) (inl (a_name, refl));
                    level = levels;
                  };
              levels = (levels, (node_levels 0 (omega arith)).1, tt);
              spelled = (lower_token ∷ [], [], refl, node_spelled, refl);
            };
      }

  pub primary_read : {K : Type 0} → IsRead (λ y. y) K (Unit {0}) (Unit {0}) (IsLow (suc room)) (Next b k) (looks_of b)
      (Placed k) (operand_row k) (climbing.primary ex room b k)
  primary_read {K = K} =
      heading.headed_read (λ y. y) K (Unit {0}) (Unit {0}) (IsLow (suc room)) (Next b k) (looks_of b) (Placed k)
      (operand_row k) opening_at (λ y. class_of y.node) pick (λ p ps qs. refl)
      (λ y w v f s. placed_opens k y w v s) (λ f. alive) picked
