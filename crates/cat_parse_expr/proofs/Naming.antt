-- Names, and calls of functions.
use Rattle.std.proofs.Common.{◌≡◌, ℕ, suc, ◌≤◌, Bool, true, false, List, [], ◌∷◌, ◌++◌, refl, sym, ap, subst, ◌∙◌}
use Rattle.std.proofs.Common.{arith, inl, inr, ◌⊎◌, map, if◌then◌else◌, nat_eq, nat_le, ◌&&◌}
use Rattle.std.proofs.lemmas.Bool.Decides.{nat_tests}
use Rattle.cat_lex.specs.declared.token.TokenKind.TheVariants as kind
use Rattle.cat_lex.specs.declared.words.Keyword.TheVariants as key
use Rattle.cat_lex.specs.declared.symbol.Symbol.TheVariants as symbol
use Rattle.cat_tree.specs.declared.expression.Node.TheViews as node
use Rattle.cat_tree.specs.Wording as wording
use Rattle.cat_parse_expr.specs.declared.behind.Behind.TheVariants.{Other, Field, Pattern as Tested}
use Rattle.cat_parse_expr.specs.declared.cue.Cue.TheVariants as cue
use Rattle.cat_parse_expr.specs.declared.opening.Opening.TheVariants as opening
use Rattle.cat_parse_expr.specs.Cases as cased
use Rattle.cat_tree.specs.declared.expression.Node.TheVariants as leaves
use Rattle.cat_parse_expr.proofs.Common.{Token, Name, Node, Row, Rank, Parts, End, Word, At, ◌▹◌, lower, of_level}
use Rattle.cat_parse_expr.proofs.Common.{phrase, phrase_Name, phrase_Call, Behind, Measured, kind_of, closed, pure}
use Rattle.cat_parse_expr.proofs.Common.{Lower, looks_of, KeepsWhole, measured_of, IsMeasured, IsLow, operand_row}
use Rattle.cat_parse_expr.proofs.Common.{AreRight, elements, AreLevelled, AreSpelled, MeasuredNodes, with_element}
use Rattle.cat_parse_expr.proofs.Common.{no_elements, is_sign, heads, by_word, cue_is, Is, right_strength, IsLevelled}
use Rattle.cat_parse_expr.proofs.Common.{if_some, is_asked, leaf, behind_whole}
use Rattle.cat_parse_expr.proofs.Firsts.{Shape, class_Name, class_Call, class_of}
use Rattle.cat_parse_expr.proofs.Operands.{Next, OfClass, Form, form_read, measured_by, goes_then}
use Rattle.cat_parse_expr.proofs.Read.{IsRead, pure_read}
use Rattle.cat_parse_expr.proofs.Worded.{word_read, lower_read}
use Rattle.cat_parse_expr.proofs.Sequels.{last_read}
use Rattle.cat_parse_expr.proofs.Choices.{Decides, Recast}
use Rattle.cat_parse_expr.proofs.Nodes.{phrases_of, measures_of, nodes_back, elements_from, nodes_are, tallest_is}
use Rattle.cat_parse_expr.proofs.Nodes.{elements_height}
use Rattle.cat_parse_expr.proofs.Shaping.{recast_read, reshape_read, look_read}
use Rattle.cat_parse_expr.proofs.Turnings.{heads_begin, own_heads}
use Rattle.cat_parse_expr.proofs.Chosen.{choice_read}
use Rattle.cat_parse_expr.proofs.Follows.{IsOwn}
use Rattle.cat_parse_expr.proofs.Called.{Nine, AreNine, nine_measured, nine_last, argument_follows}
use Rattle.cat_parse_expr.proofs.Arguments.{arguments_read}

-- ---- w | w of E, E

pub data Named : Type 0 where
  Alone : Name → Named
  Calls : Name → Measured → List Measured → Named

abbrev name_in : Named → Name
name_in (Alone w) = w
name_in (Calls w e xs) = w

abbrev made : Measured → List Measured → MeasuredNodes
made e xs = elements_from no_elements (e ∷ xs)

abbrev call_of : Name → Measured × List Measured → Measured
call_of w c = closed 8 (made c.0 c.1).tallest (node.Call w (made c.0 c.1).nodes)

abbrev named_of : Named → Measured
named_of (Alone w) = leaf (leaves.Name w)
named_of (Calls w e xs) = call_of w (e, xs)

abbrev named_rest : Named → Parts
named_rest (Alone w) = End
named_rest (Calls w e xs) = wording.«word» key.Of ▹ elements 9 symbol.Comma (phrases_of (e ∷ xs)) End

abbrev named_row : Named → Parts
named_row y = Word (At (kind.Lower (name_in y).text) (name_in y).pos) (named_rest y)

abbrev named_fits : (k : ℕ) → Named → Type 0
named_fits k (Alone w) = Unit {0}
named_fits k (Calls w e xs) = Nine e × AreNine xs × (k ≤ 8)

abbrev named_rank : Named → Rank
named_rank (Alone w) = of_level 9
named_rank (Calls w e xs) = of_level 8

abbrev Call_fits : Measured × List Measured → Type 0
Call_fits c = Nine c.0 × AreNine c.1

named_is : (y : Named) → phrase (named_of y).node ≡ Row (named_rank y) (named_row y)
named_is (Alone w) = phrase_Name w
named_is (Calls w e xs) =
    phrase_Call w (made e xs).nodes
    ∙ ap (λ (ns : List Node). Row (if_some 8 (map phrase ns)) (lower w ▹ wording.«word» key.Of
    ▹ elements 9 symbol.Comma (map phrase ns) End)) (nodes_are (with_element no_elements e) xs)

named_measured : (k : ℕ) (y : Named) → named_fits k y → IsMeasured (named_of y)
named_measured k (Alone w) m = measured_by (leaves.Name w) _ _ _ _ (phrase_Name w) (omega arith) refl refl
named_measured k (Calls w e xs) m =
    let l = nine_last e xs false false m.0 m.1 in
    measured_by (call_of w (e, xs)).node _ _ _ _ (named_is (Calls w e xs))
    (omega (
      arith,
      tallest_is (with_element no_elements e) xs,
      elements_height 9 symbol.Comma (e ∷ xs) End (nine_measured (e ∷ xs) (m.0, m.1)),
    ))
    (ap (λ (c : Bool). if c then 0 else 8) (sym l.0)) (sym l.1)

named_bounded : (k : ℕ) (y : Named) → named_fits k y → (named_rank y).fits ≡ true
named_bounded k (Alone w) m = refl
named_bounded k (Calls w e xs) m = refl

named_class : (y : Named) → class_of (named_of y).node ≡ opening.Name
named_class (Alone w) = class_Name w
named_class (Calls w e xs) = class_Call w (made e xs).nodes

named_shape : (y : Named) → Shape opening.Name (named_of y).node
named_shape (Alone w) = inl (w, refl)
named_shape (Calls w e xs) = inr (w, (made e xs).nodes, refl)

-- the expressions of a list with what counts of them, all of level 9
nines : (ns : List Node) → AreLevelled (elements 9 symbol.Comma (map phrase ns) End) → AreNine (measures_of ns)
nines [] l = tt
nines (n ∷ []) l = ((refl, l.0), tt)
nines (n ∷ o ∷ ns) l = ((refl, l.0), nines (o ∷ ns) l.2)

-- a call has some arguments
split_call : (k : ℕ) (n : Node) (f : Name) (args : List Node) → n ≡ node.Call f args → IsLevelled (phrase n)
    → k ≤ right_strength (phrase n) → (y : Named) × (n ≡ (named_of y).node) × named_fits k y
split_call k n f args e l low = by args e (subst IsLevelled (ap phrase e ∙ phrase_Call f args) l)
  where
    by : (args : List Node) → n ≡ node.Call f args → IsLevelled (Row (if_some 8 (map phrase args))
        (lower f ▹ wording.«word» key.Of ▹ elements 9 symbol.Comma (map phrase args) End))
        → (y : Named) × (n ≡ (named_of y).node) × named_fits k y
    by [] e l = absurd (clash l.0)
      where
        clash : false ≡ true → ⊥
        clash h = absurd cc
    by (a ∷ args) e l =
        let m = nines (a ∷ args) l.1 in (
          Calls f (measured_of a) (measures_of args),
          e ∙ ap (λ (ns : List Node). node.Call f ns)
              (sym (nodes_are (with_element no_elements (measured_of a)) (measures_of args)
              ∙ ap (λ (ns : List Node). a ∷ ns) (nodes_back args))),
          (
            m.0,
            m.1,
            omega (
              arith,
              low,
              ap (λ (n : Node). right_strength (phrase n)) e,
              ap right_strength
                  (phrase_Call f (a ∷ args)),
            ),
          ),
        )

named_form : (k : ℕ) → k ≤ 9 → Form k opening.Name (named_fits k) named_row named_of
named_form k le = record {
  rank = named_rank;
  is = named_is;
  measured = named_measured k;
  level = level;
  bounded = named_bounded k;
  class = named_class;
  shape = named_shape;
  split = split;
}
  where
    level : (t : Named) → named_fits k t → k ≤ (named_rank t).level
    level (Alone w) m = le
    level (Calls w e xs) m = m.2

    split : (n : Node) → Shape opening.Name n → IsLevelled (phrase n) → k ≤ right_strength (phrase n)
        → (t : Named) × (n ≡ (named_of t).node) × named_fits k t
    split n (inl s) l low = (Alone s.0, s.1, tt)
    split n (inr s) l low = split_call k n s.0 s.1 s.2 l low

abbrev IsAlone : Named → Type 0
IsAlone (Alone w) = Unit {0}
IsAlone (Calls w e xs) = ⊥

abbrev IsCall : Named → Type 0
IsCall (Alone w) = ⊥
IsCall (Calls w e xs) = Unit {0}

of_own : IsOwn (kind_of (cue.Word key.Of))
of_own = (refl, refl, refl, λ b ts. by b ts)
  where
    by : (b : Behind) (ts : List Token) → is_asked b (kind.Word key.Of) ts ≡ false
    by Other ts = refl
    by Field ts = refl
    by Tested ts = refl

module _ (ex : Lower) (room : ℕ) (right : AreRight room ex)
    (kept : (b : Behind) (j bound : ℕ) → j ≤ 9 → KeepsWhole (IsLow room) bound IsMeasured (operand_row j) (ex b j))
    (b : Behind) (k : ℕ) where
  -- of E, E
  call_read : {K : Type 0} (w : Name) → k ≤ 8
      → IsRead (call_of w) K (Unit {0}) (Unit {0}) (λ c. (call_of w c).height ≤ suc room)
      (λ c v. Next b k (call_of w c) v)
      (looks_of b) Call_fits (λ c. wording.«word» key.Of ▹ elements 9 symbol.Comma (phrases_of (c.0 ∷ c.1)) End)
      (cased.called ex room w)
  call_read w le =
      word_read (cue.Word key.Of) _ _
      (λ p. last_read (λ c. c) (λ c. c) _ (look_read (arguments_read ex room right kept)) (λ x ts. refl)
      (record {
        fit = λ y f. f;
        built = λ f x m. m;
        has = λ x. refl;
        only = λ f y h. refl;
        lows = λ f c x m low. omega (arith, low);
        part = λ f x m low. omega (arith, low);
        outside =
            λ f x v m o. (
              λ y n. argument_follows b k (call_of w x) y v le refl refl n o,
              own_heads b k (call_of w x) (cue.Sign symbol.Comma) v comma_own (not_nine le)
                  (goes_then b k (call_of w x) v o),
            );
      }))
    where
      comma_own : IsOwn (kind_of (cue.Sign symbol.Comma))
      comma_own = (refl, refl, refl, λ b ts. by b ts)
        where
          by : (b : Behind) (ts : List Token) → is_asked b (kind.Symbol symbol.Comma) ts ≡ false
          by Other ts = refl
          by Field ts = refl
          by Tested ts = refl

      not_nine : k ≤ 8 → (nat_eq k 9 && is_sign symbol.Comma (kind_of (cue.Sign symbol.Comma))) ≡ false
      not_nine le =
          let no : nat_eq k 9 ≡ false = grind (arith, nat_tests, le) in
          ap (λ (z : Bool). z && is_sign symbol.Comma (kind_of (cue.Sign symbol.Comma))) no

  abbrev At_name : Name → Named → Type 0
  At_name w y = named_fits k y × (name_in y ≡ w)

  abbrev Yes : Name → Named → Type 0
  Yes w y = At_name w y × IsCall y

  abbrev No : Name → Named → Type 0
  No w y = (name_in y ≡ w) × IsAlone y

  abbrev low : Named → Type 0
  low y = (named_of y).height ≤ suc room

  abbrev out : Named → List Token → Type 0
  out y v = Next b k (named_of y) v

  decides : (w : Name) → Decides out (cue_is (cue.Word key.Of)) (At_name w) (Yes w) (No w) named_rest
  decides w = record {
    either = either;
    from_yes = λ y f. f.0;
    from_no = from_no;
    on = λ y u v f s o. begins y u v f.1 s;
    off = off;
  }
    where
      either : (y : Named) → At_name w y → Yes w y ⊎ No w y
      either (Alone x) f = inr (f.1, tt)
      either (Calls x e xs) f = inl (f, tt)

      from_no : (y : Named) → No w y → At_name w y
      from_no (Alone x) f = (tt, f.0)
      from_no (Calls x e xs) f = absurd f.1

      begins : (y : Named) (u v : List Token) → IsCall y → AreSpelled (named_rest y) u
          → heads (cue_is (cue.Word key.Of)) (u ++ v) ≡ true
      begins (Alone x) u v f s = absurd f
      begins (Calls x e xs) u v f s = heads_begin (cue.Word key.Of) u v s

      off : (y : Named) (u v : List Token) → No w y → AreSpelled (named_rest y) u → out y v
          → heads (cue_is (cue.Word key.Of)) (u ++ v) ≡ false
      off (Alone x) u v f s o =
          ap (λ (z : List Token). heads (cue_is (cue.Word key.Of)) (z ++ v)) s
          ∙ own_heads b k (named_of (Alone x)) (cue.Word key.Of) v of_own (no_comma (nat_eq k 9))
          (goes_then b k (named_of (Alone x)) v o)
        where
          no_comma : (z : Bool) → (z && false) ≡ false
          no_comma true = refl
          no_comma false = refl
      off (Calls x e xs) u v f s o = absurd f.1

  begins_call : (w : Name) (y : Named) (u v : List Token) → Yes w y → AreSpelled (named_rest y) u
      → heads (cue_is (cue.Word key.Of)) (u ++ v) ≡ true
  begins_call w (Alone x) u v f s = absurd f.1
  begins_call w (Calls x e xs) u v f s = heads_begin (cue.Word key.Of) u v s

  spent_name : (w : Name) (y : Named) (u v : List Token) → No w y → AreSpelled (named_rest y) u
      → heads (cue_is (cue.Word key.Of)) (u ++ v) ≡ true → u ≡ []
  spent_name w (Alone x) u v f s h = s
  spent_name w (Calls x e xs) u v f s h = absurd f.1

  call_cast : (w : Name) → k ≤ 8 → Recast (λ c. (call_of w c).height ≤ suc room) low
      (λ c v. Next b k (call_of w c) v) out
      Call_fits (Yes w) (λ c. wording.«word» key.Of ▹ elements 9 symbol.Comma (phrases_of (c.0 ∷ c.1)) End) named_rest
      (λ c. Calls w c.0 c.1)
  call_cast w le = record {
    to =
        λ c u i. record {
          fit = (((i.fit.0, i.fit.1, le), refl), tt);
          levels = i.levels;
          spelled = i.spelled;
        };
    from = from;
    lows = λ c fit l. l;
    back = λ c fit l. l;
    outside = λ c v fit o. o;
  }
    where
      from : (y : Named) (u : List Token) → Is (Yes w) named_rest y u → (c : Measured × List Measured)
          × (y ≡ Calls w c.0 c.1)
          × Is Call_fits (λ c. wording.«word» key.Of ▹ elements 9 symbol.Comma (phrases_of (c.0 ∷ c.1)) End) c u
      from (Alone x) u i = absurd i.fit.1
      from (Calls x e xs) u i = (
        (e, xs),
        ap (λ (z : Name). Calls z e xs) i.fit.0.1,
        record { fit = (i.fit.0.0.0, i.fit.0.0.1); levels = i.levels; spelled = i.spelled },
      )

  alone_is : (w : Name) (y : Named) → No w y → y ≡ Alone w
  alone_is w (Alone x) f = ap Alone f.0
  alone_is w (Calls x e xs) f = absurd f.1

  alone_rows : (w : Name) (y : Named) → No w y → End ≡ named_rest y
  alone_rows w (Alone x) f = refl
  alone_rows w (Calls x e xs) f = absurd f.1

  plain_read : {K : Type 0} (w : Name)
      → IsRead named_of K (Unit {0}) (Unit {0}) low out (looks_of b) (No w) named_rest (pure (leaf (leaves.Name w)))
  plain_read w =
      reshape_read (No w) (No w) (λ y. End) named_rest (pure (leaf (leaves.Name w)))
      (record { to = λ y f. f; from = λ y f. f; rows = alone_rows w })
      (pure_read (Alone w) (λ f. (refl, tt)) (λ f c. omega arith) (λ y f h. alone_is w y h))

  body_read : {K : Type 0} (w : Name) (c : Bool) → nat_le k 8 ≡ c
      → IsRead named_of K (Unit {0}) (Unit {0}) low out (looks_of b) (At_name w) named_rest
      (if c then by_word (cue_is (cue.Word key.Of)) (behind_whole (cased.called ex room w))
      (pure (leaf (leaves.Name w)))
      else pure (leaf (leaves.Name w)))
  body_read w true e =
      choice_read (cue_is (cue.Word key.Of)) (Yes w) (No w) (decides w) (begins_call w) (spent_name w) (Alone w)
      (λ f. record { fit = (refl, tt); levels = tt; spelled = refl }) (λ f c. omega arith)
      (recast_read _ _ _ _ (λ c. Calls w c.0 c.1) (λ c. refl) (λ f. f) (λ f c. c) (λ f. (call_cast w below).to)
      (λ f c. call_cast w below) (call_read w below))
      (plain_read w)
    where
      below : k ≤ 8
      below = grind (arith, nat_tests, e)
  body_read w false e =
      reshape_read (No w) (At_name w) named_rest named_rest (pure (leaf (leaves.Name w)))
      (record { to = to; from = from; rows = λ y f. refl }) (plain_read w)
    where
      above : k ≤ 8 → ⊥
      above le = grind (arith, nat_tests, e, le)

      to : (y : Named) → No w y → At_name w y
      to (Alone x) f = (tt, f.0)
      to (Calls x d xs) f = absurd f.1

      from : (y : Named) → At_name w y → No w y
      from (Alone x) f = (f.1, tt)
      from (Calls x d xs) f = absurd (above f.0.2)

  pub name_read : {K : Type 0} → k ≤ 9
      → IsRead (λ y. y) K (Unit {0}) (Unit {0}) (IsLow (suc room)) (Next b k) (looks_of b) (OfClass k opening.Name)
      (operand_row k) (cased.name ex room k)
  name_read le =
      form_read k (suc room) (Next b k) opening.Name (named_fits k) named_row named_of (cased.name ex room k)
      (named_form k le)
      (lower_read name_in named_rest _ (λ w. conditional w (nat_le k 8) refl))
    where
      conditional : {K : Type 0} (w : Name) (c : Bool) → nat_le k 8 ≡ c
          → IsRead named_of K (Unit {0}) (Unit {0}) low out (looks_of b) (At_name w) named_rest
          (if nat_le k 8 then by_word (cue_is (cue.Word key.Of)) (behind_whole (cased.called ex room w))
          (pure (leaf (leaves.Name w))) else pure (leaf (leaves.Name w)))
      conditional w c e = body_read w (nat_le k 8) refl
