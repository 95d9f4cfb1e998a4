-- The content of a case.
use Rattle.std.proofs.Common.{◌≡◌, ℕ, suc, ◌≤◌, Bool, true, false, List, [], ◌++◌, refl, sym, ap, ◌∙◌, arith, inl, inr}
use Rattle.std.proofs.Common.{◌⊎◌, if◌then◌else◌, nat_eq, nat_le, ◌&&◌}
use Rattle.std.proofs.lemmas.Bool.Decides.{nat_tests}
use Rattle.cat_lex.specs.declared.token.TokenKind.TheVariants as kind
use Rattle.cat_lex.specs.declared.words.Keyword.TheVariants as key
use Rattle.cat_tree.specs.declared.expression.Node.TheViews as node
use Rattle.cat_tree.specs.Wording as wording
use Rattle.cat_parse_expr.specs.declared.behind.Behind.TheVariants.{Other, Field, Pattern as Tested}
use Rattle.cat_parse_expr.specs.declared.cue.Cue.TheVariants as cue
use Rattle.cat_parse_expr.specs.Cases as cased
use Rattle.cat_tree.specs.declared.expression.Node.TheVariants as leaves
use Rattle.cat_parse_expr.proofs.Common.{Token, Parts, End, ◌▹◌, part, phrase, Behind, Measured, kind_of, ending, pure}
use Rattle.cat_parse_expr.proofs.Common.{Lower, looks_of, KeepsWhole, IsMeasured, IsLow, operand_row, AreRight}
use Rattle.cat_parse_expr.proofs.Common.{AreSpelled, heads, by_word, cue_is, Is, is_asked, leaf, behind_whole, CaseName}
use Rattle.cat_parse_expr.proofs.Operands.{Next, end_read, ending_next, goes_then}
use Rattle.cat_parse_expr.proofs.Read.{IsRead, pure_read}
use Rattle.cat_parse_expr.proofs.Worded.{word_read}
use Rattle.cat_parse_expr.proofs.Sequels.{last_read}
use Rattle.cat_parse_expr.proofs.Choices.{Decides, Recast}
use Rattle.cat_parse_expr.proofs.Shaping.{recast_read, reshape_read}
use Rattle.cat_parse_expr.proofs.Turnings.{heads_begin, own_heads}
use Rattle.cat_parse_expr.proofs.Chosen.{choice_read}
use Rattle.cat_parse_expr.proofs.Follows.{IsOwn, call_ends}

-- ---- [content E]

pub data Held : Type 0 where
  Nothing : Held
  Content : Measured → Held

abbrev pub content_of : CaseName → Measured → Measured
content_of c e = ending 8 e.height e.strength e.in_match (node.Content c e.node)

abbrev pub held_of : CaseName → Held → Measured
held_of c Nothing = leaf (leaves.Case c)
held_of c (Content e) = content_of c e

abbrev pub held_row : Held → Parts
held_row Nothing = End
held_row (Content e) = wording.«word» key.Content ▹ part 8 (phrase e.node) ▹ End

abbrev pub held_fits : (k : ℕ) → Held → Type 0
held_fits k Nothing = Unit {0}
held_fits k (Content e) = IsMeasured e × (k ≤ 8)

abbrev IsNothing : Held → Type 0
IsNothing Nothing = Unit {0}
IsNothing (Content e) = ⊥

abbrev IsContent : (k : ℕ) → Held → Type 0
IsContent k Nothing = ⊥
IsContent k (Content e) = IsMeasured e × (k ≤ 8)

content_own : IsOwn (kind_of (cue.Word key.Content))
content_own = (refl, refl, refl, λ b ts. by b ts)
  where
    by : (b : Behind) (ts : List Token) → is_asked b (kind.Word key.Content) ts ≡ false
    by Other ts = refl
    by Field ts = refl
    by Tested ts = refl

no_comma : (z : Bool) → (z && false) ≡ false
no_comma true = refl
no_comma false = refl

module _ (ex : Lower) (room : ℕ) (right : AreRight room ex)
    (kept : (b : Behind) (j bound : ℕ) → j ≤ 9 → KeepsWhole (IsLow room) bound IsMeasured (operand_row j) (ex b j))
    (b : Behind) (k : ℕ) (c : CaseName) where
  content_read : {K : Type 0} → k ≤ 8
      → IsRead (content_of c) K (Unit {0}) (Unit {0}) (λ e. (content_of c e).height ≤ suc room)
      (λ e v. Next b k (content_of c e) v) (looks_of b) IsMeasured
      (λ e. wording.«word» key.Content ▹ part 8 (phrase e.node) ▹ End) (cased.content ex room b c)
  content_read le =
      word_read (cue.Word key.Content) _ _
      (λ p. last_read (λ e. e) (λ e. e) _
      (end_read ex room right b 8 (omega arith) (λ bound. kept b 8 bound (omega arith))) (λ x ts. refl)
      (record {
        fit = λ y f. f;
        built = λ f x m. m;
        has = λ x. refl;
        only = λ f y h. refl;
        lows = λ f c x m low. omega (arith, low);
        part = λ f x m low. omega (arith, low);
        outside = λ f x v m o. ending_next b k (content_of c x) 8 8 x v (call_ends k le) refl refl o;
      }))

  abbrev low : Held → Type 0
  low y = (held_of c y).height ≤ suc room

  abbrev out : Held → List Token → Type 0
  out y v = Next b k (held_of c y) v

  begins : (y : Held) (u v : List Token) → IsContent k y → AreSpelled (held_row y) u
      → heads (cue_is (cue.Word key.Content)) (u ++ v) ≡ true
  begins Nothing u v f s = absurd f
  begins (Content e) u v f s = heads_begin (cue.Word key.Content) u v s

  decides : Decides out (cue_is (cue.Word key.Content)) (held_fits k) (IsContent k) IsNothing held_row
  decides = record {
    either = either;
    from_yes = from_yes;
    from_no = from_no;
    on = λ y u v f s o. begins y u v f s;
    off = off;
  }
    where
      either : (y : Held) → held_fits k y → IsContent k y ⊎ IsNothing y
      either Nothing f = inr tt
      either (Content e) f = inl f

      from_yes : (y : Held) → IsContent k y → held_fits k y
      from_yes Nothing f = tt
      from_yes (Content e) f = f

      from_no : (y : Held) → IsNothing y → held_fits k y
      from_no Nothing f = tt
      from_no (Content e) f = absurd f

      off : (y : Held) (u v : List Token) → IsNothing y → AreSpelled (held_row y) u → out y v
          → heads (cue_is (cue.Word key.Content)) (u ++ v) ≡ false
      off Nothing u v f s o =
          ap (λ (z : List Token). heads (cue_is (cue.Word key.Content)) (z ++ v)) s
          ∙ own_heads b k (held_of c Nothing) (cue.Word key.Content) v content_own (no_comma (nat_eq k 9))
          (goes_then b k (held_of c Nothing) v o)
      off (Content e) u v f s o = absurd f

  spent : (y : Held) (u v : List Token) → IsNothing y → AreSpelled (held_row y) u
      → heads (cue_is (cue.Word key.Content)) (u ++ v) ≡ true → u ≡ []
  spent Nothing u v f s h = s
  spent (Content e) u v f s h = absurd f

  cast : k ≤ 8 → Recast (λ e. (content_of c e).height ≤ suc room) low
      (λ e v. Next b k (content_of c e) v) out IsMeasured
      (IsContent k) (λ e. wording.«word» key.Content ▹ part 8 (phrase e.node) ▹ End) held_row Content
  cast le = record {
    to = λ e u i. record { fit = (i.fit, le); levels = i.levels; spelled = i.spelled };
    from = from;
    lows = λ e fit l. l;
    back = λ e fit l. l;
    outside = λ e v fit o. o;
  }
    where
      from : (y : Held) (u : List Token) → Is (IsContent k) held_row y u → (e : Measured) × (y ≡ Content e)
          × Is IsMeasured (λ e. wording.«word» key.Content ▹ part 8 (phrase e.node) ▹ End) e u
      from Nothing u i = absurd i.fit
      from (Content e) u i = (e, refl, record { fit = i.fit.0; levels = i.levels; spelled = i.spelled })

  nothing_is : (y : Held) → IsNothing y → y ≡ Nothing
  nothing_is Nothing f = refl
  nothing_is (Content e) f = absurd f

  plain_read : {K : Type 0}
      → IsRead (held_of c) K (Unit {0}) (Unit {0}) low out (looks_of b) IsNothing held_row (pure (leaf (leaves.Case c)))
  plain_read =
      reshape_read IsNothing IsNothing (λ y. End) held_row (pure (leaf (leaves.Case c)))
      (record { to = λ y f. f; from = λ y f. f; rows = λ y f. sym (ap held_row (nothing_is y f)) })
      (pure_read Nothing (λ f. tt) (λ f c. omega arith) (λ y f h. nothing_is y h))

  body_read : {K : Type 0} (z : Bool) → nat_le k 8 ≡ z
      → IsRead (held_of c) K (Unit {0}) (Unit {0}) low out (looks_of b) (held_fits k) held_row
      (if z then by_word (cue_is (cue.Word key.Content)) (behind_whole (cased.content ex room b c))
      (pure (leaf (leaves.Case c))) else pure (leaf (leaves.Case c)))
  body_read true e =
      choice_read (cue_is (cue.Word key.Content)) (IsContent k) IsNothing decides begins spent Nothing
      (λ f. record { fit = tt; levels = tt; spelled = refl }) (λ f c. omega arith)
      (recast_read _ _ _ _ Content (λ c. refl) (λ f. f) (λ f c. c) (λ f. (cast below).to) (λ f c. cast below)
      (content_read below)) plain_read
    where
      below : k ≤ 8
      below = grind (arith, nat_tests, e)
  body_read false e =
      reshape_read IsNothing (held_fits k) held_row held_row (pure (leaf (leaves.Case c)))
      (record { to = to; from = from; rows = λ y f. refl }) plain_read
    where
      above : k ≤ 8 → ⊥
      above le = grind (arith, nat_tests, e, le)

      to : (y : Held) → IsNothing y → held_fits k y
      to Nothing f = tt
      to (Content d) f = absurd f

      from : (y : Held) → held_fits k y → IsNothing y
      from Nothing f = tt
      from (Content d) f = absurd (above f.1)

  pub held_read : {K : Type 0}
      → IsRead (held_of c) K (Unit {0}) (Unit {0}) low out (looks_of b) (held_fits k) held_row
      (cased.case_content ex room b k c)
  held_read = body_read (nat_le k 8) refl
