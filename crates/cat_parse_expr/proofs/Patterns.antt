-- Names of cases, and patterns.
use Rattle.std.proofs.Common.{◌≡◌, Bool, true, false, if◌then◌else◌, List, [], ◌++◌, None, Some, refl, sym, ap, subst}
use Rattle.std.proofs.Common.{◌∙◌, inl, inr, ◌⊎◌}
use Rattle.cat_lex.specs.declared.token.TokenKind.TheVariants as kind
use Rattle.cat_lex.specs.declared.words.Keyword.TheVariants as key
use Rattle.cat_lex.specs.declared.symbol.Symbol.TheVariants as symbol
use Rattle.cat_tree.specs.declared.expression.Pattern.TheVariants as pattern
use Rattle.cat_tree.specs.Wording as wording
use Rattle.cat_parse_expr.specs.declared.cue.Cue.TheVariants as cue
use Rattle.cat_parse_expr.specs.Cues as cues
use Rattle.cat_parse_expr.specs.Arms.{case_from, case_pattern, a_pattern}
use Rattle.cat_parse_expr.specs.Parts.{is_sign, key_word, sign as a_sign}
use Rattle.cat_parse_expr.proofs.Common.{Token, TokenKind, Name, CaseName, Bare, Qualified, Pattern, ◌▸◌, Parts, End}
use Rattle.cat_parse_expr.proofs.Common.{Word, At, AreSpelled, pattern_parts, ◌▹◌, sign, upper, lower, cue_is, word_of}
use Rattle.cat_parse_expr.proofs.Common.{upper_of, lower_of, Reader, ◌⨟◌, pure, heads, by_word, behind_whole, fallen}
use Rattle.cat_parse_expr.proofs.Choices.{Decides}
use Rattle.cat_parse_expr.proofs.Chosen.{inner_choice_read, choice_read, same_read}
use Rattle.cat_parse_expr.proofs.Leaves.{anywhere}
use Rattle.cat_parse_expr.proofs.Read.{IsRead, pure_read}
use Rattle.cat_parse_expr.proofs.NothingWhole.{IsShut, shut_after, one_shut}
use Rattle.cat_parse_expr.proofs.Sequels.{past_none, open_part_read}
use Rattle.cat_parse_expr.proofs.Shaping.{reshape_read}
use Rattle.cat_parse_expr.proofs.Turnings.{heads_begin, heads_other}
use Rattle.cat_parse_expr.proofs.Worded.{word_read, upper_read, lower_read}

-- ---- [. U]

abbrev pub case_first : CaseName → Name
case_first (Bare u) = u
case_first (Qualified d u) = d

abbrev pub case_rest : CaseName → Parts
case_rest (Bare u) = End
case_rest (Qualified d u) = sign symbol.Dot ▹ upper u ▹ End

-- behind a bare one stands no dot
abbrev pub NoDot : CaseName → List Token → Type 0
NoDot (Bare u) v = heads (is_sign symbol.Dot) v ≡ false
NoDot (Qualified d u) v = Unit {0}

abbrev Free : CaseName → Type 0
Free c = Unit {0}

abbrev IsBare : CaseName → Type 0
IsBare (Bare u) = Unit {0}
IsBare (Qualified d u) = ⊥

abbrev IsQualified : CaseName → Type 0
IsQualified (Bare u) = ⊥
IsQualified (Qualified d u) = Unit {0}

abbrev At_first : Name → CaseName → Type 0
At_first u c = case_first c ≡ u

abbrev second_of : CaseName → Name
second_of (Bare u) = u
second_of (Qualified d u) = u

module _ (u : Name) where
  abbrev Yes : CaseName → Type 0
  Yes c = At_first u c × IsQualified c

  abbrev No : CaseName → Type 0
  No c = At_first u c × IsBare c

  either : (c : CaseName) → At_first u c → Yes c ⊎ No c
  either (Bare x) f = inr (f, tt)
  either (Qualified d x) f = inl (f, tt)

  begins : (c : CaseName) (w v : List Token) → Yes c → AreSpelled (case_rest c) w
      → heads (is_sign symbol.Dot) (w ++ v) ≡ true
  begins (Bare x) w v f s = absurd f.1
  begins (Qualified d x) w v f s = heads_begin (cue.Sign symbol.Dot) w v s

  ends : (c : CaseName) (w v : List Token) → No c → AreSpelled (case_rest c) w → NoDot c v
      → heads (is_sign symbol.Dot) (w ++ v) ≡ false
  ends (Bare x) w v f s o = ap (λ (z : List Token). heads (is_sign symbol.Dot) (z ++ v)) s ∙ o
  ends (Qualified d x) w v f s o = absurd f.1

  spent : (c : CaseName) (w v : List Token) → No c → AreSpelled (case_rest c) w
      → heads (is_sign symbol.Dot) (w ++ v) ≡ true → w ≡ []
  spent (Bare x) w v f s h = s
  spent (Qualified d x) w v f s h = absurd f.1

  decides : Decides NoDot (is_sign symbol.Dot) (At_first u) Yes No case_rest
  decides = record {
    either = either;
    from_yes = λ y f. f.0;
    from_no = λ y f. f.0;
    on = λ y w v f s o. begins y w v f s;
    off = ends;
  }

  qualified_is : (x : Name) (c : CaseName) → Yes c → second_of c ≡ x → c ≡ Qualified u x
  qualified_is x (Bare y) f e = absurd f.1
  qualified_is x (Qualified d y) f e =
      ap (λ (n : Name). Qualified n y) f.0 ∙ ap (λ (n : Name). Qualified u n) e

  qualified_rows : (c : CaseName) → Yes c
      → (sign symbol.Dot ▹ upper (second_of c) ▹ End) ≡ case_rest c
  qualified_rows (Bare y) f = absurd f.1
  qualified_rows (Qualified d y) f = refl

  abbrev a_second : Reader CaseName
  a_second = a_sign symbol.Dot ⨟ λ p. cues.upper ⨟ λ c. pure (Qualified u c)

  qualified_read : {K F C : Type 0} {looks : TokenKind → Bool}
      → IsRead (λ c. c) K F C Free NoDot looks Yes case_rest a_second
  qualified_read =
      reshape_read Yes Yes (λ c. sign symbol.Dot ▹ upper (second_of c) ▹ End) case_rest a_second
      (record { to = λ y f. f; from = λ y f. f; rows = qualified_rows })
      (word_read (cue.Sign symbol.Dot) _ _
      (λ p. upper_read second_of _ _
      (λ x. pure_read (Qualified u x) (λ f. ((refl, tt), refl)) (λ f c. tt) (λ y f h. qualified_is x y h.0 h.1))))

  bare_is : (c : CaseName) → No c → c ≡ Bare u
  bare_is (Bare y) f = ap Bare f.0
  bare_is (Qualified d y) f = absurd f.1

  bare_read : {K F C : Type 0} {looks : TokenKind → Bool}
      → IsRead (λ c. c) K F C Free NoDot looks No case_rest (pure (Bare u))
  bare_read =
      reshape_read No No (λ c. End) case_rest (pure (Bare u))
      (record { to = λ y f. f; from = λ y f. f; rows = λ y f. sym (ap case_rest (bare_is y f)) })
      (pure_read (Bare u) (λ f. (refl, tt)) (λ f c. tt) (λ y f h. bare_is y h))

  -- within a part that words follow
  pub inner_case_read : {F C : Type 0} {looks : TokenKind → Bool}
      → IsRead (λ c. c) ⊥ F C Free NoDot looks (At_first u) case_rest (case_from u)
  inner_case_read = inner_choice_read (is_sign symbol.Dot) Yes No decides qualified_read bare_read

  fallen_choice : (ts : List Token) → behind_whole (case_from u) ts
      ≡ by_word (is_sign symbol.Dot) (behind_whole a_second) (pure (Bare u)) ts
  fallen_choice ts = by (heads (is_sign symbol.Dot) ts)
    where
      by : (c : Bool) → fallen ts (if c then a_second ts else pure (Bare u) ts)
          ≡ (if c then fallen ts (a_second ts) else pure (Bare u) ts)
      by true = refl
      by false = refl

  -- behind something whole
  pub whole_case_read : {K F C : Type 0} {looks : TokenKind → Bool}
      → IsRead (λ c. c) K F C Free NoDot looks (At_first u) case_rest (behind_whole (case_from u))
  whole_case_read =
      same_read (by_word (is_sign symbol.Dot) (behind_whole a_second) (pure (Bare u))) _ fallen_choice
      (choice_read (is_sign symbol.Dot) Yes No decides begins spent (Bare u)
      (λ f. record { fit = (refl, tt); levels = tt; spelled = refl }) (λ f c. tt) qualified_read bare_read)

pub case_shut : (u : Name) (ts : List Token) → IsShut (case_from u ts)
case_shut u ts = by (heads (is_sign symbol.Dot) ts)
  where
    by : (c : Bool) → IsShut (if c then (a_sign symbol.Dot ⨟ λ p. cues.upper ⨟ λ c. pure (Qualified u c)) ts
        else pure (Bare u) ts)
    by true =
        shut_after (a_sign symbol.Dot ts) _ (one_shut (word_of (cue.Sign symbol.Dot)) ts)
        (λ p ts. shut_after (cues.upper ts) _ (one_shut upper_of ts) (λ c ts. tt))
    by false = tt

-- ---- C [of w]

abbrev pub pattern_row : Pattern → Parts
pattern_row a = pattern_parts a End

pub pattern_behind : (a : Pattern) (rest : Parts) → pattern_row a ▸ rest ≡ pattern_parts a rest
pattern_behind pattern.Anything rest = refl
pattern_behind (pattern.Case (Bare u) None) rest = refl
pattern_behind (pattern.Case (Qualified d u) None) rest = refl
pattern_behind (pattern.Case (Bare u) (Some w)) rest = refl
pattern_behind (pattern.Case (Qualified d u) (Some w)) rest = refl

abbrev BeforeColon : Pattern → List Token → Type 0
BeforeColon a v = heads (is_sign symbol.Colon) v ≡ true

abbrev Low : Pattern → Type 0
Low a = Unit {0}

abbrev none : TokenKind → Bool
none k = false

abbrev case_in : Pattern → CaseName
case_in pattern.Anything = Bare (record { text = []; pos = anywhere })
case_in (pattern.Case c o) = c

abbrev bound_rest : Pattern → Parts
bound_rest (pattern.Case c (Some w)) = wording.«word» key.Of ▹ lower w ▹ End
bound_rest a = End

abbrev bound_name : Pattern → Name
bound_name (pattern.Case c (Some w)) = w
bound_name a = record { text = []; pos = anywhere }

abbrev IsCase : Pattern → Type 0
IsCase pattern.Anything = ⊥
IsCase (pattern.Case c o) = Unit {0}

abbrev Binds : Pattern → Type 0
Binds (pattern.Case c (Some w)) = Unit {0}
Binds a = ⊥

abbrev Binds_none : Pattern → Type 0
Binds_none (pattern.Case c None) = Unit {0}
Binds_none a = ⊥

module _ (u : Name) (c : CaseName) where
  abbrev At_case : Pattern → Type 0
  At_case a = (IsCase a × (case_first (case_in a) ≡ u)) × (case_in a ≡ c)

  abbrev Some_name : Pattern → Type 0
  Some_name a = At_case a × Binds a

  abbrev No_name : Pattern → Type 0
  No_name a = At_case a × Binds_none a

  binding : (a : Pattern) → At_case a → Some_name a ⊎ No_name a
  binding pattern.Anything f = absurd f.0.0
  binding (pattern.Case d None) f = inr (f, tt)
  binding (pattern.Case d (Some w)) f = inl (f, tt)

  binds_decides : Decides BeforeColon (cue_is (cue.Word key.Of)) At_case Some_name No_name bound_rest
  binds_decides = record {
    either = binding;
    from_yes = λ y f. f.0;
    from_no = λ y f. f.0;
    on = on;
    off = off;
  }
    where
      on : (a : Pattern) (w v : List Token) → Some_name a → AreSpelled (bound_rest a) w → BeforeColon a v
          → heads (cue_is (cue.Word key.Of)) (w ++ v) ≡ true
      on pattern.Anything w v f s o = absurd f.1
      on (pattern.Case d None) w v f s o = absurd f.1
      on (pattern.Case d (Some x)) w v f s o = heads_begin (cue.Word key.Of) w v s

      off : (a : Pattern) (w v : List Token) → No_name a → AreSpelled (bound_rest a) w → BeforeColon a v
          → heads (cue_is (cue.Word key.Of)) (w ++ v) ≡ false
      off pattern.Anything w v f s o = absurd f.1
      off (pattern.Case d (Some x)) w v f s o = absurd f.1
      off (pattern.Case d None) w v f s o =
          ap (λ (z : List Token). heads (cue_is (cue.Word key.Of)) (z ++ v)) s
          ∙ heads_other (cue.Sign symbol.Colon) (cue.Word key.Of) v refl o

  some_is : (w : Name) (a : Pattern) → Some_name a → bound_name a ≡ w → a ≡ pattern.Case c (Some w)
  some_is w pattern.Anything f e = absurd f.1
  some_is w (pattern.Case d None) f e = absurd f.1
  some_is w (pattern.Case d (Some x)) f e =
      ap (λ (z : CaseName). pattern.Case z (Some x)) f.0.1 ∙ ap (λ (z : Name). pattern.Case c (Some z)) e

  none_is : (a : Pattern) → No_name a → a ≡ pattern.Case c None
  none_is pattern.Anything f = absurd f.1
  none_is (pattern.Case d (Some x)) f = absurd f.1
  none_is (pattern.Case d None) f = ap (λ (z : CaseName). pattern.Case z None) f.0.1

  some_rows : (a : Pattern) → Some_name a → (wording.«word» key.Of ▹ lower (bound_name a) ▹ End) ≡ bound_rest a
  some_rows pattern.Anything f = absurd f.1
  some_rows (pattern.Case d None) f = absurd f.1
  some_rows (pattern.Case d (Some x)) f = refl

  binding_read : {F C : Type 0} → IsRead (λ a. a) ⊥ (F × (case_first c ≡ u)) C Low BeforeColon none At_case bound_rest
      (by_word (cue_is (cue.Word key.Of))
      (key_word key.Of ⨟ λ p. cues.lower ⨟ λ w. pure (pattern.Case c (Some w))) (pure (pattern.Case c None)))
  binding_read =
      inner_choice_read (cue_is (cue.Word key.Of)) Some_name No_name binds_decides
      (reshape_read Some_name Some_name (λ a. wording.«word» key.Of ▹ lower (bound_name a) ▹ End) bound_rest _
      (record { to = λ y f. f; from = λ y f. f; rows = some_rows })
      (word_read (cue.Word key.Of) _ _
      (λ p. lower_read bound_name _ _
      (λ w. pure_read (pattern.Case c (Some w)) (λ f. ((((tt, f.1), refl), tt), refl)) (λ f c. tt)
      (λ y f h. some_is w y h.0 h.1)))))
      (reshape_read No_name No_name (λ a. End) bound_rest _
      (record { to = λ y f. f; from = λ y f. f; rows = λ y f. sym (ap bound_rest (none_is y f)) })
      (pure_read (pattern.Case c None) (λ f. (((tt, f.1), refl), tt)) (λ f c. tt) (λ y f h. none_is y h)))

case_pattern_rows : (a : Pattern) → IsCase a
    → Word (At (kind.Upper (case_first (case_in a)).text) (case_first (case_in a)).pos)
    (case_rest (case_in a) ▸ bound_rest a) ≡ pattern_row a
case_pattern_rows pattern.Anything f = absurd f
case_pattern_rows (pattern.Case (Bare u) None) f = refl
case_pattern_rows (pattern.Case (Qualified d u) None) f = refl
case_pattern_rows (pattern.Case (Bare u) (Some w)) f = refl
case_pattern_rows (pattern.Case (Qualified d u) (Some w)) f = refl

no_dot_behind : (a : Pattern) (w v : List Token) → AreSpelled (bound_rest a) w → BeforeColon a v
    → NoDot (case_in a) (w ++ v)
no_dot_behind a w v s o = by (case_in a) (at a s)
  where
    by : (c : CaseName) → heads (is_sign symbol.Dot) (w ++ v) ≡ false → NoDot c (w ++ v)
    by (Bare u) h = h
    by (Qualified d u) h = tt

    at : (a : Pattern) → AreSpelled (bound_rest a) w → heads (is_sign symbol.Dot) (w ++ v) ≡ false
    at pattern.Anything s =
        ap (λ (z : List Token). heads (is_sign symbol.Dot) (z ++ v)) s
        ∙ heads_other (cue.Sign symbol.Colon) (cue.Sign symbol.Dot) v refl o
    at (pattern.Case c None) s =
        ap (λ (z : List Token). heads (is_sign symbol.Dot) (z ++ v)) s
        ∙ heads_other (cue.Sign symbol.Colon) (cue.Sign symbol.Dot) v refl o
    at (pattern.Case c (Some x)) s =
        heads_other (cue.Word key.Of) (cue.Sign symbol.Dot) (w ++ v) refl (heads_begin (cue.Word key.Of) w v s)

case_pattern_read : {F C : Type 0} → IsRead (λ a. a) ⊥ F C Low BeforeColon none IsCase pattern_row case_pattern
case_pattern_read =
    reshape_read IsCase IsCase
    (λ a. Word (At (kind.Upper (case_first (case_in a)).text) (case_first (case_in a)).pos)
    (case_rest (case_in a) ▸ bound_rest a)) pattern_row case_pattern
    (record { to = λ y f. f; from = λ y f. f; rows = case_pattern_rows })
    (upper_read (λ a. case_first (case_in a)) _ _
    (λ u. open_part_read case_in bound_rest _ (inner_case_read u) (λ x ts. past_none none _ ts)
    (record {
      fit = λ y f. f.1;
      behind = λ y w v f s o. no_dot_behind y w v s o;
      part = λ y f low. tt;
    })
    (λ c. binding_read u c)))

-- ---- anything | C [of w]

abbrev IsAny : Pattern → Type 0
IsAny pattern.Anything = Unit {0}
IsAny (pattern.Case c o) = ⊥

any_decides : Decides BeforeColon (cue_is (cue.Word key.Anything)) Low IsAny IsCase pattern_row
any_decides = record {
  either = either;
  from_yes = λ y f. tt;
  from_no = λ y f. tt;
  on = on;
  off = off;
}
  where
    either : (a : Pattern) → Low a → IsAny a ⊎ IsCase a
    either pattern.Anything f = inl tt
    either (pattern.Case c o) f = inr tt

    on : (a : Pattern) (w v : List Token) → IsAny a → AreSpelled (pattern_row a) w → BeforeColon a v
        → heads (cue_is (cue.Word key.Anything)) (w ++ v) ≡ true
    on pattern.Anything w v f s o = heads_begin (cue.Word key.Anything) w v s
    on (pattern.Case c o2) w v f s o = absurd f

    off : (a : Pattern) (w v : List Token) → IsCase a → AreSpelled (pattern_row a) w → BeforeColon a v
        → heads (cue_is (cue.Word key.Anything)) (w ++ v) ≡ false
    off a w v f s o =
        let t = subst (λ (ps : Parts). AreSpelled ps w) (sym (case_pattern_rows a f)) s in
        ap (λ (z : List Token). heads (cue_is (cue.Word key.Anything)) (z ++ v)) t.2
        ∙ ap (λ (z : Token). cue_is (cue.Word key.Anything) z.kind) t.3

any_is : (a : Pattern) → IsAny a → a ≡ pattern.Anything
any_is pattern.Anything f = refl
any_is (pattern.Case c o) f = absurd f

any_rows : (a : Pattern) → IsAny a → (wording.«word» key.Anything ▹ End) ≡ pattern_row a
any_rows pattern.Anything f = refl
any_rows (pattern.Case c o) f = absurd f

-- before a colon
pub pattern_read : IsRead (λ a. a) ⊥ (Unit {0}) (Unit {0}) Low BeforeColon none Low pattern_row a_pattern
pattern_read =
    inner_choice_read (cue_is (cue.Word key.Anything)) IsAny IsCase any_decides
    (reshape_read IsAny IsAny (λ a. wording.«word» key.Anything ▹ End) pattern_row _
    (record { to = λ y f. f; from = λ y f. f; rows = any_rows })
    (word_read (cue.Word key.Anything) _ _
    (λ p. pure_read pattern.Anything (λ f. tt) (λ f c. tt) (λ y f h. any_is y h))))
    case_pattern_read

pub pattern_shut : (ts : List Token) → IsShut (a_pattern ts)
pattern_shut ts = by (heads (cue_is (cue.Word key.Anything)) ts)
  where
    bound : (c : CaseName) (ts : List Token) (z : Bool)
        → IsShut (if z then (key_word key.Of ⨟ λ p. cues.lower ⨟ λ w. pure (pattern.Case c (Some w))) ts
        else pure (pattern.Case c None) ts)
    bound c ts true =
        shut_after (key_word key.Of ts) _ (one_shut (word_of (cue.Word key.Of)) ts)
        (λ p ts. shut_after (cues.lower ts) _ (one_shut lower_of ts) (λ w ts. tt))
    bound c ts false = tt

    by : (z : Bool) → IsShut (if z then (key_word key.Anything ⨟ λ p. pure pattern.Anything) ts else case_pattern ts)
    by true = shut_after (key_word key.Anything ts) _ (one_shut (word_of (cue.Word key.Anything)) ts) (λ p ts. tt)
    by false =
        shut_after (cues.upper ts) _ (one_shut upper_of ts)
        (λ u ts. shut_after (case_from u ts) _ (case_shut u ts)
        (λ c ts. bound c ts (heads (cue_is (cue.Word key.Of)) ts)))
