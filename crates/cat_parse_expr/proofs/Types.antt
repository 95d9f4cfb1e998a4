-- The reader of types is right.
use Rattle.std.proofs.Common.{◌≡◌, ℕ, zero, suc, ◌≤◌, ◌-◌, Bool, true, false, if◌then◌else◌, List, [], ◌∷◌, ◌++◌}
use Rattle.std.proofs.Common.{length, Option, Some, None, refl, sym, ap, subst, ◌∙◌, arith, inl, inr, ◌⊎◌}
use Rattle.std.proofs.lemmas.Bool.{cases_lt}
use Rattle.std.proofs.lemmas.List.{length-append}
use Rattle.cat_lex.specs.declared.token.TokenKind.TheVariants as kind
use Rattle.cat_lex.specs.declared.words.Keyword.TheVariants as key
use Rattle.cat_lex.specs.declared.words.DoubleKeyword.TheVariants as pair
use Rattle.cat_tree.specs.declared.name.Base.TheVariants as base
use Rattle.cat_tree.specs.declared.name.Type as types
use Rattle.cat_parse_expr.specs.declared.cue.Cue.TheVariants as cue
use Rattle.cat_parse_expr.specs.Types.{placed}
use Rattle.cat_parse_expr.proofs.Common.{Pos, Token, TokenKind, Base, Parts, End, Word, At, Anywhere, IsAt, AreSpelled}
use Rattle.cat_parse_expr.proofs.Common.{base_kind, lists_of, type_parts, Parsed, Fails, Reads, left_of, ◌⨟◌, pure, one}
use Rattle.cat_parse_expr.proofs.Common.{made_of, after, by_word, heads, Begun, Taken, Says, Alike, IsRight, kind_of}
use Rattle.cat_parse_expr.proofs.Common.{base_of, «word», typed, base_at, is_list_of, type_after, a_type}
use Rattle.cat_parse_expr.proofs.Joining.{pure_right, no_front, agree_same}
use Rattle.cat_parse_expr.proofs.Token.{Terminals, token_right}
use Rattle.cat_parse_expr.proofs.Read.{IsRead}
use Rattle.cat_parse_expr.proofs.NothingWhole.{IsShut}
use Rattle.cat_parse_expr.proofs.Choices.{same_reader, reshaped, Decides, choice_right}
use Rattle.cat_parse_expr.proofs.Leaves.{cue_self, word_behind, lowered, some_one, not_both, token_is, anywhere}

-- ---- the word of a base

base_found : (k : TokenKind) (b : Base) → base_of k ≡ Some b → k ≡ base_kind b
base_found (kind.Upper u) b e = ap base_kind (some_one (base.Named u) b e)
base_found (kind.Word key.Boolean) b e = ap base_kind (some_one base.Boolean b e)
base_found (kind.Word key.Integer) b e = ap base_kind (some_one base.Integer b e)
base_found (kind.Word key.Decimal) b e = ap base_kind (some_one base.Decimal b e)
base_found (kind.Word key.Money) b e = ap base_kind (some_one base.Money b e)
base_found (kind.Word key.Date) b e = ap base_kind (some_one base.Date b e)
base_found (kind.Word key.Duration) b e = ap base_kind (some_one base.Duration b e)
base_found _ b e = absurd cc

base_self : (b : Base) → base_of (base_kind b) ≡ Some b
base_self base.Boolean = refl
base_self base.Integer = refl
base_self base.Decimal = refl
base_self base.Money = refl
base_self base.Date = refl
base_self base.Duration = refl
base_self (base.Named u) = refl

base_not_list : (b : Base) → is_list_of (base_kind b) ≡ false
base_not_list base.Boolean = refl
base_not_list base.Integer = refl
base_not_list base.Decimal = refl
base_not_list base.Money = refl
base_not_list base.Date = refl
base_not_list base.Duration = refl
base_not_list (base.Named u) = refl

placed_found : (o : Option Base) (p : Pos) (x : Base × Pos) → placed o p ≡ Some x → (o ≡ Some x.0) × (p ≡ x.1)
placed_found None p x e = absurd cc
placed_found (Some b) p x e =
    let same = some_one (b, p) x e in
    (ap (λ (t : Base × Pos). Some t.0) same, ap (λ (t : Base × Pos). t.1) same)

base_marks : (n : ℕ)
    → Terminals (λ (y : types.Type). y.lists ≡ n) (λ y. At (base_kind y.base) y.pos) base_at
    (λ x y. (y.base, y.pos) ≡ x)
base_marks n = record {
  gives = λ p x y e f i. some_one (y.base, y.pos) x (sym (made p y i) ∙ e);
  is =
      λ p x y e f i. let w = placed_found (base_of p.kind) p.pos x e in
      token_is p (base_kind y.base) y.pos (base_found p.kind x.0 w.0 ∙ ap (λ (t : Base × Pos). base_kind t.0) (sym i))
      (w.1 ∙ ap (λ (t : Base × Pos). t.1) (sym i));
  none = λ p y e f i. not_both (base_at p) (y.base, y.pos) e (made p y i);
  token = record { kind = kind.Word key.Boolean; pos = anywhere };
  made = (base.Boolean, anywhere);
  sample = refl;
}
  where
    made : (p : Token) (y : types.Type) → IsAt (At (base_kind y.base) y.pos) p → base_at p ≡ Some (y.base, y.pos)
    made p y i = ap base_at i ∙ ap (λ (o : Option Base). placed o y.pos) (base_self y.base)

-- ---- with the `list of` before it

abbrev from : ℕ → types.Type → Type 0
from n y = n ≤ y.lists

abbrev row : ℕ → types.Type → Parts
row n y = lists_of (y.lists - n) (Word (At (base_kind y.base) y.pos) End)

abbrev Low : types.Type → Type 0
Low y = Unit {0}

abbrev Out : types.Type → List Token → Type 0
Out y v = Unit {0}

abbrev looks : TokenKind → Bool
looks k = false

pub as_choice : (n : ℕ) (ts : List Token)
    → by_word is_list_of («word» (cue.Pair pair.ListOf) ⨟ λ p. type_after (suc n))
    (one base_at ⨟ λ b. pure (typed n b)) ts ≡ type_after n ts
as_choice n [] = refl
as_choice n (t ∷ ts) = by (is_list_of t.kind)
  where
    by : (c : Bool) → (if c then after (made_of (if c then Some t.pos else None) (t ∷ ts) ts) (λ p. type_after (suc n))
        else after (made_of (base_at t) (t ∷ ts) ts) (λ b. pure (typed n b)))
        ≡ (if c then type_after (suc n) ts else after (made_of (base_at t) (t ∷ ts) ts) (λ b. pure (typed n b)))
    by true = refl
    by false = refl

abbrev some_lists : ℕ → Bool
some_lists zero = false
some_lists (suc m) = true

opens : (m : ℕ) (b : Base) (p : Pos) (w v : List Token) → AreSpelled (lists_of m (Word (At (base_kind b) p) End)) w
    → (t : Token) × (u : List Token) × (w ++ v ≡ t ∷ u) × (is_list_of t.kind ≡ some_lists m)
opens zero b p w v s =
    (s.0, s.1 ++ v, ap (λ (u : List Token). u ++ v) s.2, ap (λ (t : Token). is_list_of t.kind) s.3 ∙ base_not_list b)
opens (suc m) b p w v s =
    (s.0, s.1 ++ v, ap (λ (u : List Token). u ++ v) s.2, ap is_list_of s.3 ∙ cue_self (cue.Pair pair.ListOf))

heads_list : (n : ℕ) (y : types.Type) (w v : List Token) (m : ℕ) → y.lists - n ≡ m → AreSpelled (row n y) w
    → heads is_list_of (w ++ v) ≡ some_lists m
heads_list n y w v m e s =
    let o =
    opens m y.base y.pos w v
    (subst (λ (k : ℕ). AreSpelled (lists_of k (Word (At (base_kind y.base) y.pos) End)) w) e s) in
    ap (heads is_list_of) o.2 ∙ o.3

decides : (n : ℕ) → Decides Out is_list_of (from n) (from (suc n)) (λ y. y.lists ≡ n) (row n)
decides n = record {
  either = either;
  from_yes = λ y f. omega (arith, f);
  from_no = λ y f. omega (arith, f);
  on = λ y w v f s o. heads_list n y w v (suc (y.lists - suc n)) (omega (arith, f)) s;
  off = λ y w v f s o. heads_list n y w v zero (omega (arith, f)) s;
}
  where
    either : (y : types.Type) → n ≤ y.lists → (suc n ≤ y.lists) ⊎ (y.lists ≡ n)
    either y f = elim (cases_lt n y.lists) [
      | inl more ↦ inl (omega (arith, more))
      | inr less ↦ inr (omega (arith, less, f))
    ]

type_is : (n : ℕ) (x : Base × Pos) (y : types.Type) → (y.lists ≡ n) × ((y.base, y.pos) ≡ x) → y ≡ typed n x
type_is n x y f = ap (λ (m : ℕ). typed m (y.base, y.pos)) f.0 ∙ ap (typed n) f.1

base_right : (bound n : ℕ)
    → IsRight Low bound Out looks (λ y. y.lists ≡ n) (row n) (one base_at ⨟ λ b. pure (typed n b))
base_right bound n =
    reshaped Low bound Out looks (λ y. y.lists ≡ n) (λ y. y.lists ≡ n) (λ y. Word (At (base_kind y.base) y.pos) End)
    (row n)
    (one base_at ⨟ λ b. pure (typed n b))
    (record {
      to = λ y f. f;
      from = λ y f. f;
      rows = λ y f. ap (λ (m : ℕ). lists_of m (Word (At (base_kind y.base) y.pos) End)) (none_left y f);
    })
    (lowered Low bound Out looks (λ y. y.lists ≡ n) (λ y. Word (At (base_kind y.base) y.pos) End)
    (one base_at ⨟ λ b. pure (typed n b))
    (token_right Low bound Out looks (λ y. y.lists ≡ n) (λ y. At (base_kind y.base) y.pos) (λ y. End) base_at
    (λ x y. (y.base, y.pos) ≡ x) (λ b. pure (typed n b)) (base_marks n)
    (λ x. pure_right Low bound Out looks (λ y. (y.lists ≡ n) × ((y.base, y.pos) ≡ x)) (typed n x) (refl, refl)
    tt (type_is n x))))
  where
    none_left : (y : types.Type) → y.lists ≡ n → 0 ≡ y.lists - n
    none_left y f = omega (arith, f)

type_alive : (n : ℕ) → Begun (from n) (row n) []
type_alive n =
    let b =
    (base_right 0 n).alive in
    record {
      value = b.value;
      more = b.more;
      is = record { fit = omega (arith, b.is.fit); levels = b.is.levels; spelled = b.is.spelled };
    }

list_row : (n : ℕ) (y : types.Type) → suc n ≤ y.lists → Word (Anywhere (kind_of (cue.Pair pair.ListOf))) (row (suc n) y)
    ≡ row n y
list_row n y f = ap (λ (m : ℕ). lists_of m (Word (At (base_kind y.base) y.pos) End)) (one_more y f)
  where
    one_more : (y : types.Type) → suc n ≤ y.lists → suc (y.lists - suc n) ≡ y.lists - n
    one_more y f = omega (arith, f)

no_words : (w v front others : List Token) (n : ℕ) (y : types.Type) → AreSpelled (row n y) w → w ++ v ≡ front ++ others
    → front ≡ [] → others ≡ [] → ⊥
no_words w v front others n y s t a b =
    let o = opens (y.lists - n) y.base y.pos w v s in
    omega (arith, ap length (sym o.2), ap length t, length-append front others, ap length a, ap length b)

pub type_right : (bound n : ℕ) → IsRight Low bound Out looks (from n) (row n) (type_after n)
type_right zero n = record {
  alive = type_alive n;
  taken = taken;
  says = says;
}
  where
    taken : (ts : List Token) → length ts ≤ 0 → Taken Low (from n) (row n) (type_after n ts) ts
    taken [] le = record { front = []; text = refl; took = type_alive n }
    taken (t ∷ ts) le = absurd (omega (arith, le))

    says : (ts front : List Token) (y : types.Type) (w : List Token) → length ts ≤ 0 → ts ≡ front
        ++ left_of (type_after n ts) → Alike Out looks (from n) (row n) (type_after n ts) front y w
        → Says Low (type_after n ts) y w front
    says [] front y w le text a =
        absurd (no_words w a.behind front a.others n y a.is.spelled a.text (no_front front [] text)
        (agree_same [] a.others a.seen refl))
    says (t ∷ ts) front y w le text a = absurd (omega (arith, le))
type_right (suc bound) n =
    same_reader Low (suc bound) Out looks (from n) (row n)
    (by_word is_list_of («word» (cue.Pair pair.ListOf) ⨟ λ p. type_after (suc n))
    (one base_at ⨟ λ b. pure (typed n b))) (type_after n) (as_choice n)
    (choice_right Low (suc bound) Out looks is_list_of (from n) (from (suc n)) (λ y. y.lists ≡ n) (row n)
    («word» (cue.Pair pair.ListOf) ⨟ λ p. type_after (suc n)) (one base_at ⨟ λ b. pure (typed n b)) (decides n)
    (reshaped Low (suc bound) Out looks (from (suc n)) (from (suc n))
    (λ y. Word (Anywhere (kind_of (cue.Pair pair.ListOf))) (row (suc n) y)) (row n)
    («word» (cue.Pair pair.ListOf) ⨟ λ p. type_after (suc n))
    (record { to = λ y f. f; from = λ y f. f; rows = list_row n })
    (word_behind Low bound Out looks (cue.Pair pair.ListOf) (from (suc n)) (row (suc n)) (λ p. type_after (suc n))
    (λ p. type_right bound (suc n))))
    (base_right (suc bound) n))

all_left : (y : types.Type) → y.lists - 0 ≡ y.lists
all_left y = omega arith

pub a_type_right : (bound : ℕ) → IsRight Low bound Out looks (λ y. Unit {0}) (λ y. type_parts y End) a_type
a_type_right bound =
    reshaped Low bound Out looks (from 0) (λ y. Unit {0}) (row 0) (λ y. type_parts y End) a_type
    (record {
      to = λ y f. tt;
      from = λ y f. omega arith;
      rows = λ y f. ap (λ (m : ℕ). lists_of m (Word (At (base_kind y.base) y.pos) End)) (all_left y);
    })
    (type_right bound 0)

-- a type, with all of its `list of`
pub type_read : IsRead (λ y. y) ⊥ (Unit {0}) (Unit {0}) Low Out looks (λ y. Unit {0}) (λ y. type_parts y End) a_type
type_read = record {
  reader = a_type;
  maps = λ ts. by (a_type ts);
  alive = λ f. (a_type_right 0).alive;
  right = λ f c bound. a_type_right bound;
  keeps = λ k f c bound. absurd k;
}
  where
    by : (o : Parsed types.Type) → o ≡ after o pure
    by (Fails left deep whole) = refl
    by (Reads x left) = refl

shut_after_lists : (n : ℕ) (ts : List Token) → IsShut (type_after n ts)
shut_after_lists n [] = refl
shut_after_lists n (t ∷ ts) = by (is_list_of t.kind) (base_at t) (shut_after_lists (suc n) ts)
  where
    by : (c : Bool) (o : Option (Base × Pos)) → IsShut (type_after (suc n) ts)
        → IsShut (if c then type_after (suc n) ts else after (made_of o (t ∷ ts) ts) (λ b. pure (typed n b)))
    by true o h = h
    by false None h = refl
    by false (Some b) h = tt

pub type_shut : (ts : List Token) → IsShut (a_type ts)
type_shut ts = shut_after_lists 0 ts
