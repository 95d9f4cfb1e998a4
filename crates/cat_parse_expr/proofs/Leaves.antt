-- The readers of one word are right.
use Rattle.std.proofs.Common.{◌≡◌, ℕ, suc, Bool, true, false, if◌then◌else◌, List, [], Option, Some, None, refl, sym}
use Rattle.std.proofs.Common.{ap, ◌∙◌, arith, rules}
use denote.Enum.Bare.{same_true, true_same}
use Rattle.cat_lex.specs.contracts.words.Keyword.{the_type as keywords}
use Rattle.cat_lex.specs.contracts.words.DoubleKeyword.{the_type as pairs}
use Rattle.cat_lex.specs.contracts.symbol.Symbol.{the_type as symbols}
use Rattle.cat_lex.specs.declared.token.TokenKind.TheVariants as kind
use Rattle.cat_parse_expr.specs.declared.cue.Cue.TheVariants as cue
use Rattle.cat_parse_expr.proofs.Common.{pos_of, Pos, Token, TokenKind, Name, Parts, Word, At, Anywhere, Cue, Reader}
use Rattle.cat_parse_expr.proofs.Common.{◌⨟◌, IsRight, kind_of, cue_is, word_of, lower_kind, upper_kind, lower_of}
use Rattle.cat_parse_expr.proofs.Common.{upper_of, «word»}
use Rattle.cat_parse_expr.proofs.Token.{Terminals, token_right}
use Rattle.cat_parse_expr.proofs.Choices.{reshaped}

pub cue_found : (c : Cue) (k : TokenKind) → cue_is c k ≡ true → k ≡ kind_of c
cue_found (cue.Word w) (kind.Word k) e = ap kind.Word (same_true keywords (search rules) k w e)
cue_found (cue.Pair w) (kind.Pair k) e = ap kind.Pair (same_true pairs (search rules) k w e)
cue_found (cue.Sign w) (kind.Symbol k) e = ap kind.Symbol (same_true symbols (search rules) k w e)
cue_found _ _ e = absurd cc

pub cue_self : (c : Cue) → cue_is c (kind_of c) ≡ true
cue_self (cue.Word w) = true_same keywords w w refl
cue_self (cue.Pair w) = true_same pairs w w refl
cue_self (cue.Sign w) = true_same symbols w w refl

pub lowered : {B : Type 0} (low : B → Type 0) (bound : ℕ) (out : B → List Token → Type 0) (looks : TokenKind → Bool)
    (fits : B → Type 0) (row : B → Parts)
    (r : Reader B)
    → IsRight low (suc bound) out looks fits row r → IsRight low bound out looks fits row r
lowered low bound out looks fits row r h = record {
  alive = h.alive;
  taken = λ ts le. h.taken ts (omega (arith, le));
  says = λ ts front y w le text a. h.says ts front y w (omega (arith, le)) text a;
}

abbrev pub anywhere : Pos
anywhere = pos_of 0 0 0

-- ---- a word, wherever it stands

word_case : (c : Cue) (k : TokenKind) (p x : Pos) (b : Bool) → cue_is c k ≡ b → (if b then Some p else None) ≡ Some x
    → (cue_is c k ≡ true) × (p ≡ x)
word_case c k p x true e h = (e, some_same h)
  where
    some_same : Some p ≡ Some x → p ≡ x
    some_same h = ap (λ (o : Option Pos). elim o [ None ↦ p | Some y ↦ y ]) h
word_case c k p x false e h = absurd cc

no_word : (c : Cue) (k : TokenKind) (p : Pos) (b : Bool) → cue_is c k ≡ b → (if b then Some p else None) ≡ None
    → cue_is c k ≡ false
no_word c k p true e h = absurd cc
no_word c k p false e h = e

not_self : (c : Cue) (k : TokenKind) → cue_is c k ≡ false → k ≡ kind_of c → ⊥
not_self c k e h = let t : cue_is c k ≡ true = ap (cue_is c) h ∙ cue_self c in absurd cc

pub some_one : {A : Type 0} (x y : A) → Some x ≡ Some y → x ≡ y
some_one {A = A} x y h = ap (or_that x) h
  where
    or_that : A → Option A → A
    or_that d None = d
    or_that d (Some z) = z

pub word_marks : {B : Type 0} (c : Cue) (fits : B → Type 0)
    → Terminals fits (λ y. Anywhere (kind_of c)) (word_of c) (λ x y. Unit {0})
word_marks c fits = record {
  gives = λ p x y e f i. tt;
  is = λ p x y e f i. cue_found c p.kind (word_case c p.kind p.pos x (cue_is c p.kind) refl e).0;
  none = λ p y e f i. not_self c p.kind (no_word c p.kind p.pos (cue_is c p.kind) refl e) i;
  token = record { kind = kind_of c; pos = anywhere };
  made = anywhere;
  sample = ap (λ (b : Bool). if b then Some anywhere else None) (cue_self c);
}

pub word_behind : {B : Type 0} (low : B → Type 0) (bound : ℕ) (out : B → List Token → Type 0)
    (looks : TokenKind → Bool) (c : Cue) (fits : B → Type 0)
    (rest : B → Parts)
    (r : Pos → Reader B) → ((p : Pos) → IsRight low bound out looks fits rest (r p))
    → IsRight low (suc bound) out looks fits (λ y. Word (Anywhere (kind_of c)) (rest y)) («word» c ⨟ r)
word_behind low bound out looks c fits rest r right =
    token_right low bound out looks fits (λ y. Anywhere (kind_of c)) rest (word_of c) (λ x y. Unit {0}) r
    (word_marks c fits)
    (λ p. reshaped low bound out looks fits (λ y. fits y × Unit {0}) rest rest (r p)
    (record { to = λ y f. (f, tt); from = λ y f. f.0; rows = λ y f. refl }) (right p))

pub token_is : (p : Token) (k : TokenKind) (at : Pos) → p.kind ≡ k → p.pos ≡ at → p ≡ record { kind = k; pos = at }
token_is p k at e f =
    ap (λ (x : TokenKind). record { kind = x; pos = p.pos }) e ∙ ap (λ (x : Pos). record { kind = k; pos = x }) f

pub word_at_marks : {B : Type 0} (c : Cue) (fits : B → Type 0) (at : B → Pos)
    → Terminals fits (λ y. At (kind_of c) (at y)) (word_of c) (λ x y. at y ≡ x)
word_at_marks c fits at = record {
  gives = λ p x y e f i. sym (ap (λ (t : Token). t.pos) i) ∙ (word_case c p.kind p.pos x (cue_is c p.kind) refl e).1;
  is =
      λ p x y e f i. let w = word_case c p.kind p.pos x (cue_is c p.kind) refl e in
      token_is p (kind_of c) (at y) (cue_found c p.kind w.0) (w.1 ∙ sym i);
  none =
      λ p y e f i. not_self c p.kind (no_word c p.kind p.pos (cue_is c p.kind) refl e) (ap (λ (t : Token). t.kind) i);
  token = record { kind = kind_of c; pos = anywhere };
  made = anywhere;
  sample = ap (λ (b : Bool). if b then Some anywhere else None) (cue_self c);
}

-- ---- names

lower_found : (k : TokenKind) (p : Pos) (x : Name) → lower_kind k p ≡ Some x → (k ≡ kind.Lower x.text) × (p ≡ x.pos)
lower_found (kind.Lower w) p x e =
    let same =
    some_one (record { text = w; pos = p }) x e in
    (ap (λ (n : Name). kind.Lower n.text) same, ap (λ (n : Name). n.pos) same)
lower_found _ p x e = absurd cc

upper_found : (k : TokenKind) (p : Pos) (x : Name) → upper_kind k p ≡ Some x → (k ≡ kind.Upper x.text) × (p ≡ x.pos)
upper_found (kind.Upper w) p x e =
    let same =
    some_one (record { text = w; pos = p }) x e in
    (ap (λ (n : Name). kind.Upper n.text) same, ap (λ (n : Name). n.pos) same)
upper_found _ p x e = absurd cc

pub not_both : {A : Type 0} (o : Option A) (x : A) → o ≡ None → o ≡ Some x → ⊥
not_both o x e f = let h : None ≡ Some x = sym e ∙ f in absurd cc

pub lower_marks : {B : Type 0} (fits : B → Type 0) (name : B → Name)
    → Terminals fits (λ y. At (kind.Lower (name y).text) (name y).pos) lower_of (λ x y. name y ≡ x)
lower_marks fits name = record {
  gives = λ p x y e f i. some_one (name y) x (sym (ap lower_of i) ∙ e);
  is =
      λ p x y e f i. let w = lower_found p.kind p.pos x e in
      token_is p (kind.Lower (name y).text) (name y).pos (w.0 ∙ ap (λ (n : Name). kind.Lower n.text) (sym i))
      (w.1 ∙ ap (λ (n : Name). n.pos) (sym i));
  none = λ p y e f i. not_both (lower_of p) (name y) e (ap lower_of i);
  token = record { kind = kind.Lower []; pos = anywhere };
  made = record { text = []; pos = anywhere };
  sample = refl;
}

pub upper_marks : {B : Type 0} (fits : B → Type 0) (name : B → Name)
    → Terminals fits (λ y. At (kind.Upper (name y).text) (name y).pos) upper_of (λ x y. name y ≡ x)
upper_marks fits name = record {
  gives = λ p x y e f i. some_one (name y) x (sym (ap upper_of i) ∙ e);
  is =
      λ p x y e f i. let w = upper_found p.kind p.pos x e in
      token_is p (kind.Upper (name y).text) (name y).pos (w.0 ∙ ap (λ (n : Name). kind.Upper n.text) (sym i))
      (w.1 ∙ ap (λ (n : Name). n.pos) (sym i));
  none = λ p y e f i. not_both (upper_of p) (name y) e (ap upper_of i);
  token = record { kind = kind.Upper []; pos = anywhere };
  made = record { text = []; pos = anywhere };
  sample = refl;
}
