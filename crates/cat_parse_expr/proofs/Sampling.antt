-- Samples of expressions, by their forms.
use Rattle.std.proofs.Common.{◌≡◌, ℕ, ◌≤◌, true, List, [], ◌∷◌, refl, sym, subst, arith}
use Rattle.cat_lex.specs.declared.token.TokenKind.TheVariants as kind
use Rattle.cat_lex.specs.declared.symbol.Symbol.TheVariants as symbol
use Rattle.cat_tree.specs.declared.name.Type as types
use Rattle.cat_tree.specs.declared.expression.Node.TheVariants as leaves
use Rattle.cat_tree.specs.declared.expression.Node.TheViews as node
use Rattle.cat_tree.specs.Wording as wording
use Rattle.cat_lex.specs.declared.words.Keyword.TheVariants as key
use Rattle.cat_lex.specs.declared.words.DoubleKeyword.TheVariants as pair
use Rattle.cat_tree.specs.declared.name.Base.TheVariants as base
use Rattle.cat_tree.specs.declared.expression.Pattern.TheVariants as pattern
use Rattle.cat_parse_expr.proofs.Common.{Token, TokenKind, accumulation, Name, SurfaceLiteral, SurfaceArm, Node, Phrase}
use Rattle.cat_parse_expr.proofs.Common.{Row, Parts, End, Word, Part, Operand, At, Anywhere, IsSpelling, AreSpelled}
use Rattle.cat_parse_expr.proofs.Common.{phrase, phrase_Combine, phrase_If, phrase_Match, phrase_Name, phrase_ScopeCall}
use Rattle.cat_parse_expr.proofs.Common.{phrase_Sum, right_strength, IsLevelled, Rank, of_level, AreLevelled, Begun}
use Rattle.cat_parse_expr.proofs.Common.{measured_of, IsMeasured, operand_row}
use Rattle.cat_parse_expr.proofs.Leaves.{token_is, anywhere}
use Rattle.cat_parse_expr.proofs.Operands.{operand_is}

-- ---- samples

-- some expression of the level begins with the token
abbrev pub Sample : (k : ℕ) → Token → Type 0
Sample k p = Begun IsMeasured (operand_row k) (p ∷ [])

pub sample_of : (k : ℕ) (p : Token) (n : Node) (r : Rank) (ps : Parts) (more : List Token) → phrase n ≡ Row r ps
    → k ≤ r.level → r.fits ≡ true → AreLevelled ps → AreSpelled ps (p ∷ more) → Sample k p
sample_of k p n r ps more e le bounded levels spelled =
    let o = operand_is k n r ps (p ∷ more) e le bounded levels spelled in
    record {
      value = measured_of n;
      more = more;
      is = record { fit = refl; levels = o.0; spelled = o.1 };
    }

abbrev pub a_name : Name
a_name = record { text = []; pos = anywhere }

abbrev pub a_node : Node
a_node = leaves.Name a_name

abbrev pub a_token : TokenKind → Token
a_token k = record { kind = k; pos = anywhere }

abbrev pub lower_token : Token
lower_token = a_token (kind.Lower [])

pub node_levels : (j : ℕ) → j ≤ 9 → (j ≤ right_strength (phrase a_node)) × IsLevelled (phrase a_node)
node_levels j le =
    subst (λ (f : Phrase). (j ≤ right_strength f) × IsLevelled f) (sym (phrase_Name a_name)) (le, (refl, tt))

pub node_spelled : IsSpelling (phrase a_node) (lower_token ∷ [])
node_spelled =
    subst (λ (f : Phrase). IsSpelling f (lower_token ∷ [])) (sym (phrase_Name a_name))
    (lower_token, [], refl, refl, refl)

pub name_sample : (k : ℕ) → k ≤ 9 → Begun IsMeasured (operand_row k) []
name_sample k le =
    let o = operand_is k a_node _ _ (lower_token ∷ []) (phrase_Name a_name) le refl tt
    (lower_token, [], refl, refl, refl) in
    record {
      value = measured_of a_node;
      more = lower_token ∷ [];
      is = record { fit = refl; levels = o.0; spelled = o.1 };
    }

-- an operand behind the words of a prefix
pub one_word : (k j : ℕ) (p : Token) (n : Node) (q : TokenKind) → k ≤ j → j ≤ 9 → p.kind ≡ q
    → phrase n ≡ Row (of_level j) (Word (At q p.pos) (Part (Operand j) (phrase a_node) End)) → Sample k p
one_word k j p n q le high e is =
    let l = node_levels j high in
    sample_of k p n _ _ (lower_token ∷ []) is le refl (l.0, l.1, tt)
    (p, lower_token ∷ [], refl, token_is p q p.pos e refl, (lower_token ∷ [], [], refl, node_spelled, refl))

pub two_words : (k : ℕ) (p : Token) (n : Node) (q : TokenKind) → k ≤ 8 → p.kind ≡ q
    → phrase n ≡ Row (of_level 8) (Word (At q p.pos) (Word (Anywhere (kind.Word key.Of))
    (Part (Operand 8) (phrase a_node) End))) → Sample k p
two_words k p n q le e is =
    let l = node_levels 8 (omega arith) in
    let w = a_token (kind.Word key.Of) in
    sample_of k p n _ _ (w ∷ lower_token ∷ []) is le refl (l.0, l.1, tt) (
      p,
      w ∷ lower_token ∷ [],
      refl,
      token_is p q p.pos e refl,
      (w, lower_token ∷ [], refl, refl, (lower_token ∷ [], [], refl, node_spelled, refl)),
    )

-- a form over a list, by its words
pub over_words : (k : ℕ) (p : Token) (n : Node) (q b : TokenKind) → k ≤ 8 → p.kind ≡ q
    → phrase n ≡ Row wording.form (Word (At q p.pos) (Word (At (kind.Lower []) anywhere)
    (Word (Anywhere (kind.Word key.Among)) (Part (Operand 0) (phrase a_node) (Word (Anywhere b)
    (Part (Operand 0) (phrase a_node) End)))))) → Sample k p
over_words k p n q b le e is =
    let l = node_levels 0 (omega arith) in
    let w = a_token (kind.Word key.Among) in
    let c = a_token b in
    sample_of k p n _ _ (lower_token ∷ w ∷ lower_token ∷ c ∷ lower_token ∷ []) is le refl
    (l.0, l.1, (l.0, l.1, tt)) (
      p,
      lower_token ∷ w ∷ lower_token ∷ c ∷ lower_token ∷ [],
      refl,
      token_is p q p.pos e refl,
      (
        lower_token,
        w ∷ lower_token ∷ c ∷ lower_token ∷ [],
        refl,
        refl,
        (
          w,
          lower_token ∷ c ∷ lower_token ∷ [],
          refl,
          refl,
          (
            lower_token ∷ [],
            c ∷ lower_token ∷ [],
            refl,
            node_spelled,
            (c, lower_token ∷ [], refl, refl, (lower_token ∷ [], [], refl, node_spelled, refl)),
          ),
        ),
      ),
    )

pub literal_sample : (k : ℕ) (p : Token) (l : SurfaceLiteral) (q : TokenKind) → k ≤ 9 → p.kind ≡ q
    → phrase (leaves.Literal l p.pos) ≡ Row (of_level 9) (Word (At q p.pos) End) → Sample k p
literal_sample k p l q le e is =
    sample_of k p (leaves.Literal l p.pos) _ _ [] is le refl tt (p, [], refl, token_is p q p.pos e refl, refl)

pub if_sample : (k : ℕ) (p : Token) → k ≤ 8 → p.kind ≡ kind.Word key.If → Sample k p
if_sample k p le e =
    let l = node_levels 0 (omega arith) in
    let t = a_token (kind.Word key.Then) in
    let f = a_token (kind.Word key.Else) in
    sample_of k p (node.If p.pos a_node a_node a_node) _ _ (lower_token ∷ t ∷ lower_token ∷ f ∷ lower_token ∷ [])
    (phrase_If p.pos a_node a_node a_node) le refl (l.0, l.1, (l.0, l.1, (l.0, l.1, tt))) (
      p,
      lower_token ∷ t ∷ lower_token ∷ f ∷ lower_token ∷ [],
      refl,
      token_is p (kind.Word key.If) p.pos e refl,
      (
        lower_token ∷ [],
        t ∷ lower_token ∷ f ∷ lower_token ∷ [],
        refl,
        node_spelled,
        (
          t,
          lower_token ∷ f ∷ lower_token ∷ [],
          refl,
          refl,
          (
            lower_token ∷ [],
            f ∷ lower_token ∷ [],
            refl,
            node_spelled,
            (f, lower_token ∷ [], refl, refl, (lower_token ∷ [], [], refl, node_spelled, refl)),
          ),
        ),
      ),
    )

an_arm : SurfaceArm
an_arm = record { pattern = pattern.Anything; body = a_node }

pub match_sample : (k : ℕ) (p : Token) → k ≤ 8 → p.kind ≡ kind.Word key.Match → Sample k p
unfolding an_arm
match_sample k p le e =
    let l = node_levels 0 (omega arith) in
    let w = a_token (kind.Pair pair.WithPattern) in
    let m = a_token (kind.Symbol symbol.MinusMinus) in
    let a = a_token (kind.Word key.Anything) in
    let c = a_token (kind.Symbol symbol.Colon) in
    sample_of k p (node.Match p.pos a_node (an_arm ∷ [])) _ _ (lower_token ∷ w ∷ m ∷ a ∷ c ∷ lower_token ∷ [])
    (phrase_Match p.pos a_node (an_arm ∷ [])) le refl (l.0, l.1, (l.0, l.1, tt)) (
      p,
      lower_token ∷ w ∷ m ∷ a ∷ c ∷ lower_token ∷ [],
      refl,
      token_is p (kind.Word key.Match) p.pos e refl,
      (
        lower_token ∷ [],
        w ∷ m ∷ a ∷ c ∷ lower_token ∷ [],
        refl,
        node_spelled,
        (
          w,
          m ∷ a ∷ c ∷ lower_token ∷ [],
          refl,
          refl,
          (
            m,
            a ∷ c ∷ lower_token ∷ [],
            refl,
            refl,
            (
              a,
              c ∷ lower_token ∷ [],
              refl,
              refl,
              (c, lower_token ∷ [], refl, refl, (lower_token ∷ [], [], refl, node_spelled, refl)),
            ),
          ),
        ),
      ),
    )

pub combine_sample : (k : ℕ) (p : Token) → k ≤ 8 → p.kind ≡ kind.Pair pair.CombineAll → Sample k p
combine_sample k p le e =
    let l = node_levels 0 (omega arith) in
    let x = a_token (kind.Word key.Among) in
    let i = a_token (kind.Word key.In) in
    let y = a_token (kind.Word key.Initially) in
    let w = a_token (kind.Word key.With) in
    let n = lower_token in
    sample_of k p (node.Combine (accumulation p.pos a_name a_name) a_node a_node a_node) _ _
    (n ∷ x ∷ n ∷ i ∷ n ∷ y ∷ n ∷ w ∷ n ∷ []) (phrase_Combine p.pos a_name a_node a_name a_node a_node) le refl
    (l.0, l.1, (l.0, l.1, (l.0, l.1, tt))) (
      p,
      n ∷ x ∷ n ∷ i ∷ n ∷ y ∷ n ∷ w ∷ n ∷ [],
      refl,
      token_is p (kind.Pair pair.CombineAll) p.pos e refl,
      (
        n,
        x ∷ n ∷ i ∷ n ∷ y ∷ n ∷ w ∷ n ∷ [],
        refl,
        refl,
        (
          x,
          n ∷ i ∷ n ∷ y ∷ n ∷ w ∷ n ∷ [],
          refl,
          refl,
          (
            n ∷ [],
            i ∷ n ∷ y ∷ n ∷ w ∷ n ∷ [],
            refl,
            node_spelled,
            (
              i,
              n ∷ y ∷ n ∷ w ∷ n ∷ [],
              refl,
              refl,
              (
                n,
                y ∷ n ∷ w ∷ n ∷ [],
                refl,
                refl,
                (
                  y,
                  n ∷ w ∷ n ∷ [],
                  refl,
                  refl,
                  (
                    n ∷ [],
                    w ∷ n ∷ [],
                    refl,
                    node_spelled,
                    (w, n ∷ [], refl, refl, (n ∷ [], [], refl, node_spelled, refl)),
                  ),
                ),
              ),
            ),
          ),
        ),
      ),
    )

a_type : types.Type
a_type = record { lists = 0; base = base.Boolean; pos = anywhere }

pub sum_sample : (k : ℕ) (p : Token) → k ≤ 8 → p.kind ≡ kind.Word key.Sum → Sample k p
unfolding a_type
sum_sample k p le e =
    let l = node_levels 8 (omega arith) in
    let t = a_token (kind.Word key.Boolean) in
    let o = a_token (kind.Word key.Of) in
    sample_of k p (node.Sum p.pos a_type a_node) _ _ (t ∷ o ∷ lower_token ∷ []) (phrase_Sum p.pos a_type a_node) le refl
    (l.0, l.1, tt) (
      p,
      t ∷ o ∷ lower_token ∷ [],
      refl,
      token_is p (kind.Word key.Sum) p.pos e refl,
      (
        t,
        o ∷ lower_token ∷ [],
        refl,
        refl,
        (o, lower_token ∷ [], refl, refl, (lower_token ∷ [], [], refl, node_spelled, refl)),
      ),
    )

pub call_sample : (k : ℕ) (p : Token) → k ≤ 9 → p.kind ≡ kind.Pair pair.OutputOf → Sample k p
call_sample k p le e =
    let u = a_token (kind.Upper []) in
    let w = a_token (kind.Word key.With) in
    let a = a_token (kind.Symbol symbol.LeftBrace) in
    let b = a_token (kind.Symbol symbol.RightBrace) in
    let d = a_token (kind.Symbol symbol.Dot) in
    sample_of k p (node.ScopeCall p.pos a_name [] a_name) _ _ (u ∷ w ∷ a ∷ b ∷ d ∷ lower_token ∷ [])
    (phrase_ScopeCall p.pos a_name [] a_name) le refl tt (
      p,
      u ∷ w ∷ a ∷ b ∷ d ∷ lower_token ∷ [],
      refl,
      token_is p (kind.Pair pair.OutputOf) p.pos e refl,
      (
        u,
        w ∷ a ∷ b ∷ d ∷ lower_token ∷ [],
        refl,
        refl,
        (
          w,
          a ∷ b ∷ d ∷ lower_token ∷ [],
          refl,
          refl,
          (
            a,
            b ∷ d ∷ lower_token ∷ [],
            refl,
            refl,
            (
              b,
              d ∷ lower_token ∷ [],
              refl,
              refl,
              (d, lower_token ∷ [], refl, refl, (lower_token, [], refl, refl, refl)),
            ),
          ),
        ),
      ),
    )
