-- The reader of a type.
use Rattle.std.specs.Prelude.{Bool, false, if◌then◌else◌, ℕ, suc, [], ◌∷◌, Option, Some, None}
use Rattle.cat_pos.specs.declared.pos.Pos.{Pos}
use Rattle.cat_lex.specs.declared.token.Token.{Token}
use Rattle.cat_lex.specs.declared.token.TokenKind.{TokenKind}
use Rattle.cat_lex.specs.declared.words.DoubleKeyword.TheVariants as pair
use Rattle.cat_tree.specs.declared.name.Base.{Base}
use Rattle.cat_tree.specs.declared.name.Type as types
use Rattle.cat_parse_expr.specs.declared.cue.Cue.TheVariants as cue
use Rattle.cat_parse_expr.specs.Reader.{Reader, Fails, made_of, after, pure}
use Rattle.cat_parse_expr.specs.Cues.{cue_is, base_of}

-- a base, with its position
abbrev pub placed : Option Base → Pos → Option (Base × Pos)
placed None p = None
placed (Some b) p = Some (b, p)

-- the token as a base with its position
abbrev pub base_at : Token → Option (Base × Pos)
base_at t = placed (base_of t.kind) t.pos

-- a base with so many `list of` before it
abbrev pub typed : ℕ → Base × Pos → types.Type
typed n b = record { lists = n; base = b.0; pos = b.1 }

-- whether a token says that a list is meant
abbrev pub is_list_of : TokenKind → Bool
is_list_of k = cue_is (cue.Pair pair.ListOf) k

-- a type, once so many `list of` were read
abbrev pub type_after : ℕ → Reader types.Type
type_after n [] = Fails [] false None
type_after n (t ∷ ts) =
    if is_list_of t.kind then type_after (suc n) ts else after (made_of (base_at t) (t ∷ ts) ts) (λ b. pure (typed n b))

-- [list of]* T
abbrev pub a_type : Reader types.Type
a_type = type_after 0
