-- The reader of targets is right.
use Rattle.std.proofs.Common.{◌≡◌, ℕ, Bool, true, false, List, [], ◌∷◌, ◌++◌, Option, refl, sym, ap, subst, ◌∙◌}
use Rattle.cat_lex.specs.declared.token.TokenKind.TheVariants as kind
use Rattle.cat_lex.specs.declared.words.Keyword.TheVariants as key
use Rattle.cat_lex.specs.declared.symbol.Symbol.TheVariants as symbol
use Rattle.cat_parse_expr.specs.declared.cue.Cue.TheVariants as cue
use Rattle.cat_parse.proofs.Common.{Token, TokenKind, Name, Word, Anywhere, AreSpelled, name_parts, inner_parts}
use Rattle.cat_parse.proofs.Common.{names_parts, target_parts, optional, Outside, IsRightTo, lower, is_comma, is_word}
use Rattle.cat_parse.proofs.Common.{is_dot, inner, names, target}
use Rattle.cat_parse.proofs.Sequel.{part_right}
use Rattle.cat_parse.proofs.Choices.{OptionFits, optional_right, opens_word}
use Rattle.cat_parse.proofs.Leaves.{word_right, lower_right}
use Rattle.cat_parse.proofs.Last.{last_right}
use Rattle.cat_parse.proofs.Lists.{AllFit}
use Rattle.cat_parse.proofs.Listed.{any_word, led_right}
use Rattle.cat_parse.proofs.Declarations.{Any}
use Rattle.cat_parse.proofs.Leads.{any_option, any_list, name_right}

-- what may follow a target
abbrev pub behind_target : TokenKind → Bool
behind_target (kind.Symbol symbol.Dot) = false
behind_target (kind.Symbol symbol.Comma) = false
behind_target (kind.Word key.Of) = false
behind_target k = true

abbrev no_dot : TokenKind → Bool
no_dot (kind.Symbol symbol.Dot) = false
no_dot k = true

dot_off : (k : TokenKind) → no_dot k ≡ true → is_dot k ≡ false
dot_off (kind.Symbol symbol.Dot) e = let t : false ≡ true = e in absurd cc
dot_off _ e = refl

comma_off : (k : TokenKind) → behind_target k ≡ true → is_comma k ≡ false
comma_off (kind.Symbol symbol.Comma) e = let t : false ≡ true = e in absurd cc
comma_off _ e = refl

of_off : (k : TokenKind) → behind_target k ≡ true → is_word key.Of k ≡ false
of_off (kind.Word key.Of) e = let t : false ≡ true = e in absurd cc
of_off _ e = refl

target_no_dot : (k : TokenKind) → behind_target k ≡ true → no_dot k ≡ true
target_no_dot (kind.Symbol symbol.Dot) e = let t : false ≡ true = e in absurd cc
target_no_dot _ e = refl

names_right : (limit bound : ℕ) → IsRightTo limit bound behind_target (AllFit Any) names_parts names
names_right limit bound =
    led_right limit behind_target Any name_parts lower comma_off (λ b. name_right limit b any_word)
    (cue.Word key.Of) names_parts refl (λ x xs. refl) of_off bound

names_behind : (ns : List Name) (w v : List Token) → AreSpelled (names_parts ns) w → Outside behind_target v
    → Outside no_dot (w ++ v)
names_behind [] w v s o = subst (λ (u : List Token). Outside no_dot (u ++ v)) (sym s) (by v o)
  where
    by : (v : List Token) → Outside behind_target v → Outside no_dot v
    by [] o = tt
    by (p ∷ v) o = target_no_dot p.kind o
names_behind (n ∷ ns) w v s o = subst (λ (u : List Token). Outside no_dot (u ++ v)) (sym s.2) (ap no_dot s.3)

inner_right : (limit bound : ℕ) → IsRightTo limit bound no_dot (OptionFits Any) inner_parts (optional is_dot inner)
inner_right limit bound =
    optional_right Any (λ w. Word (Anywhere (kind.Symbol symbol.Dot)) (name_parts w)) (opens_word refl) dot_off refl
    (λ w. refl) (word_right (cue.Sign symbol.Dot) (λ p. name_right limit bound no_dot))

pub target_right : (limit bound : ℕ) → IsRightTo limit bound behind_target Any target_parts target
target_right limit bound =
    lower_right (λ t. t.name) λ w.
    part_right (λ t. t.inner) inner_parts (inner_right limit bound) (λ t f. any_option t.inner)
    (λ t w v f s o. names_behind t.params w v s o) λ i g.
    last_right (λ t. t.params) names_parts (names_right limit bound) (record {
      to = λ ps f. ((tt, refl), refl);
      from = λ t f. any_list t.params;
      back = λ ps. refl;
      only =
          λ t f. ap (λ (n : Name). record { name = n; inner = t.inner; params = t.params }) f.0.1
          ∙ ap (λ (o : Option Name). record { name = w; inner = o; params = t.params }) f.1;
    })
