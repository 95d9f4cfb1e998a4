-- The readers of what stands before a definition's expressions are right.
use Rattle.std.proofs.Common.{◌≡◌, ℕ, Bool, true, false, List, [], ◌∷◌, ◌++◌, Option, Some, None, refl, sym, ap, subst}
use Rattle.std.proofs.Common.{◌∙◌}
use Rattle.cat_lex.specs.declared.token.TokenKind.TheVariants as kind
use Rattle.cat_lex.specs.declared.words.Keyword.TheVariants as key
use Rattle.cat_tree.specs.declared.program.Exception.TheVariants as exception
use Rattle.cat_parse_expr.specs.declared.cue.Cue.TheVariants as cue
use Rattle.cat_parse.proofs.Common.{Pos, Token, TokenKind, Name, SurfaceLabel, Exception, Parts, End, Word, At}
use Rattle.cat_parse.proofs.Common.{AreSpelled, label_parts, exception_parts, lead_parts, name_parts, ◌⨟◌, after}
use Rattle.cat_parse.proofs.Common.{made_of, pure, heads, optional, Outside, Before, IsLow, none_past, IsRightTo}
use Rattle.cat_parse.proofs.Common.{lower_of, lower, is_word, is_lower, label, exception_at, exception_of, an_exception}
use Rattle.cat_parse.proofs.Common.{lead, same_reader}
use Rattle.cat_parse.proofs.Steps.{pure_right}
use Rattle.cat_parse.proofs.Sequel.{part_right}
use Rattle.cat_parse.proofs.Choices.{Opens, OptionFits, optional_right, reshaped, made_right}
use Rattle.cat_parse.proofs.Leaves.{word_at_right, lower_right}
use Rattle.cat_parse.proofs.Last.{last_right}
use Rattle.cat_parse.proofs.Lists.{AllFit}
use Rattle.cat_parse.proofs.Declarations.{Any}

pub any_option : {A : Type 0} (o : Option A) → OptionFits Any o
any_option None = tt
any_option (Some x) = tt

pub any_list : {A : Type 0} (xs : List A) → AllFit Any xs
any_list [] = tt
any_list (x ∷ xs) = (tt, any_list xs)

-- ---- a name alone

name_pure : (ts : List Token) → (lower ⨟ λ w. pure w) ts ≡ lower ts
name_pure [] = refl
name_pure (t ∷ ts) = by (lower_of t)
  where
    by : (o : Option Name) → after (made_of o (t ∷ ts) ts) (λ w. pure w) ≡ made_of o (t ∷ ts) ts
    by None = refl
    by (Some w) = refl

pub name_right : (limit bound : ℕ) (out : TokenKind → Bool) → IsRightTo limit bound out Any name_parts lower
name_right limit bound out =
    record {
      right =
          same_reader (IsLow limit name_parts) bound (Before out) none_past Any name_parts (lower ⨟ λ w. pure w) lower
          name_pure (by_name.right);
    }
  where
    by_name : IsRightTo limit bound out Any name_parts (lower ⨟ λ w. pure w)
    by_name = lower_right (λ w. w) (λ x. pure_right (tt, refl) (λ w f. f.1))

pub opens_at : {A : Type 0} (start : TokenKind → Bool) (k : A → TokenKind) (at : A → Pos) (fits : A → Type 0)
    (rest : A → Parts) → ((x : A) → start (k x) ≡ true) → Opens start fits (λ x. Word (At (k x) (at x)) (rest x))
opens_at start k at fits rest e =
    record {
      at = λ x w v f s. ap (λ (u : List Token). heads start (u ++ v)) s.2 ∙ ap (λ (t : Token). start t.kind) s.3
          ∙ e x;
    }

-- ---- labels and exceptions

pub label_right : (limit bound : ℕ) (out : TokenKind → Bool) → IsRightTo limit bound out Any (λ l. label_parts (Some l))
    label
label_right limit bound out =
    word_at_right (cue.Word key.Label) λ p.
    last_right (λ l. l.name) name_parts (name_right limit bound out) (record {
      to = λ w f. (tt, refl);
      from = λ l f. tt;
      back = λ w. refl;
      only = λ l f. ap (λ (q : Pos). record { pos = q; name = l.name }) f.1;
    })

abbrev inner_name : Option Name → Parts
inner_name None = End
inner_name (Some w) = name_parts w

exception_at_right : (limit bound : ℕ) (out : TokenKind → Bool) → ((k : TokenKind) → out k ≡ true → is_lower k ≡ false)
    → IsRightTo limit bound out Any (λ x. Word (At (kind.Word key.Exception) x.0) (inner_name x.1)) exception_at
exception_at_right limit bound out off =
    word_at_right (cue.Word key.Exception) λ p.
    last_right (λ x. x.1) inner_name
    (optional_right Any name_parts (opens_at is_lower (λ w. kind.Lower w.text) (λ w. w.pos) Any (λ w. End) (λ w. refl))
    off refl (λ w. refl) (name_right limit bound out)) (record {
      to = λ w f. (tt, refl);
      from = λ x f. any_option x.1;
      back = λ w. refl;
      only = λ x f. ap (λ (q : Pos). (q, x.1)) f.1;
    })

abbrev exception_option : Option (Pos × Option Name) → Parts
exception_option None = End
exception_option (Some x) = Word (At (kind.Word key.Exception) x.0) (inner_name x.1)

exception_rows : (o : Option (Pos × Option Name)) → exception_parts (exception_of o) ≡ exception_option o
exception_rows None = refl
exception_rows (Some (p, None)) = refl
exception_rows (Some (p, Some w)) = refl

exception_from : (e : Exception) → (o : Option (Pos × Option Name)) × OptionFits Any o × (e ≡ exception_of o)
exception_from exception.No = (None, tt, refl)
exception_from (exception.OnlyRoot p) = (Some (p, None), tt, refl)
exception_from (exception.Labelled p w) = (Some (p, Some w), tt, refl)

pub exception_right : (limit bound : ℕ) (out : TokenKind → Bool) → ((k : TokenKind) → out k ≡ true → is_lower k ≡ false)
    → ((k : TokenKind) → out k ≡ true → is_word key.Exception k ≡ false)
    → IsRightTo limit bound out Any exception_parts an_exception
exception_right limit bound out off off2 =
    reshaped (λ e. (o : Option (Pos × Option Name)) × OptionFits Any o ×
    (e ≡ exception_of o)) exception_parts
    (record { to = λ e f. tt; from = λ e f. exception_from e; rows = λ e f. refl })
    (made_right (OptionFits Any) exception_option exception_rows
    (optional_right Any (λ x. Word (At (kind.Word key.Exception) x.0) (inner_name x.1))
    (opens_at (is_word key.Exception) (λ x. kind.Word key.Exception) (λ x. x.0) Any (λ x. inner_name x.1)
    (λ x. refl)) off2 refl (λ x. refl) (exception_at_right limit bound out off)))

-- what may stand behind a label
abbrev behind_label : (TokenKind → Bool) → TokenKind → Bool
behind_label out (kind.Word key.Label) = false
behind_label out k = true

exception_behind : (e : Exception) (w v : List Token) → AreSpelled (exception_parts e) w → (out : TokenKind → Bool)
    → ((k : TokenKind) → out k ≡ true → is_word key.Label k ≡ false) → Outside out v
    → Outside (behind_label out) (w ++ v)
exception_behind exception.No w v s out off o =
    subst (λ (u : List Token). Outside (behind_label out) (u ++ v)) (sym s) (by v o)
  where
    not_label : (k : TokenKind) → is_word key.Label k ≡ false → behind_label out k ≡ true
    not_label (kind.Word key.Label) e = let t : true ≡ false = e in absurd cc
    not_label _ e = refl

    by : (v : List Token) → Outside out v → Outside (behind_label out) v
    by [] o = tt
    by (p ∷ v) o = not_label p.kind (off p.kind o)
exception_behind (exception.OnlyRoot p) w v s out off o =
    subst (λ (u : List Token). Outside (behind_label out) (u ++ v)) (sym s.2)
    (ap (λ (t : Token). behind_label out t.kind) s.3)
exception_behind (exception.Labelled p x) w v s out off o =
    subst (λ (u : List Token). Outside (behind_label out) (u ++ v)) (sym s.2)
    (ap (λ (t : Token). behind_label out t.kind) s.3)

label_off : (out : TokenKind → Bool) (k : TokenKind) → behind_label out k ≡ true → is_word key.Label k ≡ false
label_off out (kind.Word key.Label) e = let t : false ≡ true = e in absurd cc
label_off out _ e = refl

pub lead_right : (limit bound : ℕ) (out : TokenKind → Bool) → ((k : TokenKind) → out k ≡ true → is_lower k ≡ false)
    → ((k : TokenKind) → out k ≡ true → is_word key.Exception k ≡ false)
    → ((k : TokenKind) → out k ≡ true → is_word key.Label k ≡ false) → IsRightTo limit bound out Any lead_parts lead
lead_right limit bound out off off2 off3 =
    part_right (λ l. l.label) label_parts labels (λ l f. any_option l.label)
    (λ l w v f s o. exception_behind l.exception w v s out off3 o)
    (λ l f. last_right (λ y. y.exception) exception_parts (exception_right limit bound out off off2) (record {
      to = λ e f. (tt, refl);
      from = λ y f. tt;
      back = λ e. refl;
      only = λ y f. ap (λ (o : Option SurfaceLabel). record { label = o; exception = y.exception }) f.1;
    }))
  where
    labels : IsRightTo limit bound (behind_label out) (OptionFits Any) label_parts (optional (is_word key.Label) label)
    labels =
        optional_right Any (λ l. label_parts (Some l))
        (opens_at (is_word key.Label) (λ l. kind.Word key.Label) (λ l. l.pos) Any (λ l. name_parts l.name) (λ l. refl))
        (label_off out) refl (λ l. refl) (label_right limit bound (behind_label out))
