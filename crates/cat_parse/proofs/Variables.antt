-- The reader of variables is right.
use Rattle.std.proofs.Common.{◌≡◌, ℕ, Bool, true, false, List, [], ◌∷◌, ◌++◌, Option, Some, None, refl, sym, ap, subst}
use Rattle.std.proofs.Common.{◌∙◌, inl, inr, ◌⊎◌}
use Rattle.cat_lex.specs.declared.token.TokenKind.TheVariants as kind
use Rattle.cat_lex.specs.declared.words.Keyword.TheVariants as key
use Rattle.cat_lex.specs.declared.words.DoubleKeyword.TheVariants as pair
use Rattle.cat_tree.specs.declared.name.Type as types
use Rattle.cat_tree.specs.declared.program.Variable.TheVariants as variable
use Rattle.cat_parse_expr.specs.declared.cue.Cue.TheVariants as cue
use Rattle.cat_parse.proofs.Common.{Pos, Token, TokenKind, Keyword, Name, FieldItem, VariableKind, Input, InputOutput}
use Rattle.cat_parse.proofs.Common.{Output, Internal, Context, ContextOutput, Variable, Parts, End, Word, At, Anywhere}
use Rattle.cat_parse.proofs.Common.{AreSpelled, ◌▸◌, type_parts, typed_parts, kind_parts, variable_type_parts}
use Rattle.cat_parse.proofs.Common.{params_parts, variable_parts, heads, by_word, Outside, IsRightTo, cue_is}
use Rattle.cat_parse.proofs.Common.{typed_name, is_content, is_comma, is_word, kind_or, kind_of_one, a_kind}
use Rattle.cat_parse.proofs.Common.{variable_type, params, is_lower, called, own, a_variable}
use Rattle.cat_parse.proofs.Steps.{pure_right}
use Rattle.cat_parse.proofs.Sequel.{part_right}
use Rattle.cat_parse.proofs.Choices.{reshaped, made_right, Decides, choice_right}
use Rattle.cat_parse.proofs.Leaves.{word_right, word_at_right, lower_right, upper_right}
use Rattle.cat_parse.proofs.Last.{last_right}
use Rattle.cat_parse.proofs.Lists.{AllFit}
use Rattle.cat_parse.proofs.Listed.{any_word, outside_any, led_right}
use Rattle.cat_parse.proofs.Declarations.{Any, typed_right, content_right}
use Rattle.cat_parse.proofs.Leads.{any_list}

-- ---- what a variable is

variable_type_decides : Decides any_word is_content Any (λ o. (t : types.Type) × Any t × (o ≡ Some t)) (λ o. o ≡ None)
    variable_type_parts
variable_type_decides = record {
  either = either;
  from_yes = λ o f. tt;
  from_no = λ o f. tt;
  on = λ o w v f s x. on o f.0 f.2 w v s;
  off = λ o w v f s x. off o f w v s;
}
  where
    either : (o : Option types.Type) → Any o → ((t : types.Type) × Any t × (o ≡ Some t)) ⊎ (o ≡ None)
    either None f = inr refl
    either (Some t) f = inl (t, tt, refl)

    on : (o : Option types.Type) (t : types.Type) → o ≡ Some t → (w v : List Token) → AreSpelled (variable_type_parts o)
        w
        → heads is_content (w ++ v) ≡ true
    on o t e w v s =
        let x =
        subst (λ (z : Option types.Type). AreSpelled (variable_type_parts z) w) e s in
        ap (λ (u : List Token). heads is_content (u ++ v)) x.2 ∙ ap is_content x.3

    off : (o : Option types.Type) → o ≡ None → (w v : List Token) → AreSpelled (variable_type_parts o) w
        → heads is_content (w ++ v) ≡ false
    off o e w v s =
        let x =
        subst (λ (z : Option types.Type). AreSpelled (variable_type_parts z) w) e s in
        ap (λ (u : List Token). heads is_content (u ++ v)) x.2 ∙ ap is_content x.3

pub variable_type_right : (limit bound : ℕ) → IsRightTo limit bound any_word Any variable_type_parts variable_type
variable_type_right limit bound =
    choice_right (λ o. (t : types.Type) × Any t × (o ≡ Some t)) (λ o. o ≡ None) variable_type_decides
    (made_right Any (λ t. Word (Anywhere (kind.Word key.Content)) (type_parts t End)) (λ t. refl)
    (content_right limit bound any_word))
    (reshaped (λ o. o ≡ None) (λ o. Word (Anywhere (kind.Word key.Condition)) End)
    (record { to = λ o f. f; from = λ o f. f; rows = λ o f. ap variable_type_parts (sym f) })
    (word_right (cue.Word key.Condition) (λ p. pure_right refl (λ o f. f))))

-- ---- kinds

abbrev kind_row : VariableKind × Pos → Parts
kind_row k = kind_parts k.0 k.1

abbrev IsKind : VariableKind → VariableKind × Pos → Type 0
IsKind k x = x.0 ≡ k

one_kind : (limit bound : ℕ) (out : TokenKind → Bool) (c : Keyword) (k : VariableKind)
    → ((p : Pos) → Word (At (kind.Word c) p) End ≡ kind_parts k p)
    → IsRightTo limit bound out (IsKind k) kind_row (kind_of_one c k)
one_kind limit bound out c k rows =
    reshaped (IsKind k) (λ x. Word (At (kind.Word c) x.1) End) (record {
      to = λ x f. f;
      from = λ x f. f;
      rows = λ x f. rows x.1
          ∙ ap (λ (z : VariableKind). kind_parts z x.1) (sym f);
    }) (word_at_right (cue.Word c)
    (λ p. pure_right (refl, refl) (λ x f. ap (λ (z : VariableKind). (z, x.1)) f.0 ∙ ap (λ (q : Pos). (k, q)) f.1)))

abbrev second_word : VariableKind → Parts
second_word InputOutput = Word (Anywhere (kind.Word key.Output)) End
second_word ContextOutput = Word (Anywhere (kind.Word key.Output)) End
second_word k = End

output_off : (k : TokenKind) → is_lower k ≡ true → is_word key.Output k ≡ false
output_off (kind.Lower w) e = refl
output_off k e = absurd cc

abbrev one_of : VariableKind → VariableKind → VariableKind × Pos → Type 0
one_of a b x = (x.0 ≡ a) ⊎ (x.0 ≡ b)

heads_outside : (v : List Token) → Outside is_lower v → heads (is_word key.Output) v ≡ false
heads_outside [] o = refl
heads_outside (p ∷ v) o = output_off p.kind o

two_kinds : (limit bound : ℕ) (c : Keyword) (a b : VariableKind)
    → ((p : Pos) → Word (At (kind.Word c) p) End ≡ kind_parts a p)
    → ((p : Pos) → Word (At (kind.Word c) p) (Word (Anywhere (kind.Word key.Output)) End) ≡ kind_parts b p)
    → second_word a ≡ End → second_word b ≡ Word (Anywhere (kind.Word key.Output)) End
    → IsRightTo limit bound is_lower (one_of a b) kind_row (kind_or c a b)
two_kinds limit bound c a b rows_a rows_b sa sb =
    reshaped (one_of a b) (λ x. Word (At (kind.Word c) x.1) (second_word x.0))
    (record { to = λ x f. f; from = λ x f. f; rows = rows }) (word_at_right (cue.Word c) λ p.
    choice_right (λ x. (x.0 ≡ b) × (x.1 ≡ p)) (λ x. (x.0 ≡ a) × (x.1 ≡ p)) (record {
      either = λ x f. either x p f.0 f.1;
      from_yes = λ x f. (inr f.0, f.1);
      from_no = λ x f. (inl f.0, f.1);
      on =
          λ x w v f s o. let t = subst (λ (ps : Parts). AreSpelled ps w) (ap second_word f.0 ∙ sb) s in
          ap (λ (u : List Token). heads (is_word key.Output) (u ++ v)) t.2 ∙ ap (is_word key.Output) t.3;
      off =
          λ x w v f s o. ap (λ (u : List Token). heads (is_word key.Output) (u ++ v))
          (subst (λ (ps : Parts). AreSpelled ps w) (ap second_word f.0 ∙ sa) s) ∙ heads_outside v o;
    }) (reshaped (λ x. (x.0 ≡ b) × (x.1 ≡ p)) (λ x. Word (Anywhere (kind.Word key.Output)) End)
    (record { to = λ x f. f; from = λ x f. f; rows = λ x f. sym (ap second_word f.0 ∙ sb) })
    (word_right (cue.Word key.Output) (λ q. pure_right (refl, refl) (pair_is b p))))
    (reshaped (λ x. (x.0 ≡ a) × (x.1 ≡ p)) (λ x. End)
    (record { to = λ x f. f; from = λ x f. f; rows = λ x f. sym (ap second_word f.0 ∙ sa) })
    (pure_right (refl, refl) (pair_is a p))))
  where
    pair_is : (k : VariableKind) (p : Pos) (x : VariableKind × Pos) → (x.0 ≡ k) × (x.1 ≡ p) → x ≡ (k, p)
    pair_is k p x f = ap (λ (z : VariableKind). (z, x.1)) f.0 ∙ ap (λ (q : Pos). (k, q)) f.1

    either : (x : VariableKind × Pos) (p : Pos) → one_of a b x → x.1 ≡ p
        → ((x.0 ≡ b) × (x.1 ≡ p)) ⊎ ((x.0 ≡ a) × (x.1 ≡ p))
    either x p (inl e) g = inr (e, g)
    either x p (inr e) g = inl (e, g)

    rows : (x : VariableKind × Pos) → one_of a b x → Word (At (kind.Word c) x.1) (second_word x.0) ≡ kind_row x
    rows x (inl e) =
        ap (Word (At (kind.Word c) x.1)) (ap second_word e ∙ sa) ∙ rows_a x.1
        ∙ ap (λ (z : VariableKind). kind_parts z x.1) (sym e)
    rows x (inr e) =
        ap (Word (At (kind.Word c) x.1)) (ap second_word e ∙ sb) ∙ rows_b x.1
        ∙ ap (λ (z : VariableKind). kind_parts z x.1) (sym e)

-- the first word of a kind
abbrev first_word : VariableKind → Keyword
first_word Input = key.Input
first_word InputOutput = key.Input
first_word Output = key.Output
first_word Internal = key.Internal
first_word Context = key.Context
first_word ContextOutput = key.Context

kind_head : (test : TokenKind → Bool) (x : VariableKind × Pos) (w v : List Token) → AreSpelled (kind_row x) w
    → heads test (w ++ v) ≡ test (kind.Word (first_word x.0))
kind_head test x w v s = by x.0 s
  where
    by : (k : VariableKind) → AreSpelled (kind_parts k x.1) w → heads test (w ++ v) ≡ test (kind.Word (first_word k))
    by Input s = ap (λ (u : List Token). heads test (u ++ v)) s.2 ∙ ap (λ (t : Token). test t.kind) s.3
    by InputOutput s = ap (λ (u : List Token). heads test (u ++ v)) s.2 ∙ ap (λ (t : Token). test t.kind) s.3
    by Output s = ap (λ (u : List Token). heads test (u ++ v)) s.2 ∙ ap (λ (t : Token). test t.kind) s.3
    by Internal s = ap (λ (u : List Token). heads test (u ++ v)) s.2 ∙ ap (λ (t : Token). test t.kind) s.3
    by Context s = ap (λ (u : List Token). heads test (u ++ v)) s.2 ∙ ap (λ (t : Token). test t.kind) s.3
    by ContextOutput s = ap (λ (u : List Token). heads test (u ++ v)) s.2 ∙ ap (λ (t : Token). test t.kind) s.3

abbrev Third : VariableKind × Pos → Type 0
Third x = IsKind Internal x ⊎ one_of Context ContextOutput x

abbrev Second : VariableKind × Pos → Type 0
Second x = IsKind Output x ⊎ Third x

heads_of : (test : TokenKind → Bool) (x : VariableKind × Pos) (k : VariableKind) (b : Bool) (w v : List Token) → x.0 ≡ k
    → test (kind.Word (first_word k)) ≡ b → AreSpelled (kind_row x) w → heads test (w ++ v) ≡ b
heads_of test x k b w v e f s = kind_head test x w v s ∙ ap (λ (z : VariableKind). test (kind.Word (first_word z))) e
    ∙ f

third_right : (limit bound : ℕ)
    → IsRightTo limit bound is_lower Third kind_row
    (by_word (is_word key.Internal) (kind_of_one key.Internal Internal) (kind_or key.Context Context ContextOutput))
third_right limit bound =
    choice_right (IsKind Internal) (one_of Context ContextOutput) (record {
      either = λ x f. f;
      from_yes = λ x f. inl f;
      from_no = λ x f. inr f;
      on = λ x w v f s o. heads_of (is_word key.Internal) x Internal true w v f refl s;
      off = λ x w v f s o. off x w v f s;
    }) (one_kind limit bound is_lower key.Internal Internal (λ p. refl))
    (two_kinds limit bound key.Context Context ContextOutput (λ p. refl) (λ p. refl) refl refl)
  where
    off : (x : VariableKind × Pos) (w v : List Token) → one_of Context ContextOutput x → AreSpelled (kind_row x) w
        → heads (is_word key.Internal) (w ++ v) ≡ false
    off x w v (inl e) s = heads_of (is_word key.Internal) x Context false w v e refl s
    off x w v (inr e) s = heads_of (is_word key.Internal) x ContextOutput false w v e refl s

second_right : (limit bound : ℕ)
    → IsRightTo limit bound is_lower Second kind_row
    (by_word (is_word key.Output) (kind_of_one key.Output Output)
    (by_word (is_word key.Internal) (kind_of_one key.Internal Internal) (kind_or key.Context Context ContextOutput)))
second_right limit bound =
    choice_right (IsKind Output) Third (record {
      either = λ x f. f;
      from_yes = λ x f. inl f;
      from_no = λ x f. inr f;
      on = λ x w v f s o. heads_of (is_word key.Output) x Output true w v f refl s;
      off = λ x w v f s o. off x w v f s;
    }) (one_kind limit bound is_lower key.Output Output (λ p. refl)) (third_right limit bound)
  where
    off : (x : VariableKind × Pos) (w v : List Token) → Third x → AreSpelled (kind_row x) w
        → heads (is_word key.Output) (w ++ v) ≡ false
    off x w v (inl e) s = heads_of (is_word key.Output) x Internal false w v e refl s
    off x w v (inr (inl e)) s = heads_of (is_word key.Output) x Context false w v e refl s
    off x w v (inr (inr e)) s = heads_of (is_word key.Output) x ContextOutput false w v e refl s

pub kind_right : (limit bound : ℕ) → IsRightTo limit bound is_lower Any kind_row a_kind
kind_right limit bound =
    choice_right (one_of Input InputOutput) Second (record {
      either = λ x f. either x.0;
      from_yes = λ x f. tt;
      from_no = λ x f. tt;
      on = λ x w v f s o. on x w v f s;
      off = λ x w v f s o. off x w v f s;
    }) (two_kinds limit bound key.Input Input InputOutput (λ p. refl) (λ p. refl) refl refl) (second_right limit bound)
  where
    either : (k : VariableKind) → ((k ≡ Input) ⊎ (k ≡ InputOutput))
        ⊎ ((k ≡ Output) ⊎ ((k ≡ Internal) ⊎ ((k ≡ Context) ⊎ (k ≡ ContextOutput))))
    either Input = inl (inl refl)
    either InputOutput = inl (inr refl)
    either Output = inr (inl refl)
    either Internal = inr (inr (inl refl))
    either Context = inr (inr (inr (inl refl)))
    either ContextOutput = inr (inr (inr (inr refl)))

    on : (x : VariableKind × Pos) (w v : List Token) → one_of Input InputOutput x → AreSpelled (kind_row x) w
        → heads (is_word key.Input) (w ++ v) ≡ true
    on x w v (inl e) s = heads_of (is_word key.Input) x Input true w v e refl s
    on x w v (inr e) s = heads_of (is_word key.Input) x InputOutput true w v e refl s

    off : (x : VariableKind × Pos) (w v : List Token) → Second x → AreSpelled (kind_row x) w
        → heads (is_word key.Input) (w ++ v) ≡ false
    off x w v (inl e) s = heads_of (is_word key.Input) x Output false w v e refl s
    off x w v (inr (inl e)) s = heads_of (is_word key.Input) x Internal false w v e refl s
    off x w v (inr (inr (inl e))) s = heads_of (is_word key.Input) x Context false w v e refl s
    off x w v (inr (inr (inr e))) s = heads_of (is_word key.Input) x ContextOutput false w v e refl s

-- ---- parameters, and a whole variable

-- what may follow a variable
abbrev pub behind_variable : TokenKind → Bool
behind_variable (kind.Symbol s) = false
behind_variable (kind.Pair d) = false
behind_variable k = true

no_comma : (k : TokenKind) → behind_variable k ≡ true → is_comma k ≡ false
no_comma (kind.Symbol s) e = let t : false ≡ true = e in absurd cc
no_comma (kind.Pair d) e = refl
no_comma _ e = refl

no_depends : (k : TokenKind) → behind_variable k ≡ true → cue_is (cue.Pair pair.DependsOn) k ≡ false
no_depends (kind.Pair d) e = let t : false ≡ true = e in absurd cc
no_depends _ e = refl

params_right : (limit bound : ℕ) → IsRightTo limit bound behind_variable (AllFit Any) params_parts params
params_right limit bound =
    led_right limit behind_variable Any typed_parts typed_name no_comma (λ b. typed_right limit b any_word)
    (cue.Pair pair.DependsOn) params_parts refl (λ x xs. refl) no_depends bound

abbrev Own : Type 0
Own = (VariableKind × Pos) × Name × Option types.Type × List FieldItem

abbrev own_row : Own → Parts
own_row x = kind_row x.0 ▸ Word (At (kind.Lower x.1.text) x.1.pos) (variable_type_parts x.2 ▸ params_parts x.3)

own_right : (limit bound : ℕ) → IsRightTo limit bound behind_variable Any own_row own
own_right limit bound =
    part_right (λ x. x.0) kind_row (kind_right limit bound) (λ x f. tt)
    (λ x w v f s o. subst (λ (u : List Token). Outside is_lower (u ++ v)) (sym s.2)
    (ap (λ (t : Token). is_lower t.kind) s.3)) λ k g.
    lower_right (λ x. x.1) λ w.
    part_right (λ x. x.2) variable_type_parts (variable_type_right limit bound) (λ x f. tt)
    (λ x w v f s o. outside_any (w ++ v)) λ t g.
    last_right (λ x. x.3) params_parts (params_right limit bound) (record {
      to = λ ps f. (((tt, refl), refl), refl);
      from = λ x f. any_list x.3;
      back = λ ps. refl;
      only =
          λ x f. ap (λ (z : VariableKind × Pos). (z, x.1, x.2, x.3)) f.0.0.1 ∙ ap (λ (z : Name). (k, z, x.2, x.3)) f.0.1
          ∙ ap (λ (z : Option types.Type). (k, w, z, x.3)) f.1;
    })

abbrev called_row : Name × Name → Parts
called_row x =
    Word (At (kind.Lower x.0.text) x.0.pos)
    (Word (Anywhere (kind.Word key.Scope)) (Word (At (kind.Upper x.1.text) x.1.pos) End))

called_right : (limit bound : ℕ) → IsRightTo limit bound behind_variable Any called_row called
called_right limit bound =
    lower_right (λ x. x.0) λ w.
    word_right (cue.Word key.Scope) λ p.
    upper_right (λ x. x.1) λ u.
    pure_right ((tt, refl), refl) (λ x f. ap (λ (z : Name). (z, x.1)) f.0.1 ∙ ap (λ (z : Name). (w, z)) f.1)

abbrev IsCalled : Variable → Type 0
IsCalled y = (x : Name × Name) × Any x × (y ≡ variable.Called x.0 x.1)

abbrev IsOwn : Variable → Type 0
IsOwn y = (x : Own) × Any x × (y ≡ variable.Own x.0.0 x.0.1 x.1 x.2 x.3)

variable_decides : Decides behind_variable is_lower Any IsCalled IsOwn variable_parts
variable_decides = record {
  either = either;
  from_yes = λ y f. tt;
  from_no = λ y f. tt;
  on =
      λ y w v f s o. let t = subst (λ (z : Variable). AreSpelled (variable_parts z) w) f.2 s in
      ap (λ (u : List Token). heads is_lower (u ++ v)) t.2 ∙ ap (λ (q : Token). is_lower q.kind) t.3;
  off = λ y w v f s o. own_head f.0 w v (subst (λ (z : Variable). AreSpelled (variable_parts z) w) f.2 s);
}
  where
    either : (y : Variable) → Any y → IsCalled y ⊎ IsOwn y
    either (variable.Own k p w t ps) f = inr (((k, p), w, t, ps), tt, refl)
    either (variable.Called w u) f = inl ((w, u), tt, refl)

    own_head : (x : Own) (w v : List Token) → AreSpelled (own_row x) w → heads is_lower (w ++ v) ≡ false
    own_head x w v s = by x.0.0 s
      where
        by : (k : VariableKind) → AreSpelled (kind_parts k x.0.1 ▸ Word (At (kind.Lower x.1.text) x.1.pos)
            (variable_type_parts x.2 ▸ params_parts x.3)) w → heads is_lower (w ++ v) ≡ false
        by Input s = ap (λ (u : List Token). heads is_lower (u ++ v)) s.2 ∙ ap (λ (t : Token). is_lower t.kind) s.3
        by InputOutput s =
            ap (λ (u : List Token). heads is_lower (u ++ v)) s.2 ∙ ap (λ (t : Token). is_lower t.kind) s.3
        by Output s = ap (λ (u : List Token). heads is_lower (u ++ v)) s.2 ∙ ap (λ (t : Token). is_lower t.kind) s.3
        by Internal s = ap (λ (u : List Token). heads is_lower (u ++ v)) s.2 ∙ ap (λ (t : Token). is_lower t.kind) s.3
        by Context s = ap (λ (u : List Token). heads is_lower (u ++ v)) s.2 ∙ ap (λ (t : Token). is_lower t.kind) s.3
        by ContextOutput s =
            ap (λ (u : List Token). heads is_lower (u ++ v)) s.2 ∙ ap (λ (t : Token). is_lower t.kind) s.3

pub variable_right : (limit bound : ℕ) → IsRightTo limit bound behind_variable Any variable_parts a_variable
variable_right limit bound =
    choice_right IsCalled IsOwn variable_decides (made_right Any called_row (λ x. refl) (called_right limit bound))
    (made_right Any own_row (λ x. refl) (own_right limit bound))
