-- A spelling as a walk along the tokens, which computes where tree and tokens are known.
use Rattle.std.proofs.Common.{◌≡◌, true, List, [], ◌∷◌, ◌++◌, refl, ap, ◌∙◌, sym, subst, append_assoc}
use Rattle.std.proofs.lemmas.List.{append-nil}
use Rattle.cat_lex.specs.declared.token.Token.{Token}
use Rattle.cat_tree.specs.declared.expression.Node.{Node}
use Rattle.cat_tree.specs.Phrase.{Phrase, Row, Parts, End, Word, Part, IsAt, IsLevelled, AreLevelled, IsSpelling}
use Rattle.cat_tree.specs.Phrase.{AreSpelled}
use Rattle.cat_tree.specs.Grammar.{phrase}
use Rattle.cat_tree.specs.Spells.{Spells}
use Rattle.cat_tree.specs.declared.program.Tree.{Tree}
use Rattle.cat_tree.specs.Programs.{SpellsProgram, are_filled, program_parts}

-- the tokens begin with the words and parts, and what follows is as `next` says
abbrev mutual
  pub AlongPhrase : Phrase → List Token → (List Token → Type 0) → Type 0
  AlongPhrase (Row r ps) ts next = Along ps ts next

  pub Along : Parts → List Token → (List Token → Type 0) → Type 0
  Along End ts next = next ts
  Along (Word m ps) [] next = ⊥
  Along (Word m ps) (t ∷ ts) next = IsAt m t × Along ps ts next
  Along (Part s e ps) ts next = AlongPhrase e ts (λ rest. Along ps rest next)

record Passed (P next : List Token → Type 0) (ts : List Token) : Type 0 where
  pub front : List Token
  pub rest : List Token
  pub text : ts ≡ front ++ rest
  pub spelled : P front
  pub after : next rest

mutual
  phrase_passed : (e : Phrase) (ts : List Token) (next : List Token → Type 0) → AlongPhrase e ts next
      → Passed (IsSpelling e) next ts
  phrase_passed (Row r ps) ts next h = passed ps ts next h

  passed : (ps : Parts) (ts : List Token) (next : List Token → Type 0) → Along ps ts next → Passed (AreSpelled ps) next
      ts
  passed End ts next h = record { front = []; rest = ts; text = refl; spelled = refl; after = h }
  passed (Word m ps) [] next h = absurd h
  passed (Word m ps) (t ∷ ts) next h =
      let more = passed ps ts next h.1 in
      record {
        front = t ∷ more.front;
        rest = more.rest;
        text = ap (λ (w : List Token). t ∷ w) more.text;
        spelled =
            (t, more.front, refl, h.0, more.spelled);
        after = more.after;
      }
  passed (Part s e ps) ts next h =
      let part = phrase_passed e ts (λ rest. Along ps rest next) h in
      let more = passed ps part.rest next part.after in
      record {
        front = part.front ++ more.front;
        rest = more.rest;
        text = part.text
            ∙ ap (λ (w : List Token). part.front ++ w) more.text ∙ sym (append_assoc part.front more.front more.rest);
        spelled = (part.front, more.front, refl, part.spelled, more.spelled);
        after = more.after;
      }

-- a tree whose parts stand where they may is spelled by the tokens that it walks along to their end
pub spells : (e : Node) (ts : List Token) → IsLevelled (phrase e) → AlongPhrase (phrase e) ts (λ rest. rest ≡ [])
    → Spells e ts
spells e ts levels h =
    let p = phrase_passed (phrase e) ts (λ rest. rest ≡ []) h in
    let whole : p.front ≡ ts = sym (append-nil p.front) ∙ ap (λ (w : List Token). p.front ++ w) (sym p.after)
    ∙ sym p.text in
    record { levels = levels; words = subst (IsSpelling (phrase e)) whole p.spelled }

-- so is a program
pub spells_program : (t : Tree) (ts : List Token) → are_filled t.items ≡ true → AreLevelled (program_parts t)
    → Along (program_parts t) ts (λ rest. rest ≡ []) → SpellsProgram t ts
spells_program t ts filled levels h =
    let p = passed (program_parts t) ts (λ rest. rest ≡ []) h in
    let whole : p.front ≡ ts = sym (append-nil p.front) ∙ ap (λ (w : List Token). p.front ++ w) (sym p.after)
    ∙ sym p.text in
    record { filled = filled; levels = levels; words = subst (AreSpelled (program_parts t)) whole p.spelled }
