-- What reading all items of a program says of the tokens.
use Rattle.std.proofs.Common.{◌≡◌, ℕ, suc, ◌<◌, ◌≤◌, true, false, List, [], ◌∷◌, ◌++◌, length, drop, take, Ok, Err}
use Rattle.std.proofs.Common.{Bool, Option, None, cond, refl, sym, ap, subst, ◌∙◌, arith}
use Rattle.std.proofs.lemmas.List.{drop_all}
use Rattle.cat_parse.specs.Programs.{items}
use Rattle.cat_parse.proofs.Common.{Token, Node, Item, Tree, highest_in, SpellsProgram, SpellsLowProgram, BeginsProgram}
use Rattle.cat_parse.proofs.Common.{Miss, Broken, Memory, Unexpected, TooDeep, refusal_of, Parsed, Reader, Fails, Reads}
use Rattle.cat_parse.proofs.Common.{after, to_end, program, Exactly, Gives, left_behind, IsUnexpected, IsTooDeep}
use Rattle.cat_parse.proofs.Common.{HasProgramCause}
use Rattle.cat_parse.proofs.Places.{front_is, one_more, token_at}

abbrev tree_of : List Item → Tree
tree_of is = record { items = is }

-- where reading stops, by its index
unexpected : (tokens : List Token) (at : ℕ) → at ≤ length tokens → (whole : Option (List Token))
    → Exactly tokens (Fails (drop at tokens) false whole) → IsUnexpected tokens at
unexpected tokens at le whole x =
    let before = front_is tokens x.0 at x.1.text in
    record {
      within = le;
      begins = subst BeginsProgram before x.1.begins;
      ends = ends before;
      none = x.1.none;
    }
  where
    ends : x.0 ≡ take at tokens → at < length tokens → BeginsProgram (take (suc at) tokens) → ⊥
    ends before more b =
        let t = token_at at tokens more in
        let m = one_more at tokens t.0 t.1 t.2 in
        x.1.dead t.0 t.1 t.2
        (subst BeginsProgram (m.1 ∙ ap (λ (u : List Token). u ++ t.0 ∷ []) (sym before)) b)

too_deep : (tokens : List Token) (at : ℕ) (whole : Option (List Token))
    → Exactly tokens (Fails (drop at tokens) true whole)
    → IsTooDeep tokens at
too_deep tokens at whole x =
    let m = one_more at tokens x.1.next x.1.after x.1.at in
    let same = ap (λ (u : List Token). u ++ x.1.next ∷ []) (front_is tokens x.0 at x.1.text) ∙ sym m.1 in
    record {
      within = m.0;
      begins = subst BeginsProgram same x.1.begins;
      none_low = λ b low. none (take (suc at) tokens) same b low;
    }
  where
    none : (front : List Token) → x.0 ++ x.1.next ∷ [] ≡ front → (b : BeginsProgram front) → highest_in b.tree ≤ 256
        → ⊥
    none front same b low =
        x.1.too_high
        (record {
          tree = b.tree;
          rest = b.rest;
          spells = subst (λ (u : List Token). SpellsProgram b.tree (u ++ b.rest)) (sym same) b.spells;
        }) low

module _ (ex : Reader Node) (exactly : (tokens : List Token) → Exactly tokens (program ex tokens))
    (tokens : List Token) where
  come_to : (o : Parsed (List Item)) → items ex tokens ≡ o → Exactly tokens (after o to_end)
  come_to o e = subst (λ (x : Parsed (List Item)). Exactly tokens (after x to_end)) e (exactly tokens)

  -- all tokens were read
  pub whole : (is : List Item) (place : ℕ) → Gives (items ex) tokens 0 (Ok (is, place)) → length tokens ≤ place
      → SpellsLowProgram (tree_of is) tokens
  whole is place g all =
      (subst (λ (left : List Token). Exactly tokens (after (Reads is left) to_end)) (drop_all place tokens all)
      (come_to (Reads is (drop place tokens)) g.0)).0

  -- some are left
  pub left_over : (is : List Item) (place : ℕ) → Gives (items ex) tokens 0 (Ok (is, place)) → place < length tokens
      → IsUnexpected tokens place
  left_over is place g more =
      unexpected tokens place (omega (arith, more)) None
      (by (drop place tokens) (token_at place tokens more) (come_to (Reads is (drop place tokens)) g.0))
    where
      by : (left : List Token) → (p : Token) × (rest : List Token) × (left ≡ p ∷ rest)
          → Exactly tokens (after (Reads is left) to_end) → Exactly tokens (Fails left false None)
      by [] t x = absurd (nothing t.0 t.1 t.2)
        where
          nothing : (p : Token) (rest : List Token) → [] ≡ p ∷ rest → ⊥
          nothing p rest e = absurd cc
      by (p ∷ rest) t x = x

  -- an item is refused
  pub cause : (miss : Miss) → Gives (items ex) tokens 0 (Err miss) → HasProgramCause tokens (refusal_of miss)
  cause (Broken b) g = by b.deep refl
    where
      by : (deep : Bool) → b.deep ≡ deep → HasProgramCause tokens (cond deep (TooDeep b.at) (Unexpected b.at))
      by true e =
          too_deep tokens b.at (left_behind tokens b.whole)
          (come_to (Fails (drop b.at tokens) true (left_behind tokens b.whole))
          (g.0 ∙ ap (λ (d : Bool). Fails (drop b.at tokens) d (left_behind tokens b.whole)) e))
      by false e =
          unexpected tokens b.at g.1 (left_behind tokens b.whole)
          (come_to (Fails (drop b.at tokens) false (left_behind tokens b.whole))
          (g.0 ∙ ap (λ (d : Bool). Fails (drop b.at tokens) d (left_behind tokens b.whole)) e))
  cause Memory g = tt
