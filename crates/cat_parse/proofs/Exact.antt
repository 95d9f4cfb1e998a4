-- A program is read exactly, where expressions are.
use Rattle.std.proofs.Common.{◌≡◌, ◌≤◌, ℕ, Bool, true, false, ◌&&◌, List, [], ◌∷◌, ◌++◌, length, refl, sym, ap, subst}
use Rattle.std.proofs.Common.{◌∙◌, append_assoc, arith}
use Rattle.std.proofs.lemmas.List.{append-nil, length-append}
use Rattle.cat_parse.specs.Programs.{items}
use Rattle.cat_parse.proofs.Common.{Token, TokenKind, Node, Item, Tree, all, highest_in, is_filled, are_filled}
use Rattle.cat_parse.proofs.Common.{item_parts, SpellsProgram, BeginsProgram, Parsed, Reader, Fails, Reads, left_of}
use Rattle.cat_parse.proofs.Common.{after, Agree, AgreePast, Seen, Is, Begun, Taken, Says, Alike, Before, IsLow}
use Rattle.cat_parse.proofs.Common.{none_past, IsRightTo, is_item, an_item, to_end, program, ReadsExpressions}
use Rattle.cat_parse.proofs.Common.{ReadsExpressionsTo, SpellOneProgram, Exactly}
use Rattle.cat_parse.proofs.Lists.{AllFit, many_right}
use Rattle.cat_parse.proofs.ItemRows.{Filled, item_opens, item_right}

-- nothing may follow a program
abbrev nothing : TokenKind → Bool
nothing k = false

no_word : {A : Type 0} → false ≡ true → A
no_word e = absurd (clash e)
  where
    clash : false ≡ true → ⊥
    clash e = absurd cc

items_right : (limit : ℕ) (ex : Reader Node) → ReadsExpressionsTo limit ex → (bound : ℕ)
    → IsRightTo limit bound nothing (AllFit Filled) (all item_parts) (items ex)
items_right limit ex right bound =
    many_right limit nothing is_item is_item Filled item_parts (an_item ex) item_opens (λ k e. no_word e) (λ k e. e)
    (λ k e. no_word e) (item_right limit ex right) bound

filled_of : (is : List Item) → AllFit Filled is → are_filled is ≡ true
filled_of [] f = refl
filled_of (i ∷ more) f = both (is_filled i) (are_filled more) f.0 (filled_of more f.1)
  where
    both : (a b : Bool) → a ≡ true → b ≡ true → (a && b) ≡ true
    both true b x y = y
    both false b x y = x

all_filled : (is : List Item) → are_filled is ≡ true → AllFit Filled is
all_filled [] e = tt
all_filled (i ∷ more) e = let s = split (is_filled i) (are_filled more) e in (s.0, all_filled more s.1)
  where
    split : (a b : Bool) → (a && b) ≡ true → (a ≡ true) × (b ≡ true)
    split true b e = (refl, e)
    split false b e = no_word e

abbrev tree_of : List Item → Tree
tree_of is = record { items = is }

spells_of : (is : List Item) (w : List Token) → Is (AllFit Filled) (all item_parts) is w
    → SpellsProgram (record { items = is }) w
spells_of is w i = record { filled = filled_of is i.fit; levels = i.levels; words = i.spelled }

is_of : (t : Tree) (w : List Token) → SpellsProgram t w → Is (AllFit Filled) (all item_parts) t.items w
is_of t w s = record { fit = all_filled t.items s.filled; levels = s.levels; spelled = s.words }

begins_of : (u : List Token) → Begun (AllFit Filled) (all item_parts) u → BeginsProgram u
begins_of u b =
    record { tree = record { items = b.value }; rest = b.more; spells = spells_of b.value (u ++ b.more) b.is }

agree_self : (ts : List Token) → Agree ts ts
agree_self [] = tt
agree_self (p ∷ ts) = refl

-- where no word is looked past, no more than the next token is seen
agree_past : (ls others : List Token) → Agree ls others → AgreePast none_past ls others
agree_past [] [] g = tt
agree_past [] (q ∷ qs) g = g
agree_past (p ∷ ps) [] g = g
agree_past (p ∷ ps) (q ∷ qs) g = (g, λ h. absurd cc)

seen_of : (o : Parsed (List Item)) (others : List Token) → Agree (left_of o) others → Seen none_past o others
seen_of (Fails left deep whole) others g = g
seen_of (Reads x left) others g = agree_past left others g

abbrev IsLike : Parsed (List Item) → (front : List Token) → List Item → List Token → Type 0
IsLike o front y w = Alike (Before nothing) none_past (AllFit Filled) (all item_parts) o front y w

abbrev IsTaken : (limit : ℕ) → Parsed (List Item) → List Token → Type 0
IsTaken limit o tokens = Taken (IsLow limit (all item_parts)) (AllFit Filled) (all item_parts) o tokens

abbrev Sayer : List Token → Parsed (List Item) → Type 0
Sayer tokens o =
    (front : List Token) (y : List Item) (w : List Token) → tokens ≡ front ++ left_of o
    → IsLike o front y w → Says (IsLow 256 (all item_parts)) o y w front

-- a program that begins with the front and the next token
goes_on : (o : Parsed (List Item)) (front : List Token) (p : Token) (rest : List Token) → left_of o ≡ p ∷ rest
    → (b : BeginsProgram (front ++ p ∷ [])) → IsLike o front b.tree.items ((front ++ p ∷ []) ++ b.rest)
goes_on o front p rest e b = record {
  others = p ∷ b.rest;
  behind = [];
  seen = seen_of o (p ∷ b.rest) (subst (λ (l : List Token). Agree l (p ∷ b.rest)) (sym e) refl);
  is = is_of b.tree ((front ++ p ∷ []) ++ b.rest) b.spells;
  outside = tt;
  text = append-nil ((front ++ p ∷ []) ++ b.rest) ∙ append_assoc front (p ∷ []) b.rest;
}

-- a program that all tokens spell
all_of : (o : Parsed (List Item)) (tokens front : List Token) → tokens ≡ front ++ left_of o → (t : Tree)
    → SpellsProgram t tokens → IsLike o front t.items tokens
all_of o tokens front text t s =
    record {
      others = left_of o;
      behind = [];
      seen = seen_of o (left_of o) (agree_self (left_of o));
      is = is_of t tokens s;
      outside = tt;
      text = append-nil tokens ∙ text;
    }

exact_of : (tokens : List Token) (o : Parsed (List Item)) → IsTaken 256 o tokens
    → Sayer tokens o → Exactly tokens (after o to_end)
exact_of tokens (Fails left false whole) t says = (
  t.front,
  record {
    text = t.text;
    begins = begins_of t.front t.took;
    dead =
        λ p rest e b. says t.front b.tree.items ((t.front ++ p ∷ []) ++ b.rest) t.text
        (goes_on (Fails left false whole) t.front p rest e b);
    none = λ u s. says t.front u.items tokens t.text (all_of (Fails left false whole) tokens t.front t.text u s);
  },
)
exact_of tokens (Fails left true whole) t says = (
  t.front,
  record {
    text = t.text;
    next = t.took.next;
    after = t.took.after;
    at = t.took.text;
    begins = begins_of (t.front ++ t.took.next ∷ []) t.took.begun;
    too_high =
        λ b low. says t.front b.tree.items ((t.front ++ t.took.next ∷ []) ++ b.rest) t.text
        (goes_on (Fails left true whole) t.front t.took.next t.took.after t.took.text b) low;
  },
)
exact_of tokens (Reads is []) t says = (
  record {
    spells =
        subst (SpellsProgram (record { items = is })) (sym (t.text ∙ append-nil t.front))
        (spells_of is t.front t.took.0);
    low = t.took.1;
  },
  λ u s. ap (λ (x : List Item). tree_of x)
      (says t.front u.items tokens t.text (all_of (Reads is []) tokens t.front t.text u s)).0,
)
exact_of tokens (Reads is (q ∷ left)) t says = (
  t.front,
  record {
    text = t.text;
    begins =
        record {
          tree = record { items = is };
          rest = [];
          spells =
              subst (SpellsProgram (record { items = is })) (sym (append-nil t.front)) (spells_of is t.front t.took.0);
        };
    dead =
        λ p rest e b. longer t.front p b.rest
        (says t.front b.tree.items ((t.front ++ p ∷ []) ++ b.rest) t.text
        (goes_on (Reads is (q ∷ left)) t.front p rest e b)).1;
    none =
        λ u s. past t.front q left
        (sym t.text ∙ (says t.front u.items tokens t.text (all_of (Reads is (q ∷ left)) tokens t.front t.text u s)).1);
  },
)
  where
    longer : (front : List Token) (p : Token) (rest : List Token) → (front ++ p ∷ []) ++ rest ≡ front → ⊥
    longer front p rest e =
        omega (arith, ap length e, length-append (front ++ p ∷ []) rest, length-append front (p ∷ []))

    past : (front : List Token) (q : Token) (left : List Token) → front ++ q ∷ left ≡ front → ⊥
    past front q left e = omega (arith, ap length e, length-append front (q ∷ left))

-- what reading a program comes to is exactly so
pub program_exact : (ex : Reader Node) → ReadsExpressions ex → (tokens : List Token)
    → Exactly tokens (program ex tokens)
program_exact ex right tokens =
    let r = (items_right 256 ex right (length tokens)).right in
    exact_of tokens (items ex tokens) (r.taken tokens (omega arith))
    (λ front y w text a. r.says tokens front y w (omega arith) text a)

-- ---- at most one

abbrev Judges : (limit : ℕ) → List Token → Parsed (List Item) → Type 0
Judges limit tokens o =
    (front : List Token) → tokens ≡ front ++ left_of o → (t : Tree) → SpellsProgram t tokens
    → Says (IsLow limit (all item_parts)) o t.items tokens front

one_by : (limit : ℕ) (tokens : List Token) (o : Parsed (List Item))
    → IsTaken limit o tokens → Judges limit tokens o → (t u : Tree)
    → SpellsProgram t tokens → SpellsProgram u tokens → highest_in t ≤ limit → t ≡ u
one_by limit tokens (Fails left false whole) k says t u st su low = absurd (says k.front k.text t st)
one_by limit tokens (Fails left true whole) k says t u st su low = absurd (says k.front k.text t st low)
one_by limit tokens (Reads is left) k says t u st su low =
    ap (λ (x : List Item). tree_of x) ((says k.front k.text t st).0 ∙ sym (says k.front k.text u su).0)

-- where expressions are read up to a height, tokens that spell a program so low spell no other
pub one_program : (limit : ℕ) (ex : Reader Node) → ReadsExpressionsTo limit ex → SpellOneProgram limit
one_program limit ex right = λ tokens t u st su low.
    let r = (items_right limit ex right (length tokens)).right in
    one_by limit tokens (items ex tokens) (r.taken tokens (omega arith))
    (λ front text t s. r.says tokens front t.items tokens (omega arith) text
    (all_of (items ex tokens) tokens front text t s)) t u st su low
