-- A part that words follow, and a part that is the last one.
use Rattle.std.proofs.Common.{◌≡◌, ℕ, ◌≤◌, Bool, true, false, List, [], ◌∷◌, ◌++◌, length, Some, None, refl, sym, ap}
use Rattle.std.proofs.Common.{subst, ◌∙◌, append_assoc, arith}
use Rattle.std.proofs.lemmas.List.{append_cancel_left, length-append}
use Rattle.cat_parse_expr.proofs.Common.{Token, TokenKind, Parts, AreLevelled, AreSpelled, ◌▸◌, Parsed, Reader, Fails}
use Rattle.cat_parse_expr.proofs.Common.{Reads, left_of, after, ◌⨟◌, pure, one, Agree, AgreePast, Seen, Is, Begun}
use Rattle.cat_parse_expr.proofs.Common.{Taken, Says, Alike, IsRight, ReadsAsFar, Stood, KeepsWhole}
use Rattle.cat_parse_expr.proofs.Joining.{levels_join, levels_split, spelled_join, Splits, spelled_split}
use Rattle.cat_parse_expr.proofs.Choices.{Recast, recast}
use Rattle.cat_parse_expr.proofs.Sequel.{Past, part_right}
use Rattle.cat_parse_expr.proofs.Shaping.{keeps_made}
use Rattle.cat_parse_expr.proofs.Read.{IsRead}
use Rattle.cat_parse_expr.proofs.NothingWhole.{IsShut}

-- what one saw is seen again in the same tokens
pub agree_self : (ts : List Token) → Agree ts ts
agree_self [] = tt
agree_self (p ∷ ts) = refl

pub seen_self : {B : Type 0} (looks : TokenKind → Bool) (o : Parsed B) → Seen looks o (left_of o)
seen_self looks (Fails left deep whole) = agree_self left
seen_self looks (Reads x left) = by left
  where
    by : (ts : List Token) → AgreePast looks ts ts
    by [] = tt
    by (p ∷ ts) = (refl, λ h. agree_self ts)

-- what was read leaves no more than there was
pub no_longer : {B : Type 0} (low fits : B → Type 0) (row : B → Parts) (o : Parsed B) (ts : List Token)
    → Taken low fits row o ts → length (left_of o) ≤ length ts
no_longer low fits row o ts t = omega (arith, ap length t.text, length-append t.front (left_of o))

-- ---- readers of what is read, by what is made of it

pub mapped_part : {A A2 T D : Type 0} (g1 : A → A2) (g : T → D) (o : Parsed A2) (o1 : Parsed A) (r : A → Reader T)
    (s : A2 → Reader D) → o ≡ after o1 (λ x. pure (g1 x))
    → ((x : A) (ts : List Token) → s (g1 x) ts ≡ after (r x ts) (λ y. pure (g y)))
    → after o s ≡ after (after o1 r) (λ y. pure (g y))
mapped_part {A2 = A2} {D = D} g1 g o (Fails left deep whole) r s e h = ap (λ (z : Parsed A2). after z s) e
mapped_part {A2 = A2} {D = D} g1 g o (Reads x left) r s e h = ap (λ (z : Parsed A2). after z s) e ∙ h x left

past_mapped : {T D : Type 0} (g : T → D) (looks further : TokenKind → Bool) (ts : List Token) (o : Parsed T)
    (d : Parsed D)
    → d ≡ after o (λ y. pure (g y)) → Past looks further d ts → Past looks further o ts
past_mapped {D = D} g looks further ts (Fails left deep whole) d e h =
    subst (λ (z : Parsed D). Past looks further z ts) e h
past_mapped {D = D} g looks further ts (Reads x left) d e h = subst (λ (z : Parsed D). Past looks further z ts) e h

shut_mapped : {T D : Type 0} (g : T → D) (o : Parsed T) (d : Parsed D) → d ≡ after o (λ y. pure (g y)) → IsShut d
    → IsShut o
shut_mapped {D = D} g (Fails left deep whole) d e h = subst (λ (z : Parsed D). IsShut z) e h
shut_mapped g (Reads x left) d e h = tt

-- nothing is looked past
pub past_none : {B : Type 0} (further : TokenKind → Bool) (o : Parsed B) (ts : List Token)
    → Past (λ k. false) further o ts
past_none further (Fails left deep whole) [] = λ h. absurd cc
past_none further (Fails left deep whole) (p ∷ ts) = λ h. absurd cc
past_none further (Reads x left) [] = λ h. absurd cc
past_none further (Reads x left) (p ∷ ts) = λ h. absurd cc

-- ---- a part that words follow

-- what is asked of the part and of the words
pub record Between {A T : Type 0} (low : T → Type 0) (low_part : A → Type 0) (next : A → List Token → Type 0)
    (fits : T → Type 0) (fits_part : A → Type 0) (sub : T → A) (rest : T → Parts) : Type 0 where
  pub fit : (y : T) → fits y → fits_part (sub y)
  pub behind : (y : T) (w v : List Token) → fits y → AreSpelled (rest y) w → next (sub y) (w ++ v)
  pub part : (y : T) → fits y → low y → low_part (sub y)

module _ {A T : Type 0} (low : T → Type 0) (low_part : A → Type 0) (next : A → List Token → Type 0)
    (out : T → List Token → Type 0) (near looks : TokenKind → Bool) (fits : T → Type 0) (fits_part : A → Type 0)
    (sub : T → A) (row : A → Parts) (rest : T → Parts) (one : Reader A) (r : A → Reader T)
    (b : Between low low_part next fits fits_part sub rest) (bound : ℕ)
    (first : IsRight low_part bound next near fits_part row one) where
  abbrev whole_row : T → Parts
  whole_row y = row (sub y) ▸ rest y

  sequel_right : ((x : A) (ts : List Token) → Past near looks (r x ts) ts)
      → ((x : A) → fits_part x → Begun (λ y. fits y × (sub y ≡ x)) rest [])
      → ((x : A) → fits_part x → low_part x → IsRight low bound out looks (λ y. fits y × (sub y ≡ x)) rest (r x))
      → IsRight low bound out looks fits whole_row (one ⨟ r)
  sequel_right past lives second =
      part_right bound bound low low low_part out next near looks fits fits_part sub row rest one r
      (record {
        fit = b.fit;
        behind = λ y w v fit spelled o. b.behind y w v fit spelled;
        shrinks = shrinks;
        past = λ x ts fit le. past x ts;
        joins = λ y fit p q. q;
        part = b.part;
        others = λ y fit q. q;
      }) first lives second
    where
      shrinks : (ts : List Token) (x : A) (left : List Token) → length ts ≤ bound → one ts ≡ Reads x left
          → length left ≤ bound
      shrinks ts x left le e =
          omega (
            arith,
            le,
            no_longer low_part fits_part row (one ts) ts (first.taken ts le),
            ap (λ (o : Parsed A). length (left_of o)) e,
          )

  module _ (shut : (ts : List Token) → IsShut (one ts))
      (second : (x : A) → fits_part x → low_part x → KeepsWhole low bound (λ y. fits y × (sub y ≡ x)) rest (r x)) where
    sequel_longest : (ts : List Token) (y : T) (w v : List Token) → length ts ≤ bound → ts ≡ w ++ v
        → Is fits whole_row y w → ReadsAsFar low ((one ⨟ r) ts) y v
    sequel_longest ts y w v le text i = by (one ts) (shut ts) (first.taken ts le)
        (λ front x w text a. first.says ts front x w le text a)
      where
        s : Splits (row (sub y)) (rest y) w
        s = spelled_split (row (sub y)) (rest y) w i.spelled

        levels : AreLevelled (row (sub y)) × AreLevelled (rest y)
        levels = levels_split (row (sub y)) (rest y) i.levels

        all : s.first ++ (s.second ++ v) ≡ ts
        all = sym (append_assoc s.first s.second v) ∙ ap (λ (z : List Token). z ++ v) (sym s.text) ∙ sym text

        by : (o : Parsed A) → IsShut o → (t : Taken low_part fits_part row o ts)
            → ((front : List Token) (x : A) (w : List Token) → ts ≡ front ++ left_of o
            → Alike next near fits_part row o front x w → Says low_part o x w front)
            → ReadsAsFar low (after o r) y v
        by o closed t says = told o closed t
            (says t.front (sub y) s.first t.text (record {
              others = left_of o;
              behind = s.second ++ v;
              seen = seen_self near o;
              is = record { fit = b.fit y i.fit; levels = levels.0; spelled = s.one };
              outside = b.behind y s.second v i.fit s.two;
              text = all ∙ t.text;
            }))
          where
            told : (o : Parsed A) → IsShut o → (t : Taken low_part fits_part row o ts)
                → Says low_part o (sub y) s.first t.front → ReadsAsFar low (after o r) y v
            told (Fails left false None) closed t said = said
            told (Fails left false (Some front)) closed t said = absurd said
            told (Fails left true None) closed t said = λ fine. said (b.part y i.fit fine)
            told (Fails left true (Some front)) closed t said = absurd cc
            told (Reads x left) closed t said =
                let there : left ≡ s.second ++ v =
                append_cancel_left t.front left (s.second ++ v)
                (sym t.text ∙ sym all ∙ ap (λ (z : List Token). z ++ (s.second ++ v)) said.1) in
                (second x t.took.0.fit t.took.1).longest left y s.second v
                (omega (arith, le, ap length t.text, length-append t.front left)) there
                (record { fit = (i.fit, said.0); levels = levels.1; spelled = s.two })

    sequel_stood : (ts : List Token) → length ts ≤ bound → Stood low fits whole_row ((one ⨟ r) ts) ts
    sequel_stood ts le = by (one ts) (shut ts) (first.taken ts le)
      where
        joined : (x : A) (u left : List Token) → Is fits_part row x u → ts ≡ u ++ left → (o : Parsed T)
            → Stood low (λ y. fits y × (sub y ≡ x)) rest o left → Stood low fits whole_row o ts
        joined x u left i text (Fails l deep None) t = tt
        joined x u left i text (Fails l deep (Some front)) t =
            let back : x ≡ sub t.0 = sym t.3.fit.1 in (
              t.0,
              u ++ t.1,
              text ∙ ap (λ (z : List Token). u ++ z) t.2 ∙ sym (append_assoc u t.1 front),
              record {
                fit = t.3.fit.0;
                levels =
                    levels_join (row (sub t.0)) (rest t.0)
                    (subst (λ (z : A). AreLevelled (row z)) back i.levels) t.3.levels;
                spelled =
                    spelled_join (row (sub t.0)) (rest t.0) u t.1
                    (subst (λ (z : A). AreSpelled (row z) u) back i.spelled) t.3.spelled;
              },
              t.4,
            )
        joined x u left i text (Reads y l) t = tt

        by : (o : Parsed A) → IsShut o → Taken low_part fits_part row o ts → Stood low fits whole_row (after o r) ts
        by (Fails left deep None) closed t = tt
        by (Fails left deep (Some front)) closed t = absurd cc
        by (Reads x left) closed t =
            joined x t.front left t.took.0 t.text (r x left)
            ((second x t.took.0.fit t.took.1).stood left
            (omega (arith, le, ap length t.text, length-append t.front left)))

    sequel_keeps : KeepsWhole low bound fits whole_row (one ⨟ r)
    sequel_keeps = record { longest = sequel_longest; stood = sequel_stood }

sequel_alive : {A T : Type 0} (fits : T → Type 0) (fits_part : A → Type 0) (sub : T → A) (row : A → Parts)
    (rest : T → Parts) → Begun fits_part row [] → ((x : A) → fits_part x → Begun (λ y. fits y × (sub y ≡ x)) rest [])
    → Begun fits (λ y. row (sub y) ▸ rest y) []
sequel_alive {A = A} fits fits_part sub row rest b lives =
    let a = lives b.value b.is.fit in
    let back : b.value ≡ sub a.value = sym a.is.fit.1 in
    record {
      value = a.value;
      more = b.more ++ a.more;
      is =
          record {
            fit = a.is.fit.0;
            levels =
                levels_join (row (sub a.value)) (rest a.value)
                (subst (λ (z : A). AreLevelled (row z)) back b.is.levels) a.is.levels;
            spelled =
                spelled_join (row (sub a.value)) (rest a.value) b.more a.more
                (subst (λ (z : A). AreSpelled (row z) b.more) back b.is.spelled) a.is.spelled;
          };
    }

-- a part, and then words
module _ {A A2 T D : Type 0} {g1 : A → A2} {g : T → D} {K1 K F C : Type 0} {low : T → Type 0} {low_part : A → Type 0}
    {next : A → List Token → Type 0} {out : T → List Token → Type 0} {near looks : TokenKind → Bool}
    {fits : T → Type 0} {fits_part : A → Type 0} {row : A → Parts} {one : Reader A2} where
  pub part_read : (sub : T → A) (rest : T → Parts) (s : A2 → Reader D)
      → IsRead g1 K1 (Unit {0}) (Unit {0}) low_part next near fits_part row one
      → ((ts : List Token) → IsShut (one ts))
      → ((x : A) (ts : List Token) → Past near looks (s (g1 x) ts) ts)
      → Between low low_part next fits fits_part sub rest
      → ((x : A) → IsRead g K (F × fits_part x) (C × low_part x) low out looks (λ y. fits y × (sub y ≡ x)) rest
      (s (g1 x)))
      → IsRead g K F C low out looks fits (λ y. row (sub y) ▸ rest y) (one ⨟ s)
  part_read sub rest s first shut past b second =
      record {
        reader = first.reader ⨟ λ x. (second x).reader;
        maps =
            λ ts. mapped_part g1 g (one ts) (first.reader ts) (λ x. (second x).reader) s (first.maps ts)
            (λ x ts. (second x).maps ts);
        alive =
            λ f. sequel_alive fits fits_part sub row rest (first.alive tt) (λ x fit. (second x).alive (f, fit));
        right =
            λ f c bound. sequel_right low low_part next out near looks fits fits_part sub row rest first.reader
            (λ x. (second x).reader) b bound (first.right tt tt bound)
            (λ x ts. past_mapped g near looks ts ((second x).reader ts) (s (g1 x) ts) ((second x).maps ts) (past x ts))
            (λ x fit. (second x).alive (f, fit)) (λ x fit fine. (second x).right (f, fit) (c, fine) bound);
        keeps =
            λ k f c bound. sequel_keeps low low_part next out near looks fits fits_part sub row rest first.reader
            (λ x. (second x).reader) b bound (first.right tt tt bound)
            (λ ts. shut_mapped g1 (first.reader ts) (one ts) (first.maps ts) (shut ts))
            (λ x fit fine. (second x).keeps k (f, fit) (c, fine) bound);
      }

-- a part whose rest may be nothing, within a part that words follow
pub record Open {A T : Type 0} (low : T → Type 0) (low_part : A → Type 0) (next : A → List Token → Type 0)
    (out : T → List Token → Type 0) (fits : T → Type 0) (fits_part : A → Type 0) (sub : T → A) (rest : T → Parts) :
    Type 0 where
  pub fit : (y : T) → fits y → fits_part (sub y)
  pub behind : (y : T) (w v : List Token) → fits y → AreSpelled (rest y) w → out y v → next (sub y) (w ++ v)
  pub part : (y : T) → fits y → low y → low_part (sub y)

open_right : {A T : Type 0} (low : T → Type 0) (low_part : A → Type 0) (next : A → List Token → Type 0)
    (out : T → List Token → Type 0) (near looks : TokenKind → Bool) (fits : T → Type 0) (fits_part : A → Type 0)
    (sub : T → A) (row : A → Parts) (rest : T → Parts) (one : Reader A) (r : A → Reader T)
    → Open low low_part next out fits fits_part sub rest → (bound : ℕ)
    → IsRight low_part bound next near fits_part row one
    → ((x : A) (ts : List Token) → Past near looks (r x ts) ts)
    → ((x : A) → fits_part x → Begun (λ y. fits y × (sub y ≡ x)) rest [])
    → ((x : A) → fits_part x → low_part x → IsRight low bound out looks (λ y. fits y × (sub y ≡ x)) rest (r x))
    → IsRight low bound out looks fits (λ y. row (sub y) ▸ rest y) (one ⨟ r)
open_right {A = A} low low_part next out near looks fits fits_part sub row rest one r b bound first past lives second =
    part_right bound bound low low low_part out next near looks fits fits_part sub row rest one r
    (record {
      fit = b.fit;
      behind = b.behind;
      shrinks = shrinks;
      past = λ x ts fit le. past x ts;
      joins = λ y fit p q. q;
      part = b.part;
      others = λ y fit q. q;
    }) first lives second
  where
    shrinks : (ts : List Token) (x : A) (left : List Token) → length ts ≤ bound → one ts ≡ Reads x left
        → length left ≤ bound
    shrinks ts x left le e =
        omega (
          arith,
          le,
          no_longer low_part fits_part row (one ts) ts (first.taken ts le),
          ap (λ (o : Parsed A). length (left_of o)) e,
        )

module _ {A A2 T D : Type 0} {g1 : A → A2} {g : T → D} {K1 F C : Type 0} {low : T → Type 0} {low_part : A → Type 0}
    {next : A → List Token → Type 0} {out : T → List Token → Type 0} {near looks : TokenKind → Bool}
    {fits : T → Type 0} {fits_part : A → Type 0} {row : A → Parts} {one : Reader A2} where
  pub open_part_read : (sub : T → A) (rest : T → Parts)
      (s : A2 → Reader D)
      → IsRead g1 K1 (Unit {0}) (Unit {0}) low_part next near fits_part row one
      → ((x : A) (ts : List Token) → Past near looks (s (g1 x) ts) ts)
      → Open low low_part next out fits fits_part sub rest
      → ((x : A) → IsRead g ⊥ (F × fits_part x) (C × low_part x) low out looks (λ y. fits y × (sub y ≡ x)) rest
      (s (g1 x)))
      → IsRead g ⊥ F C low out looks fits (λ y. row (sub y) ▸ rest y) (one ⨟ s)
  open_part_read sub rest s first past b second =
      record {
        reader = first.reader ⨟ λ x. (second x).reader;
        maps =
            λ ts. mapped_part g1 g (one ts) (first.reader ts) (λ x. (second x).reader) s (first.maps ts)
            (λ x ts. (second x).maps ts);
        alive =
            λ f. sequel_alive fits fits_part sub row rest (first.alive tt) (λ x fit. (second x).alive (f, fit));
        right =
            λ f c bound. open_right low low_part next out near looks fits fits_part sub row rest first.reader
            (λ x. (second x).reader) b bound (first.right tt tt bound)
            (λ x ts. past_mapped g near looks ts ((second x).reader ts) (s (g1 x) ts) ((second x).maps ts) (past x ts))
            (λ x fit. (second x).alive (f, fit)) (λ x fit fine. (second x).right (f, fit) (c, fine) bound);
        keeps = λ k f c bound. absurd k;
      }

-- ---- the last part

-- what is asked of it
pub record Last {A T : Type 0} (F C : Type 0) (low : T → Type 0) (low_part : A → Type 0)
    (next : A → List Token → Type 0)
    (out : T → List Token → Type 0) (fits : T → Type 0) (fits_part : A → Type 0) (sub : T → A) (build : A → T) :
    Type 0 where
  pub fit : (y : T) → fits y → fits_part (sub y)
  pub built : F → (x : A) → fits_part x → fits (build x)
  pub has : (x : A) → sub (build x) ≡ x
  pub only : F → (y : T) → fits y → y ≡ build (sub y)
  pub lows : F → C → (x : A) → fits_part x → low_part x → low (build x)
  pub part : F → (x : A) → fits_part x → low (build x) → low_part x
  pub outside : F → (x : A) (v : List Token) → fits_part x → out (build x) v → next x v

last_cast : {A T : Type 0} {F C : Type 0} {low : T → Type 0} {low_part : A → Type 0} {next : A → List Token → Type 0}
    {out : T → List Token → Type 0} {fits : T → Type 0} {fits_part : A → Type 0} (row : A → Parts) {sub : T → A}
    {build : A → T}
    → Last F C low low_part next out fits fits_part sub build → F → C
    → Recast low_part low next out fits_part fits row (λ y. row (sub y)) build
last_cast {A = A} {fits_part = fits_part} row {sub = sub} {build = build} l f c = record {
  to =
      λ x w i. record {
        fit = l.built f x i.fit;
        levels = subst (λ (z : A). AreLevelled (row z)) (sym (l.has x)) i.levels;
        spelled = subst (λ (z : A). AreSpelled (row z) w) (sym (l.has x)) i.spelled;
      };
  from =
      λ y w i. (
        sub y,
        l.only f y i.fit,
        record { fit = l.fit y i.fit; levels = i.levels; spelled = i.spelled },
      );
  lows = λ x fit low. l.lows f c x fit low;
  back = λ x fit low. l.part f x fit low;
  outside = λ x v fit o. l.outside f x v fit o;
}

module _ {A A2 T D : Type 0} {g1 : A → A2} {g : T → D} {K F C : Type 0} {low : T → Type 0} {low_part : A → Type 0}
    {next : A → List Token → Type 0} {out : T → List Token → Type 0} {looks : TokenKind → Bool} {fits : T → Type 0}
    {fits_part : A → Type 0} {row : A → Parts} {one : Reader A2} where
  pub last_read : (sub : T → A) (build : A → T) (s : A2 → Reader D)
      → IsRead g1 K (Unit {0}) (Unit {0}) low_part next looks fits_part row one
      → ((x : A) (ts : List Token) → s (g1 x) ts ≡ Reads (g (build x)) ts)
      → Last F C low low_part next out fits fits_part sub build
      → IsRead g K F C low out looks fits (λ y. row (sub y)) (one ⨟ s)
  last_read sub build s first ends l =
      record {
        reader = first.reader ⨟ λ x. pure (build x);
        maps =
            λ ts. mapped_part g1 g (one ts) (first.reader ts) (λ x. pure (build x)) s (first.maps ts)
            (λ x ts. ends x ts);
        alive =
            λ f. let b = first.alive tt in
            record {
              value = build b.value;
              more = b.more;
              is =
                  record {
                    fit = l.built f b.value b.is.fit;
                    levels = subst (λ (z : A). AreLevelled (row z)) (sym (l.has b.value)) b.is.levels;
                    spelled = subst (λ (z : A). AreSpelled (row z) b.more) (sym (l.has b.value)) b.is.spelled;
                  };
            };
        right =
            λ f c bound. recast bound low_part low next out looks fits_part fits row
            (λ y. row (sub y)) build first.reader
            (last_cast row l f c) (first.right tt tt bound);
        keeps =
            λ k f c bound. keeps_made low_part low next out fits_part fits row (λ y. row (sub y)) build
            (last_cast row l f c) bound first.reader (first.keeps k tt tt bound);
      }
