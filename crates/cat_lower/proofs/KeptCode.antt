-- Code whose instructions are kept at their spots is valid.
use Rattle.std.proofs.Common.{◌≡◌, ℕ, zero, suc, ◌+◌, ◌-◌, nat_eq, nat_le, ◌&&◌, Bool, true}
use Rattle.std.proofs.Common.{false, not, true≢false, IsTrue, List, [], ◌∷◌, map, Option, Some, None}
use Rattle.std.proofs.Common.{slice_get, refl, sym, ap, ◌∙◌, subst, arith}
use Rattle.std.proofs.lemmas.Bool.{eqb-true}
use Rattle.std.proofs.lemmas.Bool.Decides.{nat_tests}
use Rattle.cat_scope.specs.Names.{AllHave}
use Rattle.cat_code.specs.declared.instr.Instr.{Instr}
use Rattle.cat_code.specs.declared.instr.Instr.TheVariants as instr
use Rattle.cat_code.specs.declared.code.Tables.{Tables}
use Rattle.cat_code.specs.Shapes.{Owner, Shape}
use Rattle.cat_code.specs.Shaped.{Shapes, IsMet, AreFine}
use Rattle.cat_code.specs.Jumps.{jump_of, with_jump, jumps_in, called_by}
use Rattle.cat_code.specs.Tame.{is_forward, AreForward, IsCallOf, LeadTo, call, chain, IsTame}
use Rattle.cat_code.specs.Valid.{are_apart, are_tested, keeps_rules, keep_rules}
use Rattle.cat_lower.proofs.TypesAgree.{both_so}
use Rattle.cat_lower.proofs.Spots.{Spot, Spots, Meeting, Marked, Jumps, Shut, MayCall, IsKept, AreKept}
use Rattle.cat_lower.proofs.ShapedParts.{read_map}

pub both_true : (a b : Bool) → a ≡ true → b ≡ true → (a && b) ≡ true
both_true true true e f = refl
both_true true false e f = f
both_true false b e f = e

module _ (tables : Tables) (code : List Instr) (Calls : Owner → Owner → Type 0) (entry : ℕ → Shape) (all : Spots) where
  -- the shapes of the places
  abbrev pub shapes_of : Spots → Shapes
  shapes_of spots = map (λ (s : Spot). Some s.shape) spots

  all_met : (to : List (ℕ × Shape)) → AllHave (λ (next : ℕ × Shape). Meeting all next.0 next.1) to
      → AllHave (λ (next : ℕ × Shape). IsMet (shapes_of all) next.0 next.1) to
  all_met [] h = tt
  all_met (next ∷ to) h = (
    record {
      shape = h.0.spot.shape;
      is = read_map (λ (s : Spot). Some s.shape) all next.0 h.0.spot h.0.is;
      meets = h.0.meets;
    },
    all_met to h.1,
  )

  pub all_fine : (p : ℕ) (is : List Instr) (ss : Spots) → AreKept tables code Calls entry all p is ss
      → AreFine tables code (shapes_of all) p is (shapes_of ss)
  all_fine p [] [] h = tt
  all_fine p [] (s ∷ ss) h = absurd h
  all_fine p (i ∷ is) [] h = absurd h
  all_fine p (i ∷ is) (s ∷ ss) h =
      (record { to = h.0.to; flows = h.0.flows; met = all_met h.0.to h.0.met }, all_fine (p + 1) is ss h.1)

  -- ---- jumps

  forward_so : (p : ℕ) (i : Instr) (o : Option ℕ) → Jumps tables code Calls entry all p i o
      → IsTrue (is_forward code p i o)
  forward_so p i None h = refl
  forward_so p i (Some t) h = h.1

  pub all_forward : (p : ℕ) (is : List Instr) (ss : Spots) → AreKept tables code Calls entry all p is ss
      → AreForward code p is
  all_forward p [] [] h = tt
  all_forward p [] (s ∷ ss) h = absurd h
  all_forward p (i ∷ is) [] h = absurd h
  all_forward p (i ∷ is) (s ∷ ss) h = (forward_so p i (jump_of i) h.0.keeps.0, all_forward (p + 1) is ss h.1)

  with_open : (p : ℕ) (i : Instr) (o : Option ℕ) (ts : List ℕ) → Jumps tables code Calls entry all p i o
      → AllHave (Marked true all) ts
      → AllHave (Marked true all) (with_jump o ts)
  with_open p i None ts h rest = rest
  with_open p i (Some t) ts h rest = (h.0, rest)

  pub all_open : (p : ℕ) (is : List Instr) (ss : Spots) → AreKept tables code Calls entry all p is ss
      → AllHave (Marked true all) (jumps_in is)
  all_open p [] [] h = tt
  all_open p [] (s ∷ ss) h = absurd h
  all_open p (i ∷ is) [] h = absurd h
  all_open p (i ∷ is) (s ∷ ss) h = with_open p i (jump_of i) (jumps_in is) h.0.keeps.0 (all_open (p + 1) is ss h.1)

  -- ---- rules

  clash : (t : ℕ) → Marked true all t → Marked false all t → ⊥
  clash t free shut =
      let same : Some free.spot ≡ Some shut.spot = sym free.is ∙ shut.is in
      let spots : free.spot ≡ shut.spot = cc same in
      true≢false (sym free.marked ∙ ap (λ (s : Spot). s.free) spots ∙ shut.marked)

  last_of_four : (p t : ℕ) → nat_le 4 p ≡ true → (nat_le p (t + 3) && nat_le t p) ≡ true → nat_eq t p ≡ false
      → nat_eq t (p - 1) ≡ false
      → nat_eq t (p - 2) ≡ false → nat_eq t (p - 3) ≡ true
  last_of_four p t four near a b c = grind (arith, nat_tests)

  not_near : (p t : ℕ) → nat_le 4 p ≡ true → Marked true all t
      → Marked false all (p - 3) × (Marked false all (p - 2) × (Marked false all (p - 1) × Marked false all p))
      → not (nat_le p (t + 3) && nat_le t p) ≡ true
  not_near p t four free shut = by (nat_le p (t + 3) && nat_le t p) refl
    where
      meet : (q : ℕ) → nat_eq t q ≡ true → Marked false all q → ⊥
      meet q e s = clash t free (subst (λ m. Marked false all m) (sym (eqb-true t q e)) s)

      third : (nat_le p (t + 3) && nat_le t p) ≡ true → (c : Bool) → nat_eq t (p - 2) ≡ c → nat_eq t p ≡ false
          → nat_eq t (p - 1) ≡ false → ⊥
      third near true e a b = meet (p - 2) e shut.1.0
      third near false e a b = meet (p - 3) (last_of_four p t four near a b e) shut.0

      second : (nat_le p (t + 3) && nat_le t p) ≡ true → (b : Bool) → nat_eq t (p - 1) ≡ b → nat_eq t p ≡ false → ⊥
      second near true e a = meet (p - 1) e shut.1.1.0
      second near false e a = third near (nat_eq t (p - 2)) refl a e

      first : (nat_le p (t + 3) && nat_le t p) ≡ true → (a : Bool) → nat_eq t p ≡ a → ⊥
      first near true e = meet p e shut.1.1.1
      first near false e = second near (nat_eq t (p - 1)) refl e

      by : (b : Bool) → (nat_le p (t + 3) && nat_le t p) ≡ b → not b ≡ true
      by true near = absurd (first near (nat_eq t p) refl)
      by false near = refl

  all_apart : (p : ℕ) (ts : List ℕ) → nat_le 4 p ≡ true → AllHave (Marked true all) ts
      → Marked false all (p - 3) × (Marked false all (p - 2) × (Marked false all (p - 1) × Marked false all p))
      → are_apart p ts ≡ true
  all_apart p [] four free shut = refl
  all_apart p (t ∷ ts) four free shut =
      both_true (not (nat_le p (t + 3) && nat_le t p)) (are_apart p ts) (not_near p t four free.0 shut)
      (all_apart p ts four free.1 shut)

  rules_so : (places : List ℕ) → AllHave (Marked true all) places → (p : ℕ) (i : Instr)
      → Shut tables code Calls entry all p i
      → keeps_rules tables code [] p i ≡ true → keeps_rules tables code places p i ≡ true
  rules_so places free p instr.Content shut so =
      let parts = both_so (nat_le 4 p && true)
      (are_tested tables (slice_get code (p - 4)) (slice_get code (p - 3)) (slice_get code (p - 2))
      (slice_get code (p - 1))) so in
      let four = (both_so (nat_le 4 p) true parts.0).0 in
      both_true (nat_le 4 p && are_apart p places) _
      (both_true (nat_le 4 p) (are_apart p places) four (all_apart p places four free shut)) parts.1
  rules_so places free p (instr.Const k) shut so = so
  rules_so places free p (instr.Slot k) shut so = so
  rules_so places free p (instr.Local k) shut so = so
  rules_so places free p (instr.Store k) shut so = so
  rules_so places free p instr.Bind shut so = so
  rules_so places free p (instr.Drop k) shut so = so
  rules_so places free p (instr.Given k t) shut so = so
  rules_so places free p (instr.Jump t) shut so = so
  rules_so places free p (instr.JumpFalse t) shut so = so
  rules_so places free p (instr.Op n r q) shut so = so
  rules_so places free p (instr.Pack n) shut so = so
  rules_so places free p (instr.List n) shut so = so
  rules_so places free p (instr.Field n) shut so = so
  rules_so places free p (instr.Tag n) shut so = so
  rules_so places free p (instr.TagNone n) shut so = so
  rules_so places free p (instr.IsCase n) shut so = so
  rules_so places free p instr.Length shut so = so
  rules_so places free p instr.Iter shut so = so
  rules_so places free p (instr.IterList n) shut so = so
  rules_so places free p (instr.Next t) shut so = so
  rules_so places free p instr.Collect shut so = so
  rules_so places free p instr.Leave shut so = so
  rules_so places free p (instr.Call f n) shut so = so
  rules_so places free p (instr.Scope n) shut so = so
  rules_so places free p (instr.Pass n) shut so = so
  rules_so places free p instr.Enter shut so = so
  rules_so places free p instr.Return shut so = so
  rules_so places free p (instr.Begin n) shut so = so
  rules_so places free p (instr.Hold n) shut so = so
  rules_so places free p instr.Merge shut so = so
  rules_so places free p (instr.Check n) shut so = so
  rules_so places free p (instr.Held t) shut so = so
  rules_so places free p (instr.Take t) shut so = so
  rules_so places free p (instr.NoValue n) shut so = so
  rules_so places free p (instr.Assert n) shut so = so

  pub all_ruled : (places : List ℕ) → AllHave (Marked true all) places → (p : ℕ) (is : List Instr) (ss : Spots)
      → AreKept tables code Calls entry all p is ss → keep_rules tables code places p is ≡ true
  all_ruled places free p [] [] h = refl
  all_ruled places free p [] (s ∷ ss) h = absurd h
  all_ruled places free p (i ∷ is) [] h = absurd h
  all_ruled places free p (i ∷ is) (s ∷ ss) h =
      both_true (keeps_rules tables code places p i) (keep_rules tables code places (p + 1) is)
      (rules_so places free p i h.0.keeps.1.1.0 h.0.keeps.1.0) (all_ruled places free (p + 1) is ss h.1)

  -- ---- calls

  kept_at : (p : ℕ) (is : List Instr) (ss : Spots) (n : ℕ) (i : Instr) (s : Spot)
      → AreKept tables code Calls entry all p is ss
      → slice_get is n ≡ Some i → slice_get ss n ≡ Some s → IsKept tables code Calls entry all i (p + n) s.shape
  kept_at p [] ss n i s h is_i is_s = absurd (cc is_i)
  kept_at p (j ∷ is) [] n i s h is_i is_s = absurd (cc is_s)
  kept_at p (j ∷ is) (t ∷ ss) zero i s h is_i is_s =
      let same : j ≡ i = cc is_i in
      let spots : t ≡ s = cc is_s in
      let e : p ≡ p + 0 = omega arith in
      subst (λ m. IsKept tables code Calls entry all i m s.shape) e
      (subst (λ (x : Spot). IsKept tables code Calls entry all i p x.shape) spots
      (subst (λ (x : Instr). IsKept tables code Calls entry all x p t.shape) same h.0))
  kept_at p (j ∷ is) (t ∷ ss) (suc n) i s h is_i is_s =
      let e : (p + 1) + n ≡ p + suc n = omega arith in
      subst (λ m. IsKept tables code Calls entry all i m s.shape) e (kept_at (p + 1) is ss n i s h.1 is_i is_s)

  spot_at : (ss : Spots) (n : ℕ) (shape : Shape) → slice_get (shapes_of ss) n ≡ Some (Some shape)
      → (s : Spot) × (slice_get ss n ≡ Some s) × (s.shape ≡ shape)
  spot_at [] n shape is = absurd (cc is)
  spot_at (s ∷ ss) zero shape is = let same : s.shape ≡ shape = cc is in (s, refl, same)
  spot_at (s ∷ ss) (suc n) shape is = spot_at ss n shape is

  module _ (kept : AreKept tables code Calls entry all 0 code all)
      (further : (a b c : Owner) → Calls a b → Calls b c → Calls a c) where
    called_so : (a b : Owner) → IsCallOf code (shapes_of all) a b → Calls a b
    called_so a b c =
        let met = spot_at all c.place c.shape c.shape_is in
        let one = kept_at 0 code all c.place c.instruction met.0 kept c.instruction_is met.1 in
        let owned : met.0.shape.owner ≡ a = ap (λ (s : Shape). s.owner) met.2 ∙ c.owner_is in
        subst (λ (o : Owner). Calls o b) owned
        (subst (λ o. MayCall tables code Calls entry met.0.shape.owner o)
        (ap (λ (o : Owner). called_by o c.instruction) owned ∙ c.calls) one.keeps.1.1.1)

    pub leads_so : (a b : Owner) → LeadTo code (shapes_of all) a b → Calls a b
    leads_so a b (call c) = called_so a b c
    leads_so a b (chain {b = m} c rest) = further a m b (called_so a m c) (leads_so m b rest)

    pub is_tame : ((a : Owner) → Calls a a → ⊥) → IsTame code (shapes_of all)
    is_tame none =
        record {
          forward = all_forward 0 code all kept;
          acyclic =
              λ owner leads. none owner (leads_so owner owner leads);
        }
