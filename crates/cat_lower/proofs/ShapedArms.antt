-- The places of the arms of a match: the value that is matched is the last local name.
use Rattle.std.proofs.Common.{◌≡◌, ◌≤◌, ℕ, ◌+◌, ◌-◌, nat_le, Bool, true, false, IsTrue, List, [], ◌∷◌}
use Rattle.std.proofs.Common.{◌++◌, length, Some, slice_get, refl, sym, subst, arith}
use Rattle.std.proofs.lemmas.Bool.{eq-eqb}
use Rattle.std.proofs.lemmas.Bool.Decides.{nat_tests}
use Rattle.cat_value.specs.declared.ty.Ty.{Ty}
use Rattle.cat_value.specs.Entries.{content_of}
use Rattle.cat_value.specs.Defaults.{default_of}
use Rattle.cat_code.specs.declared.instr.Instr.{Instr}
use Rattle.cat_code.specs.declared.instr.Instr.TheVariants as instr
use Rattle.cat_code.specs.declared.code.Tables.{Tables}
use Rattle.cat_code.specs.Forms.{Form, Truth, OneOf}
use Rattle.cat_code.specs.Shapes.{Owner, Shape}
use Rattle.cat_code.specs.Leads.{leads}
use Rattle.cat_code.specs.Flow.{flow}
use Rattle.cat_code.specs.Valid.{keeps_rules}
use Rattle.cat_lower.specs.Laying.{Ends, Coded, one, then_code, led, skip, end_of, over, branch}
use Rattle.cat_lower.specs.Stands.{HasAt}
use Rattle.cat_lower.specs.Pieces.{constant, arm_body}
use Rattle.cat_lower.proofs.Places.{past_append}
use Rattle.cat_lower.proofs.Spots.{Spots, open_at, shut_at, Meeting, Marked, Arrives, arrives_here, meets_here}
use Rattle.cat_lower.proofs.Spots.{IsConstant}
use Rattle.cat_lower.proofs.Sketches.{Sketch, Takes, takes_one, takes_then, takes_branch, sketch_after, sketch_sides}
use Rattle.cat_lower.proofs.Sketches.{is_jump_false, jump_keeps, forward, past_below}
use Rattle.cat_lower.proofs.ShapedForms.{Deep, more, Stands, at, Gives, gives_constant, form as form_by}
use Rattle.cat_lower.proofs.ShapedLoops.{takes_bind, takes_drop, at_back}

one_back : (p : ℕ) → (p + 1) - 1 ≡ p
one_back p = omega arith

two_back : (p : ℕ) → (p + 1 + 1) - 2 ≡ p
two_back p = omega arith

three_back : (p : ℕ) → (p + 1 + 1 + 1) - 3 ≡ p
three_back p = omega arith

four_back : (p : ℕ) → (p + 1 + 1 + 1 + 1) - 4 ≡ p
four_back p = omega arith

four_on : (p : ℕ) → nat_le 4 (p + 1 + 1 + 1 + 1) ≡ true
four_on p = grind (arith, nat_tests)

module _ (tables : Tables) (code : List Instr) (Calls : Owner → Owner → Type 0) (entry : ℕ → Shape) (owner : Owner)
    (filled : List Bool) where
  abbrev G : Coded → List Form → Form → Type 0
  G a ls t = Gives tables code Calls entry owner filled a ls t

  abbrev A : List Form → Deep → Shape
  A ls d = at tables code Calls entry owner filled ls d

  abbrev T : Coded → Shape → Shape → Type 0
  T a s t = Takes tables code Calls entry a s t

  abbrev F : Ty → Form
  F t = form_by tables code Calls entry owner filled t

  -- code that takes the matched value off the local names, and pushes a value
  abbrev pub Matches : Coded → List Form → ℕ → Form → Type 0
  Matches a ls n t = (d : Deep) → Stands d.loops d.pending → T a (A (ls ++ OneOf n ∷ []) d) (A ls (more t d))

  pub matches_none : (u : Ty) (ls : List Form) (n : ℕ) (t : Form)
      → IsConstant tables (record { ty = u; value = default_of tables.decls u })
      → F u ≡ t
      → Matches (then_code (constant u (default_of tables.decls u)) (one (instr.Drop 1))) ls n t
  matches_none u ls n t sound is d stands =
      takes_then tables code Calls entry (constant u (default_of tables.decls u)) (one (instr.Drop 1))
      (A (ls ++ OneOf n ∷ []) d)
      (A (ls ++ OneOf n ∷ []) (more t d)) (A ls (more t d))
      (gives_constant tables code Calls entry owner filled u (default_of tables.decls u) t
      (ls ++ OneOf n ∷ []) sound is d stands)
      (takes_drop tables code Calls entry owner filled ls (OneOf n ∷ []) 1 (more t d) refl)

  -- a body without a content
  pub matches_any : (body : Coded) (ls : List Form) (n : ℕ) (t : Form) → G body ls t
      → Matches (led (instr.Drop 1) body) ls n t
  matches_any body ls n t given d stands =
      takes_then tables code Calls entry (one (instr.Drop 1)) body (A (ls ++ OneOf n ∷ []) d) (A ls d) (A ls (more t d))
      (takes_drop tables code Calls entry owner filled ls (OneOf n ∷ []) 1 d refl) (given d stands)

  module _ (i c n k : ℕ) (ls : List Form) (is_last : i ≡ length ls)
      (is_case : slice_get tables.cases c ≡ Some (record { enumeration = n; case = k })) where
    abbrev within : List Form
    within = ls ++ OneOf n ∷ []

    named : slice_get within i ≡ Some (OneOf n)
    named = at_back ls [] (OneOf n) i is_last

    local_flows : (d : Deep) (p : ℕ)
        → flow tables code (instr.Local i) p (A within d) ≡ leads (p + 1) (A within (more (OneOf n) d))
    local_flows d p = let there = named in rw there refl

    case_flows : (d : Deep) (p : ℕ)
        → flow tables code (instr.IsCase c) p (A within (more (OneOf n) d)) ≡ leads (p + 1) (A within (more Truth d))
    case_flows d p = let same = eq-eqb n n refl in rw (is_case, same) refl

    -- a case whose content isn't bound
    pub matches_case : (body rest : Coded) (t : Form) → G body ls t → Matches rest ls n t
        → Matches (led (instr.Local i)
        (led (instr.IsCase c) (branch (λ t. instr.JumpFalse t) (arm_body i false body) rest))) ls n t
    matches_case body rest t given others d stands =
        takes_then tables code Calls entry (one (instr.Local i)) _ (A within d) (A within (more (OneOf n) d))
        (A ls (more t d))
        (takes_one tables code Calls entry (instr.Local i) (A within d) (A within (more (OneOf n) d)) (local_flows d)
        (λ all p. (tt, (refl, (tt, tt)))))
        (takes_then tables code Calls entry (one (instr.IsCase c)) _ (A within (more (OneOf n) d))
        (A within (more Truth d)) (A ls (more t d))
        (takes_one tables code Calls entry (instr.IsCase c) (A within (more (OneOf n) d)) (A within (more Truth d))
        (case_flows d) (λ all p. (tt, (refl, (tt, tt)))))
        (takes_branch tables code Calls entry (λ t. instr.JumpFalse t) (led (instr.Drop 1) body) rest
        (A within (more Truth d)) (A within d) (A within d)
        (A ls (more t d)) (is_jump_false tables code Calls entry) (λ p q is. refl)
        (matches_any body ls n t given d stands) (others d stands)))

    -- the five instructions up to a content
    abbrev opening : ℕ → Coded
    opening q =
        led (instr.Local i) (led (instr.IsCase c) (led (instr.JumpFalse q) (led (instr.Local i) (one instr.Content))))

    module _ (u : Ty) (full : content_of tables.decls n k ≡ Some (Some u)) where
      content_flows : (d : Deep) (p : ℕ) → slice_get code (p + 1) ≡ Some (instr.IsCase c)
          → flow tables code instr.Content (p + 1 + 1 + 1 + 1) (A within (more (OneOf n) d))
          ≡ leads (p + 1 + 1 + 1 + 1 + 1) (A within (more (F u) d))
      content_flows d p there =
          let same = eq-eqb n n refl in
          rw (three_back (p + 1), there, is_case, full, same) refl

      content_rules : (q p : ℕ)
          → HasAt code p (instr.Local i ∷ instr.IsCase c ∷ instr.JumpFalse q ∷ instr.Local i ∷ instr.Content ∷ [])
          → IsTrue (keeps_rules tables code [] (p + 1 + 1 + 1 + 1) instr.Content)
      content_rules q p has =
          let same = eq-eqb i i refl in
          rw (
            four_on p,
            four_back p,
            three_back (p + 1),
            two_back (p + 1 + 1),
            one_back (p + 1 + 1 + 1),
            has.0,
            has.1.0,
            has.1.1.0,
            has.1.1.1.0,
            same,
            is_case,
            full,
          ) refl

      -- the spots behind the first are shut
      sketch_opening : (ends : Ends) (q : ℕ) (d : Deep)
          → HasAt code ends.place (instr.Local i ∷ instr.IsCase c ∷ instr.JumpFalse q ∷ instr.Local i ∷ instr.Content
          ∷ [])
          → ends.place + 1 + 1 + 1 ≤ q
          → Sketch tables code Calls entry ends (opening q ends) (A within d)
          (λ all. Meeting all (ends.place + 1 + 1 + 1 + 1 + 1) (A within (more (F u) d)) × Arrives all q (A within d))
      sketch_opening ends q d has before = record {
        spots =
            open_at (A within d) ∷ shut_at (A within (more (OneOf n) d)) ∷ shut_at (A within (more Truth d))
            ∷ shut_at (A within d)
            ∷ shut_at (A within (more (OneOf n) d)) ∷ [];
        as_long = λ m. refl;
        first = λ all at after. arrives_here all ends.place (A within d) at.0;
        kept = λ all known at after. (
          record {
            to = (ends.place + 1, A within (more (OneOf n) d)) ∷ [];
            flows = local_flows d ends.place;
            met = (meets_here all (ends.place + 1) (shut_at (A within (more (OneOf n) d))) at.1.0, tt);
            keeps = (tt, (refl, (tt, tt)));
          },
          (
            record {
              to = (ends.place + 1 + 1, A within (more Truth d)) ∷ [];
              flows = case_flows d (ends.place + 1);
              met = (meets_here all (ends.place + 1 + 1) (shut_at (A within (more Truth d))) at.1.1.0, tt);
              keeps = (tt, (refl, (tt, tt)));
            },
            (
              record {
                to = (ends.place + 1 + 1 + 1, A within d) ∷ (q, A within d) ∷ [];
                flows = refl;
                met = (meets_here all (ends.place + 1 + 1 + 1) (shut_at (A within d)) at.1.1.1.0, (after.1.0, tt));
                keeps =
                    jump_keeps tables code Calls entry (λ t. instr.JumpFalse t)
                    (is_jump_false tables code Calls entry) all (ends.place + 1 + 1) q
                    (A within (more Truth d)) after.1.1 (forward (ends.place + 1 + 1) q _ before);
              },
              (
                record {
                  to = (ends.place + 1 + 1 + 1 + 1, A within (more (OneOf n) d)) ∷ [];
                  flows = local_flows d (ends.place + 1 + 1 + 1);
                  met = (
                    meets_here all (ends.place + 1 + 1 + 1 + 1)
                        (shut_at (A within (more (OneOf n) d))) at.1.1.1.1.0,
                    tt,
                  );
                  keeps = (tt, (refl, (tt, tt)));
                },
                (
                  record {
                    to = (ends.place + 1 + 1 + 1 + 1 + 1, A within (more (F u) d)) ∷ [];
                    flows = content_flows d ends.place has.1.0;
                    met = (after.0, tt);
                    keeps = (
                      tt,
                      (
                        content_rules q ends.place has,
                        (
                          (
                            shut all (ends.place + 1) (A within (more (OneOf n) d)) (ends.place + 1 + 1 + 1 + 1 - 3)
                                (three_back (ends.place + 1)) at.1.0,
                            (
                              shut all (ends.place + 1 + 1) (A within (more Truth d)) (ends.place + 1 + 1 + 1 + 1 - 2)
                                  (two_back (ends.place + 1 + 1)) at.1.1.0,
                              (
                                shut all (ends.place + 1 + 1 + 1) (A within d) (ends.place + 1 + 1 + 1 + 1 - 1)
                                    (one_back (ends.place + 1 + 1 + 1)) at.1.1.1.0,
                                record {
                                  spot = shut_at (A within (more (OneOf n) d));
                                  is = at.1.1.1.1.0;
                                  marked =
                                      refl;
                                },
                              ),
                            ),
                          ),
                          tt,
                        ),
                      ),
                    );
                  },
                  tt,
                ),
              ),
            ),
          ),
        );
        constants = tt;
        targets = tt;
      }
        where
          shut : (all : Spots) (m : ℕ) (s : Shape) (j : ℕ) → j ≡ m → slice_get all m ≡ Some (shut_at s)
              → Marked false all j
          shut all m s j is there =
              subst (λ x. Marked false all x) (sym is) (record { spot = shut_at s; is = there; marked = refl })

      -- a case whose content is bound: it takes the place of the value
      pub matches_content : (body rest : Coded) (t : Form) → G body (ls ++ F u ∷ []) t → Matches rest ls n t
          → Matches (led (instr.Local i)
          (led (instr.IsCase c) (branch (λ t. instr.JumpFalse t) (arm_body i true body) rest))) ls n t
      matches_content body rest t given others d stands ends has =
          let inner : Coded = led (instr.Drop 1) (led instr.Bind (then_code body (one (instr.Drop 1)))) in
          let e5 = skip (skip (skip (skip (skip ends)))) in
          let q = (skip (end_of inner e5)).place in
          let bound : T inner (A within (more (F u) d)) (A ls (more t d))
          = takes_then tables code Calls entry (one (instr.Drop 1))
          (led instr.Bind (then_code body (one (instr.Drop 1))))
          (A within (more (F u) d)) (A ls (more (F u) d)) (A ls (more t d))
          (takes_drop tables code Calls entry owner filled ls (OneOf n ∷ []) 1 (more (F u) d) refl)
          (takes_then tables code Calls entry (one instr.Bind) (then_code body (one (instr.Drop 1)))
          (A ls (more (F u) d)) (A (ls ++ F u ∷ []) d) (A ls (more t d))
          (takes_bind tables code Calls entry owner filled ls (F u) d)
          (takes_then tables code Calls entry body (one (instr.Drop 1)) (A (ls ++ F u ∷ []) d)
          (A (ls ++ F u ∷ []) (more t d)) (A ls (more t d))
          (given d stands) (takes_drop tables code Calls entry owner filled ls (F u ∷ []) 1 (more t d) refl))) in
          let five = has.instructions in
          let before : ends.place + 1 + 1 + 1 ≤ q = omega (arith, past_below e5.place (inner e5).instructions) in
          sketch_after tables code Calls entry ends
          (then_code (opening q) (then_code inner (over (λ t. instr.Jump t) rest)) ends) (A within d)
          (λ all. Arrives all (end_of rest (skip (end_of inner e5))).place (A ls (more t d)))
          (λ all. Arrives all (end_of
          (then_code (opening q) (then_code inner (over (λ t. instr.Jump t) rest))) ends).place (A ls (more t d)))
          (λ all after. subst (λ p. Arrives all p (A ls (more t d)))
          (past_append e5.place (inner e5).instructions
          (instr.Jump (end_of rest (skip (end_of inner e5))).place ∷ (rest (skip (end_of inner e5))).instructions))
          after)
          (sketch_sides tables code Calls entry ends (opening q) inner rest (A within d) (A within (more (F u) d))
          (A within d) (A ls (more t d)) has
          (sketch_opening ends q d (five.0, (five.1.0, (five.1.1.0, (five.1.1.1.0, (five.1.1.1.1.0, tt))))) before)
          bound (others d stands))
