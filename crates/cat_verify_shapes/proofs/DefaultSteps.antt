-- Where instructions of default frames lead.
use Rattle.std.proofs.Common.{◌≡◌, ◌≤◌, ℕ, ◌+◌, nat_eq, nat_le, nat_lt, ◌&&◌, Bool, true, false, List, []}
use Rattle.std.proofs.Common.{◌∷◌}
use Rattle.std.proofs.Common.{length, map, Option, Some, None, slice_get, refl, sym, ap, ◌∙◌, arith}
use Rattle.std.proofs.Common.{true≢false}
use Rattle.std.proofs.lemmas.Bool.Decides.{nat_tests}
use Rattle.std.proofs.lemmas.Bool.{eqb-true, and_left}
use Rattle.std.specs.Prelude.{Ok, Err}
use Rattle.cat_code.specs.declared.instr.Instr.TheVariants as instr
use Rattle.cat_code.specs.declared.code.TargetEntry.{TargetEntry}
use Rattle.cat_code.specs.declared.code.Tables.{Tables}
use Rattle.cat_code.specs.Forms.{Form, same_form}
use Rattle.cat_code.specs.Shapes as meant
use Rattle.cat_code.specs.Places.{target_form}
use Rattle.cat_code.specs.Wanted.{frames_inside}
use Rattle.cat_code.specs.Leads.{Flow, leads, leads_two, with, where_so, top, pushed, pop_as}
use Rattle.cat_code.specs.Flow.{flow}
use Rattle.cat_verify_shapes.specs.declared.forms.Forms.{Forms}
use Rattle.cat_verify_shapes.specs.declared.shape.Shape.{Shape}
use Rattle.cat_verify_shapes.specs.declared.shape.FrameShape.{FrameShape}
use Rattle.cat_verify_shapes.specs.declared.leads.Leads.{Leads}
use Rattle.cat_verify_shapes.specs.declared.leads.Leads.TheVariants as to
use Rattle.cat_verify_shapes.specs.declared.leads.Stuck.TheVariants as stuck
use Rattle.cat_verify_shapes.specs.inside.Senses.{Senses, StandsIn}
use Rattle.cat_verify_shapes.specs.inside.Told.{frame_of, shape_of, leads_of, Tells}
use Rattle.cat_verify_shapes.specs.inside.Taking.{Takes, own_frames, entry_form, target_at, with_frame}
use Rattle.cat_verify_shapes.proofs.StepLemmas.{with_not, where_is, where_not, as_so, as_not}
use Rattle.cat_verify_shapes.proofs.FrameLemmas.{frames_test}

lt_le : (a n : ℕ) → nat_lt a n ≡ true → nat_le n a ≡ false
lt_le a n e = grind (arith, nat_tests)

not_lt_le : (a n : ℕ) → nat_lt a n ≡ false → nat_le n a ≡ true
not_lt_le a n e = grind (arith, nat_tests)

and_is : (a b c : Bool) → a ≡ true → b ≡ c → (a && b) ≡ c
and_is a b c e f = ap (λ (x : Bool). x && b) e ∙ f

takes_with : (r q : Shape) (n : ℕ) (b : Bool) (fs : List FrameShape) → Takes r q n b
    → Takes (record r { defaults = fs }) (record q { defaults = fs }) n b
takes_with r q n true fs takes = ap (λ (x : Shape). record x { defaults = fs }) takes
takes_with r q n false fs takes = takes

module _ (tables : Tables) (forms : Forms) (p : ℕ) where
  inside_so : (d : Senses) (s : Shape) (n : ℕ) → 1 ≤ n → nat_lt (own_frames s) n ≡ false
      → frames_inside n (shape_of d s).loops (shape_of d s).defaults ≡ true
  inside_so d s n h e = frames_test d s n h ∙ not_lt_le (own_frames s) n e

  inside_not : (d : Senses) (s : Shape) (n : ℕ) → 1 ≤ n → nat_lt (own_frames s) n ≡ true
      → frames_inside n (shape_of d s).loops (shape_of d s).defaults ≡ false
  inside_not d s n h e = frames_test d s n h ∙ lt_le (own_frames s) n e

  -- ---- begin

  begins_at : (d : Senses) (s : Shape) (o : Option TargetEntry) (t : Option Form) → t ≡ entry_form tables.decls o
      → with o (λ entry. with (target_form tables.decls entry.target) (λ t. leads (p + 1) (record (shape_of d s) {
        defaults = record { begun = p; holds = t; checked = false } ∷ map (frame_of d) s.defaults;
      })))
      ≡ with t (λ t. leads (p + 1) (record (shape_of d s) {
        defaults = record { begun = p; holds = t; checked = false } ∷ map (frame_of d) s.defaults;
      }))
  begins_at d s None t e =
      sym (with_not t (λ t. leads (p + 1) (record (shape_of d s) {
        defaults = record { begun = p; holds = t; checked = false } ∷ map (frame_of d) s.defaults;
      })) (sym e))
  begins_at d s (Some entry) t e =
      ap (λ (o : Option Form). with o (λ t. leads (p + 1) (record (shape_of d s) {
        defaults = record { begun = p; holds = t; checked = false } ∷ map (frame_of d) s.defaults;
      }))) (sym e)

  pub begin_nowhere : (s : Shape) (v : ℕ) → StandsIn tables.decls forms None (target_at tables v)
      → Tells tables forms (Err stuck.Bad) (flow tables [] (instr.Begin v) p) s
  begin_nowhere s v stands = λ d h. begins_at d s (slice_get tables.targets v) None (stands d h)

  pub begin_so : (s : Shape) (v n : ℕ) (f : FrameShape) (l : Leads)
      → StandsIn tables.decls forms (Some n) (target_at tables v) → f.begun ≡ p → f.holds ≡ n
      → l ≡ to.One (p + 1) (with_frame f false s)
      → Tells tables forms (Ok l) (flow tables [] (instr.Begin v) p) s
  begin_so s v n f l stands begun holds is = λ d h.
      begins_at d s (slice_get tables.targets v) (Some (d.one n)) (stands d h)
      ∙ ap (λ (b : ℕ). Some ((
        p + 1,
        record (shape_of d s) {
          defaults = record { begun = b; holds = d.one n; checked = false } ∷ map (frame_of d) s.defaults;
        },
      ) ∷ [])) (sym begun)
      ∙ ap (λ (m : ℕ). Some ((
        p + 1,
        record (shape_of d s) {
          defaults = record { begun = f.begun; holds = d.one m; checked = false } ∷ map (frame_of d) s.defaults;
        },
      ) ∷ [])) (sym holds)
      ∙ ap (λ (x : Leads). Some (leads_of d x)) (sym is)

  -- ---- hold

  abbrev held_on : Senses → Shape → Flow
  held_on d s = top (map (frame_of d) s.defaults) (λ f fs. pop_as f.holds (shape_of d s)
      (λ x. leads (p + 1) (record x { defaults = record f { checked = false } ∷ fs })))

  pub hold_nowhere : (s : Shape) (n : ℕ) → nat_lt n (length tables.definitions) ≡ false
      → Tells tables forms (Err stuck.Bad) (flow tables [] (instr.Hold n) p) s
  hold_nowhere s n e = λ d h.
      where_not (nat_lt n (length tables.definitions) && frames_inside 1 (shape_of d s).loops (shape_of d s).defaults)
      (held_on d s)
      (and_left (nat_lt n (length tables.definitions))
      (frames_inside 1 (shape_of d s).loops (shape_of d s).defaults) e)

  pub hold_outside : (s : Shape) (n : ℕ) → nat_lt n (length tables.definitions) ≡ true
      → nat_lt (own_frames s) 1 ≡ true → Tells tables forms (Err stuck.Bad) (flow tables [] (instr.Hold n) p) s
  hold_outside s n e out = λ d h.
      where_not (nat_lt n (length tables.definitions) && frames_inside 1 (shape_of d s).loops (shape_of d s).defaults)
      (held_on d s)
      (and_is (nat_lt n (length tables.definitions)) (frames_inside 1 (shape_of d s).loops (shape_of d s).defaults)
      false
      e (inside_not d s 1 (omega arith) out))

  hold_on : (d : Senses) (s : Shape) (n : ℕ) → nat_lt n (length tables.definitions) ≡ true
      → nat_lt (own_frames s) 1 ≡ false → flow tables [] (instr.Hold n) p (shape_of d s) ≡ held_on d s
  hold_on d s n e inside =
      where_is (nat_lt n (length tables.definitions) && frames_inside 1 (shape_of d s).loops (shape_of d s).defaults)
      (held_on d s)
      (and_is (nat_lt n (length tables.definitions)) (frames_inside 1 (shape_of d s).loops (shape_of d s).defaults) true
      e (inside_so d s 1 (omega arith) inside))

  pub hold_nothing : (s : Shape) (n : ℕ) → nat_lt n (length tables.definitions) ≡ true
      → nat_lt (own_frames s) 1 ≡ false → s.defaults ≡ []
      → Tells tables forms (Err stuck.Bad) (flow tables [] (instr.Hold n) p) s
  hold_nothing s n e inside none = λ d h.
      hold_on d s n e inside
      ∙ ap (λ (fs : List FrameShape). top (map (frame_of d) fs) (λ f fs. pop_as f.holds (shape_of d s)
      (λ x. leads (p + 1) (record x { defaults = record f { checked = false } ∷ fs })))) none

  abbrev keeps : Senses → FrameShape → List FrameShape → meant.Shape → Flow
  keeps d f fs x = leads (p + 1) (record x {
    defaults = record (frame_of d f) { checked = false } ∷ map (frame_of d) fs;
  })

  pub hold_unlike : (s r q : Shape) (n : ℕ) (f : FrameShape) → nat_lt n (length tables.definitions) ≡ true
      → nat_lt (own_frames s) 1 ≡ false → s ≡ record r { defaults = f ∷ r.defaults } → Takes r q f.holds false
      → Tells tables forms (Err stuck.Bad) (flow tables [] (instr.Hold n) p) s
  hold_unlike s r q n f e inside is takes = λ d h.
      hold_on d s n e inside ∙ ap (held_on d) is
      ∙ as_not d h.apart (record r { defaults = f ∷ r.defaults }) (record q { defaults = f ∷ r.defaults }) f.holds
      (d.one f.holds) (keeps d f r.defaults) refl (takes_with r q f.holds false (f ∷ r.defaults) takes)

  pub hold_so : (s r q : Shape) (n : ℕ) (f : FrameShape) (l : Leads) → nat_lt n (length tables.definitions) ≡ true
      → nat_lt (own_frames s) 1 ≡ false → s ≡ record r { defaults = f ∷ r.defaults } → Takes r q f.holds true
      → l ≡ to.One (p + 1) (with_frame f false q)
      → Tells tables forms (Ok l) (flow tables [] (instr.Hold n) p) s
  hold_so s r q n f l e inside is takes led = λ d h.
      hold_on d s n e inside ∙ ap (held_on d) is
      ∙ as_so d h.apart (record r { defaults = f ∷ r.defaults }) (record q { defaults = f ∷ r.defaults }) f.holds
      (d.one f.holds) (keeps d f r.defaults) refl (takes_with r q f.holds true (f ∷ r.defaults) takes)
      ∙ ap (λ (fs : List FrameShape). Some ((
        p + 1,
        record (shape_of d q) {
          defaults = record (frame_of d f) { checked = false } ∷ map (frame_of d) fs;
        },
      ) ∷ [])) (ap (λ (x : Shape). x.defaults) takes)
      ∙ ap (λ (x : Leads). Some (leads_of d x)) (sym led)

  -- ---- check

  abbrev checked_on : Senses → Shape → Flow
  checked_on d s = top (map (frame_of d) s.defaults)
      (λ f fs. leads (p + 1) (record (shape_of d s) { defaults = record f { checked = true } ∷ fs }))

  pub check_nowhere : (s : Shape) (n : ℕ) → nat_lt n (length tables.targets) ≡ false
      → Tells tables forms (Err stuck.Bad) (flow tables [] (instr.Check n) p) s
  check_nowhere s n e = λ d h.
      where_not (nat_lt n (length tables.targets) && frames_inside 1 (shape_of d s).loops (shape_of d s).defaults)
      (checked_on d s)
      (and_left (nat_lt n (length tables.targets)) (frames_inside 1 (shape_of d s).loops (shape_of d s).defaults) e)

  pub check_outside : (s : Shape) (n : ℕ) → nat_lt n (length tables.targets) ≡ true
      → nat_lt (own_frames s) 1 ≡ true → Tells tables forms (Err stuck.Bad) (flow tables [] (instr.Check n) p) s
  check_outside s n e out = λ d h.
      where_not (nat_lt n (length tables.targets) && frames_inside 1 (shape_of d s).loops (shape_of d s).defaults)
      (checked_on d s)
      (and_is (nat_lt n (length tables.targets)) (frames_inside 1 (shape_of d s).loops (shape_of d s).defaults) false
      e (inside_not d s 1 (omega arith) out))

  check_on : (d : Senses) (s : Shape) (n : ℕ) → nat_lt n (length tables.targets) ≡ true
      → nat_lt (own_frames s) 1 ≡ false → flow tables [] (instr.Check n) p (shape_of d s) ≡ checked_on d s
  check_on d s n e inside =
      where_is (nat_lt n (length tables.targets) && frames_inside 1 (shape_of d s).loops (shape_of d s).defaults)
      (checked_on d s)
      (and_is (nat_lt n (length tables.targets)) (frames_inside 1 (shape_of d s).loops (shape_of d s).defaults) true
      e (inside_so d s 1 (omega arith) inside))

  pub check_nothing : (s : Shape) (n : ℕ) → nat_lt n (length tables.targets) ≡ true
      → nat_lt (own_frames s) 1 ≡ false → s.defaults ≡ []
      → Tells tables forms (Err stuck.Bad) (flow tables [] (instr.Check n) p) s
  check_nothing s n e inside none = λ d h.
      check_on d s n e inside
      ∙ ap (λ (fs : List FrameShape). top (map (frame_of d) fs)
      (λ f fs. leads (p + 1) (record (shape_of d s) { defaults = record f { checked = true } ∷ fs }))) none

  pub check_so : (s r : Shape) (n : ℕ) (f : FrameShape) (l : Leads) → nat_lt n (length tables.targets) ≡ true
      → nat_lt (own_frames s) 1 ≡ false → s ≡ record r { defaults = f ∷ r.defaults }
      → l ≡ to.One (p + 1) (with_frame f true r)
      → Tells tables forms (Ok l) (flow tables [] (instr.Check n) p) s
  check_so s r n f l e inside is led = λ d h.
      check_on d s n e inside ∙ ap (checked_on d) is ∙ ap (λ (x : Leads). Some (leads_of d x)) (sym led)

  -- ---- merge

  abbrev merged_on : Senses → Shape → Flow
  merged_on d s = top (map (frame_of d) s.defaults) (λ f fs. top fs
      (λ g gs. where_so (f.checked && same_form f.holds g.holds)
      (leads (p + 1) (record (shape_of d s) { defaults = record g { checked = false } ∷ gs }))))

  pub merge_outside : (s : Shape) → nat_lt (own_frames s) 2 ≡ true
      → Tells tables forms (Err stuck.Bad) (flow tables [] instr.Merge p) s
  merge_outside s out = λ d h.
      where_not (frames_inside 2 (shape_of d s).loops (shape_of d s).defaults) (merged_on d s)
      (inside_not d s 2 (omega arith) out)

  merge_on : (d : Senses) (s : Shape) → nat_lt (own_frames s) 2 ≡ false
      → flow tables [] instr.Merge p (shape_of d s) ≡ merged_on d s
  merge_on d s inside =
      where_is (frames_inside 2 (shape_of d s).loops (shape_of d s).defaults) (merged_on d s)
      (inside_so d s 2 (omega arith) inside)

  pub merge_nothing : (s : Shape) → nat_lt (own_frames s) 2 ≡ false → s.defaults ≡ []
      → Tells tables forms (Err stuck.Bad) (flow tables [] instr.Merge p) s
  merge_nothing s inside none = λ d h.
      merge_on d s inside
      ∙ ap (λ (fs : List FrameShape). top (map (frame_of d) fs) (λ f fs. top fs
      (λ g gs. where_so (f.checked && same_form f.holds g.holds)
      (leads (p + 1) (record (shape_of d s) { defaults = record g { checked = false } ∷ gs }))))) none

  pub merge_one : (s r : Shape) (f : FrameShape) → nat_lt (own_frames s) 2 ≡ false
      → s ≡ record r { defaults = f ∷ r.defaults } → r.defaults ≡ []
      → Tells tables forms (Err stuck.Bad) (flow tables [] instr.Merge p) s
  merge_one s r f inside is none = λ d h.
      merge_on d s inside ∙ ap (merged_on d) is
      ∙ ap (λ (fs : List FrameShape). top (map (frame_of d) fs)
      (λ g gs. where_so (f.checked && same_form (d.one f.holds) g.holds)
      (leads (p + 1) (record (shape_of d r) { defaults = record g { checked = false } ∷ gs })))) none

  merged : (d : Senses) (s r q : Shape) (f g : FrameShape) → nat_lt (own_frames s) 2 ≡ false
      → s ≡ record r { defaults = f ∷ r.defaults } → r ≡ record q { defaults = g ∷ q.defaults }
      → flow tables [] instr.Merge p (shape_of d s)
      ≡ where_so (f.checked && same_form (d.one f.holds) (d.one g.holds))
      (leads (p + 1) (shape_of d (with_frame g false q)))
  merged d s r q f g inside is then_is =
      merge_on d s inside ∙ ap (merged_on d) (is ∙ ap (λ (x : Shape). record x { defaults = f ∷ x.defaults }) then_is)

  pub merge_unchecked : (s r q : Shape) (f g : FrameShape) → nat_lt (own_frames s) 2 ≡ false
      → s ≡ record r { defaults = f ∷ r.defaults } → r ≡ record q { defaults = g ∷ q.defaults } → f.checked ≡ false
      → Tells tables forms (Err stuck.Bad) (flow tables [] instr.Merge p) s
  merge_unchecked s r q f g inside is then_is e = λ d h.
      merged d s r q f g inside is then_is
      ∙ where_not (f.checked && same_form (d.one f.holds) (d.one g.holds))
      (leads (p + 1) (shape_of d (with_frame g false q)))
      (and_left f.checked (same_form (d.one f.holds) (d.one g.holds)) e)

  pub merge_unlike : (s r q : Shape) (f g : FrameShape) → nat_lt (own_frames s) 2 ≡ false
      → s ≡ record r { defaults = f ∷ r.defaults } → r ≡ record q { defaults = g ∷ q.defaults } → f.checked ≡ true
      → nat_eq f.holds g.holds ≡ false → Tells tables forms (Err stuck.Bad) (flow tables [] instr.Merge p) s
  merge_unlike s r q f g inside is then_is e other = λ d h.
      merged d s r q f g inside is then_is
      ∙ where_not (f.checked && same_form (d.one f.holds) (d.one g.holds))
      (leads (p + 1) (shape_of d (with_frame g false q)))
      (and_is f.checked (same_form (d.one f.holds) (d.one g.holds)) false e (h.apart f.holds g.holds ∙ other))

  pub merge_so : (s r q : Shape) (f g : FrameShape) (l : Leads) → nat_lt (own_frames s) 2 ≡ false
      → s ≡ record r { defaults = f ∷ r.defaults } → r ≡ record q { defaults = g ∷ q.defaults } → f.checked ≡ true
      → nat_eq f.holds g.holds ≡ true → l ≡ to.One (p + 1) (with_frame g false q)
      → Tells tables forms (Ok l) (flow tables [] instr.Merge p) s
  merge_so s r q f g l inside is then_is e same led = λ d h.
      merged d s r q f g inside is then_is
      ∙ where_is (f.checked && same_form (d.one f.holds) (d.one g.holds))
      (leads (p + 1) (shape_of d (with_frame g false q)))
      (and_is f.checked (same_form (d.one f.holds) (d.one g.holds)) true e (h.apart f.holds g.holds ∙ same))
      ∙ ap (λ (x : Leads). Some (leads_of d x)) (sym led)

  -- ---- held and take

  pub held_nothing : (s : Shape) (t : ℕ) → nat_eq (length s.defaults) 0 ≡ true
      → Tells tables forms (Err stuck.Bad) (flow tables [] (instr.Held t) p) s
  held_nothing s t e = λ d h. by_frames d s.defaults e
    where
      by_frames : (d : Senses) (fs : List FrameShape) → nat_eq (length fs) 0 ≡ true
          → top (map (frame_of d) fs) (λ f fs. leads_two (p + 1) (shape_of d s) t (shape_of d s)) ≡ None
      by_frames d [] e = refl
      by_frames d (f ∷ fs) e = absurd (omega (arith, eqb-true (length (f ∷ fs)) 0 e))

  pub held_so : (s : Shape) (t : ℕ) (l : Leads) → nat_eq (length s.defaults) 0 ≡ false → l ≡ to.Two (p + 1) s t s
      → Tells tables forms (Ok l) (flow tables [] (instr.Held t) p) s
  held_so s t l e led = λ d h. by_frames d s.defaults e ∙ ap (λ (x : Leads). Some (leads_of d x)) (sym led)
    where
      by_frames : (d : Senses) (fs : List FrameShape) → nat_eq (length fs) 0 ≡ false
          → top (map (frame_of d) fs) (λ f fs. leads_two (p + 1) (shape_of d s) t (shape_of d s))
          ≡ leads_two (p + 1) (shape_of d s) t (shape_of d s)
      by_frames d [] e = absurd (true≢false e)
      by_frames d (f ∷ fs) e = refl

  abbrev taken_on : ℕ → Senses → Shape → Flow
  taken_on t d s = top (map (frame_of d) s.defaults) (λ f fs. where_so f.checked
      (leads_two (p + 1) (pushed f.holds (record (shape_of d s) { defaults = fs })) t
      (record (shape_of d s) { defaults = fs })))

  pub take_outside : (s : Shape) (t : ℕ) → nat_lt (own_frames s) 1 ≡ true
      → Tells tables forms (Err stuck.Bad) (flow tables [] (instr.Take t) p) s
  take_outside s t out = λ d h.
      where_not (frames_inside 1 (shape_of d s).loops (shape_of d s).defaults) (taken_on t d s)
      (inside_not d s 1 (omega arith) out)

  take_on : (d : Senses) (s : Shape) (t : ℕ) → nat_lt (own_frames s) 1 ≡ false
      → flow tables [] (instr.Take t) p (shape_of d s) ≡ taken_on t d s
  take_on d s t inside =
      where_is (frames_inside 1 (shape_of d s).loops (shape_of d s).defaults) (taken_on t d s)
      (inside_so d s 1 (omega arith) inside)

  pub take_nothing : (s : Shape) (t : ℕ) → nat_lt (own_frames s) 1 ≡ false → s.defaults ≡ []
      → Tells tables forms (Err stuck.Bad) (flow tables [] (instr.Take t) p) s
  take_nothing s t inside none = λ d h.
      take_on d s t inside
      ∙ ap (λ (fs : List FrameShape). top (map (frame_of d) fs) (λ f fs. where_so f.checked
      (leads_two (p + 1) (pushed f.holds (record (shape_of d s) { defaults = fs })) t
      (record (shape_of d s) { defaults = fs })))) none

  pub take_unchecked : (s r : Shape) (t : ℕ) (f : FrameShape) → nat_lt (own_frames s) 1 ≡ false
      → s ≡ record r { defaults = f ∷ r.defaults } → f.checked ≡ false
      → Tells tables forms (Err stuck.Bad) (flow tables [] (instr.Take t) p) s
  take_unchecked s r t f inside is e = λ d h.
      take_on d s t inside ∙ ap (taken_on t d) is
      ∙ where_not f.checked (leads_two (p + 1) (pushed (d.one f.holds) (shape_of d r)) t (shape_of d r)) e

  pub take_so : (s r c : Shape) (t : ℕ) (f : FrameShape) (operands : List ℕ) → nat_lt (own_frames s) 1 ≡ false
      → s ≡ record r { defaults = f ∷ r.defaults } → f.checked ≡ true → c ≡ r → operands ≡ f.holds ∷ r.operands
      → Tells tables forms (Ok (to.Two (p + 1) (record r { operands = operands }) t c))
      (flow tables [] (instr.Take t) p) s
  take_so s r c t f operands inside is e copy pushed_is = λ d h.
      take_on d s t inside ∙ ap (taken_on t d) is
      ∙ where_is f.checked (leads_two (p + 1) (pushed (d.one f.holds) (shape_of d r)) t (shape_of d r)) e
      ∙ ap (λ (ops : List ℕ). Some ((p + 1, shape_of d (record r { operands = ops })) ∷ (t, shape_of d r) ∷ []))
      (sym pushed_is)
      ∙ ap (λ (x : Shape). Some ((p + 1, shape_of d (record r { operands = operands })) ∷ (t, shape_of d x) ∷ []))
      (sym copy)

  pub no_value_nowhere : (s : Shape) (v : ℕ) → nat_lt v (length tables.targets) ≡ false
      → Tells tables forms (Err stuck.Bad) (flow tables [] (instr.NoValue v) p) s
  no_value_nowhere s v e = λ d h. where_not (nat_lt v (length tables.targets)) (Some []) e

  pub no_value_so : (s : Shape) (v : ℕ) → nat_lt v (length tables.targets) ≡ true
      → Tells tables forms (Ok to.Nowhere) (flow tables [] (instr.NoValue v) p) s
  no_value_so s v e = λ d h. where_is (nat_lt v (length tables.targets)) (Some []) e
