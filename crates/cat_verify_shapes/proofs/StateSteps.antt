-- What is known from the beginning, by scopes that are entered and places that are looked at, to the end.
use Rattle.std.proofs.Common.{◌≡◌, ◌⊎◌, ◌<◌, inl, inr, ℕ, suc, ◌+◌, List, [], ◌∷◌}
use Rattle.std.proofs.Common.{length, replicate}
use Rattle.std.proofs.Common.{Some, None, slice_get, refl, sym, ap, ◌∙◌, subst, arith}
use Rattle.std.specs.Prelude.{Result, Ok, Err, IfOk, IfErr}
use Rattle.std.proofs.lemmas.Option.{slice_get_within}
use Rattle.cat_value.specs.declared.declaration.Scope.{Scope}
use Rattle.cat_code.specs.declared.instr.Instr.{Instr}
use Rattle.cat_code.specs.declared.code.Tables.{Tables}
use Rattle.cat_code.specs.Shapes as meant
use Rattle.cat_code.specs.Shaped.{Shapes, IsMet, AreFine, IsShapedBy, IsShaped, scope_entry}
use Rattle.cat_verify_shapes.specs.Belonging.{Belongs, MayRun, begins, scope}
use Rattle.cat_verify_shapes.specs.Owned.{AreOwners}
use Rattle.cat_verify_shapes.specs.Unshaped.{HasOwnShapes, IsUnshaped, HasCause}
use Rattle.cat_verify_shapes.specs.declared.owner.OwnerPlaces.{OwnerPlaces}
use Rattle.cat_verify_shapes.specs.declared.refusal.ShapeRefusal.{ShapeRefusal}
use Rattle.cat_verify_shapes.specs.declared.forms.Forms.{Forms}
use Rattle.cat_verify_shapes.specs.declared.shape.Shape.{Shape}
use Rattle.cat_verify_shapes.specs.declared.found.Spot.{Spot}
use Rattle.cat_verify_shapes.specs.declared.found.Spot.TheVariants as spot
use Rattle.cat_verify_shapes.specs.inside.Senses.{Senses, AreSenses, IsTable}
use Rattle.cat_verify_shapes.specs.inside.Told.{shape_of}
use Rattle.cat_verify_shapes.specs.inside.Lower.{Lower}
use Rattle.cat_verify_shapes.specs.inside.Looking.{IsLooked, Arrives, IsShut}
use Rattle.cat_verify_shapes.specs.inside.Looking.{passed}
use Rattle.cat_verify_shapes.specs.inside.States.{LookedAt, kept_at, IsKnown, AreMet, IsState}
use Rattle.cat_verify_shapes.specs.inside.States.{all_places, LooksAtAll}
use Rattle.cat_verify_shapes.proofs.ListLemmas.{none_some, some_is, get_as_long}
use Rattle.cat_verify_shapes.proofs.ListLemmas.{get_replicate, replicate_long}
use Rattle.cat_verify_shapes.proofs.FineLemmas.{met_lower, entry_there}
use Rattle.cat_verify_shapes.proofs.TurnLemmas.{IsComing}
use Rattle.cat_verify_shapes.proofs.TableLemmas.{senses_of, senses_exist}
use Rattle.cat_verify_shapes.proofs.OrderLemmas.{is_place}
use Rattle.cat_verify_shapes.proofs.PassLemmas.{same_or_not, unmet_so_far}
use Rattle.cat_verify_shapes.proofs.PassLemmas.{own_shapes}
use Rattle.cat_verify_shapes.proofs.StateLemmas.{unlike_refutes}
use Rattle.cat_verify_shapes.proofs.ArrivalLemmas.{arrives}

-- ---- shapes that fit the code

fits_long : (tables : Tables) (code is : List Instr) (fit ss : Shapes) (p : ℕ) → AreFine tables code fit p is ss
    → length ss ≡ length is
fits_long tables code [] fit [] p fine = refl
fits_long tables code [] fit (s ∷ ss) p fine = absurd fine
fits_long tables code (i ∷ is) fit [] p fine = absurd fine
fits_long tables code (i ∷ is) fit (s ∷ ss) p fine = ap suc (fits_long tables code is fit ss (p + 1) fine.1)

module _ (tables : Tables) (code : List Instr) where
  -- a place that fitting shapes have is a spot
  pub spot_at : (d : Senses) (found : List Spot) (but : ℕ) (left : List ℕ) (shapes : Shapes)
      → IsKnown tables code d found but left shapes → (fit : Shapes) → IsShapedBy tables code fit → (q : ℕ)
      → (s : meant.Shape) → IsMet fit q s → (at : Spot) × (slice_get found q ≡ Some at)
  spot_at d found but left shapes known fit shaped q s met =
      get_as_long fit found q (Some met.shape)
      (fits_long tables code code fit fit 0 shaped.fine ∙ sym known.long) met.is

  -- there are as many spots as instructions
  pub state_long : (forms : Forms) (found : List Spot) (n : ℕ) (left : List ℕ) → IsState tables code forms found n left
      → length found ≡ length code
  state_long forms found n left state = by_table state.table
    where
      by_table : IsTable tables.decls forms → length found ≡ length code
      by_table (ks, table) = (state.known (senses_of ks) (senses_exist tables.decls forms ks table)).1.long

  -- ---- the beginning

  first_known : (owners : List OwnerPlaces) → AreOwners tables code owners → (d : Senses)
      → IsKnown tables code d (replicate (length code) spot.Unmet) (length code) (all_places owners)
      (replicate (length code) None)
  first_known owners are d = record {
    long = replicate_long (length code) spot.Unmet;
    so_far = unmet_so_far tables code d;
    turns = λ p s e. absurd (none_some s (sym (get_replicate (length code) p None (Some s) e)));
    bound = λ fit shaped p at s is kept. absurd (none_some s
        (ap kept_at (sym (get_replicate (length code) p spot.Unmet at is)) ∙ kept));
    run = λ p s e. absurd (none_some s (sym (get_replicate (length code) p None (Some s) e)));
    passed = λ p t is next. absurd (unlooked p (spot.Done, is, tt));
    waiting = λ p s is. absurd (none_some s
        (ap kept_at (sym (get_replicate (length code) p spot.Unmet (spot.Open s) is))));
    fresh = λ p among look. unlooked p look;
    done = λ owner q of less out. absurd (out (is_place tables code owners are owner q less of));
  }
    where
      unlooked : (p : ℕ) → LookedAt (replicate (length code) spot.Unmet) p → ⊥
      unlooked p (at, is, look) =
          absurd (subst IsLooked (get_replicate (length code) p spot.Unmet at is) look)

  pub first_state : (forms : Forms) (found : List Spot) (owners : List OwnerPlaces) → IsTable tables.decls forms
      → found ≡ replicate (length code) spot.Unmet → AreOwners tables code owners
      → IsState tables code forms found 0 (all_places owners)
  first_state forms found owners table is are =
      subst (λ (xs : List Spot). IsState tables code forms xs 0 (all_places owners)) (sym is)
      record {
        table = table;
        known = λ d h. (
          replicate (length code) None,
          first_known owners are d,
          λ k one e below at of. absurd (omega (arith, below)),
        );
      }

  -- ---- scopes that are entered

  bare_comes : (shapes : Shapes) (Looked : ℕ → Type 0) (p q : ℕ) (s : meant.Shape) → s.loops ≡ []
      → IsComing shapes Looked p (q, s)
  bare_comes shapes Looked p q s bare [] l ls e = absurd (omega (arith, ap length (sym bare ∙ e)))
  bare_comes shapes Looked p q s bare (x ∷ inners) l ls e = absurd (omega (arith, ap length (sym bare ∙ e)))

  entry_bound : (n e : ℕ) (one : Scope) (s : meant.Shape) → slice_get tables.decls.scopes n ≡ Some one
      → slice_get tables.scopes n ≡ Some e → s ≡ scope_entry n one.items
      → (fit : Shapes) → IsShapedBy tables code fit → IsMet fit e s
  entry_bound n e one s is at shape_is fit shaped =
      let met = entry_there tables code fit shaped n e at in
      let same = some_is one met.0 (sym is ∙ met.1) in
      subst (IsMet fit e) (sym (shape_is ∙ ap (λ (x : Scope). scope_entry n x.items) same)) met.2

  pub entered_state : (forms : Forms) (found after : List Spot) (n e : ℕ) (left : List ℕ) (one : Scope) (s : Shape)
      → IsState tables code forms found n left → slice_get tables.decls.scopes n ≡ Some one
      → slice_get tables.scopes n ≡ Some e → ((d : Senses) → shape_of d s ≡ scope_entry n one.items)
      → Arrives found after e s → IsState tables code forms after (n + 1) left
  entered_state forms found after n e left one s state is at shape_is arrive =
      record { table = state.table; known = known }
    where
      known : (d : Senses) → AreSenses tables.decls forms d
          → (shapes : Shapes) × IsKnown tables code d after (length code) left shapes × AreMet tables (n + 1) shapes
      known d h =
          let was = state.known d h in
          let now = arrives tables code d found (length code) left was.0 was.1 0 e s
          (bare_comes was.0 (LookedAt found) 0 e (shape_of d s) (ap (λ (x : meant.Shape). x.loops) (shape_is d)))
          (entry_bound n e one (shape_of d s) is at (shape_is d))
          (subst (λ (o : meant.Owner). Belongs tables code o e) (sym (ap (λ (x : meant.Shape). x.owner) (shape_is d)))
          (begins at))
          (subst (MayRun tables code) (sym (ap (λ (x : meant.Shape). x.owner) (shape_is d))) (scope at))
          after arrive in
          (now.shapes, now.known, met_more d was.0 now.shapes was.2 now.lower now.met)
        where
          met_more : (d : Senses) (before more : Shapes) → AreMet tables n before → Lower before more
              → IsMet more e (shape_of d s) → AreMet tables (n + 1) more
          met_more d before more met lower here k other f below other_is f_is = by_number (same_or_not k n)
            where
              less : (k n : ℕ) → k < n + 1 → (k ≡ n → ⊥) → k < n
              less k n below apart = omega (arith, below, apart)

              by_number : (k ≡ n) ⊎ (k ≡ n → ⊥) → IsMet more f (scope_entry k other.items)
              by_number (inr apart) =
                  met_lower before more lower f (scope_entry k other.items)
                  (met k other f (less k n below apart) other_is f_is)
              by_number (inl same) =
                  subst (λ (m : ℕ). IsMet more f (scope_entry m other.items)) (sym same)
                  (subst (λ (x : Scope). IsMet more f (scope_entry n x.items))
                  (some_is one other (sym is ∙ ap (slice_get tables.decls.scopes) (sym same) ∙ other_is))
                  (subst (λ (q : ℕ). IsMet more q (scope_entry n one.items))
                  (some_is e f (sym at ∙ ap (slice_get tables.scopes) (sym same) ∙ f_is))
                  (subst (IsMet more e) (shape_is d) here)))

  -- ---- no shapes exist

  -- what refutes all shapes that fit, by what the numbers of the table stand for
  pub refuted : (forms : Forms) (found : List Spot) (n : ℕ) (left : List ℕ) → IsState tables code forms found n left
      → ((d : Senses) → AreSenses tables.decls forms d → (fit : Shapes) → IsShapedBy tables code fit → ⊥)
      → IsShaped tables code → ⊥
  refuted forms found n left state none (fit, shaped) = by_table state.table
    where
      by_table : IsTable tables.decls forms → ⊥
      by_table (ks, table) = none (senses_of ks) (senses_exist tables.decls forms ks table) fit shaped

  pub entered_refused : (forms : Forms) (found : List Spot) (n e : ℕ) (owners : List OwnerPlaces) (one : Scope)
      (s : Shape)
      → AreOwners tables code owners → IsState tables code forms found n (all_places owners)
      → slice_get tables.decls.scopes n ≡ Some one → slice_get tables.scopes n ≡ Some e
      → ((d : Senses) → shape_of d s ≡ scope_entry n one.items) → IsShut found e s → IsUnshaped tables code e
  entered_refused forms found n e owners one s are state is at shape_is shut = record {
    unshaped = refuted forms found n (all_places owners) state none;
    owner = record { scope = n; function = None };
    comes = record { may_run = scope at; belongs = begins at };
  }
    where
      none : (d : Senses) → AreSenses tables.decls forms d → (fit : Shapes) → IsShapedBy tables code fit → ⊥
      none d h fit shaped =
          let was = state.known d h in
          let met = entry_bound n e one (shape_of d s) is at (shape_is d) fit shaped in
          let spot = spot_at d found (length code) (all_places owners) was.0 was.1 fit shaped e (shape_of d s) met in
          unlike_refutes tables code d h.apart found (length code) (all_places owners) was.0 was.1 fit shaped 0 e
          spot.0 s
          spot.1
          (bare_comes was.0 (LookedAt found) 0 e (shape_of d s) (ap (λ (x : meant.Shape). x.loops) (shape_is d)))
          (λ look. absurd (was.1.fresh e (is_place tables code owners are (record { scope = n; function = None }) e
          (subst (λ (k : ℕ). e < k) was.1.long (slice_get_within found e spot.0 spot.1))
          (record { may_run = scope at; belongs = begins at })) look))
          met (shut spot.0 spot.1)

  -- ---- the end

  pub ends_shaped : (forms : Forms) (found : List Spot) → length tables.scopes ≡ length tables.decls.scopes
      → IsState tables code forms found (length tables.decls.scopes) [] → HasOwnShapes tables code
  ends_shaped forms found entries state = by_table state.table
    where
      by_table : IsTable tables.decls forms → HasOwnShapes tables code
      by_table (ks, table) =
          let was = state.known (senses_of ks) (senses_exist tables.decls forms ks table) in (
            was.0,
            own_shapes tables code (senses_of ks) found was.0 was.1.long entries was.1.so_far was.2 was.1.waiting
                was.1.run,
          )

  pub ends : (forms : Forms) (found : List Spot) (result : Result (Unit {0}) ShapeRefusal)
      → length tables.scopes ≡ length tables.decls.scopes
      → LooksAtAll tables code forms found (length tables.decls.scopes) [] result
      → IfOk result (λ done. HasOwnShapes tables code) × IfErr result (HasCause tables code)
  ends forms found (Ok done) entries state = (ends_shaped forms found entries state, tt)
  ends forms found (Err refusal) entries cause = (tt, cause)
