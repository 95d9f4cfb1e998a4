-- What a shape that comes to a place leaves of shapes so far.
use Rattle.std.proofs.Common.{◌≡◌, ◌⊎◌, inl, inr, ℕ, zero, suc, ◌+◌, List, [], length, Option}
use Rattle.std.proofs.Common.{Some, None}
use Rattle.std.proofs.Common.{slice_get, slice_set, ◌++◌, refl, sym, ap, ◌∙◌, subst, arith}
use Rattle.std.specs.Prelude.{replicate}
use Rattle.std.proofs.lemmas.List.{append_assoc, append-nil}
use Rattle.std.proofs.lemmas.Option.{slice_get_within}
use Rattle.cat_value.specs.declared.decls.Decls.{Decls}
use Rattle.cat_code.specs.declared.instr.Instr.{Instr}
use Rattle.cat_code.specs.declared.code.Tables.{Tables}
use Rattle.cat_code.specs.Shapes as meant
use Rattle.cat_code.specs.Shapes.{Meets}
use Rattle.cat_code.specs.Shaped.{Shapes, IsMet, IsFine, scope_entry}
use Rattle.cat_verify_shapes.specs.Belonging.{Belongs, MayRun}
use Rattle.cat_verify_shapes.specs.Unshaped.{AreOwnShapes}
use Rattle.cat_verify_shapes.specs.declared.forms.Forms.{Forms}
use Rattle.cat_verify_shapes.specs.declared.shape.Shape.{Shape}
use Rattle.cat_verify_shapes.specs.declared.found.Spot.{Spot}
use Rattle.cat_verify_shapes.specs.declared.found.Spot.TheVariants as spot
use Rattle.cat_verify_shapes.specs.inside.FormKinds.{Kind, AreKinds}
use Rattle.cat_verify_shapes.specs.inside.Senses.{Senses, AreSenses, Grows}
use Rattle.cat_verify_shapes.specs.inside.Told.{shape_of}
use Rattle.cat_verify_shapes.specs.inside.Lower.{Lower}
use Rattle.cat_verify_shapes.specs.inside.Looking.{Agrees, IsLooked, AreSoFar}
use Rattle.cat_verify_shapes.specs.inside.States.{AreMet}
use Rattle.cat_verify_shapes.proofs.ListLemmas.{none_some, some_is, set_here, set_there, set_long, set_is}
use Rattle.cat_verify_shapes.proofs.ListLemmas.{get_as_long, get_replicate, replicate_long}
use Rattle.cat_verify_shapes.proofs.MeetingLemmas.{meets_same, meets_then}
use Rattle.cat_verify_shapes.proofs.FineLemmas.{fine_lower, entries_from, fine_all}

pub same_or_not : (p q : ℕ) → (p ≡ q) ⊎ (p ≡ q → ⊥)
same_or_not zero zero = inl refl
same_or_not zero (suc q) = inr (λ e. absurd (omega (arith, e)))
same_or_not (suc p) zero = inr (λ e. absurd (omega (arith, e)))
same_or_not (suc p) (suc q) = next (same_or_not p q)
  where
    next : (p ≡ q) ⊎ (p ≡ q → ⊥) → (suc p ≡ suc q) ⊎ (suc p ≡ suc q → ⊥)
    next (inl e) = inl (ap suc e)
    next (inr h) = inr (λ e. h (omega (arith, e)))

-- another shape at one place, and what is kept there
module _ (tables : Tables) (code : List Instr) (d : Senses) (found : List Spot) (but : ℕ) (shapes : Shapes)
    (so_far : AreSoFar tables code d found but shapes) (place : ℕ) (at after : Spot) (o n : Option meant.Shape)
    (at_is : slice_get found place ≡ Some at) (o_is : slice_get shapes place ≡ Some o)
    (lower : (s : meant.Shape) → o ≡ Some s → (t : meant.Shape) × (n ≡ Some t) × Meets s t)
    (agrees : Agrees d after n) (looked : IsLooked after → IsLooked at × (n ≡ o))
    (owned : (s : meant.Shape) → n ≡ Some s → Belongs tables code s.owner place) where
  pub set_lower : Lower shapes (slice_set shapes place n)
  set_lower p s is = by_place (same_or_not p place)
    where
      by_place : (p ≡ place) ⊎ (p ≡ place → ⊥)
          → (t : meant.Shape) × (slice_get (slice_set shapes place n) p ≡ Some (Some t)) × Meets s t
      by_place (inr other) = (s, set_there shapes place p n other ∙ is, meets_same s)
      by_place (inl e) =
          let l = lower s (some_is o (Some s) (sym o_is ∙ ap (slice_get shapes) (sym e) ∙ is)) in
          (l.0, ap (slice_get (slice_set shapes place n)) e ∙ set_here shapes place n o o_is ∙ ap Some l.1, l.2)

  pub set_so_far : AreSoFar tables code d (slice_set found place after) but (slice_set shapes place n)
  set_so_far = record {
    long = set_long shapes place n ∙ so_far.long ∙ sym (set_long found place after);
    agrees = agree;
    fine = fine;
    owned = own;
  }
    where
      at_place : (p : ℕ) → p ≡ place → (b : Spot) → slice_get (slice_set found place after) p ≡ Some b → after ≡ b
      at_place p e b is =
          some_is after b
          (sym (set_here found place after at at_is) ∙ ap (slice_get (slice_set found place after)) (sym e) ∙ is)

      shape_place : (p : ℕ) → p ≡ place → (m : Option meant.Shape) → slice_get (slice_set shapes place n) p ≡ Some m
          → n ≡ m
      shape_place p e m is =
          some_is n m (sym (set_here shapes place n o o_is) ∙ ap (slice_get (slice_set shapes place n)) (sym e) ∙ is)

      agree : (p : ℕ) (b : Spot) (m : Option meant.Shape) → slice_get (slice_set found place after) p ≡ Some b
          → slice_get (slice_set shapes place n) p ≡ Some m → Agrees d b m
      agree p b m is of = by_place (same_or_not p place)
        where
          by_place : (p ≡ place) ⊎ (p ≡ place → ⊥) → Agrees d b m
          by_place (inr other) =
              so_far.agrees p b m (sym (set_there found place p after other) ∙ is)
              (sym (set_there shapes place p n other) ∙ of)
          by_place (inl e) =
              subst (λ (x : Spot). Agrees d x m) (at_place p e b is)
              (subst (λ (x : Option meant.Shape). Agrees d after x) (shape_place p e m of) agrees)

      fine : (p : ℕ) (b : Spot) (i : Instr) (s : meant.Shape) → (p ≡ but → ⊥)
          → slice_get (slice_set found place after) p ≡ Some b → IsLooked b → slice_get code p ≡ Some i
          → slice_get (slice_set shapes place n) p ≡ Some (Some s) → IsFine tables code (slice_set shapes place n) i p s
      fine p b i s apart is look code_is of =
          fine_lower tables code shapes (slice_set shapes place n) set_lower i p s (by_place (same_or_not p place))
        where
          by_place : (p ≡ place) ⊎ (p ≡ place → ⊥) → IsFine tables code shapes i p s
          by_place (inr other) =
              so_far.fine p b i s apart (sym (set_there found place p after other) ∙ is) look code_is
              (sym (set_there shapes place p n other) ∙ of)
          by_place (inl e) =
              let was = looked (subst IsLooked (sym (at_place p e b is)) look) in
              so_far.fine p at i s apart (ap (slice_get found) e ∙ at_is) was.0 code_is
              (ap (slice_get shapes) e ∙ o_is ∙ ap Some (sym was.1 ∙ shape_place p e (Some s) of))

      own : (p : ℕ) (s : meant.Shape) → slice_get (slice_set shapes place n) p ≡ Some (Some s)
          → Belongs tables code s.owner p
      own p s of = by_place (same_or_not p place)
        where
          by_place : (p ≡ place) ⊎ (p ≡ place → ⊥) → Belongs tables code s.owner p
          by_place (inr other) = so_far.owned p s (sym (set_there shapes place p n other) ∙ of)
          by_place (inl e) =
              subst (Belongs tables code s.owner) (sym e) (owned s (shape_place p e (Some s) of))

-- what was looked at stays as it is
abbrev pub Still : List Spot → List Spot → Shapes → Shapes → Type 0
Still found after before shapes = (p : ℕ) (b : Spot) → slice_get found p ≡ Some b → IsLooked b
    → (slice_get shapes p ≡ slice_get before p) × (slice_get after p ≡ slice_get found p)

pub set_still : (found : List Spot) (before : Shapes) (place : ℕ) (at after : Spot) (n : Option meant.Shape)
    → slice_get found place ≡ Some at → (IsLooked at → ⊥)
    → Still found (slice_set found place after) before (slice_set before place n)
set_still found before place at after n at_is unlooked p b is look = by_place (same_or_not p place)
  where
    by_place : (p ≡ place) ⊎ (p ≡ place → ⊥)
        → (slice_get (slice_set before place n) p ≡ slice_get before p)
        × (slice_get (slice_set found place after) p ≡ slice_get found p)
    by_place (inr other) = (set_there before place p n other, set_there found place p after other)
    by_place (inl e) =
        absurd (unlooked (subst IsLooked (some_is b at (sym is ∙ ap (slice_get found) e ∙ at_is)) look))

pub lower_then : (a b c : Shapes) → Lower a b → Lower b c → Lower a c
lower_then a b c h k p s e =
    let first = h p s e in
    let second = k p first.0 first.1 in
    (second.0, second.1, meets_then s first.0 second.0 first.2 second.2)

pub still_then : (f g h : List Spot) (a b c : Shapes) → Still f g a b → Still g h b c → Still f h a c
still_then f g h a b c first second p x is look =
    let one = first p x is look in
    let two = second p x (one.1 ∙ is) look in
    (two.0 ∙ one.0, two.1 ∙ one.1)

-- what is known when a place is taken up
pub opened_keeps : (tables : Tables) (code : List Instr) (d : Senses) (found : List Spot) (shapes : Shapes)
    → AreSoFar tables code d found (length code) shapes → (place : ℕ) (s : Shape) (then_at : Spot)
    → slice_get found place ≡ Some (spot.Open s) → (then_at ≡ spot.Done) ⊎ (then_at ≡ spot.Turn s)
    → AreSoFar tables code d (slice_set found place then_at) place shapes
opened_keeps tables code d found shapes so_far place s then_at is kept = record {
  long = so_far.long ∙ sym (set_long found place then_at);
  agrees = agree;
  fine = fine;
  owned = so_far.owned;
}
  where
    here : (o : Option meant.Shape) → o ≡ Some (shape_of d s) → (then_at ≡ spot.Done) ⊎ (then_at ≡ spot.Turn s)
        → Agrees d then_at o
    here o e (inl done) = subst (λ (x : Spot). Agrees d x o) (sym done) tt
    here o e (inr turn) = subst (λ (x : Spot). Agrees d x o) (sym turn) e

    agree : (p : ℕ) (b : Spot) (o : Option meant.Shape) → slice_get (slice_set found place then_at) p ≡ Some b
        → slice_get shapes p ≡ Some o → Agrees d b o
    agree p b o at of = by_place (same_or_not p place)
      where
        by_place : (p ≡ place) ⊎ (p ≡ place → ⊥) → Agrees d b o
        by_place (inr other) = so_far.agrees p b o (sym (set_there found place p then_at other) ∙ at) of
        by_place (inl e) =
            subst (λ (x : Spot). Agrees d x o)
            (some_is then_at b (sym (set_here found place then_at (spot.Open s) is)
            ∙ ap (slice_get (slice_set found place then_at)) (sym e) ∙ at))
            (here o (so_far.agrees place (spot.Open s) o is (ap (slice_get shapes) (sym e) ∙ of)) kept)

    past : (p : ℕ) (i : Instr) → p ≡ length code → slice_get code p ≡ Some i → ⊥
    past p i e code_is = absurd (omega (arith, e, slice_get_within code p i code_is))

    fine : (p : ℕ) (b : Spot) (i : Instr) (t : meant.Shape) → (p ≡ place → ⊥)
        → slice_get (slice_set found place then_at) p ≡ Some b → IsLooked b → slice_get code p ≡ Some i
        → slice_get shapes p ≡ Some (Some t) → IsFine tables code shapes i p t
    fine p b i t apart at look code_is of =
        so_far.fine p b i t (λ e. absurd (past p i e code_is)) (sym (set_there found place p then_at apart) ∙ at) look
        code_is of

pub senses_before : (ds : Decls) (before forms : Forms) (d : Senses) → Grows before forms → AreSenses ds forms d
    → AreSenses ds before d
senses_before ds before forms d grows senses = record {
  apart = senses.apart;
  means = λ n f e. senses.means n f (grows.kinds n f e);
  structures = λ s n e. senses.structures s n (ap (λ (xs : List (Option ℕ)). slice_get xs s) grows.structures ∙ e);
  outputs = λ s n e. senses.outputs s n (ap (λ (xs : List ℕ). slice_get xs s) grows.outputs ∙ e);
}

pub grows_then : (a b c : Forms) → Grows a b → Grows b c → Grows a c
grows_then a b c h k = record {
  kinds = λ n f e. k.kinds n f (h.kinds n f e);
  table = both_tables;
  structures = k.structures ∙ h.structures;
  outputs = k.outputs ∙ h.outputs;
}
  where
    both_tables : (ks : List Kind) → AreKinds a.kinds.keys ks → (more : List Kind) × AreKinds c.kinds.keys (ks ++ more)
    both_tables ks are =
        let first = h.table ks are in
        let second = k.table (ks ++ first.0) first.1 in (
          first.0 ++ second.0,
          subst (AreKinds c.kinds.keys) (append_assoc ks first.0 second.0) second.1,
        )

pub grows_same : (forms : Forms) → Grows forms forms
grows_same forms = record {
  kinds = λ n f e. e;
  table = λ ks are. ([], subst (AreKinds forms.kinds.keys) (sym (append-nil ks)) are);
  structures = refl;
  outputs = refl;
}

-- a place to which nothing leads is passed
pub passed_keeps : (tables : Tables) (code : List Instr) (d : Senses) (found : List Spot) (but : ℕ) (shapes : Shapes)
    → AreSoFar tables code d found but shapes → (place : ℕ) → slice_get found place ≡ Some spot.Unmet
    → slice_get shapes place ≡ Some None → AreSoFar tables code d (slice_set found place spot.Done) but shapes
passed_keeps tables code d found but shapes so_far place is none = record {
  long = so_far.long ∙ sym (set_long found place spot.Done);
  agrees = agree;
  fine = fine;
  owned = so_far.owned;
}
  where
    agree : (p : ℕ) (b : Spot) (o : Option meant.Shape) → slice_get (slice_set found place spot.Done) p ≡ Some b
        → slice_get shapes p ≡ Some o → Agrees d b o
    agree p b o at of = by_place (same_or_not p place)
      where
        by_place : (p ≡ place) ⊎ (p ≡ place → ⊥) → Agrees d b o
        by_place (inr other) = so_far.agrees p b o (sym (set_there found place p spot.Done other) ∙ at) of
        by_place (inl e) =
            subst (λ (x : Spot). Agrees d x o)
            (set_is found place spot.Done b (ap (slice_get (slice_set found place spot.Done)) (sym e) ∙ at)) tt

    fine : (p : ℕ) (b : Spot) (i : Instr) (s : meant.Shape) → (p ≡ but → ⊥)
        → slice_get (slice_set found place spot.Done) p ≡ Some b → IsLooked b → slice_get code p ≡ Some i
        → slice_get shapes p ≡ Some (Some s) → IsFine tables code shapes i p s
    fine p b i s apart at look code_is of = by_place (same_or_not p place)
      where
        by_place : (p ≡ place) ⊎ (p ≡ place → ⊥) → IsFine tables code shapes i p s
        by_place (inr other) =
            so_far.fine p b i s apart (sym (set_there found place p spot.Done other) ∙ at) look code_is of
        by_place (inl e) =
            absurd (none_some s (some_is None (Some s) (sym none ∙ ap (slice_get shapes) (sym e) ∙ of)))

-- ---- the beginning and the end

pub unmet_so_far : (tables : Tables) (code : List Instr) (d : Senses)
    → AreSoFar tables code d (replicate (length code) spot.Unmet) (length code) (replicate (length code) None)
unmet_so_far tables code d = record {
  long = replicate_long (length code) None ∙ sym (replicate_long (length code) spot.Unmet);
  agrees = λ p at o is of.
      subst (λ (x : Spot). Agrees d x o) (sym (get_replicate (length code) p spot.Unmet at is))
      (get_replicate (length code) p None o of);
  fine = λ p at i s apart is look code_is of.
      absurd (none_some s (sym (get_replicate (length code) p None (Some s) of)));
  owned = λ p s of. absurd (none_some s (sym (get_replicate (length code) p None (Some s) of)));
}

pub own_shapes : (tables : Tables) (code : List Instr) (d : Senses) (found : List Spot) (shapes : Shapes)
    → length found ≡ length code → length tables.scopes ≡ length tables.decls.scopes
    → AreSoFar tables code d found (length code) shapes → AreMet tables (length tables.decls.scopes) shapes
    → ((p : ℕ) (s : Shape) → slice_get found p ≡ Some (spot.Open s) → ⊥)
    → ((p : ℕ) (s : meant.Shape) → slice_get shapes p ≡ Some (Some s) → MayRun tables code s.owner)
    → AreOwnShapes tables code shapes
own_shapes tables code d found shapes long entries so_far met none run = record {
  shaped = record {
    entries =
        entries_from shapes zero tables.decls.scopes tables.scopes entries
        (λ n scope e is at. subst (λ (m : ℕ). IsMet shapes e (scope_entry m scope.items)) (plain n)
        (met n scope e (slice_get_within tables.decls.scopes n scope is) is at));
    fine = fine_all tables code shapes (so_far.long ∙ long) fine;
  };
  owned = λ p s of. record { may_run = run p s of; belongs = so_far.owned p s of };
}
  where
    plain : (n : ℕ) → n ≡ zero + n
    plain n = omega arith

    fine : (n : ℕ) (i : Instr) (s : meant.Shape) → slice_get code n ≡ Some i → slice_get shapes n ≡ Some (Some s)
        → IsFine tables code shapes i n s
    fine n i s code_is of =
        by_spot at.0 at.1 (so_far.agrees n at.0 (Some s) at.1 of)
      where
        at : (b : Spot) × (slice_get found n ≡ Some b)
        at = get_as_long shapes found n (Some s) so_far.long of

        apart : n ≡ length code → ⊥
        apart e = absurd (omega (arith, e, slice_get_within code n i code_is))

        by_spot : (b : Spot) → slice_get found n ≡ Some b → Agrees d b (Some s) → IsFine tables code shapes i n s
        by_spot spot.Unmet is agrees = absurd (none_some s (sym agrees))
        by_spot (spot.Open u) is agrees = absurd (none n u is)
        by_spot (spot.Turn u) is agrees = so_far.fine n (spot.Turn u) i s apart is tt code_is of
        by_spot spot.Done is agrees = so_far.fine n spot.Done i s apart is tt code_is of
