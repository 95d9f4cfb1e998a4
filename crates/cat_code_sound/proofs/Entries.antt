-- What is entered ends: no chain of calls is longer than the code, since no call of it stands there twice.
use Rattle.std.proofs.Common.{◌≡◌, ◌<◌, ℕ, zero, suc, ◌+◌, ◌||◌, Bool, true, false, List, [], ◌∷◌, length, Some}
use Rattle.std.proofs.Common.{slice_get, refl, sym, ap, ◌∙◌, subst, arith}
use Rattle.std.specs.Prelude.{eqb}
use Rattle.std.specs.List.{list_any, IsDistinct}
use Rattle.std.proofs.lemmas.Bool.Decides.{nat_tests}
use Rattle.std.proofs.lemmas.Map.Steps.{length-le_from_distinct_below}
use Rattle.cat_order.proofs.Exported.{apart_push}
use Rattle.cat_value.proofs.Exported.{within}
use Rattle.cat_sound.proofs.Exported.{same_some}
use Rattle.cat_code.specs.declared.instr.Instr.{Instr}
use Rattle.cat_code.specs.declared.code.Constant.{Constant}
use Rattle.cat_code.specs.declared.code.Tables.{Tables}
use Rattle.cat_code.specs.Forms.{form_of}
use Rattle.cat_code.specs.Shapes.{Owner, LoopShape, Shape}
use Rattle.cat_code.specs.Shaped.{Shapes}
use Rattle.cat_code.specs.Tame.{IsCallOf, LeadTo}
use Rattle.cat_code.specs.Jumps.{called_by}
use Rattle.cat_code.specs.Tame as tame
use Rattle.cat_code.specs.Valid.{IsValidBy}
use Rattle.cat_code_sound.proofs.ValueKinds.{IsOf}
use Rattle.cat_code_sound.proofs.PlaceLemmas.{Outer}
use Rattle.cat_code_sound.proofs.Running.{EntryEnds, LoopsEnd, entered}
use Rattle.cat_code_sound.proofs.Ends.{from}

module _ (tables : Tables) (code : List Instr) (shapes : Shapes) (valid : IsValidBy tables code shapes)
    (typed : (k : ℕ) (c : Constant) → slice_get tables.constants k ≡ Some c
    → IsOf tables.decls (form_of tables.decls c.ty) c.value) where
  -- the calls that are under way: each leads from its own owner to the present one
  abbrev IsTrail : List ℕ → Owner → Type 0
  IsTrail [] to = Unit {0}
  IsTrail (p ∷ trail) to =
      ((shape : Shape) × (slice_get shapes p ≡ Some (Some shape)) × LeadTo code shapes shape.owner to)
      × IsTrail trail to

  longer : (trail : List ℕ) (a b : Owner) → IsTrail trail a → IsCallOf code shapes a b → IsTrail trail b
  longer [] a b is call = tt
  longer (p ∷ trail) a b is call = ((is.0.0, is.0.1, onward is.0.0.owner a b is.0.2 call), longer trail a b is.1 call)
    where
      onward : (a b c : Owner) → LeadTo code shapes a b → IsCallOf code shapes b c → LeadTo code shapes a c
      onward a b c (tame.call first) last = tame.chain first (tame.call last)
      onward a b c (tame.chain {b = d} first rest) last = tame.chain first (onward d b c rest last)

  -- a call that is under way is none of the present owner
  not_twice : (trail : List ℕ) (a : Owner) (q : ℕ) (shape : Shape) → IsTrail trail a
      → slice_get shapes q ≡ Some (Some shape) → shape.owner ≡ a
      → list_any (eqb q) trail ≡ false
  not_twice [] a q shape is there own = refl
  not_twice (p ∷ trail) a q shape is there own =
      by (eqb q p) refl (not_twice trail a q shape is.1 there own)
    where
      by : (b : Bool) → eqb q p ≡ b → list_any (eqb q) trail ≡ false → (b || list_any (eqb q) trail) ≡ false
      by false e rest = rest
      by true e rest =
          let same : q ≡ p = grind (arith, nat_tests, e) in
          let one : Some shape ≡ Some is.0.0 =
          same_some (Some shape) (Some is.0.0) (sym there ∙ ap (slice_get shapes) same ∙ is.0.1) in
          let owner : is.0.0.owner ≡ a = ap (λ (x : Shape). x.owner) (sym (same_some shape is.0.0 one)) ∙ own in
          absurd (valid.tame.acyclic a (subst (λ (x : Owner). LeadTo code shapes x a) owner is.0.2))

  abbrev AreBelow : List ℕ → Type 0
  AreBelow trail = (q : ℕ) → list_any (eqb q) trail ≡ true → q < length code

  below_push : (i : ℕ) (trail : List ℕ) → i < length code → AreBelow trail → AreBelow (i ∷ trail)
  below_push i trail less below q h = by (eqb q i) refl h
    where
      by : (b : Bool) → eqb q i ≡ b → (b || list_any (eqb q) trail) ≡ true → q < length code
      by true e g = let same : i ≡ q = grind (arith, nat_tests, e) in subst (λ k. k < length code) same less
      by false e g = below q g

  -- each that is entered ends, counted down by the calls that are under way
  entries_end : (left : ℕ) (trail : List ℕ) (owner : Owner) → IsTrail trail owner → IsDistinct eqb trail
      → AreBelow trail
      → length code < length trail + left → EntryEnds tables code shapes owner
  entries_end zero trail owner is apart below most entry shape there none outer s at turns fits back =
      absurd (omega (arith, length-le_from_distinct_below trail (length code) apart below))
  entries_end (suc left) trail owner is apart below most entry shape there none outer s at turns fits back =
      let place : entry ≡ s.place = sym at in
      from tables code shapes valid typed owner s
      (λ called call.
      entries_end left (call.place ∷ trail) called (
        (
          call.shape,
          call.shape_is,
          tame.call (record {
            place = call.place;
            shape = call.shape;
            instruction = call.instruction;
            shape_is = call.shape_is;
            owner_is = refl;
            instruction_is = call.instruction_is;
            calls = ap (λ (o : Owner). called_by o call.instruction) call.owner_is ∙ call.calls;
          }),
        ),
        longer trail owner called is call,
      )
      (apart_push call.place trail (not_twice trail owner call.place call.shape is call.shape_is call.owner_is) apart)
      (below_push call.place trail (within code call.place call.instruction call.instruction_is) below)
      (omega arith))
      back (length code) s (omega arith) (subst (Outer code) place outer) shape
      (ap (slice_get shapes) (sym place) ∙ there) turns
      (record {
        owner = fits.owner;
        operands = fits.operands;
        locals = fits.locals;
        slots = fits.slots;
        kept = fits.kept;
        defaults = fits.defaults;
        loops = fits.loops;
        turns_are = fits.turns_are;
        around =
            subst (λ (ls : List LoopShape). LoopsEnd tables code shapes (entered tables code shapes owner s) ls turns)
            (sym none) tt;
        pending = fits.pending;
        frames = fits.frames;
      })

  none_apart : IsDistinct eqb []
  unfolding IsDistinct
  none_apart = tt

  pub entry_ends : (owner : Owner) → EntryEnds tables code shapes owner
  entry_ends owner = entries_end (suc (length code)) [] owner tt none_apart (λ q h. absurd (cc h)) (omega arith)
