-- Places whose shapes are met stay so where less is known; and code is shaped where each of its places is fine.
use Rattle.std.proofs.Common.{◌≡◌, ℕ, zero, suc, ◌+◌, List, [], ◌∷◌, length, Some, None, slice_get, refl}
use Rattle.std.proofs.Common.{subst, arith}
use Rattle.cat_value.specs.declared.declaration.Scope.{Scope}
use Rattle.cat_scope.specs.Names.{AllHave}
use Rattle.cat_code.specs.declared.instr.Instr.{Instr}
use Rattle.cat_code.specs.declared.code.Tables.{Tables}
use Rattle.cat_code.specs.Shapes.{Shape}
use Rattle.cat_code.specs.Shaped.{Shapes, IsMet, IsFine, AreFine, AreEntries, scope_entry, FineAt, IsShapedBy}
use Rattle.cat_verify_shapes.specs.inside.Lower.{Lower}
use Rattle.cat_verify_shapes.proofs.MeetingLemmas.{meets_then}
use Rattle.cat_verify_shapes.proofs.ListLemmas.{none_some, some_is}

pub met_lower : (a b : Shapes) → Lower a b → (p : ℕ) (left : Shape) → IsMet a p left → IsMet b p left
met_lower a b lower p left m =
    let l = lower p m.shape m.is in
    record { shape = l.0; is = l.1; meets = meets_then left m.shape l.0 m.meets l.2 }

pub all_met_lower : (a b : Shapes) → Lower a b → (to : List (ℕ × Shape)) → AllHave (λ next. IsMet a next.0 next.1) to
    → AllHave (λ next. IsMet b next.0 next.1) to
all_met_lower a b lower [] h = tt
all_met_lower a b lower (next ∷ to) h = (met_lower a b lower next.0 next.1 h.0, all_met_lower a b lower to h.1)

pub fine_lower : (tables : Tables) (code : List Instr) (a b : Shapes) → Lower a b → (i : Instr) (p : ℕ) (s : Shape)
    → IsFine tables code a i p s → IsFine tables code b i p s
fine_lower tables code a b lower i p s f =
    record { to = f.to; flows = f.flows; met = all_met_lower a b lower f.to f.met }

module _ (tables : Tables) (code : List Instr) (shapes : Shapes) where
  pub fine_from : (q : ℕ) (is : List Instr) (ss : Shapes) → length ss ≡ length is
      → ((n : ℕ) (i : Instr) (s : Shape) → slice_get is n ≡ Some i → slice_get ss n ≡ Some (Some s)
      → IsFine tables code shapes i (q + n) s)
      → AreFine tables code shapes q is ss
  fine_from q [] [] long fine = tt
  fine_from q [] (s ∷ ss) long fine = absurd (omega (arith, long))
  fine_from q (i ∷ is) [] long fine = absurd (omega (arith, long))
  fine_from q (i ∷ is) (None ∷ ss) long fine = (
    tt,
    fine_from (q + 1) is ss (omega (arith, long))
        (λ n j s e f. subst (λ (m : ℕ). IsFine tables code shapes j m s) (next_is q n) (fine (suc n) j s e f)),
  )
    where
      next_is : (q n : ℕ) → q + suc n ≡ q + 1 + n
      next_is q n = omega arith
  fine_from q (i ∷ is) (Some s ∷ ss) long fine = (
    subst (λ (m : ℕ). IsFine tables code shapes i m s) (here_is q) (fine zero i s refl refl),
    fine_from (q + 1) is ss (omega (arith, long))
        (λ n j s e f. subst (λ (m : ℕ). IsFine tables code shapes j m s) (next_is q n) (fine (suc n) j s e f)),
  )
    where
      here_is : (q : ℕ) → q + zero ≡ q
      here_is q = omega arith

      next_is : (q n : ℕ) → q + suc n ≡ q + 1 + n
      next_is q n = omega arith

  pub fine_all : length shapes ≡ length code
      → ((n : ℕ) (i : Instr) (s : Shape) → slice_get code n ≡ Some i → slice_get shapes n ≡ Some (Some s)
      → IsFine tables code shapes i n s)
      → AreFine tables code shapes zero code shapes
  fine_all long fine =
      fine_from zero code shapes long
      (λ n i s e f. subst (λ (m : ℕ). IsFine tables code shapes i m s) (at_is n) (fine n i s e f))
    where
      at_is : (n : ℕ) → n ≡ zero + n
      at_is n = omega arith

pub entries_from : (shapes : Shapes) (q : ℕ) (scopes : List Scope) (entries : List ℕ) → length entries ≡ length scopes
    → ((n : ℕ) (scope : Scope) (e : ℕ) → slice_get scopes n ≡ Some scope → slice_get entries n ≡ Some e
    → IsMet shapes e (scope_entry (q + n) scope.items))
    → AreEntries shapes q scopes entries
entries_from shapes q [] [] long met = tt
entries_from shapes q [] (e ∷ es) long met = absurd (omega (arith, long))
entries_from shapes q (scope ∷ scopes) [] long met = absurd (omega (arith, long))
entries_from shapes q (scope ∷ scopes) (e ∷ es) long met = (
  subst (λ (m : ℕ). IsMet shapes e (scope_entry m scope.items)) (here_is q) (met zero scope e refl refl),
  entries_from shapes (q + 1) scopes es (omega (arith, long))
      (λ n other f g h. subst (λ (m : ℕ). IsMet shapes f (scope_entry m other.items)) (next_is q n)
      (met (suc n) other f g h)),
)
  where
    here_is : (q : ℕ) → q + zero ≡ q
    here_is q = omega arith

    next_is : (q n : ℕ) → q + suc n ≡ q + 1 + n
    next_is q n = omega arith

-- ---- what shaped code has at each place

module _ (tables : Tables) (code : List Instr) (fit : Shapes) where
  fine_at : (q : ℕ) (is : List Instr) (ss : Shapes) → AreFine tables code fit q is ss → (n : ℕ) (i : Instr) (s : Shape)
      → slice_get is n ≡ Some i → slice_get ss n ≡ Some (Some s) → IsFine tables code fit i (q + n) s
  fine_at q [] ss fine n i s e f = absurd (none_some i e)
  fine_at q (j ∷ is) [] fine n i s e f = absurd (none_some (Some s) f)
  fine_at q (j ∷ is) (o ∷ ss) fine zero i s e f =
      subst (λ (m : ℕ). IsFine tables code fit i m s) (here_is q)
      (subst (λ (k : Instr). IsFine tables code fit k q s) (some_is j i e)
      (subst (FineAt tables code fit j q) (some_is o (Some s) f) fine.0))
    where
      here_is : (q : ℕ) → q ≡ q + zero
      here_is q = omega arith
  fine_at q (j ∷ is) (o ∷ ss) fine (suc n) i s e f =
      subst (λ (m : ℕ). IsFine tables code fit i m s) (next_is q n) (fine_at (q + 1) is ss fine.1 n i s e f)
    where
      next_is : (q n : ℕ) → q + 1 + n ≡ q + suc n
      next_is q n = omega arith

entry_at : (fit : Shapes) (q : ℕ) (scopes : List Scope) (entries : List ℕ) → AreEntries fit q scopes entries → (n e : ℕ)
    → slice_get entries n ≡ Some e
    → (one : Scope) × (slice_get scopes n ≡ Some one) × IsMet fit e (scope_entry (q + n) one.items)
entry_at fit q [] [] are n e at = absurd (none_some e at)
entry_at fit q [] (f ∷ entries) are n e at = absurd are
entry_at fit q (s ∷ scopes) [] are n e at = absurd are
entry_at fit q (s ∷ scopes) (f ∷ entries) are zero e at = (
  s,
  refl,
  subst (λ (m : ℕ). IsMet fit e (scope_entry m s.items)) (here_is q)
      (subst (λ (p : ℕ). IsMet fit p (scope_entry q s.items)) (some_is f e at) are.0),
)
  where
    here_is : (q : ℕ) → q ≡ q + zero
    here_is q = omega arith
entry_at fit q (s ∷ scopes) (f ∷ entries) are (suc n) e at =
    let more = entry_at fit (q + 1) scopes entries are.1 n e at in (
      more.0,
      more.1,
      subst (λ (m : ℕ). IsMet fit e (scope_entry m more.0.items)) (next_is q n) more.2,
    )
  where
    next_is : (q n : ℕ) → q + 1 + n ≡ q + suc n
    next_is q n = omega arith

module _ (tables : Tables) (code : List Instr) (fit : Shapes) (shaped : IsShapedBy tables code fit) where
  from_first : (n : ℕ) → 0 + n ≡ n
  from_first n = omega arith

  pub fine_there : (p : ℕ) (i : Instr) (s : Shape) → slice_get code p ≡ Some i → slice_get fit p ≡ Some (Some s)
      → IsFine tables code fit i p s
  fine_there p i s at is =
      subst (λ (m : ℕ). IsFine tables code fit i m s) (from_first p)
      (fine_at tables code fit 0 code fit shaped.fine p i s at is)

  pub entry_there : (n e : ℕ) → slice_get tables.scopes n ≡ Some e
      → (one : Scope) × (slice_get tables.decls.scopes n ≡ Some one) × IsMet fit e (scope_entry n one.items)
  entry_there n e at =
      let met = entry_at fit 0 tables.decls.scopes tables.scopes shaped.entries n e at in (
        met.0,
        met.1,
        subst (λ (m : ℕ). IsMet fit e (scope_entry m met.0.items)) (from_first n) met.2,
      )
