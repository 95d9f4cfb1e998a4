-- A run of a scope up to an index of its order has done the items before it.
use Rattle.std.proofs.Common.{◌≡◌, ℕ, zero, suc, ◌<◌, Bool, true, false, IsTrue, List, [], ◌∷◌, length, take, Option}
use Rattle.std.proofs.Common.{Some, None, slice_get, refl, sym, ap, ◌∙◌, subst, arith}
use Rattle.std.specs.Prelude.{nat_eq}
use Rattle.cat_value.specs.declared.value.Value.{Value}
use Rattle.cat_value.specs.declared.decls.Decls.{Decls}
use Rattle.cat_value.specs.declared.declaration.ItemDecl.{ItemDecl}
use Rattle.cat_value.specs.Inputs.{are_given_for}
use Rattle.cat_scope.specs.Names.{Names, AllHave}
use Rattle.cat_scope.specs.Calls.{Items, Scoped}
use Rattle.cat_scope.specs.Running.{entry_at, with_entry, run_items, no_values, moved, backwards}
use Rattle.cat_scope.specs.ItemValues.{item_value}
use Rattle.cat_sound.specs.Given.{values_at}
use Rattle.cat_sound.proofs.Exported.{AllIn, Ahead, Behind, IsSound, all_more, anything, moved-behind, names_of}
use Rattle.cat_sound.proofs.Exported.{DoneAt, IsDone, entry_given, no_values-length, with_entry-length}
use Rattle.cat_sound.proofs.Exported.{with_entry-other, with_entry-same}
use Rattle.cat_sound.proofs.Exported.{same_some}
use Rattle.cat_audit_sound.proofs.RunValues.{same_number, found, IfGives, if_more, if_then}
use Rattle.cat_audit_sound.proofs.DoneItems.{item_done}

-- ---- the front of an order

pub ahead_front : (bound : ℕ) (needs : ℕ → List ℕ) (before left : List ℕ) (index : ℕ) → Ahead bound needs before left
    → Ahead bound needs before (take index left)
ahead_front bound needs before [] zero h = tt
ahead_front bound needs before [] (suc index) h = tt
ahead_front bound needs before (n ∷ left) zero h = tt
ahead_front bound needs before (n ∷ left) (suc index) h =
    (h.0, h.1, ahead_front bound needs (n ∷ before) left index h.2)

-- what an item of an order needs stands before it
pub needed_before : (bound : ℕ) (needs : ℕ → List ℕ) (before left : List ℕ) (index item : ℕ)
    → Ahead bound needs before left → slice_get left index ≡ Some item
    → AllIn (moved before (take index left)) (needs item)
needed_before bound needs before [] index item h at = absurd (cc)
needed_before bound needs before (n ∷ left) zero item h at =
    subst (λ (m : ℕ). AllIn before (needs m)) (same_some n item at) h.1
needed_before bound needs before (n ∷ left) (suc index) item h at =
    needed_before bound needs (n ∷ before) left index item h.2 at

-- an item that is done, and has what is given of it
pub record StandsAt (ns : Names) (input values : Items) (item : ℕ) : Type 0 where
  pub done : DoneAt ns values item
  pub given : (v : Value) → entry_at item input ≡ Some v → slice_get values item ≡ Some (Some v)

module _ (ds : Decls) (scoped : Scoped) (needs : ℕ → List ℕ) (sound : IsSound anything ds scoped needs)
    (input : Items) (given : IsTrue (are_given_for ds scoped.items input)) where
  abbrev ns : Names
  ns = names_of ds scoped

  abbrev Stands : Items → ℕ → Type 0
  Stands values item = StandsAt ns input values item

  -- what an item comes to, which is what is given of it
  abbrev Comes : ℕ → Option Value → Option Value → Type 0
  Comes item entry o = IsDone ns item o × ((v : Value) → entry ≡ Some v → o ≡ Some v)

  comes : (item : ℕ) (before : List ℕ) (values : Items) (decl : Option ItemDecl) (entry : Option Value)
      → IfGives (item_value scoped before values item entry decl) (IsDone ns item)
      → IfGives (item_value scoped before values item entry decl) (Comes item entry)
  comes item before values decl None h =
      if_more (IsDone ns item) (Comes item None) (item_value scoped before values item None decl).end h
      (λ o done. (done, (λ v e. absurd (cc))))
  comes item before values decl (Some v) h = (h, (λ w e. e))

  still_stands : (values : Items) (item : ℕ) (v : Option Value) → item < length values
      → Comes item (entry_at item input) v → (k : ℕ) → Stands values k → Stands (with_entry item v values) k
  still_stands values item v below is k old = by (nat_eq item k) refl
    where
      by : (b : Bool) → nat_eq item k ≡ b → Stands (with_entry item v values) k
      by true e =
          subst (Stands (with_entry item v values)) (same_number item k e) (record {
            done = record { value = v; there = with_entry-same item v values below; is = is.0 };
            given = λ w g. with_entry-same item v values below ∙ ap Some (is.1 w g);
          })
      by false e = record {
        done = record {
          value = old.done.value;
          there = with_entry-other item k v values e ∙ old.done.there;
          is = old.done.is;
        };
        given = λ w g. with_entry-other item k v values e ∙ old.given w g;
      }

  run_stands : (left before : List ℕ) (values : Items) → Ahead (length scoped.items) needs before left
      → Behind (length scoped.items) needs before → AllHave (Stands values) before
      → length values ≡ length scoped.items
      → IfGives (run_items scoped input before values left) (λ final. AllHave (Stands final) (moved before left))
  run_stands [] before values ahead behind h same = h
  run_stands (item ∷ left) before values ahead behind h same =
      let here = found scoped.items item ahead.0 in
      if_then (Comes item (entry_at item input)) (λ final. AllHave (Stands final) (moved (item ∷ before) left))
      (item_value scoped before values item (entry_at item input) (slice_get scoped.items item)) _
      (comes item before values (slice_get scoped.items item) (entry_at item input)
      (subst (λ o. IfGives (item_value scoped before values item (entry_at item input) o) (IsDone ns item))
      (sym here.1)
      (item_done ds scoped needs sound item here.0 here.1 values before behind
      (all_more (Stands values) (DoneAt ns values) before h (λ k at. at.done)) ahead.1 (entry_at item input)
      (entry_given ds scoped.items input item here.0 given here.1))))
      (λ v is. run_stands left (item ∷ before) (with_entry item v values) ahead.2 (ahead.0, ahead.1, behind) (
        (record {
          done = record {
            value = v;
            there = with_entry-same item v values (below item values same ahead.0);
            is = is.0;
          };
          given = λ w g. with_entry-same item v values (below item values same ahead.0) ∙ ap Some (is.1 w g);
        }),
        all_more (Stands values) (Stands (with_entry item v values)) before h
            (still_stands values item v (below item values same ahead.0) is),
      )
      (with_entry-length item v values ∙ same))
    where
      below : (item : ℕ) (values : Items) → length values ≡ length scoped.items → item < length scoped.items
          → item < length values
      below item values same h = omega arith

  -- the items before an index stand in the values that are there
  pub front_stands : (index : ℕ) → Ahead (length scoped.items) needs [] scoped.order
      → IfGives (values_at scoped input index) (λ values. AllHave (Stands values) (backwards (take index scoped.order)))
  front_stands index ahead =
      run_stands (take index scoped.order) [] (no_values scoped.items)
      (ahead_front (length scoped.items) needs [] scoped.order index ahead) tt tt (no_values-length scoped.items)

  pub front_behind : (index : ℕ) → Ahead (length scoped.items) needs [] scoped.order
      → Behind (length scoped.items) needs (backwards (take index scoped.order))
  front_behind index ahead =
      moved-behind (length scoped.items) needs [] (take index scoped.order) tt
      (ahead_front (length scoped.items) needs [] scoped.order index ahead)
