-- A table of points with one path more.
use Rattle.std.proofs.Common.{◌≡◌, ℕ, ◌+◌, Bool, true, false, List, drop, Option, Some, None}
use Rattle.std.proofs.Common.{slice_get, is_some, if◌then◌else◌, cond, refl, sym, ap, ◌∙◌, true≢false}
use Rattle.std.specs.Str.{bytes_eq}
use Rattle.indexmap.specs.IndexMap.{IndexMap, get}
use Rattle.cat_region.specs.declared.point.Point.{Point}
use Rattle.cat_region.specs.Regions.{Valuation}
use Rattle.cat_guard.specs.declared.table.InputPath.{InputPath}
use Rattle.cat_guard.specs.declared.table.Term.{Term}
use Rattle.cat_audit_sound.specs.PointInputs.{is_at, point_from}
use Rattle.cat_audit_sound.specs.inside.PointTables.{spelled, found_in, earlier}
use Rattle.cat_audit_sound.proofs.PointedValues.{one_path}
use Rattle.cat_audit_sound.proofs.TypedLaws.{drop_at}

-- what is there stays the first
pub earlier_none : (o : Option Point) → earlier o None ≡ o
earlier_none None = refl
earlier_none (Some x) = refl

-- a path is the part at another one where it is spelled so
spelled_at : (path other : InputPath) → bytes_eq (spelled path) (spelled other) ≡ is_at other (Some path)
spelled_at path other = refl

module _ {S : Type 0} (path : InputPath) (point : Point) (old new : IndexMap (List ℕ) Point S) where
  abbrev Added : InputPath → Type 0
  Added other =
      found_in new other ≡ earlier (found_in old other) (if is_at other (Some path) then Some point else None)

  -- the path isn't there
  pub added : is_some (get bytes_eq old (spelled path)) ≡ false
      → ((q : List ℕ) → get bytes_eq new q ≡ cond (bytes_eq (spelled path) q) (Some point) (get bytes_eq old q))
      → (other : InputPath) → Added other
  added fresh updates other = by (is_at other (Some path)) refl
    where
      now : found_in new other ≡ cond (is_at other (Some path)) (Some point) (found_in old other)
      now = updates (spelled other)
          ∙ ap (λ b. cond b (Some point) (found_in old other)) (spelled_at path other)

      nothing : (o : Option Point) → is_some o ≡ false → o ≡ None
      nothing None none = refl
      nothing (Some x) none = absurd (true≢false none)

      by : (b : Bool) → is_at other (Some path) ≡ b → Added other
      by true at =
          let same : path ≡ other = one_path other path at in
          let none : found_in old other ≡ None =
          ap (found_in old) (sym same) ∙ nothing (found_in old path) fresh in
          now ∙ ap (λ b. cond b (Some point) (found_in old other)) at
          ∙ sym (ap (λ o. earlier o (if is_at other (Some path) then Some point else None)) none
          ∙ ap (λ b. if b then Some point else None) at)
      by false at =
          now ∙ ap (λ b. cond b (Some point) (found_in old other)) at
          ∙ sym (ap (λ b. earlier (found_in old other) (if b then Some point else None)) at
          ∙ earlier_none (found_in old other))

-- the path is there
pub there_already : {S : Type 0} (path : InputPath) (point : Point) (points : IndexMap (List ℕ) Point S)
    → is_some (get bytes_eq points (spelled path)) ≡ true → (other : InputPath)
    → found_in points other ≡ earlier (found_in points other) (if is_at other (Some path) then Some point else None)
there_already path point points some other = by (is_at other (Some path)) refl
  where
    first : (o p : Option Point) → is_some o ≡ true → o ≡ earlier o p
    first None p some = absurd (true≢false (sym some))
    first (Some x) p some = refl

    by : (b : Bool) → is_at other (Some path) ≡ b
        → found_in points other ≡ earlier (found_in points other) (if is_at other (Some path) then Some point else None)
    by true at =
        let same : path ≡ other = one_path other path at in
        first (found_in points other) _ (ap (λ (p : InputPath). is_some (found_in points p)) (sym same) ∙ some)
    by false at =
        sym (ap (λ b. earlier (found_in points other) (if b then Some point else None)) at
        ∙ earlier_none (found_in points other))

-- ---- one term more

both_earlier : (b : Bool) (x : Point) (o rest : Option Point)
    → earlier (earlier o (if b then Some x else None)) rest ≡ earlier o (if b then Some x else rest)
both_earlier true x None rest = refl
both_earlier true x (Some y) rest = refl
both_earlier false x None rest = refl
both_earlier false x (Some y) rest = refl

pub term_added : {S : Type 0} (v : Valuation) (terms : List Term) (n : ℕ) (term : Term)
    (old new : IndexMap (List ℕ) Point S) → slice_get terms n ≡ Some term
    → ((path : InputPath)
    → found_in new path ≡ earlier (found_in old path) (if is_at path term.path then Some (v n) else None))
    → ((path : InputPath)
    → earlier (found_in old path) (point_from v n (drop n terms) path) ≡ point_from v 0 terms path)
    → (path : InputPath)
    → earlier (found_in new path) (point_from v (n + 1) (drop (n + 1) terms) path) ≡ point_from v 0 terms path
term_added v terms n term old new at added before path =
    ap (λ o. earlier o (point_from v (n + 1) (drop (n + 1) terms) path)) (added path)
    ∙ both_earlier (is_at path term.path) (v n) (found_in old path) (point_from v (n + 1) (drop (n + 1) terms) path)
    ∙ ap (λ (ts : List Term). earlier (found_in old path) (point_from v n ts path)) (sym (drop_at terms n term at))
    ∙ before path
