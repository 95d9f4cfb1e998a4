-- Deciders of a run that are of a target and of a definition that stands at a position.
use Rattle.std.proofs.Common.{◌≡◌, inl, inr, Bool, true, false, ◌||◌, List, [], ◌∷◌, Option, Some, None, slice_get}
use Rattle.std.proofs.Common.{refl, sym, ap, ◌∙◌, subst, true≢false}
use Rattle.std.specs.List.{list_any}
use Rattle.std.proofs.lemmas.List.Folds.{list_any-append}
use Rattle.cat_pos.specs.declared.pos.Pos.{Pos}
use Rattle.cat_value.specs.declared.outcome.Target.{Target}
use Rattle.cat_region.proofs.Exported.{and-both}
use Rattle.cat_scope.specs.Names.{IsOneOf}
use Rattle.cat_scope.specs.Runs.{Decider}
use Rattle.cat_code.specs.declared.code.Tables.{Tables}
use Rattle.cat_guard.proofs.Exported.{both_true}
use Rattle.cat_machine.specs.declared.log.LogEntry.{LogEntry}
use Rattle.cat_machine.specs.States.{decided, decider_of}
use Rattle.cat_dead.specs.Winners.{is_same}
use Rattle.cat_dead_report.specs.Deciders.{is_target, stands_at, is_by, has_decider}
use Rattle.cat_dead.proofs.Exported.{same_is, same_self, that_is, that_self}

stands_is : (p : Pos) (o : Option Pos) → stands_at p o ≡ true → Some p ≡ o
stands_is p None h = absurd (true≢false (sym h))
stands_is p (Some q) h = ap Some (same_is p q h)

-- ---- deciders

module _ (target : Target) (p : Pos) where
  abbrev decider : Target → Option Pos → Decider
  decider t by = record { target = t; by = by }

  abbrev that : Decider
  that = decider target (Some p)

  by_self : is_by target p that ≡ true
  by_self = and-both (is_target target target) (is_same p p) (that_self target) (same_self p)

  by_is : (d : Decider) → is_by target p d ≡ true → that ≡ d
  by_is d h =
      let two = both_true (is_target target d.target) (stands_at p d.by) h in
      ap (λ (t : Target). decider t (Some p)) (that_is target d.target two.0)
      ∙ ap (decider d.target) (stands_is p d.by two.1)

  pub one_of : (ds : List Decider) → has_decider target p ds ≡ true → IsOneOf that ds
  one_of [] h = absurd (true≢false (sym h))
  one_of (d ∷ ds) h = by (is_by target p d) refl h (one_of ds)
    where
      by : (b : Bool) → is_by target p d ≡ b → (b || has_decider target p ds) ≡ true
          → (has_decider target p ds ≡ true → IsOneOf that ds) → IsOneOf that (d ∷ ds)
      by true e h rest = inl (by_is d e)
      by false e h rest = inr (rest h)

  pub none_of : (ds : List Decider) → has_decider target p ds ≡ false → ¬ IsOneOf that ds
  none_of [] h among = among
  none_of (d ∷ ds) h (inl same) =
      let is : is_by target p d ≡ true = subst (λ (e : Decider). is_by target p e ≡ true) same by_self in
      true≢false (sym (ap (λ b. b || has_decider target p ds) is) ∙ h)
  none_of (d ∷ ds) h (inr among) = none_of ds (by (is_by target p d) h) among
    where
      by : (b : Bool) → (b || has_decider target p ds) ≡ false → has_decider target p ds ≡ false
      by true h = absurd (true≢false h)
      by false h = h

  -- ---- entries of a log

  pub among : (tables : Tables) (log : List LogEntry)
      → list_any (λ e. has_decider target p (decider_of tables (slice_get tables.targets e.target) e.definition)) log
      ≡ has_decider target p (decided tables log)
  among tables [] = refl
  among tables (e ∷ log) =
      ap (λ b. has_decider target p (decider_of tables (slice_get tables.targets e.target) e.definition) || b)
      (among tables log)
      ∙ sym (list_any-append (is_by target p)
      (decider_of tables (slice_get tables.targets e.target) e.definition) (decided tables log))

pub or_none : (b : Bool) → b ≡ (b || false)
or_none true = refl
or_none false = refl

pub ruleset alone = (or_none)
