-- Where the exceptions of scopes may be refused has a room.
use Rattle.std.proofs.Common.{◌≡◌, ◌⊎◌, ℕ, List, [], Option, Some, None, length, slice_get, refl}
use Rattle.std.proofs.Common.{inl, inr}
use Rattle.cat_pos.specs.declared.pos.Pos.{Pos}
use Rattle.cat_value.specs.declared.decls.Decls.{Decls}
use Rattle.cat_scope.specs.declared.defs.Body.{Body}
use Rattle.cat_scope.specs.declared.programs.Program.{Program}
use Rattle.cat_scope.specs.Forests.{targets_of}
use Rattle.cat_scope.specs.Groups.{Group}
use Rattle.cat_scope.specs.Names.{IsOneOf, scope_items}
use Rattle.cat_except.specs.declared.refusal.ExceptRefusal.TheVariants as refusal
use Rattle.cat_except.specs.Causes.{HasCause, StandsIn}
use Rattle.cat_except.specs.Excepted.{exception_word, HasWord, StandsOnCycle, StandsPastLimit}
use Rattle.cat_except.specs.Faults.{groups_in, groups_in_body, groups_of_each, unknown_labels, split_labels}
use Rattle.cat_except.specs.Faults.{ambiguous_exceptions}
use Rattle.cat_laws.proofs.Rooms.{Room, room_less, room_or, room_some, room_listed, room_each, room_below, By, Below}
use Rattle.cat_laws.proofs.Rooms.{one_of_at}

-- a position at which exceptions of the groups of targets are refused
abbrev pub Excepted : List (List Group) → Pos → Type 0
Excepted targets p = IsOneOf p (unknown_labels targets)
    ⊎ (IsOneOf p (split_labels targets)
    ⊎ (IsOneOf p (ambiguous_exceptions targets)
    ⊎ (StandsIn StandsOnCycle targets p ⊎ StandsIn StandsPastLimit targets p)))

pub unknown_stands : (targets : List (List Group)) (p : Pos) → HasCause targets (refusal.LabelUnknown p)
    → Excepted targets p
unknown_stands targets p h = inl h

pub split_stands : (targets : List (List Group)) (p : Pos) → HasCause targets (refusal.LabelSplit p)
    → Excepted targets p
split_stands targets p h = inr (inl h.0)

pub ambiguous_stands : (targets : List (List Group)) (p : Pos) → HasCause targets (refusal.ExceptionAmbiguous p)
    → Excepted targets p
ambiguous_stands targets p h = inr (inr (inl h.0))

pub cycle_stands : (targets : List (List Group)) (p : Pos) → HasCause targets (refusal.ExceptionCycle p)
    → Excepted targets p
cycle_stands targets p h = inr (inr (inr (inl h.0)))

pub many_stand : (targets : List (List Group)) (p : Pos) → HasCause targets (refusal.TooMany p) → Excepted targets p
many_stand targets p h = inr (inr (inr (inr h.0)))

-- ---- the groups of a scope, by the parts of its program

abbrev groups_at : Decls → ℕ → Option Body → List (List Group)
groups_at decls scope None = []
groups_at decls scope (Some body) =
    groups_of_each body.defs (targets_of decls scope (scope_items decls scope) body.order)

abbrev pub groups_by : Decls → List Body → ℕ → List (List Group)
groups_by decls bodies scope = groups_at decls scope (slice_get bodies scope)

at_same : (program : Program) (scope : ℕ) (body : Option Body)
    → groups_in_body program scope body ≡ groups_at program.decls scope body
at_same program scope None = refl
at_same program scope (Some body) = refl

pub groups_same : (program : Program) (scope : ℕ)
    → groups_in program scope ≡ groups_by program.decls program.bodies scope
groups_same program scope = at_same program scope (slice_get program.bodies scope)

-- ---- rooms

module _ (size : Pos → ℕ) where
  -- the word of a group
  abbrev HasOwn : Group → Pos → Type 0
  HasOwn group p = exception_word group.except ≡ Some p

  word_by : (groups : List Group) (n : ℕ) (p : Pos) (group : Option Group) → slice_get groups n ≡ group
      → HasWord group p → By HasOwn groups p
  word_by groups n p None at h = absurd h
  word_by groups n p (Some group) at h = (group, one_of_at groups n group at, h)

  words_room : (groups : List Group) → Room size (By HasOwn groups)
  words_room groups = room_each size HasOwn (λ group. room_some size (exception_word group.except)) groups

  on_cycle_room : (groups : List Group) → Room size (StandsOnCycle groups)
  on_cycle_room groups = room_less size (StandsOnCycle groups) (By HasOwn groups)
      (λ p h. word_by groups h.0 p (slice_get groups h.0) refl h.2) (words_room groups)

  past_room : (groups : List Group) → Room size (StandsPastLimit groups)
  past_room groups = room_less size (StandsPastLimit groups) (By HasOwn groups)
      (λ p h. word_by groups _ p (slice_get groups _) refl h.3) (words_room groups)

  excepted_room : (targets : List (List Group)) → Room size (Excepted targets)
  excepted_room targets =
      room_or size _ _ (room_listed size (unknown_labels targets))
      (room_or size _ _ (room_listed size (split_labels targets))
      (room_or size _ _ (room_listed size (ambiguous_exceptions targets))
      (room_or size _ _ (room_each size StandsOnCycle on_cycle_room targets)
      (room_each size StandsPastLimit past_room targets))))

  -- a position in some scope
  abbrev pub ExceptedIn : Decls → List Body → Pos → Type 0
  ExceptedIn decls bodies p = Below (λ scope q. Excepted (groups_by decls bodies scope) q) (length bodies) p

  pub scopes_room : (decls : Decls) (bodies : List Body) → Room size (ExceptedIn decls bodies)
  scopes_room decls bodies =
      room_below size (λ scope q. Excepted (groups_by decls bodies scope) q)
      (λ scope. excepted_room (groups_by decls bodies scope)) (length bodies)
