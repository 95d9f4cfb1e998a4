-- When the exceptions of a scope make a forest, and why else they don't.
use Rattle.std.specs.Prelude.{◌≡◌, List, []}
use Rattle.cat_pos.specs.declared.pos.Pos.{Pos}
use Rattle.cat_scope.specs.Names.{AllHave, IsOneOf}
use Rattle.cat_scope.specs.Groups.{Group}
use Rattle.cat_scope.specs.Chains.{HasNoCycle, HasShortChains}
use Rattle.cat_except.specs.declared.refusal.ExceptRefusal.{ExceptRefusal}
use Rattle.cat_except.specs.declared.refusal.ExceptRefusal.TheVariants as refusal
use Rattle.cat_except.specs.Faults.{unknown_labels, split_labels, ambiguous_exceptions}
use Rattle.cat_except.specs.Excepted.{excepted_of, StandsOnCycle, StandsPastLimit}

-- each exception is one to a group, and all definitions of a group to the same one
pub record AreResolved (targets : List (List Group)) : Type 0 where
  pub known : unknown_labels targets ≡ []
  pub unsplit : split_labels targets ≡ []
  pub rooted : ambiguous_exceptions targets ≡ []

-- no group of a target excepts itself, at once or through others
abbrev pub HaveNoCycle : List (List Group) → Type 0
HaveNoCycle targets = AllHave (λ groups. HasNoCycle (excepted_of groups)) targets

-- what the groups of the targets of a scope are where their exceptions make a forest
pub record MakeForest (targets : List (List Group)) : Type 0 where
  pub resolved : AreResolved targets
  pub acyclic : HaveNoCycle targets
  pub short : AllHave (λ groups. HasShortChains (excepted_of groups)) targets

-- p stands so in the groups of some target
abbrev pub StandsIn : (List Group → Pos → Type 0) → List (List Group) → Pos → Type 0
StandsIn Stands targets p = (groups : List Group) × IsOneOf groups targets × Stands groups p

-- what each refusal says: what stands there, and that no fault of an earlier kind stands anywhere in the scope
abbrev pub HasCause : List (List Group) → ExceptRefusal → Type 0
HasCause targets (refusal.LabelUnknown p) = IsOneOf p (unknown_labels targets)
HasCause targets (refusal.LabelSplit p) = IsOneOf p (split_labels targets) × (unknown_labels targets ≡ [])
HasCause targets (refusal.ExceptionAmbiguous p) =
    IsOneOf p (ambiguous_exceptions targets) × (unknown_labels targets ≡ []) × (split_labels targets ≡ [])
HasCause targets (refusal.ExceptionCycle p) = StandsIn StandsOnCycle targets p × AreResolved targets
HasCause targets (refusal.TooMany p) = StandsIn StandsPastLimit targets p × AreResolved targets × HaveNoCycle targets
HasCause targets refusal.Memory = Unit {0}
