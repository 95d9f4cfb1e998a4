-- What holds of the expressions of definitions holds of those of their terms.
use Rattle.std.proofs.Common.{◌≡◌, ℕ, zero, suc, List, [], ◌∷◌, ◌++◌, map, Option, Some}
use Rattle.std.proofs.Common.{None, slice_get, refl, sym, subst, IfSome}
use Rattle.cat_pos.specs.declared.pos.Pos.{Pos}
use Rattle.cat_scope.specs.declared.expr.Expr.{Expr}
use Rattle.cat_scope.specs.Names.{AllHave}
use Rattle.cat_scope.specs.Judging.{Held}
use Rattle.cat_scope.specs.Groups.{Numbered, Group, excepts, excepting, roots_of}
use Rattle.cat_scope.specs.Chains.{longest_chain}
use Rattle.cat_scope.specs.Mentions.{joined}
use Rattle.cat_sound.proofs.Exported.{all_at}
use Rattle.cat_calc.specs.declared.term.Justification.{Justification}
use Rattle.cat_calc.specs.declared.term.Justification.TheVariants as justification
use Rattle.cat_calc.specs.declared.term.DefaultTerm.{DefaultTerm}
use Rattle.cat_calc.specs.declared.term.DefaultTerm.TheVariants as leaf
use Rattle.cat_calc.specs.declared.term.DefaultTerm.TheViews as term
use Rattle.cat_calc.specs.Terms.{all_in, condition_in, conditions_in, consequences_in}
use Rattle.cat_calc.proofs.Equations.{conditions_Empty, conditions_Consequence, conditions_Default}
use Rattle.cat_calc.proofs.Equations.{consequences_Empty, consequences_Consequence, consequences_Default}
use Rattle.cat_calc.specs.inside.Terms.{justification_of, definition_term, one_of, own_term, group_term, target_term}
use Rattle.cat_scope.proofs.Exported.{all_append}

pub all_made : {A B : Type 0} (P : B → Type 0) (f : A → B) (xs : List A) → ((x : A) → P (f x)) → AllHave P (map f xs)
all_made P f [] each = tt
all_made P f (x ∷ xs) each = (each x, all_made P f xs each)

pub all_mapped : {A B : Type 0} (P : A → Type 0) (Q : B → Type 0) (f : A → B) (xs : List A) → AllHave P xs
    → ((x : A) → P x → Q (f x)) → AllHave Q (map f xs)
all_mapped P Q f [] all go = tt
all_mapped P Q f (x ∷ xs) all go = (go x all.0, all_mapped P Q f xs all.1 go)

-- a definition as a consequence
abbrev pub consequence_of : Numbered → Held Expr
consequence_of d = record { number = d.0; pos = d.1.pos; value = d.1.consequence }

module _ (C : Expr → Type 0) (V : Held Expr → Type 0) where
  -- the conditions of a term have one property and its consequences another
  pub record TermHas (t : DefaultTerm) : Type 0 where
    pub conditions : AllHave C (conditions_in t)
    pub consequences : AllHave V (consequences_in t)

  -- a definition has both
  pub record DefHas (d : Numbered) : Type 0 where
    pub condition : IfSome d.1.condition C
    pub consequence : V (consequence_of d)

  has_empty : TermHas leaf.Empty
  has_empty = record {
    conditions = subst (λ es. AllHave C es) (sym conditions_Empty) tt;
    consequences = subst (λ hs. AllHave V hs) (sym consequences_Empty) tt;
  }

  has_consequence : (n : ℕ) (p : Pos) (e : Expr) → V (record { number = n; pos = p; value = e })
      → TermHas (leaf.Consequence n p e)
  has_consequence n p e has = record {
    conditions = subst (λ es. AllHave C es) (sym (conditions_Consequence n p e)) tt;
    consequences = subst (λ hs. AllHave V hs) (sym (consequences_Consequence n p e)) (has, tt);
  }

  all_conditions : (ts : List DefaultTerm) → AllHave TermHas ts → AllHave C (all_in (map conditions_in ts))
  all_conditions [] all = tt
  all_conditions (t ∷ ts) all =
      all_append C (conditions_in t) (all_in (map conditions_in ts)) all.0.conditions (all_conditions ts all.1)

  all_consequences : (ts : List DefaultTerm) → AllHave TermHas ts → AllHave V (all_in (map consequences_in ts))
  all_consequences [] all = tt
  all_consequences (t ∷ ts) all =
      all_append V (consequences_in t) (all_in (map consequences_in ts)) all.0.consequences (all_consequences ts all.1)

  has_default : (ts : List DefaultTerm) (j : Justification) (t : DefaultTerm) → AllHave TermHas ts → AllHave C (condition_in j)
      → TermHas t → TermHas (term.Default ts j t)
  has_default ts j t all own has = record {
    conditions = subst (λ es. AllHave C es) (sym (conditions_Default ts j t))
        (all_append C (all_in (map conditions_in ts) ++ condition_in j) (conditions_in t)
        (all_append C (all_in (map conditions_in ts)) (condition_in j) (all_conditions ts all) own) has.conditions);
    consequences = subst (λ hs. AllHave V hs) (sym (consequences_Default ts j t))
        (all_append V (all_in (map consequences_in ts)) (consequences_in t) (all_consequences ts all) has.consequences);
  }

  has_justification : (o : Option Expr) → IfSome o C → AllHave C (condition_in (justification_of o))
  has_justification None has = tt
  has_justification (Some e) has = (has, tt)

  has_definition : (d : Numbered) → DefHas d → TermHas (definition_term d)
  has_definition d has =
      has_default [] (justification_of d.1.condition) (leaf.Consequence d.0 d.1.pos d.1.consequence) tt
      (has_justification d.1.condition has.condition)
      (has_consequence d.0 d.1.pos d.1.consequence has.consequence)

  has_one_of : (ts : List DefaultTerm) → AllHave TermHas ts → TermHas (one_of ts)
  has_one_of ts all = has_default ts justification.Never leaf.Empty all tt has_empty

  module _ (groups : List Group) (each : AllHave (λ g. AllHave DefHas g.defs) groups) where
    has_own : (o : Option Group) (g : ℕ) → slice_get groups g ≡ o → TermHas (own_term o)
    has_own None g is = has_empty
    has_own (Some group) g is = has_one_of (map definition_term group.defs)
        (all_mapped DefHas TermHas definition_term group.defs
        (all_at (λ g. AllHave DefHas g.defs) groups g group each is) has_definition)

    has_group : (room g : ℕ) → TermHas (group_term groups room g)
    unfolding group_term
    has_group zero g = has_empty
    has_group (suc room) g =
        has_default (map (group_term groups room) (excepting (excepts groups) g)) justification.Always
        (own_term (slice_get groups g))
        (all_made TermHas (group_term groups room) (excepting (excepts groups) g) (has_group room)) tt
        (has_own (slice_get groups g) g refl)

    pub has_target : TermHas (target_term groups)
    has_target = has_one_of (map (group_term groups longest_chain) (roots_of groups))
        (all_made TermHas (group_term groups longest_chain) (roots_of groups) (has_group longest_chain))

-- what holds of all that is joined
pub joined_have : {A : Type 0} (P : ℕ → Type 0) (f : A → List ℕ) (xs : List A) → AllHave (λ x. AllHave P (f x)) xs
    → AllHave P (joined (map f xs))
joined_have P f [] all = tt
joined_have P f (x ∷ xs) all = all_append P (f x) (joined (map f xs)) all.0 (joined_have P f xs all.1)
