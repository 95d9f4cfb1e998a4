-- Worked examples of declarations: names that stand twice, counts, and what depends on itself.
use Rattle.std.specs.Prelude.{map}
use Rattle.cat_names.specs.Accepted.{unordered}
use Rattle.std.proofs.Common.{◌≡◌, ℕ, false, IsTrue, List, [], ◌∷◌, ◌++◌, Some, Ok, refl, rules, inl}
use Rattle.cat_order.specs.Cycle.{IsOnCycle}
use Rattle.cat_date.specs.declared.rounding.Rounding.TheVariants.{Refuse}
use Rattle.cat_value.specs.declared.ty.Ty.TheVariants as flat_ty
use Rattle.cat_value.specs.declared.ty.Ty.TheViews as ty
use Rattle.cat_value.specs.declared.ty.Ty.TheFolds.{fold_out-Ty}
use Rattle.cat_value.specs.declared.declaration.Kind.TheVariants as kind
use Rattle.cat_value.specs.declared.declaration.Scope.{Scope}
use Rattle.cat_value.specs.declared.decls.Decls.{Decls}
use Rattle.cat_value.specs.Declarations.{are_sound}
use Rattle.cat_value.specs.Dependencies.{named_by, names_at}
use Rattle.cat_tree.specs.declared.name.Base.TheVariants as base
use Rattle.cat_tree.specs.declared.program.FieldItem.{FieldItem}
use Rattle.cat_tree.specs.declared.program.VariableKind.TheVariants as written
use Rattle.cat_tree.specs.declared.program.Variable.TheVariants as variable
use Rattle.cat_tree.specs.declared.program.Item.TheVariants as item
use Rattle.cat_tree.specs.declared.program.Tree.{Tree}
use Rattle.cat_scope.specs.declared.defs.SourcePart.TheVariants as part
use Rattle.cat_scope.specs.declared.defs.Body.{Body}
use Rattle.cat_names.specs.declared.fault.Fault.TheVariants.{NameTwice, TypeCycle, ScopeCycle, TooMany}
use Rattle.cat_names.specs.Declarations.{Declared, declared_of}
use Rattle.cat_names.specs.NameFaults.{name_faults}
use Rattle.cat_names.specs.Bodies.{bodies_meant}
use Rattle.cat_names.specs.Cycles.{IsTypeCycle, IsScopeCycle}
use Rattle.cat_names.proofs.Samples.{at, name, n, a, s, S, own, block}

-- `input n content integer` and then `output n content integer`
abbrev two_items : Tree
two_items = record {
  items =
      item.Scope (at 2 1) (name S (at 2 19))
      (own written.Input (at 3 3) (name n (at 3 9)) base.Integer (at 3 19)
      ∷ own written.Output (at 4 3) (name n (at 4 10)) base.Integer (at 4 20) ∷ [])
      ∷ block (at 5 1) (name S (at 5 7)) [] ∷ [];
}

the_later_of_two_items_is_refused : name_faults two_items ≡ NameTwice (at 4 10) ∷ []
the_later_of_two_items_is_refused = search rules

-- a parameter of the line `internal f content integer depends on a content integer, b content integer, ..`, in which
-- each takes 19 columns
abbrev param : ℕ → ℕ → FieldItem
param letter column =
    record { name = name letter (at 4 column); ty = record { lists = 0; base = base.Integer; pos = at 4 0 } }

abbrev many_parameters : List FieldItem → Tree
many_parameters params = record {
  items = item.Scope (at 2 1) (name S (at 2 19))
      (variable.Own written.Internal (at 4 3) (name 102 (at 4 12))
      (Some (record { lists = 0; base = base.Integer; pos = at 4 22 })) params ∷ []) ∷ [];
}

abbrev eight : List FieldItem
eight = param 97 41 ∷ param 98 60 ∷ param 99 79 ∷ param 100 98 ∷ param 101 117 ∷ param 102 136 ∷ param 103 155
    ∷ param 104 174 ∷ []

the_ninth_parameter_is_too_many :
    name_faults (many_parameters (eight ++ param 105 193 ∷ [])) ≡ TooMany (at 4 193) ∷ []
the_ninth_parameter_is_too_many = search rules

eight_parameters_may_stand : name_faults (many_parameters eight) ≡ []
eight_parameters_may_stand = search rules

-- `declaration structure A: data a content A`
abbrev own_part : Tree
own_part = record {
  items = item.Structure (at 2 1) (name 65 (at 2 23))
      (record { name = name a (at 3 8); ty = record { lists = 0; base = base.Named (65 ∷ []); pos = at 3 18 } } ∷ []) ∷
      [];
}

abbrev own_part_declared : Declared
own_part_declared = record {
  structures = record { name = 65 ∷ []; fields = record { name = a ∷ []; ty = flat_ty.Structure 0 } ∷ [] } ∷ [];
  enumerations = [];
  scopes = [];
}

its_names_name_something : declared_of own_part.items ≡ Ok own_part_declared
its_names_name_something = search rules

named_Structure : (structures k : ℕ) → named_by structures (flat_ty.Structure k) ≡ k ∷ []
unfolding named_by
named_Structure structures k =
    rw (fold_out-Ty (List ℕ) (names_at structures) (flat_ty.Structure k), ty.outs-Structure k) refl

a_structure_is_no_part_of_itself : IsTypeCycle own_part own_part_declared (TypeCycle (at 2 23))
unfolding IsOnCycle
a_structure_is_no_part_of_itself = record {
  number = 0;
  position = at 2 23;
  on_cycle = ([], rw (named_Structure 1 0) refl);
  position_is = refl;
  fault_is = refl;
}

-- `declaration scope S: s scope S`
abbrev own_scope : Tree
own_scope = record {
  items = item.Scope (at 2 1) (name S (at 2 19))
      (variable.Called (name s (at 3 3)) (name S (at 3 11)) ∷ []) ∷ [];
}

abbrev own_scopes : List Scope
own_scopes = record {
  name = S ∷ [];
  items = record {
    name = s ∷ [];
    pos = at 3 3;
    kind = kind.Called 0;
    ty = flat_ty.Boolean;
    condition = false;
    params = [];
  } ∷ [];
} ∷ []

abbrev own_bodies : List Body
own_bodies = record {
  defs = [];
  assertions = [];
  source = part.Declaration ∷ [];
  rounding = Refuse;
  order = [];
  calls = 0 ∷ [];
} ∷ []

module _ (sound : IsTrue (are_sound [] [] own_scopes)) where
  abbrev own_decls : Decls
  own_decls = record { structures = []; enumerations = []; scopes = own_scopes; sound = sound }

  it_says_that_it_calls_itself : bodies_meant own_decls own_scope ≡ Ok (map unordered own_bodies)
  it_says_that_it_calls_itself = search rules

  a_scope_does_not_call_itself : IsScopeCycle own_scope own_decls own_bodies (ScopeCycle (at 3 3))
  a_scope_does_not_call_itself = inl (record {
    caller = 0;
    called = 0;
    scope = record {
      name = S ∷ [];
      items = record {
        name = s ∷ [];
        pos = at 3 3;
        kind = kind.Called 0;
        ty = flat_ty.Boolean;
        condition = false;
        params = [];
      } ∷ [];
    };
    item = record {
      name = s ∷ [];
      pos = at 3 3;
      kind = kind.Called 0;
      ty = flat_ty.Boolean;
      condition = false;
      params = [];
    };
    scope_is = refl;
    item_is = inl refl;
    kind_is = refl;
    on_cycle = (refl, inl refl);
    fault_is = refl;
  })
