-- What the code spells on its way.
use Rattle.std.specs.Prelude.{ℕ, List, [], ◌∷◌, ◌++◌, length}
use Rattle.cat_scope.specs.declared.expr.Arm.{Arm}
use Rattle.cat_scope.specs.declared.expr.Expr.{Expr}
use Rattle.cat_scope.specs.declared.expr.FieldValue.{FieldValue}
use Rattle.cat_scope.specs.Same.{Standing}
use Rattle.cat_audit_keys.specs.Keys.{key_of, pattern_numbers}

-- the front of a form's key: its number, its own numbers, and how many parts follow
abbrev pub front_of : ℕ → List ℕ → ℕ → List ℕ
front_of form own parts = form ∷ length own ∷ [] ++ own ++ parts ∷ []

-- the keys of some expressions, one behind the other
abbrev pub keys_of : Standing → List Expr → List ℕ
keys_of g [] = []
keys_of g (e ∷ es) = key_of g e ++ keys_of g es

-- of the bodies of arms, and of the values of fields
abbrev pub body_keys : Standing → List Arm → List ℕ
body_keys g [] = []
body_keys g (a ∷ arms) = key_of g a.body ++ body_keys g arms

-- the keys of the values of some fields
abbrev pub value_keys : Standing → List FieldValue → List ℕ
value_keys g [] = []
value_keys g (f ∷ fields) = key_of g f.value ++ value_keys g fields

-- what arms are for, and which fields there are
abbrev pub patterns_in : List Arm → List ℕ
patterns_in [] = []
patterns_in (a ∷ arms) = pattern_numbers a.pattern ++ patterns_in arms

-- the numbers of some fields
abbrev pub fields_in : List FieldValue → List ℕ
fields_in [] = []
fields_in (f ∷ fields) = f.field ∷ fields_in fields
