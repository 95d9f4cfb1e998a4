-- What a reply on faults says of the whole tree.
use Rattle.std.proofs.Common.{◌≡◌, List, [], Result, Ok, Err, IfOk, IfErr}
use Rattle.cat_scope.specs.Names.{IsOneOf}
use Rattle.cat_tree.specs.declared.program.Tree.{Tree}
use Rattle.cat_names.specs.Accepted.{IsRefused, name}
use Rattle.cat_names.specs.declared.fault.Fault.{Fault}
use Rattle.cat_names.specs.declared.fault.Refusal.{Refusal}
use Rattle.cat_names.specs.declared.fault.Refusal.TheVariants.{Memory, Refused}
use Rattle.cat_names.specs.NameFaults.{name_faults}
use Rattle.cat_declare.specs.Cause.{HasCause}
use Rattle.cat_declare.specs.inside.Clearing.{Clears, IsAmong}
use Rattle.cat_declare.proofs.NameFaultSteps.{AreAmong}

-- a refusal is one of faults that all stand against a tree
pub refused_by : (tree : Tree) (xs : List Fault) → ((f : Fault) → IsOneOf f xs → IsRefused tree f) → (r : Refusal)
    → IsAmong r xs → HasCause tree r
refused_by tree xs refuses Memory h = tt
refused_by tree xs refuses (Refused f) h = refuses f h

pub name_refused : (tree : Tree) (xs : List Fault) → AreAmong xs (name_faults tree) → (f : Fault) → IsOneOf f xs
    → IsRefused tree f
name_refused tree xs among f h = name (among f h)

pub none_where_clear : {A : Type 0} (r : Result A Refusal) (xs : List Fault) → Clears r xs → IfOk r (λ a. xs ≡ [])
none_where_clear (Ok a) xs h = h
none_where_clear (Err e) xs h = tt

pub caused_where_not : {A : Type 0} (tree : Tree) (r : Result A Refusal) (xs : List Fault)
    → ((f : Fault) → IsOneOf f xs → IsRefused tree f) → Clears r xs → IfErr r (HasCause tree)
caused_where_not tree (Ok a) xs refuses h = tt
caused_where_not tree (Err e) xs refuses h = refused_by tree xs refuses e h
