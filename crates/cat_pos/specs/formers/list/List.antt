-- A list inside the type of its own elements: what a tree with lists of subtrees needs to know of `List`.
use mathlib.Core.Path.{◌≡◌, refl, sym}
use mathlib.Core.List.{List, []}
use mathlib.Core.Former.{Former, this, list, via, children}
use base.Stored.{code_map}
use denote.RattleType.{RattleType}
use denote.HoleLaws.{Alike}
use denote.HolePlaces.{Recodes, struct_places, laid}
use denote.Hole.Carrier.{listed, list-listed}
use denote.Hole.Fix.{over}
use denote.Param.Weighed.{Weighed, w_list}
use denote.Model.Placed.{view_places}
use Rattle.std.specs.formers.vec.Vec as vectors
use Rattle.std.specs.declared.alloc.Global.{Global}
use Rattle.std.specs.contracts.alloc.Global as memory
use Rattle.std.specs.contracts.impls.GlobalAllocator.TheImpl.{ghosts}
use Rattle.cat_pos.specs.declared.list.List.TheInside.{Inside}
use Rattle.cat_pos.specs.declared.list.List.TheView.{view, invariant}
use Rattle.cat_pos.specs.contracts.list.List as lists
use Rattle.cat_pos.specs.contracts.list.List.TheInside as insides

-- a list holds elements
abbrev pub the_former : Former {0} → Former {0}
the_former element = list element

-- a list is as heavy as its elements
abbrev pub the_weighed : {element : Former {0}} → Weighed element → Weighed (the_former element)
the_weighed weight = w_list weight

-- the list of nothing
abbrev pub the_empty : List ⊥
the_empty = []

-- the elements of a list
abbrev pub the_items : (T : Type 0) → List T → List T
the_items T elements = elements

-- the elements are those that the list holds
pub the_items_listed : (T : Type 0) (elements : List T) → listed _ (children (the_former this) T elements) ≡ the_items T
    elements
the_items_listed T elements = list-listed T elements

-- the fields of the struct, which holds a `Vec`
abbrev fields : Former {0}
fields = via (vectors.the_former this Global) Inside (λ T s. s.items) (λ T v. record { items = v }) (λ T s. refl)
    (λ T v. refl)

-- elements that lie alike give lists that lie alike
module _ (From To : RattleType) (to : From.Denot → To.Denot) where
  pub the_places : Alike From To to → Alike (lists.the_row From) (lists.the_row To)
      ((the_former this).map From.Denot To.Denot to)
  the_places alike =
      let in_vec = vectors.the_places memory.the_row ghosts From To to alike in
      let in_struct = struct_places (insides.the_type From) (insides.the_type To) (vectors.mapped to, tt) _ (λ d. refl)
      refl (laid _ _ _ in_vec, tt) in
      view_places fields (list this) view (λ X Y k u. refl) (λ X u. refl) From.Denot To.Denot to
      (lists.the_row From).coded (lists.the_row To).coded
      (invariant From.Denot) (invariant To.Denot) (λ u p q. refl) (λ u p q. refl) (λ u e. tt) (λ u e. tt)
      (over (insides.the_row From)) (over (insides.the_row To)) in_struct

  pub the_codes_placed : Recodes From To to → Recodes (lists.the_row From) (lists.the_row To)
      ((the_former this).map From.Denot To.Denot to)
  the_codes_placed recodes elements = sym (code_map From.coded.code To.coded.code to (λ x. sym (recodes x)) elements)
