-- A shared value inside the type of its own content: what a tree with shared subtrees needs to know of `Shared`.
use mathlib.Core.Path.{refl}
use mathlib.Core.Former.{Former, this, const, pair, via}
use base.Stored.{gnil}
use base.Fml.{ftrue}
use denote.RattleType.{RattleType}
use denote.Memory.{part_of}
use denote.RawPtr.{Ptr}
use denote.Sharing.{nothing}
use denote.HoleLaws.{Alike}
use denote.HolePlaces.{Recodes, struct_places, laid, one_value}
use denote.Hole.Fix.{over}
use denote.Param.Weighed.{Weighed}
use denote.Model.Placed.{view_places}
use Rattle.std.specs.declared.rc.Rc.{Rc}
use Rattle.std.specs.contracts.rc.Rc as rcs
use Rattle.std.specs.declared.alloc.Global.{Global}
use Rattle.std.specs.contracts.alloc.Global as memory
use Rattle.std.specs.contracts.impls.GlobalAllocator.TheImpl.{ghosts}
use Rattle.cat_pos.specs.declared.shared.Shared.TheInside.{Inside}
use Rattle.cat_pos.specs.declared.shared.Shared.TheView.{view, invariant}
use Rattle.cat_pos.specs.contracts.shared.Shared as wrapped
use Rattle.cat_pos.specs.contracts.shared.Shared.TheInside as insides

-- what is shared holds its content
abbrev pub the_former : Former {0} → Former {0}
the_former content = content

-- it is as heavy as its content
abbrev pub the_weighed : {content : Former {0}} → Weighed content → Weighed (the_former content)
the_weighed weight = weight

-- the fields of the struct, which holds an `Rc`: a pointer and the content
abbrev fields : Former {0}
fields = via (pair (const Ptr) this) Inside (λ T s. (s.inner.ptr, s.inner.value))
    (λ T v. record { inner = record { ptr = v.0; value = v.1 } }) (λ T s. refl) (λ T v. refl)

-- the `Rc` with another content
abbrev holding : {X Y : Type 0} → Rc X Global → Y → Rc Y Global
holding rc content = record { ptr = rc.ptr; value = content }

-- the `Rc`s of a type
abbrev rc_of : RattleType → RattleType
rc_of T = rcs.the_row T memory.the_row ghosts

-- contents that lie alike give `Rc`s that lie alike
module _ (From To : RattleType) (to : From.Denot → To.Denot) where
  in_rc : Alike From To to → Alike (rc_of From) (rc_of To) (λ rc. holding rc (to rc.value))
  unfolding part_of
  in_rc alike = record {
    mir_same = λ i. (rc_of (one_value From (alike.mir_same i) (λ _. ftrue) (λ _ _. nothing) gnil)).mir;
    own_same = λ rc i.
        (rc_of (one_value From (alike.mir_same i) (alike.own_same rc.value i) (alike.shr_same rc.value i)
        gnil)).own_val (holding rc tt);
    shr_same = λ rc i.
        (rc_of (one_value From (alike.mir_same i) (alike.own_same rc.value i) (alike.shr_same rc.value i)
        gnil)).shr_at
        (holding rc tt);
  }

  pub the_places : Alike From To to → Alike (wrapped.the_row From) (wrapped.the_row To)
      ((the_former this).map From.Denot To.Denot to)
  the_places alike =
      let in_struct = struct_places (insides.the_type From) (insides.the_type To) (
        (λ rc. holding rc (to rc.value)),
        tt,
      ) _ (λ d. refl) refl (laid _ _ _ (in_rc alike), tt) in
      view_places fields this view (λ X Y k u. refl) (λ X u. refl) From.Denot To.Denot to (wrapped.the_row From).coded
      (wrapped.the_row To).coded
      (invariant From.Denot) (invariant To.Denot) (λ u p q. refl) (λ u p q. refl) (λ u e. tt) (λ u e. tt)
      (over (insides.the_row From)) (over (insides.the_row To)) in_struct

  pub the_codes_placed : Recodes From To to → Recodes (wrapped.the_row From) (wrapped.the_row To)
      ((the_former this).map From.Denot To.Denot to)
  the_codes_placed recodes content = recodes content
