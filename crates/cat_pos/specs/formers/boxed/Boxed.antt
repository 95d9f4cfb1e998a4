-- A box inside the type of its own content: what a tree with boxed subtrees needs to know of `Boxed`.
use mathlib.Core.Path.{refl}
use mathlib.Core.Former.{Former, this, const, pair, via}
use base.Stored.{gnil}
use base.Fml.{ftrue}
use denote.RattleType.{RattleType}
use denote.Memory.{part_of}
use denote.RawPtr.{Ptr}
use denote.Sharing.{nothing}
use denote.HoleLaws.{Alike}
use denote.HolePlaces.{Recodes, struct_places, laid, one_value}
use denote.Hole.Fix.{over}
use denote.Param.Weighed.{Weighed}
use denote.Model.Placed.{view_places}
use Rattle.std.specs.declared.boxed.Box.{Box}
use Rattle.std.specs.contracts.boxed.Box as boxes
use Rattle.std.specs.declared.alloc.Global.{Global}
use Rattle.std.specs.contracts.alloc.Global as memory
use Rattle.std.specs.contracts.impls.GlobalAllocator.TheImpl.{ghosts}
use Rattle.cat_pos.specs.declared.boxed.Boxed.TheInside.{Inside}
use Rattle.cat_pos.specs.declared.boxed.Boxed.TheView.{view, invariant}
use Rattle.cat_pos.specs.contracts.boxed.Boxed as wrapped
use Rattle.cat_pos.specs.contracts.boxed.Boxed.TheInside as insides

-- a box holds its content
abbrev pub the_former : Former {0} → Former {0}
the_former content = content

-- a box is as heavy as its content
abbrev pub the_weighed : {content : Former {0}} → Weighed content → Weighed (the_former content)
the_weighed weight = weight

-- the fields of the struct, which holds a `Box`: a pointer, its allocator and the content
abbrev fields : Former {0}
fields = via (pair (const (Ptr × Global)) this) Inside (λ T s. ((s.inner.ptr, s.inner.alloc), s.inner.value))
    (λ T v. record { inner = record { ptr = v.0.0; alloc = v.0.1; value = v.1 } }) (λ T s. refl) (λ T v. refl)

-- the box with another content
abbrev holding : {X Y : Type 0} → Box X Global → Y → Box Y Global
holding box content = record { ptr = box.ptr; alloc = box.alloc; value = content }

-- the boxes of a type
abbrev box_of : RattleType → RattleType
box_of T = boxes.the_row T memory.the_row ghosts

-- contents that lie alike give boxes that lie alike
module _ (From To : RattleType) (to : From.Denot → To.Denot) where
  in_box : Alike From To to → Alike (box_of From) (box_of To) (λ box. holding box (to box.value))
  unfolding part_of
  in_box alike = record {
    mir_same = λ i. (box_of (one_value From (alike.mir_same i) (λ _. ftrue) (λ _ _. nothing) gnil)).mir;
    own_same = λ box i.
        (box_of (one_value From (alike.mir_same i) (alike.own_same box.value i) (alike.shr_same box.value i)
        gnil)).own_val (holding box tt);
    shr_same = λ box i.
        (box_of (one_value From (alike.mir_same i) (alike.own_same box.value i) (alike.shr_same box.value i)
        gnil)).shr_at
        (holding box tt);
  }

  pub the_places : Alike From To to → Alike (wrapped.the_row From) (wrapped.the_row To)
      ((the_former this).map From.Denot To.Denot to)
  the_places alike =
      let in_struct = struct_places (insides.the_type From) (insides.the_type To) (
        (λ box. holding box (to box.value)),
        tt,
      ) _ (λ d. refl) refl (laid _ _ _ (in_box alike), tt) in
      view_places fields this view (λ X Y k u. refl) (λ X u. refl) From.Denot To.Denot to (wrapped.the_row From).coded
      (wrapped.the_row To).coded
      (invariant From.Denot) (invariant To.Denot) (λ u p q. refl) (λ u p q. refl) (λ u e. tt) (λ u e. tt)
      (over (insides.the_row From)) (over (insides.the_row To)) in_struct

  pub the_codes_placed : Recodes From To to → Recodes (wrapped.the_row From) (wrapped.the_row To)
      ((the_former this).map From.Denot To.Denot to)
  the_codes_placed recodes content = recodes content
