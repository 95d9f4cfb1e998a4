-- Operators, structures, lists and cases finish where they flow.
use Rattle.std.proofs.Common.{◌≡◌, ℕ, ◌+◌, pos, nat_eq, nat_lt, ◌&&◌, true, List, [], ◌∷◌, ◌++◌, length, Option}
use Rattle.std.proofs.Common.{Some, None, slice_get, is_none, refl, sym, ap, ◌∙◌, subst}
use Rattle.std.proofs.lemmas.Bool.{ltb-true}
use Rattle.cat_pos.specs.declared.pos.Pos.{Pos}
use Rattle.cat_date.specs.declared.rounding.Rounding.{Rounding}
use Rattle.cat_value.specs.declared.ty.Ty.{Ty}
use Rattle.cat_value.specs.declared.value.Value.{Value}
use Rattle.cat_value.specs.declared.value.Value.TheVariants as flat
use Rattle.cat_value.specs.declared.value.Value.TheViews as value
use Rattle.cat_value.specs.Entries.{content_of}
use Rattle.cat_value.proofs.Exported.{found}
use Rattle.cat_scope.specs.Replies.{known}
use Rattle.cat_scope.specs.Composed.{part}
use Rattle.cat_scope.specs.Projections as read
use Rattle.cat_scope.specs.Signatures.{signatures_of, taken_by, given_by}
use Rattle.cat_scope.specs.Operators.{convert, operate}
use Rattle.cat_sound.proofs.Results.{both, and_both}
use Rattle.cat_sound.proofs.Endings.{ended}
use Rattle.cat_sound.proofs.Exported.{anything}
use Rattle.cat_code.specs.declared.instr.Instr.{Instr}
use Rattle.cat_code.specs.declared.instr.Instr.TheVariants as instr
use Rattle.cat_code.specs.declared.code.CasePlace.{CasePlace}
use Rattle.cat_code.specs.Operations.{Operation, Before, Between, operation, roundings}
use Rattle.cat_code.specs.States.{State, Loop, on, push}
use Rattle.cat_code.specs.Moves as move
use Rattle.cat_code.specs.Machine.{operates}
use Rattle.cat_code.specs.Forms.{Form, form_of, form_at, in_row, same_form}
use Rattle.cat_code.specs.Forms as forms
use Rattle.cat_code.specs.Shapes.{LoopShape, Shape}
use Rattle.cat_code.specs.Wanted.{all_same, signed}
use Rattle.cat_code.specs.Leads.{leads, with, where_so, pushed, operated}
use Rattle.cat_code.specs.Leads as lead
use Rattle.cat_code.proofs.FormLaws.{same_is, same_self}
use Rattle.cat_code_sound.proofs.ValueKinds.{IsOf, reads_many, of_truth, of_whole, of_many, of_fields, of_bare, of_held}
use Rattle.cat_code_sound.proofs.ValueKinds.{all_then}
use Rattle.cat_code_sound.proofs.Operated.{Has, conversions_go_on, operators_go_on}
use Rattle.cat_code_sound.proofs.Fitting.{OnTop, LoopFits, Setting, Fits, lefts, loops_fit, unbound_fits}
use Rattle.cat_code_sound.proofs.DataLemmas.{row_fields, row_all, part_typed, case_there, none_so, collected_there}
use Rattle.cat_code_sound.proofs.DataLemmas.{collected_so, signed_there}
use Rattle.cat_code_sound.proofs.Stepping.{Finishes, Fine, fine_where, fine_with, fine_one, fine_top, fine_elements}
use Rattle.cat_code_sound.proofs.Stepping.{fine_fields, finish_on, finish_push, finish_with, finish_ok, finish_known}
use Rattle.cat_code_sound.proofs.Stepping.{finish_pop, finish_pop_as, finish_pop_all, finish_over}
use Rattle.cat_code_sound.proofs.SoundSlots.{Sound}

module _ (here : Setting) (code : List Instr) (Good : State → Type 0) where
  -- a value of a type that is told otherwise
  retyped : (t u : Form) (v : Value) → t ≡ u → IsOf here.tables.decls t v → IsOf here.tables.decls u v
  retyped t u v is typed = subst (λ (f : Form). IsOf here.tables.decls f v) is typed

  operation_ends : (i : Instr) (turns : List ℕ) (shape : Shape) (s : State) (o : Operation) (r : Rounding) (q : Pos)
      → Fits here turns shape s
      → Fine here Good i s.place (operated (form_of here.tables.decls) o s.place shape)
      → Finishes Good (operates o r q s)
  operation_ends i turns shape s (Before o) r q fits fine =
      finish_pop_as here Good i s.place turns shape s (form_of here.tables.decls (taken_by o))
      (λ a. leads (s.place + 1) (pushed (form_of here.tables.decls (given_by o)) a))
      (λ v a. move.pushes (convert o q v) a) fits fine
      (λ ts v vs is left f.
      finish_with here Good i s.place (Has here.tables.decls (given_by o)) (convert o q v)
      (λ w. on (push w (record s { operands = vs })))
      (ended anything (Has here.tables.decls (given_by o)) (convert o q v)
      (conversions_go_on here.tables.decls q v o is))
      (λ w typed.
      finish_push here Good i s.place turns (record shape { operands = ts }) (record s { operands = vs })
      (form_of here.tables.decls (given_by o)) w refl
      left typed (fine_one here Good i s.place (s.place + 1)
      (pushed (form_of here.tables.decls (given_by o)) (record shape { operands = ts })) f)))
  operation_ends i turns shape s (Between o) r q fits fine =
      finish_pop here Good i s.place turns shape s
      (λ u a. lead.pop a (λ t b. with (signed (form_of here.tables.decls) (signatures_of o) t u)
      (λ x. leads (s.place + 1) (pushed (form_of here.tables.decls x) b))))
      (λ w a. move.pop a (λ v b. move.pushes (operate r o q v w) b)) fits fine
      (λ u us w ws w_is left f.
      finish_pop here Good i s.place turns (record shape { operands = us }) (record s { operands = ws })
      (λ t b. with (signed (form_of here.tables.decls) (signatures_of o) t u)
      (λ x. leads (s.place + 1) (pushed (form_of here.tables.decls x) b)))
      (λ v b. move.pushes (operate r o q v w) b) left f
      (λ t ts v vs v_is rest g.
      let x = fine_with here Good i s.place (signed (form_of here.tables.decls) (signatures_of o) t u)
      (λ x. leads (s.place + 1) (pushed (form_of here.tables.decls x) (record shape { operands = ts }))) g in
      let row = signed_there (form_of here.tables.decls) (signatures_of o) t u x.0 x.1 in
      finish_with here Good i s.place (Has here.tables.decls row.row.result) (operate r o q v w)
      (λ y. on (push y (record s { operands = vs })))
      (ended anything (Has here.tables.decls row.row.result) (operate r o q v w)
      (operators_go_on here.tables.decls r q v w row.row o row.among
      (retyped t (form_of here.tables.decls row.row.left) v row.left v_is)
      (retyped u (form_of here.tables.decls row.row.right) w row.right w_is)))
      (λ y typed.
      finish_push here Good i s.place turns (record shape { operands = ts }) (record s { operands = vs })
      (form_of here.tables.decls x.0) y refl rest
      (subst (λ (k : Ty). Has here.tables.decls k y) row.result typed)
      (fine_one here Good i s.place (s.place + 1)
      (pushed (form_of here.tables.decls x.0) (record shape { operands = ts })) x.2))))

  pub sound_op : (n r q : ℕ) → Sound here code Good (instr.Op n r q)
  sound_op n r q turns shape s fits fine =
      let i : Instr = instr.Op n r q in
      let w = fine_where here Good i s.place (nat_lt r (length roundings) && nat_lt q (length here.tables.positions))
      (with (operation n) (λ o. operated (form_of here.tables.decls) o s.place shape)) fine in
      let parts = both (nat_lt r (length roundings)) (nat_lt q (length here.tables.positions)) w.0 in
      let o =
      fine_with here Good i s.place (operation n) (λ o. operated (form_of here.tables.decls) o s.place shape) w.1 in
      let rounding = found roundings r (ltb-true r (length roundings) parts.0) in
      let at = found here.tables.positions q (ltb-true q (length here.tables.positions) parts.1) in
      finish_known here Good i s.place (operation n) o.0
      (λ (o : Operation). move.with_part (known (slice_get roundings r))
      (λ rounding. move.with_part (known (slice_get here.tables.positions q))
      (λ at. operates o rounding at s))) o.1
      (finish_known here Good i s.place (slice_get roundings r) rounding.0
      (λ rounding. move.with_part (known (slice_get here.tables.positions q)) (λ at. operates o.0 rounding at s))
      rounding.1
      (finish_known here Good i s.place (slice_get here.tables.positions q) at.0
      (λ at. operates o.0 rounding.0 at s) at.1
      (operation_ends i turns shape s o.0 rounding.0 at.0 fits o.2)))

  pub sound_pack : (n : ℕ) → Sound here code Good (instr.Pack n)
  sound_pack n turns shape s fits fine =
      let i : Instr = instr.Pack n in
      finish_pop_all here Good i s.place turns shape s n
      (λ ts r. leads (s.place + 1) (pushed (forms.Fields (in_row ts)) r))
      (λ vs r. on (push (value.Structure vs) r)) fits fine
      (λ ts us vs ws taken left f.
      finish_push here Good i s.place turns (record shape { operands = us }) (record s { operands = ws })
      (forms.Fields (in_row ts)) (value.Structure vs)
      refl left (of_fields here.tables.decls (in_row ts) vs (row_fields here.tables.decls ts vs taken))
      (fine_one here Good i s.place (s.place + 1)
      (pushed (forms.Fields (in_row ts)) (record shape { operands = us })) f))

  pub sound_list : (n : ℕ) → Sound here code Good (instr.List n)
  sound_list n turns shape s fits fine =
      let i : Instr = instr.List n in
      finish_pop_all here Good i s.place turns shape s n
      (λ ts r. lead.top ts (λ t us. where_so (all_same t us) (leads (s.place + 1) (pushed (forms.Many t) r))))
      (λ vs r. on (push (value.List vs) r)) fits fine
      (λ ts us vs ws taken left f.
      let t = fine_top here Good i s.place ts
      (λ t ls. where_so (all_same t ls) (leads (s.place + 1) (pushed (forms.Many t) (record shape { operands = us }))))
      f in
      let w =
      fine_where here Good i s.place (all_same t.0 t.1)
      (leads (s.place + 1) (pushed (forms.Many t.0) (record shape { operands = us }))) t.3 in
      finish_push here Good i s.place turns (record shape { operands = us }) (record s { operands = ws })
      (forms.Many t.0) (value.List vs) refl left
      (of_many here.tables.decls t.0 vs
      (row_all here.tables.decls t.0 (t.0 ∷ t.1) vs (same_front t.0 t.1 w.0)
      (subst (λ (l : List Form). OnTop (IsOf here.tables.decls) l vs []) t.2 taken)))
      (fine_one here Good i s.place (s.place + 1) (pushed (forms.Many t.0) (record shape { operands = us })) w.1))
    where
      same_front : (t : Form) (ts : List Form) → all_same t ts ≡ true → all_same t (t ∷ ts) ≡ true
      same_front t ts is = and_both (same_form t t) (all_same t ts) (same_self t) is

  pub sound_field : (k : ℕ) → Sound here code Good (instr.Field k)
  sound_field k turns shape s fits fine =
      let i : Instr = instr.Field k in
      finish_pop here Good i s.place turns shape s
      (λ t r. lead.fields_of t (λ ts. with (form_at ts k) (λ u. leads (s.place + 1) (pushed u r))))
      (λ v r. move.pushes (part k v) r) fits fine
      (λ t ts v vs is left f.
      let row =
      fine_fields here Good i s.place t
      (λ us. with (form_at us k) (λ u. leads (s.place + 1) (pushed u (record shape { operands = ts })))) f in
      let u =
      fine_with here Good i s.place (form_at row.0 k)
      (λ u. leads (s.place + 1) (pushed u (record shape { operands = ts }))) row.2 in
      let w = part_typed here.tables.decls row.0 v k u.0 (retyped t (forms.Fields row.0) v row.1 is) u.1 in
      finish_ok here Good i s.place (part k v) w.0 (λ (x : Value). on (push x (record s { operands = vs }))) w.1
      (finish_push here Good i s.place turns (record shape { operands = ts })
      (record s { operands = vs }) u.0 w.0 refl left w.2
      (fine_one here Good i s.place (s.place + 1) (pushed u.0 (record shape { operands = ts })) u.2)))

  pub sound_tag : (c : ℕ) → Sound here code Good (instr.Tag c)
  sound_tag c turns shape s fits fine =
      let i : Instr = instr.Tag c in
      let place = fine_with here Good i s.place (slice_get here.tables.cases c)
      (λ place. with (content_of here.tables.decls place.enumeration place.case) (λ content. with content
      (λ t. lead.pop_as (form_of here.tables.decls t) shape
      (λ r. leads (s.place + 1) (pushed (forms.OneOf place.enumeration) r))))) fine in
      let content =
      fine_with here Good i s.place (content_of here.tables.decls place.0.enumeration place.0.case)
      (λ content. with content
      (λ t. lead.pop_as (form_of here.tables.decls t) shape
      (λ r. leads (s.place + 1) (pushed (forms.OneOf place.0.enumeration) r)))) place.2 in
      let t = fine_with here Good i s.place content.0
      (λ t. lead.pop_as (form_of here.tables.decls t) shape
      (λ r. leads (s.place + 1) (pushed (forms.OneOf place.0.enumeration) r))) content.2 in
      finish_pop_as here Good i s.place turns shape s (form_of here.tables.decls t.0)
      (λ r. leads (s.place + 1) (pushed (forms.OneOf place.0.enumeration) r))
      (λ v r. move.with_part (known (slice_get here.tables.cases c))
      (λ place. on (push (value.Case place.case (Some v)) r))) fits t.2
      (λ ts v vs is left f.
      finish_known here Good i s.place (slice_get here.tables.cases c) place.0
      (λ (place : CasePlace). on (push (value.Case place.case (Some v)) (record s { operands = vs }))) place.1
      (finish_push here Good i s.place turns (record shape { operands = ts }) (record s { operands = vs })
      (forms.OneOf place.0.enumeration)
      (value.Case place.0.case (Some v)) refl left
      (of_held here.tables.decls place.0.enumeration place.0.case v t.0
      (content.1 ∙ ap (λ (o : Option Ty). Some o) t.1) is)
      (fine_one here Good i s.place (s.place + 1)
      (pushed (forms.OneOf place.0.enumeration) (record shape { operands = ts })) f)))

  pub sound_tag_none : (c : ℕ) → Sound here code Good (instr.TagNone c)
  sound_tag_none c turns shape s fits fine =
      let i : Instr = instr.TagNone c in
      let place = fine_with here Good i s.place (slice_get here.tables.cases c)
      (λ place. with (content_of here.tables.decls place.enumeration place.case)
      (λ content. where_so (is_none content) (leads (s.place + 1) (pushed (forms.OneOf place.enumeration) shape))))
      fine in
      let content = fine_with here Good i s.place (content_of here.tables.decls place.0.enumeration place.0.case)
      (λ content. where_so (is_none content) (leads (s.place + 1) (pushed (forms.OneOf place.0.enumeration) shape)))
      place.2 in
      let w =
      fine_where here Good i s.place (is_none content.0)
      (leads (s.place + 1) (pushed (forms.OneOf place.0.enumeration) shape)) content.2 in
      finish_known here Good i s.place (slice_get here.tables.cases c) place.0
      (λ (place : CasePlace). on (push (value.Case place.case None) s)) place.1
      (finish_push here Good i s.place turns shape s (forms.OneOf place.0.enumeration)
      (value.Case place.0.case None) refl fits
      (of_bare here.tables.decls place.0.enumeration place.0.case
      (content.1 ∙ ap (λ (o : Option Ty). Some o) (none_so content.0 w.0)))
      (fine_one here Good i s.place (s.place + 1) (pushed (forms.OneOf place.0.enumeration) shape) w.1))

  pub sound_is_case : (c : ℕ) → Sound here code Good (instr.IsCase c)
  sound_is_case c turns shape s fits fine =
      let i : Instr = instr.IsCase c in
      let place = fine_with here Good i s.place (slice_get here.tables.cases c)
      (λ place. lead.pop_as (forms.OneOf place.enumeration) shape (λ r. leads (s.place + 1) (pushed forms.Truth r)))
      fine in
      finish_pop_as here Good i s.place turns shape s (forms.OneOf place.0.enumeration)
      (λ r. leads (s.place + 1) (pushed forms.Truth r))
      (λ v r. move.with_part (read.case_of v) (λ met. move.with_part (known (slice_get here.tables.cases c))
      (λ place. on (push (flat.Boolean (nat_eq met.0 place.case)) r)))) fits place.2
      (λ ts v vs is left f.
      let met = case_there here.tables.decls place.0.enumeration v is in
      finish_ok here Good i s.place (read.case_of v) met.0
      (λ (met : ℕ × Option Value). move.with_part (known (slice_get here.tables.cases c))
      (λ place. on (push (flat.Boolean (nat_eq met.0 place.case)) (record s { operands = vs })))) met.1
      (finish_known here Good i s.place (slice_get here.tables.cases c) place.0
      (λ (place : CasePlace). on (push (flat.Boolean (nat_eq met.0.0 place.case)) (record s { operands = vs }))) place.1
      (finish_push here Good i s.place turns (record shape { operands = ts }) (record s { operands = vs }) forms.Truth
      (flat.Boolean (nat_eq met.0.0 place.0.case)) refl left (of_truth here.tables.decls (nat_eq met.0.0 place.0.case))
      (fine_one here Good i s.place (s.place + 1) (pushed forms.Truth (record shape { operands = ts })) f))))

  pub sound_length : Sound here code Good instr.Length
  sound_length turns shape s fits fine =
      let i : Instr = instr.Length in
      finish_pop here Good i s.place turns shape s
      (λ t r. lead.elements_of t (λ u. leads (s.place + 1) (pushed forms.Whole r)))
      (λ v r. move.with_part (read.elements v) (λ vs. on (push (flat.Integer (pos (length vs))) r))) fits fine
      (λ t ts v vs is left f.
      let u =
      fine_elements here Good i s.place t
      (λ u. leads (s.place + 1) (pushed forms.Whole (record shape { operands = ts }))) f in
      let ws = reads_many here.tables.decls u.0 v (retyped t (forms.Many u.0) v u.1 is) in
      finish_ok here Good i s.place (read.elements v) ws.0
      (λ (l : List Value). on (push (flat.Integer (pos (length l))) (record s { operands = vs }))) ws.1
      (finish_push here Good i s.place turns (record shape { operands = ts }) (record s { operands = vs }) forms.Whole
      (flat.Integer (pos (length ws.0)))
      refl left (of_whole here.tables.decls (pos (length ws.0)))
      (fine_one here Good i s.place (s.place + 1) (pushed forms.Whole (record shape { operands = ts })) u.2)))

  pub sound_collect : Sound here code Good instr.Collect
  sound_collect turns shape s fits fine =
      let i : Instr = instr.Collect in
      finish_pop here Good i s.place turns shape s
      (λ t r. lead.top r.loops (λ l ls. with l.collected (λ c. where_so (same_form t c) (leads (s.place + 1) r))))
      (λ v r. move.of_top r.loops (λ loop loops. move.with_part (known loop.collected)
      (λ vs. on (record r { loops = record loop { collected = Some (vs ++ v ∷ []) } ∷ loops })))) fits fine
      (λ t ts v vs is left f.
      let l = fine_top here Good i s.place shape.loops
      (λ l ls. with l.collected (λ c. where_so (same_form t c) (leads (s.place + 1) (record shape { operands = ts }))))
      f in
      let c =
      fine_with here Good i s.place l.0.collected
      (λ c. where_so (same_form t c) (leads (s.place + 1) (record shape { operands = ts }))) l.3 in
      let w =
      fine_where here Good i s.place (same_form t c.0) (leads (s.place + 1) (record shape { operands = ts })) c.2 in
      finish_over here Good i s.place (LoopFits here.tables.decls) shape.loops l.0 l.1 s.loops here.below.loops
      (λ loop loops. move.with_part (known loop.collected)
      (λ xs. on (record s { operands = vs; loops = record loop { collected = Some (xs ++ v ∷ []) } ∷ loops }))) l.2
      left.loops
      (λ m ms are fit rest.
      let xs = collected_there here.tables.decls l.0.collected m.collected c.0 fit.collected c.1 in
      let next : Loop = record m { collected = Some (xs.0 ++ v ∷ []) } in
      finish_known here Good i s.place m.collected xs.0
      (λ (xs : List Value). on (record s { operands = vs; loops = record m { collected = Some (xs ++ v ∷ []) } ∷ ms }))
      xs.1
      (finish_on here Good i s.place turns (record shape { operands = ts })
      (record s { operands = vs; loops = next ∷ ms }) refl
      (loops_fit here turns (record shape { operands = ts }) (record s { operands = vs }) turns shape.loops (next ∷ ms)
      (unbound_fits here turns (record shape { operands = ts }) (record s { operands = vs }) left)
      (subst (λ (ls : List LoopShape). OnTop (LoopFits here.tables.decls) ls (next ∷ ms) here.below.loops) (sym l.2) (
        record {
          left = fit.left;
          collected = collected_so here.tables.decls l.0.collected c.0 (xs.0 ++ v ∷ []) c.1
              (all_then here.tables.decls c.0 xs.0 v xs.2 (retyped t c.0 v (same_is t c.0 w.0) is));
        },
        rest,
      ))
      (ap lefts (sym are) ∙ left.turns_are) left.around)
      (fine_one here Good i s.place (s.place + 1) (record shape { operands = ts }) w.1))))
