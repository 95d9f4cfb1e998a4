-- What an expression means has its type: each form hands it on from its parts, and so each expression has it.
use Rattle.std.proofs.Common.{ℕ, List, Option, None}
use Rattle.cat_pos.specs.declared.pos.Pos.{Pos}
use Rattle.cat_value.specs.declared.ty.Ty.{Ty}
use Rattle.cat_value.specs.declared.decls.Decls.{Decls}
use Rattle.cat_value.specs.Laws.{AreSound}
use Rattle.cat_tree.specs.Accumulation.{accumulation}
use Rattle.cat_tree.specs.declared.name.Name.{Name}
use Rattle.cat_tree.specs.declared.name.CaseName.{CaseName}
use Rattle.cat_tree.specs.declared.name.Type as types
use Rattle.cat_tree.specs.declared.expression.SurfaceLiteral as tree
use Rattle.cat_tree.specs.declared.expression.Prefix.{Prefix}
use Rattle.cat_tree.specs.declared.expression.Operator.{Operator}
use Rattle.cat_tree.specs.declared.expression.Each as eaches
use Rattle.cat_tree.specs.declared.expression.Node.{Node}
use Rattle.cat_tree.specs.declared.expression.SurfaceField.{SurfaceField}
use Rattle.cat_tree.specs.declared.expression.SurfaceArm.{SurfaceArm}
use Rattle.cat_tree.specs.declared.expression.Node.TheVariants as leaf
use Rattle.cat_tree.specs.declared.expression.Node.TheViews as node
use Rattle.cat_tree.specs.declared.expression.Node.TheViews.{out-Node}
use Rattle.cat_scope.specs.Names.{Names}
use Rattle.cat_scope.specs.Fitting.{has_case}
use Rattle.std.specs.Prelude.{IsTrue}
use Rattle.cat_scope.proofs.Exported.{Each}
use Rattle.cat_names.specs.declared.typed.Typed.{Typed}
use Rattle.cat_names.specs.declared.typed.Local.{Local}
use Rattle.cat_names.specs.Naming.{case_found, case_first, structure_found, scope_found, names_in_scope}
use Rattle.cat_names.specs.Operations.{literal_written}
use Rattle.cat_names.specs.Compound.{branches_of}
use Rattle.cat_names.specs.Lookup.{type_names, type_found}
use Rattle.cat_names.specs.Meaning.{meant, name_alone, field_meant, arm_meant}
use Rattle.cat_names.specs.TypedMeanings.{HasItsType, IsTyped}
use Rattle.cat_names.proofs.OnFound.{on_then, on_both, on_any}
use Rattle.cat_names.proofs.Equations as equation
use Rattle.cat_names.proofs.LeafLaws.{on_as_expected, literal_has, name_has, alone_has, dotted_has}
use Rattle.cat_names.proofs.OperationLaws.{binary_has, prefixed_has, sum_has}
use Rattle.cat_names.proofs.PartLaws as parts
use Rattle.cat_names.proofs.ArmLaws.{case_there}
use Rattle.cat_names.proofs.FormLaws.{BothBranches, branches_have, if_has, test_has, match_has, list_has, over_has}
use Rattle.cat_names.proofs.FormLaws.{combine_has}
use Rattle.cat_names.proofs.CallLaws.{content_has, structure_has, scope_call_has, call_has}
use Rattle.cat_names.proofs.Induction.{induction}

module _ (ds : Decls) (sound : AreSound ds) (scope : ℕ) where
  abbrev ns : Names
  ns = names_in_scope ds scope

  abbrev Sound : Node → Type 0
  Sound e = parts.Sound ds sound scope (meant ns e)

  abbrev Has : List Local → Option Ty → Typed → Type 0
  Has ls ex = HasItsType ns ls ex

  abbrev Operand : List Local → Typed → Type 0
  Operand ls = IsTyped ns ls None

  on_literal : (l : tree.SurfaceLiteral) (p : Pos) → Sound (leaf.Literal l p)
  on_literal l p ls ex all h = rw (equation.meant_Literal ns l p ls ex)
      (on_as_expected ds sound scope ls ex _ (literal_has ds sound scope ls ex p (literal_written l)))

  on_name : (w : Name) → Sound (leaf.Name w)
  on_name w ls ex all h = rw (equation.meant_Name ns w ls ex)
      (on_as_expected ds sound scope ls ex _ (name_has ds sound scope ls ex all w))

  on_case : (c : CaseName) → Sound (leaf.Case c)
  on_case c ls ex all h = rw (equation.meant_Case ns c ls ex) (on_as_expected ds sound scope ls ex _
      (on_then (λ k. Unit {0}) (Has ls ex) (case_found ns c) _ (on_any (case_found ns c))
      (λ k h. alone_has ds sound scope ls ex (case_first c) k)))

  on_parens : (p : Pos) (e : Node) → Sound e → Sound (node.Parens p e)
  on_parens p e he ls ex all h = rw (equation.meant_Parens ns p e ls ex)
      (on_then (IsTyped ns ls ex) (IsTyped ns ls ex) (meant ns e ls ex) _ (he ls ex all h) (λ x hx. record {
        has = record { typed = hx.has.typed; placed = hx.has.placed; declared = hx.has.declared };
        fit = hx.fit;
      }))

  on_field : (e : Node) (w : Name) → Sound e → Sound (node.Field e w)
  on_field e w he ls ex all h = rw (equation.meant_Field ns e w ls ex)
      (on_as_expected ds sound scope ls ex _ (dotted_has ds sound scope ls ex w (meant ns e) (he ls None all tt)
      (name_alone (out-Node e))))

  on_prefixed : (o : Prefix) (p : Pos) (e : Node) → Sound e → Sound (node.Prefixed o p e)
  on_prefixed o p e he ls ex all h = rw (equation.meant_Prefixed ns o p e ls ex) (on_as_expected ds sound scope ls ex _
      (on_then (Operand ls) (Has ls ex) (meant ns e ls None) _ (he ls None all tt)
      (λ x hx. prefixed_has ns ls ex o p x hx)))

  on_sum : (p : Pos) (t : types.Type) (l : Node) → Sound l → Sound (node.Sum p t l)
  on_sum p t l hl ls ex all h = rw (equation.meant_Sum ns p t l ls ex) (on_as_expected ds sound scope ls ex _
      (on_both (λ u. Unit {0}) (Operand ls) (Has ls ex) (type_found (type_names ns.decls) t) (meant ns l ls None) _
      (on_any (type_found (type_names ns.decls) t)) (hl ls None all tt) (λ u x i hx. sum_has ns ls ex p u x hx)))

  on_content : (c : CaseName) (e : Node) → Sound e → Sound (node.Content c e)
  on_content c e he ls ex all h = rw (equation.meant_Content ns c e ls ex) (on_as_expected ds sound scope ls ex _
      (on_then (λ k. Unit {0}) (Has ls ex) (case_found ns c) _ (on_any (case_found ns c))
      (λ k i. content_has ds sound scope ls ex (case_first c) k (meant ns e) he all)))

  on_call : (w : Name) (args : List Node) → Each Sound args → Sound (node.Call w args)
  on_call w args each ls ex all h = rw (equation.meant_Call ns w args ls ex)
      (on_as_expected ds sound scope ls ex _ (call_has ds sound scope ls ex (meant ns) w args each all))

  on_binary : (o : Operator) (p : Pos) (a b : Node) → Sound a → Sound b → Sound (node.Binary o p a b)
  on_binary o p a b ha hb ls ex all h =
      rw (equation.meant_Binary ns o p a b ls ex) (on_as_expected ds sound scope ls ex _
      (on_both (Operand ls) (Operand ls) (Has ls ex) (meant ns a ls None) (meant ns b ls None) _ (ha ls None all tt)
      (hb ls None all tt) (λ x y hx hy. binary_has ns ls ex o p x y hx hy)))

  on_test : (e : Node) (p : Pos) (c : CaseName) → Sound e → Sound (node.Test e p c)
  on_test e p c he ls ex all h = rw (equation.meant_Test ns e p c ls ex) (on_as_expected ds sound scope ls ex _
      (on_both (Operand ls) (λ k. IsTrue (has_case ds k.0 k.1)) (Has ls ex) (meant ns e ls None) (case_found ns c) _
      (he ls None all tt) (case_there ds sound scope c) (λ x k hx there. test_has ds sound scope ls p ex x k hx
      there)))

  on_list : (p : Pos) (es : List Node) → Each Sound es → Sound (node.List p es)
  on_list p es each ls ex all h =
      rw (equation.meant_List ns p es ls ex) (list_has ds sound scope ls (meant ns) p es each ex all h)

  on_structure : (u : Name) (fs : List SurfaceField) → Each (λ f. Sound f.value) fs → Sound (node.Structure u fs)
  on_structure u fs each ls ex all h =
      rw (equation.meant_Structure ns u fs ls ex) (on_as_expected ds sound scope ls ex _
      (on_then (λ n. Unit {0}) (Has ls ex) (structure_found ns u) _ (on_any (structure_found ns u))
      (λ n i. structure_has ds sound scope ls ex (field_meant ns) u fs each all n)))

  on_scope_call : (p : Pos) (u : Name) (fs : List SurfaceField) (w : Name) → Each (λ f. Sound f.value) fs
      → Sound (node.ScopeCall p u fs w)
  on_scope_call p u fs w each ls ex all h =
      rw (equation.meant_ScopeCall ns p u fs w ls ex) (on_as_expected ds sound scope ls ex _
      (on_then (λ s. Unit {0}) (Has ls ex) (scope_found ns u) _ (on_any (scope_found ns u))
      (λ s i. scope_call_has ds sound scope ls ex (field_meant ns) p u fs w each all s)))

  on_if : (p : Pos) (c a b : Node) → Sound c → Sound a → Sound b → Sound (node.If p c a b)
  on_if p c a b hc ha hb ls ex all h = rw (equation.meant_If ns p c a b ls ex)
      (on_both (Operand ls) (BothBranches ds sound scope ls ex) (IsTyped ns ls ex) (meant ns c ls None)
      (branches_of (meant ns a) (meant ns b) ls ex) _
      (hc ls None all tt) (branches_have ds sound scope ls (meant ns a) (meant ns b) ha hb ex all h)
      (λ x xs hx hxs. if_has ds sound scope ls p ex x xs hx hxs))

  on_match : (p : Pos) (e : Node) (arms : List SurfaceArm) → Sound e → Each (λ a. Sound a.body) arms
      → Sound (node.Match p e arms)
  on_match p e arms he each ls ex all h = rw (equation.meant_Match ns p e arms ls ex)
      (on_then (Operand ls) (IsTyped ns ls ex) (meant ns e ls None) _ (he ls None all tt)
      (λ x hx. match_has ds sound scope ls (arm_meant ns) p arms each ex all h x hx))

  on_each : (k : eaches.Each) (p : Pos) (w : Name) (l e : Node) → Sound l → Sound e → Sound (node.Each k p w l e)
  on_each k p w l e hl he ls ex all h =
      rw (equation.meant_Each ns k p w l e ls ex) (on_as_expected ds sound scope ls ex _
      (on_then (Operand ls) (Has ls ex) (meant ns l ls None) _ (hl ls None all tt)
      (λ x hx. over_has ds sound scope ls k p w (meant ns e) he ex all x hx)))

  on_combine : (p : Pos) (w : Name) (l : Node) (acc : Name) (s e : Node) → Sound l → Sound s → Sound e
      → Sound (node.Combine (accumulation p w acc) l s e)
  on_combine p w l acc s e hl hs he ls ex all h =
      rw (equation.meant_Combine ns p w l acc s e ls ex) (on_as_expected ds sound scope ls ex _
      (on_both (Operand ls) (Operand ls) (Has ls ex) (meant ns l ls None) (meant ns s ls None) _ (hl ls None all tt)
      (hs ls None all tt) (λ x y hx hy. combine_has ds sound scope ls p w acc (meant ns e) he ex all x y hx hy)))

  -- each expression
  pub each_is_typed : (e : Node) → Sound e
  each_is_typed = induction Sound on_literal on_name on_case on_parens on_field on_prefixed on_sum on_content on_call
      on_binary
      on_test on_list on_structure on_scope_call on_if on_match on_each on_combine
