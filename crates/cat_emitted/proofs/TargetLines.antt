-- The texts of targets that are variables are names.
use Rattle.std.proofs.Common.{◌≡◌, ℕ, true, List, [], ◌∷◌, ◌++◌, length, Option, Some, None, slice_get, refl, sym, ap}
use Rattle.std.proofs.Common.{◌∙◌}
use Rattle.std.proofs.Common.{subst}
use Rattle.std.specs.Prelude.{codes}
use Rattle.cat_value.specs.declared.declaration.ItemDecl.{ItemDecl}
use Rattle.cat_value.specs.declared.declaration.Scope.{Scope}
use Rattle.cat_value.specs.declared.decls.Decls.{Decls}
use Rattle.cat_value.specs.declared.outcome.Target.{Target}
use Rattle.cat_answer.specs.Answer.{target_text, item_text}
use Rattle.cat_code.specs.declared.code.Tables.{Tables}
use Rattle.cat_code.specs.Places.{target_decl}
use Rattle.cat_image.specs.Words.{Text, has_bytes, is_name}
use Rattle.cat_image.specs.Listed.{is_line}
use Rattle.cat_emitted.specs.Spelled.{AreSpelledDecls, IsSpelledItem, IsSpelledScope}
use Rattle.cat_lower.specs.Files.{IsVariableTarget}
use Rattle.cat_emitted.proofs.ListFacts.{all_at}
use Rattle.cat_emitted.proofs.WordFacts.{is_unparted, type_inner, part_inner, type_line, part_line, word_some, name_of}
use Rattle.cat_emitted.proofs.WordFacts.{unparted_append, line_append}
use Rattle.cat_emitted.proofs.LineFacts.{plain_line}
use Rattle.cat_emitted.proofs.TargetFacts.{IsItemAt, item_there, inner_there, place_text, inner_text}

-- a text that is one word and a line
pub record IsNameLine (text : Text) : Type 0 where
  pub some : has_bytes text ≡ true
  pub inner : is_unparted text ≡ true
  pub line : is_line text ≡ true

some_append : (one other : Text) → has_bytes one ≡ true → has_bytes (one ++ other) ≡ true
some_append [] other some = cc some
some_append (b ∷ bs) other some = refl

-- names with a dot between
dotted : (one other : Text) → IsNameLine one → IsNameLine other → IsNameLine (one ++ (codes "." ++ other))
dotted one other a b = record {
  some = some_append one (codes "." ++ other) a.some;
  inner = unparted_append one (codes "." ++ other) a.inner (unparted_append (codes ".") other refl b.inner);
  line = line_append one (codes "." ++ other) a.line
      (line_append (codes ".") other (plain_line (codes ".") refl) b.line);
}

module _ (code : Tables) (files : List Text) (spelled : AreSpelledDecls code.decls)
    (one_entry_each : length code.scopes ≡ length code.decls.scopes) where
  abbrev ds : Decls
  ds = code.decls

  scope_named : (n : ℕ) (s : Scope) → slice_get ds.scopes n ≡ Some s → IsNameLine s.name
  scope_named n s at =
      let word = (all_at IsSpelledScope ds.scopes n s spelled.scopes at).name in
      record { some = word_some _ s.name word.word; inner = type_inner s.name word; line = type_line s.name word }

  item_named : (n k : ℕ) (i : ItemDecl) (at : IsItemAt ds n k i) → IsNameLine i.name
  item_named n k i at =
      let scope = all_at IsSpelledScope ds.scopes n at.owner spelled.scopes at.owner_at in
      let word = (all_at IsSpelledItem at.owner.items k i scope.items at.item_at).name in
      record { some = word_some _ i.name word.word; inner = part_inner i.name word; line = part_line i.name word }

  pub target_line : (target : Target) → IsVariableTarget ds target → IsNameLine (target_text ds target)
  target_line target v = by target.inner refl v.declared
    where
      by : (o : Option ℕ) → target.inner ≡ o → target_decl ds target.scope target.item o ≡ Some v.item
          → IsNameLine (target_text ds target)
      by None none g =
          let at = item_there ds target.scope target.item v.item g in
          subst IsNameLine
          (sym (place_text code files one_entry_each target v.item at
          ∙ ap (λ (o : Option ℕ). at.owner.name ++ (codes "." ++ item_text ds v.item o)) none))
          (dotted at.owner.name v.item.name (scope_named target.scope at.owner at.owner_at)
          (item_named target.scope target.item v.item at))
      by (Some inner) some g =
          let at = inner_there ds target.scope target.item inner v.item g in
          subst IsNameLine
          (sym (place_text code files one_entry_each target at.caller at.caller_at
          ∙ ap (λ (o : Option ℕ). at.caller_at.owner.name ++ (codes "." ++ item_text ds at.caller o)) some
          ∙ ap (λ (x : Text). at.caller_at.owner.name ++ (codes "." ++ x))
          (inner_text code files one_entry_each at.caller v.item at.called inner at.calls at.inner_at)))
          (dotted at.caller_at.owner.name (at.caller.name ++ (codes "." ++ v.item.name))
          (scope_named target.scope at.caller_at.owner at.caller_at.owner_at)
          (dotted at.caller.name v.item.name (item_named target.scope target.item at.caller at.caller_at)
          (item_named at.called inner v.item at.inner_at)))

  pub target_name : (target : Target) → IsVariableTarget ds target → is_name (target_text ds target) ≡ true
  target_name target v = let t = target_line target v in name_of (target_text ds target) t.some t.inner
