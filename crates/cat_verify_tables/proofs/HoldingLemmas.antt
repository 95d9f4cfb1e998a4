-- Texts that tell what variables hold.
use Rattle.std.proofs.Common.{◌≡◌, ℕ, Bool, true, false, List, [], ◌∷◌}
use Rattle.std.proofs.Common.{◌++◌, drop, Some, None, Result, Ok, Err, refl, sym, ap, ◌∙◌, subst}
use Rattle.std.proofs.Common.{arith, append-nil}
use Rattle.std.specs.Prelude.{codes, IfOk, IfErr}
use Rattle.cat_value.specs.declared.ty.Ty.{Ty}
use Rattle.cat_names.specs.Limits.{most_parameters}
use Rattle.cat_image.specs.Words.{Text}
use Rattle.cat_image.specs.inside.Reads.{cut}
use Rattle.cat_image.proofs.CutLemmas.{IsCutTo, cut_told, cut_at}
use Rattle.cat_verify_tables.specs.declared.types.TypeNames.{TypeNames}
use Rattle.cat_verify_tables.specs.declared.holding.Held.{Held}
use Rattle.cat_verify_tables.specs.WrongParts.{params_text, more_params}
use Rattle.cat_verify_tables.specs.inside.TypeNaming.{listed}
use Rattle.cat_verify_tables.specs.inside.TypeNaming.{IsBehind}
use Rattle.cat_verify_tables.specs.inside.ItemWords.{IsHeldType, IsHeldOf, HoldsNothing}
use Rattle.cat_verify_tables.specs.inside.HeldWords.{ArePlain, IsHeldBase, HoldsNoBase}
use Rattle.cat_verify_tables.specs.inside.HeldWords.{AreParamsIn}
use Rattle.cat_verify_tables.proofs.HeldLemmas.{listed_both, IsNoList}
use Rattle.cat_verify_tables.specs.inside.HeldWords.{IsHeldBare, HoldsNoneWith}
use Rattle.cat_verify_tables.specs.inside.HeldWords as lacking
use Rattle.cat_verify_tables.proofs.HeldLemmas.{no_base, held_split, parted_at, whole_none, IsParted}
use Rattle.cat_verify_tables.proofs.ParamLemmas.{texts_are, params_in}

-- ---- what is held

pub held_whole : (types : TypeNames) (what : Text) (lists : ℕ) (rest : Text) (condition : Bool) (ty : Ty)
    → IsBehind what lists rest → IsHeldBase types lists rest condition ty
    → IsHeldOf types what (record { ty = ty; condition = condition; params = [] })
held_whole types what lists rest condition ty behind base = record {
  text = what;
  texts = [];
  what_is = sym (append-nil what);
  ty_is = by condition base;
  params_are = record { each = tt; few = omega arith };
}
  where
    by : (c : Bool) → IsHeldBase types lists rest c ty → IsHeldType types what c ty
    by true held = (behind.text_is ∙ ap (λ (n : ℕ). listed n rest) held.0 ∙ held.1, held.2)
    by false held = record { lists = lists; base = rest; behind = behind; found_is = sym held }

no_blank_list : (base : Text) → cut 32 base ≡ None → IsNoList base
unfolding cut
no_blank_list base none rest is =
    absurd (cc (sym none ∙ ap (cut 32) is ∙ cut_at 32 (codes "list") (codes "of " ++ rest) refl))

pub held_parted : (types : TypeNames) (what : Text) (lists : ℕ) (rest : Text) (p : Text × Text) (text : Text)
    (held : Held) → IsBehind what lists rest → cut 32 rest ≡ Some p → p.1 ≡ codes "of " ++ text
    → IsHeldBase types lists p.0 held.condition held.ty → AreParamsIn types text held.params
    → IsHeldOf types what held
held_parted types what lists rest p text held behind at more base params =
    let texts = texts_are most_parameters text params.texts params.parted in
    let told : IsCutTo 32 rest (Some p) = subst (IsCutTo 32 rest) at (cut_told 32 rest) in
    let tail : 32 ∷ p.1 ≡ params_text params.texts =
    ap (λ (t : Text). 32 ∷ t) (more ∙ ap (λ (t : Text). codes "of " ++ t) texts.text_is)
    ∙ sym (ap params_text texts.are) in
    record {
      text = listed lists p.0;
      texts = params.texts;
      what_is = behind.text_is ∙ ap (listed lists) (told.0 ∙ ap (λ (t : Text). p.0 ++ t) tail)
          ∙ listed_both lists p.0 (params_text params.texts);
      ty_is = by held.condition told.2 base;
      params_are = record { each = params.each; few = texts.few };
    }
  where
    by : (c : Bool) → cut 32 p.0 ≡ None → IsHeldBase types lists p.0 c held.ty
        → IsHeldType types (listed lists p.0) c held.ty
    by true blank own = (ap (λ (n : ℕ). listed n p.0) own.0 ∙ own.1, own.2)
    by false blank own = record {
      lists = lists;
      base = p.0;
      behind = record { text_is = refl; most = behind.most; all = λ low. no_blank_list p.0 blank };
      found_is = sym own;
    }

-- ---- what is not held

module _ (types : TypeNames) (plain : ArePlain types) (what : Text) (lists : ℕ) (rest : Text)
    (behind : IsBehind what lists rest) where
  pub nothing_whole : cut 32 rest ≡ None → HoldsNoBase types lists rest → HoldsNothing types what
  nothing_whole at none held is =
      whole_none types lists rest held none at plain (held_split types plain what lists rest held behind is)

  pub nothing_parted : (p : Text × Text) → cut 32 rest ≡ Some p → HoldsNoneWith types lists p.0 p.1
      → HoldsNothing types what
  nothing_parted p at none held is =
      by none (parted_at types plain lists rest p held at (held_split types plain what lists rest held behind is))
    where
      by : HoldsNoneWith types lists p.0 p.1 → IsParted types lists p.0 p.1 held → ⊥
      by (lacking.own none) it = no_base types lists p.0 held.condition held.ty none it.own
      by (lacking.word none) it = none (it.first ++ more_params it.others) it.more_is
      by (lacking.params text more none) it =
          let same : it.first ++ more_params it.others ≡ text = ap (drop 3) (sym it.more_is ∙ more) in
          none held.params (subst (λ (t : Text). AreParamsIn types t held.params) same
          (params_in types plain it.first it.others held.params it.params))

-- what is told of an outcome leads to more
pub if_ok_led : {A E : Type 0} (P Q : A → Type 0) → ((a : A) → P a → Q a) → (r : Result A E) → IfOk r P → IfOk r Q
if_ok_led P Q led (Ok a) is = led a is
if_ok_led P Q led (Err e) is = is

pub if_err_led : {A E : Type 0} (P Q : E → Type 0) → ((e : E) → P e → Q e) → (r : Result A E) → IfErr r P → IfErr r Q
if_err_led P Q led (Ok a) is = is
if_err_led P Q led (Err e) is = led e is

pub bare_is : (types : TypeNames) (what : Text) (lists : ℕ) (rest : Text) (held : Held) → IsBehind what lists rest
    → IsHeldBare types lists rest held → IsHeldOf types what held
bare_is types what lists rest held behind bare =
    subst (λ (ts : List Ty). IsHeldOf types what (record { ty = held.ty; condition = held.condition; params = ts }))
    (sym bare.none) (held_whole types what lists rest held.condition held.ty behind bare.own)
