-- Wrong items make lines bad.
use Rattle.std.proofs.Common.{◌≡◌, ◌≤◌, ◌+◌, ◌⊎◌, ℕ, true, false, List, [], ◌∷◌, ◌++◌, length, take, map}
use Rattle.std.proofs.Common.{Some}
use Rattle.std.proofs.Common.{slice_get, inl, inr, refl, sym, ap, ◌∙◌, subst, arith}
use Rattle.std.specs.Prelude.{codes, flat_map}
use Rattle.std.specs.Option.{is_some}
use Rattle.std.specs.List.{AllByRecursion, AllZip}
use Rattle.std.proofs.lemmas.List.{length-map}
use Rattle.cat_scope.specs.Names.{IsOneOf}
use Rattle.cat_value.specs.declared.ty.Ty.{Ty}
use Rattle.cat_value.specs.declared.ty.Ty.TheVariants as flat
use Rattle.cat_names.specs.Limits.{most_items}
use Rattle.cat_image.specs.declared.row.Row.{Row}
use Rattle.cat_image.specs.declared.tables.ImageKind.{ImageKind}
use Rattle.cat_image.specs.declared.tables.ImageKind.TheVariants as kind
use Rattle.cat_image.specs.declared.tables.ImageItem.{ImageItem}
use Rattle.cat_image.specs.declared.tables.ImageScope.{ImageScope}
use Rattle.cat_image.specs.declared.tables.ImageTables.{ImageTables}
use Rattle.cat_image.specs.Words.{Text}
use Rattle.cat_image.specs.Rows.{scope_rows}
use Rattle.cat_verify_tables.specs.declared.scoping.Known.{Known}
use Rattle.cat_verify_tables.specs.declared.holding.Held.{Held}
use Rattle.cat_verify_tables.specs.TypeWords.{IsPartName}
use Rattle.cat_verify_tables.specs.RowFronts.{Open, open_in}
use Rattle.cat_verify_tables.specs.WrongParts.{IsLow, IsVariable, IsWrongItem, IsWrongName}
use Rattle.cat_verify_tables.specs.WrongParts as wrong
use Rattle.cat_verify_tables.specs.WrongTables.{IsBadTable}
use Rattle.cat_verify_tables.specs.inside.Causes.{IsFaultyIn, lines_in}
use Rattle.cat_verify_tables.specs.inside.NamedWords.{item_count, names_in}
use Rattle.cat_verify_tables.specs.inside.DeclaredWords.{scope_name}
use Rattle.cat_verify_tables.specs.inside.FoundPlaces.{is_found}
use Rattle.cat_verify_tables.specs.inside.ItemWords.{IsHeldOf, HoldsNothing, IsWrongWhat, IsWrongOrLateItem}
use Rattle.cat_verify_tables.specs.inside.ItemWords.{IsWrongScope}
use Rattle.cat_verify_tables.specs.inside.PartWords.{Spells}
use Rattle.cat_verify_tables.proofs.BadLemmas as bad
use Rattle.cat_verify_tables.proofs.BadLemmas.{bad_at}
use Rattle.cat_verify_tables.proofs.BadScopes.{item_bad, item_front, third}
use Rattle.cat_verify_tables.proofs.FrontLemmas.{open_scope, opened}
use Rattle.cat_verify_tables.proofs.KnownLemmas.{Knows, known_spelled}
use Rattle.cat_verify_tables.proofs.NameLemmas.{not_one_of}
use Rattle.cat_verify_tables.proofs.PlaceLemmas.{lost}

name_there : (scopes : List ImageScope) (s : ImageScope) → IsOneOf s scopes → IsOneOf s.name (map scope_name scopes)
name_there [] s one = absurd one
name_there (r ∷ scopes) s (inl same) = inl (ap scope_name same)
name_there (r ∷ scopes) s (inr more) = inr (name_there scopes s more)

module _ (tables : ImageTables) (known : Known) (knows : Knows tables known.types)
    (files : known.files ≡ length tables.files) (scopes : names_in known.scopes ≡ map scope_name tables.scopes) where
  -- what a variable may be is held
  params_spelled : (params : List Text) → AllByRecursion (IsLow tables) params
      → (ts : List Ty) × AllZip (Spells known.types) params ts
  params_spelled [] all = ([], tt)
  params_spelled (p ∷ params) all =
      let one = known_spelled tables known.types knows p all.0.known all.0.low in
      let more = params_spelled params all.1 in (one.0 ∷ more.0, (one.1, more.1))

  variable_held : (what : Text) → IsVariable tables what → (held : Held) × IsHeldOf known.types what held
  variable_held what v = by v.ty_is
    where
      params : (ts : List Ty) × AllZip (Spells known.types) v.params ts
      params = params_spelled v.params v.params_are

      by : (v.ty ≡ codes "condition") ⊎ IsLow tables v.ty → (held : Held) × IsHeldOf known.types what held
      by (inl condition) = (
        record { ty = flat.Boolean; condition = true; params = params.0 },
        record {
          text = v.ty;
          texts = v.params;
          what_is = v.what_is;
          ty_is = (condition, refl);
          params_are = record { each = params.1; few = v.few };
        },
      )
      by (inr low) =
          let one = known_spelled tables known.types knows v.ty low.known low.low in (
            record { ty = one.0; condition = false; params = params.0 },
            record {
              text = v.ty;
              texts = v.params;
              what_is = v.what_is;
              ty_is = one.1;
              params_are = record { each = params.1; few = v.few };
            },
          )

  no_variable : (what : Text) → HoldsNothing known.types what → IsVariable tables what → ⊥
  no_variable what none v = let it = variable_held what v in none it.0 it.1

  what_wrong : (front : List Row) (x : ImageItem) (k : ImageKind) → x.kind ≡ k → IsWrongWhat known x.what k
      → IsWrongItem tables front x
  what_wrong front x kind.Called is none = wrong.called is (λ s one same.
      not_one_of known.scopes x.what (ap is_some none) (subst (λ (names : List Text). IsOneOf x.what names) (sym scopes)
      (subst (λ (w : Text). IsOneOf w (map scope_name tables.scopes)) same (name_there tables.scopes s one))))
  what_wrong front x kind.Input is none = wrong.variable (λ same. cc (sym is ∙ same)) (no_variable x.what none)
  what_wrong front x kind.Output is none = wrong.variable (λ same. cc (sym is ∙ same)) (no_variable x.what none)
  what_wrong front x kind.Internal is none = wrong.variable (λ same. cc (sym is ∙ same)) (no_variable x.what none)
  what_wrong front x kind.Context is none = wrong.variable (λ same. cc (sym is ∙ same)) (no_variable x.what none)
  what_wrong front x kind.InputOutput is none = wrong.variable (λ same. cc (sym is ∙ same)) (no_variable x.what none)
  what_wrong front x kind.ContextOutput is none =
      wrong.variable (λ same. cc (sym is ∙ same)) (no_variable x.what none)

  item_wrong : (front : List Row) (name : Text) (before : List ImageItem) (x : ImageItem)
      → open_in front ≡ opened name (map (λ (i : ImageItem). i.name) before) → IsWrongOrLateItem known before x
      → IsWrongItem tables front x
  item_wrong front name before x opens (inl many) =
      let count = length-map before (λ (i : ImageItem). i.name) in wrong.too_many
      (subst (λ (o : Open). most_items ≤ length o.parts) (sym opens) (omega (arith, many, count)))
  item_wrong front name before x opens (inr (inl fault)) =
      wrong.name (subst (λ (o : Open). IsWrongName IsPartName o.parts x.name) (sym opens) fault)
  item_wrong front name before x opens (inr (inr (inl missed))) =
      wrong.lost (lost tables x.pos (ap (λ n. is_found n x.pos) (sym files) ∙ missed))
  item_wrong front name before x opens (inr (inr (inr none))) = what_wrong front x x.kind refl none

  scope_wrong : (k : ℕ) (s : ImageScope) (line : ℕ) → slice_get tables.scopes k ≡ Some s
      → IsWrongScope known s (third tables + lines_in item_count (take k tables.scopes)) line → IsBadTable tables line
  scope_wrong k s line at faulty = bad_at tables
      (third tables + lines_in item_count (take k tables.scopes) + 1 + faulty.index) line (sym faulty.line_is)
      (item_bad tables k s faulty.index faulty.entry at faulty.at
      (item_wrong (item_front tables k s faulty.index) s.name (take faulty.index s.items) faulty.entry
      (open_scope (bad.files tables ++ bad.structures tables ++ bad.enumerations tables
      ++ flat_map scope_rows (take k tables.scopes)) s.name s.entry (take faulty.index s.items)) faulty.fault))

  pub scope_bad : (line : ℕ) → IsFaultyIn item_count (λ _. IsWrongScope known) (third tables) tables.scopes line
      → IsBadTable tables line
  scope_bad line faulty = scope_wrong faulty.index faulty.entry line faulty.at faulty.fault
