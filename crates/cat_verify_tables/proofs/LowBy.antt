-- Types that measures find low or too high.
use Rattle.std.proofs.Common.{◌≡◌, ℕ, List, subst}
use Rattle.cat_scope.specs.Names.{AllHave}
use Rattle.cat_value.specs.declared.declaration.Scope.{Scope}
use Rattle.cat_value.specs.declared.table.TypeHeights.{TypeHeights}
use Rattle.cat_verify_tables.specs.declared.declared.Declaring.{Declaring}
use Rattle.cat_verify_tables.specs.declared.declared.Headers.{Headers}
use Rattle.cat_verify_tables.specs.declared.heights.Measures.{Measures}
use Rattle.cat_verify_tables.specs.declared.refusal.TableRefusal.{TableRefusal}
use Rattle.cat_verify_tables.specs.inside.Causes.{IsFaultyIn, Refuses}
use Rattle.cat_verify_tables.specs.inside.HighWords.{AreLowCases, AreLowFields, AreLowItems, HasHighItem}
use Rattle.cat_verify_tables.specs.inside.LowWords.{AreLow, AreMeasuresOf, HasHighPart}
use Rattle.cat_verify_tables.specs.inside.LowWords as high
use Rattle.cat_verify_tables.specs.inside.Ordering.{items_of}
use Rattle.cat_verify_tables.proofs.CauseLemmas.{refuses_more}

module _ (m : Measures) (parts : Declaring) (are : AreMeasuresOf parts m) (scopes : List Scope)
    (scopes_are : scopes ≡ parts.scopes) where
  pub low_by : (heights : TypeHeights) → m.heights ≡ heights → AllHave (AreLowFields m) parts.structures
      → AllHave (AreLowCases m) parts.enumerations → AllHave (AreLowItems m) scopes → AreLow parts heights
  low_by heights heights_are structures enumerations low = record {
    measures = m;
    are = are;
    heights_are = heights_are;
    structures = structures;
    enumerations = enumerations;
    scopes = subst (AllHave (AreLowItems m)) scopes_are low;
  }

  pub high_scopes : (headers : Headers) (first : ℕ) (why : TableRefusal)
      → Refuses (IsFaultyIn items_of (λ _. HasHighItem m) headers.scopes scopes) why
      → Refuses (HasHighPart parts headers first) why
  high_scopes headers first = refuses_more (IsFaultyIn items_of (λ _. HasHighItem m) headers.scopes scopes)
      (HasHighPart parts headers first)
      (λ n faulty. high.scope m are
      (subst (λ (xs : List Scope). IsFaultyIn items_of (λ _. HasHighItem m) headers.scopes xs n) scopes_are faulty))
