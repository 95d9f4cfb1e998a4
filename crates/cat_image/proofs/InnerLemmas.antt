-- Parts of what stands last, as they are put.
use Rattle.std.proofs.Common.{subst, ◌≡◌, ℕ, Bool, true, List, [], ◌∷◌, ◌++◌, Option, Some, None, refl, sym, ap, ◌∙◌}
use Rattle.std.specs.Prelude.{◌==◌, if◌then◌else◌}
use Rattle.std.proofs.lemmas.Bool.{eq-eqb}
use Rattle.cat_image.specs.declared.tables.ImageField.{ImageField}
use Rattle.cat_image.specs.declared.tables.ImageStructure.{ImageStructure}
use Rattle.cat_image.specs.declared.tables.ImageCase.{ImageCase}
use Rattle.cat_image.specs.declared.tables.ImageEnumeration.{ImageEnumeration}
use Rattle.cat_image.specs.declared.tables.ImageItem.{ImageItem}
use Rattle.cat_image.specs.declared.tables.ImageScope.{ImageScope}
use Rattle.cat_image.specs.declared.tables.ImageTables.{ImageTables}
use Rattle.cat_image.specs.declared.reading.Reading.{Reading}
use Rattle.cat_image.specs.inside.Reading.{with_last, inside, Takes}
use Rattle.cat_image.specs.inside.Putting.{with_structures, with_enumerations, with_scopes, put_field, put_case}
use Rattle.cat_image.specs.inside.Putting.{put_item}
use Rattle.cat_image.proofs.AcceptLemmas.{with_last_is}

takes_inside : (r : Reading) (k : ℕ) (o : Option ImageTables) (tables : ImageTables) → r.section ≡ k → o ≡ Some tables
    → Takes (inside r k o) true (record { tables = tables; instructions = r.instructions; section = r.section })
takes_inside r k o tables section some =
    let new : Reading = record { tables = tables; instructions = r.instructions; section = r.section } in
    let next : Reading = record { tables = tables; instructions = r.instructions; section = k } in
    let put : inside r k o ≡ Some next =
    ap (inside r k) some ∙ ap (λ (b : Bool). if b then Some next else None) (eq-eqb r.section k section) in
    let same : new ≡ next =
    ap (λ (n : ℕ). record { tables = tables; instructions = r.instructions; section = n }) section in
    subst (λ (p : Option Reading). Takes p true new) (sym put) (refl, same)

pub field_put : (r : Reading) (f : ImageField) (front new : List ImageStructure) (s : ImageStructure)
    (fields : List ImageField) → r.section ≡ 1 → r.tables.structures ≡ front ++ s ∷ [] → fields ≡ s.fields ++ f ∷ []
    → new ≡ front ++ record { name = s.name; fields = fields } ∷ []
    → Takes (put_field r f) true
    (record { tables = record r.tables { structures = new }; instructions = r.instructions; section = r.section })
field_put r f front new s fields section old more is =
    let add = λ (s : ImageStructure). record s { fields = s.fields ++ f ∷ [] } in
    let last : with_last add r.tables.structures ≡ Some new =
    ap (with_last add) old ∙ with_last_is add front s
    ∙ ap (λ (fs : List ImageField). Some (front ++ record { name = s.name; fields = fs } ∷ [])) (sym more)
    ∙ ap (λ (them : List ImageStructure). Some them) (sym is) in
    takes_inside r 1 (with_structures r.tables (with_last add r.tables.structures))
    (record r.tables { structures = new })
    section (ap (with_structures r.tables) last)

pub case_put : (r : Reading) (c : ImageCase) (front new : List ImageEnumeration) (e : ImageEnumeration)
    (cases : List ImageCase) → r.section ≡ 2 → r.tables.enumerations ≡ front ++ e ∷ [] → cases ≡ e.cases ++ c ∷ []
    → new ≡ front ++ record { name = e.name; cases = cases } ∷ []
    → Takes (put_case r c) true
    (record { tables = record r.tables { enumerations = new }; instructions = r.instructions; section = r.section })
case_put r c front new e cases section old more is =
    let add = λ (e : ImageEnumeration). record e { cases = e.cases ++ c ∷ [] } in
    let last : with_last add r.tables.enumerations ≡ Some new =
    ap (with_last add) old ∙ with_last_is add front e
    ∙ ap (λ (cs : List ImageCase). Some (front ++ record { name = e.name; cases = cs } ∷ [])) (sym more)
    ∙ ap (λ (them : List ImageEnumeration). Some them) (sym is) in
    takes_inside r 2 (with_enumerations r.tables (with_last add r.tables.enumerations))
    (record r.tables { enumerations = new })
    section (ap (with_enumerations r.tables) last)

pub item_put : (r : Reading) (i : ImageItem) (front new : List ImageScope) (s : ImageScope) (items : List ImageItem)
    → r.section ≡ 3 → r.tables.scopes ≡ front ++ s ∷ [] → items ≡ s.items ++ i ∷ []
    → new ≡ front ++ record { name = s.name; entry = s.entry; items = items } ∷ []
    → Takes (put_item r i) true
    (record { tables = record r.tables { scopes = new }; instructions = r.instructions; section = r.section })
item_put r i front new s items section old more is =
    let add = λ (s : ImageScope). record s { items = s.items ++ i ∷ [] } in
    let last : with_last add r.tables.scopes ≡ Some new =
    ap (with_last add) old ∙ with_last_is add front s
    ∙ ap (λ (them : List ImageItem). Some (front ++ record { name = s.name; entry = s.entry; items = them } ∷ []))
    (sym more)
    ∙ ap (λ (them : List ImageScope). Some them) (sym is) in
    takes_inside r 3 (with_scopes r.tables (with_last add r.tables.scopes)) (record r.tables { scopes = new })
    section (ap (with_scopes r.tables) last)
