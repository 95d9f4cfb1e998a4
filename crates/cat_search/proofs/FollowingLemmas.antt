-- Answers from the first on.
use Rattle.std.proofs.Common.{◌≡◌, ℕ, nat_lt, Bool, true, IsTrue, List, [], ◌∷◌, ◌++◌, reverse, refl, sym, ap, ◌∙◌}
use Rattle.std.specs.List.{list_all}
use Rattle.std.proofs.lemmas.List.{reverse-append}
use Rattle.std.proofs.lemmas.List.Folds.{list_all-append}
use Rattle.cat_region.specs.Regions.{Constraints}
use Rattle.cat_guard.specs.declared.table.Atom.{Atom}
use Rattle.cat_guard.specs.Trees.{answering}
use Rattle.cat_guard.proofs.Exported.{both_true}
use Rattle.cat_search.specs.declared.way.Answer.{Answer}
use Rattle.cat_search.specs.Ways.{ask_below, led_to}
use Rattle.cat_search.specs.inside.Following.{following}
use Rattle.cat_search.proofs.WayAskedLemmas.{and_true}

pub ask_back : (bound : ℕ) (ns : List Answer) → IsTrue (ask_below bound (reverse ns)) → IsTrue (ask_below bound ns)
ask_back bound [] all = refl
ask_back bound (n ∷ ns) all =
    let test : Answer → Bool = λ m. nat_lt m.atom bound in
    let two = both_true (list_all test (reverse ns)) (list_all test (n ∷ []))
    (sym (list_all-append test (reverse ns) (n ∷ [])) ∙ ap (list_all test) (sym (reverse-append (n ∷ []) ns)) ∙ all) in
    and_true (nat_lt n.atom bound) (ask_below bound ns) (both_true (nat_lt n.atom bound) true two.1).0
    (ask_back bound ns two.0)

led_more : (atoms : List Atom) (base : Constraints) (way : List Answer) (n : Answer)
    → led_to atoms base (way ++ n ∷ []) ≡ led_to atoms (answering atoms base n.atom n.yes) way
led_more atoms base [] n = refl
led_more atoms base (m ∷ way) n = ap (λ r. answering atoms r m.atom m.yes) (led_more atoms base way n)

pub following_led : (atoms : List Atom) (base : Constraints) (ns : List Answer)
    → following atoms base ns ≡ led_to atoms base (reverse ns)
following_led atoms base [] = refl
following_led atoms base (n ∷ ns) =
    following_led atoms (answering atoms base n.atom n.yes) ns ∙ sym (led_more atoms base (reverse ns) n)
    ∙ ap (led_to atoms base) (sym (reverse-append (n ∷ []) ns))
