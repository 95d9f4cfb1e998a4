-- Amounts: what is read has their form, and goes as far as any amount that begins there.
use Rattle.std.proofs.Common.{◌≡◌, ◌≢◌, ℕ, ◌<◌, ◌≤◌, ◌⊎◌, Bool, true, false, ◌&&◌, ◌==◌, cond, List, [], ◌∷◌, ◌++◌, map}
use Rattle.std.proofs.Common.{length, drop, refl, sym, ap, ◌∙◌, subst, inl, inr, arith, append_assoc}
use Rattle.std.specs.Prelude.{codes}
use Rattle.std.specs.Char.{is_ascii_digit}
use Rattle.std.specs.List.{list_all, concat}
use Rattle.std.proofs.lemmas.Bool.Decides.{nat_tests}
use Rattle.cat_lex.specs.declared.form.Form.TheVariants.{Amount}
use Rattle.cat_lex.specs.Forms.{AreDigits, after_point, after_comma, is_group, IsAmount}
use Rattle.cat_lex.specs.inside.Reading.{skip, begins, is_pointed, skip_groups, skip_cents, amount_read}
use Rattle.cat_lex.proofs.Skips.{and_left, and_right, not_true, skip-append, skip_stops, skip_run, skip_same_or_shorter}
use Rattle.cat_lex.proofs.Skips.{run_some}
use Rattle.cat_lex.proofs.Goes.{Goes, Reaches}
use Rattle.cat_lex.proofs.NumberForms.{IsRead}

abbrev IsNear : List ℕ → List ℕ → Type 0
IsNear rest end = (end ≡ rest) ⊎ (length end < length rest)

near_near : (rest middle end : List ℕ) → IsNear rest middle → IsNear middle end → IsNear rest end
near_near rest middle end (inl e) (inl f) = inl (f ∙ e)
near_near rest middle end (inl e) (inr l) = inr (omega (arith, ap (λ (w : List ℕ). length w) e))
near_near rest middle end (inr k) (inl f) = inr (omega (arith, ap (λ (w : List ℕ). length w) f))
near_near rest middle end (inr k) (inr l) = inr (omega arith)

groups_by : (c x y z : ℕ) (cs : List ℕ) (b : Bool) → IsNear cs (skip_groups cs) → IsNear (c ∷ x ∷ y ∷ z ∷ cs)
    (cond b (skip_groups cs) (c ∷ x ∷ y ∷ z ∷ cs))
groups_by c x y z cs true (inl e) = inr (omega (arith, ap (λ (w : List ℕ). length w) e))
groups_by c x y z cs true (inr l) = inr (omega arith)
groups_by c x y z cs false n = inl refl

near_groups : (text : List ℕ) → IsNear text (skip_groups text)
near_groups [] = inl refl
near_groups (c ∷ []) = inl refl
near_groups (c ∷ x ∷ []) = inl refl
near_groups (c ∷ x ∷ y ∷ []) = inl refl
near_groups (c ∷ x ∷ y ∷ z ∷ cs) =
    groups_by c x y z cs (c == 44 && is_ascii_digit x && is_ascii_digit y && is_ascii_digit z) (near_groups cs)

cents_by : (text : List ℕ) (pointed two : Bool) → is_pointed text ≡ pointed
    → IsNear text (cond pointed (cond two (drop 3 text) (drop 2 text)) text)
cents_by text false two h = inl refl
cents_by [] true two h = cc
cents_by (c ∷ []) true two h = absurd (not_true (c == 46 && false) h (and_false (c == 46)))
  where
    and_false : (b : Bool) → (b && false) ≡ false
    and_false true = refl
    and_false false = refl
cents_by (c ∷ x ∷ []) true true h = inr (omega arith)
cents_by (c ∷ x ∷ []) true false h = inr (omega arith)
cents_by (c ∷ x ∷ y ∷ cs) true true h = inr (omega arith)
cents_by (c ∷ x ∷ y ∷ cs) true false h = inr (omega arith)

near_cents : (text : List ℕ) → IsNear text (skip_cents text)
near_cents text = cents_by text (is_pointed text) (begins is_ascii_digit (drop 2 text)) refl

-- after one digit of cents, a digit more makes two
one_cent : (c : ℕ) (rest : List ℕ) (b : Bool) → is_ascii_digit c ≡ true → begins is_ascii_digit rest ≡ b
    → IsNear rest (skip_cents (46 ∷ c ∷ rest))
one_cent c [] true h g = cc
one_cent c (d ∷ rest) true h g = rw h (rw g (inr (omega arith)))
one_cent c rest false h g = rw h (rw g (inl refl))

two_cents : (c d : ℕ) (rest : List ℕ) → is_ascii_digit c ≡ true → is_ascii_digit d ≡ true
    → skip_cents (46 ∷ c ∷ d ∷ rest) ≡ rest
two_cents c d rest h g = rw h (rw g refl)

digit_passes : (c : ℕ) (cs : List ℕ) → list_all is_ascii_digit (c ∷ cs) ≡ true → is_ascii_digit c ≡ true
digit_passes c cs h = and_left _ _ h

no_group : (text : List ℕ) → skip_groups (46 ∷ text) ≡ 46 ∷ text
no_group [] = refl
no_group (x ∷ []) = refl
no_group (x ∷ y ∷ []) = refl
no_group (x ∷ y ∷ z ∷ cs) = refl

cents_read : (cents rest : List ℕ) → list_all is_ascii_digit cents ≡ true → length cents ≤ 2
    → IsNear rest (skip_cents (skip_groups (after_point cents ++ rest)))
cents_read [] rest h short = near_near rest (skip_groups rest) _ (near_groups rest) (near_cents (skip_groups rest))
cents_read (c ∷ []) rest h short = subst (λ (t : List ℕ). IsNear rest (skip_cents t)) (sym (no_group (c ∷ rest)))
    (one_cent c rest (begins is_ascii_digit rest) (digit_passes c [] h) refl)
cents_read (c ∷ d ∷ []) rest h short = inl (ap skip_cents (no_group (c ∷ d ∷ rest))
    ∙ two_cents c d rest (digit_passes c (d ∷ []) h) (digit_passes d [] (and_right _ _ h)))
cents_read (c ∷ d ∷ e ∷ cents) rest h short = absurd (omega arith)

group_pass : (group rest : List ℕ) → is_group group ≡ true → skip_groups (after_comma group ++ rest) ≡ skip_groups rest
group_pass [] rest h = cc
group_pass (x ∷ []) rest h = cc
group_pass (x ∷ y ∷ []) rest h = cc
group_pass (x ∷ y ∷ z ∷ []) rest h =
    let d : list_all is_ascii_digit (x ∷ y ∷ z ∷ []) ≡ true = h in
    let first : is_ascii_digit x ≡ true = and_left _ _ d in
    let second : is_ascii_digit y ≡ true = and_left _ _ (and_right _ _ d) in
    let third : is_ascii_digit z ≡ true = and_left _ _ (and_right _ _ (and_right _ _ d)) in
    rw first (rw second (rw third refl))
group_pass (x ∷ y ∷ z ∷ w ∷ group) rest h =
    absurd (let long : (length (x ∷ y ∷ z ∷ w ∷ group) == 3) ≡ true = and_left _ _ h in grind (arith, nat_tests))

groups_pass : (groups : List (List ℕ)) (rest : List ℕ) → list_all is_group groups ≡ true
    → skip_groups (concat (map after_comma groups) ++ rest) ≡ skip_groups rest
groups_pass [] rest h = refl
groups_pass (group ∷ groups) rest h =
    ap skip_groups (append_assoc (after_comma group) (concat (map after_comma groups)) rest)
    ∙ (group_pass group (concat (map after_comma groups) ++ rest) (and_left _ _ h) ∙ groups_pass groups rest
    (and_right _ _ h))

-- what follows the digits of an amount
abbrev end_of : List ℕ → List ℕ
end_of text = skip_cents (skip_groups (skip is_ascii_digit text))

-- the digits run on only where neither groups nor cents follow
after_units : (units : List ℕ) (groups : List (List ℕ)) (cents rest : List ℕ) → list_all is_ascii_digit units ≡ true
    → list_all is_group groups ≡ true → list_all is_ascii_digit cents ≡ true → length cents ≤ 2
    → IsNear rest (end_of (units ++ (concat (map after_comma groups) ++ (after_point cents ++ rest))))
after_units units [] [] rest d g e short =
    rw (skip-append is_ascii_digit units rest d)
    (near_near rest (skip is_ascii_digit rest) _ (skip_same_or_shorter is_ascii_digit rest)
    (near_near (skip is_ascii_digit rest) (skip_groups (skip is_ascii_digit rest)) _
    (near_groups (skip is_ascii_digit rest)) (near_cents (skip_groups (skip is_ascii_digit rest)))))
after_units units [] (c ∷ cents) rest d g e short =
    rw (skip-append is_ascii_digit units (after_point (c ∷ cents) ++ rest) d) (cents_read (c ∷ cents) rest e short)
after_units units (group ∷ groups) cents rest d g e short =
    let run : skip is_ascii_digit (units ++ (concat (map after_comma (group ∷ groups)) ++ (after_point cents ++ rest)))
    ≡ concat (map after_comma (group ∷ groups)) ++ (after_point cents ++ rest) =
    skip-append is_ascii_digit units (concat (map after_comma (group ∷ groups)) ++ (after_point cents ++ rest)) d in
    let passed : skip_groups
    (skip is_ascii_digit (units ++ (concat (map after_comma (group ∷ groups)) ++ (after_point cents ++ rest))))
    ≡ skip_groups (after_point cents ++ rest) =
    ap skip_groups run ∙ groups_pass (group ∷ groups) (after_point cents ++ rest) g in
    rw passed (cents_read cents rest e short)

begins_units : (units rest : List ℕ) → AreDigits units → begins is_ascii_digit (units ++ rest) ≡ true
begins_units [] rest d = absurd (d.some refl)
begins_units (c ∷ cs) rest d = and_left _ _ d.digits

near_goes : (rest end : List ℕ) → IsNear rest end → Goes Amount rest (Amount, end)
near_goes rest end (inl e) = inl (ap (λ (w : List ℕ). (Amount, w)) e)
near_goes rest end (inr l) = inr l

pub amount_goes : (word rest : List ℕ) → IsAmount word → (after : List ℕ) × (word ++ rest ≡ 36 ∷ after)
    × Reaches Amount rest (amount_read after)
amount_goes word rest a =
    let after : List ℕ = a.units ++ (concat (map after_comma a.groups) ++ (after_point a.cents ++ rest)) in
    let first : begins is_ascii_digit (a.units ++ (concat (map after_comma a.groups) ++ (after_point a.cents ++ rest)))
    ≡ true = begins_units a.units _ a.some in (
      after,
      rw a.spelled (simp append_assoc),
      rw first (near_goes rest _ (after_units a.units a.groups a.cents rest a.some.digits a.grouped a.digits
          a.at_most_two)),
    )

record HasGroups (text rest : List ℕ) : Type 0 where
  groups : List (List ℕ)
  split : text ≡ concat (map after_comma groups) ++ rest
  grouped : list_all is_group groups ≡ true

no_groups : (text : List ℕ) → HasGroups text text
no_groups text = record { groups = []; split = refl; grouped = refl }

has_groups_by : (c x y z : ℕ) (cs : List ℕ) (b : Bool)
    → (c == 44 && is_ascii_digit x && is_ascii_digit y && is_ascii_digit z) ≡ b → HasGroups cs (skip_groups cs)
    → HasGroups (c ∷ x ∷ y ∷ z ∷ cs) (cond b (skip_groups cs) (c ∷ x ∷ y ∷ z ∷ cs))
has_groups_by c x y z cs false h g = no_groups (c ∷ x ∷ y ∷ z ∷ cs)
has_groups_by c x y z cs true h g =
    let third : is_ascii_digit z ≡ true = and_right _ _ h in
    let second : is_ascii_digit y ≡ true = and_right _ _ (and_left _ _ h) in
    let first : is_ascii_digit x ≡ true = and_right _ _ (and_left _ _ (and_left _ _ h)) in
    let tested : (c == 44) ≡ true = and_left _ _ (and_left _ _ (and_left _ _ h)) in
    let comma : c ≡ 44 = grind (arith, nat_tests) in
    record {
      groups = (x ∷ y ∷ z ∷ []) ∷ g.groups;
      split = rw comma (ap (λ (w : List ℕ). 44 ∷ x ∷ y ∷ z ∷ w) g.split);
      grouped = rw first (rw second (rw third g.grouped));
    }

has_groups : (text : List ℕ) → HasGroups text (skip_groups text)
has_groups [] = no_groups []
has_groups (c ∷ []) = no_groups (c ∷ [])
has_groups (c ∷ x ∷ []) = no_groups (c ∷ x ∷ [])
has_groups (c ∷ x ∷ y ∷ []) = no_groups (c ∷ x ∷ y ∷ [])
has_groups (c ∷ x ∷ y ∷ z ∷ cs) =
    has_groups_by c x y z cs (c == 44 && is_ascii_digit x && is_ascii_digit y && is_ascii_digit z) refl (has_groups cs)

record HasCents (text rest : List ℕ) : Type 0 where
  cents : List ℕ
  split : text ≡ after_point cents ++ rest
  digits : list_all is_ascii_digit cents ≡ true
  short : length cents ≤ 2

is_point_first : (c : ℕ) (cs : List ℕ) → is_pointed (c ∷ cs) ≡ true → c ≡ 46
is_point_first c cs h = grind (arith, nat_tests, and_left (c == 46) (begins is_ascii_digit cs) h)

has_cents_by : (text : List ℕ) (pointed two : Bool) → is_pointed text ≡ pointed → begins is_ascii_digit (drop 2 text)
    ≡ two → HasCents text (cond pointed (cond two (drop 3 text) (drop 2 text)) text)
has_cents_by text false two h g = record { cents = []; split = refl; digits = refl; short = omega arith }
has_cents_by [] true two h g = cc
has_cents_by (c ∷ []) true two h g =
    absurd (not_true (begins is_ascii_digit []) (and_right (c == 46) (begins is_ascii_digit []) h) refl)
has_cents_by (c ∷ x ∷ []) true true h g = cc
has_cents_by (c ∷ x ∷ cs) true false h g =
    let point : c ≡ 46 = is_point_first c (x ∷ cs) h in
    let first : is_ascii_digit x ≡ true = and_right _ _ h in
    record { cents = x ∷ []; split = rw point refl; digits = rw first refl; short = omega arith }
has_cents_by (c ∷ x ∷ y ∷ cs) true true h g =
    let point : c ≡ 46 = is_point_first c (x ∷ y ∷ cs) h in
    let first : is_ascii_digit x ≡ true = and_right _ _ h in
    record { cents = x ∷ y ∷ []; split = rw point refl; digits = rw first (rw g refl); short = omega arith }

has_cents : (text : List ℕ) → HasCents text (skip_cents text)
has_cents text = has_cents_by text (is_pointed text) (begins is_ascii_digit (drop 2 text)) refl refl

pub amount_sound : (text : List ℕ) → begins is_ascii_digit text ≡ true → IsRead Amount (36 ∷ text)
    (skip_cents (skip_groups (skip is_ascii_digit text)))
amount_sound text first =
    let run = skip_run is_ascii_digit text in
    let g = has_groups (skip is_ascii_digit text) in
    let e = has_cents (skip_groups (skip is_ascii_digit text)) in
    let some : run.run ≢ [] = run_some is_ascii_digit text (skip is_ascii_digit text) run.run run.split first
    (skip_stops is_ascii_digit text) in
    let whole : text ≡ run.run
    ++ (concat (map after_comma g.groups)
    ++ (after_point e.cents ++ skip_cents (skip_groups (skip is_ascii_digit text)))) =
    run.split ∙ ap (λ (w : List ℕ). run.run ++ w) (g.split ∙ ap (λ (w : List ℕ). concat (map after_comma g.groups) ++ w)
    e.split) in
    record {
      word = codes "$" ++ (run.run ++ (concat (map after_comma g.groups) ++ after_point e.cents));
      split = ap (λ (w : List ℕ). 36 ∷ w) whole ∙ sym (simp append_assoc);
      formed = record {
        units = run.run;
        groups = g.groups;
        cents = e.cents;
        some =
            record { some = some; digits = run.passes };
        grouped = g.grouped;
        digits = e.digits;
        at_most_two =
            e.short;
        spelled = refl;
      };
    }
