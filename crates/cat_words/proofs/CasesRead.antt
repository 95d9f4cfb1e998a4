-- The number of cases that is read is the one that the option's text spells, from 1 to 1,000,000.
use Rattle.std.proofs.Common.{◌≡◌, ◌≤◌, ◌<◌, ◌&&◌, not, ℕ, zero, suc, Bool, true, false, List, [], ◌∷◌, length, map}
use Rattle.std.proofs.Common.{Option, None, Some, Result, Ok, Err, unwrap_or, slice_get, slice_index, codes}
use Rattle.std.proofs.Common.{refl, sym, ap, ap₂, ◌∙◌, subst, inl, inr, arith, true≢false}
use Rattle.std.specs.Prelude.{pos, IfSome, option_and_then, option_map}
use Rattle.std.specs.List.{All, slice_index_or}
use Rattle.std.specs.Str.{bytes_eq}
use Rattle.std.specs.Borrow.{Bor}
use Rattle.std.specs.Str.Parse.{ParsesUnsigned, starts_with_minus}
use Rattle.std.proofs.lemmas.Int.{ints}
use Rattle.std.proofs.lemmas.List.{get_or-map, length-map}
use Rattle.std.proofs.lemmas.List.Elements.{All-get_or}
use Rattle.std.proofs.lemmas.Slice.Eq.{bytes_eq-Decides}
use Rattle.clap.specs.Words.{App, IsParsedFrom, IsSignedIn, ReadsOne, Rule, Text, app_of, args_of, found_of, groups_of}
use Rattle.clap.specs.Words.{matched_of, new_rule, one_of, one_text, parser_of, read_as, reading_of, rows_of, rule_of}
use Rattle.clap.specs.Words.{without_minus, NamesNoGroup}
use Rattle.clap.specs.Facts.{Entry, EntryPasses, PassesArg, ValuesPass, parser_of_value}
use Rattle.clap.specs.Simple.{has_plain_fields}
use Rattle.clap.specs.Walk.{is_simple_arg}
use Rattle.clap.specs.Built.{IsAuto}
use Rattle.clap.specs.Values.{Accepts}
use Rattle.clap.specs.declared.builder.arg.Arg.{Arg}
use Rattle.clap.specs.declared.builder.command.Command.{Command}
use Rattle.clap.specs.declared.builder.command.Command.TheViews.{out-Command}
use Rattle.clap.specs.declared.builder.value_parser.Reading.TheVariants.{WithoutMinus}
use Rattle.clap.specs.declared.builder.value_parser.ValueParser.{ValueParser}
use Rattle.clap.specs.declared.builder.value_parser.ValueParser.TheVariants.{Signed}
use Rattle.clap.specs.declared.parser.matches.ArgMatches.{ArgMatches}
use Rattle.clap.specs.declared.parser.matches.MatchedArg.{MatchedArg}
use Rattle.clap.proofs.CallerLemmas.{entry_by_id, same_rules_by_id}
use Rattle.clap.proofs.SimpleLemmas.{is_nil}
use Rattle.clap.proofs.WalkLemmas.{one_text-rows}
use Rattle.cat_words.specs.Asked.{IsCases, SpellsCases}
use Rattle.cat_words.specs.TheCommand.{cases_rule, required_rule, the_command}

-- ---- texts

-- a text that doesn't begin with a minus is read as it is
kept : (s : Text) → starts_with_minus s ≡ false → without_minus s ≡ s
kept [] plain = refl
kept (x ∷ xs) plain = rw plain refl

-- a text that passed the option's parser
passed : (s : Text) → IsSignedIn (pos 1) (pos 1000000) s → SpellsCases (without_minus s)
passed s is = by (starts_with_minus s) refl
  where
    by : (b : Bool) → starts_with_minus s ≡ b → SpellsCases (without_minus s)
    by true minus =
        let low = rw minus at is.2 in
        absurd (omega (arith, ints))
    by false plain =
        let numeral = rw plain at is.0 in
        let low = rw plain at is.2 in
        let high = rw plain at is.3 in
        rw (kept s plain) (numeral, omega (arith, ints), omega (arith, ints))

-- what such a text is read as
pub cases_read : {E : Type 0} (G : List ℕ → Result ℕ E → Type 0) (text : Option Text) (r : Option ℕ) (n : ℕ)
    → ((u : List ℕ) (x : Result ℕ E) → G u x → ParsesUnsigned 32 10 u x)
    → IfSome text SpellsCases → (text ≡ None → r ≡ None) → ((t : List ℕ) → text ≡ Some t → ReadsOne G t r)
    → n ≡ unwrap_or r 100000 → IsCases text n
cases_read G None r n only spells none some is = is ∙ ap (λ o. unwrap_or o 100000) (none refl)
cases_read G (Some t) (Some v) n only spells none some is = (spells, is ∙ (only t (Ok v) (some t refl)).1)
cases_read G (Some t) None n only spells none some is =
    let read = some t refl in
    absurd (only t (Err read.0) read.1 (spells.0, omega (arith, spells.2)))

pub cases_within : (text : Option Text) (n : ℕ) → IsCases text n → (1 ≤ n) × (n ≤ 1000000)
cases_within None n is = (omega (arith, is), omega (arith, is))
cases_within (Some t) n is = (omega (arith, is.1, is.0.1), omega (arith, is.1, is.0.2))

at_first : (P : Bor Text → Type 0) (vs : List (Bor Text)) (s : Bor Text) → All P vs → slice_get vs 0 ≡ Some s → P s
at_first P [] s all is = cc is
at_first P (v ∷ vs) s all is = let same : v ≡ s = cc is in subst P same (All-get_or P (v ∷ vs) 0 v (omega arith) all)

-- ---- the command's arguments

abbrev the_rules : List Rule
the_rules = required_rule (codes "MODE") ∷ required_rule (codes "SCOPE") ∷ required_rule (codes "FILE")
    ∷ new_rule (codes "EXTRA") ∷ cases_rule ∷ []

-- the option is the last of them
last_alone : (j : ℕ) (d : Rule) → j < 5 → bytes_eq (slice_index_or the_rules j d).id (codes "cases") ≡ true → j ≡ 4
last_alone zero d lt same = absurd (true≢false (sym same))
last_alone (suc zero) d lt same = absurd (true≢false (sym same))
last_alone (suc (suc zero)) d lt same = absurd (true≢false (sym same))
last_alone (suc (suc (suc zero))) d lt same = absurd (true≢false (sym same))
last_alone (suc (suc (suc (suc zero)))) d lt same = refl
last_alone (suc (suc (suc (suc (suc j))))) d lt same = absurd (omega (arith, lt))

both : (a b : Bool) → (a && b) ≡ true → (a ≡ true) × (b ≡ true)
both true b h = (refl, h)
both false b h = absurd (true≢false (sym h))

not_so : (b : Bool) → not b ≡ true → b ≡ false
not_so false h = refl
not_so true h = absurd (true≢false (sym h))

module _ (old : Command) (m : ArgMatches) (app : app_of old ≡ the_command) (p : IsParsedFrom old m) where
  listed : map rule_of (args_of old) ≡ the_rules
  unfolding the_command
  listed = ap (λ (a : App). a.top.rules) app

  five : length (args_of old) ≡ 5
  five = sym (length-map (args_of old) rule_of) ∙ ap length listed

  rule_at : (k : ℕ) (d : Arg) → k < 5
      → rule_of (slice_index_or (args_of old) k d) ≡ slice_index_or the_rules k (rule_of d)
  rule_at k d lt = sym (get_or-map rule_of (args_of old) k d (rule_of d) (omega (arith, five, lt)))
      ∙ ap (λ (rs : List Rule). slice_index_or rs k (rule_of d)) listed

  named : (d : Arg) → (slice_index_or (args_of old) 4 d).id.now ≡ codes "cases"
  named d = ap (λ (r : Rule). r.id) (rule_at 4 d (omega arith))

  unique : (d : Arg) (j : ℕ) (e : Arg) → j < length (args_of old)
      → bytes_eq (slice_index_or (args_of old) j e).id.now (slice_index_or (args_of old) 4 d).id.now ≡ true → j ≡ 4
  unique d j e lt same =
      let within : j < 5 = omega (arith, five, lt) in
      let id : (slice_index_or (args_of old) j e).id.now ≡ (slice_index_or the_rules j (rule_of e)).id =
      ap (λ (r : Rule). r.id) (rule_at j e within) in
      last_alone j (rule_of e) within (sym (ap₂ bytes_eq id (named d)) ∙ same)

  -- building adds no argument of that name
  own : (d : Arg) → IsAuto (slice_index_or (args_of old) 4 d) → ⊥
  own d auto = elim auto [
    | inl help ↦
        let bad : 99 ≡ 104 = ap (λ t. slice_index t 0) (sym (named d) ∙ help) in
        omega (arith, bad)
    | inr version ↦
        let bad : 99 ≡ 118 = ap (λ t. slice_index t 0) (sym (named d) ∙ version) in
        omega (arith, bad)
  ]

  -- an argument of that name has the option's parser
  parser : (j : ℕ) (x : Arg) → j < length (args_of p.built) → slice_index_or (args_of p.built) j x ≡ x
      → bytes_eq x.id.now (codes "cases") ≡ true → parser_of x ≡ Signed (pos 1) (pos 1000000)
  parser j x lt at is =
      let same = same_rules_by_id old m p 4 x (omega (arith, five)) (unique x) (own x) j x lt at
      (ap (bytes_eq x.id.now) (named x) ∙ is) in
      ap parser_of_value
      (same.parser (Signed (pos 1) (pos 1000000)) (ap (λ (r : Rule). r.parser) (rule_at 4 x (omega arith))))

  -- ---- groups

  plain : has_plain_fields (out-Command old) ≡ true
  unfolding the_command
  plain = ap (λ (a : App). a.top.is_plain) app

  without_groups : (groups_of old ≡ []) × ((out-Command old).has_globals ≡ false)
  without_groups =
      let first = both _ _ plain in
      let second = both _ _ first.1 in
      let third = both _ _ second.1 in
      (is_nil (groups_of old) first.0, not_so _ third.0)

  all_simple : (k : ℕ) (r : Rule) → k < 5 → (slice_index_or the_rules k r).is_simple ≡ true
  all_simple zero r lt = refl
  all_simple (suc zero) r lt = refl
  all_simple (suc (suc zero)) r lt = refl
  all_simple (suc (suc (suc zero))) r lt = refl
  all_simple (suc (suc (suc (suc zero)))) r lt = refl
  all_simple (suc (suc (suc (suc (suc k))))) r lt = absurd (omega (arith, lt))

  in_no_group : NamesNoGroup old
  in_no_group k d lt =
      let within : k < 5 = omega (arith, five, lt) in
      let simple : is_simple_arg (slice_index_or (args_of old) k d) ≡ true =
      ap (λ (r : Rule). r.is_simple) (rule_at k d within) ∙ all_simple k (rule_of d) within in
      is_nil (slice_index_or (args_of old) k d).groups.items (both _ _ (both _ _ (both _ _ simple).1).1).0

  no_groups : groups_of p.built ≡ []
  no_groups = (p.from.same_groups in_no_group).1 ∙ without_groups.0

  -- ---- the option's text

  no_group : (e : Entry) → e.0.now ≡ codes "cases" → EntryPasses p.built e → e.1.is_group ≡ true → ⊥
  no_group e key pass group = elim (pass.3 group) [
    | inl empty ↦
        let bad : 99 ≡ 0 = ap (λ t. slice_index t 0) (sym key ∙ empty) in
        omega (arith, bad)
    | inr some ↦ omega (arith, some, ap length no_groups)
  ]

  read_so : (e : Entry) → e.0.now ≡ codes "cases" → EntryPasses p.built e → e.1.reading ≡ WithoutMinus
  read_so e key pass = elim pass.4 [
    | inl group ↦ absurd (no_group e key pass group)
    | inr any ↦ sym any.4.1
        ∙ ap reading_of (parser any.0 any.1 any.2 any.3 (sym (ap (bytes_eq any.1.id.now) key) ∙ any.4.0))
  ]

  accepted : (t : Text) → PassesArg p.built (codes "cases") t → IsSignedIn (pos 1) (pos 1000000) t
  accepted t any = subst (λ (q : ValueParser). Accepts any.1.ignore_case q t)
      (parser any.0 any.1 any.2 any.3 any.4.0) any.4.1

  spelled_by : (e : Entry) → e.0.now ≡ codes "cases" → EntryPasses p.built e → (s : Bor Text)
      → slice_get e.1.vals.items 0 ≡ Some s → SpellsCases (read_as e.1.reading s.now)
  spelled_by e key pass s first = elim pass.0 [
    | inl group ↦ absurd (no_group e key pass group)
    | inr all ↦
        let passes : PassesArg p.built e.0.now s.now = at_first (λ v. PassesArg p.built e.0.now v.now) e.1.vals.items s
        all first in
        subst (λ how. SpellsCases (read_as how s.now)) (sym (read_so e key pass)) (passed s.now
        (accepted s.now (subst (λ (w : Text). PassesArg p.built w s.now) key passes)))
  ]

  option_spelled : IfSome (one_text (found_of m) (codes "cases")) SpellsCases
  option_spelled = by (matched_of (found_of m) (codes "cases")) refl
    where
      values : ValuesPass p.built (found_of m)
      values = (p.parsed (p.from.globals ∙ without_groups.1)).values

      first : (x : MatchedArg) → matched_of (found_of m) (codes "cases") ≡ Some x → (o : Option (Bor Text))
          → slice_get x.vals.items 0 ≡ o → IfSome (option_map (λ s. read_as x.reading s.now) o) SpellsCases
      first x found None is = tt
      first x found (Some s) is =
          let got = entry_by_id (EntryPasses p.built) (found_of m).entries.items (codes "cases") x values found in
          subst (λ (y : MatchedArg). SpellsCases (read_as y.reading s.now)) got.1
          (spelled_by got.0 ((bytes_eq-Decides got.0.0.now (codes "cases")).0 got.2) got.3 s
          (ap (λ (y : MatchedArg). slice_get y.vals.items 0) got.1 ∙ is))

      by : (o : Option MatchedArg) → matched_of (found_of m) (codes "cases") ≡ o
          → IfSome (option_and_then (λ (a : MatchedArg). option_map (λ s. read_as a.reading s.now)
          (slice_get a.vals.items 0)) o) SpellsCases
      by None is = tt
      by (Some x) is = first x is (slice_get x.vals.items 0) refl

  -- what is read of the option spells a number of cases
  pub option_read : IfSome (one_of (codes "cases") (rows_of (found_of m))) SpellsCases
  option_read = subst (λ (t : Option Text). IfSome t SpellsCases) (one_text-rows (found_of m) (codes "cases"))
      option_spelled
