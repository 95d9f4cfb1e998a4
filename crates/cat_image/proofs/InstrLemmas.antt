-- What is read of an instruction is what it spells.
use Rattle.std.proofs.Common.{◌≡◌, ℕ, Bool, true, false, List, [], ◌∷◌, ◌++◌, Option, Some}
use Rattle.std.proofs.Common.{None}
use Rattle.std.proofs.Common.{subst, refl, sym, ap, ◌∙◌, append-nil, codes, decimal}
use Rattle.std.specs.Prelude.{if◌then◌else◌}
use Rattle.std.specs.List.{AllByRecursion}
use Rattle.std.specs.Option.{option_map}
use Rattle.std.specs.Str.{bytes_eq}
use Rattle.std.proofs.lemmas.Slice.Eq.{bytes_eq-Decides}
use Rattle.cat_code.specs.declared.instr.Instr.{Instr}
use Rattle.cat_code.specs.declared.instr.Instr.TheVariants as instr
use Rattle.cat_image.specs.declared.names.OneNumber.{OneNumber}
use Rattle.cat_image.specs.declared.names.OneNumber.TheVariants as one
use Rattle.cat_image.specs.declared.names.TwoNumbers.{TwoNumbers}
use Rattle.cat_image.specs.declared.names.TwoNumbers.TheVariants as two
use Rattle.cat_image.specs.declared.instrs.Arguments.{Arguments}
use Rattle.cat_image.specs.declared.instrs.Arguments.TheVariants as arguments
use Rattle.cat_image.specs.Words.{Text, IsSmall}
use Rattle.cat_image.specs.InstructionWords.{instr_words, numbers_text, instr_text, IsSmallInstr}
use Rattle.cat_image.specs.inside.Reads.{cut, number_of}
use Rattle.cat_image.specs.inside.Names.{look_up, alone, with_one, with_two}
use Rattle.cat_image.specs.inside.Instructions.{more_numbers, arguments_by, arguments_of, of_one, of_two}
use Rattle.cat_image.specs.inside.Instructions.{with_numbers, instr_by, instr_of}
use Rattle.cat_image.proofs.NumberLemmas.{number_read}
use Rattle.cat_image.proofs.ReadLemmas.{Holds, when_holds, if_holds, map_holds, holds_of, cut_text}

-- ---- tables

-- what is found in a table has the name that the table has
pub look_up_told : {K : Type 0} (name : K → Text) (table : List (Text × K))
    → AllByRecursion (λ entry. entry.0 ≡ name entry.1) table
    → (text : Text) → Holds (λ k. text ≡ name k) (look_up table text)
look_up_told name [] all text = tt
look_up_told name (entry ∷ entries) all text = by (bytes_eq text entry.0) refl (look_up_told name entries all.1 text)
  where
    by : (same : Bool) → bytes_eq text entry.0 ≡ same → Holds (λ k. text ≡ name k) (look_up entries text)
        → Holds (λ k. text ≡ name k) (if same then Some entry.1 else look_up entries text)
    by true is more = (bytes_eq-Decides text entry.0).0 is ∙ all.0
    by false is more = more

abbrev one_name : OneNumber → Text
one_name one.Const = codes "const"
one_name one.Slot = codes "slot"
one_name one.Local = codes "local"
one_name one.Store = codes "store"
one_name one.Drop = codes "drop"
one_name one.Jump = codes "jump"
one_name one.JumpFalse = codes "jumpfalse"
one_name one.Pack = codes "pack"
one_name one.List = codes "list"
one_name one.Field = codes "field"
one_name one.Tag = codes "tag"
one_name one.TagNone = codes "tagnone"
one_name one.IsCase = codes "iscase"
one_name one.IterList = codes "iterlist"
one_name one.Next = codes "next"
one_name one.Scope = codes "scope"
one_name one.Pass = codes "pass"
one_name one.Begin = codes "begin"
one_name one.Hold = codes "hold"
one_name one.Check = codes "check"
one_name one.Held = codes "held"
one_name one.Take = codes "take"
one_name one.NoValue = codes "novalue"
one_name one.Assert = codes "assert"

abbrev two_name : TwoNumbers → Text
two_name two.Given = codes "given"
two_name two.Call = codes "call"

abbrev alone_name : Instr → Text
alone_name i = (instr_words i).0

ones_named : AllByRecursion (λ entry. entry.0 ≡ one_name entry.1) with_one
unfolding with_one
ones_named = (
  refl,
  (
    refl,
    (
      refl,
      (
        refl,
        (
          refl,
          (
            refl,
            (
              refl,
              (
                refl,
                (
                  refl,
                  (
                    refl,
                    (
                      refl,
                      (
                        refl,
                        (refl, (refl, (refl, (refl, (refl, (refl, (refl, (refl, (refl, (refl, (refl, (refl, tt)))))))))))),
                      ),
                    ),
                  ),
                ),
              ),
            ),
          ),
        ),
      ),
    ),
  ),
)

twos_named : AllByRecursion (λ entry. entry.0 ≡ two_name entry.1) with_two
unfolding with_two
twos_named = (refl, (refl, tt))

-- an instruction without numbers is its name
record IsAlone (name : Text) (i : Instr) : Type 0 where
  name_is : name ≡ (instr_words i).0
  numbers : (instr_words i).1 ≡ []

-- what the table of these has
all_alone : AllByRecursion (λ entry. (entry.0 ≡ alone_name entry.1)) alone
unfolding alone
all_alone = (refl, (refl, (refl, (refl, (refl, (refl, (refl, (refl, (refl, tt)))))))))

no_numbers : AllByRecursion (λ entry. (instr_words entry.1).1 ≡ []) alone
unfolding alone
no_numbers = (refl, (refl, (refl, (refl, (refl, (refl, (refl, (refl, (refl, tt)))))))))

alone_told : (table : List (Text × Instr)) → AllByRecursion (λ entry. entry.0 ≡ alone_name entry.1) table
    → AllByRecursion (λ entry. (instr_words entry.1).1 ≡ []) table → (text : Text)
    → Holds (IsAlone text) (look_up table text)
alone_told [] names numbers text = tt
alone_told (entry ∷ entries) names numbers text =
    by (bytes_eq text entry.0) refl (alone_told entries names.1 numbers.1 text)
  where
    by : (same : Bool) → bytes_eq text entry.0 ≡ same → Holds (IsAlone text) (look_up entries text)
        → Holds (IsAlone text) (if same then Some entry.1 else look_up entries text)
    by true is more = record { name_is = (bytes_eq-Decides text entry.0).0 is ∙ names.0; numbers = numbers.0 }
    by false is more = more

-- ---- numbers

abbrev numbers_of : Arguments → List ℕ
numbers_of (arguments.One a) = a ∷ []
numbers_of (arguments.Two a b) = a ∷ b ∷ []
numbers_of (arguments.Three a b c) = a ∷ b ∷ c ∷ []

-- numbers behind a first blank
record AreNumbers (text : Text) (a : Arguments) : Type 0 where
  text_is : 32 ∷ text ≡ numbers_text (numbers_of a)
  small : AllByRecursion IsSmall (numbers_of a)

one_read : (text : Text) (a : ℕ) → number_of text ≡ Some a → AreNumbers text (arguments.One a)
one_read text a is =
    let n = number_read text a is in
    record {
      text_is = ap (λ (t : Text). 32 ∷ t) (n.text_is ∙ sym (append-nil (decimal a)));
      small = (n.low, tt);
    }

two_read : (text first rest : Text) (a b : ℕ) → text ≡ first ++ 32 ∷ rest → number_of first ≡ Some a
    → number_of rest ≡ Some b → AreNumbers text (arguments.Two a b)
two_read text first rest a b split is more =
    let n = number_read first a is in
    let m = one_read rest b more in
    record {
      text_is = ap (λ (t : Text). 32 ∷ t) (split ∙ ap (λ (t : Text). t ++ 32 ∷ rest) n.text_is
          ∙ ap (λ (t : Text). decimal a ++ t) m.text_is);
      small = (n.low, m.small);
    }

three_read : (text first rest second third : Text) (a b c : ℕ) → text ≡ first ++ 32 ∷ rest → rest ≡ second ++ 32 ∷ third
    → number_of first ≡ Some a → number_of second ≡ Some b → number_of third ≡ Some c
    → AreNumbers text (arguments.Three a b c)
three_read text first rest second third a b c split again is more last =
    let n = number_read first a is in
    let m = two_read rest second third b c again more last in
    record {
      text_is = ap (λ (t : Text). 32 ∷ t) (split ∙ ap (λ (t : Text). t ++ 32 ∷ rest) n.text_is
          ∙ ap (λ (t : Text). decimal a ++ t) m.text_is);
      small = (n.low, m.small);
    }

more_read : (text first rest : Text) (a : ℕ) → text ≡ first ++ 32 ∷ rest → number_of first ≡ Some a
    → (o : Option (Text × Text)) → cut 32 rest ≡ o → Holds (AreNumbers text) (more_numbers a rest o)
more_read text first rest a split is None at =
    map_holds (AreNumbers text) (number_of rest) (arguments.Two a)
    (λ b more. two_read text first rest a b split is more)
more_read text first rest a split is (Some p) at =
    when_holds (AreNumbers text) (number_of p.0) (λ b. option_map (arguments.Three a b) (number_of p.1)) (λ b more.
    map_holds (AreNumbers text) (number_of p.1) (arguments.Three a b) (λ c last.
    three_read text first rest p.0 p.1 a b c split (cut_text 32 rest p at) is more last))

numbers_by : (text : Text) (o : Option (Text × Text)) → cut 32 text ≡ o → Holds (AreNumbers text) (arguments_by text o)
numbers_by text None at = map_holds (AreNumbers text) (number_of text) arguments.One (λ a is. one_read text a is)
numbers_by text (Some p) at =
    when_holds (AreNumbers text) (number_of p.0) (λ a. more_numbers a p.1 (cut 32 p.1)) (λ a is.
    more_read text p.0 p.1 a (cut_text 32 text p at) is (cut 32 p.1) refl)

numbers_read : (text : Text) → Holds (AreNumbers text) (arguments_of text)
unfolding arguments_of
numbers_read text = numbers_by text (cut 32 text) refl

-- ---- an instruction that is read

-- a text is that of an instruction
pub record IsInstr (text : Text) (i : Instr) : Type 0 where
  pub text_is : text ≡ instr_text i
  pub small : IsSmallInstr i

of_one_words : (k : OneNumber) (a : ℕ) → instr_words (of_one k a) ≡ (one_name k, a ∷ [])
of_one_words one.Const a = refl
of_one_words one.Slot a = refl
of_one_words one.Local a = refl
of_one_words one.Store a = refl
of_one_words one.Drop a = refl
of_one_words one.Jump a = refl
of_one_words one.JumpFalse a = refl
of_one_words one.Pack a = refl
of_one_words one.List a = refl
of_one_words one.Field a = refl
of_one_words one.Tag a = refl
of_one_words one.TagNone a = refl
of_one_words one.IsCase a = refl
of_one_words one.IterList a = refl
of_one_words one.Next a = refl
of_one_words one.Scope a = refl
of_one_words one.Pass a = refl
of_one_words one.Begin a = refl
of_one_words one.Hold a = refl
of_one_words one.Check a = refl
of_one_words one.Held a = refl
of_one_words one.Take a = refl
of_one_words one.NoValue a = refl
of_one_words one.Assert a = refl

of_two_words : (k : TwoNumbers) (a b : ℕ) → instr_words (of_two k a b) ≡ (two_name k, a ∷ b ∷ [])
of_two_words two.Given a b = refl
of_two_words two.Call a b = refl

-- an instruction by its words
by_words : (text name rest : Text) (numbers : List ℕ) (i : Instr) → text ≡ name ++ 32 ∷ rest
    → 32 ∷ rest ≡ numbers_text numbers → AllByRecursion IsSmall numbers → instr_words i ≡ (name, numbers)
    → IsInstr text i
by_words text name rest numbers i split spelled small words_are = record {
  text_is = split ∙ ap (λ (t : Text). name ++ t) spelled
      ∙ sym (ap (λ (w : Text × List ℕ). w.0 ++ numbers_text w.1) words_are);
  small = subst (λ (w : Text × List ℕ). AllByRecursion IsSmall w.1) (sym words_are) small;
}

one_instr : (text name rest : Text) (a : ℕ) → text ≡ name ++ 32 ∷ rest → AreNumbers rest (arguments.One a)
    → (k : OneNumber) → name ≡ one_name k → IsInstr text (of_one k a)
one_instr text name rest a split are k named =
    by_words text name rest (a ∷ []) (of_one k a) split are.text_is are.small
    (of_one_words k a ∙ ap (λ (n : Text). (n, a ∷ [])) (sym named))

two_instr : (text name rest : Text) (a b : ℕ) → text ≡ name ++ 32 ∷ rest → AreNumbers rest (arguments.Two a b)
    → (k : TwoNumbers) → name ≡ two_name k → IsInstr text (of_two k a b)
two_instr text name rest a b split are k named =
    by_words text name rest (a ∷ b ∷ []) (of_two k a b) split are.text_is are.small
    (of_two_words k a b ∙ ap (λ (n : Text). (n, a ∷ b ∷ [])) (sym named))

with_read : (text name rest : Text) → text ≡ name ++ 32 ∷ rest → (a : Arguments) → AreNumbers rest a
    → Holds (IsInstr text) (with_numbers name a)
with_read text name rest split (arguments.One a) are =
    map_holds (IsInstr text) (look_up with_one name) (λ k. of_one k a) (λ k found.
    one_instr text name rest a split are k
    (holds_of (λ (k : OneNumber). name ≡ one_name k) (look_up with_one name) k found
    (look_up_told one_name with_one ones_named name)))
with_read text name rest split (arguments.Two a b) are =
    map_holds (IsInstr text) (look_up with_two name) (λ k. of_two k a b) (λ k found.
    two_instr text name rest a b split are k
    (holds_of (λ (k : TwoNumbers). name ≡ two_name k) (look_up with_two name) k found
    (look_up_told two_name with_two twos_named name)))
with_read text name rest split (arguments.Three a b c) are =
    if_holds (IsInstr text) (bytes_eq name (codes "op")) (Some (instr.Op a b c)) (λ is.
    by_words text name rest (a ∷ b ∷ c ∷ []) (instr.Op a b c) split are.text_is are.small
    (ap (λ (n : Text). (n, a ∷ b ∷ c ∷ [])) (sym ((bytes_eq-Decides name (codes "op")).0 is))))

alone_instr : (text : Text) (i : Instr) → IsAlone text i → IsInstr text i
alone_instr text i is = record {
  text_is = is.name_is ∙ sym (ap (λ (ns : List ℕ). (instr_words i).0 ++ numbers_text ns) is.numbers
      ∙ append-nil (instr_words i).0);
  small = subst (AllByRecursion IsSmall) (sym is.numbers) tt;
}

instr_read_by : (text : Text) (o : Option (Text × Text)) → cut 32 text ≡ o → Holds (IsInstr text) (instr_by text o)
instr_read_by text None at = by (look_up alone text) (alone_told alone all_alone no_numbers text)
  where
    by : (o : Option Instr) → Holds (IsAlone text) o → Holds (IsInstr text) o
    by None holds = tt
    by (Some i) holds = alone_instr text i holds
instr_read_by text (Some p) at =
    when_holds (IsInstr text) (arguments_of p.1) (with_numbers p.0) (λ a found.
    with_read text p.0 p.1 (cut_text 32 text p at) a
    (holds_of (AreNumbers p.1) (arguments_of p.1) a found (numbers_read p.1)))

pub instr_read : (text : Text) → Holds (IsInstr text) (instr_of text)
unfolding instr_of
instr_read text = instr_read_by text (cut 32 text) refl
