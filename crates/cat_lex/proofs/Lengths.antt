-- A table's entries of one length, among which a spelling of that length is sought, and the words that begin pairs.
use Rattle.std.proofs.Common.{◌≡◌, ℕ, Bool, true, false, ◌&&◌, ◌||◌, ◌==◌, cond, List, [], ◌∷◌, length}
use Rattle.std.proofs.Common.{refl, sym, ap, ◌∙◌}
use Rattle.std.specs.Prelude.{Option, None, Some, bytes_eq}
use Rattle.std.proofs.lemmas.Bool.{eq-eqb, eqb-true}
use Rattle.std.proofs.lemmas.Slice.Eq.{bytes_eq-Decides}
use Rattle.cat_lex.specs.declared.words.Keyword.{Keyword}
use Rattle.unicode_ident.specs.Ident.{is_xid_continue}
use Rattle.cat_lex.specs.declared.words.DoubleKeyword.{DoubleKeyword}
use Rattle.cat_lex.specs.declared.form.Form.TheVariants.{Word}
use Rattle.cat_lex.specs.Gaps.{is_white_space}
use Rattle.cat_lex.specs.Words.{look_up, look_up_pair, keywords, double_keywords}
use Rattle.cat_lex.specs.inside.Reading.{after, begins, front_of, pair_or, pair_read}
use Rattle.cat_lex.specs.inside.Tables.{begins_pair}
use Rattle.cat_lex.proofs.Skips.{and_left, and_right}

-- the entries whose spelling has this length
abbrev pub of_length : {K : Type 0} → ℕ → List (List ℕ × K) → List (List ℕ × K)
of_length n [] = []
of_length n (entry ∷ entries) = cond (length entry.0 == n) (entry ∷ of_length n entries) (of_length n entries)

same_length : (text word : List ℕ) → bytes_eq text word ≡ true → (length word == length text) ≡ true
same_length text word same = eq-eqb (length word) (length text) (ap length (sym ((bytes_eq-Decides text word).0 same)))

sought_by : {K : Type 0} (entry : List ℕ × K) (entries : List (List ℕ × K)) (text : List ℕ) (b s : Bool)
    → (length entry.0 == length text) ≡ b → bytes_eq text entry.0 ≡ s
    → look_up entries text ≡ look_up (of_length (length text) entries) text
    → cond s (Some entry.1) (look_up entries text)
    ≡ look_up (cond b (entry ∷ of_length (length text) entries) (of_length (length text) entries)) text
sought_by entry entries text true s long same rest = rw same (ap (cond s (Some entry.1)) rest)
sought_by entry entries text false true long same rest =
    let both : false ≡ true = sym long ∙ same_length text entry.0 same in absurd cc
sought_by entry entries text false false long same rest = rest

-- a spelling is sought among those of its length
pub sought : {K : Type 0} (entries : List (List ℕ × K)) (text : List ℕ)
    → look_up entries text ≡ look_up (of_length (length text) entries) text
sought [] text = refl
sought (entry ∷ entries) text =
    sought_by entry entries text (length entry.0 == length text) (bytes_eq text entry.0) refl refl (sought entries text)

-- so a keyword is sought among those of its length
pub among : (n : ℕ) (entries : List (List ℕ × Keyword)) (letters text : List ℕ) → of_length n keywords ≡ entries
    → length letters ≡ n → letters ≡ text → look_up entries letters ≡ look_up keywords text
among n entries letters text is long same =
    sym (ap (λ (es : List (List ℕ × Keyword)). look_up es letters)
    (ap (λ (k : ℕ). of_length k keywords) long ∙ is))
    ∙ sym (sought keywords letters)
    ∙ ap (look_up keywords) same

-- one of these numbers
abbrev pub is_one_of : ℕ → List ℕ → Bool
is_one_of n [] = false
is_one_of n (number ∷ numbers) = n == number || is_one_of n numbers

-- each spelling is as long as one of these numbers says
abbrev pub have_lengths : {K : Type 0} → List ℕ → List (List ℕ × K) → Bool
have_lengths numbers [] = true
have_lengths numbers (entry ∷ entries) = is_one_of (length entry.0) numbers && have_lengths numbers entries

other_by : {K : Type 0} (n : ℕ) (numbers : List ℕ) (entry : List ℕ × K) (others : List (List ℕ × K)) (b : Bool)
    → (length entry.0 == n) ≡ b → is_one_of (length entry.0) numbers ≡ true → is_one_of n numbers ≡ false
    → others ≡ [] → cond b (entry ∷ others) others ≡ []
other_by n numbers entry others true same one none rest =
    let both : true ≡ false =
    sym one ∙ ap (λ (k : ℕ). is_one_of k numbers) (eqb-true (length entry.0) n same) ∙ none in absurd cc
other_by n numbers entry others false same one none rest = rest

pub of_no_length : {K : Type 0} (n : ℕ) (numbers : List ℕ) (entries : List (List ℕ × K))
    → have_lengths numbers entries ≡ true → is_one_of n numbers ≡ false → of_length n entries ≡ []
of_no_length n numbers [] all none = refl
of_no_length n numbers (entry ∷ entries) all none =
    other_by n numbers entry (of_length n entries) (length entry.0 == n) refl
    (and_left (is_one_of (length entry.0) numbers) (have_lengths numbers entries) all) none
    (of_no_length n numbers entries
    (and_right (is_one_of (length entry.0) numbers) (have_lengths numbers entries) all) none)

-- the keywords have two to eleven letters
abbrev pub lengths : List ℕ
lengths = 2 ∷ 3 ∷ 4 ∷ 5 ∷ 6 ∷ 7 ∷ 8 ∷ 9 ∷ 10 ∷ 11 ∷ []

pub keywords_have_lengths : have_lengths lengths keywords ≡ true
unfolding keywords
keywords_have_lengths = refl

-- a word that no double keyword begins with begins none with any other
no_pair_by : {K : Type 0} (entry : List ℕ × List ℕ × K) (found : Option K) (first second : List ℕ) (b : Bool)
    → bytes_eq first entry.0 ≡ b → b ≡ false → found ≡ None
    → cond (bytes_eq first entry.0 && bytes_eq second entry.1) (Some entry.2) found ≡ None
no_pair_by entry found first second b is none rest = rw (is ∙ none) rest

or_left : (a b : Bool) → (a || b) ≡ false → a ≡ false
or_left true b h = h
or_left false b h = refl

or_right : (a b : Bool) → (a || b) ≡ false → b ≡ false
or_right true b h = let both : true ≡ false = h in absurd cc
or_right false b h = h

pub no_pair : {K : Type 0} (entries : List (List ℕ × List ℕ × K)) (first second : List ℕ)
    → begins_pair entries first ≡ false → look_up_pair entries first second ≡ None
no_pair [] first second none = refl
no_pair (entry ∷ entries) first second none =
    no_pair_by entry (look_up_pair entries first second) first second (bytes_eq first entry.0) refl
    (or_left (bytes_eq first entry.0) (begins_pair entries first) none)
    (no_pair entries first second (or_right (bytes_eq first entry.0) (begins_pair entries first) none))

alone_by : (b : Bool) (found : Option DoubleKeyword) (end rest : List ℕ) → found ≡ None
    → cond b (pair_or found end rest) (Word, rest) ≡ (Word, rest)
alone_by true found end rest none = rw none refl
alone_by false found end rest none = refl

-- so it is a word of its own
pub alone : (text rest : List ℕ) → begins_pair double_keywords (front_of text rest) ≡ false
    → (Word, rest) ≡ pair_read text rest
alone text rest none =
    let second = after is_white_space rest in
    let end = after is_xid_continue second in
    sym (alone_by (begins is_white_space rest)
    (look_up_pair double_keywords (front_of text rest) (front_of second end)) end rest
    (no_pair double_keywords (front_of text rest) (front_of second end) none))
