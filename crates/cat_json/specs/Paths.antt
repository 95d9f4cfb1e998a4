-- Which part of an input is refused, and why.
use Rattle.std.specs.Prelude.{ℕ, List, [], ◌∷◌, ◌++◌, Result, Ok, Err, codes, decimal}
use Rattle.cat_json.specs.declared.step.Step.{Step}
use Rattle.cat_json.specs.declared.step.Step.TheVariants.{Name, Element}
use Rattle.cat_json.specs.declared.refusal.Reason.{Reason}
use Rattle.cat_json.specs.declared.refusal.PartRefusal.{PartRefusal}

-- what a part of JSON is read as, or the first part of it that is refused
abbrev pub Reading : Type 0 → Type 0
Reading A = Result A PartRefusal

-- the whole is refused
abbrev pub refused : {A : Type 0} → Reason → Reading A
refused reason = Err (record { reason = reason; path = [] })

-- what is read, where each refusal is one of the whole
abbrev pub of_whole : {A : Type 0} → Result A Reason → Reading A
of_whole (Ok value) = Ok value
of_whole (Err reason) = refused reason

-- the reading of a part that this step leads to
abbrev pub at_step : {A : Type 0} → Step → Reading A → Reading A
at_step step (Ok value) = Ok value
at_step step (Err refusal) = Err (record { reason = refusal.reason; path = step ∷ refusal.path })

-- what is made of that which is read
abbrev pub made_of : {A B : Type 0} → (A → B) → Reading A → Reading B
made_of make (Ok value) = Ok (make value)
made_of make (Err refusal) = Err refusal

-- the first and the rest, where both are read; else the first refusal
abbrev pub ahead : {A : Type 0} → Reading A → Reading (List A) → Reading (List A)
ahead (Ok value) (Ok values) = Ok (value ∷ values)
ahead (Ok value) (Err refusal) = Err refusal
ahead (Err refusal) rest = Err refusal

-- `[k]`
abbrev pub element_text : ℕ → List ℕ
element_text k = codes "[" ++ (decimal k ++ codes "]")

-- the first step of a path
abbrev pub first_text : Step → List ℕ
first_text (Name name) = name
first_text (Element k) = element_text k

-- a further step: a point stands in front of a name
abbrev pub next_text : Step → List ℕ
next_text (Name name) = codes "." ++ name
next_text (Element k) = element_text k

-- further steps
abbrev pub next_texts : List Step → List ℕ
next_texts [] = []
next_texts (step ∷ steps) = next_text step ++ next_texts steps

-- `a.b[0].c`, and `(input)` for the whole
abbrev pub path_text : List Step → List ℕ
path_text [] = codes "(input)"
path_text (step ∷ steps) = first_text step ++ next_texts steps
