-- A text that grows part by part.
use Rattle.std.proofs.Common.{◌≡◌, ◌∙◌, ◌++◌, ap, append_assoc}
use Rattle.std.specs.Prelude.{Result, Ok, Err, OnOk}
use Rattle.cat_listing.specs.Texts.{Text}

-- one part, and then another one
pub both_parts : {A E : Type 0} (r : Result A E) (old middle new one two : Text) → middle ≡ old ++ one
    → OnOk r (new ≡ middle ++ two) → OnOk r (new ≡ old ++ (one ++ two))
both_parts (Ok u) old middle new one two first second =
    second ∙ (ap (λ (t : Text). t ++ two) first ∙ append_assoc old one two)
both_parts (Err e) old middle new one two first second = tt
