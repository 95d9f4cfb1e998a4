-- The lines of replies, and the status of an outcome.
use Rattle.std.specs.Prelude.{ℕ, List, [], ◌∷◌, ◌++◌, Option, Some, None, codes}
use Rattle.std.specs.Fmt.{decimal}
use Rattle.cat_value.specs.declared.outcome.Outcome.{Outcome}
use Rattle.cat_value.specs.declared.outcome.Outcome.TheVariants as outcome
use Rattle.cat_json.specs.declared.refusal.InputRefusal.{InputRefusal}
use Rattle.cat_json.specs.declared.refusal.InputRefusal.TheVariants as refused
use Rattle.cat_answer.specs.Answer.{named_position}
use Rattle.cat_weave.specs.declared.source.GatherRefusal.{GatherRefusal}
use Rattle.cat_weave.specs.declared.source.GatherRefusal.TheVariants as gathering
use Rattle.cat_image.specs.declared.refusal.ImageRefusal.{ImageRefusal}
use Rattle.cat_image.specs.declared.refusal.ImageRefusal.TheVariants as images
use Rattle.cat_verify.specs.declared.refusal.VerifyRefusal.{VerifyRefusal}
use Rattle.cat_verify.specs.declared.refusal.VerifyRefusal.TheVariants as listed
use Rattle.cat_app.specs.declared.status.Status.{Status}
use Rattle.cat_app.specs.declared.status.Status.TheVariants as status

-- a line: these words, the name and a line feed
abbrev pub line : List ℕ → List ℕ → List ℕ
line words name = words ++ (name ++ 10 ∷ [])

-- the line that refuses a source by a code, at a position that is told so
abbrev pub refusal_line : ℕ → List ℕ → List ℕ
refusal_line number position =
    codes "source refused E" ++ (decimal number ++ (codes " at " ++ (position ++ 10 ∷ [])))

-- the line that refuses a source because of a file that is gathered, where it is refused for what it holds
abbrev pub gathering_line : GatherRefusal → Option (List ℕ)
gathering_line (gathering.NotUtf8 name pos) = Some (refusal_line 1 (named_position name pos))
gathering_line (gathering.FenceOpen name pos) = Some (refusal_line 2 (named_position name pos))
gathering_line (gathering.IncludeTwice name pos) = Some (refusal_line 3 (named_position name pos))
gathering_line (gathering.Missing name) = None
gathering_line (gathering.ReadFault name) = None
gathering_line (gathering.TooLarge name) = None
gathering_line gathering.Memory = None

-- the line that refuses a part of an input
abbrev pub part_line : ℕ → List ℕ → List ℕ
part_line number path = codes "input refused I" ++ (decimal number ++ (codes " " ++ (path ++ 10 ∷ [])))

-- the line that refuses an input
abbrev pub input_line : InputRefusal → Option (List ℕ)
input_line refused.NotJson = Some (line (codes "input refused I1") [])
input_line (refused.Missing path) = Some (part_line 2 path)
input_line (refused.Extra path) = Some (part_line 3 path)
input_line (refused.WrongForm path) = Some (part_line 4 path)
input_line (refused.OutOfRange path) = Some (part_line 5 path)
input_line refused.Memory = None

-- the line that refuses a listing by a code, at a place of it that has a number
abbrev pub listing_line : List ℕ → ℕ → List ℕ
listing_line words number = codes "listing refused " ++ (words ++ (decimal number ++ 10 ∷ []))

-- the line that refuses what is no image
abbrev pub image_line : ImageRefusal → Option (List ℕ)
image_line (images.BadLine n) = Some (listing_line (codes "L1 at line ") n)
image_line images.Short = Some (line (codes "listing refused L2") [])
image_line images.Memory = None

-- the line that refuses an image that isn't one of valid and tame code
abbrev pub code_line : VerifyRefusal → Option (List ℕ)
code_line (listed.BadTable n) = Some (listing_line (codes "V1 at line ") n)
code_line (listed.BadNumber k) = Some (listing_line (codes "V2 at instruction ") k)
code_line (listed.Endless k) = Some (listing_line (codes "V3 at instruction ") k)
code_line (listed.BadShape k) = Some (listing_line (codes "V4 at instruction ") k)
code_line listed.Memory = None

-- the status of an outcome
abbrev pub status_of : Outcome → Status
status_of (outcome.Value values) = status.Fine
status_of (outcome.Conflict target positions) = status.Conflict
status_of (outcome.NoValue target pos) = status.NoValue
status_of (outcome.Fault kind pos) = status.Fault
