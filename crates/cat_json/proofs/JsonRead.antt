-- Which bytes are JSON.
use Rattle.std.proofs.Common.{◌≡◌, ℕ, Bool, true, false, List, Some, None, refl}
use Rattle.std.specs.Prelude.{IsUtf8}
use Rattle.std.specs.Str.{is_utf8}
use Rattle.std.proofs.lemmas.Str.{is_utf8-from_IsUtf8, IsUtf8-from_is_utf8}
use Rattle.serde_json.specs.Data.{Data}
use Rattle.serde_json.specs.Read.{read}
use Rattle.cat_json.specs.InputsRead.{json_of}

-- bytes that are read
pub json_of-read : (bytes : List ℕ) (d : Data) → IsUtf8 bytes → read bytes ≡ Some d → json_of bytes ≡ Some d
unfolding json_of
json_of-read bytes d text e = rw (is_utf8-from_IsUtf8 bytes text, e) refl

-- bytes that are no text, or none that is read
pub json_of-unread : (bytes : List ℕ) → (IsUtf8 bytes → read bytes ≡ None) → json_of bytes ≡ None
unfolding json_of
json_of-unread bytes unread = by (is_utf8 bytes) refl
  where
    by : (test : Bool) → is_utf8 bytes ≡ test → json_of bytes ≡ None
    by true e = rw (e, unread (IsUtf8-from_is_utf8 bytes e)) refl
    by false e = rw e refl

pub ruleset reading = (json_of-read, json_of-unread)
