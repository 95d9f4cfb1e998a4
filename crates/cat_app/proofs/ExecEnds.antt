-- How a run of listed code that is told ends.
use Rattle.std.proofs.Common.{◌≡◌, ◌∙◌, ◌≤◌, ◌<◌, ℕ, List, take, drop, sym, ap, subst, arith, ⊎_elim}
use Rattle.std.proofs.lemmas.List.{take-append-drop}
use Rattle.std.specs.Prelude.{Option, Some, None, Ok, Err, IfSome, IsNone, length}
use Rattle.cat_pos.specs.Limits.{most_input_bytes}
use Rattle.cat_io.specs.Shelf.{Shelved, Gives}
use Rattle.cat_io.specs.Sink.{Sunk, Took}
use Rattle.cat_value.specs.declared.value.Value.{Value}
use Rattle.cat_scope.specs.Named.{number_named}
use Rattle.cat_json.specs.InputsRead.{input_read}
use Rattle.cat_code.specs.declared.code.Code.{Code}
use Rattle.cat_code.specs.declared.code.Tables.{Tables}
use Rattle.cat_code.specs.declared.instr.Instr.{Instr}
use Rattle.cat_image.specs.declared.image.Image.{Image}
use Rattle.cat_image.specs.declared.tables.ImageTables.{ImageTables}
use Rattle.cat_image.specs.declared.refusal.ImageRefusal.{ImageRefusal}
use Rattle.cat_image.specs.declared.refusal.ImageRefusal.TheVariants as images
use Rattle.cat_image.specs.Image.{IsImage}
use Rattle.cat_image.specs.Refused as unread
use Rattle.cat_image.specs.Refused.{lines_of, IsFront}
use Rattle.cat_verify_tables.specs.TableWords.{AreTablesOf}
use Rattle.cat_verify_tables.specs.WrongTables.{IsBadTable}
use Rattle.cat_verify_shapes.specs.Unshaped.{IsUnshaped}
use Rattle.cat_verify.specs.declared.refusal.VerifyRefusal.{VerifyRefusal}
use Rattle.cat_verify.specs.declared.refusal.VerifyRefusal.TheVariants as listed
use Rattle.cat_verify.specs.Refused as unverified
use Rattle.cat_verify.specs.Refused.{IsToldBy}
use Rattle.cat_verify.specs.WrongCode.{IsBadNumber, IsEndless}
use Rattle.cat_app.specs.Words.{Ask, OfBands, OfListing, OfScope, ListingRequest, ask_of, listing_in, listing_of}
use Rattle.cat_app.specs.Complete.{WritesText}
use Rattle.cat_app.specs.ExecEnds.{EndsExec, IsToldExec}
use Rattle.cat_app.specs.Executed.{IsCodeOf, IsExecuted, IsListingReadNow, TellsRun}
use Rattle.cat_app.specs.Lines.{code_line, image_line}
use Rattle.cat_app.specs.Table.{AnswersAtOnce, MayAnswerTo, MayExecute, MayReply}
use Rattle.cat_app.specs.Unlisted.{HasNoScope, HasRefusedInput, IsRefusedCode, IsRefusedImage}
use Rattle.cat_app.specs.declared.status.Status.{Status}
use Rattle.cat_app.specs.declared.status.Status.TheVariants as status
use Rattle.cat_app.proofs.Complete.{none_there, of_told}

-- a text has one image
abbrev pub OneImage : Type 0
OneImage = (bytes : List ℕ) (tables others : ImageTables) (is js : List Instr) → IsImage bytes tables is
    → IsImage bytes others js → (tables ≡ others) × (is ≡ js)

-- lines in which nothing is wrong tell one table
abbrev pub OneTable : Type 0
OneTable = (image : ImageTables) (tables others : Tables) → ((n : ℕ) → IsBadTable image n → ⊥)
    → AreTablesOf image tables → AreTablesOf image others → tables ≡ others

-- where a run of listed code is asked for, it is what is asked
pub of_listing : (o : Option Ask) (request : ListingRequest) → listing_in o ≡ Some request
    → o ≡ Some (OfListing request)
of_listing None request is = cc is
of_listing (Some (OfScope other)) request is = cc is
of_listing (Some (OfListing other)) request is = cc is
of_listing (Some (OfBands bands)) request is = cc is

-- bytes tell these tables and instructions, with these names of files, and nothing refuses them
pub record TellsCode (bytes : List ℕ) (tables : Tables) (code : List Instr) (files : List (List ℕ)) : Type 0 where
  pub image : ImageTables
  pub image_is : IsImage bytes image code
  pub told : AreTablesOf image tables
  pub right : (n : ℕ) → IsBadTable image n → ⊥
  pub files_are : image.files ≡ files
  pub is_read : (why : ImageRefusal) (text : List ℕ) → unread.HasCause bytes why → image_line why ≡ Some text → ⊥
  pub verified : (other : Image) → IsImage bytes other.tables other.instructions → (why : VerifyRefusal)
      (text : List ℕ) → unverified.HasCause other why → code_line why ≡ Some text → ⊥

-- words ask for a run of code that bytes tell, over contents that the shelf tells
pub record AsksForCode (words : List (List ℕ)) (old : Shelved) (request : ListingRequest) (tables : Tables)
    (code : List Instr) (files : List (List ℕ)) (scope : ℕ) (input : List (Option Value)) : Type 0 where
  pub bytes : List ℕ
  pub extra : List ℕ
  pub asked : listing_of words ≡ Some request
  pub listing_told : old.content request.file ≡ Some bytes
  pub listing_short : length bytes ≤ most_input_bytes
  pub tells : TellsCode bytes tables code files
  pub named : number_named request.scope 0 tables.decls.scopes ≡ Some scope
  pub extra_told : old.content request.extra ≡ Some extra
  pub extra_short : length extra ≤ most_input_bytes
  pub input_is : input_read tables.decls scope extra ≡ Ok input

module _ (one_image : OneImage) (one_table : OneTable) (words : List (List ℕ)) (old new : Shelved) (sink sunk : Sunk)
    (request : ListingRequest) (tables : Tables) (code : List Instr) (files : List (List ℕ)) (scope : ℕ)
    (input : List (Option Value)) (told : AsksForCode words old request tables code files scope input) where
  answered : (ended : Status) (text : List ℕ) → MayReply words old new ended text
      → MayExecute request old new ended text
  answered ended text may = subst (λ (o : Option Ask). MayAnswerTo o old new ended text)
      (of_listing (ask_of words) request told.asked) may

  -- ---- what is read is what is told

  same_listing : (bytes : List ℕ) → Gives (old.content request.file) most_input_bytes bytes → bytes ≡ told.bytes
  same_listing bytes read =
      of_told (λ content. bytes ≡ content) (old.content request.file) told.bytes told.listing_told read.content

  same_extra : (extra : List ℕ) → Gives (old.content request.extra) most_input_bytes extra → extra ≡ told.extra
  same_extra extra read =
      of_told (λ content. extra ≡ content) (old.content request.extra) told.extra told.extra_told read.content

  -- ---- so it is of one code

  module _ (bytes : List ℕ) (read : Gives (old.content request.file) most_input_bytes bytes) (other : Code)
      (others : List (List ℕ)) (is : IsCodeOf bytes other others) where
    here : IsImage bytes told.tells.image code
    here = subst (λ (b : List ℕ). IsImage b told.tells.image code) (sym (same_listing bytes read)) told.tells.image_is

    same_image : (is.image.tables ≡ told.tells.image) × (is.image.instructions ≡ code)
    same_image = one_image bytes is.image.tables told.tells.image is.image.instructions code is.image_is here

    same_tables : other.tables ≡ tables
    same_tables = one_table told.tells.image other.tables tables told.tells.right
        (subst (λ (ts : ImageTables). AreTablesOf ts other.tables) same_image.0
        is.verified.ending.numbered.told.tables_are) told.tells.told

    same_instructions : other.instructions ≡ code
    same_instructions = sym is.verified.instructions ∙ same_image.1

    same_files : others ≡ files
    same_files = sym is.verified.files_are ∙ ap (λ (ts : ImageTables). ts.files) same_image.0 ∙ told.tells.files_are

  same_scope : (ts : Tables) (number : ℕ) → ts ≡ tables
      → number_named request.scope 0 ts.decls.scopes ≡ Some number → number ≡ scope
  same_scope ts number same named =
      let known : number_named request.scope 0 tables.decls.scopes ≡ Some number =
      subst (λ (t : Tables). number_named request.scope 0 t.decls.scopes ≡ Some number) same named in
      cc (known, told.named)

  told_here : (ended : Status) (text : List ℕ) → IsExecuted request old new ended text
      → TellsRun tables code files scope input ended text
  told_here ended text e =
      let same = same_tables e.asked.bytes e.asked.listing_read e.code e.files e.asked.code_is in
      let instructions = same_instructions e.asked.bytes e.asked.listing_read e.code e.files e.asked.code_is in
      let names = same_files e.asked.bytes e.asked.listing_read e.code e.files e.asked.code_is in
      let number = same_scope e.code.tables e.scope same e.asked.named in
      let known : input_read tables.decls scope told.extra ≡ Ok e.input =
      subst (λ (ts : Tables). input_read ts.decls scope told.extra ≡ Ok e.input) same
      (subst (λ n. input_read e.code.tables.decls n told.extra ≡ Ok e.input) number
      (subst (λ (b : List ℕ). input_read e.code.tables.decls e.scope b ≡ Ok e.input) (same_extra e.extra e.extra_read)
      e.input_is)) in
      let inputs : e.input ≡ input = cc (known, told.input_is) in
      subst (λ (ts : Tables). TellsRun ts code files scope input ended text) same
      (subst (λ (is : List Instr). TellsRun e.code.tables is files scope input ended text) instructions
      (subst (λ (fs : List (List ℕ)). TellsRun e.code.tables e.code.instructions fs scope input ended text) names
      (subst (λ n. TellsRun e.code.tables e.code.instructions e.files n input ended text) number
      (subst (λ (i : List (Option Value)).
      TellsRun e.code.tables e.code.instructions e.files e.scope i ended text) inputs e.tells))))

  -- ---- nothing is refused

  no_scope : (text : List ℕ) → HasNoScope request old new text → ⊥
  no_scope text n =
      let same = same_tables n.bytes n.listing_read n.code n.files n.code_is in
      let none : number_named request.scope 0 tables.decls.scopes ≡ None =
      subst (λ (ts : Tables). number_named request.scope 0 ts.decls.scopes ≡ None) same n.unnamed in
      cc (none, told.named)

  no_input : (text : List ℕ) → HasRefusedInput request old new text → ⊥
  no_input text i =
      let same = same_tables i.asked.bytes i.asked.listing_read i.code i.files i.asked.code_is in
      let number = same_scope i.code.tables i.scope same i.asked.named in
      let known : input_read tables.decls scope told.extra ≡ Err i.refusal =
      subst (λ (ts : Tables). input_read ts.decls scope told.extra ≡ Err i.refusal) same
      (subst (λ n. input_read i.code.tables.decls n told.extra ≡ Err i.refusal) number
      (subst (λ (b : List ℕ). input_read i.code.tables.decls i.scope b ≡ Err i.refusal)
      (same_extra i.extra i.extra_read) i.refused)) in
      cc (known, told.input_is)

  no_image : (text : List ℕ) → IsRefusedImage request old new text → ⊥
  no_image text i = told.tells.is_read i.why text
      (subst (λ (b : List ℕ). unread.HasCause b i.why) (same_listing i.bytes i.listing_read) i.cause) i.reply

  no_code : (text : List ℕ) → IsRefusedCode request old new text → ⊥
  no_code text c = told.tells.verified c.image
      (subst (λ (b : List ℕ). IsImage b c.image.tables c.image.instructions) (same_listing c.bytes c.listing_read)
      c.image_is) c.why text c.cause c.reply

  -- both files are there, and short
  no_file : (name : List ℕ) (limit : ℕ) → IsListingReadNow request old name limit → IsNone (old.content name) → ⊥
  no_file name limit now none = ⊎_elim
      (λ same. none_there (old.content name) told.bytes (ap old.content same ∙ told.listing_told) none)
      (λ extra. none_there (old.content name) told.extra (ap old.content extra.0 ∙ told.extra_told) none) now.file

  no_large : (name : List ℕ) (limit : ℕ) → IsListingReadNow request old name limit
      → IfSome (old.content name) (λ content. limit < length content) → ⊥
  no_large name limit now long = ⊎_elim
      (λ same. too_long told.bytes told.listing_short (ap old.content same ∙ told.listing_told))
      (λ extra. too_long told.extra told.extra_short (ap old.content extra.0 ∙ told.extra_told)) now.file
    where
      too_long : (content : List ℕ) → length content ≤ most_input_bytes → old.content name ≡ Some content → ⊥
      too_long content short is =
          let longer : limit < length content =
          of_told (λ c. limit < length c) (old.content name) content is long in
          absurd (omega (arith, longer, now.limit_is, short))

  written : (ended : Status) (text : List ℕ) → IsExecuted request old new ended text → Took sink sunk text
      → WritesText sink sunk (TellsRun tables code files scope input ended)
  written ended text e took = (text, told_here ended text e, took.taken)

  pub ends_so : (ended : Status) → AnswersAtOnce words old new sink sunk ended
      → EndsExec sink sunk tables code files scope input ended
  ends_so status.Fine is = written status.Fine is.0 (answered status.Fine is.0 is.1) is.2
  ends_so status.Conflict is = written status.Conflict is.0 (answered status.Conflict is.0 is.1) is.2
  ends_so status.NoValue is = written status.NoValue is.0 (answered status.NoValue is.0 is.1) is.2
  ends_so status.Fault is = written status.Fault is.0 (answered status.Fault is.0 is.1) is.2
  ends_so status.Listing is = absurd (⊎_elim (no_image is.0) (no_code is.0) (answered status.Listing is.0 is.1))
  ends_so status.Input is = absurd (no_input is.0 (answered status.Input is.0 is.1))
  ends_so status.Usage is = absurd (no_scope is.0 (answered status.Usage is.0 is.1))
  ends_so status.Source is = absurd (answered status.Source is.0 is.1)
  ends_so status.Found is = absurd (answered status.Found is.0 is.1)
  ends_so status.Unsettled is = absurd (answered status.Unsettled is.0 is.1)
  ends_so status.Certificate is = absurd (answered status.Certificate is.0 is.1)
  ends_so status.Missing is =
      let read = answered status.Missing is.0 is.1 in
      absurd (no_file read.name read.limit read.now read.read.2)
  ends_so status.TooLarge is =
      let read = answered status.TooLarge is.0 is.1 in
      absurd (no_large read.name read.limit read.now read.read.2)
  ends_so status.ReadFault is = tt
  ends_so status.WriteFault is = tt
  ends_so status.Memory is = tt

-- ---- code that was verified

-- the lines of an image are those of a front of one
whole_front : (bytes : List ℕ) (tables : ImageTables) (is : List Instr) (n : ℕ) → IsImage bytes tables is
    → IsFront (take n (lines_of bytes))
whole_front bytes tables is n image = record {
  bytes = bytes;
  tables = tables;
  instructions = is;
  rest = drop n (lines_of bytes);
  image = image;
  lines_are = sym (take-append-drop n (lines_of bytes));
}

module _ (one_image : OneImage) (one_table : OneTable) (bytes : List ℕ) (code : Code) (files : List (List ℕ))
    (is : IsCodeOf bytes code files) where
  read_whole : (why : ImageRefusal) (text : List ℕ) → unread.HasCause bytes why → image_line why ≡ Some text → ⊥
  read_whole (images.BadLine n) text cause says =
      cause.4 (whole_front bytes is.image.tables is.image.instructions n is.image_is)
  read_whole images.Short text cause says = cause.1 is.image.tables is.image.instructions is.image_is
  read_whole images.Memory text cause says = cc says

  right : (n : ℕ) → IsBadTable is.image.tables n → ⊥
  right = is.verified.ending.numbered.told.right

  module _ (image : Image) (image_is : IsImage bytes image.tables image.instructions) where
    same : (image.tables ≡ is.image.tables) × (image.instructions ≡ is.image.instructions)
    same = one_image bytes image.tables is.image.tables image.instructions is.image.instructions image_is is.image_is

    instructions_are : image.instructions ≡ code.instructions
    instructions_are = same.1 ∙ is.verified.instructions

    tables_are : (tables : Tables) → IsToldBy image tables → tables ≡ code.tables
    tables_are tables by = one_table is.image.tables tables code.tables right
        (subst (λ (ts : ImageTables). AreTablesOf ts tables) same.0 by.tables_are)
        is.verified.ending.numbered.told.tables_are

    verified : (why : VerifyRefusal) (text : List ℕ) → unverified.HasCause image why → code_line why ≡ Some text → ⊥
    verified (listed.BadTable n) text cause says = right n (subst (λ (ts : ImageTables). IsBadTable ts n) same.0 cause)
    verified (listed.BadNumber k) text cause says =
        is.verified.ending.numbered.numbered k
        (subst (λ (js : List Instr). IsBadNumber code.tables js k) same.1
        (subst (λ (ts : Tables). IsBadNumber ts image.instructions k) (tables_are cause.0 cause.1) cause.2))
    verified (listed.Endless k) text cause says =
        is.verified.ending.ending k
        (subst (λ (js : List Instr). IsEndless code.tables js k) same.1
        (subst (λ (ts : Tables). IsEndless ts image.instructions k) (tables_are cause.0 cause.1.told) cause.2))
    verified (listed.BadShape k) text cause says =
        let unshaped : IsUnshaped code.tables code.instructions k =
        subst (λ (js : List Instr). IsUnshaped code.tables js k) instructions_are
        (subst (λ (ts : Tables). IsUnshaped ts image.instructions k) (tables_are cause.0 cause.1.numbered.told)
        cause.2) in
        unshaped.unshaped (is.verified.valid.0, is.verified.valid.1.shaped)
    verified listed.Memory text cause says = cc says

  tells_code : TellsCode bytes code.tables code.instructions files
  tells_code = record {
    image = is.image.tables;
    image_is = subst (λ (js : List Instr). IsImage bytes is.image.tables js) is.verified.instructions is.image_is;
    told = is.verified.ending.numbered.told.tables_are;
    right = right;
    files_are = is.verified.files_are;
    is_read = read_whole;
    verified = verified;
  }

pub ends_exec : OneImage → OneTable → (words : List (List ℕ)) (old new : Shelved) (sink sunk : Sunk)
    (request : ListingRequest) (code : Code) (files : List (List ℕ)) (scope : ℕ) (input : List (Option Value))
    → IsToldExec words old request code files scope input → (ended : Status)
    → AnswersAtOnce words old new sink sunk ended
    → EndsExec sink sunk code.tables code.instructions files scope input ended
ends_exec one_image one_table words old new sink sunk request code files scope input told =
    ends_so one_image one_table words old new sink sunk request code.tables code.instructions files
    scope input (record {
      bytes = told.bytes;
      extra = told.extra;
      asked = told.asked;
      listing_told = told.listing_told;
      listing_short = told.listing_short;
      tells = tells_code one_image one_table told.bytes code files told.code_is;
      named = told.named;
      extra_told = told.extra_told;
      extra_short = told.extra_short;
      input_is = told.input_is;
    })
