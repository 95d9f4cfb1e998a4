-- The whole listing of code is the text of its rows.
use Rattle.std.proofs.Common.{◌≡◌, ℕ, ◌+◌, true, ◌==◌, List, [], ◌∷◌, ◌++◌, map}
use Rattle.std.proofs.Common.{None, codes}
use Rattle.std.proofs.Common.{refl, sym, ap, ◌∙◌, append_assoc, append-nil}
use Rattle.std.specs.Prelude.{not}
use Rattle.std.specs.List.{AllByRecursion, list_all}
use Rattle.std.specs.Str.{is_utf8}
use Rattle.std.proofs.lemmas.Bool.{and_parts, not-true}
use Rattle.cat_code.specs.declared.code.Constant.{Constant}
use Rattle.cat_code.specs.declared.code.Code.{Code}
use Rattle.cat_listing.specs.Texts.{lines_of}
use Rattle.cat_listing.specs.DeclarationLines.{structure_lines}
use Rattle.cat_listing.specs.DeclarationLines.{enumeration_lines}
use Rattle.cat_listing.specs.DeclarationLines.{scopes_lines}
use Rattle.cat_listing.specs.DeclarationLines.{declaration_lines}
use Rattle.cat_listing.specs.Listing.{file_line, function_line, target_line, place_line, constant_line, table_lines}
use Rattle.cat_listing.specs.Listing.{listing}
use Rattle.cat_listing.specs.InstructionLines as listed
use Rattle.cat_image.specs.declared.row.Row.{Row}
use Rattle.cat_image.specs.declared.row.Row.TheVariants as row
use Rattle.cat_image.specs.Words.{Text, parts}
use Rattle.cat_image.specs.Rows.{structure_rows, enumeration_rows}
use Rattle.cat_image.specs.Rows.{joined, sections, rows_of}
use Rattle.cat_image.specs.Rows as rows
use Rattle.cat_image.specs.Image.{image_lines, IsImage}
use Rattle.cat_image.specs.Listed.{pos_words, structure_words}
use Rattle.cat_image.specs.Listed.{enumeration_words}
use Rattle.cat_image.specs.Listed.{target_words, constant_words, words_of}
use Rattle.cat_image.specs.Listed.{is_line, IsListable}
use Rattle.cat_image.specs.inside.Reads.{cut}
use Rattle.cat_image.proofs.CutLemmas.{AllLack}
use Rattle.cat_image.proofs.ImageLemmas.{parts_of_text}
use Rattle.cat_image.proofs.ListedText.{constant_same, definition_same, enumeration_same, file_same, function_same}
use Rattle.cat_image.proofs.ListedText.{instructions_same, one_line, parted_lines, position_same, rows_append}
use Rattle.cat_image.proofs.ListedText.{rows_text, scopes_same, simple_lines, structure_same, target_same}

-- ---- the whole

-- the texts of sections, one behind the other
abbrev texts : List Text → Text
texts [] = []
texts (t ∷ ts) = t ++ texts ts

joined_text : (parts : List (List Row)) → rows_text (joined parts) ≡ texts (map rows_text parts)
joined_text [] = refl
joined_text (part ∷ parts) =
    rows_append part (joined parts) ∙ ap (λ (t : Text). rows_text part ++ t) (joined_text parts)

regrouped : (f s e c a b d p k i : Text)
    → f ++ ((s ++ (e ++ c)) ++ ((a ++ (b ++ (d ++ (p ++ k)))) ++ i))
    ≡ texts (f ∷ s ∷ e ∷ c ∷ a ∷ b ∷ d ∷ p ∷ k ∷ i ∷ [])
regrouped f s e c a b d p k i =
    ap (λ (t : Text). f ++ t)
    (append_assoc s (e ++ c) ((a ++ (b ++ (d ++ (p ++ k)))) ++ i)
    ∙ ap (λ (t : Text). s ++ t) (append_assoc e c ((a ++ (b ++ (d ++ (p ++ k)))) ++ i)
    ∙ ap (λ (t : Text). e ++ (c ++ t)) (append_assoc a (b ++ (d ++ (p ++ k))) i
    ∙ ap (λ (t : Text). a ++ t) (append_assoc b (d ++ (p ++ k)) i
    ∙ ap (λ (t : Text). b ++ t) (append_assoc d (p ++ k) i
    ∙ ap (λ (t : Text). d ++ t) (append_assoc p k i
    ∙ ap (λ (t : Text). p ++ (k ++ t)) (sym (append-nil i))))))))

-- texts that are the same one by one
abbrev AllSame : List Text → List Text → Type 0
AllSame [] [] = Unit {0}
AllSame [] (u ∷ us) = ⊥
AllSame (t ∷ ts) [] = ⊥
AllSame (t ∷ ts) (u ∷ us) = (t ≡ u) × AllSame ts us

same_texts : (ts us : List Text) → AllSame ts us → texts ts ≡ texts us
same_texts [] [] same = refl
same_texts [] (u ∷ us) same = absurd same
same_texts (t ∷ ts) [] same = absurd same
same_texts (t ∷ ts) (u ∷ us) same =
    ap (λ (v : Text). v ++ texts ts) same.0 ∙ ap (λ (v : Text). u ++ v) (same_texts ts us same.1)

files_same : (files : List Text) → lines_of file_line files ≡ rows_text (map row.File files)
files_same [] = refl
files_same (name ∷ names) =
    ap (λ (t : Text). file_line name ++ t) (files_same names)
    ∙ one_line (file_line name) (row.File name) (map row.File names) (file_same name)

functions_same : (entries : List ℕ) → lines_of function_line entries ≡ rows_text (map row.Function entries)
functions_same [] = refl
functions_same (entry ∷ entries) =
    ap (λ (t : Text). function_line entry ++ t) (functions_same entries)
    ∙ one_line (function_line entry) (row.Function entry) (map row.Function entries) (function_same entry)

-- the sections of a listing
abbrev listed_sections : Code → List Text → List Text
listed_sections code files =
    lines_of file_line files
    ∷ lines_of (structure_lines code.tables.decls) code.tables.decls.structures
    ∷ lines_of (enumeration_lines code.tables.decls) code.tables.decls.enumerations
    ∷ scopes_lines code.tables.decls code.tables.decls.scopes code.tables.scopes
    ∷ lines_of (target_line code.tables.decls) code.tables.targets
    ∷ lines_of (place_line (codes "definition ")) code.tables.definitions
    ∷ lines_of function_line code.tables.functions
    ∷ lines_of (place_line (codes "position ")) code.tables.positions
    ∷ lines_of (constant_line code.tables.decls) code.tables.constants
    ∷ listed.instructions_lines 0 code.instructions ∷ []

-- are those of its words
sections_same : (code : Code) (files : List Text)
    → AllSame (listed_sections code files) (map rows_text (sections (words_of code.tables files) code.instructions))
sections_same code files =
    let ds = code.tables.decls in (
      files_same files,
      (
        parted_lines (structure_lines ds) structure_rows (structure_words ds) (structure_same ds) ds.structures,
        (
          parted_lines (enumeration_lines ds) enumeration_rows (enumeration_words ds)
              (enumeration_same ds) ds.enumerations,
          (
            scopes_same ds ds.scopes code.tables.scopes,
            (
              simple_lines (target_line ds) row.Target (target_words ds) (target_same ds) code.tables.targets,
              (
                simple_lines
                    (place_line (codes "definition ")) row.Definition pos_words definition_same code.tables.definitions,
                (
                  functions_same code.tables.functions,
                  (
                    simple_lines
                        (place_line (codes "position ")) row.Position pos_words position_same code.tables.positions,
                    (
                      simple_lines (constant_line ds) row.Constant (constant_words ds)
                          (constant_same ds) code.tables.constants,
                      (instructions_same 0 code.instructions, tt),
                    ),
                  ),
                ),
              ),
            ),
          ),
        ),
      ),
    )

listing_text : (code : Code) (files : List Text)
    → listing code files ≡ codes "catala-code 1\n" ++ rows_text (rows_of (words_of code.tables files) code.instructions)
unfolding listing declaration_lines table_lines
listing_text code files =
    let ds = code.tables.decls in
    let tables = code.tables in
    ap (λ (t : Text). codes "catala-code 1\n" ++ t)
    (regrouped (lines_of file_line files) (lines_of (structure_lines ds) ds.structures)
    (lines_of (enumeration_lines ds) ds.enumerations) (scopes_lines ds ds.scopes tables.scopes)
    (lines_of (target_line ds) tables.targets) (lines_of (place_line (codes "definition ")) tables.definitions)
    (lines_of function_line tables.functions) (lines_of (place_line (codes "position ")) tables.positions)
    (lines_of (constant_line ds) tables.constants) (listed.instructions_lines 0 code.instructions)
    ∙ same_texts (listed_sections code files) (map rows_text (sections (words_of code.tables files) code.instructions))
    (sections_same code files)
    ∙ sym (joined_text (sections (words_of tables files) code.instructions)))

-- ---- an image

no_feeds : (text : Text) → list_all (λ byte. not (byte == 10)) text ≡ true → cut 10 text ≡ None
unfolding cut
no_feeds [] all = refl
no_feeds (b ∷ bs) all =
    let both = and_parts (not (b == 10)) (list_all (λ byte. not (byte == 10)) bs) all in
    rw (not-true (b == 10) both.0, no_feeds bs both.1) refl

texts_of_lines : (lines : List Text) → AllByRecursion (λ line. is_line line ≡ true) lines
    → AllByRecursion (λ line. is_utf8 line ≡ true) lines × AllLack 10 lines
texts_of_lines [] all = (tt, tt)
texts_of_lines (line ∷ lines) all =
    let both = and_parts (is_utf8 line) (list_all (λ byte. not (byte == 10)) line) all.0 in
    let rest = texts_of_lines lines all.1 in
    ((both.0, rest.0), (no_feeds line both.1, rest.1))

pub listing_is_image : (code : Code) (files : List Text) → IsListable (words_of code.tables files) code.instructions
    → IsImage (listing code files) (words_of code.tables files) code.instructions
listing_is_image code files listable =
    let lines = image_lines (words_of code.tables files) code.instructions in
    let both = texts_of_lines lines listable.lines in
    record {
      rows = listable.rows;
      some = listable.some;
      lines = ap (parts 10) (listing_text code files) ∙ parts_of_text lines both.1;
      texts = both.0;
    }
