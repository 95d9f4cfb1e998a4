-- What sources and inputs are limited to.
use Rattle.std.specs.Prelude.{ℕ}

-- the bytes of one source file
abbrev pub most_file_bytes : ℕ
most_file_bytes = 4194304

-- the source files of a program, the main file among them
abbrev pub most_files : ℕ
most_files = 64

-- the bytes of all source files of a program together
abbrev pub most_source_bytes : ℕ
most_source_bytes = 16777216

-- the bytes of an input
abbrev pub most_input_bytes : ℕ
most_input_bytes = 67108864
