-- What a `MemShelf` means, and which of its reads fail.
use Rattle.cat_io.specs.Shelf.{Shelved}
use Rattle.cat_io.specs.Stored.{texts_of}
use Rattle.cat_io.specs.Numbered.{Numbered, numbered}
use Rattle.cat_io.specs.PureShelf as Pure
use Rattle.cat_io.specs.declared.mem_shelf.MemShelf.{MemShelf}

-- its files, and the names that it refused
abbrev pub shelved_of : MemShelf → Shelved
shelved_of shelf = record (Pure.shelved_of shelf.files) { faults = texts_of shelf.faults.items }

-- the reads made so far, and those that fail
abbrev pub reads_of : MemShelf → Numbered
reads_of shelf = numbered shelf.reads
