-- What a `PureShelf` means.
use Rattle.std.specs.Prelude.{[]}
use Rattle.cat_io.specs.Shelf.{Shelved}
use Rattle.cat_io.specs.Stored.{content_of, texts_of}
use Rattle.cat_io.specs.declared.pure_shelf.PureShelf.{PureShelf}

-- its files, and the names that it refused: it has no faults
abbrev pub shelved_of : PureShelf → Shelved
shelved_of shelf = record {
  content = content_of shelf.files.items;
  misses = texts_of shelf.misses.items;
  faults = [];
  longs = texts_of shelf.longs.items;
}
