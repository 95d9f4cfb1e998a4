use Rattle.cat_io.specs.PureShelf.{shelved_of}
use Rattle.cat_app.proofs.DrillReplies.{refused_fence, refused_include, refused_text, whole_source}
use Rattle.cat_app.proofs.drilled.gather_bands.Goals as goal

pub returns-in-Ok : goal.returns-in-Ok
returns-in-Ok c =
    whole_source c.args.bands (shelved_of c.in_ok-shelf.shelf) (shelved_of c.gather.new.shelf) c.in-Ok.source
    c.in_ok-shelf.ensures c.in-Ok.ensures.cause c.in-Ok.ensures.readable

pub returns-in-Err-NotUtf8 : goal.returns-in-Err-NotUtf8
returns-in-Err-NotUtf8 c =
    refused_text c.args.bands (shelved_of c.in_ok-shelf.shelf) (shelved_of c.gather.new.shelf) c.in-Err-NotUtf8.name
    c.in-Err-NotUtf8.pos c.in_ok-shelf.ensures (rw c.in-Err-NotUtf8.field-0-is at c.in-Err-NotUtf8.ensures.cause)

pub returns-in-Err-FenceOpen : goal.returns-in-Err-FenceOpen
returns-in-Err-FenceOpen c =
    refused_fence c.args.bands (shelved_of c.in_ok-shelf.shelf) (shelved_of c.gather.new.shelf) c.in-Err-FenceOpen.name
    c.in-Err-FenceOpen.pos c.in_ok-shelf.ensures (rw c.in-Err-FenceOpen.field-0-is at c.in-Err-FenceOpen.ensures.cause)

pub returns-in-Err-IncludeTwice : goal.returns-in-Err-IncludeTwice
returns-in-Err-IncludeTwice c =
    refused_include c.args.bands (shelved_of c.in_ok-shelf.shelf) (shelved_of c.gather.new.shelf)
    c.in-Err-IncludeTwice.name c.in-Err-IncludeTwice.pos c.in_ok-shelf.ensures
    (rw c.in-Err-IncludeTwice.field-0-is at c.in-Err-IncludeTwice.ensures.cause)
