use Rattle.std.proofs.Common.{◌≡◌, List, ℕ, subst, sym}
use Rattle.cat_pos.specs.Limits.{most_input_bytes}
use Rattle.cat_io.specs.Shelf.{Gives, Shelved}
use Rattle.cat_image.specs.Image.{IsImage}
use Rattle.cat_image.specs.Refused.{HasCause}
use Rattle.cat_app.specs.inside.AskedWords.{listing_asked}
use Rattle.cat_app.proofs.Replies.{if_ok}
use Rattle.cat_app.proofs.ExecReplies.{no_file, no_image}
use Rattle.cat_app.proofs.executed.listing_reply.Goals as goal

pub returns-in-Err-clause-may : goal.returns-in-Err-clause-may
returns-in-Err-clause-may g c =
    if_ok c.refuse_file.result c.refuse_file.ensures (λ reply says.
    no_file (listing_asked c.args.asked) _ _ reply c.in-Err.fault c.in-Err.ensures says)

-- the image is that of what was read
pub image_reply-requires : goal.image_reply-requires
image_reply-requires g c =
    let bytes : c.deref.result.now ≡ c.in-Ok.bytes.items = cc (c.deref.ensures.value) in record {
      bytes = c.in-Ok.bytes.items;
      listing_read = subst (λ (s : Shelved). Gives (s.content c.args.asked.file.now) most_input_bytes
          c.in-Ok.bytes.items)
          (sym c.in-Ok.ensures.0) c.in-Ok.ensures.1;
      image_is = subst (λ (b : List ℕ). IsImage b c.in-Ok-read_listing.image.tables
          c.in-Ok-read_listing.image.instructions) bytes c.in-Ok-read_listing.ensures.read;
    }

pub returns-in-Err-read_listing-clause-may : goal.returns-in-Err-read_listing-clause-may
returns-in-Err-read_listing-clause-may g c =
    let bytes : c.deref.result.now ≡ c.in-Ok.bytes.items = cc (c.deref.ensures.value) in
    if_ok c.refuse_image.result c.refuse_image.ensures (λ reply says.
    no_image (listing_asked c.args.asked) _ _ reply c.in-Ok.bytes.items c.in-Err-read_listing.refusal c.in-Ok.ensures.1
    c.in-Ok.ensures.0
    (subst (λ (b : List ℕ). HasCause b c.in-Err-read_listing.refusal) bytes c.in-Err-read_listing.ensures.cause) says)
