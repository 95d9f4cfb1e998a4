use Rattle.std.proofs.Common.{◌≡◌, refl, subst, sym}
use Rattle.std.specs.Prelude.{Some, None}
use Rattle.cat_value.specs.declared.decls.Decls.{Decls}
use Rattle.cat_scope.specs.Named.{number_named}
use Rattle.cat_app.specs.inside.AskedWords.{listing_asked}
use Rattle.cat_app.proofs.Replies.{if_ok}
use Rattle.cat_app.proofs.ExecReplies.{no_code, no_scope}
use Rattle.cat_app.proofs.executed.image_reply.Goals as goal

pub returns-in-Err-clause-may : goal.returns-in-Err-clause-may
returns-in-Err-clause-may g c =
    if_ok c.refuse_code.result c.refuse_code.ensures (λ reply says.
    no_code (listing_asked c.args.asked) _ _ reply c.requires.bytes c.args.image c.in-Err.refusal
    c.requires.listing_read c.requires.image_is refl c.in-Err.ensures.cause says)

pub input_reply-requires : goal.input_reply-requires
input_reply-requires g c = record {
  bytes = c.requires.bytes;
  listing_read = c.requires.listing_read;
  code_is = record {
    image = c.args.image;
    image_is = c.requires.image_is;
    verified = c.in-Ok.ensures.verified;
  };
  named = subst (λ (ds : Decls). number_named c.args.asked.scope.now 0 ds.scopes ≡ Some c.in-Some.scope)
      c.decls.ensures (cc (c.scope_named.ensures, c.in-Some.is));
}

pub returns-clause-may : goal.returns-clause-may
returns-clause-may g c =
    if_ok c.no_scope.result c.no_scope.ensures (λ reply says.
    no_scope (listing_asked c.args.asked) _ _ reply c.requires.bytes c.in-Ok.verified.code c.in-Ok.verified.files
    c.requires.listing_read
    (record { image = c.args.image; image_is = c.requires.image_is; verified = c.in-Ok.ensures.verified })
    (subst (λ (ds : Decls). number_named c.args.asked.scope.now 0 ds.scopes ≡ None) c.decls.ensures
    (cc (c.scope_named.ensures, c.in-None.is))) refl says)
