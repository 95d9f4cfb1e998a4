-- An expression ends before a token that may follow it in a program.
use Rattle.std.proofs.Common.{◌≡◌, ℕ, max, List, [], ◌∷◌, ◌++◌, length, sym, ap, subst, ◌∙◌, append_assoc, arith}
use Rattle.std.proofs.lemmas.List.{append-nil, length-append}
use Rattle.cat_parse_expr.specs.Climbing.{operand}
use Rattle.cat_parse_expr.specs.Rightly.{IsLow}
use Rattle.cat_parse.proofs.Common.{Token, Node, height_of, Other, Measured, MayFollow, looks_of, Parsed, Reads}
use Rattle.cat_parse.proofs.Common.{left_of, Seen, Says, IsRight, IsMeasured, operand_row, measured_of, rightly}
use Rattle.cat_parse.proofs.Common.{read_whole, as_row, EndsBefore}
use Rattle.cat_parse.proofs.Reading.{may_follow}

right : (room bound : ℕ)
    → IsRight (IsLow room) bound (MayFollow Other 0) (looks_of Other) IsMeasured (operand_row 0) (operand room Other 0)
right room bound = rightly room Other 0 bound (omega arith)

pub ends_before : (e : Node) (front : List Token) (p : Token) → EndsBefore e front p
ends_before e front p s b begins =
    let room = max (height_of e) (height_of begins.tree) in
    let ts = (front ++ p ∷ []) ++ begins.rest in
    let is : operand room Other 0 ts ≡ Reads (measured_of begins.tree) [] =
    read_whole room (operand room Other 0) (right room) ts begins.tree begins.spells (omega arith) in
    let says : Says (IsLow room) (Reads (measured_of begins.tree) []) (measured_of e) front ts =
    subst (λ (o : Parsed Measured). Says (IsLow room) o (measured_of e) front ts) is
    ((right room (length ts)).says ts ts (measured_of e) front (omega arith)
    (sym (append-nil ts) ∙ ap (λ (o : Parsed Measured). ts ++ left_of o) (sym is))
    (record {
      others = [];
      behind = p ∷ begins.rest;
      seen = subst (λ (o : Parsed Measured). Seen (looks_of Other) o []) (sym is) tt;
      is = as_row e front s;
      outside = may_follow (measured_of e) (p ∷ begins.rest) b;
      text = sym (append_assoc front (p ∷ []) begins.rest) ∙ sym (append-nil ts);
    })) in
    omega (
      arith,
      ap length says.1,
      length-append (front ++ p ∷ []) begins.rest,
      length-append front (p ∷ []),
    )
