use Rattle.std.proofs.Common.{◌≡◌, Some, take, drop, ap, sym, ◌∙◌, arith}
use Rattle.lms_verify.specs.Kinds.{lms_number, ots_number}
use Rattle.lms_verify.specs.declared.key.LmsKey.{LmsKey}
use Rattle.lms_verify.proofs.TextLemmas.{u32str_same, lms_number_fits, ots_number_fits, key_parts, same_key}
use Rattle.lms_verify.proofs.key.lms_key.Goals as goal

pub returns-clause-found : goal.returns-clause-found
returns-clause-found c = λ key valid text.
    let parts = key_parts c.args.octets.now key valid text in
    let rest = c.split_at.ensures.back in
    let behind = c.split_at-2.ensures.back ∙ ap (drop 4) rest in
    let kind-number : lms_number key.kind ≡ c.number_in.result =
    u32str_same _ _ (lms_number_fits key.kind) (omega arith)
    (sym parts.kind ∙ sym c.split_at.ensures.front ∙ c.number_in.ensures) in
    let ots-number : ots_number key.ots ≡ c.number_in-2.result =
    u32str_same _ _ (ots_number_fits key.ots) (omega arith)
    (sym parts.ots ∙ sym (c.split_at-2.ensures.front ∙ ap (take 4) rest) ∙ c.number_in-2.ensures) in
    let kind-is : c.in-Some.kind ≡ key.kind = cc (c.in-Some.ensures.found key.kind kind-number) in
    let ots-is : c.in-Some-from_number.ots ≡ key.ots =
    cc (c.in-Some-from_number.ensures.found key.ots ots-number) in
    let id-is : c.id_in.result ≡ key.id =
    c.id_in.ensures ∙ c.split_at-3.ensures.front ∙ ap (take 16) behind ∙ parts.id in
    let root-is : c.value_in.result ≡ key.root =
    c.value_in.ensures ∙ c.split_at-3.ensures.back ∙ ap (drop 16) behind ∙ parts.root in
    let made : LmsKey = record {
      kind = c.in-Some.kind;
      ots = c.in-Some-from_number.ots;
      id = c.id_in.result;
      root = c.value_in.result;
    } in
    let same : made ≡ key = same_key made key kind-is ots-is id-is root-is in
    ap Some same
