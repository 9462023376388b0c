use Rattle.std.proofs.Common.{◌≡◌, ℕ, ◌*◌, ◌^◌, ◌<◌, true, take, drop, refl, ap, sym, ◌∙◌, arith}
use Rattle.lms_verify.specs.Kinds.{height, lms_number, ots_number, chain_count}
use Rattle.lms_verify.specs.Signatures.{LmsSignature}
use Rattle.lms_verify.proofs.TextLemmas.{SignatureParts, u32str_same, lms_number_fits, ots_number_fits, leaf_fits, signature_parts, parts_spell, parts_same}
use Rattle.lms_verify.proofs.signature.read_parts.Goals as goal

pub returns-then-numbers_fit-clause-read : goal.returns-then-numbers_fit-clause-read
returns-then-numbers_fit-clause-read c =
    let n = chain_count c.args.ots in
    let fit = c.numbers_fit.ensures.0 c.if-numbers_fit.true in
    let rest = c.split_at.ensures.back in
    let behind = c.split_at-2.ensures.back ∙ ap (drop 4) rest in
    let after = c.split_at-3.ensures.back ∙ ap (drop 32) behind in
    let last = c.split_at-4.ensures.back
    ∙ ap (λ (k : ℕ). drop (32 * k) c.split_at-3.result.1.now) c.chain_count.ensures.value
    ∙ ap (drop (32 * n)) after in
    let s : LmsSignature = record {
      q = c.number_in-q.result;
      randomizer = c.split_at-3.result.0.now;
      values = c.split_at-4.result.0.now;
      path = c.split_at-5.result.1.now;
    } in
    let parts : SignatureParts c.args.kind c.args.ots s c.args.octets.now = record {
      q = sym c.split_at.ensures.front ∙ c.number_in-q.ensures;
      ots_number = sym (c.split_at-2.ensures.front ∙ ap (take 4) rest) ∙ c.number_in.ensures ∙ rw fit.0 refl;
      randomizer = sym (c.split_at-3.ensures.front ∙ ap (take 32) behind);
      values = sym (c.split_at-4.ensures.front
          ∙ ap (λ (k : ℕ). take (32 * k) c.split_at-3.result.1.now) c.chain_count.ensures.value
          ∙ ap (take (32 * n)) after);
      lms_number = sym (c.split_at-5.ensures.front ∙ ap (take 4) last) ∙ c.number_in-2.ensures ∙ rw fit.1 refl;
      path = sym (c.split_at-5.ensures.back ∙ ap (drop 4) last);
    } in
    parts_spell c.args.kind c.args.ots s c.args.octets.now parts fit.2
    (c.if-octets-signature_size.false ∙ c.signature_size.ensures.value)

pub returns-then-numbers_fit-clause-found : goal.returns-then-numbers_fit-clause-found
returns-then-numbers_fit-clause-found c = λ s spells.
    let kind = c.args.kind in
    let ots = c.args.ots in
    let octets = c.args.octets.now in
    let read = returns-then-numbers_fit-clause-read c in
    parts_same kind ots _ s octets (signature_parts kind ots _ octets read)
    (signature_parts kind ots s octets spells) (leaf_fits kind _ read.leaf) (leaf_fits kind s.q spells.leaf)

pub returns-clause-found : goal.returns-clause-found
returns-clause-found c = λ s spells.
    let kind = c.args.kind in
    let ots = c.args.ots in
    let n = chain_count ots in
    let parts = signature_parts kind ots s c.args.octets.now spells in
    let rest = c.split_at.ensures.back in
    let behind = c.split_at-2.ensures.back ∙ ap (drop 4) rest in
    let after = c.split_at-3.ensures.back ∙ ap (drop 32) behind in
    let last = c.split_at-4.ensures.back
    ∙ ap (λ (k : ℕ). drop (32 * k) c.split_at-3.result.1.now) c.chain_count.ensures.value
    ∙ ap (drop (32 * n)) after in
    let leaf : c.number_in-q.result ≡ s.q =
    u32str_same _ _ (omega arith) (leaf_fits kind s.q spells.leaf)
    (sym c.number_in-q.ensures ∙ c.split_at.ensures.front ∙ parts.q) in
    let ots-is : c.number_in.result ≡ ots_number ots =
    u32str_same _ _ (omega arith) (ots_number_fits ots)
    (sym c.number_in.ensures ∙ c.split_at-2.ensures.front ∙ ap (take 4) rest ∙ parts.ots_number) in
    let lms-is : c.number_in-2.result ≡ lms_number kind =
    u32str_same _ _ (omega arith) (lms_number_fits kind)
    (sym c.number_in-2.ensures ∙ c.split_at-5.ensures.front ∙ ap (take 4) last ∙ parts.lms_number) in
    let below : c.number_in-q.result < 2 ^ height kind = rw leaf spells.leaf in
    let yes : c.numbers_fit.result ≡ true = c.numbers_fit.ensures.1 (ots-is, lms-is, below) in
    let no = c.if-numbers_fit.false in
    cc
