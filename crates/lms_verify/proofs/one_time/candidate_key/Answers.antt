use Rattle.std.proofs.Common.{◌≡◌, ℕ, ◌+◌, ◌-◌, ◌*◌, List, ◌++◌, refl, sym, ap, ◌∙◌, subst, append_assoc, arith}
use Rattle.std.specs.Prelude.{slice_index}
use Rattle.std.specs.List.{flat_map}
use Rattle.std.proofs.lemmas.List.FromFn.{get_or-map-range_with_len}
use Rattle.sha2.specs.Hashers.{Holds256}
use Rattle.lms_verify.specs.Kinds.{width, chain_count}
use Rattle.lms_verify.specs.Digits.{below, checked_value, digit, message_digits, u32str}
use Rattle.lms_verify.specs.OneTime.{chain_end, d_pblc}
use Rattle.lms_verify.proofs.ChainLemmas.{flat_map_below_more}
use Rattle.lms_verify.proofs.one_time.candidate_key.Goals as goal

pub loop-i-preserved : goal.loop-i-preserved
loop-i-preserved c =
    let ots = c.args.ots in
    let id = c.args.id.now in
    let q = c.args.q in
    let value = c.args.value.now in
    let values = c.args.values.now in
    let i = c.loop-i.i in
    let ends = chain_end ots id q value values in
    let front = id ++ u32str q ++ d_pblc in
    let digit-is : slice_index (message_digits ots value) i ≡ c.digit-from.result =
    get_or-map-range_with_len (λ k. digit (width ots) (checked_value ots value) k) 0 (chain_count ots)
    i i 0 (omega arith) (omega arith)
    ∙ sym (c.digit-from.ensures.value
    ∙ ap (λ (octets : List ℕ). digit (width ots) octets i) c.checked_value-octets.ensures.value) in
    let size : 32 * i + 32 - 32 * i ≡ 32 = omega arith in
    let end-is : c.chain.result ≡ ends i =
    c.chain.ensures.value ∙ rw (digit-is, size, c.last_place-last.ensures.value) refl in
    let whole : (front ++ flat_map ends (below i)) ++ c.chain.result ≡ front ++ flat_map ends (below (i + 1)) =
    append_assoc front (flat_map ends (below i)) c.chain.result
    ∙ ap (λ (end : List ℕ). front ++ (flat_map ends (below i) ++ end)) end-is
    ∙ ap (λ (all : List ℕ). front ++ all) (sym (flat_map_below_more ends i)) in
    let P : List ℕ → Type 0 = λ message. Holds256 c.update.new.self message in
    subst P whole (c.update.ensures (front ++ flat_map ends (below i)) c.loop-i.invariant)
