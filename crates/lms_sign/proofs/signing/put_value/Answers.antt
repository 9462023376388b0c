use Rattle.std.proofs.Common.{◌≡◌, ℕ, ◌+◌, ◌-◌, ◌*◌, ◌≤◌, List, ◌++◌, length, length-append, length-take, length-drop, take, drop, refl, ap, sym, ◌∙◌, append_assoc, arith}
use Rattle.std.proofs.lemmas.List.{take_at, take-append-drop}
use borrow.Rule.Slice.PartMut.{put_mid}
use Rattle.lms_sign.proofs.ChainLemmas.{flat_map_below_more}
use Rattle.lms_verify.proofs.Writes.{put_mid_at}
use Rattle.lms_sign.proofs.signing.put_value.Goals as goal

-- the value stands behind what stood before it
value_written : (out value : List ℕ) (i : ℕ) → 32 * i + 32 ≤ length out → length value ≡ 32
    → take (32 * (i + 1)) (put_mid (32 * i) (32 * i + 32 - 32 * i) out value) ≡ take (32 * i) out ++ value
value_written out value i room size =
    let at = 32 * i in
    let front = take at out in
    let middle = take 32 (drop at out) in
    let rest = drop 32 (drop at out) in
    let few : at + 32 - at ≡ 32 = omega arith in
    let front-size : length front ≡ at = omega (arith, length-take at out) in
    let middle-size : length middle ≡ 32 = omega (arith, length-take 32 (drop at out), length-drop at out) in
    let whole : out ≡ front ++ (middle ++ rest) =
    sym (rw (take-append-drop 32 (drop at out), take-append-drop at out) refl) in
    let written : put_mid at 32 out value ≡ front ++ (value ++ rest) =
    ap (λ (o : List ℕ). put_mid at 32 o value) whole
    ∙ put_mid_at front middle rest value at 32 front-size middle-size in
    let both : length (front ++ value) ≡ 32 * (i + 1) = omega (arith, length-append front value) in
    ap (λ (k : ℕ). take (32 * (i + 1)) (put_mid at k out value)) few
    ∙ ap (take (32 * (i + 1))) (written ∙ sym (append_assoc front value rest))
    ∙ take_at (front ++ value) rest (32 * (i + 1)) both

pub returns : goal.returns
returns c = λ values before here.
    let value-is : c.copy_from_slice.new.self ≡ c.args.value.now = c.copy_from_slice.ensures.after in
    value_written c.args.out.now c.copy_from_slice.new.self c.args.i (omega arith)
    (ap length value-is ∙ c.told-value)
    ∙ rw (before, value-is, here) (sym (flat_map_below_more values c.args.i))
