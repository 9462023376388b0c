use Rattle.std.proofs.Common.{◌≡◌, [], ◌∷◌, ◌++◌, length, length-append, set, refl, ap, sym, ◌∙◌, append_assoc, arith, rules}
use Rattle.std.proofs.lemmas.List.{append-nil, set_at}
use Rattle.lms_verify.proofs.chains.take_step.Goals as goal

pub returns : goal.returns
returns c = λ front value k at whole.
    let j = c.args.j in
    let digest = c.digest-digest.result in
    let size : length value ≡ 32 = omega (arith, c.told-octets, ap length whole, length-append front (k ∷ value)) in
    let digest-size : length digest ≡ 32 = search rules in
    let placed : set c.args.octets.now 22 j ≡ front ++ j ∷ value = rw whole (set_at front k value j 22 at) in
    let written : c.put.new.octets ≡ (front ++ j ∷ []) ++ (digest ++ []) =
    c.put.ensures (front ++ j ∷ []) value [] (omega (arith, length-append front (j ∷ []), at))
    (size ∙ sym digest-size)
    (placed ∙ rw append-nil (sym (append_assoc front (j ∷ []) value))) in
    written ∙ rw (append-nil, append_assoc, c.digest-digest.ensures, placed) refl
