use Rattle.std.proofs.Common.{◌≡◌, [], ◌∷◌, ◌++◌, length, length-append, replicate, refl, ap, sym, ◌∙◌, append_assoc, arith}
use Rattle.std.proofs.lemmas.List.{append-nil}
use Rattle.lms_verify.proofs.chains.step_octets.Goals as goal

-- each part is written over zeros
pub returns : goal.returns
returns c =
    let id = c.args.id.now in
    let q = c.to_be_bytes.result in
    let i = c.to_be_bytes-2.result in
    let q-size : length q ≡ 4 = ap length c.to_be_bytes.ensures in
    let i-size : length i ≡ 2 = ap length c.to_be_bytes-2.ensures in
    let with_id : c.put.new.octets ≡ id ++ replicate 39 0 =
    c.put.ensures [] (replicate 16 0) (replicate 39 0) refl (sym c.told-id) refl in
    let with_q : c.put-2.new.octets ≡ (id ++ q) ++ replicate 35 0 =
    c.put-2.ensures id (replicate 4 0) (replicate 35 0) c.told-id (sym q-size) with_id
    ∙ sym (append_assoc id q (replicate 35 0)) in
    let with_i : c.put-3.new.octets ≡ ((id ++ q) ++ (i ++ 0 ∷ [])) ++ replicate 32 0 =
    c.put-3.ensures (id ++ q) (replicate 2 0) (replicate 33 0)
    (omega (arith, length-append id q, c.told-id, q-size)) (sym i-size) with_q
    ∙ simp append_assoc in
    let whole : c.put-4.new.octets ≡ ((id ++ q) ++ (i ++ 0 ∷ [])) ++ (c.args.value.now ++ []) =
    c.put-4.ensures ((id ++ q) ++ (i ++ 0 ∷ [])) (replicate 32 0) []
    (omega (arith, length-append id q, length-append (id ++ q) (i ++ 0 ∷ []), length-append i (0 ∷ []), c.told-id, q-size, i-size))
    (sym c.requires) (with_i ∙ rw append-nil refl) in
    whole ∙ rw (append-nil, c.to_be_bytes.ensures, c.to_be_bytes-2.ensures) (simp append_assoc)
