use Rattle.std.proofs.Common.{◌≡◌, ◌++◌, ◌∙◌, ◌-◌, ◌∷◌, List, ℕ, length, take, drop, ap, arith}
use Rattle.std.proofs.lemmas.List.{take_all, drop_all, append-nil}
use Rattle.lms_sign.specs.SignTexts.{sign_text}
use Rattle.signed_write.specs.Unsigned.{Parts}
use Rattle.signed_write.proofs.by_tree.finish_by_tree.Goals as goal

-- octets that are all replaced
replaced : (octets new : List ℕ) (len : ℕ) → len ≡ length octets → length new ≡ length octets
    → take len (new ++ drop (length new) octets) ≡ new
replaced octets new len is long =
    ap (λ (rest : List ℕ). take len (new ++ rest)) (drop_all (length new) octets (omega (arith, long)))
    ∙ ap (λ (all : List ℕ). take len all) (append-nil new)
    ∙ take_all len new (omega (arith, is, long))

pub returns : goal.returns
returns c =
    let octets = c.unsigned.inside.octets in
    let places = c.unsigned.inside.places in
    let key = c.args.tree.now in
    let long = ap (λ (all : List ℕ). length all) c.deref_mut.ensures.value in
    record {
      octets =
          replaced octets.items c.put_signature.new.octets octets.len (omega (arith, long, c.deref_mut.ensures.len))
          (omega (arith, long, c.put_signature.auto.octets)) ∙ c.put_signature.ensures.octets
          ∙ ap
          (λ (all : List ℕ). take places.signature all
          ++ sign_text key c.args.leaf (places.tag ∷ take (places.to - places.from) (drop places.from all))) c.deref_mut.ensures.value
          ∙ ap (λ (parts : Parts). parts.before ++ sign_text key c.args.leaf parts.signed) c.unsigned.view_is;
      unchanged = c.put_signature.ensures.unchanged;
    }
