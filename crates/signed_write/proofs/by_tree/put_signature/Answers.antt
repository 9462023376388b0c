use Rattle.std.proofs.Common.{◌≡◌, ◌≤◌, ◌+◌, ◌++◌, ◌-◌, ◌∙◌, ◌∷◌, List, ℕ, take, drop, ap, arith}
use Rattle.std.proofs.lemmas.List.{drop-take, take-take}
use Rattle.lms_sign.specs.SignTexts.{sign_text}
use Rattle.signed_write.proofs.by_tree.put_signature.Goals as goal

-- a part of the front is that part of the whole
part_of_front : (octets : List ℕ) (from to place : ℕ) → from ≤ to → to ≤ place
    → take (to - from) (drop from (take place octets)) ≡ take (to - from) (drop from octets)
part_of_front octets from to place ordered within =
    ap (λ (n : ℕ). take (to - from) (drop from (take n octets))) {x = place} {y = from + (place - from)} (omega (arith, ordered, within))
    ∙ ap (take (to - from)) (drop-take from (place - from) octets)
    ∙ take-take (to - from) (place - from) (drop from octets) (omega (arith, ordered, within))

pub returns : goal.returns
returns c =
    let places = c.args.places in
    let front = c.split_at_mut-front.result.0.now in
    let signed =
    ap (λ (octets : List ℕ). take (places.to - places.from) (drop places.from octets)) c.split_at_mut-front.ensures.front
    ∙ part_of_front c.args.octets.now places.from places.to places.signature c.requires.within.ordered c.requires.within.signed in
    record {
      octets =
          ap (λ (octets : List ℕ). octets ++ c.sign.new.out) c.split_at_mut-front.ensures.front
          ∙ ap (λ (signature : List ℕ). take places.signature c.args.octets.now ++ signature)
          (c.sign.ensures.signature ∙ ap (λ (octets : List ℕ). sign_text c.args.tree.now c.args.leaf (places.tag ∷ octets)) signed);
      unchanged = c.sign.ensures.unchanged;
    }
