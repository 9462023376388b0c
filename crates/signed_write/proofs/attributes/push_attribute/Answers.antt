use Rattle.std.proofs.Common.{◌≡◌, ◌+◌, ◌++◌, ◌∷◌, [], ℕ, List, length, map, ap, arith, Vec, Global}
use Rattle.std.specs.List.{concat}
use Rattle.std.proofs.lemmas.List.{length-append}
use Rattle.signed_write.proofs.attributes.push_attribute.Goals as goal

-- a part more
longer : (parts : List (Vec ℕ Global)) (part : Vec ℕ Global)
    → length (concat (map (λ p. p.items) (parts ++ part ∷ [])))
    ≡ length (concat (map (λ p. p.items) parts)) + length part.items
longer [] part = omega (arith, length-append part.items [])
longer (p ∷ parts) part =
    omega (
      arith,
      longer parts part,
      length-append p.items (concat (map (λ p. p.items) (parts ++ part ∷ []))),
      length-append p.items (concat (map (λ p. p.items) parts)),
    )

pub returns-clause-most : goal.returns-clause-most
returns-clause-most c =
    omega (
      arith,
      ap (λ (parts : List (Vec ℕ Global)). length (concat (map (λ p. p.items) parts))) c.in_ok-push.ensures.items,
      longer c.args.parts.now.items c.put_attribute.new.out,
      c.in_ok-put_attribute.ensures.most,
      ap length c.new-part.ensures.items,
    )
