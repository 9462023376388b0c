use Rattle.std.proofs.Common.{◌≡◌, ℕ, ◌-◌, List, [], ◌∷◌, ◌++◌, length, length-append, take, drop, ◌≤◌, ap, sym, ◌∙◌, append_assoc, arith, rules}
use Rattle.std.proofs.lemmas.List.{drop_at, take_all}
use Rattle.lms_verify.specs.Digits.{u8str, u16str, u32str}
use Rattle.lms_verify.specs.OneTime.{chain, chain_after}
use Rattle.lms_verify.proofs.ChainLemmas.{chain_none, chain_more, step_is}
use Rattle.lms_verify.proofs.chains.chain.Goals as goal

-- what stands before the place has 22 octets
front_size : (id : List ℕ) (q i : ℕ) → length id ≡ 16 → length (id ++ u32str q ++ u16str i) ≡ 22
front_size id q i size =
    omega (arith, length-append (id ++ u32str q) (u16str i), length-append id (u32str q), size)

pub loop-j-init : goal.loop-j-init
loop-j-init c =
    let front = c.args.id.now ++ u32str c.args.q ++ u16str c.args.i in
    record {
      octets = (
        0,
        c.step_octets-octets.ensures ∙ append_assoc front (u8str 0) c.args.value.now
            ∙ ap (λ (value : List ℕ). front ++ 0 ∷ value)
            (sym (chain_none c.args.id.now c.args.q c.args.i c.args.from c.args.value.now)),
      );
      size = search rules;
      within = omega arith;
    }

pub loop-j-preserved : goal.loop-j-preserved
loop-j-preserved c =
    let id = c.args.id.now in
    let q = c.args.q in
    let i = c.args.i in
    let j = c.loop-j.j in
    let front = id ++ u32str q ++ u16str i in
    let value = chain id q i c.args.from j c.args.value.now in
    let stepped = c.take_step.ensures front value c.loop-j.invariant.octets.0
    (front_size id q i c.told-id) c.loop-j.invariant.octets.1 in
    record {
      octets = (
        j,
        stepped ∙ ap (λ (next : List ℕ). front ++ j ∷ next)
            (step_is id q i j value
            ∙ sym (chain_more id q i c.args.from j c.args.value.now (omega arith))),
      );
      size = search rules;
      within = omega arith;
    }

-- what is read at the end
read_value : (front value : List ℕ) (k : ℕ) → length front ≡ 22 → length (front ++ k ∷ value) ≡ 55
    → take 32 (drop 23 (front ++ k ∷ value)) ≡ value
read_value front value k at size =
    let after : length (front ++ k ∷ []) ≡ 23 = omega (arith, length-append front (k ∷ []), at) in
    let few : length value ≤ 32 = omega (arith, length-append front (k ∷ value), at, size) in
    rw (← append_assoc front (k ∷ []) value, drop_at (front ++ k ∷ []) value 23 after) (take_all 32 value few)

pub returns : goal.returns
returns c = record {
  value =
      let id = c.args.id.now in
      let q = c.args.q in
      let i = c.args.i in
      let front = id ++ u32str q ++ u16str i in
      let value = chain id q i c.args.from c.loop-j.j c.args.value.now in
      let whole = c.loop-j.invariant.octets.1 in
      let steps : c.loop-j.j - c.args.from ≡ c.args.to - c.args.from = omega arith in
      c.copy_from_slice.ensures.after
      ∙ ap (λ (octets : List ℕ). take 32 (drop 23 octets)) whole
      ∙ read_value front value c.loop-j.invariant.octets.0 (front_size id q i c.told-id)
      (ap length (sym whole) ∙ c.loop-j.invariant.size)
      ∙ ap (λ (n : ℕ). chain_after id q i c.args.from n c.args.value.now) steps;
}
