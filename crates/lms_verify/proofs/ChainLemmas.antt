-- A chain, one step on.
use Rattle.std.proofs.Common.{◌≡◌, ℕ, zero, suc, ◌+◌, ◌-◌, ◌≤◌, List, [], ◌∷◌, ◌++◌, refl, ap, sym, ◌∙◌, append_assoc, arith}
use Rattle.std.specs.List.{flat_map}
use Rattle.std.proofs.lemmas.List.{append-nil, map-id}
use Rattle.std.proofs.lemmas.List.Concat.{flat_map-append}
use Rattle.std.proofs.lemmas.List.FromFn.{map-range_with_len_more}
use Rattle.sha2.specs.Sha256.{sha256}
use Rattle.lms_verify.specs.Digits.{u8str, u16str, u32str, below}
use Rattle.lms_verify.specs.OneTime.{chain, chain_after, chain_step}

pub chain_none : (id : List ℕ) (q i a : ℕ) (value : List ℕ) → chain id q i a a value ≡ value
unfolding chain_after
chain_none id q i a value = let none : a - a ≡ zero = omega arith in rw none refl

pub chain_more : (id : List ℕ) (q i a b : ℕ) (value : List ℕ) → a ≤ b
    → chain id q i a (b + 1) value ≡ chain_step id q i b (chain id q i a b value)
unfolding chain_after
chain_more id q i a b value le =
    let more : b + 1 - a ≡ suc (b - a) = omega arith in
    let here : a + (b - a) ≡ b = omega arith in
    rw (more, here) refl

-- what a step hashes, with the place between what stands before it and the value
pub step_is : (id : List ℕ) (q i j : ℕ) (value : List ℕ)
    → sha256 ((id ++ u32str q ++ u16str i) ++ j ∷ value) ≡ chain_step id q i j value
step_is id q i j value = ap sha256 (sym (append_assoc (id ++ u32str q ++ u16str i) (u8str j) value))

below_more : (n : ℕ) → below (n + 1) ≡ below n ++ n ∷ []
below_more n =
    sym (map-id (below (n + 1))) ∙ map-range_with_len_more (λ (k : ℕ). k) 0 n n (omega arith)
    ∙ ap (λ (ns : List ℕ). ns ++ n ∷ []) (map-id (below n))

-- one piece more
pub flat_map_below_more : (f : ℕ → List ℕ) (n : ℕ)
    → flat_map f (below (n + 1)) ≡ flat_map f (below n) ++ f n
flat_map_below_more f n =
    ap (flat_map f) (below_more n) ∙ flat_map-append f (below n) (n ∷ [])
    ∙ ap (λ (end : List ℕ). flat_map f (below n) ++ end) (append-nil (f n))
