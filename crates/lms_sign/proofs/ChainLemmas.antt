-- Steps of a chain, and lists of values that are made one by one.
use Rattle.std.proofs.Common.{◌≡◌, ℕ, zero, suc, ◌+◌, ◌-◌, ◌*◌, ◌<◌, ◌≤◌, List, [], ◌∷◌, ◌++◌, length, length-append, length-drop, drop, inl, inr, refl, ap, sym, ◌∙◌, add-one, arith}
use Rattle.std.proofs.lemmas.Bool.{cases_lt}
use Rattle.std.specs.List.{flat_map}
use Rattle.std.proofs.lemmas.List.{append-nil, map-id, drop_at, take_all, drop-append-le, take-append-le}
use Rattle.std.proofs.lemmas.List.Concat.{flat_map-append}
use Rattle.std.proofs.lemmas.List.FromFn.{map-range_with_len_more}
use Rattle.lms_verify.specs.Digits.{below}
use Rattle.lms_verify.specs.OneTime.{chain, chain_after, value_at}

-- m steps and then n steps are m + n steps
pub chain_after_more : (id : List ℕ) (q i a m n : ℕ) (value : List ℕ)
    → chain_after id q i (a + m) n (chain_after id q i a m value) ≡ chain_after id q i a (m + n) value
unfolding chain_after
chain_after_more id q i a m zero value =
    let none : m + zero ≡ m = omega arith in rw none refl
chain_after_more id q i a m (suc n) value =
    let more : m + suc n ≡ suc (m + n) = omega arith in
    let here : a + m + n ≡ a + (m + n) = omega arith in
    rw (more, here, chain_after_more id q i a m n value) refl

-- from place a to b and then to c is from a to c
pub chain_on : (id : List ℕ) (q i a b c : ℕ) (value : List ℕ) → a ≤ b → b ≤ c
    → chain id q i b c (chain id q i a b value) ≡ chain id q i a c value
chain_on id q i a b c value ab bc =
    let start : a + (b - a) ≡ b = omega arith in
    let whole : (b - a) + (c - b) ≡ c - a = omega arith in
    let joined = chain_after_more id q i a (b - a) (c - b) value in
    ap (λ (s : ℕ). chain_after id q i s (c - b) (chain id q i a b value)) (sym start)
    ∙ joined ∙ ap (λ (n : ℕ). chain_after id q i a n value) whole

below_more : (n : ℕ) → below (n + 1) ≡ below n ++ n ∷ []
below_more n =
    sym (map-id (below (n + 1))) ∙ map-range_with_len_more (λ (k : ℕ). k) 0 n n (omega arith)
    ∙ ap (λ (ns : List ℕ). ns ++ n ∷ []) (map-id (below n))

-- one piece more
pub flat_map_below_more : (f : ℕ → List ℕ) (n : ℕ)
    → flat_map f (below (n + 1)) ≡ flat_map f (below n) ++ f n
flat_map_below_more f n =
    ap (flat_map f) (below_more n) ∙ flat_map-append f (below n) (n ∷ [])
    ∙ ap (λ (end : List ℕ). flat_map f (below n) ++ end) (append-nil (f n))

-- the same, as a recursion has it
flat_map_below_suc : (f : ℕ → List ℕ) (n : ℕ)
    → flat_map f (below (suc n)) ≡ flat_map f (below n) ++ f n
flat_map_below_suc f n =
    ap (λ (k : ℕ). flat_map f (below k)) (sym (add-one n)) ∙ flat_map_below_more f n

-- values of 32 octets one after the other
pub length-flat_map_below : (f : ℕ → List ℕ) → ((k : ℕ) → length (f k) ≡ 32) → (n : ℕ)
    → length (flat_map f (below n)) ≡ 32 * n
length-flat_map_below f size zero = refl
length-flat_map_below f size (suc n) =
    ap length (flat_map_below_suc f n)
    ∙ omega (arith, length-append (flat_map f (below n)) (f n), size n, length-flat_map_below f size n)

-- value i of values that stand one after the other is not changed by what follows them
value_at_before : (all more : List ℕ) (i : ℕ) → 32 * i + 32 ≤ length all
    → value_at (all ++ more) i ≡ value_at all i
value_at_before all more i room =
    let start : 32 * i ≤ length all = omega arith in
    let rest : 32 ≤ length (drop (32 * i) all) = omega (arith, length-drop (32 * i) all) in
    rw (drop-append-le, take-append-le) refl

-- and what follows them is the next
value_at_end : (all value : List ℕ) (n : ℕ) → length all ≡ 32 * n → length value ≡ 32
    → value_at (all ++ value) n ≡ value
value_at_end all value n size value-size =
    let few : length value ≤ 32 = omega arith in
    rw (drop_at all value (32 * n) size) (take_all 32 value few)

-- value i of them
pub value_at_below : (f : ℕ → List ℕ) → ((k : ℕ) → length (f k) ≡ 32) → (n i : ℕ) → i < n
    → value_at (flat_map f (below n)) i ≡ f i
value_at_below f size zero i lt = absurd (omega arith)
value_at_below f size (suc n) i lt =
    let all = flat_map f (below n) in
    let all-size : length all ≡ 32 * n = length-flat_map_below f size n in
    ap (λ (whole : List ℕ). value_at whole i) (flat_map_below_suc f n)
    ∙ elim (cases_lt i n) [
      | inl before ↦ value_at_before all (f n) i (omega arith) ∙ value_at_below f size n i before
      | inr last ↦ let same : i ≡ n = omega arith in
          ap (λ (k : ℕ). value_at (all ++ f n) k) same
          ∙ value_at_end all (f n) n all-size (size n) ∙ ap f (sym same)
    ]

-- pieces that are the same one by one
pub flat_map_below_same : (f g : ℕ → List ℕ) (n : ℕ) → ((i : ℕ) → i < n → f i ≡ g i)
    → flat_map f (below n) ≡ flat_map g (below n)
flat_map_below_same f g zero same = refl
flat_map_below_same f g (suc n) same =
    flat_map_below_suc f n
    ∙ ap (λ (front : List ℕ). front ++ f n) (flat_map_below_same f g n (λ i lt. same i (omega arith)))
    ∙ ap (λ (end : List ℕ). flat_map g (below n) ++ end) (same n (omega arith))
    ∙ sym (flat_map_below_suc g n)
