-- What blocks hold, read in order.
use Rattle.std.proofs.Common.{◌≡◌, ⊎_elim, ℕ, suc, ◌+◌, ◌-◌, ◌*◌, ◌/◌, ◌<◌, ◌≤◌, List, [], ◌∷◌, length, take, drop, get_or, refl, ap, ◌∙◌, arith, length-append, length-take, length-drop, get_or-take, get_or-drop}
use Rattle.std.proofs.lemmas.List.{get_or_default, get_or_append_left, get_or-append_right, ext_get_or}
use Rattle.std.proofs.lemmas.Bool.{cases_lt}
use Rattle.content_stream.specs.ImageBlocks.{position, IsStored, octets_of, image_at}
use Rattle.package_attrs.specs.Image.{blocks_for}

module _ (base : ℕ) (cells : List ℕ) where
  -- the blocks lie in the cells
  abbrev pub LieIn : List ℕ → Type 0
  LieIn numbers = (k : ℕ) → k < length numbers → 4096 * (base + get_or numbers k 0) + 4096 ≤ length cells

  one : (n : ℕ) → 4096 * (base + n) + 4096 ≤ length cells
      → length (take 4096 (drop (4096 * (base + n)) cells)) ≡ 4096
  one n lies = omega (arith, length-take 4096 (drop (4096 * (base + n)) cells), length-drop (4096 * (base + n)) cells)

  pub length-octets_of : (numbers : List ℕ) → LieIn numbers
      → length (octets_of base numbers cells) ≡ 4096 * length numbers
  length-octets_of [] lies = refl
  length-octets_of (n ∷ numbers) lies = omega (
    arith,
    length-append (take 4096 (drop (4096 * (base + n)) cells)) (octets_of base numbers cells),
    one n (lies 0 (omega arith)),
    length-octets_of numbers (λ k lt. lies (suc k) (omega (arith, lt))),
  )

  pub octets_of_at : (numbers : List ℕ) (i : ℕ) → LieIn numbers → i < 4096 * length numbers
      → get_or (octets_of base numbers cells) i 0 ≡ get_or cells (position base numbers i) 0
  octets_of_at [] i lies lt = absurd (omega (arith, lt))
  octets_of_at (n ∷ numbers) i lies lt =
      let first = take 4096 (drop (4096 * (base + n)) cells) in
      let size = one n (lies 0 (omega arith)) in
      ⊎_elim
      (λ below.
      let none : i / 4096 ≡ 0 = omega (arith, below) in
      let at : 4096 * (base + n) + i ≡ position base (n ∷ numbers) i =
      omega (arith, ap (λ k. get_or (n ∷ numbers) k 0) none, none) in
      get_or_append_left first (octets_of base numbers cells) 0 i (omega (arith, below, size))
      ∙ get_or-take 4096 (drop (4096 * (base + n)) cells) i 0 below
      ∙ get_or-drop (4096 * (base + n)) cells i 0 ∙ ap (λ p. get_or cells p 0) at)
      (λ past.
      let next : i / 4096 ≡ suc ((i - 4096) / 4096) = omega (arith, past) in
      let at : position base numbers (i - 4096) ≡ position base (n ∷ numbers) i =
      omega (arith, ap (λ k. get_or (n ∷ numbers) k 0) next, past, next) in
      get_or-append_right first (octets_of base numbers cells) 4096 i 0 size past
      ∙ octets_of_at numbers (i - 4096) (λ k k_lt. lies (suc k) (omega (arith, k_lt))) (omega (arith, lt, past))
      ∙ ap (λ p. get_or cells p 0) at)
      (cases_lt i 4096)

  -- what is stored is read back
  pub stored_reads : (numbers image : List ℕ) → LieIn numbers → length numbers ≡ blocks_for (length image)
      → IsStored base numbers image cells → image_at base numbers (length image) cells ≡ image
  stored_reads numbers image lies enough stored =
      let size : length (image_at base numbers (length image) cells) ≡ length image =
      omega (arith, length-take (length image) (octets_of base numbers cells), length-octets_of numbers lies, enough) in
      ext_get_or 0 (image_at base numbers (length image) cells) image size
      (λ i lt.
      let here : i < length image = omega (arith, lt, size) in
      get_or-take (length image) (octets_of base numbers cells) i 0 here
      ∙ octets_of_at numbers i lies (omega (arith, here, enough))
      ∙ stored i (omega (arith, here)) ∙ get_or_default image i 255 0 here)
