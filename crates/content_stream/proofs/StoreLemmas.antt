-- One part of an image that is stored: what the blocks hold before and after.
use Rattle.std.proofs.Common.{◌≡◌, ⊎_elim, ℕ, ◌+◌, ◌-◌, ◌*◌, ◌/◌, ◌%◌, ◌<◌, ◌≤◌, List, ◌++◌, length, take, drop, min, get_or, refl, sym, ap, ◌∙◌, arith, length-append, length-take}
use Rattle.std.proofs.lemmas.List.{get_or_default, get_or_past, get_or_append_left, get_or-append_right, drop-append-le, drop_all, take_rest, drop_min}
use Rattle.std.proofs.Math.Seq.{drop-append-add, take-add}
use Rattle.std.proofs.lemmas.Bool.{cases_lt}
use Rattle.edge_board.specs.Board.{View, Keeps, Within, InBlock, Effect, IsHonest, Programmed, cell}
use Rattle.edge_board.specs.Runs.{Touches}
use Rattle.edge_board.proofs.RunLemmas.{touch, touch_wider, touch_then}
use Rattle.block_pool.specs.Numbers.{IsApart}
use Rattle.content_stream.specs.ImageBlocks.{position, InImageBlocks, IsStored, IsBlank, Holds, KeepsFront}

-- an erased block, and then a program of a part of it
module _ {tc tm : Type 0} (block place : ℕ) (part : List ℕ) (a b c : View)
    (fits : place + length part ≤ 4096) (so_far : Touches tc (InBlock block) a b)
    (honest : IsHonest tc tm b) (wrote : Effect tc tm (Within (4096 * block + place) (length part)) b c) where
  pub put_touches : Touches tc (InBlock block) a c
  put_touches = touch_then a b c so_far (touch_wider b c
      (λ told i within. (omega (arith, within.0), omega (arith, within.1, fits))) (touch b c honest wrote))

  pub put_holds : tc → IsBlank block place b.cells → Programmed (4096 * block + place) part b.cells c.cells
      → Holds block place part c.cells
  put_holds told blank programmed m lt =
      let at : 4096 * block + (place + m) ≡ 4096 * block + place + m = omega arith in
      ⊎_elim
      (λ below. ap (λ i. cell c.cells i) at
      ∙ programmed m below (ap (λ i. cell b.cells i) (sym at) ∙ blank m lt)
      ∙ get_or_default part m 0 255 below)
      (λ past. (wrote.cells told).each (4096 * block + (place + m)) (λ within. omega (arith, within.1, past))
      ∙ blank m lt ∙ sym (get_or_past part m 255 past))
      (cases_lt m (length part))

-- octets that stand in order, and a part behind them in the block that is begun
module _ (base : ℕ) (numbers image part old new : List ℕ) (block place : ℕ)
    (block_is : block ≡ base + get_or numbers (length image / 4096) 0)
    (place_is : place ≡ length image % 4096) (apart : IsApart numbers)
    (within : length image / 4096 < length numbers) (fits : place + length part ≤ 4096)
    (keeps : Keeps (InBlock block) old new) (front : KeepsFront block place old new)
    (holds : Holds block place part new) (was : IsStored base numbers image old) where
  whole : length (image ++ part) ≡ length image + length part
  whole = length-append image part

  -- an octet of an earlier block
  earlier : (i : ℕ) → i / 4096 < length image / 4096
      → cell new (position base numbers i) ≡ get_or (image ++ part) i 255
  earlier i lt =
      let here : i < length image = omega (arith, lt) in
      keeps.each (position base numbers i) (λ inside.
      apart (i / 4096) (length image / 4096) 0 lt within (omega (arith, inside.0, inside.1, block_is)))
      ∙ was i (omega (arith, here)) ∙ sym (get_or_append_left image part 255 i here)

  -- where an octet of the block that is begun stands
  module _ (i : ℕ) (same : i / 4096 ≡ length image / 4096) where
    there : position base numbers i ≡ 4096 * block + i % 4096
    there = omega (arith, block_is, ap (λ k. get_or numbers k 0) same)

    before : i % 4096 < place → cell new (position base numbers i) ≡ get_or (image ++ part) i 255
    before lt =
        let here : i < length image = omega (arith, lt, place_is, same) in
        ap (λ p. cell new p) there ∙ front (i % 4096) lt ∙ ap (λ p. cell old p) (sym there)
        ∙ was i (omega (arith, here)) ∙ sym (get_or_append_left image part 255 i here)

    behind : place ≤ i % 4096 → cell new (position base numbers i) ≡ get_or (image ++ part) i 255
    behind le =
        let m : i % 4096 ≡ place + (i % 4096 - place) = omega (arith, le) in
        let past : length image ≤ i = omega (arith, le, place_is, same) in
        ap (λ p. cell new p) (there ∙ ap (λ j. 4096 * block + j) m)
        ∙ holds (i % 4096 - place) (omega (arith, m))
        ∙ ap (λ j. get_or part j 255) (omega (arith, le, place_is, same))
        ∙ sym (get_or-append_right image part (length image) i 255 refl past)

  pub stored_more : IsStored base numbers (image ++ part) new
  stored_more i lt = ⊎_elim (earlier i)
      (λ ge.
      let same : i / 4096 ≡ length image / 4096 = omega (arith, ge, lt, whole, fits, place_is) in
      ⊎_elim (before i same) (behind i same) (cases_lt (i % 4096) place))
      (cases_lt (i / 4096) (length image / 4096))

-- one of the blocks' positions
pub in_blocks : (base : ℕ) (numbers : List ℕ) (k block i : ℕ) → k < length numbers
    → block ≡ base + get_or numbers k 0 → InBlock block i → InImageBlocks base numbers i
in_blocks base numbers k block i lt is inside =
    (k, lt, (omega (arith, inside.0, is), omega (arith, inside.1, is)))

-- a block that is begun reads FF behind the octets
pub still_blank : (base : ℕ) (numbers image cells : List ℕ) (block place : ℕ)
    → block ≡ base + get_or numbers (length image / 4096) 0 → place ≡ length image % 4096
    → IsStored base numbers image cells → 0 < place → IsBlank block place cells
still_blank base numbers image cells block place block_is place_is was some m lt =
    let same : (length image + m) / 4096 ≡ length image / 4096 = omega (arith, lt, place_is) in
    let there : position base numbers (length image + m) ≡ 4096 * block + (place + m) =
    omega (arith, block_is, place_is, lt, ap (λ k. get_or numbers k 0) same) in
    ap (λ p. cell cells p) (sym there) ∙ was (length image + m) (omega (arith, some, place_is, lt))
    ∙ get_or_past image (length image + m) 255 (omega arith)

pub drop-append : (n : ℕ) (xs ys : List ℕ) → drop n (xs ++ ys) ≡ drop n xs ++ drop (n - length xs) ys
drop-append n xs ys = ⊎_elim
    (λ lt.
    let is : n ≡ length xs + (n - length xs) = omega (arith, lt) in
    ap (λ k. drop k (xs ++ ys)) is ∙ drop-append-add xs ys (n - length xs)
    ∙ ap (λ l. l ++ drop (n - length xs) ys) (sym (drop_all n xs (omega (arith, lt)))))
    (λ le.
    let none : n - length xs ≡ 0 = omega (arith, le) in
    drop-append-le n xs ys le ∙ ap (λ k. drop n xs ++ drop k ys) (sym none))
    (cases_lt (length xs) n)

-- what of a piece is the image's
pub fed_image : (skip skipped : ℕ) (fed piece : List ℕ) → skipped ≡ min (skip - length fed) (length piece)
    → drop skip fed ++ take (length piece - skipped) (drop skipped piece) ≡ drop skip (fed ++ piece)
fed_image skip skipped fed piece is =
    ap (λ l. drop skip fed ++ l) (take_rest piece skipped ∙ ap (λ k. drop k piece) is
    ∙ drop_min (skip - length fed) piece)
    ∙ sym (drop-append skip fed piece)

-- the next n octets
pub take_part : (xs : List ℕ) (done n : ℕ) → take (done + n) xs ≡ take done xs ++ take (done + n - done) (drop done xs)
take_part xs done n =
    let is : n ≡ done + n - done = omega arith in
    take-add done n xs ∙ ap (λ k. take done xs ++ take k (drop done xs)) is

pub length-part : (xs : List ℕ) (done n : ℕ) → length (take (done + n - done) (drop done xs)) ≤ n
length-part xs done n = omega (arith, length-take (done + n - done) (drop done xs))
