-- What stands in an image: the record in blocks 1 to 16, and the row in block 17.
use Rattle.std.proofs.Common.{◌≡◌, ℕ, ◌+◌, ◌-◌, ◌^◌, ◌<◌, ◌≤◌, List, ◌++◌, length, take, drop, ◌∙◌, sym, ap, subst, arith, append_assoc, length-take, length-drop, get_or-take, get_or-drop, take-append-drop, take-take}
use Rattle.std.specs.Prelude.{replicate}
use Rattle.std.proofs.lemmas.List.{ext_get_or, get_or-replicate, length-replicate}
use Rattle.std.proofs.Math.Seq.{take-append-add}
use Rattle.edge_board.specs.Board.{AllRead, cell}
use Rattle.bank_gate.specs.States.{IsOpen, Stands}
use Rattle.key_state.specs.KeyBlock.{row_of, row_start}
use Rattle.lms_verify.specs.declared.kind.LmsKind.{LmsKind}
use Rattle.lms_verify.specs.declared.kind.LmsKind.TheVariants.{H5, H10, H15, H20, H25}
use Rattle.lms_verify.specs.Kinds.{height}
use Rattle.lms_sign.specs.declared.key.SignKey.{SignKey}
use Rattle.lms_sign.specs.PublicKeys.{IsSignKey, leaf_count}
use Rattle.module_record.specs.KeyRecord.{key_record_text, BeginsWithKeyRecord}
use Rattle.module_record.proofs.KeyLaws.{key_size}
use Rattle.bank_layout.specs.Layout.{factory, record_octets, record_start, key_board_size}
use Rattle.bank_store.specs.Formats.{RecoversToNewKey}

-- ---- records

-- so many octets of a list, by position
part_length : (at n : ℕ) (l : List ℕ) → at + n ≤ length l → length (take n (drop at l)) ≡ n
part_length at n l fits = omega (arith, fits, length-take n (drop at l), length-drop at l)

part_cell : (at n i : ℕ) (l : List ℕ) → i < n → cell (take n (drop at l)) i ≡ cell l (at + i)
part_cell at n i l lt = get_or-take n (drop at l) i 0 lt ∙ get_or-drop at l i 0

-- lists that agree there have the same octets there
pub part_same : (at n : ℕ) (a b : List ℕ) → length b ≡ length a
    → ((i : ℕ) → i < n → cell b (at + i) ≡ cell a (at + i)) → take n (drop at b) ≡ take n (drop at a)
part_same at n a b size same = ext_get_or 0 (take n (drop at b)) (take n (drop at a))
    (omega (
      arith,
      size,
      length-take n (drop at a),
      length-drop at a,
      length-take n (drop at b),
      length-drop at b,
    ))
    (λ i lt.
    let few : i < n = omega (arith, lt, length-take n (drop at b)) in
    part_cell at n i b few ∙ same i few ∙ sym (part_cell at n i a few))

-- what begins with a record has a front that does, and the other way round
pub begins_longer : (octets : List ℕ) (n : ℕ) (key : SignKey) → BeginsWithKeyRecord (take n octets) key
    → BeginsWithKeyRecord octets key
begins_longer octets n key begins = (
  begins.0,
  begins.1 ++ drop n octets,
  sym (take-append-drop n octets) ∙ ap (λ (l : List ℕ). l ++ drop n octets) begins.2
      ∙ append_assoc (key_record_text key) begins.1 (drop n octets),
)

pub begins_shorter : (octets : List ℕ) (n : ℕ) (key : SignKey) → 65 ≤ n → BeginsWithKeyRecord octets key
    → BeginsWithKeyRecord (take n octets) key
begins_shorter octets n key le begins =
    let text = key_record_text key in
    let sum : length text + (n - 65) ≡ n = omega (arith, le, key_size key begins.0) in (
      begins.0,
      take (n - 65) begins.1,
      ap (λ (l : List ℕ). take n l) begins.2
          ∙ ap (λ (k : ℕ). take k (text ++ begins.1)) (sym sum) ∙ take-append-add text begins.1 (n - 65),
    )

-- the first octets of block 1 tell as much as blocks 1 to 16
pub front_tells : (cells front : List ℕ) (key : SignKey) → front ≡ take 128 (drop record_start cells)
    → BeginsWithKeyRecord front key → BeginsWithKeyRecord (record_octets cells) key
front_tells cells front key is begins = begins_longer (record_octets cells) 128 key
    (subst (λ (l : List ℕ). BeginsWithKeyRecord l key)
    (is ∙ sym (take-take 128 65536 (drop record_start cells) (omega arith))) begins)

pub front_told : (cells front : List ℕ) (key : SignKey) → front ≡ take 128 (drop record_start cells)
    → BeginsWithKeyRecord (record_octets cells) key → BeginsWithKeyRecord front key
front_told cells front key is begins = subst (λ (l : List ℕ). BeginsWithKeyRecord l key)
    (sym (is ∙ sym (take-take 128 65536 (drop record_start cells) (omega arith))))
    (begins_shorter (record_octets cells) 128 key (omega arith) begins)

-- a record that stands at block 1
record_stands : (key : SignKey) (image : List ℕ) → IsSignKey key → key_board_size ≤ length image
    → Stands record_start (key_record_text key) image → BeginsWithKeyRecord (record_octets image) key
record_stands key image valid size stands =
    let text = key_record_text key in
    let front : take 65 (record_octets image) ≡ text =
    ext_get_or 0 (take 65 (record_octets image)) text
    (omega (
      arith,
      size,
      key_size key valid,
      length-take 65 (record_octets image),
      part_length record_start 65536 image (omega (arith, size)),
    ))
    (λ i lt.
    let few : i < 65 = omega (arith, lt, length-take 65 (record_octets image)) in
    get_or-take 65 (record_octets image) i 0 few
    ∙ part_cell record_start 65536 i image (omega (arith, few))
    ∙ stands i (omega (arith, few, key_size key valid))) in (
      valid,
      drop 65 (record_octets image),
      sym (take-append-drop 65 (record_octets image))
          ∙ ap (λ (l : List ℕ). l ++ drop 65 (record_octets image)) front,
    )

-- ---- rows

-- a signing key has 1,024 leaves at most
pub few_leaves : (kind : LmsKind) → height kind ≤ 10 → 2 ^ height kind ≤ 1024
few_leaves H5 low = omega arith
few_leaves H10 low = omega arith
few_leaves H15 low = absurd (omega (arith, low))
few_leaves H20 low = absurd (omega (arith, low))
few_leaves H25 low = absurd (omega (arith, low))

-- a row of FF in an erased block 17
row_fresh : (leaves : ℕ) (image : List ℕ) → leaves ≤ 1024 → key_board_size ≤ length image
    → AllRead row_start 4096 255 image → replicate leaves 255 ≡ row_of leaves image
row_fresh leaves image few size reads = ext_get_or 0 (replicate leaves 255) (row_of leaves image)
    (omega (
      arith,
      length-replicate {A = ℕ} leaves 255,
      part_length row_start leaves image (omega (arith, few, size)),
    ))
    (λ i lt.
    let below : i < leaves = omega (arith, lt, length-replicate {A = ℕ} leaves 255) in
    get_or-replicate {A = ℕ} leaves i 255 0 below
    ∙ sym (part_cell row_start leaves i image below
    ∙ reads (row_start + i) (omega arith, omega (arith, below, few))))

-- a board with an open gate, the record and an erased block 17
pub recovers_new : (key : SignKey) (image : List ℕ) → IsSignKey key → key_board_size ≤ length image
    → IsOpen factory image → Stands record_start (key_record_text key) image
    → AllRead row_start 4096 255 image → RecoversToNewKey image key
recovers_new key image valid size gate stands reads = (
  record { size = size; gate = gate; text = record_stands key image valid size stands },
  row_fresh (leaf_count key) image (few_leaves key.kind valid.low) size reads,
)
