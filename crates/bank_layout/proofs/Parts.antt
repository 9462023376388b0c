-- What images that differ at some positions alone have in common.
use Rattle.std.proofs.Common.{◌≡◌, ℕ, ◌+◌, ◌*◌, ◌^◌, ◌<◌, ◌≤◌, List, [], ◌∷◌, ◌++◌, map, length, take, drop, refl, ◌∙◌, sym, ap, arith, length-take, length-drop, get_or-take, get_or-drop}
use Rattle.std.specs.Prelude.{Contains}
use Rattle.content_stream.specs.ImageBlocks.{octets_of}
use Rattle.std.proofs.lemmas.List.{ext_get_or}
use Rattle.std.proofs.lemmas.List.Elements.{Contains-append_left, Contains-append_right, Contains-push}
use Rattle.edge_board.specs.Board.{Keeps, InBlock, cell}
use Rattle.key_state.specs.KeyBlock.{row_of, row_start}
use Rattle.lms_verify.specs.declared.kind.LmsKind.{LmsKind}
use Rattle.lms_verify.specs.declared.kind.LmsKind.TheVariants.{H5, H10, H15, H20, H25}
use Rattle.lms_verify.specs.Kinds.{height}
use Rattle.config_table.specs.State.{Entry, State, entry_with, state_with}
use Rattle.config_table.specs.Stored.{Stored}
use Rattle.bank_layout.specs.declared.bank.Bank.{Bank}
use Rattle.bank_layout.specs.Layout.{record_octets, gate_block, manifest_start, manifest_octets, image_block, first_image_block, InBank, InImageBlock}
use Rattle.bank_layout.specs.Manifest.{blocks_in, named_blocks}
use Rattle.bank_layout.specs.Recovery.{image_octets}

-- ---- parts

pub part_cell : (at n i : ℕ) (l : List ℕ) → i < n → cell (take n (drop at l)) i ≡ cell l (at + i)
part_cell at n i l lt = get_or-take n (drop at l) i 0 lt ∙ get_or-drop at l i 0

part_same : (at n : ℕ) (a b : List ℕ) → length b ≡ length a
    → ((i : ℕ) → i < n → cell b (at + i) ≡ cell a (at + i)) → take n (drop at b) ≡ take n (drop at a)
part_same at n a b size same = ext_get_or 0 (take n (drop at b)) (take n (drop at a))
    (omega (arith, size, length-take n (drop at a), length-drop at a, length-take n (drop at b), length-drop at b))
    (λ i lt.
    let few : i < n = omega (arith, lt, length-take n (drop at b)) in
    part_cell at n i b few ∙ same i few ∙ sym (part_cell at n i a few))

-- a part without a free position
pub kept_part : {free : ℕ → Type 0} (at n : ℕ) (a b : List ℕ) → Keeps free a b
    → ((i : ℕ) → i < n → free (at + i) → ⊥) → take n (drop at b) ≡ take n (drop at a)
kept_part at n a b keeps out = part_same at n a b keeps.size (λ i lt. keeps.each (at + i) (out i lt))

-- ---- the factory's bank and the row

-- the same size, factory gate and record
pub record SameHead (a b : List ℕ) : Type 0 where
  pub size : length b ≡ length a
  pub gate : cell b 0 ≡ cell a 0
  pub octets : record_octets b ≡ record_octets a

pub same_head : {free : ℕ → Type 0} (a b : List ℕ) → Keeps free a b → ((i : ℕ) → i < 69632 → free i → ⊥)
    → SameHead a b
same_head a b keeps out = record {
  size = keeps.size;
  gate = keeps.each 0 (out 0 (omega arith));
  octets = kept_part 4096 65536 a b keeps (λ i lt. out (4096 + i) (omega (arith, lt)));
}

pub few_leaves : (kind : LmsKind) → height kind ≤ 10 → 2 ^ height kind ≤ 1024
few_leaves H5 low = omega arith
few_leaves H10 low = omega arith
few_leaves H15 low = absurd (omega (arith, low))
few_leaves H20 low = absurd (omega (arith, low))
few_leaves H25 low = absurd (omega (arith, low))

pub same_row : {free : ℕ → Type 0} (kind : LmsKind) → height kind ≤ 10 → (a b : List ℕ) → Keeps free a b
    → ((i : ℕ) → InBlock 17 i → free i → ⊥) → row_of (2 ^ height kind) b ≡ row_of (2 ^ height kind) a
same_row kind low a b keeps out =
    let few = few_leaves kind low in
    kept_part row_start (2 ^ height kind) a b keeps
    (λ i lt. out (row_start + i) (omega arith, omega (arith, lt, few)))

-- ---- banks

-- the same gate and manifest
pub record SameBank (bank : Bank) (a b : List ℕ) : Type 0 where
  pub gate : cell b (4096 * gate_block bank) ≡ cell a (4096 * gate_block bank)
  pub octets : manifest_octets bank b ≡ manifest_octets bank a

pub same_bank : {free : ℕ → Type 0} (bank : Bank) (a b : List ℕ) → Keeps free a b
    → ((i : ℕ) → InBank bank i → free i → ⊥) → SameBank bank a b
same_bank bank a b keeps out = record {
  gate = keeps.each (4096 * gate_block bank) (out (4096 * gate_block bank) (omega arith, omega arith));
  octets = kept_part (manifest_start bank) 131072 a b keeps
      (λ i lt. out (manifest_start bank + i) (omega arith, omega (arith, lt)));
}

-- ---- images

pub same_block : {free : ℕ → Type 0} (n : ℕ) (a b : List ℕ) → Keeps free a b
    → ((i : ℕ) → InImageBlock n i → free i → ⊥) → image_block n b ≡ image_block n a
same_block n a b keeps out = kept_part (4096 * (84 + n)) 4096 a b keeps
    (λ i lt. out (4096 * (84 + n) + i) (omega arith, omega (arith, lt)))

blocks_same : (a b : List ℕ) (blocks : List ℕ) → ((n : ℕ) → Contains blocks n → image_block n b ≡ image_block n a)
    → octets_of first_image_block blocks b ≡ octets_of first_image_block blocks a
blocks_same a b [] same = refl
blocks_same a b (n ∷ ns) same =
    let head = same n (Contains-append_left (n ∷ []) ns n (Contains-push [] n)) in
    let tail = blocks_same a b ns (λ k c. same k (Contains-append_right (n ∷ []) ns k c)) in
    ap (λ (l : List ℕ). l ++ octets_of first_image_block ns b) head
    ∙ ap (λ (l : List ℕ). image_block n a ++ l) tail

pub image_same : (a b : List ℕ) (stored : Stored)
    → ((n : ℕ) → Contains stored.blocks n → image_block n b ≡ image_block n a)
    → image_octets b stored ≡ image_octets a stored
image_same a b stored same = ap (λ (l : List ℕ). take stored.length l) (blocks_same a b stored.blocks same)

entries_same : (a b : List ℕ) (packages : List (Entry Stored))
    → ((n : ℕ) → Contains (blocks_in packages) n → image_block n b ≡ image_block n a)
    → map (entry_with (image_octets b)) packages ≡ map (entry_with (image_octets a)) packages
entries_same a b [] same = refl
entries_same a b (entry ∷ more) same =
    let rest = blocks_in more in
    let image = image_same a b entry.image
    (λ n c. same n (Contains-append_left entry.image.blocks rest n c)) in
    let tail = entries_same a b more (λ n c. same n (Contains-append_right entry.image.blocks rest n c)) in
    ap (λ (octets : List ℕ). entry_with (λ _. octets) entry ∷ map (entry_with (image_octets b)) more) image
    ∙ ap (λ (l : List (Entry (List ℕ))). entry_with (image_octets a) entry ∷ l) tail

-- the same images, where the blocks that the state names are the same
pub state_same : (a b : List ℕ) (state : State Stored)
    → ((n : ℕ) → Contains (named_blocks state) n → image_block n b ≡ image_block n a)
    → state_with (image_octets b) state ≡ state_with (image_octets a) state
state_same a b state same = λ i. record {
  packages = entries_same a b state.packages same i;
  stale = state.stale;
}
