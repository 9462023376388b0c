-- What the octets of a key and of a signature say of their parts.
use Rattle.std.proofs.Common.{◌≡◌, ℕ, ◌-◌, ◌*◌, ◌^◌, ◌<◌, List, ◌++◌, length, length-take, length-drop, take, drop, refl, ap, sym, ◌∙◌, append_assoc, arith, lit<}
use Rattle.std.specs.Int.{w32, from_be_bytes}
use Rattle.std.proofs.lemmas.List.{take_at, drop_at, take-append-drop}
use Rattle.std.proofs.lemmas.Nat.{from_be_bytes-to_be_bytes_4}
use Rattle.lms_verify.specs.declared.kind.LmsKind.{LmsKind}
use Rattle.lms_verify.specs.declared.kind.LmsKind.TheVariants.{H5, H10, H15, H20, H25}
use Rattle.lms_verify.specs.declared.kind.OtsKind.{OtsKind}
use Rattle.lms_verify.specs.declared.kind.OtsKind.TheVariants.{W1, W2, W4, W8}
use Rattle.lms_verify.specs.declared.key.LmsKey.{LmsKey}
use Rattle.lms_verify.specs.Kinds.{lms_number, height, ots_number, chain_count}
use Rattle.lms_verify.specs.Digits.{u32str}
use Rattle.lms_verify.specs.Keys.{IsLmsKey, lms_key_text}
use Rattle.lms_verify.specs.Signatures.{LmsSignature, Spells, signature_size}

-- four octets write one number
pub u32str_same : (m n : ℕ) → m < 2 ^ 32 → n < 2 ^ 32 → u32str m ≡ u32str n → m ≡ n
u32str_same m n m-fits n-fits same =
    sym (from_be_bytes-to_be_bytes_4 m m-fits) ∙ ap (from_be_bytes w32) same
    ∙ from_be_bytes-to_be_bytes_4 n n-fits

pub lms_number_fits : (kind : LmsKind) → lms_number kind < 2 ^ 32
lms_number_fits H5 = lit< tt
lms_number_fits H10 = lit< tt
lms_number_fits H15 = lit< tt
lms_number_fits H20 = lit< tt
lms_number_fits H25 = lit< tt

pub ots_number_fits : (ots : OtsKind) → ots_number ots < 2 ^ 32
ots_number_fits W1 = lit< tt
ots_number_fits W2 = lit< tt
ots_number_fits W4 = lit< tt
ots_number_fits W8 = lit< tt

-- The parts of a key's text, as they are cut from the front.
pub record KeyParts (octets : List ℕ) (key : LmsKey) : Type 0 where
  pub kind : take 4 octets ≡ u32str (lms_number key.kind)
  pub ots : take 4 (drop 4 octets) ≡ u32str (ots_number key.ots)
  pub id : take 16 (drop 4 (drop 4 octets)) ≡ key.id
  pub root : drop 16 (drop 4 (drop 4 octets)) ≡ key.root

pub key_parts : (octets : List ℕ) (key : LmsKey) → IsLmsKey key → octets ≡ lms_key_text key
    → KeyParts octets key
key_parts octets key valid text = record {
  kind = ap (take 4) text;
  ots = ap (λ (o : List ℕ). take 4 (drop 4 o)) text;
  id = ap (λ (o : List ℕ). take 16 (drop 4 (drop 4 o))) text ∙ take_at key.id key.root 16 valid.id;
  root = ap (λ (o : List ℕ). drop 16 (drop 4 (drop 4 o))) text ∙ drop_at key.id key.root 16 valid.id;
}

-- a key by its fields
pub same_key : (a b : LmsKey) → a.kind ≡ b.kind → a.ots ≡ b.ots → a.id ≡ b.id → a.root ≡ b.root → a ≡ b
same_key a b kind ots id root =
    λ i. record { kind = kind i; ots = ots i; id = id i; root = root i }

-- The parts of a signature's text, as they are cut from the front.
pub record SignatureParts (kind : LmsKind) (ots : OtsKind) (s : LmsSignature) (octets : List ℕ) : Type 0 where
  pub q : take 4 octets ≡ u32str s.q
  pub ots_number : take 4 (drop 4 octets) ≡ u32str (ots_number ots)
  pub randomizer : take 32 (drop 4 (drop 4 octets)) ≡ s.randomizer
  pub values : take (32 * chain_count ots) (drop 32 (drop 4 (drop 4 octets))) ≡ s.values
  pub lms_number : take 4 (drop (32 * chain_count ots) (drop 32 (drop 4 (drop 4 octets))))
      ≡ u32str (lms_number kind)
  pub path : drop 4 (drop (32 * chain_count ots) (drop 32 (drop 4 (drop 4 octets)))) ≡ s.path

pub signature_parts : (kind : LmsKind) (ots : OtsKind) (s : LmsSignature) (octets : List ℕ)
    → Spells kind ots s octets → SignatureParts kind ots s octets
signature_parts kind ots s octets spells =
    let end = u32str (lms_number kind) ++ s.path in
    let behind : drop 4 (drop 4 octets) ≡ s.randomizer ++ (s.values ++ end) =
    ap (λ (o : List ℕ). drop 4 (drop 4 o)) spells.text
    ∙ append_assoc (s.randomizer ++ s.values) (u32str (lms_number kind)) s.path
    ∙ append_assoc s.randomizer s.values end in
    let after : drop 32 (drop 4 (drop 4 octets)) ≡ s.values ++ end =
    ap (drop 32) behind ∙ drop_at s.randomizer (s.values ++ end) 32 spells.randomizer in
    let last : drop (32 * chain_count ots) (drop 32 (drop 4 (drop 4 octets))) ≡ end =
    ap (drop (32 * chain_count ots)) after ∙ drop_at s.values end (32 * chain_count ots) spells.values in
    record {
      q = ap (take 4) spells.text;
      ots_number = ap (λ (o : List ℕ). take 4 (drop 4 o)) spells.text;
      randomizer = ap (take 32) behind ∙ take_at s.randomizer (s.values ++ end) 32 spells.randomizer;
      values = ap (take (32 * chain_count ots)) after ∙ take_at s.values end (32 * chain_count ots) spells.values;
      lms_number = ap (take 4) last;
      path = ap (drop 4) last;
    }

-- a signature by its parts
pub same_signature : (a b : LmsSignature) → a.q ≡ b.q → a.randomizer ≡ b.randomizer
    → a.values ≡ b.values → a.path ≡ b.path → a ≡ b
same_signature a b q randomizer values path =
    λ i. record { q = q i; randomizer = randomizer i; values = values i; path = path i }

-- cut from the front, the parts are the whole
cut : (octets : List ℕ) (n : ℕ)
    → octets ≡ take 4 octets ++ (take 4 (drop 4 octets) ++ (take 32 (drop 4 (drop 4 octets))
    ++ (take n (drop 32 (drop 4 (drop 4 octets))) ++ (take 4 (drop n (drop 32 (drop 4 (drop 4 octets))))
    ++ drop 4 (drop n (drop 32 (drop 4 (drop 4 octets))))))))
cut octets n =
    let behind = drop 4 (drop 4 octets) in
    let after = drop 32 behind in
    sym (rw (
      take-append-drop 4 (drop n after),
      take-append-drop n after,
      take-append-drop 32 behind,
      take-append-drop 4 (drop 4 octets),
      take-append-drop 4 octets,
    ) refl)

-- a signature of those parts is spelled by the octets
pub parts_spell : (kind : LmsKind) (ots : OtsKind) (s : LmsSignature) (octets : List ℕ)
    → SignatureParts kind ots s octets → s.q < 2 ^ height kind → length octets ≡ signature_size kind ots
    → Spells kind ots s octets
parts_spell kind ots s octets parts leaf size =
    let n = 32 * chain_count ots in
    let behind = drop 4 (drop 4 octets) in
    let after = drop 32 behind in
    let behind-size : length behind ≡ length octets - 8 =
    omega (arith, length-drop 4 (drop 4 octets), length-drop 4 octets) in
    let after-size : length after ≡ length octets - 40 = omega (arith, length-drop 32 behind) in
    record {
      text = cut octets n ∙ rw (parts.q, parts.ots_number, parts.randomizer, parts.values, parts.lms_number, parts.path)
          (simp append_assoc);
      leaf = leaf;
      randomizer = ap length (sym parts.randomizer) ∙ omega (arith, length-take 32 behind);
      values = ap length (sym parts.values) ∙ omega (arith, length-take n after);
      path = ap length (sym parts.path)
          ∙ omega (arith, length-drop 4 (drop n after), length-drop n after);
    }

-- the octets have one signature of these parts
pub parts_same : (kind : LmsKind) (ots : OtsKind) (a b : LmsSignature) (octets : List ℕ)
    → SignatureParts kind ots a octets → SignatureParts kind ots b octets → a.q < 2 ^ 32 → b.q < 2 ^ 32
    → a ≡ b
parts_same kind ots a b octets of_a of_b a-fits b-fits =
    same_signature a b (u32str_same a.q b.q a-fits b-fits (sym of_a.q ∙ of_b.q))
    (sym of_a.randomizer ∙ of_b.randomizer) (sym of_a.values ∙ of_b.values) (sym of_a.path ∙ of_b.path)

-- a leaf of the tree has a number of four octets
pub leaf_fits : (kind : LmsKind) (q : ℕ) → q < 2 ^ height kind → q < 2 ^ 32
leaf_fits H5 q lt = omega arith
leaf_fits H10 q lt = omega arith
leaf_fits H15 q lt = omega arith
leaf_fits H20 q lt = omega arith
leaf_fits H25 q lt = omega arith
