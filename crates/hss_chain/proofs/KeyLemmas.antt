-- The octets of a public key say which it is.
use Rattle.std.proofs.Common.{◌≡◌, ℕ, ◌^◌, ◌<◌, List, take, drop, refl, ap, sym, ◌∙◌, arith, lit<}
use Rattle.std.specs.Prelude.{◌==◌, if◌then◌else◌}
use Rattle.std.specs.Int.{w32, from_be_bytes}
use Rattle.std.proofs.lemmas.List.{take_at, drop_at}
use Rattle.std.proofs.lemmas.Nat.{from_be_bytes-to_be_bytes_4}
use Rattle.lms_verify.specs.declared.kind.LmsKind.{LmsKind}
use Rattle.lms_verify.specs.declared.kind.LmsKind.TheVariants.{H5, H10, H15, H20, H25}
use Rattle.lms_verify.specs.declared.kind.OtsKind.{OtsKind}
use Rattle.lms_verify.specs.declared.kind.OtsKind.TheVariants.{W1, W2, W4, W8}
use Rattle.lms_verify.specs.declared.key.LmsKey.{LmsKey}
use Rattle.lms_verify.specs.Kinds.{lms_number, ots_number}
use Rattle.lms_verify.specs.Digits.{u32str}
use Rattle.hss_chain.specs.declared.key.HssKey.{HssKey}
use Rattle.hss_chain.specs.Keys.{IsHssKey, hss_key_text}

-- four octets write one number
u32str_same : (m n : ℕ) → m < 2 ^ 32 → n < 2 ^ 32 → u32str m ≡ u32str n → m ≡ n
u32str_same m n m-fits n-fits same =
    sym (from_be_bytes-to_be_bytes_4 m m-fits) ∙ ap (from_be_bytes w32) same
    ∙ from_be_bytes-to_be_bytes_4 n n-fits

lms_fits : (kind : LmsKind) → lms_number kind < 2 ^ 32
lms_fits H5 = lit< tt
lms_fits H10 = lit< tt
lms_fits H15 = lit< tt
lms_fits H20 = lit< tt
lms_fits H25 = lit< tt

ots_fits : (ots : OtsKind) → ots_number ots < 2 ^ 32
ots_fits W1 = lit< tt
ots_fits W2 = lit< tt
ots_fits W4 = lit< tt
ots_fits W8 = lit< tt

-- the kind of a typecode
lms_at : ℕ → LmsKind
lms_at n = if n == 5 then H5 else if n == 6 then H10 else if n == 7 then H15 else if n == 8 then H20 else H25

ots_at : ℕ → OtsKind
ots_at n = if n == 1 then W1 else if n == 2 then W2 else if n == 3 then W4 else W8

lms_there : (kind : LmsKind) → lms_at (lms_number kind) ≡ kind
unfolding lms_at
lms_there H5 = refl
lms_there H10 = refl
lms_there H15 = refl
lms_there H20 = refl
lms_there H25 = refl

ots_there : (ots : OtsKind) → ots_at (ots_number ots) ≡ ots
unfolding ots_at
ots_there W1 = refl
ots_there W2 = refl
ots_there W4 = refl
ots_there W8 = refl

-- keys by their fields
same_top : (a b : LmsKey) → a.kind ≡ b.kind → a.ots ≡ b.ots → a.id ≡ b.id → a.root ≡ b.root → a ≡ b
same_top a b kind ots id root =
    λ i. record { kind = kind i; ots = ots i; id = id i; root = root i }

same_key : (a b : HssKey) → a.levels ≡ b.levels → a.top ≡ b.top → a ≡ b
same_key a b levels top = λ i. record { levels = levels i; top = top i }

-- two valid keys never share their octets
pub one_text_each : (a b : HssKey) → IsHssKey a → IsHssKey b → hss_key_text a ≡ hss_key_text b → a ≡ b
one_text_each a b valid-a valid-b same =
    let levels : a.levels ≡ b.levels =
    u32str_same a.levels b.levels (omega (arith, valid-a.most)) (omega (arith, valid-b.most)) (ap (take 4) same) in
    let kinds : lms_number a.top.kind ≡ lms_number b.top.kind =
    u32str_same _ _ (lms_fits a.top.kind) (lms_fits b.top.kind) (ap (λ (o : List ℕ). take 4 (drop 4 o)) same) in
    let otses : ots_number a.top.ots ≡ ots_number b.top.ots =
    u32str_same _ _ (ots_fits a.top.ots) (ots_fits b.top.ots) (ap (λ (o : List ℕ). take 4 (drop 8 o)) same) in
    let id : a.top.id ≡ b.top.id =
    sym (take_at a.top.id a.top.root 16 valid-a.top.id) ∙ ap (λ (o : List ℕ). take 16 (drop 12 o)) same
    ∙ take_at b.top.id b.top.root 16 valid-b.top.id in
    let root : a.top.root ≡ b.top.root =
    sym (drop_at a.top.id a.top.root 16 valid-a.top.id) ∙ ap (λ (o : List ℕ). drop 16 (drop 12 o)) same
    ∙ drop_at b.top.id b.top.root 16 valid-b.top.id in
    same_key a b levels
    (same_top a.top b.top
    (sym (lms_there a.top.kind) ∙ ap lms_at kinds ∙ lms_there b.top.kind)
    (sym (ots_there a.top.ots) ∙ ap ots_at otses ∙ ots_there b.top.ots) id root)
