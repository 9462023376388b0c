-- The reading of a key line, in the order in which the code reads. Nothing here has to be believed: the clauses
-- speak by the texts of the other files, and that what is read here agrees is proved.
use Rattle.std.specs.Prelude.{ℕ, List, [], ◌∷◌, Option, Some, None, ◌==◌, if◌then◌else◌, Bool, nat_eq, codes}
use Rattle.std.specs.Result.{result_ok}
use Rattle.std.specs.Cmp.Lexicographic.{pointwise}
use Rattle.der_core.specs.Reading.{◌>>?◌}
use Rattle.hex.specs.Hex.{decode_sized}
use Rattle.lms_verify.specs.declared.kind.LmsKind.{LmsKind}
use Rattle.lms_verify.specs.declared.kind.LmsKind.TheVariants.{H5, H10}
use Rattle.lms_verify.specs.declared.kind.OtsKind.{OtsKind}
use Rattle.lms_verify.specs.declared.kind.OtsKind.TheVariants.{W1, W2, W4, W8}
use Rattle.module_record.specs.Reading.{KeyParts}

-- the octets before the first of this kind, and those behind it
unfoldable pub cut : ℕ → List ℕ → Option (List ℕ × List ℕ)
cut c [] = None
cut c (o ∷ os) = if o == c then Some ([], os) else (cut c os >>? λ x. Some (o ∷ x.0, x.1))

-- the word is this one
abbrev pub is_word : List ℕ → List ℕ → Bool
is_word word this = pointwise nat_eq word this

-- the kind of a signing key's tree
unfoldable pub tree_of : List ℕ → Option LmsKind
tree_of word = if is_word word (codes "H5") then Some H5 else if is_word word (codes "H10") then Some H10 else None

-- the kind of one-time keys
unfoldable pub ots_of : List ℕ → Option OtsKind
ots_of word =
    if is_word word (codes "W1") then Some W1 else if is_word word (codes "W2") then Some W2
    else if is_word word (codes "W4") then Some W4 else if is_word word (codes "W8") then Some W8 else None

-- so many octets of HEX
unfoldable pub decoded : ℕ → List ℕ → Option (List ℕ)
decoded size word = result_ok (decode_sized word size)

-- what stands behind `key`
unfoldable pub parts_of : List ℕ → Option KeyParts
parts_of words =
    cut 32 words >>? λ tree. cut 32 tree.1 >>? λ ots. cut 32 ots.1 >>? λ last.
    decoded 32 last.0 >>? λ seed. decoded 16 last.1 >>? λ id. tree_of tree.0 >>? λ kind. ots_of ots.0 >>? λ w.
    Some (record { kind = kind; ots = w; seed = seed; id = id })

-- the line of a key
unfoldable pub key_of : List ℕ → Option KeyParts
key_of line = cut 32 line >>? λ x. if is_word x.0 (codes "key") then parts_of x.1 else None
