-- The parameter sets of LMS and LM-OTS over SHA-256 with values of 32 octets (RFC 8554, sections
-- 4.1 and 5.1).
use Rattle.std.specs.Prelude.{ℕ}
use Rattle.lms_verify.specs.declared.kind.LmsKind.{LmsKind}
use Rattle.lms_verify.specs.declared.kind.LmsKind.TheVariants.{H5, H10, H15, H20, H25}
use Rattle.lms_verify.specs.declared.kind.OtsKind.{OtsKind}
use Rattle.lms_verify.specs.declared.kind.OtsKind.TheVariants.{W1, W2, W4, W8}

-- A row of the table of LMS kinds: the typecode, and the height h of the tree (5.1).
pub record LmsRow : Type 0 where
  pub number : ℕ
  pub height : ℕ

-- the table of LMS kinds (5.1)
abbrev pub lms_row : LmsKind → LmsRow
lms_row H5 = record { number = 5; height = 5 }
lms_row H10 = record { number = 6; height = 10 }
lms_row H15 = record { number = 7; height = 15 }
lms_row H20 = record { number = 8; height = 20 }
lms_row H25 = record { number = 9; height = 25 }

-- A row of the table of LM-OTS kinds: the typecode, the width w of a digit in bits, the count p of
-- chains, and the left shift ls of the checksum (4.1).
pub record OtsRow : Type 0 where
  pub number : ℕ
  pub width : ℕ
  pub chains : ℕ
  pub shift : ℕ

-- the table of LM-OTS kinds (4.1)
abbrev pub ots_row : OtsKind → OtsRow
ots_row W1 = record { number = 1; width = 1; chains = 265; shift = 7 }
ots_row W2 = record { number = 2; width = 2; chains = 133; shift = 6 }
ots_row W4 = record { number = 3; width = 4; chains = 67; shift = 4 }
ots_row W8 = record { number = 4; width = 8; chains = 34; shift = 0 }

-- the typecode of an LMS kind (5.1)
abbrev pub lms_number : LmsKind → ℕ
lms_number kind = (lms_row kind).number

-- the height h of the tree (5.1)
abbrev pub height : LmsKind → ℕ
height kind = (lms_row kind).height

-- the typecode of an LM-OTS kind (4.1)
abbrev pub ots_number : OtsKind → ℕ
ots_number ots = (ots_row ots).number

-- the width w of a digit, in bits (4.1)
abbrev pub width : OtsKind → ℕ
width ots = (ots_row ots).width

-- the count p of chains (4.1)
abbrev pub chain_count : OtsKind → ℕ
chain_count ots = (ots_row ots).chains

-- the left shift ls of the checksum (4.1)
abbrev pub checksum_shift : OtsKind → ℕ
checksum_shift ots = (ots_row ots).shift
