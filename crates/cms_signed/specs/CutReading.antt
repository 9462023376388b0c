-- Reading the octets before a content, in the order in which the code reads. A bridge: nothing here has to be
-- believed. That a head is found exactly where one stands is proved in the contract of `find_cut`.
use Rattle.std.specs.Prelude.{ℕ, ◌+◌, ◌-◌, ◌≤◌, Bool, List, [], ◌∷◌, length, take, drop, nat_lt, nat_le, ◌==◌, ◌&&◌}
use Rattle.std.specs.Prelude.{if◌then◌else◌, Result, Ok, Err}
use Rattle.der_core.specs.declared.fault.DerFault.{DerFault}
use Rattle.der_core.specs.declared.fault.DerFault.TheVariants.{Short, Malformed}
use Rattle.der_core.specs.Reading.{◌>>=◌}
use Rattle.der_core.specs.Head.{head_at}
use Rattle.cms_signed.specs.Cut.{HeadPart, Opens, Has}
use Rattle.cms_signed.specs.declared.cut.Missing.{Missing}
use Rattle.cms_signed.specs.declared.cut.Missing.TheVariants.{More, Never}

-- what so many more octets can mend
abbrev pub CanCome : Missing → ℕ → Type 0
CanCome (More least) count = least ≤ count
CanCome Never count = ⊥

-- a head that was read, of a tag, which ends with its contents within so many octets
abbrev pub open_from : ℕ → ℕ → ℕ → Result (ℕ × (ℕ × List ℕ)) DerFault → Result (ℕ × List ℕ) Missing
open_from tag left count (Ok x) =
    if (x.0 == tag) && nat_le ((count - length x.1.1) + x.1.0) left then Ok x.1 else Err Never
open_from tag left count (Err Short) = Err (More 1)
open_from tag left count (Err Malformed) = Err Never

-- the head of this tag at the front, which ends with its contents within so many octets; and what follows the head
unfoldable pub open_at : ℕ → ℕ → List ℕ → Result (ℕ × List ℕ) Missing
open_at tag left bytes = open_from tag left (length bytes) (head_at bytes)

-- the contents behind a head
abbrev pub contents_from : ℕ × List ℕ → Result (List ℕ × List ℕ) Missing
contents_from x =
    if nat_lt (length x.1) x.0 then Err (More (x.0 - length x.1)) else Ok (take x.0 x.1, drop x.0 x.1)

-- the contents of the element of this tag at the front, and what follows it
unfoldable pub contents_of : ℕ → ℕ → List ℕ → Result (List ℕ × List ℕ) Missing
contents_of tag left bytes = open_at tag left bytes >>= contents_from

-- contents that pass a test: what is left of the element around them, and what follows
abbrev pub has_from : (List ℕ → Bool) → ℕ → ℕ → List ℕ × List ℕ → Result (ℕ × List ℕ) Missing
has_from test left count x = if test x.0 then Ok (left - (count - length x.1), x.1) else Err Never

-- the element at the front, where its contents pass the test
unfoldable pub has_at : ℕ → (List ℕ → Bool) → ℕ → List ℕ → Result (ℕ × List ℕ) Missing
has_at tag test left bytes = contents_of tag left bytes >>= has_from test left (length bytes)

-- one part
abbrev pub part_at : HeadPart → ℕ → List ℕ → Result (ℕ × List ℕ) Missing
part_at (Opens tag) left bytes = open_at tag left bytes
part_at (Has tag test) left bytes = has_at tag test left bytes

-- parts one after the other: what is left of the innermost element, and what follows
abbrev pub parts_at : List HeadPart → ℕ → List ℕ → Result (ℕ × List ℕ) Missing
parts_at [] left bytes = Ok (left, bytes)
parts_at (part ∷ parts) left bytes = part_at part left bytes >>= λ x. parts_at parts x.0 x.1
