-- The bridge between the code and the texts: reading functions, in the order in which the code reads.
-- Nothing here has to be believed. What a reader promises is said by its clauses `found`, `fault`, `spelled`
-- and their kin over the texts of the other files, and that what is read here agrees is proved.
use Rattle.std.specs.Prelude.{ℕ, ◌+◌, ◌-◌, ◌*◌, ◌%◌, ◌^◌, List, [], ◌∷◌, length, take, drop, nat_lt, ◌==◌, ◌&&◌}
use Rattle.std.specs.Prelude.{◌||◌, if◌then◌else◌, Option, Some, None, is_some, Result, Ok, Err}
use Rattle.std.specs.Int.Digits.{number_from_digits}
use Rattle.der_core.specs.declared.fault.DerFault.{DerFault}
use Rattle.der_core.specs.declared.fault.DerFault.TheVariants.{Short, Malformed}

-- ---- elements (X.690, sections 8.1 and 10.1)

-- the next step, where this one read something
infixl 10 ◌>>=◌
abbrev pub ◌>>=◌ : {A B E : Type 0} → Result A E → (A → Result B E) → Result B E
(Ok x) >>= f = f x
(Err e) >>= f = Err e

-- a length of k octets, and what follows it
unfoldable pub long_length_at : ℕ → List ℕ → Result (ℕ × List ℕ) DerFault
long_length_at k [] = Err Short
long_length_at k (d ∷ ds) =
    if (d == 0) || ((k == 1) && nat_lt d 128) then Err Malformed
    else (if nat_lt (length (d ∷ ds)) k then Err Short
    else Ok (number_from_digits 256 (take k (d ∷ ds)), drop k (d ∷ ds)))

-- the length at the front, and what follows it
unfoldable pub length_at : List ℕ → Result (ℕ × List ℕ) DerFault
length_at [] = Err Short
length_at (b ∷ bs) =
    if nat_lt b 128 then Ok (b, bs)
    else (if (b == 128) || nat_lt 132 b then Err Malformed else long_length_at (b - 128) bs)

-- tag, contents, and what follows
abbrev pub FirstElement : Type 0
FirstElement = ℕ × (List ℕ × List ℕ)

-- the contents of this tag, where a length and what follows it have been read
unfoldable pub contents_at : ℕ → ℕ × List ℕ → Result FirstElement DerFault
contents_at tag n =
    if nat_lt (length n.1) n.0 then Err Short else Ok (tag, (take n.0 n.1, drop n.0 n.1))

-- the element at the front
unfoldable pub element_at : List ℕ → Result FirstElement DerFault
element_at [] = Err Short
element_at (tag ∷ bytes) =
    if tag % 32 == 31 then Err Malformed else (length_at bytes >>= contents_at tag)

-- the element at the front, where there is one
unfoldable pub front_of : List ℕ → Option FirstElement
front_of bytes = elim (element_at bytes) [ Ok x ↦ Some x | Err e ↦ None ]

-- the next step, where this one read something
infixl 10 ◌>>?◌
abbrev pub ◌>>?◌ : {A B : Type 0} → Option A → (A → Option B) → Option B
(Some x) >>? f = f x
None >>? f = None

-- the contents of the element at the front, where it has this tag, and what follows
unfoldable pub tagged_of : ℕ → List ℕ → Option (List ℕ × List ℕ)
tagged_of tag bytes = front_of bytes >>? λ x. if x.0 == tag then Some x.1 else None

-- ---- numbers (X.690, section 8.3)

-- digits that a 00 stands before
abbrev pub digits_after_zero : List ℕ → Option (List ℕ)
digits_after_zero [] = Some []
digits_after_zero (d ∷ ds) = if nat_lt d 128 then None else Some (d ∷ ds)

-- the digits of a number that isn't negative
unfoldable pub number_digits : List ℕ → Option (List ℕ)
number_digits [] = None
number_digits (d ∷ ds) =
    if d == 0 then digits_after_zero ds else (if nat_lt d 128 then Some (d ∷ ds) else None)

-- a number below 2^128
unfoldable pub number_of : List ℕ → Option ℕ
number_of contents = number_digits contents >>? λ ds.
    if nat_lt 16 (length ds) then None else Some (number_from_digits 256 ds)

-- ---- identifiers (X.690, section 8.19)

-- what an octet makes of the number that the octets before it in its subidentifier gave: 0 at the
-- last octet
unfoldable pub subidentifier_step : ℕ → ℕ → Option ℕ
subidentifier_step n o =
    if ((n == 0) && (o == 128)) || nat_lt (2 ^ 121 - 1) n then None
    else (if nat_lt o 128 then Some 0 else Some (n * 128 + (o - 128)))

-- the subidentifiers, where n is the number so far of the first
unfoldable pub subidentifiers_after : ℕ → List ℕ → Option (List ℕ)
subidentifiers_after n [] = if n == 0 then Some [] else None
subidentifiers_after n (o ∷ os) = subidentifier_step n o >>? λ m.
    if nat_lt o 128 then (subidentifiers_after 0 os >>? λ ss. Some ((n * 128 + o) ∷ ss))
    else subidentifiers_after m os

-- the subidentifiers that all of the octets spell
abbrev pub subidentifiers_of : List ℕ → Option (List ℕ)
subidentifiers_of octets = subidentifiers_after 0 octets

-- the octets, where they are an identifier's contents
unfoldable pub oid_of : List ℕ → Option (List ℕ)
oid_of octets =
    if is_some (subidentifiers_of octets) && (nat_lt 0 (length octets) && nat_lt (length octets) 65)
    then Some octets else None

-- the octets, where there are 1 to 64
unfoldable pub octets_of : List ℕ → Option (List ℕ)
octets_of octets =
    if nat_lt 0 (length octets) && nat_lt (length octets) 65 then Some octets else None
