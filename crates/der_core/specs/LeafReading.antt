-- Reading the contents of a BOOLEAN, an INTEGER of either sign and a BIT STRING. That these are the values whose
-- texts the octets are is proved in the contracts of the readers.
use Rattle.std.specs.Prelude.{ℕ, ◌%◌, ◌^◌, Bool, true, false, List, [], ◌∷◌, length, slice_index, nat_lt}
use Rattle.std.specs.Prelude.{◌==◌, ◌&&◌, ◌||◌, if◌then◌else◌, Option, Some, None}

-- a truth value
unfoldable pub boolean_of : List ℕ → Option Bool
boolean_of [] = None
boolean_of (o ∷ []) = if o == 0x00 then Some false else (if o == 0xFF then Some true else None)
boolean_of (o ∷ (p ∷ os)) = None

-- an integer, kept as its octets
unfoldable pub integer_of : List ℕ → Option (List ℕ)
integer_of [] = None
integer_of (o ∷ []) = Some (o ∷ [])
integer_of (o ∷ (p ∷ os)) =
    if ((o == 0x00) && nat_lt p 0x80) || ((o == 0xFF) && nat_lt 0x7F p) then None else Some (o ∷ (p ∷ os))

-- the unused bits of the last octet are zero
unfoldable pub are_bits : ℕ → List ℕ → Bool
are_bits unused [] = unused == 0
are_bits unused (o ∷ os) = nat_lt unused 8 && (slice_index (o ∷ os) (length os) % 2 ^ unused == 0)

-- the number of unused bits, and the octets
unfoldable pub bits_of : List ℕ → Option (ℕ × List ℕ)
bits_of [] = None
bits_of (unused ∷ octets) = if are_bits unused octets then Some (unused, octets) else None
