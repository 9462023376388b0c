-- What a splitter answers to a piece of a stream.
use Rattle.std.specs.Prelude.{◌≡◌, ℕ, ◌<◌, List, [], ◌∷◌, ◌++◌, length, get_or, take, ◌⊎◌}
use Rattle.der_core.specs.declared.fault.DerFault.{DerFault}
use Rattle.der_core.specs.declared.fault.DerFault.TheVariants.{Short, Malformed}
use Rattle.der_core.specs.declared.splitter.Step.{Step}
use Rattle.der_core.specs.declared.splitter.Step.TheVariants.{More, Ends, Rest}
use Rattle.der_core.specs.Items.{IsSequence, HasSequence, BeginsSequence, Splits}
use Rattle.der_core.specs.Progress.{Progress, Sees, Declares}

-- the next octet comes behind these of its item: behind none, where the last item has ended
abbrev pub Awaits : Progress → List ℕ → Type 0
Awaits seen so_far =
    (Sees seen so_far × (HasSequence so_far → ⊥))
    ⊎ ((item : List ℕ) × IsSequence item × Sees seen item × (so_far ≡ []))

-- an item has had some octets, and a piece comes: the answer, and what is seen then. `More` and `Rest` give it all
-- of the piece, which begins a SEQUENCE or none, and `Ends n` gives it n octets, which make it a whole one.
abbrev pub IsStep : List ℕ → List ℕ → Progress → Step → Type 0
IsStep so_far piece seen More =
    BeginsSequence (so_far ++ piece) × (HasSequence (so_far ++ piece) → ⊥) × Sees seen (so_far ++ piece)
IsStep so_far piece seen (Ends n) = IsSequence (so_far ++ take n piece) × Sees seen (so_far ++ take n piece)
IsStep so_far piece seen Rest = (BeginsSequence (so_far ++ piece) → ⊥) × Sees seen (so_far ++ piece)

-- where a splitter stands in the stream that it has had: the items that have ended, and what the next one has had
pub record Stands (seen : Progress) (stream : List ℕ) (ended : List (List ℕ)) (so_far : List ℕ) : Type 0 where
  pub splits : Splits stream ended so_far
  pub awaits : Awaits seen so_far

-- where it stands after a piece: the stream and the item have had the octets that the answer gives the item
abbrev pub StandsAfter : List ℕ → List (List ℕ) → List ℕ → List ℕ → Progress → Step → Type 0
StandsAfter stream ended so_far piece seen More = Stands seen (stream ++ piece) ended (so_far ++ piece)
StandsAfter stream ended so_far piece seen (Ends n) =
    Stands seen (stream ++ take n piece) (ended ++ (so_far ++ take n piece) ∷ []) []
StandsAfter stream ended so_far piece seen Rest = Stands seen (stream ++ piece) ended (so_far ++ piece)

-- octets that declare no length: those that a length can still follow, and those that begin no SEQUENCE
abbrev pub IsHeadFault : DerFault → List ℕ → Type 0
IsHeadFault Short octets = BeginsSequence octets × (length octets < 6) × ((size : ℕ) → Declares octets size → ⊥)
IsHeadFault Malformed octets = BeginsSequence octets → ⊥

-- where there is an octet, the first is this tag
abbrev pub IsFirstTag : ℕ → List ℕ → Type 0
IsFirstTag tag octets = 0 < length octets → get_or octets 0 0 ≡ tag
