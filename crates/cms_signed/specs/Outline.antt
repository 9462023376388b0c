-- What is seen of an outline, and what that says of the octets of the item that it has been fed.
use Rattle.std.specs.Prelude.{◌≡◌, ℕ, ◌+◌, ◌-◌, min, List, [], ◌++◌, length, take, drop, Option, Some, None}
use Rattle.std.specs.Prelude.{MatchOption}
use Rattle.std.specs.Option.{option_map_or}
use Rattle.cms_signed.specs.declared.outline.Part.{Part}
use Rattle.cms_signed.specs.declared.outline.Part.TheVariants.{Frame, Content}
use Rattle.cms_signed.specs.Cut.{HasCut, BeginsContent}

-- the octets that aren't content; the content's place in them and its length; how many octets of content there were
pub record Seen : Type 0 where
  pub frame : List ℕ
  pub cut : Option (ℕ × ℕ)
  pub count : ℕ

-- no head stands at the front of the item, whole
abbrev pub NoCut : List ℕ → Type 0
NoCut item = (place size : ℕ) → HasCut item place size → ⊥

-- an item of which these octets have come is seen so
abbrev pub Sees : Seen → List ℕ → Type 0
Sees seen item = MatchOption seen.cut
    (NoCut item × (seen.frame ≡ item) × (seen.count ≡ 0))
    (λ cut. HasCut item cut.0 cut.1
    × (seen.frame ≡ take cut.0 item ++ drop (cut.0 + cut.1) item)
    × (seen.count ≡ min cut.1 (length item - cut.0)))

-- the octet behind these belongs to this part of the item
abbrev pub IsOf : Part → List ℕ → Type 0
IsOf Content item = BeginsContent item
IsOf Frame item = BeginsContent item → ⊥

-- the content's octets in an item that has come; none where no head stands at its front
abbrev pub content_of : Option (ℕ × ℕ) → List ℕ → List ℕ
content_of None item = []
content_of (Some cut) item = take cut.1 (drop cut.0 item)

-- what a piece adds to the content
abbrev pub added : Part → List ℕ → List ℕ
added Content piece = piece
added Frame piece = []

-- how many octets of the content haven't come; none where no head stands at the front
abbrev pub left_of : Seen → ℕ
left_of seen = option_map_or (λ cut. cut.1 - seen.count) seen.cut 0
