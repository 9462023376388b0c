-- What is read of a frame and a cut: what is read of each item that they stand for.
use Rattle.std.specs.Prelude.{◌≡◌, ℕ, List, [], ◌++◌, length, take, drop, Option, Some, None, Result, MatchResult}
use Rattle.der_core.specs.Asked.{AllHold, FirstFail}
use Rattle.cms_signed.specs.Gapped.{Gapped as Octets, solid}
use Rattle.cms_signed.specs.Signed.{outer_conditions, IsOuter}

-- the frame with a content put in at the cut; without a cut the frame is the item
abbrev pub put_in : List ℕ → Option (ℕ × ℕ) → List ℕ → List ℕ
put_in frame None content = frame
put_in frame (Some cut) content = take cut.0 frame ++ (content ++ drop cut.0 frame)

-- the content has as many octets as the cut says; without a cut nothing is put in
abbrev pub FitsCut : Option (ℕ × ℕ) → List ℕ → Type 0
FitsCut None content = content ≡ []
FitsCut (Some cut) content = length content ≡ cut.1

-- eContent's value octets: those that were read, without a cut; with one those that were put in
abbrev pub content_at : Option (ℕ × ℕ) → List ℕ → List ℕ → List ℕ
content_at None read content = read
content_at (Some cut) read content = content

-- an answer to an item: its content and what stands behind encapContentInfo, or the first condition that fails
abbrev pub IsAnswer : List ℕ → List ℕ → List ℕ → Result (List ℕ) ℕ → Type 0
IsAnswer kind item content answer = MatchResult answer
    (λ tail. AllHold (outer_conditions kind item) × IsOuter item content tail)
    (λ number. FirstFail (outer_conditions kind item) number)

-- the frame and the cut as octets with a gap, as they are read
abbrev pub gapped_at : List ℕ → Option (ℕ × ℕ) → Octets
gapped_at frame None = solid frame
gapped_at frame (Some cut) = record { front = take cut.0 frame; gap = cut.1; back = drop cut.0 frame }
