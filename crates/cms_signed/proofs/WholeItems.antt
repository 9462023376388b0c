-- An item that has come whole has its whole content.
use Rattle.std.proofs.Common.{◌≡◌, ℕ, ◌+◌, ◌≤◌, ◌^◌, List, [], ◌∷◌, ◌++◌, length, drop, Option}
use Rattle.std.proofs.Common.{Some, None, refl, sym, ap, ◌∙◌, append_assoc, arith}
use Rattle.std.proofs.lemmas.List.{length-append, length-take, length-drop}
use Rattle.der_core.specs.declared.fault.DerFault.{DerFault}
use Rattle.der_core.specs.Element.{enc, length_octets}
use Rattle.der_core.specs.Head.{head_octets, IsHead, head_at}
use Rattle.der_core.specs.Items.{IsSequence}
use Rattle.der_core.proofs.Element.{ok_is}
use Rattle.der_core.proofs.HeadLemmas.{head_again}
use Rattle.cms_signed.specs.Cut.{HasCut, AreParts, before_content, HeadPart, Opens}
use Rattle.cms_signed.specs.Answer.{put_in, FitsCut}
use Rattle.cms_signed.specs.Outline.{Seen, Sees, content_of}
use Rattle.cms_signed.proofs.Lifts.{reach}
use Rattle.cms_signed.proofs.OutlineLemmas.{at_cut, at_none, put_together}

-- the first element's end
ends : (item : List ℕ) (tag size : ℕ) (rest : List ℕ) → IsSequence item → IsHead tag size
    → item ≡ head_octets tag size ++ rest → length item ≡ length (head_octets tag size) + size
unfolding enc
ends item tag size rest s h e =
    let other : IsHead 0x30 (length s.contents) =
    record { octet = s.element.octet; low_bits = s.element.low_bits; fits = s.element.fits } in
    let same : (tag, (size, rest)) ≡ (0x30, (length s.contents, s.contents)) =
    ok_is {E = DerFault} (tag, (size, rest)) (0x30, (length s.contents, s.contents))
    (sym (head_again tag size rest h) ∙ ap head_at (sym e ∙ s.text) ∙ head_again 0x30 (length s.contents) s.contents other)
    in
    let sizes : size ≡ length s.contents = ap (λ (x : ℕ × (ℕ × List ℕ)). x.1.0) same in
    let rests : rest ≡ s.contents = ap (λ (x : ℕ × (ℕ × List ℕ)). x.1.1) same in
    omega (arith, ap length e, length-append (tag ∷ length_octets size) rest, sizes, ap length rests)

abbrev inside : List HeadPart → List HeadPart
inside [] = []
inside (part ∷ parts) = parts

-- parts in the item's element end within it
within : (parts : List HeadPart) (item head tail : List ℕ) (place left size : ℕ) → IsSequence item → item ≡ head ++ tail
    → place ≡ length head → AreParts (Opens 0x30 ∷ parts) left head size → place + size ≤ length item
within parts item head tail place left size s e placed (front, between, rest, (h, width, is), more, text) =
    let whole : item ≡ head_octets 0x30 between ++ (rest ++ tail) =
    e ∙ ap (λ (x : List ℕ). x ++ tail) (text ∙ ap (λ (x : List ℕ). x ++ rest) is)
    ∙ append_assoc (head_octets 0x30 between) rest tail in
    omega (
      arith,
      ends item 0x30 between (rest ++ tail) s h whole,
      reach parts between rest size more,
      placed,
      ap length text,
      ap length is,
      length-append front rest,
    )

pub ends_within : (item : List ℕ) (place size : ℕ) → IsSequence item → HasCut item place size
    → place + size ≤ length item
ends_within item place size s h =
    within (inside before_content) item h.head h.rest place (2 ^ 33) size s h.text h.placed h.before

pub whole : (seen : Seen) (item : List ℕ) → IsSequence item → Sees seen item → (cut : Option (ℕ × ℕ)) → seen.cut ≡ cut
    → FitsCut cut (content_of cut item) × (seen.count ≡ length (content_of cut item))
    × (put_in seen.frame cut (content_of cut item) ≡ item)
whole seen item s sees None is = let x = at_none seen item is sees in (refl, x.2, x.1)
whole seen item s sees (Some cut) is =
    let x = at_cut seen.frame seen.cut seen.count item cut.0 cut.1 is sees in
    let y = put_together seen.frame cut.0 cut.1 seen.count item x in
    let within = ends_within item cut.0 cut.1 s x.0 in
    (omega (arith, length-take cut.1 (drop cut.0 item), length-drop cut.0 item), sym y.0, sym y.1)
