-- What was read of a frame and a cut is what is to be read of each item.
use Rattle.std.proofs.Common.{◌≡◌, ℕ, ◌^◌, List, [], ◌++◌, length, take, drop}
use Rattle.std.proofs.Common.{Option, Some, None, Result, Ok, Err, refl, sym, ap, subst, ◌∙◌}
use Rattle.std.proofs.Common.{arith}
use Rattle.std.specs.Prelude.{MatchResult, IfSome, IsSome}
use Rattle.std.proofs.lemmas.List.{take_all, append-nil, take_at}
use Rattle.der_core.proofs.Digits.{AreOctets, AreOctets-take, AreOctets-drop}
use Rattle.der_core.proofs.Faults.{octets_append}
use Rattle.cms_signed.specs.Cut.{HasCut, IsContentHead, before_content}
use Rattle.cms_signed.specs.Signed.{IsOuter}
use Rattle.std.proofs.Common.{replicate}
use Rattle.std.proofs.lemmas.List.{length-replicate}
use Rattle.cms_signed.specs.Gapped.{Gapped, filled, solid}
use Rattle.cms_signed.specs.SignedReading.{outer_of, gapped_outer}
use Rattle.cms_signed.specs.Answer.{put_in, FitsCut, content_at, IsAnswer, gapped_at}
use Rattle.cms_signed.proofs.Lifts.{IsSolid, IsHole, Leads, filled-solid, solid_is}
use Rattle.cms_signed.proofs.ShapeLifts.{solid_route, gap_route, outer_lifts, outer_post, result_map, fill-outer}
use Rattle.cms_signed.proofs.SignedLaws.{outer_law, IsDecided}

-- the item, as the gapped octets filled
item_is : (frame : List ℕ) (cut : Option (ℕ × ℕ)) (content : List ℕ) → FitsCut cut content
    → filled (gapped_at frame cut) content ≡ put_in frame cut content
item_is frame None content fits = filled-solid frame content
item_is frame (Some cut) content fits =
    ap (λ (x : List ℕ). take cut.0 frame ++ (x ++ drop cut.0 frame)) (take_all cut.1 content (omega (arith, fits)))

item_octets : (frame : List ℕ) (cut : Option (ℕ × ℕ)) (content : List ℕ) → AreOctets frame → AreOctets content
    → AreOctets (put_in frame cut content)
item_octets frame None content are are' = are
item_octets frame (Some cut) content are are' =
    octets_append (take cut.0 frame) (content ++ drop cut.0 frame) (AreOctets-take cut.0 frame are)
    (octets_append content (drop cut.0 frame) are' (AreOctets-drop cut.0 frame are))

leads : (frame : List ℕ) (place size : ℕ) (content : List ℕ) → HasCut frame place size → length content ≡ size
    → Leads content before_content (gapped_at frame (Some (place, size)))
leads frame place size content h fits =
    let head-is : take place frame ≡ h.head =
    ap (take place) h.text ∙ take_at h.head h.rest place (sym h.placed) in
    (sym fits, (2 ^ 33, subst (λ (x : List ℕ). IsContentHead x size) (sym head-is) h.before))

hole_is : (g : Gapped) (content : List ℕ) → IsHole content g → filled g content ≡ content
hole_is g content hole =
    rw (hole.0, hole.2, hole.1, take_all (length content) content (omega arith)) (append-nil content)

-- of an item, whatever was put in
abbrev pub Decides : List ℕ → Option (ℕ × ℕ) → List ℕ → List ℕ → Result (Gapped × List ℕ) ℕ → Type 0
Decides kind cut item content r = MatchResult r
    (λ x. IsAnswer kind item (content_at cut x.0.front content) (Ok x.1)) (λ n. IsAnswer kind item [] (Err n))

decided : (kind : List ℕ) (cut : Option (ℕ × ℕ)) (item content : List ℕ) (r : Result (Gapped × List ℕ) ℕ)
    → AreOctets item → outer_of kind item ≡ result_map (fill-outer content) r
    → ((x : Gapped × List ℕ) → r ≡ Ok x → filled x.0 content ≡ content_at cut x.0.front content)
    → Decides kind cut item content r
decided kind cut item content (Ok x) octets e stands =
    let h = subst (IsDecided kind item) e (outer_law kind item octets) in
    (h.0, subst (λ (y : List ℕ). IsOuter item y x.1) (stands x refl) h.1)
decided kind cut item content (Err n) octets e stands = subst (IsDecided kind item) e (outer_law kind item octets)

pub is_answer : (kind frame : List ℕ) (cut : Option (ℕ × ℕ)) (content : List ℕ) → AreOctets frame
    → IfSome cut (λ cut. HasCut frame cut.0 cut.1) → AreOctets content → FitsCut cut content
    → Decides kind cut (put_in frame cut content) content (gapped_outer kind (gapped_at frame cut))
is_answer kind frame None content octets head are fits =
    decided kind None frame content (gapped_outer kind (solid frame)) octets
    (ap (outer_of kind) (sym (filled-solid frame content))
    ∙ outer_lifts (solid_route content) kind (solid frame) (refl, refl))
    (λ x is. (let s : IsSolid x.0 = outer_post (solid_route content) kind (solid frame) x (refl, refl) is in
    subst (λ (h : Gapped). filled h content ≡ h.front) (sym (solid_is x.0 s)) (filled-solid x.0.front content)))
is_answer kind frame (Some cut) content octets head are fits =
    let at = leads frame cut.0 cut.1 content head fits in
    decided kind (Some cut) (put_in frame (Some cut) content) content (gapped_outer kind (gapped_at frame (Some cut)))
    (item_octets frame (Some cut) content octets are)
    (ap (outer_of kind) (sym (item_is frame (Some cut) content fits))
    ∙ outer_lifts (gap_route content) kind (gapped_at frame (Some cut)) at)
    (λ x is. hole_is x.0 content (outer_post (gap_route content) kind (gapped_at frame (Some cut)) x at is))

pub is_empty : (kind frame : List ℕ) (cut : Option (ℕ × ℕ)) (x : Gapped × List ℕ)
    → IfSome cut (λ cut. HasCut frame cut.0 cut.1) → gapped_outer kind (gapped_at frame cut) ≡ Ok x → IsSome cut
    → x.0.front ≡ []
is_empty kind frame None x head e some = absurd cc
is_empty kind frame (Some cut) x head e some =
    let content = replicate {A = ℕ} cut.1 0 in
    let at = leads frame cut.0 cut.1 (replicate {A = ℕ} cut.1 0) head (length-replicate {A = ℕ} cut.1 0) in
    (outer_post (gap_route (replicate {A = ℕ} cut.1 0)) kind (gapped_at frame (Some cut)) x at e).0
