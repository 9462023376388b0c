-- The verdict on a whole item, by its frame and its cut.
use Rattle.std.proofs.Common.{◌≡◌, ℕ, List, length, take, drop, Option, Some, None, sym, subst, refl}
use Rattle.std.specs.Prelude.{IfSome, IsSome, IfOk, Result, Ok, Err}
use Rattle.der_core.specs.Items.{IsSequence}
use Rattle.der_core.proofs.Digits.{AreOctets-take, AreOctets-drop}
use Rattle.cms_signed.specs.Answer.{FitsCut, put_in}
use Rattle.cms_signed.specs.Cut.{HasCut, firmware_package}
use Rattle.cms_signed.specs.Message.{Message, IsMessage, message_text}
use Rattle.cms_signed.specs.Outline.{NoCut, Seen, Sees, content_of}
use Rattle.cert_fields.specs.Anchor.{TrustAnchor}
use Rattle.content_stream.specs.declared.content_stream.Streamed.{Streamed}
use Rattle.judge_core.specs.declared.verdict.Cut.{Cut}
use Rattle.judge_core.specs.declared.verdict.CutVerdict.{CutVerdict}
use Rattle.judge_core.specs.Values.{Values}
use Rattle.judge_core.specs.Verdicts.{Admits, Bench, Judges}
use Rattle.judge_core.specs.Views.{IsCutContent, JudgesCut, cut_view, gap_of}
use Rattle.load_item.specs.Judged.{IsCutOf, IsOutlineOf, JudgesHeld, KnowsContent, MatchesContent}

-- the laws of an outline
abbrev pub FrameHasCut : Type 0
FrameHasCut = (seen : Seen) (place size : ℕ) (item : List ℕ) → seen.cut ≡ Some (place, size) → Sees seen item
    → HasCut seen.frame place size

abbrev pub WholeItem : Type 0
WholeItem = (seen : Seen) (item : List ℕ) → IsSequence item → Sees seen item
    → FitsCut seen.cut (content_of seen.cut item) × (seen.count ≡ length (content_of seen.cut item))
    × (put_in seen.frame seen.cut (content_of seen.cut item) ≡ item)

-- the frame has the head that the judge asks for
pub head_there : FrameHasCut → (outline : Seen) (streamed : Option Streamed) (octets : List ℕ) (cut : Option Cut)
    → Sees outline octets → IsCutOf outline.cut streamed cut → IfSome (gap_of cut) (λ gap. HasCut outline.frame gap.0 gap.1)
head_there law outline streamed octets cut sees is = by_cut outline.cut streamed refl is
  where
    none : cut ≡ None → IfSome (gap_of cut) (λ gap. HasCut outline.frame gap.0 gap.1)
    none e = subst (λ (o : Option Cut). IfSome (gap_of o) (λ gap. HasCut outline.frame gap.0 gap.1)) (sym e) tt

    by_cut : (o : Option (ℕ × ℕ)) (s : Option Streamed) → outline.cut ≡ o → IsCutOf o s cut
        → IfSome (gap_of cut) (λ gap. HasCut outline.frame gap.0 gap.1)
    by_cut None s e is = none is
    by_cut (Some c) None e is = none is
    by_cut (Some c) (Some s) e is =
        subst (λ (o : Option Cut). IfSome (gap_of o) (λ gap. HasCut outline.frame gap.0 gap.1)) (sym is)
        (law outline c.0 c.1 octets e sees)

-- a verdict on the frame and the cut is one on the item
judges_whole : WholeItem → (b : Bench) (outline : Seen) (streamed : Option Streamed) (octets : List ℕ) (cut : Option Cut)
    (verdict : CutVerdict) → IsOutlineOf outline streamed octets → IsCutOf outline.cut streamed cut
    → JudgesCut b outline.frame cut verdict → JudgesHeld b outline streamed octets verdict
judges_whole law b outline streamed octets cut verdict h is judges = by_cut outline.cut streamed refl refl h.knows is
  where
    made : (o : Option (ℕ × ℕ)) (s : Option Streamed) → outline.cut ≡ o → streamed ≡ s → (content image : List ℕ)
        → Judges b octets (cut_view content image verdict) → MatchesContent o (content_of o octets) content image s
        → JudgesHeld b outline streamed octets verdict
    made o s e f content image j m = record {
      content = content;
      image = image;
      judges = j;
      matches = subst (λ (x : Option (ℕ × ℕ)). MatchesContent x (content_of x octets) content image streamed) (sym e)
          (subst (λ (x : Option Streamed). MatchesContent o (content_of o octets) content image x) (sym f) m);
    }

    at : (o : Option Cut) → cut ≡ o → JudgesCut b outline.frame o verdict
    at o e = subst (λ (x : Option Cut). JudgesCut b outline.frame x verdict) e judges

    together : (o : Option (ℕ × ℕ)) → outline.cut ≡ o
        → FitsCut o (content_of o octets) × (put_in outline.frame o (content_of o octets) ≡ octets)
    together o e =
        let w = law outline octets h.sequence h.sees in
        subst (λ (x : Option (ℕ × ℕ)). FitsCut x (content_of x octets) × (put_in outline.frame x (content_of x octets) ≡ octets)) e
        (w.0, w.2)

    by_cut : (o : Option (ℕ × ℕ)) (s : Option Streamed) → outline.cut ≡ o → streamed ≡ s
        → KnowsContent o (content_of o octets) s → IsCutOf o s cut → JudgesHeld b outline streamed octets verdict
    by_cut None None e f knows is =
        let x = at None is in
        made None None e f x.0 x.1
        (subst (λ (l : List ℕ). Judges b l (cut_view x.0 x.1 verdict)) (together None e).1 x.2) tt
    by_cut None (Some s) e f knows is = absurd knows
    by_cut (Some c) None e f knows is = absurd knows
    by_cut (Some c) (Some s) e f (image, k) is =
        let content : List ℕ = take c.1 (drop c.0 octets) in
        let w = together (Some c) e in
        let told : IsCutContent (record { place = c.0; length = c.1; digest = s.content_digest; image = s.length }) content image =
        record {
          octets = AreOctets-take c.1 (drop c.0 octets) (AreOctets-drop c.0 octets h.are);
          count = w.0;
          digest = k.content_digest;
          image_is = k.image_is;
          size = sym k.size;
        } in
        let x = at (Some (record { place = c.0; length = c.1; digest = s.content_digest; image = s.length })) is in
        made (Some c) (Some s) e f content image
        (subst (λ (l : List ℕ). Judges b l (cut_view content image verdict)) w.1 (x content image told)) (refl, k)

pub ok_judges : WholeItem → (b : Bench) (outline : Seen) (streamed : Option Streamed) (octets frame : List ℕ)
    (cut : Option Cut) {E : Type 0} (result : Result CutVerdict E) → IsOutlineOf outline streamed octets
    → IsCutOf outline.cut streamed cut → frame ≡ outline.frame → IfOk result (JudgesCut b frame cut)
    → IfOk result (JudgesHeld b outline streamed octets)
ok_judges law b outline streamed octets frame cut (Err e) h is same judges = tt
ok_judges law b outline streamed octets frame cut (Ok verdict) h is same judges =
    judges_whole law b outline streamed octets cut verdict h is
    (subst (λ (l : List ℕ). JudgesCut b l cut verdict) same judges)

-- an item that is accepted has a cut, so that its content came by itself
pub accepted_has_cut : ((m : Message) → IsMessage firmware_package m
    → (place : ℕ) × HasCut (message_text m) place (length m.content)
    × (content_of (Some (place, length m.content)) (message_text m) ≡ m.content))
    → (b : Bench) (outline : Seen) (streamed : Option Streamed) (octets image : List ℕ) (v : Values)
    (anchor : TrustAnchor) → IsOutlineOf outline streamed octets → Admits b octets v image anchor
    → IsSome outline.cut × IsSome streamed
accepted_has_cut law b outline streamed octets image v anchor h admits = by_cut outline.cut streamed refl h.knows
  where
    no_head : (seen : Seen) → seen.cut ≡ None → Sees seen octets → NoCut octets
    no_head seen e sees = (subst (λ (o : Option (ℕ × ℕ)). Sees (record { frame = seen.frame; cut = o; count = seen.count }) octets) e sees).0

    no_cut : outline.cut ≡ None → NoCut octets
    no_cut e = no_head outline e h.sees

    by_cut : (o : Option (ℕ × ℕ)) (s : Option Streamed) → outline.cut ≡ o → KnowsContent o (content_of o octets) s
        → IsSome o × IsSome s
    by_cut None s e knows =
        let cut = law v.message admits.spells.valid in
        let here : HasCut octets cut.0 (length v.message.content) =
        subst (λ (l : List ℕ). HasCut l cut.0 (length v.message.content)) (sym admits.spells.text) cut.1 in
        absurd (no_cut e cut.0 (length v.message.content) here)
    by_cut (Some c) None e knows = absurd knows
    by_cut (Some c) (Some s) e knows = (refl, refl)
