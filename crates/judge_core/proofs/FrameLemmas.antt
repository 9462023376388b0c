-- An item that is a frame with a content put in.
use Rattle.std.proofs.Common.{◌≡◌, ◌<◌, ℕ, List, ◌++◌, length, take, drop, replicate, Some, sym, ap, subst, inl, inr, ◌∙◌, arith}
use Rattle.std.proofs.lemmas.Bool.{cases_lt}
use Rattle.std.proofs.lemmas.List.{length-append, length-replicate, get_or-replicate, get_or_past, take_at, drop_at, append_assoc}
use Rattle.der_core.specs.Element.{AreOctets}
use Rattle.der_core.specs.Head.{head_octets, BeginsWith}
use Rattle.cms_signed.specs.Answer.{put_in}
use Rattle.cms_signed.specs.Cut.{HasCut}
use Rattle.judge_core.specs.Steps.{BeginsLike}
use Rattle.judge_core.proofs.SizeLemmas.{one_head}

-- octets that are all zero
pub zeros_are_octets : (n : ℕ) → AreOctets (replicate n 0)
zeros_are_octets n i =
    elim (cases_lt i n) [
      | inl within ↦ subst (λ x. x < 256) (sym (get_or-replicate n i 0 0 within)) (omega arith)
      | inr past ↦ subst (λ x. x < 256) (sym (get_or_past (replicate n 0) i 0 (omega (arith, past, length-replicate {A = ℕ} n 0)))) (omega arith)
    ]

module _ (frame : List ℕ) (place size : ℕ) (h : HasCut frame place size) (content : List ℕ) where
  front : take place frame ≡ h.head
  front = ap (take place) h.text ∙ take_at h.head h.rest place (sym h.placed)

  back : drop place frame ≡ h.rest
  back = ap (drop place) h.text ∙ drop_at h.head h.rest place (sym h.placed)

  -- the head stays in front
  put : put_in frame (Some (place, size)) content ≡ h.head ++ (content ++ h.rest)
  put = λ i. front i ++ (content ++ back i)

  frame_begins : BeginsWith frame 0x30 h.before.1
  frame_begins = record {
    head = h.before.3.0;
    rest = h.before.2 ++ h.rest;
    text =
        h.text ∙ ap (λ (o : List ℕ). o ++ h.rest) (h.before.5 ∙ ap (λ (o : List ℕ). o ++ h.before.2) h.before.3.2)
        ∙ append_assoc (head_octets 0x30 h.before.1) h.before.2 h.rest;
  }

  item_begins : BeginsWith (put_in frame (Some (place, size)) content) 0x30 h.before.1
  item_begins = record {
    head = h.before.3.0;
    rest = h.before.2 ++ (content ++ h.rest);
    text =
        put
        ∙ ap (λ (o : List ℕ). o ++ (content ++ h.rest)) (h.before.5 ∙ ap (λ (o : List ℕ). o ++ h.before.2) h.before.3.2)
        ∙ append_assoc (head_octets 0x30 h.before.1) h.before.2 (content ++ h.rest);
  }

  moved : (one other : List ℕ) → BeginsWith one 0x30 h.before.1 → BeginsWith other 0x30 h.before.1 → (tag n : ℕ)
      → BeginsWith one tag n → BeginsWith other tag n
  moved one other is also tag n begins =
      let same = one_head one tag n 0x30 h.before.1 begins is in
      subst (λ t. BeginsWith other t n) (sym same.0) (subst (BeginsWith other 0x30) (sym same.1) also)

  pub begins_like : length content ≡ size → BeginsLike frame size (put_in frame (Some (place, size)) content)
  begins_like count = record {
    count =
        omega (
          arith,
          count,
          ap length put,
          ap length h.text,
          length-append h.head (content ++ h.rest),
          length-append content h.rest,
          length-append h.head h.rest,
        );
    heads = λ tag n. (
      moved frame (put_in frame (Some (place, size)) content) frame_begins item_begins tag n,
      moved (put_in frame (Some (place, size)) content) frame item_begins frame_begins tag n,
    );
  }
