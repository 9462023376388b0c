use Rattle.std.proofs.Common.{◌≡◌, ℕ, List, [], ◌++◌, true, take, drop, refl, ap, sym, ◌∙◌, subst}
use Rattle.std.proofs.lemmas.List.{append-nil}
use Rattle.lms_verify.specs.Keys.{lms_key_text}
use Rattle.lms_verify.specs.Signatures.{LmsHolds}
use Rattle.hss_chain.proofs.LevelLemmas.{signed_parts, cut}
use Rattle.hss_chain.proofs.check.next_key.Goals as goal

pub returns-in_default-clause-found : goal.returns-in_default-clause-found
returns-in_default-clause-found c = λ next rest signs.
    let key = c.args.key.now in
    let parts = signed_parts key next c.args.octets.now rest signs in
    let behind = c.split_at.ensures.back
    ∙ ap (λ (n : ℕ). drop n c.args.octets.now) c.signature_size-size.ensures.value in
    let text = c.split_at-2.ensures.front ∙ ap (take 56) behind ∙ parts.text in
    let there = c.in_default.ensures.found next signs.valid text in
    cc there

pub returns-then-lms_check-clause-read : goal.returns-then-lms_check-clause-read
returns-then-lms_check-clause-read c =
    let key = c.args.key.now in
    let text-is = c.in-Some.ensures.read in
    let P : List ℕ → Type 0 = λ message. LmsHolds key message c.split_at.result.0.now in
    record {
      signature = c.split_at.result.0.now;
      text = cut c.args.octets.now c.signature_size-size.result
          ∙ rw (← c.split_at.ensures.back, ← c.split_at.ensures.front, ← c.split_at-2.ensures.front, ← c.split_at-2.ensures.back, text-is) refl;
      valid = c.in-Some.ensures.valid;
      holds = subst P (append-nil c.split_at-2.result.0.now ∙ text-is) (c.lms_check.ensures.holds.0 c.if-lms_check.true);
    }

pub returns-then-lms_check-clause-found : goal.returns-then-lms_check-clause-found
returns-then-lms_check-clause-found c = λ next rest signs.
    let key = c.args.key.now in
    let parts = signed_parts key next c.args.octets.now rest signs in
    let behind = c.split_at.ensures.back
    ∙ ap (λ (n : ℕ). drop n c.args.octets.now) c.signature_size-size.ensures.value in
    let text = c.split_at-2.ensures.front ∙ ap (take 56) behind ∙ parts.text in
    let there = c.in-Some.ensures.found next signs.valid text in
    (cc there, c.split_at-2.ensures.back ∙ ap (drop 56) behind ∙ parts.rest)

pub returns-clause-found : goal.returns-clause-found
returns-clause-found c = λ next rest signs.
    let key = c.args.key.now in
    let octets = c.args.octets.now in
    let parts = signed_parts key next octets rest signs in
    let size-is = c.signature_size-size.ensures.value in
    let behind = c.split_at.ensures.back ∙ ap (λ (n : ℕ). drop n octets) size-is in
    let text : c.split_at-2.result.0.now ++ [] ≡ lms_key_text next =
    append-nil c.split_at-2.result.0.now ∙ c.split_at-2.ensures.front ∙ ap (take 56) behind ∙ parts.text in
    let signature : c.split_at.result.0.now ≡ signs.signature =
    c.split_at.ensures.front ∙ ap (λ (n : ℕ). take n octets) size-is ∙ parts.signature in
    let P : List ℕ → Type 0 = λ message. LmsHolds key message signs.signature in
    let Q : List ℕ → Type 0 = λ signed. LmsHolds key (c.split_at-2.result.0.now ++ []) signed in
    let yes : c.lms_check.result ≡ true =
    c.lms_check.ensures.holds.1 (subst Q (sym signature) (subst P (sym text) signs.holds)) in
    let no = c.if-lms_check.false in
    cc
