use Rattle.std.proofs.Common.{◌≡◌, ℕ, List, [], ◌∷◌, Some, slice_get, inl, inr, sym, subst, true≢false, refl}
use Rattle.der_core.specs.Asked.{Asked, asked, AllHold, FirstFail}
use Rattle.der_core.proofs.AskedLemmas.{first_behind, all_hold}
use Rattle.cert_fields.specs.Anchor.{TrustAnchor}
use Rattle.cert_fields.specs.Certificate.{Certificate}
use Rattle.cms_signed.specs.Cut.{firmware_package}
use Rattle.cms_signed.specs.Message.{Message}
use Rattle.constraint_meet.specs.Grants.{Members, GrantPermits}
use Rattle.der_core.specs.Attribute.{Attribute}
use Rattle.hss_chain.specs.Chains.{HssHolds}
use Rattle.hss_chain.specs.Keys.{IsHssKey, hss_key_text}
use Rattle.hss_chain.specs.declared.key.HssKey.{HssKey}
use Rattle.cms_signed.specs.Signer.{to_be_signed}
use Rattle.path_check.specs.Checked.{PathHandsOn, PathPermits, IsChecked}
use Rattle.path_check.specs.Conditions.{members_at, path_conditions}
use Rattle.judge_core.specs.Conditions.{signature_conditions, IsSignedUnder}
use Rattle.judge_core.proofs.KeyLemmas.{one_key_above}
use Rattle.judge_core.proofs.signature.check.Goals as goal

-- the conditions 28 and 29
abbrev ends : TrustAnchor → List Certificate → Message → List Asked
ends anchor members m =
    asked 28 (PathPermits firmware_package m.signer.signed_attributes anchor members)
    ∷ asked 29 (IsSignedUnder anchor members m)
    ∷ []

-- a path that was checked, over a message
module _ (at : ℕ) (anchor : TrustAnchor) (members : List Certificate) (m : Message) (handed : PathHandsOn)
    (checked : IsChecked at anchor members handed)
    (one_text_each : (a b : HssKey) → IsHssKey a → IsHssKey b → hss_key_text a ≡ hss_key_text b → a ≡ b) where
  not_permitted : (n : ℕ) → n ≡ 28 → (GrantPermits firmware_package m.signer.signed_attributes handed.effective → ⊥)
      → FirstFail (signature_conditions at anchor members m) n
  not_permitted n is not =
      first_behind (path_conditions at anchor members) (ends anchor members m) n checked.sound
      (inl (is, λ permits. not ((checked.handed_on.permits firmware_package m.signer.signed_attributes).1 permits)))

  not_signed : (n : ℕ) → n ≡ 29 → GrantPermits firmware_package m.signer.signed_attributes handed.effective
      → (HssHolds handed.key (to_be_signed m.signer.signed_attributes) m.signer.signature → ⊥)
      → FirstFail (signature_conditions at anchor members m) n
  not_signed n is granted not =
      first_behind (path_conditions at anchor members) (ends anchor members m) n checked.sound
      (inr (
        (checked.handed_on.permits firmware_package m.signer.signed_attributes).0 granted,
        inl (
          is,
          λ signed.
              not (subst (λ key. HssHolds key (to_be_signed m.signer.signed_attributes) m.signer.signature)
              (one_key_above one_text_each anchor members signed.0 handed.key signed.1 checked.handed_on.key) signed.2),
        ),
      ))

  signed_under : GrantPermits firmware_package m.signer.signed_attributes handed.effective
      → HssHolds handed.key (to_be_signed m.signer.signed_attributes) m.signer.signature
      → AllHold (signature_conditions at anchor members m)
  signed_under granted holds =
      all_hold (path_conditions at anchor members) (ends anchor members m) checked.sound (
        (checked.handed_on.permits firmware_package m.signer.signed_attributes).0 granted,
        ((handed.key, checked.handed_on.key, holds), tt),
      )

-- the same anchor, among those that are lent
among : (anchors these : List TrustAnchor) (place : ℕ) (anchor : TrustAnchor) → these ≡ anchors
    → slice_get anchors place ≡ Some anchor → slice_get these place ≡ Some anchor
among anchors these place anchor same is = subst (λ xs. slice_get xs place ≡ Some anchor) (sym same) is

-- what the view shows is what the message says
granted_of : (content : List ℕ) (attributes said : List Attribute) (members : Members) → content ≡ firmware_package
    → attributes ≡ said → GrantPermits content attributes members → GrantPermits firmware_package said members
granted_of content attributes said members content_is said_is granted =
    subst (λ a. GrantPermits firmware_package a members) said_is
    (subst (λ k. GrantPermits k attributes members) content_is granted)

granted_back : (content : List ℕ) (attributes said : List Attribute) (members : Members) → content ≡ firmware_package
    → attributes ≡ said → GrantPermits firmware_package said members → GrantPermits content attributes members
granted_back content attributes said members content_is said_is granted =
    subst (λ a. GrantPermits content a members) (sym said_is)
    (subst (λ k. GrantPermits k said members) (sym content_is) granted)

pub returns-then-not-permits-clause-fails : goal.returns-then-not-permits-clause-fails
returns-then-not-permits-clause-fails c = λ m anchor shows is.
    let handed : PathHandsOn = record {
      key = c.checked.inside.key;
      effective = c.checked.inside.effective;
      anchor_key_id = c.checked.inside.anchor_key_id;
    } in
    let members = members_at c.args.certs.now c.args.path.now.members in
    let checked : IsChecked c.args.at anchor members handed =
    subst (IsChecked c.args.at anchor members) (sym c.checked.view_is)
    (c.in-Ok.ensures.ok anchor
    (among c.args.owner.now.anchors c.as_slice.result.now c.args.path.now.anchor anchor c.as_slice.ensures.anchors is)) in
    not_permitted c.args.at anchor members m handed checked c.keys_have_one_text_each.ensures
    c.numbered.result c.numbered.ensures.value
    (λ granted. true≢false (sym (c.if-not-permits.ensures.permits.1
    (granted_back c.args.content.now c.args.view.now.attrs m.signer.signed_attributes handed.effective c.requires.content
    shows.attrs granted))))

pub returns-then-not-is_signed_by-clause-fails : goal.returns-then-not-is_signed_by-clause-fails
returns-then-not-is_signed_by-clause-fails c = λ m anchor shows is.
    let handed : PathHandsOn = record {
      key = c.checked.inside.key;
      effective = c.checked.inside.effective;
      anchor_key_id = c.checked.inside.anchor_key_id;
    } in
    let members = members_at c.args.certs.now c.args.path.now.members in
    let checked : IsChecked c.args.at anchor members handed =
    subst (IsChecked c.args.at anchor members) (sym c.checked.view_is)
    (c.in-Ok.ensures.ok anchor
    (among c.args.owner.now.anchors c.as_slice.result.now c.args.path.now.anchor anchor c.as_slice.ensures.anchors is)) in
    not_signed c.args.at anchor members m handed checked c.keys_have_one_text_each.ensures
    c.numbered-then-not-is_signed_by.result c.numbered-then-not-is_signed_by.ensures.value
    (granted_of c.args.content.now c.args.view.now.attrs m.signer.signed_attributes handed.effective c.requires.content
    shows.attrs (c.if-not-permits.ensures.permits.0 refl))
    (λ holds. true≢false (sym ((c.if-not-is_signed_by.ensures.signed m shows).1 holds)))

pub returns-clause-ok : goal.returns-clause-ok
returns-clause-ok c = λ m anchor shows is.
    let handed : PathHandsOn = record {
      key = c.checked.inside.key;
      effective = c.checked.inside.effective;
      anchor_key_id = c.checked.inside.anchor_key_id;
    } in
    let members = members_at c.args.certs.now c.args.path.now.members in
    let checked : IsChecked c.args.at anchor members handed =
    subst (IsChecked c.args.at anchor members) (sym c.checked.view_is)
    (c.in-Ok.ensures.ok anchor
    (among c.args.owner.now.anchors c.as_slice.result.now c.args.path.now.anchor anchor c.as_slice.ensures.anchors is)) in (
      signed_under c.args.at anchor members m handed checked c.keys_have_one_text_each.ensures
          (granted_of c.args.content.now c.args.view.now.attrs m.signer.signed_attributes handed.effective c.requires.content
          shows.attrs (c.if-not-permits.ensures.permits.0 refl))
          ((c.if-not-is_signed_by.ensures.signed m shows).0 refl),
      checked.handed_on.anchor_key_id,
    )
