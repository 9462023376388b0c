-- The verdict on an item, put together.
use Rattle.std.proofs.Common.{◌≡◌, ℕ, List, [], ◌∷◌, ◌++◌, length, Some, None, inl, inr, refl, sym, ap, subst, ◌∙◌, arith}
use Rattle.std.specs.List.{AllByRecursion}
use Rattle.sha2.specs.Sha256.{sha256}
use Rattle.der_core.specs.Asked.{asked, AllHold, FirstFail}
use Rattle.der_core.proofs.AskedLemmas.{first_front, first_behind, all_hold}
use Rattle.cert_fields.specs.Anchor.{TrustAnchor}
use Rattle.cms_signed.specs.Cut.{firmware_package}
use Rattle.cms_signed.specs.Message.{Message, IsMessage, message_text}
use Rattle.cms_signed.specs.Tail.{signed_conditions}
use Rattle.cms_signed.specs.SignedAnswer.{Shows, IsCause}
use Rattle.cms_signed.specs.declared.signed.SignedFault.{SignedFault}
use Rattle.cms_signed.specs.declared.signed.SignedFault.TheVariants as signed
use Rattle.cms_signed.specs.declared.signed.SignedView.{SignedView}
use Rattle.hss_chain.specs.declared.key.HssKey.{HssKey}
use Rattle.module_record.specs.ModuleRecord.{IsKeptAnchor}
use Rattle.package_attrs.specs.Attributes.{Describes}
use Rattle.package_attrs.specs.Description.{Description, description}
use Rattle.package_attrs.specs.Image.{IsImage}
use Rattle.path_check.specs.HssCertificate.{IsAnchorKey}
use Rattle.judge_core.specs.declared.content.Content.{Content}
use Rattle.judge_core.specs.declared.verdict.CutVerdict.{CutVerdict}
use Rattle.judge_core.specs.declared.verdict.CutVerdict.TheVariants as cuts
use Rattle.judge_core.specs.FaultOf.{IfFails}
use Rattle.judge_core.specs.Values.{Values, Spells}
use Rattle.judge_core.specs.Conditions.{size_conditions, octet_conditions}
use Rattle.judge_core.specs.Verdicts.{Bench, Verdict, refuses, Judges, FailsLater}
use Rattle.judge_core.specs.Views.{cut_view}
use Rattle.judge_core.specs.Steps.{BeginsLike, IsSeen, JudgesMessage, Stops, values_of}

-- the keys of a module's anchors
pub anchor_keys : (anchors : List TrustAnchor) → AllByRecursion IsKeptAnchor anchors
    → AllByRecursion (λ anchor. (key : HssKey) × IsAnchorKey anchor key) anchors
anchor_keys [] kept = tt
anchor_keys (anchor ∷ more) kept =
    ((kept.0.key.0, record { valid = kept.0.key.1; text = kept.0.key.2 }), anchor_keys more kept.1)

-- an item begins as itself
pub like_itself : (item : List ℕ) → BeginsLike item 0 item
like_itself item = record { count = omega arith; heads = λ tag size. (λ b. b, λ b. b) }

module _ (b : Bench) (item : List ℕ) where
  -- one of the conditions 1 and 2 fails
  pub fails_size : (n : ℕ) → FirstFail (size_conditions item) n → Judges b item (refuses n None)
  fails_size n fails =
      first_front (size_conditions item)
      (signed_conditions firmware_package item ++ asked 19 ((v : Values) × Spells item v) ∷ []) n fails

  module _ (sizes : AllHold (size_conditions item)) where
    -- one of the conditions 3 to 18 does
    pub fails_signed : (n : ℕ) → FirstFail (signed_conditions firmware_package item) n → Judges b item (refuses n None)
    fails_signed n fails =
        first_behind (size_conditions item)
        (signed_conditions firmware_package item ++ asked 19 ((v : Values) × Spells item v) ∷ []) n sizes
        (first_front (signed_conditions firmware_package item) (asked 19 ((v : Values) × Spells item v) ∷ []) n fails)

    -- the same as it is answered
    pub fails_read : (fault : SignedFault) (verdict : Verdict) → IsCause firmware_package item fault
        → IfFails fault (λ number. verdict ≡ refuses number None) → Judges b item verdict
    fails_read (signed.Fails n) verdict fails is = subst (Judges b item) (sym is) (fails_signed n fails)
    fails_read signed.Memory verdict fails is = absurd is

    module _ (held : AllHold (signed_conditions firmware_package item)) (m : Message)
        (valid : IsMessage firmware_package m) (text : item ≡ message_text m)
        (one_message : (kind other : List ℕ) (m n : Message) → IsMessage kind m → IsMessage other n
        → message_text m ≡ message_text n → m ≡ n) where
      spells : (d : Description) → Describes m.signer.signed_attributes d → Spells item (values_of m d)
      spells d describes = record { valid = valid; text = text; described = describes }

      octets : (d : Description) → Describes m.signer.signed_attributes d → AllHold (octet_conditions item)
      octets d describes =
          all_hold (size_conditions item)
          (signed_conditions firmware_package item ++ asked 19 ((v : Values) × Spells item v) ∷ []) sizes
          (all_hold (signed_conditions firmware_package item) (asked 19 ((v : Values) × Spells item v) ∷ []) held
          ((values_of m d, spells d describes), tt))

      -- condition 19 does
      fails_described : (n : ℕ) → n ≡ 19 → ((d : Description) → Describes m.signer.signed_attributes d → ⊥)
          → Judges b item (refuses n None)
      fails_described n is none =
          first_behind (size_conditions item)
          (signed_conditions firmware_package item ++ asked 19 ((v : Values) × Spells item v) ∷ []) n sizes
          (first_behind (signed_conditions firmware_package item) (asked 19 ((v : Values) × Spells item v) ∷ []) n held
          (inl (is, λ x. none x.0.described (described x.0 x.1))))
        where
          described : (v : Values) → Spells item v → Describes m.signer.signed_attributes v.described
          described v s =
              let same : v.message ≡ m =
              one_message firmware_package firmware_package v.message m s.valid valid (sym s.text ∙ text) in
              subst (λ (k : Message). Describes k.signer.signed_attributes v.described) same s.described

      module _ (image : List ℕ) (image_is : IsImage m.content image) where
        later : (d : Description) (n : ℕ) → Stops b (values_of m d) image n → FailsLater b (values_of m d) n
        later d n (inl fails) = inl fails
        later d n (inr stops) =
            inr (stops.0, (image, stops.1.0, stops.1.1, image_is, stops.1.2, stops.1.3))

        -- the verdict on the message is that on the item
        pub judged : (verdict : CutVerdict) → JudgesMessage b m image verdict
            → Judges b item (cut_view m.content image verdict)
        judged (cuts.Accept p key_id) said =
            let passes = said.1 in (
              values_of m (description p),
              passes.anchor,
              record {
                octets = octets (description p) said.0;
                spells = spells (description p) said.0;
                values = passes.values;
                image_is = image_is;
                members = passes.members;
                leads = passes.leads;
                others = passes.others;
              },
              refl,
              refl,
              passes.key_id_is,
            )
        judged (cuts.Refuse n None) said = fails_described n said.0 said.1
        judged (cuts.Refuse n (Some name)) said = (
          octets said.0 said.1,
          (values_of m said.0, spells said.0 said.1, later said.0 n said.2, said.3),
        )

-- what is known of a content is known of the message that has it
pub seen : (view : SignedView) (known : Content) (m : Message) (content image : List ℕ)
    → Shows view m.certificates m.signer → m.content ≡ content → known.digest ≡ sha256 content
    → IsImage content image → length image ≡ known.image → IsSeen view known m image
seen view known m content image shows same digest image_is size = record {
  shows = shows;
  digest = digest ∙ ap sha256 (sym same);
  image_is = subst (λ c. IsImage c image) (sym same) image_is;
  size = size;
}
