-- The conditions 20 to 41, put together.
use Rattle.std.proofs.Common.{◌≡◌, ℕ, List, Some, slice_get, inl, inr, refl, ap, subst, ◌∙◌, arith}
use Rattle.std.proofs.lemmas.Option.{slice_get_cases}
use Rattle.der_core.specs.Asked.{AllHold, FirstFail}
use Rattle.der_core.proofs.AskedLemmas.{first_front, first_behind, all_hold}
use Rattle.cert_fields.specs.Anchor.{TrustAnchor}
use Rattle.cert_fields.specs.Certificate.{Certificate}
use Rattle.cert_fields.specs.Sid.{sid_view, SignerIdentifier}
use Rattle.cms_signed.specs.Message.{Message}
use Rattle.cms_signed.specs.SignedAnswer.{Shows}
use Rattle.cms_signed.specs.declared.signed.SignedView.{SignedView}
use Rattle.config_table.specs.State.{State}
use Rattle.config_table.specs.Stored.{Stored, lengths}
use Rattle.module_record.specs.declared.module.Module.{Module}
use Rattle.package_attrs.specs.Description.{Description}
use Rattle.path_check.specs.Conditions.{members_at}
use Rattle.path_check.specs.Paths.{PathPlaces, PathOf}
use Rattle.path_check.proofs.MemberLemmas.{anchor_within}
use Rattle.judge_core.specs.declared.fault.Fault.{Fault}
use Rattle.judge_core.specs.declared.fault.Fault.TheVariants.{Fails, Memory}
use Rattle.judge_core.specs.Conditions.{value_conditions, signature_conditions, rule_conditions, certificates_in, LeadsUp, IsPath}
use Rattle.judge_core.specs.Verdicts.{bench}
use Rattle.judge_core.specs.Steps.{Says, Passes, Stops, values_of}

-- what is told of a condition goes on
pub says : (P Q : ℕ → Type 0) (fault : Fault) → ((n : ℕ) → P n → Q n) → Says fault P → Says fault Q
says P Q (Fails n) goes told = goes n told
says P Q Memory goes told = tt

-- a path has an anchor
pub has_anchor : (certificates : List Certificate) (anchors : List TrustAnchor) (name : SignerIdentifier) (path : PathPlaces)
    → PathOf name certificates anchors path → (anchor : TrustAnchor) × (slice_get anchors path.anchor ≡ Some anchor)
has_anchor certificates anchors name path is =
    let within = anchor_within certificates anchors name path path.anchor refl is in
    elim (slice_get_cases anchors path.anchor).1 [
      | inl there ↦ (there.0, there.2)
      | inr past ↦ absurd (omega (arith, within, past.0))
    ]

module _ (owner : Module) (state : State Stored) (sequence at : ℕ) (m : Message) (d : Description) (image : List ℕ)
    (view : SignedView) (shows : Shows view m.certificates m.signer) (certificates : List Certificate)
    (kept : certificates ≡ view.certs) (path : PathPlaces)
    (is : PathOf (sid_view view.sid) certificates owner.anchors path) where
  -- the members of the path
  abbrev pub members : List Certificate
  members = members_at certificates path.members

  same_certificates : certificates ≡ certificates_in m
  same_certificates = kept ∙ shows.certs

  is_path : IsPath owner m path
  is_path =
      subst (λ sid. PathOf sid (certificates_in m) owner.anchors path) shows.sid
      (subst (λ cs. PathOf (sid_view view.sid) cs owner.anchors path) same_certificates is)

  -- the path leads up
  pub leads : (anchor : TrustAnchor) → slice_get owner.anchors path.anchor ≡ Some anchor
      → LeadsUp owner m anchor (members_at certificates path.members)
  leads anchor found = record {
    path = path;
    is_path = is_path;
    anchor_is = found;
    members_are = ap (λ cs. members_at cs path.members) same_certificates;
  }

  module _ (values : AllHold (value_conditions owner (values_of m d))) (anchor : TrustAnchor)
      (found : slice_get owner.anchors path.anchor ≡ Some anchor) where
    -- a condition of the path fails
    pub stops_at_path : (n : ℕ)
        → FirstFail (signature_conditions at anchor (members_at certificates path.members) m) n
        → Stops (bench owner state sequence at) (values_of m d) image n
    stops_at_path n fails =
        inr (
          values,
          (
            anchor,
            members_at certificates path.members,
            leads anchor found,
            first_front (signature_conditions at anchor (members_at certificates path.members) m)
                (rule_conditions owner sequence (lengths state) d image) n fails,
          ),
        )

    -- a rule of the module does
    pub stops_at_rule : (n : ℕ)
        → AllHold (signature_conditions at anchor (members_at certificates path.members) m)
        → FirstFail (rule_conditions owner sequence (lengths state) d image) n
        → Stops (bench owner state sequence at) (values_of m d) image n
    stops_at_rule n signed fails =
        inr (
          values,
          (
            anchor,
            members_at certificates path.members,
            leads anchor found,
            first_behind (signature_conditions at anchor (members_at certificates path.members) m)
                (rule_conditions owner sequence (lengths state) d image) n signed fails,
          ),
        )

    -- none does
    pub passes : (key_id : List ℕ)
        → AllHold (signature_conditions at anchor (members_at certificates path.members) m)
        → AllHold (rule_conditions owner sequence (lengths state) d image) → key_id ≡ anchor.key_id
        → Passes (bench owner state sequence at) (values_of m d) image key_id
    passes key_id signed rules key_id_is = record {
      values = values;
      anchor = anchor;
      members = members_at certificates path.members;
      leads = leads anchor found;
      others =
          all_hold (signature_conditions at anchor (members_at certificates path.members) m)
          (rule_conditions owner sequence (lengths state) d image) signed rules;
      key_id_is = key_id_is;
    }
