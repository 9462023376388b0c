use Rattle.std.proofs.Common.{option_map, refl, ap}
use Rattle.recipe_text.specs.CertReading.{draft_parts}
use Rattle.recipe_text.specs.declared.cert_line.CertKind.TheVariants as kinds
use Rattle.recipe_text.proofs.CertPlaces.{at_kind, octets, fill_serial, fill_issuer, fill_subject, fill_from, fill_to}
use Rattle.recipe_text.proofs.CertPlaces.{fill_public, fill_subject_key, fill_authority_key, fill_ca, fill_usage}
use Rattle.recipe_text.proofs.CertPlaces.{fill_constraint, fill_hardware}
use Rattle.recipe_text.proofs.Taking.{once_seen}
use Rattle.recipe_text.proofs.cert_draft.CertDraft.take_value.Goals as goal

pub returns-in_ok-serial_in-in-Serial : goal.returns-in_ok-serial_in-in-Serial
returns-in_ok-serial_in-in-Serial c = record {
  takes = at_kind c.args.kind kinds.Serial c.args.text.now _ _ _ c.in-Serial.is
      (fill_serial (draft_parts c.args.self.now) c.requires.fit c.args.text.now (option_map octets c.args.self.now.serial)
      (option_map octets c.in_ok-serial_in-in-Serial.field-0) (option_map octets c.fill.new.place) c.fill.result refl
      (once_seen octets c.args.self.now.serial c.in_ok-serial_in-in-Serial.field-0 c.fill.result c.fill.ensures.fills)
      (λ is. ap (option_map octets) (c.fill.ensures.filled is)) c.in_ok-serial_in-in-Serial.ensures.exact);
}

pub returns-in_ok-name_in-in-Issuer : goal.returns-in_ok-name_in-in-Issuer
returns-in_ok-name_in-in-Issuer c = record {
  takes = at_kind c.args.kind kinds.Issuer c.args.text.now _ _ _ c.in-Issuer.is
      (fill_issuer (draft_parts c.args.self.now) c.requires.fit c.args.text.now (option_map octets c.args.self.now.issuer)
      (option_map octets c.in_ok-name_in-in-Issuer.field-0) (option_map octets c.fill-in-Issuer.new.place) c.fill-in-Issuer.result refl
      (once_seen octets c.args.self.now.issuer c.in_ok-name_in-in-Issuer.field-0 c.fill-in-Issuer.result c.fill-in-Issuer.ensures.fills)
      (λ is. ap (option_map octets) (c.fill-in-Issuer.ensures.filled is)) c.in_ok-name_in-in-Issuer.ensures.exact);
}

pub returns-in_ok-name_in-in-Subject : goal.returns-in_ok-name_in-in-Subject
returns-in_ok-name_in-in-Subject c = record {
  takes = at_kind c.args.kind kinds.Subject c.args.text.now _ _ _ c.in-Subject.is
      (fill_subject (draft_parts c.args.self.now) c.requires.fit c.args.text.now (option_map octets c.args.self.now.subject)
      (option_map octets c.in_ok-name_in-in-Subject.field-0) (option_map octets c.fill-in-Subject.new.place) c.fill-in-Subject.result refl
      (once_seen octets c.args.self.now.subject c.in_ok-name_in-in-Subject.field-0 c.fill-in-Subject.result c.fill-in-Subject.ensures.fills)
      (λ is. ap (option_map octets) (c.fill-in-Subject.ensures.filled is)) c.in_ok-name_in-in-Subject.ensures.exact);
}

pub returns-in-From : goal.returns-in-From
returns-in-From c = record {
  takes = at_kind c.args.kind kinds.From c.args.text.now _ _ _ c.in-From.is
      (fill_from (draft_parts c.args.self.now) c.requires.fit c.args.text.now c.args.self.now.from c.read_decimal_moment.result
      c.fill-in-From.new.place c.fill-in-From.result refl c.fill-in-From.ensures.fills c.fill-in-From.ensures.filled c.read_decimal_moment.ensures.spelled);
}

pub returns-in-To : goal.returns-in-To
returns-in-To c = record {
  takes = at_kind c.args.kind kinds.To c.args.text.now _ _ _ c.in-To.is
      (fill_to (draft_parts c.args.self.now) c.requires.fit c.args.text.now c.args.self.now.to c.read_decimal_moment-in-To.result
      c.fill-in-To.new.place c.fill-in-To.result refl c.fill-in-To.ensures.fills c.fill-in-To.ensures.filled c.read_decimal_moment-in-To.ensures.spelled);
}

pub returns-in-Public : goal.returns-in-Public
returns-in-Public c = record {
  takes = at_kind c.args.kind kinds.Public c.args.text.now _ _ _ c.in-Public.is
      (fill_public (draft_parts c.args.self.now) c.requires.fit c.args.text.now c.args.self.now.key c.hss_key_in.result
      c.fill-in-Public.new.place c.fill-in-Public.result refl c.fill-in-Public.ensures.fills c.fill-in-Public.ensures.filled c.hss_key_in.ensures.exact);
}

pub returns-in_ok-hex64_in-in-SubjectKey : goal.returns-in_ok-hex64_in-in-SubjectKey
returns-in_ok-hex64_in-in-SubjectKey c = record {
  takes = at_kind c.args.kind kinds.SubjectKey c.args.text.now _ _ _ c.in-SubjectKey.is
      (fill_subject_key (draft_parts c.args.self.now) c.requires.fit c.args.text.now c.args.self.now.subject_key c.in_ok-hex64_in-in-SubjectKey.field-0
      c.fill-in-SubjectKey.new.place c.fill-in-SubjectKey.result refl c.fill-in-SubjectKey.ensures.fills c.fill-in-SubjectKey.ensures.filled c.in_ok-hex64_in-in-SubjectKey.ensures.exact);
}

pub returns-in_ok-hex64_in-in-AuthorityKey : goal.returns-in_ok-hex64_in-in-AuthorityKey
returns-in_ok-hex64_in-in-AuthorityKey c = record {
  takes = at_kind c.args.kind kinds.AuthorityKey c.args.text.now _ _ _ c.in-AuthorityKey.is
      (fill_authority_key (draft_parts c.args.self.now) c.requires.fit c.args.text.now c.args.self.now.authority_key c.in_ok-hex64_in-in-AuthorityKey.field-0
      c.fill-in-AuthorityKey.new.place c.fill-in-AuthorityKey.result refl c.fill-in-AuthorityKey.ensures.fills c.fill-in-AuthorityKey.ensures.filled c.in_ok-hex64_in-in-AuthorityKey.ensures.exact);
}

pub returns-in-Ca : goal.returns-in-Ca
returns-in-Ca c = record {
  takes = at_kind c.args.kind kinds.Ca c.args.text.now _ _ _ c.in-Ca.is
      (fill_ca (draft_parts c.args.self.now) c.requires.fit c.args.text.now c.args.self.now.authority c.authority_in.result
      c.fill-in-Ca.new.place c.fill-in-Ca.result refl c.fill-in-Ca.ensures.fills c.fill-in-Ca.ensures.filled c.authority_in.ensures.exact);
}

pub returns-in-Usage : goal.returns-in-Usage
returns-in-Usage c = record {
  takes = at_kind c.args.kind kinds.Usage c.args.text.now _ _ _ c.in-Usage.is
      (fill_usage (draft_parts c.args.self.now) c.requires.fit c.args.text.now c.args.self.now.uses c.uses_in.result
      c.fill-in-Usage.new.place c.fill-in-Usage.result refl c.fill-in-Usage.ensures.fills c.fill-in-Usage.ensures.filled c.uses_in.ensures.exact);
}

pub returns-in_ok-constraints_in-in-Constraint : goal.returns-in_ok-constraints_in-in-Constraint
returns-in_ok-constraints_in-in-Constraint c = record {
  takes = at_kind c.args.kind kinds.Constraint c.args.text.now _ _ _ c.in-Constraint.is
      (fill_constraint (draft_parts c.args.self.now) c.requires.fit c.args.text.now (option_map octets c.args.self.now.constraints)
      (option_map octets c.in_ok-constraints_in-in-Constraint.field-0) (option_map octets c.fill-in-Constraint.new.place) c.fill-in-Constraint.result refl
      (once_seen octets c.args.self.now.constraints c.in_ok-constraints_in-in-Constraint.field-0 c.fill-in-Constraint.result c.fill-in-Constraint.ensures.fills)
      (λ is. ap (option_map octets) (c.fill-in-Constraint.ensures.filled is)) c.in_ok-constraints_in-in-Constraint.ensures.exact);
}

pub returns-in_ok-hardware_in-in-Hardware : goal.returns-in_ok-hardware_in-in-Hardware
returns-in_ok-hardware_in-in-Hardware c = record {
  takes = at_kind c.args.kind kinds.Hardware c.args.text.now _ _ _ c.in-Hardware.is
      (fill_hardware (draft_parts c.args.self.now) c.requires.fit c.args.text.now c.args.self.now.hardware c.in_ok-hardware_in-in-Hardware.field-0
      c.fill-in-Hardware.new.place c.fill-in-Hardware.result refl c.fill-in-Hardware.ensures.fills c.fill-in-Hardware.ensures.filled c.in_ok-hardware_in-in-Hardware.ensures.exact);
}
