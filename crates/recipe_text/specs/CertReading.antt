-- The reading of a certificate recipe, in the order in which the code reads. Nothing here has to be believed.
use Rattle.std.specs.Prelude.{◌≡◌, ℕ, Bool, List, Option, Some, None, if◌then◌else◌, codes, option_map}
use Rattle.std.specs.Option.{option_to_list}
use Rattle.recipe_text.specs.declared.cert_draft.CertDraft.{CertDraft}
use Rattle.recipe_text.specs.declared.cert_line.CertKind.{CertKind}
use Rattle.recipe_text.specs.declared.cert_line.CertKind.TheVariants as kinds
use Rattle.recipe_text.specs.CertRecipe.{CertEntry, CertParts, IsCertFit, IsCertValue, cert_part}
use Rattle.recipe_text.specs.CertRecipe.CertEntry.{Serial, Issuer, Subject, From, To, Public, SubjectKey}
use Rattle.recipe_text.specs.CertRecipe.CertEntry.{AuthorityKey, Ca, Usage, Constraint, Hardware}
use Rattle.recipe_text.specs.Reading.{is_word}
use Rattle.recipe_text.specs.Taking.{grown, Takes}

-- ---- kinds of lines

abbrev pub kind_name : CertKind → List ℕ
kind_name kinds.Serial = codes "serial"
kind_name kinds.Issuer = codes "issuer"
kind_name kinds.Subject = codes "subject"
kind_name kinds.From = codes "from"
kind_name kinds.To = codes "to"
kind_name kinds.Public = codes "public"
kind_name kinds.SubjectKey = codes "subjectkey"
kind_name kinds.AuthorityKey = codes "authoritykey"
kind_name kinds.Ca = codes "ca"
kind_name kinds.Usage = codes "usage"
kind_name kinds.Constraint = codes "constraint"
kind_name kinds.Hardware = codes "hardware"

-- the kind of the line that begins with this word
unfoldable pub kind_named : List ℕ → Option CertKind
kind_named name =
    if is_word name (codes "serial") then Some kinds.Serial
    else if is_word name (codes "issuer") then Some kinds.Issuer
    else if is_word name (codes "subject") then Some kinds.Subject
    else if is_word name (codes "from") then Some kinds.From
    else if is_word name (codes "to") then Some kinds.To
    else if is_word name (codes "public") then Some kinds.Public
    else if is_word name (codes "subjectkey") then Some kinds.SubjectKey
    else if is_word name (codes "authoritykey") then Some kinds.AuthorityKey
    else if is_word name (codes "ca") then Some kinds.Ca
    else if is_word name (codes "usage") then Some kinds.Usage
    else if is_word name (codes "constraint") then Some kinds.Constraint
    else if is_word name (codes "hardware") then Some kinds.Hardware
    else None

abbrev pub kind_of : CertEntry → CertKind
kind_of (Serial octets) = kinds.Serial
kind_of (Issuer name) = kinds.Issuer
kind_of (Subject name) = kinds.Subject
kind_of (From at) = kinds.From
kind_of (To at) = kinds.To
kind_of (Public key) = kinds.Public
kind_of (SubjectKey id) = kinds.SubjectKey
kind_of (AuthorityKey id) = kinds.AuthorityKey
kind_of (Ca authority) = kinds.Ca
kind_of (Usage uses) = kinds.Usage
kind_of (Constraint text) = kinds.Constraint
kind_of (Hardware hw_type serial) = kinds.Hardware

-- a line of this kind says this, with this text behind its first word
abbrev pub IsValueOf : CertKind → List ℕ → CertEntry → Type 0
IsValueOf kind text e = (kind_of e ≡ kind) × IsCertValue text e

-- ---- what is said so far

-- with what one more line says
abbrev pub grow : CertParts → CertEntry → CertParts
grow p e = record {
  serials = grown p.serials (cert_part e).serials;
  issuers = grown p.issuers (cert_part e).issuers;
  subjects = grown p.subjects (cert_part e).subjects;
  froms = grown p.froms (cert_part e).froms;
  tos = grown p.tos (cert_part e).tos;
  keys = grown p.keys (cert_part e).keys;
  subject_keys = grown p.subject_keys (cert_part e).subject_keys;
  authority_keys = grown p.authority_keys (cert_part e).authority_keys;
  authorities = grown p.authorities (cert_part e).authorities;
  uses = grown p.uses (cert_part e).uses;
  constraints = grown p.constraints (cert_part e).constraints;
  hardware = grown p.hardware (cert_part e).hardware;
}

-- what a draft keeps
abbrev pub draft_parts : CertDraft → CertParts
draft_parts d = record {
  serials = option_to_list (option_map (λ o. o.items) d.serial);
  issuers = option_to_list (option_map (λ o. o.items) d.issuer);
  subjects = option_to_list (option_map (λ o. o.items) d.subject);
  froms = option_to_list d.from;
  tos = option_to_list d.to;
  keys = option_to_list d.key;
  subject_keys = option_to_list d.subject_key;
  authority_keys = option_to_list d.authority_key;
  authorities = option_to_list d.authority;
  uses = option_to_list d.uses;
  constraints = option_to_list (option_map (λ o. o.items) d.constraints);
  hardware = option_to_list d.hardware;
}

-- the draft takes a line that says such an entry, or refuses it
abbrev pub TakesCert : (CertEntry → Type 0) → CertDraft → CertDraft → Bool → Type 0
TakesCert IsSaid old new good = Takes IsSaid IsCertFit grow (draft_parts old) (draft_parts new) good
