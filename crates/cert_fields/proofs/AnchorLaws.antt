-- Trust anchors are what they are made of.
use Rattle.std.proofs.Common.{◌≡◌, ◌↔◌, ℕ, ◌<◌, ◌≤◌, Bool, false, eqb, List, length, Option, Some, None, refl, sym, ap}
use Rattle.std.proofs.Common.{subst, ◌∙◌, is_some, Bor}
use Rattle.std.specs.Prelude.{IsTrue, IfSome, option_map}
use Rattle.std.proofs.lemmas.Bool.{false≢true}
use Rattle.std.proofs.lemmas.Option.{none-some}
use Rattle.der_core.specs.Element.{AreOctets, IsTagged}
use Rattle.der_core.specs.Reads.{Answers}
use Rattle.der_core.specs.Shapes.{IsWhole, alone}
use Rattle.der_core.proofs.Lists.{some_left}
use Rattle.der_core.proofs.Numbers.{some_is}
use Rattle.der_core.proofs.Shapes.{alone-whole}
use Rattle.cert_fields.specs.Anchor.{TrustAnchor, HasParts}
use Rattle.cert_fields.specs.AnchorView.{kept_constraints, anchor_view, MayConstrain}
use Rattle.cert_fields.specs.CertificateReading.{sequence_at}
use Rattle.cert_fields.specs.Constraints.{ContentConstraint, constraints_text, AreConstraints}
use Rattle.cert_fields.proofs.CertificateLaws.{sequence-front}
use Rattle.cert_fields.proofs.ConstraintLaws.{kept_constraints_text, one_constraints_text}

-- ---- a name

name-whole : IsWhole (λ (octets : List ℕ). octets) (IsTagged 0x30) (alone sequence_at)
name-whole = alone-whole sequence-front

pub name_told : (octets : List ℕ) (read : Option (Bor (List ℕ))) (is : Bool) → AreOctets octets
    → Answers (λ name. name.now) read (alone sequence_at octets) → is ≡ is_some read → IsTrue is ↔ IsTagged 0x30 octets
name_told octets None is octet answers same = (
  λ wrong. absurd (false≢true (sym same ∙ wrong)),
  λ h. absurd (none-some octets (sym answers ∙ name-whole.again octets h)),
)
name_told octets (Some name) is octet answers same = (
  λ _. let t = name-whole.takes octets name.now octet answers in subst (IsTagged 0x30) (sym t.1) t.0,
  λ _. same,
)

-- ---- constraints

pub kept_where : (text : Option (List ℕ)) → MayConstrain text
    → IfSome (option_map kept_constraints text) AreConstraints
    × (option_map constraints_text (option_map kept_constraints text) ≡ text)
kept_where text (entries, valid, is) =
    subst (λ (t : Option (List ℕ)). IfSome (option_map kept_constraints t) AreConstraints
    × (option_map constraints_text (option_map kept_constraints t) ≡ t)) is (by_case entries valid)
  where
    by_case : (entries : Option (List ContentConstraint)) → IfSome entries AreConstraints
        → IfSome (option_map kept_constraints (option_map constraints_text entries)) AreConstraints
        × (option_map constraints_text (option_map kept_constraints (option_map constraints_text entries))
        ≡ option_map constraints_text entries)
    by_case None h = (tt, refl)
    by_case (Some e) h =
        let kept = kept_constraints_text e h in (
          subst AreConstraints (sym kept) h,
          ap (λ (x : List ContentConstraint). Some (constraints_text x)) kept,
        )

one_constraints : (these those : Option (List ContentConstraint)) → IfSome these AreConstraints
    → IfSome those AreConstraints → option_map constraints_text these ≡ option_map constraints_text those
    → these ≡ those
one_constraints None None h k e = refl
one_constraints None (Some those) h k e = absurd (none-some (constraints_text those) e)
one_constraints (Some these) None h k e = absurd (none-some (constraints_text these) (sym e))
one_constraints (Some these) (Some those) h k e =
    ap (λ (x : List ContentConstraint). Some x)
    (one_constraints_text these those h k (some_is (constraints_text these) (constraints_text those) e))

-- ---- the parts

pub not_empty : (id octets : List ℕ) (empty : Bool) → octets ≡ id → empty ≡ eqb (length octets) 0 → empty ≡ false
    → 0 < length id
not_empty id octets empty same is some =
    subst (λ (o : List ℕ). 0 < length o) same (some_left octets empty is some)

pub has_parts : (name id key : List ℕ) (text : Option (List ℕ)) → IsTagged 0x30 name → 0 < length id → length id ≤ 64
    → length key ≡ 60 → MayConstrain text → HasParts (anchor_view name id key text) name id key text
has_parts name id key text is some most size may = record {
  anchor = record {
    subject = is;
    key_id = record { some = some; most = most };
    key = size;
    constraints = (kept_where text may).0;
  };
  subject = refl;
  key_id = refl;
  key = refl;
  constraints = (kept_where text may).1;
}

same_fields : (s s' i i' k k' : List ℕ) (c c' : Option (List ContentConstraint)) → s ≡ s' → i ≡ i' → k ≡ k' → c ≡ c'
    → (let these : TrustAnchor = record { subject = s; key_id = i; key = k; constraints = c } in
    let those : TrustAnchor = record { subject = s'; key_id = i'; key = k'; constraints = c' } in
    these ≡ those)
same_fields s s' i i' k k' c c' e1 e2 e3 e4 = rw (e1, e2, e3, e4) refl

pub same_parts : (a b : TrustAnchor) (name id key : List ℕ) (text : Option (List ℕ)) → HasParts a name id key text
    → HasParts b name id key text → a ≡ b
same_parts a b name id key text h k =
    same_fields a.subject b.subject a.key_id b.key_id a.key b.key a.constraints b.constraints
    (h.subject ∙ sym k.subject) (h.key_id ∙ sym k.key_id) (h.key ∙ sym k.key)
    (one_constraints a.constraints b.constraints h.anchor.constraints k.anchor.constraints
    (h.constraints ∙ sym k.constraints))

pub made : (a b : TrustAnchor) (name id key : List ℕ) (text : Option (List ℕ)) → HasParts a name id key text
    → (Some a ≡ Some b) ↔ HasParts b name id key text
made a b name id key text h = (
  λ e. subst (λ (x : TrustAnchor). HasParts x name id key text) (some_is a b e) h,
  λ k. ap (λ (x : TrustAnchor). Some x) (same_parts a b name id key text h k),
)
