-- A certificate recipe has one plan, for which there is room.
use Rattle.std.proofs.Common.{◌≡◌, ℕ, ◌^◌, ◌-◌, ◌<◌, ◌≤◌, List, [], ◌∷◌, ◌++◌, length, Option, Some, None}
use Rattle.std.proofs.Common.{refl, sym, ◌∙◌, ap, subst, arith, length-append}
use Rattle.std.specs.Prelude.{IfSome, ◌↔◌, codes}
use Rattle.std.specs.Str.Parse.{AllDigits}
use Rattle.std.proofs.lemmas.Fmt.{decimal_is_IsNumeral_wide}
use Rattle.std.proofs.lemmas.Str.Parse.{digit_from_value}
use Rattle.packager.specs.declared.certificate_plan.Authority.{Authority}
use Rattle.std.specs.List.{AllByRecursion, flat_map}
use Rattle.std.proofs.lemmas.List.Concat.{flat_map-append}
use Rattle.std.specs.Option.{option_to_list}
use Rattle.std.proofs.lemmas.Option.{none-some}
use Rattle.der_core.proofs.Numbers.{some_is}
use Rattle.packager.specs.CertificatePlan.{CertificatePlan, IsShort}
use Rattle.recipe_text.specs.CertRecipe.{CertEntry, CertParts, CertRecipe, IsCertLine, IsPathWord, cert_name, cert_part, plan_parts}
use Rattle.recipe_text.specs.Words.{Exactly, IsNumber}
use Rattle.recipe_text.specs.CertRecipe.{cert_rules, IsCertWhole}
use Rattle.recipe_text.specs.CertRecipe.CertEntry.{Serial, Issuer, Subject, Constraint}
use Rattle.recipe_text.proofs.Sizes.{joined, recipe_size, recipe_all, hex_size, name_size}

-- ---- one plan

unfoldable pub only : {A : Type 0} → List A → Option A
only [] = None
only (x ∷ xs) = Some x

pub only_back : {A : Type 0} (o : Option A) → only (option_to_list o) ≡ o
unfolding only
only_back None = refl
only_back (Some x) = refl

unfoldable pub first_of : {A : Type 0} → A → List A → A
first_of d [] = d
first_of d (x ∷ xs) = x

-- the plan of what lines say, where d is a plan
plan_from : CertificatePlan → CertParts → CertificatePlan
plan_from d p = record {
  serial = first_of d.serial p.serials;
  issuer = first_of d.issuer p.issuers;
  subject = first_of d.subject p.subjects;
  from = first_of d.from p.froms;
  to = first_of d.to p.tos;
  key = first_of d.key p.keys;
  subject_key = only p.subject_keys;
  authority_key = only p.authority_keys;
  authority = only p.authorities;
  uses = only p.uses;
  constraints = only p.constraints;
  hardware = only p.hardware;
}

plan_back : (d v : CertificatePlan) → plan_from d (plan_parts v) ≡ v
unfolding plan_from first_of
plan_back d v = λ i. record {
  serial = v.serial;
  issuer = v.issuer;
  subject = v.subject;
  from = v.from;
  to = v.to;
  key = v.key;
  subject_key = only_back v.subject_key i;
  authority_key = only_back v.authority_key i;
  authority = only_back v.authority i;
  uses = only_back v.uses i;
  constraints = only_back v.constraints i;
  hardware = only_back v.hardware i;
}

pub same_plan : (v w : CertificatePlan) → plan_parts v ≡ plan_parts w → v ≡ w
same_plan v w e = sym (plan_back v v) ∙ ap (plan_from v) e ∙ plan_back v w

pub is_whole : (v : CertificatePlan) → IsCertWhole (plan_parts v)
is_whole v = record {
  serial = refl;
  issuer = refl;
  subject = refl;
  from = refl;
  to = refl;
  key = refl;
}

-- ---- room

serial_short : (line : List ℕ) (e : CertEntry) → IsCertLine line e
    → AllByRecursion (λ o. length o ≤ 2 ^ 16) (cert_part e).serials
serial_short line (Serial octets) h = (omega (arith, h.1.most), tt)
serial_short line e h = tt

issuer_short : (line : List ℕ) (e : CertEntry) → IsCertLine line e
    → AllByRecursion (λ o. length o ≤ 2 ^ 16) (cert_part e).issuers
issuer_short line (Issuer name) h = (omega (arith, name_size h.0 name h.1), tt)
issuer_short line e h = tt

subject_short : (line : List ℕ) (e : CertEntry) → IsCertLine line e
    → AllByRecursion (λ o. length o ≤ 2 ^ 16) (cert_part e).subjects
subject_short line (Subject name) h = (omega (arith, name_size h.0 name h.1), tt)
subject_short line e h = tt

-- each one twice
abbrev twice : List (List ℕ) → List (List ℕ)
twice texts = flat_map (λ text. text ∷ text ∷ []) texts

twice_all : {E : Type 0} (part : E → List (List ℕ)) (es : List E)
    → flat_map (λ e. twice (part e)) es ≡ twice (flat_map part es)
twice_all part [] = refl
twice_all part (e ∷ es) =
    ap (λ (l : List (List ℕ)). twice (part e) ++ l) (twice_all part es)
    ∙ sym (flat_map-append (λ (text : List ℕ). text ∷ text ∷ []) (part e) (flat_map part es))

constraint_size : (line : List ℕ) (e : CertEntry) → IsCertLine line e
    → length (joined (twice (cert_part e).constraints)) ≤ length line
constraint_size line (Constraint octets) h =
    let word : line ≡ cert_name (Constraint octets) ++ 32 ∷ h.0 = h.2 in
    omega (
      arith,
      hex_size h.0 octets h.1.hex,
      length-append octets (octets ++ []),
      length-append octets [],
      ap length word,
      length-append (cert_name (Constraint octets)) (32 ∷ h.0),
    )
constraint_size line e h = omega arith

may_be_long : (o : Option (List ℕ)) (n : ℕ) → length (joined (twice (option_to_list o))) ≤ n → n < 2 ^ 32
    → IfSome o (λ text. length text ≤ 2 ^ 31)
may_be_long None n few small = tt
may_be_long (Some text) n few small =
    omega (arith, few, small, length-append text (text ++ []), length-append text [])

-- The constraints of a text below 2^32 octets have half as many at most.
pub plan_short : (text : List ℕ) (plan : CertificatePlan) → length text < 2 ^ 32 - 1 → CertRecipe text plan
    → IsShort plan
plan_short text plan small r = record {
  serial = (subst (AllByRecursion (λ o. length o ≤ 2 ^ 16)) (ap (λ (p : CertParts). p.serials) r.2)
      (recipe_all cert_rules (λ o. length o ≤ 2 ^ 16) (λ e. (cert_part e).serials) serial_short text r.0 r.1)).0;
  issuer = (subst (AllByRecursion (λ o. length o ≤ 2 ^ 16)) (ap (λ (p : CertParts). p.issuers) r.2)
      (recipe_all cert_rules (λ o. length o ≤ 2 ^ 16) (λ e. (cert_part e).issuers) issuer_short text r.0 r.1)).0;
  subject = (subst (AllByRecursion (λ o. length o ≤ 2 ^ 16)) (ap (λ (p : CertParts). p.subjects) r.2)
      (recipe_all cert_rules (λ o. length o ≤ 2 ^ 16) (λ e. (cert_part e).subjects) subject_short text r.0 r.1)).0;
  constraints =
      may_be_long plan.constraints (length text)
      (subst (λ (l : List (List ℕ)). length (joined l) ≤ length text)
      (twice_all (λ (e : CertEntry). (cert_part e).constraints) r.0
      ∙ ap (λ (p : CertParts). twice p.constraints) r.2)
      (recipe_size cert_rules (λ e. twice (cert_part e).constraints) constraint_size text r.0 r.1))
      (omega (arith, small));
}

-- ---- `-`

-- `-` is no number
pub dash_no_number : (n : ℕ) → IsNumber (45 ∷ []) n → ⊥
dash_no_number n h =
    let digits = (decimal_is_IsNumeral_wide n (omega (arith, h.0))).0.1 in
    let first = (subst (AllDigits 10) (sym h.1) digits).0 in
    let d = digit_from_value 45 first in
    omega (arith, d)

pub any_number : (text : List ℕ) → text ≡ codes "-"
    → Exactly (λ (a : Authority). IsPathWord text a.path_len) (Some (record { path_len = None }))
any_number text is a = by a.path_len
  where
    by : (o : Option ℕ)
        → (◌≡◌ {A = Option Authority} (Some (record { path_len = None })) (Some (record { path_len = o })))
        ↔ IsPathWord text o
    by None = (λ e. is, λ h. refl)
    by (Some n) = (
      λ e. absurd (none-some n (ap (λ (a : Authority). a.path_len) (some_is _ _ e))),
      λ h. absurd (dash_no_number n (h.0, sym is ∙ h.1)),
    )
