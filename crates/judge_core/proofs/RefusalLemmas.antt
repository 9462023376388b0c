-- The numbers of refusals, and items that are refused by their heads.
use Rattle.std.proofs.Common.{◌↔◌, ℕ, ◌<◌, ◌≤◌, List, [], ◌∷◌, length, inl, inr, refl, sym, subst, arith, append-nil}
use Rattle.std.specs.Prelude.{Option, Some, None, IsSome}
use Rattle.std.proofs.lemmas.Bool.{false≢true}
use Rattle.der_core.specs.Asked.{Asked, FirstFail}
use Rattle.der_core.specs.Condition.{IsCondition}
use Rattle.der_core.specs.Items.{IsSequence, HasSequence}
use Rattle.der_core.specs.Progress.{Declares}
use Rattle.der_core.proofs.Sequences.{declares_item, declares_once}
use Rattle.cert_fields.specs.Anchor.{TrustAnchor}
use Rattle.cert_fields.specs.Certificate.{Certificate}
use Rattle.package_attrs.specs.declared.name.PackageName.{PackageName}
use Rattle.judge_core.specs.Values.{Values}
use Rattle.judge_core.specs.Conditions.{octet_conditions, value_conditions, most_contents}
use Rattle.judge_core.specs.Verdicts.{Bench, refuses, Judges, FailsLater, later_conditions}

-- ---- the number of a refusal

-- the numbers of conditions are from some number to another
AreWithin : ℕ → ℕ → List Asked → Type 0
AreWithin least most [] = Unit {0}
AreWithin least most (c ∷ more) = (least ≤ c.number) × (c.number ≤ most) × AreWithin least most more

fails_within : (least most : ℕ) (conditions : List Asked) (n : ℕ) → AreWithin least most conditions
    → FirstFail conditions n → (least ≤ n) × (n ≤ most)
unfolding AreWithin
fails_within least most [] n within f = absurd f
fails_within least most (c ∷ more) n within (inl f) =
    subst (λ (k : ℕ). (least ≤ k) × (k ≤ most)) (sym f.0) (within.0, within.1)
fails_within least most (c ∷ more) n within (inr f) = fails_within least most more n within.2 f.1

octet_numbers : (item : List ℕ) → AreWithin 1 19 (octet_conditions item)
unfolding AreWithin
octet_numbers item = (omega arith, omega arith, (omega arith, omega arith, (omega arith, omega arith, (omega arith, omega arith, (omega arith, omega arith, (omega arith, omega arith, (omega arith, omega arith, (omega arith, omega arith, (omega arith, omega arith, (omega arith, omega arith, (omega arith, omega arith, (omega arith, omega arith, (omega arith, omega arith, (omega arith, omega arith, (omega arith, omega arith, (omega arith, omega arith, (omega arith, omega arith, (omega arith, omega arith, (omega arith, omega arith, tt)))))))))))))))))))

value_numbers : (b : Bench) (v : Values) → AreWithin 20 41 (value_conditions b.holder v)
unfolding AreWithin
value_numbers b v = (omega arith, omega arith, (omega arith, omega arith, (omega arith, omega arith, tt)))

later_numbers : (b : Bench) (v : Values) (image : List ℕ) (anchor : TrustAnchor) (members : List Certificate)
    → AreWithin 20 41 (later_conditions b v image anchor members)
unfolding AreWithin
later_numbers b v image anchor members = (omega arith, omega arith, (omega arith, omega arith, (omega arith, omega arith, (omega arith, omega arith, (omega arith, omega arith, (omega arith, omega arith, (omega arith, omega arith, (omega arith, omega arith, (omega arith, omega arith, (omega arith, omega arith, (omega arith, omega arith, (omega arith, omega arith, (omega arith, omega arith, (omega arith, omega arith, (omega arith, omega arith, (omega arith, omega arith, (omega arith, omega arith, (omega arith, omega arith, (omega arith, omega arith, tt)))))))))))))))))))

fails_later : (b : Bench) (v : Values) (n : ℕ) → FailsLater b v n → (20 ≤ n) × (n ≤ 41)
fails_later b v n (inl f) = fails_within 20 41 (value_conditions b.holder v) n (value_numbers b v) f
fails_later b v n (inr f) =
    fails_within 20 41 (later_conditions b v f.1.0 f.1.1 f.1.2) n (later_numbers b v f.1.0 f.1.1 f.1.2) f.1.5

-- a refusal has a number from 1 to 41, and a name exactly from 20 on
pub refusal_named : (b : Bench) (item : List ℕ) (n : ℕ) (name : Option PackageName) → Judges b item (refuses n name)
    → IsCondition n × (IsSome name ↔ (20 ≤ n))
refusal_named b item n None judges =
    let is = fails_within 1 19 (octet_conditions item) n (octet_numbers item) judges in (
      record { least = is.0; most = omega (arith, is.1) },
      ((λ some. absurd (false≢true some)), λ le. absurd (omega (arith, le, is.1))),
    )
refusal_named b item n (Some name) judges =
    let is = fails_later b judges.1.0 n judges.1.2 in
    (record { least = omega (arith, is.0); most = is.1 }, ((λ some. is.0), λ le. refl))

-- ---- refused by the head

-- octets that begin with no SEQUENCE fail condition 1
pub no_item : (b : Bench) (item : List ℕ) → ¬ HasSequence item → Judges b item (refuses 1 None)
no_item b item none = inl (
  refl,
  λ h. none (record {
    item = item;
    rest = [];
    sequence = record { contents = h.0; element = h.1.0; text = h.1.1 };
    text = sym (append-nil item);
  }),
)

-- a SEQUENCE that is too long fails condition 2
pub too_long : (b : Bench) (item : List ℕ) (size : ℕ) → IsSequence item → Declares item size → most_contents < size
    → Judges b item (refuses 2 None)
too_long b item size s declares over = inr (
  (s.contents, (s.element, s.text)),
  inl (
    refl,
    λ h. absurd (omega (
      arith,
      over,
      h.2,
      declares_once item size (length h.0) declares
          (declares_item item (record { contents = h.0; element = h.1.0; text = h.1.1 })),
    )),
  ),
)
