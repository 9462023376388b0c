-- Typecodes stand for kinds, and for no others.
use Rattle.std.proofs.Common.{◌≡◌, ℕ, ◌^◌, ◌<◌, ◌≤◌, Option, Some, None, refl, sym, ◌∙◌, ap, inl, inr, arith, cond}
use Rattle.std.proofs.Common.{eqb, eqb-true, ne_eqb, subst}
use Rattle.std.proofs.lemmas.Bool.{cases_Bool}
use Rattle.std.proofs.lemmas.Option.{cond_some, none-some}
use Rattle.std.specs.Prelude.{IfSome}
use Rattle.der_core.specs.Reads.{Answers}
use Rattle.der_core.specs.Number.{number_contents}
use Rattle.der_core.specs.Reading.{number_of}
use Rattle.der_core.specs.Shapes.{IsWhole}
use Rattle.der_core.proofs.Numbers.{some_bind, some_is}
use Rattle.der_core.proofs.Shapes.{number-whole}
use Rattle.lms_verify.specs.declared.kind.LmsKind.{LmsKind}
use Rattle.lms_verify.specs.declared.kind.LmsKind.TheVariants.{H5, H10, H15, H20, H25}
use Rattle.lms_verify.specs.declared.kind.OtsKind.{OtsKind}
use Rattle.lms_verify.specs.declared.kind.OtsKind.TheVariants.{W1, W2, W4, W8}
use Rattle.lms_verify.specs.Kinds.{lms_number, ots_number, height}
use Rattle.module_record.specs.Reading.{valued, tree_kind_of, ots_kind_of}

-- ---- trees

pub lms_small : (kind : LmsKind) → lms_number kind < 10
lms_small H5 = omega arith
lms_small H10 = omega arith
lms_small H15 = omega arith
lms_small H20 = omega arith
lms_small H25 = omega arith

pub tree_kind_of-kind : (kind : LmsKind) → height kind ≤ 10 → tree_kind_of (lms_number kind) ≡ Some kind
unfolding tree_kind_of
tree_kind_of-kind H5 low = refl
tree_kind_of-kind H10 low = refl
tree_kind_of-kind H15 low = absurd (omega (arith, low))
tree_kind_of-kind H20 low = absurd (omega (arith, low))
tree_kind_of-kind H25 low = absurd (omega (arith, low))

-- a number that is no typecode of a signing key's tree
pub tree_kind_of-none : (n : ℕ) → ((kind : LmsKind) → height kind ≤ 10 → lms_number kind ≡ n → ⊥)
    → tree_kind_of n ≡ None
unfolding tree_kind_of
tree_kind_of-none n none =
    rw (
      ne_eqb n 5 (λ e. none H5 (omega arith) (sym e)),
      ne_eqb n 6 (λ e. none H10 (omega arith) (sym e)),
    ) refl

-- what a typecode stands for
pub tree_kind_of-some : (n : ℕ) (kind : LmsKind) → tree_kind_of n ≡ Some kind
    → (height kind ≤ 10) × (lms_number kind ≡ n)
unfolding tree_kind_of
tree_kind_of-some n kind e = elim (cases_Bool (eqb n 5)) [
  | inl is ↦
      subst (λ (k : LmsKind). (height k ≤ 10) × (lms_number k ≡ n)) (some_is H5 kind (rw is at e))
      (omega arith, sym (eqb-true n 5 is))
  | inr isnt ↦
      let g = cond_some (eqb n 6) H10 kind (rw isnt at e) in
      subst (λ (k : LmsKind). (height k ≤ 10) × (lms_number k ≡ n)) g.1
      (omega arith, sym (eqb-true n 6 g.0))
]

-- ---- one-time keys

pub ots_small : (ots : OtsKind) → ots_number ots < 5
ots_small W1 = omega arith
ots_small W2 = omega arith
ots_small W4 = omega arith
ots_small W8 = omega arith

pub ots_kind_of-kind : (ots : OtsKind) → ots_kind_of (ots_number ots) ≡ Some ots
unfolding ots_kind_of
ots_kind_of-kind W1 = refl
ots_kind_of-kind W2 = refl
ots_kind_of-kind W4 = refl
ots_kind_of-kind W8 = refl

-- a number that is no typecode of one-time keys
pub ots_kind_of-none : (n : ℕ) → ((ots : OtsKind) → ots_number ots ≡ n → ⊥) → ots_kind_of n ≡ None
unfolding ots_kind_of
ots_kind_of-none n none =
    rw (
      ne_eqb n 1 (λ e. none W1 (sym e)),
      ne_eqb n 2 (λ e. none W2 (sym e)),
      ne_eqb n 3 (λ e. none W4 (sym e)),
      ne_eqb n 4 (λ e. none W8 (sym e)),
    ) refl

-- what a typecode stands for
pub ots_kind_of-some : (n : ℕ) (ots : OtsKind) → ots_kind_of n ≡ Some ots → ots_number ots ≡ n
unfolding ots_kind_of
ots_kind_of-some n ots e = elim (cases_Bool (eqb n 1)) [
  | inl is ↦ subst (λ (k : OtsKind). ots_number k ≡ n) (some_is W1 ots (rw is at e)) (sym (eqb-true n 1 is))
  | inr isnt ↦ second (rw isnt at e)
]
  where
    fourth : cond (eqb n 4) (Some W8) None ≡ Some ots → ots_number ots ≡ n
    fourth e =
        let g = cond_some (eqb n 4) W8 ots e in
        subst (λ (k : OtsKind). ots_number k ≡ n) g.1 (sym (eqb-true n 4 g.0))

    third : cond (eqb n 3) (Some W4) (cond (eqb n 4) (Some W8) None) ≡ Some ots → ots_number ots ≡ n
    third e = elim (cases_Bool (eqb n 3)) [
      | inl is ↦ subst (λ (k : OtsKind). ots_number k ≡ n) (some_is W4 ots (rw is at e)) (sym (eqb-true n 3 is))
      | inr isnt ↦ fourth (rw isnt at e)
    ]

    second : cond (eqb n 2) (Some W2) (cond (eqb n 3) (Some W4) (cond (eqb n 4) (Some W8) None)) ≡ Some ots
        → ots_number ots ≡ n
    second e = elim (cases_Bool (eqb n 2)) [
      | inl is ↦ subst (λ (k : OtsKind). ots_number k ≡ n) (some_is W2 ots (rw is at e)) (sym (eqb-true n 2 is))
      | inr isnt ↦ third (rw isnt at e)
    ]

-- ---- what the code answers

-- a number that fits no typecode
pub big_tree : (n : ℕ) → 2 ^ 32 ≤ n → tree_kind_of n ≡ None
big_tree n big = tree_kind_of-none n (λ kind low e. omega (arith, big, e, lms_small kind))

pub big_ots : (n : ℕ) → 2 ^ 32 ≤ n → ots_kind_of n ≡ None
big_ots n big = ots_kind_of-none n (λ ots e. omega (arith, big, e, ots_small ots))

-- where there is no kind of this typecode, there is none of a signing key
pub unknown_tree : (n : ℕ) → ((kind : LmsKind) → lms_number kind ≡ n → ◌≡◌ {A = Option LmsKind} None (Some kind))
    → tree_kind_of n ≡ None
unknown_tree n found = tree_kind_of-none n (λ kind low e. none-some kind (found kind e))

-- the kind of this typecode is that of a high tree
pub high_tree : (n : ℕ) (high : LmsKind) → ((kind : LmsKind) → lms_number kind ≡ n → Some high ≡ Some kind)
    → 10 < height high → tree_kind_of n ≡ None
high_tree n high found more =
    tree_kind_of-none n (λ kind low e. omega (arith, more, low, ap height (some_is high kind (found kind e))))

pub known_tree : (n : ℕ) (kind : LmsKind) → lms_number kind ≡ n → height kind ≤ 10 → tree_kind_of n ≡ Some kind
known_tree n kind e low = ap tree_kind_of (sym e) ∙ tree_kind_of-kind kind low

pub ots_answers : (n : ℕ) (r : Option OtsKind) → IfSome r (λ ots. ots_number ots ≡ n)
    → ((ots : OtsKind) → ots_number ots ≡ n → r ≡ Some ots) → Answers (λ ots. ots) r (ots_kind_of n)
ots_answers n None read found = ots_kind_of-none n (λ ots e. none-some ots (found ots e))
ots_answers n (Some ots) read found = ap ots_kind_of (sym read) ∙ ots_kind_of-kind ots

-- ---- numbers that stand for values

-- each valid value has a number below 2 ^ 128, which stands for it alone
pub valued-whole : {W : Type 0} {IsValid : W → Type 0} (f : ℕ → Option W) (number : W → ℕ)
    → ((n : ℕ) (w : W) → f n ≡ Some w → IsValid w × (number w ≡ n))
    → ((w : W) → IsValid w → (number w < 2 ^ 128) × (f (number w) ≡ Some w))
    → IsWhole (λ w. number_contents (number w)) IsValid (valued f number_of)
valued-whole {W} {IsValid} f number forth back = record {
  takes = λ bytes w octets e.
      let b = some_bind (number_of bytes) f w e in
      let t = number-whole.takes bytes b.0 octets b.1 in
      let u = forth b.0 w b.2 in
      (u.0, t.1 ∙ ap number_contents (sym u.1));
  again = λ w valid. let b = back w valid in rw (number-whole.again (number w) b.0) b.1;
}
