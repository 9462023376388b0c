-- An item of a stream goes on.
use Rattle.std.proofs.Common.{◌≡◌, ℕ, ◌<◌, ◌≤◌, List, Bool, true, false, ◌++◌, length, take, sym, subst, ◌∙◌, arith, length-append, length-take, refl, inl, inr}
use Rattle.std.proofs.lemmas.List.{take_all}
use Rattle.std.proofs.lemmas.Bool.{false≢true}
use Rattle.edge_board.specs.Board.{View}
use Rattle.der_core.specs.declared.splitter.Step.{Step}
use Rattle.der_core.specs.declared.splitter.Step.TheVariants.{More, Ends, Rest}
use Rattle.der_core.specs.Items.{IsSequence, HasSequence, BeginsSequence}
use Rattle.der_core.specs.Progress.{Progress, Sees}
use Rattle.der_core.specs.Splitter.{IsStep}
use Rattle.der_core.proofs.Sequences.{begins_front, begins_from_has, declares_more}
use Rattle.item_intake.specs.declared.intake.Intake.{Intake}
use Rattle.item_intake.specs.Inflows.{Start}
use Rattle.item_intake.specs.Reading.{IsPast, IsTaking, SplitsOff}

pub past_more : (item more : List ℕ) → IsPast item → IsPast (item ++ more)
past_more item more (inl (size, d, lt)) = inl (size, declares_more item more size d, lt)
past_more item more (inr never) = inr (λ b. never (begins_front item more b))

-- the octets that a step gives an item
pub step_splits : (so_far piece : List ℕ) (seen : Progress) (step : Step) (n : ℕ) (ends : Bool)
    → IsStep so_far piece seen step
    → ((k : ℕ) → step ≡ Ends k → (n ≡ k) × (ends ≡ true))
    → (step ≡ More → (n ≡ length piece) × (ends ≡ false))
    → (step ≡ Rest → (n ≡ length piece) × (ends ≡ false))
    → Sees seen (so_far ++ take n piece) × SplitsOff ends (so_far ++ take n piece)
    × (step ≡ Rest → BeginsSequence (so_far ++ take n piece) → ⊥)
step_splits so_far piece seen More n ends h is-ends is-more is-rest =
    let x = is-more refl in
    let text : take n piece ≡ piece = take_all n piece (omega (arith, x.0)) in (
      subst (λ (l : List ℕ). Sees seen (so_far ++ l)) (sym text) h.2,
      subst (λ (b : Bool). SplitsOff b (so_far ++ take n piece)) (sym x.1)
          (subst (λ (l : List ℕ). HasSequence (so_far ++ l) → ⊥) (sym text) h.1),
      λ e. absurd (differ e),
    )
  where
    differ : ◌≡◌ {A = Step} More Rest → ⊥
    differ e = cc
step_splits so_far piece seen (Ends k) n ends h is-ends is-more is-rest =
    let x = is-ends k refl in (
      subst (λ (m : ℕ). Sees seen (so_far ++ take m piece)) (sym x.0) h.1,
      subst (λ (b : Bool). SplitsOff b (so_far ++ take n piece)) (sym x.1)
          (subst (λ (m : ℕ). IsSequence (so_far ++ take m piece)) (sym x.0) h.0),
      λ e. absurd (differ e),
    )
  where
    differ : ◌≡◌ {A = Step} (Ends k) Rest → ⊥
    differ e = cc
step_splits so_far piece seen Rest n ends h is-ends is-more is-rest =
    let x = is-rest refl in
    let text : take n piece ≡ piece = take_all n piece (omega (arith, x.0)) in
    let never : BeginsSequence (so_far ++ take n piece) → ⊥ =
    subst (λ (l : List ℕ). BeginsSequence (so_far ++ l) → ⊥) (sym text) h.0 in (
      subst (λ (l : List ℕ). Sees seen (so_far ++ l)) (sym text) h.1,
      subst (λ (b : Bool). SplitsOff b (so_far ++ take n piece)) (sym x.1)
          (λ has. never (begins_from_has (so_far ++ take n piece) has)),
      λ e. never,
    )

pub taking_skips : {told moments : Type 0} (start : Start) (pool : List Bool) (v : View) (intake : Intake)
    (skips skips' : Bool) (item : List ℕ) → (skips ≡ true → skips' ≡ true)
    → IsTaking told moments start pool v intake skips item → IsTaking told moments start pool v intake skips' item
taking_skips start pool v intake true skips' item sticky t = record {
  seen = t.seen;
  intake_is = t.intake_is;
  few = t.few;
  same = λ is. absurd (false≢true (sym is ∙ sticky refl));
}
taking_skips start pool v intake false skips' item sticky t = record {
  seen = t.seen;
  intake_is = t.intake_is;
  few = t.few;
  same = λ is. t.same refl;
}

pub part_some : (step : Step) (size n : ℕ) (ends : Bool)
    → ((k : ℕ) → step ≡ Ends k → (n ≡ k) × (ends ≡ true))
    → (step ≡ More → (n ≡ size) × (ends ≡ false))
    → (step ≡ Rest → (n ≡ size) × (ends ≡ false))
    → ((k : ℕ) → step ≡ Ends k → (0 < k) × (k ≤ size)) → 0 < size → (0 < n) × (n ≤ size)
part_some More size n ends is-ends is-more is-rest within some =
    (omega (arith, (is-more refl).0), omega (arith, (is-more refl).0))
part_some (Ends k) size n ends is-ends is-more is-rest within some =
    (omega (arith, (is-ends k refl).0, (within k refl).0), omega (arith, (is-ends k refl).0, (within k refl).1))
part_some Rest size n ends is-ends is-more is-rest within some =
    (omega (arith, (is-rest refl).0), omega (arith, (is-rest refl).0))

pub longer : (item piece : List ℕ) (n : ℕ) → 0 < n → n ≤ length piece → 0 < length (item ++ take n piece)
longer item piece n some le = omega (arith, length-append item (take n piece), length-take n piece)
