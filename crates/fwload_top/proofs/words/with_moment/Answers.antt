use Rattle.std.proofs.Common.{◌≡◌, codes, Some, ℕ, List, subst, sym, ◌∙◌}
use Rattle.std.proofs.lemmas.Bool.{false≢true}
use Rattle.std.proofs.lemmas.Option.{none-some}
use Rattle.std.proofs.lemmas.Slice.Eq.{bytes_eq-Decides}
use Rattle.der_core.specs.Decimal.{moment_digits}
use Rattle.der_core.specs.Moment.{IsMoment}
use Rattle.der_core.specs.Reads.{Reads}
use Rattle.der_core.proofs.Shapes.{Reads-none}
use Rattle.fwload_top.proofs.MomentLemmas.{no_moment, no_word, one_rehearsal, one_explanation, one_load}
use Rattle.fwload_top.proofs.words.with_moment.Goals as goal

pub returns-in_err-at : goal.returns-in_err-at
returns-in_err-at c named = (
  (λ e. absurd (none-some named (sym c.from_residual.ensures ∙ e))),
  λ names. absurd (no_moment c.args.word.now c.args.digits.now
      (λ at valid is. Reads-none c.as_bytes.result.now c.in_err-at.ensures.spelled at valid (c.as_bytes.ensures.value ∙ is))
      named names),
)

-- the digits are this moment's
moment_is : (text digits : List ℕ) (at : ℕ) → text ≡ digits → Reads moment_digits IsMoment text (Some at)
    → Reads moment_digits IsMoment digits (Some at)
moment_is text digits at is reads = subst (λ (ds : List ℕ). Reads moment_digits IsMoment ds (Some at)) is reads

pub returns-then-eq : goal.returns-then-eq
returns-then-eq c = one_rehearsal c.args.word.now c.args.digits.now c.in_ok-at.at
    ((bytes_eq-Decides c.args.word.now (codes "rehearse")).0 (sym c.eq.ensures ∙ c.if-eq.true))
    (moment_is c.as_bytes.result.now c.args.digits.now c.in_ok-at.at c.as_bytes.ensures.value c.in_ok-at.ensures.spelled)

pub returns-then-eq-2 : goal.returns-then-eq-2
returns-then-eq-2 c = one_explanation c.args.word.now c.args.digits.now c.in_ok-at.at
    ((bytes_eq-Decides c.args.word.now (codes "explain")).0 (sym c.eq-else-eq.ensures ∙ c.if-eq-2.true))
    (moment_is c.as_bytes.result.now c.args.digits.now c.in_ok-at.at c.as_bytes.ensures.value c.in_ok-at.ensures.spelled)

pub returns-then-eq-3 : goal.returns-then-eq-3
returns-then-eq-3 c = one_load c.args.word.now c.args.digits.now c.in_ok-at.at
    ((bytes_eq-Decides c.args.word.now (codes "load")).0 (sym c.eq-else-eq-2.ensures ∙ c.if-eq-3.true))
    (moment_is c.as_bytes.result.now c.args.digits.now c.in_ok-at.at c.as_bytes.ensures.value c.in_ok-at.ensures.spelled)

pub returns-else-eq-3 : goal.returns-else-eq-3
returns-else-eq-3 c named = (
  (λ e. absurd (none-some named e)),
  λ names. absurd (no_word c.args.word.now c.args.digits.now
      (λ is. false≢true (sym c.if-eq.false ∙ c.eq.ensures
      ∙ (bytes_eq-Decides c.args.word.now (codes "rehearse")).1 is))
      (λ is. false≢true (sym c.if-eq-2.false ∙ c.eq-else-eq.ensures
      ∙ (bytes_eq-Decides c.args.word.now (codes "explain")).1 is))
      (λ is. false≢true (sym c.if-eq-3.false ∙ c.eq-else-eq-2.ensures
      ∙ (bytes_eq-Decides c.args.word.now (codes "load")).1 is))
      named names),
)
