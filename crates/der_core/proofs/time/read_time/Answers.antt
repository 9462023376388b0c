use Rattle.std.proofs.Common.{◌≡◌, ℕ, Option, Some, None, subst, arith}
use Rattle.der_core.specs.Reads.{Answers}
use Rattle.der_core.proofs.Shapes.{IsWhole-answers}
use Rattle.der_core.proofs.Times.{utc_is, generalized_is, other_is, utc-whole, generalized-whole}
use Rattle.der_core.proofs.time.read_time.Goals as goal

abbrev Gives : Option ℕ → Option ℕ → Type 0
Gives result answer = Answers (λ (moment : ℕ). moment) result answer

none : (result : Option ℕ) → Gives result None → result ≡ None
none result e = elim result as (λ r. Gives r None → r ≡ None) [ Some moment ↦ λ e. cc | None ↦ λ e. e ] e

pub returns-clause-utc : goal.returns-clause-utc
returns-clause-utc c = λ is.
    IsWhole-answers c.args.contents.now c.read_form.result utc-whole (λ i. omega (arith, c.type_inv.contents i))
    (subst (Gives c.read_form.result) (utc_is c.args.tag c.args.contents.now is) c.read_form.ensures)

pub returns-clause-generalized : goal.returns-clause-generalized
returns-clause-generalized c = λ is.
    IsWhole-answers c.args.contents.now c.read_form.result generalized-whole (λ i. omega (arith, c.type_inv.contents i))
    (subst (Gives c.read_form.result) (generalized_is c.args.tag c.args.contents.now is) c.read_form.ensures)

pub returns-clause-other : goal.returns-clause-other
returns-clause-other c = λ not_utc not_generalized.
    none c.read_form.result
    (subst (Gives c.read_form.result)
    (other_is c.args.tag c.args.contents.now not_utc not_generalized) c.read_form.ensures)
