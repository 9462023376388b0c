use Rattle.std.proofs.Common.{sym, ◌∙◌}
use Rattle.std.proofs.lemmas.Bool.{false≢true}
use Rattle.bank_layout.proofs.Own.{no_blocks_yet, too_many_blocks, can_hold, held_more}
use Rattle.bank_layout.proofs.named.pool_of.Goals as goal

pub loop-place-init : goal.loop-place-init
loop-place-init c = no_blocks_yet c.args.capacity _ c.in_ok-pool.ensures.ok

pub returns-then-numbers-left-clause-found : goal.returns-then-numbers-left-clause-found
returns-then-numbers-left-clause-found c = (
  λ some. absurd (false≢true some),
  λ own. absurd (too_many_blocks c.args.capacity c.loop-place.left c.loop-place.pool c.args.state.now.packages
      c.loop-place.place _ c.in-Some.ensures.entry _ c.as_slice-numbers.ensures.numbers c.loop-place.invariant
      c.if-numbers-left.true own),
)

pub returns-then-not-hold-clause-found : goal.returns-then-not-hold-clause-found
returns-then-not-hold-clause-found c = (
  λ some. absurd (false≢true some),
  λ own. absurd (false≢true (sym c.if-not-hold.true
      ∙ c.hold.ensures.held.1 (can_hold c.args.capacity c.loop-place.left c.loop-place.pool c.args.state.now.packages
      c.loop-place.place _ c.in-Some.ensures.entry _ c.as_slice-numbers.ensures.numbers c.loop-place.invariant own))),
)

pub loop-place-preserved : goal.loop-place-preserved
loop-place-preserved c =
    held_more c.args.capacity c.loop-place.left c.loop-place.pool c.args.state.now.packages c.loop-place.place _
    c.in-Some.ensures.entry _ c.as_slice-numbers.ensures.numbers c.loop-place.invariant _ c.if-numbers-left.false
    (c.hold.ensures.held.0 c.if-not-hold.false) c.if-not-hold.ensures.after
