use Rattle.std.proofs.Common.{false, true, sym, ◌≡◌, ◌∙◌}
use Rattle.der_core.proofs.Heads.{sequence_other, sequence_fault}
use Rattle.der_core.proofs.splitter.sequence_head.Goals as goal

false_true : false ≡ true → ⊥
false_true e = cc

pub returns-then-not-can_begin_sequence-clause-fault : goal.returns-then-not-can_begin_sequence-clause-fault
returns-then-not-can_begin_sequence-clause-fault c =
    sequence_other c.args.octets.now
    (λ first. false_true (sym c.if-not-can_begin_sequence.true ∙ c.can_begin_sequence.ensures.1 first))

pub returns-in-Err-clause-fault : goal.returns-in-Err-clause-fault
returns-in-Err-clause-fault c =
    sequence_fault c.args.octets.now c.in-Err.fault (c.can_begin_sequence.ensures.0 c.if-not-can_begin_sequence.false)
    c.in-Err.ensures.fault c.in-Err.ensures.exact
