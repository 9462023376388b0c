use Rattle.fwload_top.proofs.RehearsalLemmas.{refused_and_printed, printed_alone}
use Rattle.fwload_top.proofs.rehearsal.Rehearsal.finish.Goals.{then-rest+in_ok-done, else-rest}
use Rattle.fwload_top.proofs.rehearsal.Rehearsal.finish.Goals as goal

pub returns-clause-lines : goal.returns-clause-lines
returns-clause-lines c = elim c.if-rest.branch [
  | then-rest+in_ok-done w ↦
      refused_and_printed c.args.rest c.args.self w.in_ok-done.done c.if-rest.done w.numbered.result
      c.put_state.new.out.items w.if-rest.true w.numbered.ensures.value w.in_ok-done.ensures w.done-is
      c.in_ok-put_state.ensures.ok
  | else-rest w ↦ printed_alone c.args.rest c.args.self c.if-rest.done c.put_state.new.out.items w.if-rest.false
      w.done-is c.in_ok-put_state.ensures.ok
]
