use Rattle.fwload_top.proofs.CutLemmas.{cut_of}
use Rattle.fwload_top.proofs.laws.cuts_are_rounds.Goals as goal

pub returns : goal.returns
returns g c = record {
  rounds = λ command status before after old new runs told settled p image s sent might.
      cut_of told (g.B.Board.view old) (g.B.Board.view new) (g.met.B.Board.honest old) settled before after status p image s
      sent might command runs;
}
