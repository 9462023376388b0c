use Rattle.fwload_top.proofs.load.load.Goals as goal

pub returns : goal.returns
returns g c = record {
  runs = record { ending = c.load.result; status = c.from.ensures; runs = c.load.ensures.runs };
}
