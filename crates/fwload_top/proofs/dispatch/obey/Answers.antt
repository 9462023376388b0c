use Rattle.fwload_top.specs.declared.words.Command.TheVariants as commands
use Rattle.fwload_top.proofs.CommandLemmas.{as_asked}
use Rattle.fwload_top.proofs.dispatch.obey.Goals as goal

pub returns-in-Ident : goal.returns-in-Ident
returns-in-Ident g c = record { runs = as_asked c.args.command commands.Ident _ c.in-Ident.is c.ident.ensures.runs }

pub returns-in-Sigcheck : goal.returns-in-Sigcheck
returns-in-Sigcheck g c = record {
  runs = as_asked c.args.command commands.Sigcheck _ c.in-Sigcheck.is c.sigcheck.ensures.runs;
}

pub returns-in-Rehearse : goal.returns-in-Rehearse
returns-in-Rehearse g c = record {
  runs = as_asked c.args.command (commands.Rehearse c.in-Rehearse.at) _ c.in-Rehearse.is c.rehearse.ensures.runs;
}

pub returns-in-Explain : goal.returns-in-Explain
returns-in-Explain g c = record {
  runs = as_asked c.args.command (commands.Explain c.in-Explain.at) _ c.in-Explain.is c.explain.ensures.runs;
}

pub returns-in-KeyNew : goal.returns-in-KeyNew
returns-in-KeyNew g c = record { runs = as_asked c.args.command commands.KeyNew _ c.in-KeyNew.is c.make.ensures.runs }

pub returns-in-Make : goal.returns-in-Make
returns-in-Make g c = record { runs = as_asked c.args.command commands.Make _ c.in-Make.is c.make-in-Make.ensures.runs }

pub returns-in-List : goal.returns-in-List
returns-in-List g c = record {
  runs = as_asked c.args.command commands.List _ c.in-List.is (c.list.ensures.runs (g.S.Source.supply c.args.source.now));
}

pub returns-in-Issue : goal.returns-in-Issue
returns-in-Issue g c = record { runs = as_asked c.args.command commands.Issue _ c.in-Issue.is c.sign.ensures.runs }

pub returns-in-Pack : goal.returns-in-Pack
returns-in-Pack g c = record { runs = as_asked c.args.command commands.Pack _ c.in-Pack.is c.sign-in-Pack.ensures.runs }

pub returns-in-Load : goal.returns-in-Load
returns-in-Load g c = record {
  runs = as_asked c.args.command (commands.Load c.in-Load.at) _ c.in-Load.is c.load.ensures.runs;
}
