-- What each command promises of a run.
use Rattle.std.specs.Prelude.{ℕ, List, Option}
use Rattle.loader_core.specs.Loading.{load_limit}
use Rattle.fwload_top.specs.declared.words.Command.{Command}
use Rattle.fwload_top.specs.declared.words.Command.TheVariants as commands
use Rattle.fwload_top.specs.Status.{IsFinished}
use Rattle.fwload_top.specs.Seen.{Seen}
use Rattle.fwload_top.specs.HasCauses.{Undisturbed}
use Rattle.fwload_top.specs.Meaning.{Meaning, input_limit}
use Rattle.fwload_top.specs.AnswersOnce.{AnswersOnce, IsReady, CutLeaves}
use Rattle.fwload_top.specs.Ident.{ident}
use Rattle.fwload_top.specs.Sigcheck.{sigcheck}
use Rattle.fwload_top.specs.Rehearse.{rehearse}
use Rattle.fwload_top.specs.declared.making.HolderKind.TheVariants as holder_kinds
use Rattle.fwload_top.specs.Making.{making}
use Rattle.fwload_top.specs.List.{list}
use Rattle.fwload_top.specs.Explain.{explain}
use Rattle.fwload_top.specs.declared.signing.Product.TheVariants.{Certificate, Package}
use Rattle.fwload_top.specs.Signing.{signing}
use Rattle.fwload_top.specs.Load.{RunsLoad, IsLoadReady, LoadCut}

-- The most octets of input that a command takes, what its run leaves, and what brings it to its end.
pub record Promise : Type 1 where
  pub limit : ℕ
  pub Runs : Seen → Type 0
  pub Ready : Seen → Type 0
  -- over what the source had left, these cells and so many blocks, a power cut leaves this image, and these octets sent
  pub Cut : Type 0 → Option (List ℕ) → List ℕ → ℕ → List ℕ → List ℕ → Type 0

-- Over the board and the input that it needs, and where no call failed, the command is done, or memory was wanting.
abbrev pub Completes : Promise → Seen → Type 0
Completes p r = p.Ready r → Undisturbed r → IsFinished r.status

-- of a command that answers once
abbrev pub once : Meaning → Promise
once m = record { limit = input_limit; Runs = AnswersOnce m; Ready = IsReady m; Cut = CutLeaves m }

-- of `load`, which answers as it goes
abbrev pub loading : ℕ → Promise
loading at = record {
  limit = load_limit;
  Runs = RunsLoad at;
  Ready = IsLoadReady;
  Cut = λ tells_cells left start count image s. LoadCut at left start image s;
}

abbrev pub promise : Command → Promise
promise commands.Ident = once ident
promise commands.Sigcheck = once sigcheck
promise (commands.Rehearse at) = once (rehearse at)
promise (commands.Explain at) = once (explain at)
promise commands.KeyNew = once (making holder_kinds.Key)
promise commands.Make = once (making holder_kinds.Module)
promise commands.List = once list
promise commands.Issue = once (signing Certificate)
promise commands.Pack = once (signing Package)
promise (commands.Load at) = loading at
