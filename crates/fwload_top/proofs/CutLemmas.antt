-- What a power cut leaves of a run is what its command says of one.
use Rattle.std.proofs.Common.{◌≡◌, ℕ, List, [], ◌++◌, Option, Some, refl, sym, subst, append-nil}
use Rattle.std.specs.Prelude.{IfSome}
use Rattle.der_core.specs.Items.{IsItems}
use Rattle.edge_board.specs.Supply.{Supply}
use Rattle.edge_board.specs.Board.{View, IsSettled, IsHonest}
use Rattle.edge_board.specs.Sends.{Sending}
use Rattle.edge_board.proofs.RunLemmas.{leaves_weaker}
use Rattle.edge_board.proofs.SendLemmas.{sent_since}
use Rattle.load_claims.specs.Kept.{KeptIn}
use Rattle.fwload_top.specs.declared.words.Command.{Command}
use Rattle.fwload_top.specs.declared.words.Command.TheVariants as commands
use Rattle.fwload_top.specs.declared.status.Status.{Status}
use Rattle.fwload_top.specs.Seen.{seen}
use Rattle.fwload_top.specs.Meaning.{Meaning}
use Rattle.fwload_top.specs.AnswersOnce.{AnswersOnce, CutLeaves}
use Rattle.fwload_top.specs.Commands.{promise}
use Rattle.fwload_top.specs.Load.{RunsLoad, LoadCut}

input_is_told : (left : Option (List ℕ)) (input known : List ℕ) → left ≡ Some input → IfSome left (λ told. told ≡ known)
    → input ≡ known
input_is_told left input known is told = subst (λ (l : Option (List ℕ)). IfSome l (λ x. x ≡ known)) is told

module _ {tc tm : Type 0} (told : tm) (start new : View) (honest : IsHonest tc tm start) (settled : IsSettled start)
    (source source' : Supply) (status : Status) (p image s : List ℕ) (sent : start.sent p)
    (might : new.might start.clock image (p ++ s)) where
  once_cut : (m : Meaning) → AnswersOnce m (seen tc tm status source source' start new)
      → CutLeaves m tc source.left start.cells start.blocks image s
  once_cut m run =
      sent_since told start new (CutLeaves m tc source.left start.cells start.blocks) honest (run.moments told settled) p
      image s sent might

  load_cut : (at : ℕ) → RunsLoad at (seen tc tm status source source' start new)
      → LoadCut at source.left start.cells image s
  load_cut at run = record {
    kept = λ m from found input items left is.
        sent_since told start new (KeptIn m at from items) honest
        (run.runs.moments told settled m from found items
        (subst (λ (l : List ℕ). IsItems l items)
        (input_is_told source.left input run.runs.input left run.runs.takes.told) is))
        p image s sent might;
    nothing = λ none.
        sent_since told start new (λ i q. (i ≡ start.cells) × (q ≡ [])) honest
        (leaves_weaker start new (λ i q. (i ≡ start.cells) × start.sent q)
        (Sending start (λ i q. (i ≡ start.cells) × (q ≡ [])))
        (run.runs.only_image told settled none)
        (λ i q only. (q, [], only.1, sym (append-nil q), (only.0, refl))))
        p image s sent might;
  }

  pub cut_of : (c : Command) → (promise c).Runs (seen tc tm status source source' start new)
      → (promise c).Cut tc source.left start.cells start.blocks image s
  cut_of commands.Ident run = once_cut _ run
  cut_of commands.Sigcheck run = once_cut _ run
  cut_of (commands.Rehearse at) run = once_cut _ run
  cut_of (commands.Explain at) run = once_cut _ run
  cut_of commands.KeyNew run = once_cut _ run
  cut_of commands.Make run = once_cut _ run
  cut_of commands.List run = once_cut _ run
  cut_of commands.Issue run = once_cut _ run
  cut_of commands.Pack run = once_cut _ run
  cut_of (commands.Load at) run = load_cut at run
