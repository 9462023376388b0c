-- What every command's run has in common.
use Rattle.std.proofs.Common.{◌≡◌, ◌≤◌, ◌∙◌, ℕ, true, false, length, Option, Some, None, ap, subst, sym, arith}
use Rattle.fwload_top.specs.declared.words.Command.{Command}
use Rattle.fwload_top.specs.declared.words.Command.TheVariants as commands
use Rattle.fwload_top.specs.declared.status.Status.{Status}
use Rattle.fwload_top.specs.declared.status.Status.TheVariants.{Usage}
use Rattle.fwload_top.specs.Status.{IsFinished}
use Rattle.fwload_top.specs.Seen.{Seen}
use Rattle.fwload_top.specs.HasCauses.{HasCauses, Undisturbed}
use Rattle.fwload_top.specs.Meaning.{Meaning, input_limit}
use Rattle.fwload_top.specs.AnswersOnce.{AnswersOnce, EndsWith}
use Rattle.fwload_top.specs.Commands.{promise}
use Rattle.fwload_top.specs.Ident.{ident}
use Rattle.fwload_top.specs.Ident.Outcome.{spelled, no_identifier}
use Rattle.fwload_top.specs.Sigcheck.{sigcheck, Triple}
use Rattle.fwload_top.specs.Sigcheck.Outcome.{no_triple, no_key, good, bad}
use Rattle.fwload_top.specs.Rehearse.{rehearse}
use Rattle.fwload_top.specs.Rehearse.Outcome.{rehearsed}
use Rattle.fwload_top.specs.declared.making.HolderKind.{HolderKind}
use Rattle.fwload_top.specs.declared.making.HolderKind.TheVariants as holder_kinds
use Rattle.fwload_top.specs.Making.{making, HasForm}
use Rattle.fwload_top.specs.Making.Outcome.{held, bad_line as bad_holder_line, small, made}
use Rattle.fwload_top.specs.List.{list}
use Rattle.fwload_top.specs.List.Outcome.{no_module, listed}
use Rattle.fwload_top.specs.Explain.{explain}
use Rattle.fwload_top.specs.Explain.Outcome.{no_module as none_to_explain, explained}
use Rattle.fwload_top.specs.declared.signing.Product.{Product}
use Rattle.fwload_top.specs.declared.signing.Product.TheVariants.{Certificate, Package}
use Rattle.fwload_top.specs.Signing as signings
use Rattle.fwload_top.specs.Signing.{signing}
use Rattle.fwload_top.specs.Signing.Outcome.{no_key, bad_line, all_spent, signed}
use Rattle.fwload_top.proofs.SigningLemmas.{no_bad_line, some_left}
use Rattle.fwload_top.proofs.LoadLemmas.{no_load_usage, load_causes, load_completes}
use Rattle.fwload_top.proofs.TripleLaws.{one_triple}
use Rattle.fwload_top.proofs.MakingLemmas as makings
use Rattle.fwload_top.proofs.AnswersOnceLemmas.{NeverRefuses, completes, of_input}

-- the command that was found is the one that is asked for
pub same_command : {a b : Command} → ◌≡◌ {A = Option Command} (Some a) (Some b) → a ≡ b
same_command same = cc

-- ---- what is ready isn't refused

ident_completes : (r : Seen) → NeverRefuses ident r
ident_completes r (spelled i) comes ready = tt
ident_completes r no_identifier comes ready =
    let is = (of_input r.source.left comes.input.0 (λ input. (length input ≤ input_limit) × ident.form r.old input)
    comes.input.2 (ready.input (no_identifier, tt, λ told. tt))).1 in
    comes.input.1.1 is.0 is.1

sigcheck_completes : (r : Seen) → NeverRefuses sigcheck r
sigcheck_completes r no_triple comes ready =
    let is = (of_input r.source.left comes.input.0 (λ input. (length input ≤ input_limit) × sigcheck.form r.old input)
    comes.input.2 (ready.input (good, tt, λ told. tt))).1 in
    comes.input.1.1 is.0 is.2.valid is.2.text
sigcheck_completes r no_key comes ready =
    let is = (of_input r.source.left comes.input.0 (λ input. (length input ≤ input_limit) × sigcheck.form r.old input)
    comes.input.2 (ready.input (good, tt, λ told. tt))).1 in
    let none = comes.input.1.1 in
    none.3 is.1 is.2.key_valid
    (ap (λ (t : Triple). t.key) (one_triple none.0 is.0 none.1 is.2.valid (sym none.2 ∙ is.2.text)) ∙ is.2.key_text)
sigcheck_completes r good comes ready = tt
sigcheck_completes r bad comes ready = tt

rehearse_completes : (at : ℕ) (r : Seen) → NeverRefuses (rehearse at) r
rehearse_completes at r (rehearsed true lines) comes ready = tt
rehearse_completes at r (rehearsed false lines) comes ready = tt

making_completes : (kind : HolderKind) (r : Seen) → NeverRefuses (making kind) r
making_completes kind r held comes ready = comes.cells ready.board.0 ready.board.1
making_completes kind r (bad_holder_line n) comes ready =
    let is = (of_input r.source.left comes.input.0
    (λ input. (length input ≤ input_limit) × HasForm kind r.old.blocks input)
    comes.input.2 (ready.input (bad_holder_line n, tt, comes.cells))).1.0 in
    makings.no_bad_line kind comes.input.0 is.0 n is.1 comes.input.1.1
making_completes kind r (small holder) comes ready =
    let form = (of_input r.source.left comes.input.0
    (λ input. (length input ≤ input_limit) × HasForm kind r.old.blocks input)
    comes.input.2 (ready.input (small holder, tt, comes.cells))).1 in
    omega (arith, comes.blocks, form.1 holder comes.input.1.1)
making_completes kind r (made holder) comes ready = tt

list_completes : (r : Seen) → NeverRefuses list r
list_completes r no_module comes ready = comes.cells ready.board.0 ready.board.1 ready.board.2 ready.board.3
list_completes r (listed m sequence spent state) comes ready = tt

explain_completes : (at : ℕ) (r : Seen) → NeverRefuses (explain at) r
explain_completes at r none_to_explain comes ready = comes.cells ready.board.0 ready.board.1 ready.board.2 ready.board.3
explain_completes at r (explained m sequence state None lines) comes ready = tt
explain_completes at r (explained m sequence state (Some number) lines) comes ready = tt

signing_completes : (p : Product) (r : Seen) → NeverRefuses (signing p) r
signing_completes p r no_key comes ready = comes.cells ready.board.0 ready.board.1 ready.board.3.holds
signing_completes p r (bad_line n) comes ready =
    let is = (of_input r.source.left comes.input.0 (λ input. (length input ≤ input_limit) × signings.IsRecipe p input)
    comes.input.2 (ready.input (bad_line n, tt, comes.cells))).1 in
    no_bad_line p comes.input.0 is.0 n is.1 comes.input.1.1
signing_completes p r all_spent comes ready =
    let key = ready.board.1 in
    some_left r.old.cells key ready.board.2 ready.board.3
    ((comes.cells ready.board.0).1 key ready.board.3.holds)
signing_completes p r (signed output key leaf) comes ready = tt

-- ---- every command

no_usage : {m : Meaning} (r : Seen) → AnswersOnce m r → r.status ≡ Usage → ⊥
no_usage {m} r run is = subst (λ (s : Status). EndsWith s m r) is run.ends

-- a command doesn't end with Usage
pub not_usage : (c : Command) (r : Seen) → (promise c).Runs r → r.status ≡ Usage → ⊥
not_usage commands.Ident r run is = no_usage r run is
not_usage commands.Sigcheck r run is = no_usage r run is
not_usage (commands.Rehearse at) r run is = no_usage r run is
not_usage commands.KeyNew r run is = no_usage r run is
not_usage (commands.Explain at) r run is = no_usage r run is
not_usage commands.Make r run is = no_usage r run is
not_usage commands.List r run is = no_usage r run is
not_usage commands.Issue r run is = no_usage r run is
not_usage commands.Pack r run is = no_usage r run is
not_usage (commands.Load at) r run is = no_load_usage run.ending (sym run.status ∙ is)

pub causes_of : (c : Command) (r : Seen) → (promise c).Runs r → HasCauses (promise c).limit r
causes_of commands.Ident r run = run.causes
causes_of commands.Sigcheck r run = run.causes
causes_of (commands.Rehearse at) r run = run.causes
causes_of commands.KeyNew r run = run.causes
causes_of (commands.Explain at) r run = run.causes
causes_of commands.Make r run = run.causes
causes_of commands.List r run = run.causes
causes_of commands.Issue r run = run.causes
causes_of commands.Pack r run = run.causes
causes_of (commands.Load at) r run = load_causes at r run

-- over what it needs it comes to its end
pub completes_command : (c : Command) (r : Seen) → (promise c).Runs r → (promise c).Ready r → Undisturbed r
    → IsFinished r.status
completes_command commands.Ident r run ready calm = completes ident r (ident_completes r) run ready calm
completes_command commands.Sigcheck r run ready calm = completes sigcheck r (sigcheck_completes r) run ready calm
completes_command (commands.Rehearse at) r run ready calm =
    completes (rehearse at) r (rehearse_completes at r) run ready calm
completes_command (commands.Explain at) r run ready calm =
    completes (explain at) r (explain_completes at r) run ready calm
completes_command commands.KeyNew r run ready calm =
    completes (making holder_kinds.Key) r (making_completes holder_kinds.Key r) run ready calm
completes_command commands.Make r run ready calm =
    completes (making holder_kinds.Module) r (making_completes holder_kinds.Module r) run ready calm
completes_command commands.List r run ready calm = completes list r (list_completes r) run ready calm
completes_command commands.Issue r run ready calm =
    completes (signing Certificate) r (signing_completes Certificate r) run ready calm
completes_command commands.Pack r run ready calm =
    completes (signing Package) r (signing_completes Package r) run ready calm
completes_command (commands.Load at) r run ready calm = load_completes at r run ready calm

-- what the command in hand leaves is what the one that is asked for leaves
pub as_asked : (a b : Command) (r : Seen) → a ≡ b → (promise b).Runs r → (promise a).Runs r
as_asked a b r same run = subst (λ (c : Command). (promise c).Runs r) (sym same) run
