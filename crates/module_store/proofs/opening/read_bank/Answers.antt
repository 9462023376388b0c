use Rattle.std.proofs.Common.{◌≡◌, ◌*◌, ℕ, List, take, drop, ap, sym, ◌∙◌, subst, rules}
use Rattle.std.proofs.lemmas.Option.{none-some}
use Rattle.bank_gate.specs.declared.place.Place.{Place}
use Rattle.bank_gate.specs.States.{IsOpen}
use Rattle.bank_layout.specs.Layout.{manifest_octets}
use Rattle.bank_layout.specs.Manifest.{BeginsWithManifest}
use Rattle.bank_layout.specs.Tables.{found_manifest}
use Rattle.module_store.proofs.opening.read_bank.Goals as goal

pub returns-in-Some-clause-valid : goal.returns-in-Some-clause-valid
returns-in-Some-clause-valid g c =
    ((c.in_ok-found.ensures.spelled _).0 (ap found_manifest c.in-Some.is)).valid

pub returns-clause-none : goal.returns-clause-none
returns-clause-none g c = λ told refused. (
  subst (λ (p : Place). IsOpen p (g.B.Board.view c.args.board.now).cells) c.place-place.ensures.place
      ((c.in_ok-is_open.ensures.gate told).0 (search rules)),
  λ m over.
      let cells = (g.B.Board.view c.args.board.now).cells in
      let octets : c.deref.result.now ≡ manifest_octets c.args.bank cells =
      c.deref.ensures.value ∙ c.in_ok-octets.ensures.octets told
      ∙ ap (λ (l : List ℕ). take 131072 (drop (4096 * c.place-place.result.manifest) l)) (c.is_open.ensures.unchanged told).cells
      ∙ ap (λ (p : Place). take 131072 (drop (4096 * p.manifest) cells)) c.place-place.ensures.place in
      none-some m (sym (ap found_manifest c.in-None.is)
      ∙ (c.in_ok-found.ensures.spelled m).1
      (subst (λ (l : List ℕ). BeginsWithManifest c.args.capacity l m) (sym octets) over.text)),
)
