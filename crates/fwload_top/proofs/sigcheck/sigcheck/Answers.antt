use Rattle.std.proofs.Common.{◌∙◌, ℕ, List, codes, refl, sym, subst}
use Rattle.std.proofs.lemmas.Bool.{false≢true}
use Rattle.std.proofs.lemmas.List.{append-nil}
use Rattle.std.proofs.lemmas.Option.{none-some}
use Rattle.der_core.proofs.Shapes.{Reads-some, Reads-none}
use Rattle.hss_chain.specs.Chains.{HssHolds}
use Rattle.fwload_top.specs.declared.status.Status.TheVariants.{Done, SomeRefused, Refused}
use Rattle.fwload_top.specs.Ident.{refused_input}
use Rattle.fwload_top.specs.Sigcheck.{sigcheck, IsNoTriple, HasNoKey, IsGood, IsBad}
use Rattle.fwload_top.specs.Sigcheck.Outcome.{no_triple, no_key, good, bad}
use Rattle.fwload_top.specs.TripleReading.{view}
use Rattle.fwload_top.proofs.AnswersOnceLemmas.{not_read, read_then_sent, on_any_board}
use Rattle.fwload_top.proofs.sigcheck.sigcheck.Goals as goal

pub returns-in-Err : goal.returns-in-Err
returns-in-Err g c = record {
  runs = not_read sigcheck (g.S.Source.supply c.args.source.now) (g.S.Source.supply c.read_input.new.source)
      (g.B.Board.view c.args.board.now) (g.met.B.Board.honest c.args.board.now) (good, tt, λ told. tt)
      c.from.result c.in-Err.fault c.from.ensures c.in-Err.ensures.not_read;
}

pub returns-in_default : goal.returns-in_default
returns-in_default g c =
    let source = g.S.Source.supply c.args.source.now in
    let source' = g.S.Source.supply c.read_input.new.source in
    let board = g.B.Board.view c.args.board.now in
    let input = c.in-Ok.input.items in
    let was = c.in-Ok.ensures.read in record {
      runs = read_then_sent sigcheck source source' board (g.met.B.Board.honest c.args.board.now)
          (good, tt, λ told. tt) input was (g.B.Board.view c.send_answer.new.board) no_triple
          (on_any_board source source' board Refused refused_input input IsNoTriple was
          (λ t valid is. Reads-none c.deref.result.now c.in_default.ensures t valid (c.deref.ensures.value ∙ is)))
          (λ cells. refl) Refused c.send_answer.result c.send_answer.ensures tt refl;
    }

pub returns-in_default-hss_key : goal.returns-in_default-hss_key
returns-in_default-hss_key g c =
    let source = g.S.Source.supply c.args.source.now in
    let source' = g.S.Source.supply c.read_input.new.source in
    let board = g.B.Board.view c.args.board.now in
    let input = c.in-Ok.input.items in
    let was = c.in-Ok.ensures.read in
    let sent = c.send_answer-in_default-hss_key in
    let t = view c.in-Some.triple in
    let found = Reads-some c.deref.result.now t c.in-Some.ensures in record {
      runs = read_then_sent sigcheck source source' board (g.met.B.Board.honest c.args.board.now)
          (good, tt, λ told. tt) input was (g.B.Board.view sent.new.board) no_key
          (on_any_board source source' board Refused (codes "refused key\n") input HasNoKey was (
            t,
            found.0,
            sym c.deref.ensures.value ∙ found.1,
            λ key valid is. none-some key (c.in_default-hss_key.ensures.found key valid is),
          )) (λ cells. refl) Refused sent.result sent.ensures tt refl;
    }

pub returns-then-hss_check : goal.returns-then-hss_check
returns-then-hss_check g c =
    let source = g.S.Source.supply c.args.source.now in
    let source' = g.S.Source.supply c.read_input.new.source in
    let board = g.B.Board.view c.args.board.now in
    let input = c.in-Ok.input.items in
    let was = c.in-Ok.ensures.read in
    let sent = c.send_answer-then-hss_check in
    let t = view c.in-Some.triple in
    let key = c.in-Some-hss_key.key in
    let found = Reads-some c.deref.result.now t c.in-Some.ensures in record {
      runs = read_then_sent sigcheck source source' board (g.met.B.Board.honest c.args.board.now)
          (good, tt, λ told. tt) input was (g.B.Board.view sent.new.board) good
          (on_any_board source source' board Done (codes "good\n") input IsGood was (
            t,
            key,
            record {
              valid = found.0;
              text = sym c.deref.ensures.value ∙ found.1;
              key_valid = c.in-Some-hss_key.ensures.valid;
              key_text = c.in-Some-hss_key.ensures.read;
            },
            subst (λ (m : List ℕ). HssHolds key m t.signature) (append-nil t.message)
                (c.hss_check.ensures.holds.0 c.if-hss_check.true),
          )) (λ cells. refl) Done sent.result sent.ensures tt refl;
    }

pub returns : goal.returns
returns g c =
    let source = g.S.Source.supply c.args.source.now in
    let source' = g.S.Source.supply c.read_input.new.source in
    let board = g.B.Board.view c.args.board.now in
    let input = c.in-Ok.input.items in
    let was = c.in-Ok.ensures.read in
    let sent = c.send_answer-else-hss_check in
    let t = view c.in-Some.triple in
    let key = c.in-Some-hss_key.key in
    let found = Reads-some c.deref.result.now t c.in-Some.ensures in record {
      runs = read_then_sent sigcheck source source' board (g.met.B.Board.honest c.args.board.now)
          (good, tt, λ told. tt) input was (g.B.Board.view sent.new.board) bad
          (on_any_board source source' board SomeRefused (codes "bad\n") input IsBad was (
            t,
            key,
            record {
              valid = found.0;
              text = sym c.deref.ensures.value ∙ found.1;
              key_valid = c.in-Some-hss_key.ensures.valid;
              key_text = c.in-Some-hss_key.ensures.read;
            },
            λ holds. false≢true
                (sym c.if-hss_check.false ∙ c.hss_check.ensures.holds.1
                (subst (λ (m : List ℕ). HssHolds key m t.signature) (sym (append-nil t.message)) holds)),
          )) (λ cells. refl) SomeRefused sent.result sent.ensures tt refl;
    }
