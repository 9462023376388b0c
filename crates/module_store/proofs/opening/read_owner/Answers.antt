use Rattle.std.proofs.Common.{◌≡◌, ◌∙◌, sym, arith, rules}
use Rattle.std.proofs.lemmas.Bool.{false≢true}
use Rattle.bank_gate.specs.States.{IsOpen}
use Rattle.bank_layout.specs.Layout.{factory, record_octets}
use Rattle.module_store.proofs.Owners.{is_owner, no_record, too_small}
use Rattle.module_store.proofs.opening.read_owner.Goals as goal

pub returns-in_default-2-clause-owner : goal.returns-in_default-2-clause-owner
returns-in_default-2-clause-owner g c = λ told.
    let cells = (g.B.Board.view c.args.board.now).cells in
    let record_is : c.in-Some.record.items ≡ record_octets cells = search rules in
    no_record cells c.deref.result.now (c.deref.ensures.value ∙ record_is) _ c.in_ok-owner.ensures.spelled
    c.in_default-2.not-Some

pub returns-clause-owner : goal.returns-clause-owner
returns-clause-owner g c = λ told.
    let cells = (g.B.Board.view c.args.board.now).cells in
    let record_is : c.in-Some.record.items ≡ record_octets cells = search rules in
    too_small cells c.deref.result.now (c.deref.ensures.value ∙ record_is) _ c.in_ok-owner.ensures.spelled
    c.in-Some-2.owner c.in-Some-2.is
    (λ le. false≢true (sym c.if-has_room.false ∙ c.has_room.ensures.1 (omega (
      arith,
      le,
      (g.met.B.Board.honest c.args.board.now).size told,
      c.read_record.ensures.touches.blocks,
      c.blocks-2.ensures.number,
    ))))

pub returns-then-has_room-clause-owner : goal.returns-then-has_room-clause-owner
returns-then-has_room-clause-owner g c = λ told.
    let cells = (g.B.Board.view c.args.board.now).cells in
    let record_is : c.in-Some.record.items ≡ record_octets cells = search rules in
    let gate : IsOpen factory cells = search rules in
    is_owner cells c.deref.result.now (c.deref.ensures.value ∙ record_is) _ c.in_ok-owner.ensures.spelled
    c.in-Some-2.owner c.in-Some-2.is gate
    (omega (
      arith,
      c.has_room.ensures.0 c.if-has_room.true,
      (g.met.B.Board.honest c.args.board.now).size told,
      c.read_record.ensures.touches.blocks,
      c.blocks-2.ensures.number,
    ))

pub returns-then-has_room-clause-valid : goal.returns-then-has_room-clause-valid
returns-then-has_room-clause-valid g c =
    ((c.in_ok-owner.ensures.spelled c.in-Some-2.owner).0 c.in-Some-2.is).0
