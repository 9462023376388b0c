use Rattle.std.proofs.Common.{length, ◌∙◌, ap, arith, rules, ℕ, List}
use Rattle.edge_board.proofs.RunLemmas.{touch_wider}
use Rattle.module_record.proofs.KeyLaws.{key_size}
use Rattle.bank_layout.specs.Layout.{InKeyBoard}
use Rattle.bank_store.specs.Formats.{RecoversToNewKey}
use Rattle.bank_store.proofs.Moments.{unwritten, at_body, at_gate, formatted, gate_leaves, in_key_board}
use Rattle.bank_store.proofs.Moments.{format_touches}
use Rattle.bank_store.proofs.key_format.format_key.Goals as goal

pub returns-in_err-check_free-clause-moments : goal.returns-in_err-check_free-clause-moments
returns-in_err-check_free-clause-moments g c = λ told settled.
    unwritten told InKeyBoard (λ (image : List ℕ). RecoversToNewKey image c.args.key.now) _ settled _
    c.check_free.ensures.touches

pub returns-in_err-check_free-clause-touches : goal.returns-in_err-check_free-clause-touches
returns-in_err-check_free-clause-touches g c = touch_wider _ _ (λ told i none. absurd none) c.check_free.ensures.touches

pub returns-in_err-record-clause-moments : goal.returns-in_err-record-clause-moments
returns-in_err-record-clause-moments g c = λ told settled.
    unwritten told InKeyBoard (λ (image : List ℕ). RecoversToNewKey image c.args.key.now) _ settled _
    c.check_free.ensures.touches

pub returns-in_err-record-clause-touches : goal.returns-in_err-record-clause-touches
returns-in_err-record-clause-touches g c = touch_wider _ _ (λ told i none. absurd none) c.check_free.ensures.touches

pub write_body-requires-clause-fits : goal.write_body-requires-clause-fits
write_body-requires-clause-fits g c = omega (
  arith,
  ap length (c.deref.ensures.value ∙ c.in_ok-record.ensures.text),
  key_size c.args.key.now c.in_ok-record.ensures.valid,
)

pub returns-in_err-sealed-clause-moments : goal.returns-in_err-sealed-clause-moments
returns-in_err-sealed-clause-moments g c = λ told settled.
    at_body told InKeyBoard (λ (image : List ℕ). RecoversToNewKey image c.args.key.now) _ settled
    (g.B.Board.view c.check_free.new.board) (c.in_ok-check_free.ensures.free told)
    c.check_free.ensures.touches (c.check_free.ensures.unchanged told) in_key_board
    (c.in_ok-check_free.ensures.settled told (search rules)) _ c.write_body.ensures.writes

pub returns-in_err-open_gate-clause-moments : goal.returns-in_err-open_gate-clause-moments
returns-in_err-open_gate-clause-moments g c = λ told settled.
    at_gate told InKeyBoard (λ (image : List ℕ). RecoversToNewKey image c.args.key.now) _ settled
    (g.B.Board.view c.check_free.new.board) (c.in_ok-check_free.ensures.free told)
    c.check_free.ensures.touches (c.check_free.ensures.unchanged told) in_key_board
    (c.in_ok-check_free.ensures.settled told (search rules)) _ _
    c.write_body.ensures.writes (c.in_ok-sealed.ensures.sealed told) c.open_gate.ensures.touches
    (gate_leaves told c.args.key.now c.in_ok-record.ensures.valid c.deref.result.now
    (c.deref.ensures.value ∙ c.in_ok-record.ensures.text) _ (g.met.B.Board.honest c.write_body.new.board)
    (omega (arith, c.in_ok-check_free.ensures.blocks, c.write_body.ensures.writes.touches.blocks)) (c.in_ok-sealed.ensures.record told) (c.in_ok-sealed.ensures.row told))

pub returns-in_err-open_gate-clause-touches : goal.returns-in_err-open_gate-clause-touches
returns-in_err-open_gate-clause-touches g c =
    format_touches InKeyBoard _ _ _ _ in_key_board c.check_free.ensures.touches c.write_body.ensures.writes
    c.open_gate.ensures.touches

pub returns-clause-moments : goal.returns-clause-moments
returns-clause-moments g c = λ told settled.
    at_gate told InKeyBoard (λ (image : List ℕ). RecoversToNewKey image c.args.key.now) _ settled
    (g.B.Board.view c.check_free.new.board) (c.in_ok-check_free.ensures.free told)
    c.check_free.ensures.touches (c.check_free.ensures.unchanged told) in_key_board
    (c.in_ok-check_free.ensures.settled told (search rules)) _ _
    c.write_body.ensures.writes (c.in_ok-sealed.ensures.sealed told) c.open_gate.ensures.touches
    (gate_leaves told c.args.key.now c.in_ok-record.ensures.valid c.deref.result.now
    (c.deref.ensures.value ∙ c.in_ok-record.ensures.text) _ (g.met.B.Board.honest c.write_body.new.board)
    (omega (arith, c.in_ok-check_free.ensures.blocks, c.write_body.ensures.writes.touches.blocks)) (c.in_ok-sealed.ensures.record told) (c.in_ok-sealed.ensures.row told))

pub returns-clause-touches : goal.returns-clause-touches
returns-clause-touches g c =
    format_touches InKeyBoard _ _ _ _ in_key_board c.check_free.ensures.touches c.write_body.ensures.writes
    c.open_gate.ensures.touches

pub returns-clause-formatted : goal.returns-clause-formatted
returns-clause-formatted g c = λ told.
    formatted told c.args.key.now c.in_ok-record.ensures.valid c.deref.result.now
    (c.deref.ensures.value ∙ c.in_ok-record.ensures.text) _ (g.met.B.Board.honest c.write_body.new.board)
    (omega (arith, c.in_ok-check_free.ensures.blocks, c.write_body.ensures.writes.touches.blocks)) (c.in_ok-sealed.ensures.record told) (c.in_ok-sealed.ensures.row told) _
    c.open_gate.ensures.touches (c.in_ok-open_gate.ensures.opened told)
