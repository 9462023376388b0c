use Rattle.std.proofs.Common.{length, ◌∙◌, ap, arith, rules, ℕ, List}
use Rattle.edge_board.proofs.RunLemmas.{touch_wider}
use Rattle.bank_store.specs.Layout.{InModuleFormat}
use Rattle.bank_store.specs.Formats.{RecoversToNewModule}
use Rattle.bank_store.proofs.Moments.{unwritten, at_body, at_gate, is_module, module_formatted, module_leaves}
use Rattle.bank_store.proofs.Moments.{body_touches, format_touches}
use Rattle.bank_store.proofs.module_format.format.Goals as goal

pub returns-in_err-check_free-clause-moments : goal.returns-in_err-check_free-clause-moments
returns-in_err-check_free-clause-moments g c = λ told settled.
    unwritten told InModuleFormat (λ (image : List ℕ). RecoversToNewModule image c.args.holder.now) _ settled _
    c.check_free.ensures.touches

pub returns-in_err-check_free-clause-touches : goal.returns-in_err-check_free-clause-touches
returns-in_err-check_free-clause-touches g c = touch_wider _ _ (λ told i none. absurd none) c.check_free.ensures.touches

pub returns-in_err-record-clause-moments : goal.returns-in_err-record-clause-moments
returns-in_err-record-clause-moments g c = λ told settled.
    unwritten told InModuleFormat (λ (image : List ℕ). RecoversToNewModule image c.args.holder.now) _ settled _
    c.check_free.ensures.touches

pub returns-in_err-record-clause-touches : goal.returns-in_err-record-clause-touches
returns-in_err-record-clause-touches g c = touch_wider _ _ (λ told i none. absurd none) c.check_free.ensures.touches

pub write_module_body-requires-clause-fits : goal.write_module_body-requires-clause-fits
write_module_body-requires-clause-fits g c =
    omega (arith, ap length (c.deref.ensures.value ∙ c.in_ok-record.ensures.text), c.requires.fits)

pub returns-in_err-sealed-clause-moments : goal.returns-in_err-sealed-clause-moments
returns-in_err-sealed-clause-moments g c = λ told settled.
    at_body told InModuleFormat (λ (image : List ℕ). RecoversToNewModule image c.args.holder.now) _ settled
    (g.B.Board.view c.check_free.new.board) (c.in_ok-check_free.ensures.free told)
    c.check_free.ensures.touches (c.check_free.ensures.unchanged told) (λ i within. within)
    (c.in_ok-check_free.ensures.settled told (search rules)) _ c.write_module_body.ensures.writes

pub returns-in_err-open_gate-clause-moments : goal.returns-in_err-open_gate-clause-moments
returns-in_err-open_gate-clause-moments g c = λ told settled.
    at_gate told InModuleFormat (λ (image : List ℕ). RecoversToNewModule image c.args.holder.now) _ settled
    (g.B.Board.view c.check_free.new.board) (c.in_ok-check_free.ensures.free told)
    c.check_free.ensures.touches (c.check_free.ensures.unchanged told) (λ i within. within)
    (c.in_ok-check_free.ensures.settled told (search rules)) _ _
    c.write_module_body.ensures.writes (c.in_ok-sealed.ensures.sealed told) c.open_gate.ensures.touches
    (module_leaves told c.args.holder.now
    (λ image size gate stands row shut. c.a_fresh_module_is_empty.ensures.empty image c.args.holder.now
    (is_module c.args.holder.now c.requires.limits c.requires.fits) c.requires.fits size gate stands row shut)
    c.deref.result.now (c.deref.ensures.value ∙ c.in_ok-record.ensures.text) _ (g.met.B.Board.honest c.write_module_body.new.board)
    (omega (arith, c.in_ok-check_free.ensures.blocks, c.write_module_body.ensures.writes.touches.blocks)) c.requires.fits (c.in_ok-sealed.ensures.record told) (c.in_ok-sealed.ensures.row told)
    (c.in_ok-sealed.ensures.gates told))

pub returns-in_err-open_gate-clause-touches : goal.returns-in_err-open_gate-clause-touches
returns-in_err-open_gate-clause-touches g c =
    format_touches InModuleFormat _ _ _ _ (λ i within. within) c.check_free.ensures.touches c.write_module_body.ensures.writes
    c.open_gate.ensures.touches

pub returns-clause-moments : goal.returns-clause-moments
returns-clause-moments g c = λ told settled.
    at_gate told InModuleFormat (λ (image : List ℕ). RecoversToNewModule image c.args.holder.now) _ settled
    (g.B.Board.view c.check_free.new.board) (c.in_ok-check_free.ensures.free told)
    c.check_free.ensures.touches (c.check_free.ensures.unchanged told) (λ i within. within)
    (c.in_ok-check_free.ensures.settled told (search rules)) _ _
    c.write_module_body.ensures.writes (c.in_ok-sealed.ensures.sealed told) c.open_gate.ensures.touches
    (module_leaves told c.args.holder.now
    (λ image size gate stands row shut. c.a_fresh_module_is_empty.ensures.empty image c.args.holder.now
    (is_module c.args.holder.now c.requires.limits c.requires.fits) c.requires.fits size gate stands row shut)
    c.deref.result.now (c.deref.ensures.value ∙ c.in_ok-record.ensures.text) _ (g.met.B.Board.honest c.write_module_body.new.board)
    (omega (arith, c.in_ok-check_free.ensures.blocks, c.write_module_body.ensures.writes.touches.blocks)) c.requires.fits (c.in_ok-sealed.ensures.record told) (c.in_ok-sealed.ensures.row told)
    (c.in_ok-sealed.ensures.gates told))

pub returns-clause-touches : goal.returns-clause-touches
returns-clause-touches g c =
    format_touches InModuleFormat _ _ _ _ (λ i within. within) c.check_free.ensures.touches c.write_module_body.ensures.writes
    c.open_gate.ensures.touches

pub returns-clause-formatted : goal.returns-clause-formatted
returns-clause-formatted g c = λ told.
    module_formatted told c.args.holder.now
    (λ image size gate stands row shut. c.a_fresh_module_is_empty.ensures.empty image c.args.holder.now
    (is_module c.args.holder.now c.requires.limits c.requires.fits) c.requires.fits size gate stands row shut)
    c.deref.result.now (c.deref.ensures.value ∙ c.in_ok-record.ensures.text) _ (g.met.B.Board.honest c.write_module_body.new.board)
    (omega (arith, c.in_ok-check_free.ensures.blocks, c.write_module_body.ensures.writes.touches.blocks)) c.requires.fits (c.in_ok-sealed.ensures.record told) (c.in_ok-sealed.ensures.row told)
    (c.in_ok-sealed.ensures.gates told) _
    c.open_gate.ensures.touches (c.in_ok-open_gate.ensures.opened told)

pub returns-in_err-check_free-clause-held : goal.returns-in_err-check_free-clause-held
returns-in_err-check_free-clause-held g c = λ told held. search (rules, c.in_err-check_free.ensures.held told held)

pub returns-in_err-sealed-clause-touches : goal.returns-in_err-sealed-clause-touches
returns-in_err-sealed-clause-touches g c =
    body_touches InModuleFormat _ _ _ (λ i within. within) c.check_free.ensures.touches
    c.write_module_body.ensures.writes
