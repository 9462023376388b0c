use Rattle.std.proofs.Common.{◌∙◌, arith, ap, length, subst}
use Rattle.bank_gate.specs.States.{IsOpened}
use Rattle.bank_layout.specs.declared.bank.Bank.{Bank}
use Rattle.bank_layout.specs.Layout.{place_of}
use Rattle.module_store.specs.Store.{manifest_of, next_of}
use Rattle.module_store.proofs.Advancing.{next_valid, next_sequence, next_short}
use Rattle.module_store.proofs.InstallMoments.{wrote, switched, body_moments, installs, held_by}
use Rattle.module_store.proofs.installing.install.Goals as goal

pub write_manifest-requires-clause-fits : goal.write_manifest-requires-clause-fits
write_manifest-requires-clause-fits g c =
    omega (
      arith,
      ap length c.deref.ensures.value,
      next_short c.args.store.now c.args.ready c.requires.ready c.installed_states_are_kept.ensures.kept
          c.manifests_fit.ensures.size,
    )

pub returns-in_err-sealed-clause-moments : goal.returns-in_err-sealed-clause-moments
returns-in_err-sealed-clause-moments g c = λ told.
    body_moments c.args.store.now.module c.args.store.now.running (manifest_of c.args.store.now)
    (next_of c.args.ready) _ _ c.spare-bank.result c.spare-bank.ensures c.write_manifest.ensures.writes told
    (c.requires.holds told) (c.requires.settled told) (next_sequence c.args.store.now c.args.ready c.requires.ready)
    c.writing_leaves_old_or_new.ensures.moment

pub returns-in_err-sealed-clause-touches : goal.returns-in_err-sealed-clause-touches
returns-in_err-sealed-clause-touches g c =
    wrote c.args.store.now.module c.args.store.now.running (manifest_of c.args.store.now)
    (next_of c.args.ready) _ _ c.spare-bank.result c.spare-bank.ensures c.write_manifest.ensures.writes

pub returns-in_err-switch-clause-moments : goal.returns-in_err-switch-clause-moments
returns-in_err-switch-clause-moments g c = λ told.
    c.an_install_leaves_old_or_new.ensures.moments told c.args.board.now c.write_manifest.new.board
    c.switch.new.board c.args.store.now.module c.args.store.now.running (manifest_of c.args.store.now)
    (next_of c.args.ready)
    (installs c.args.store.now.module c.args.store.now.running (manifest_of c.args.store.now)
    (next_of c.args.ready) _ _ c.spare-bank.result c.spare-bank.ensures c.write_manifest.ensures.writes told
    (c.requires.holds told) (c.requires.settled told) (next_sequence c.args.store.now c.args.ready c.requires.ready)
    (next_valid c.args.store.now c.args.ready c.requires.ready c.installed_states_are_kept.ensures.kept)
    c.deref.result.now (c.deref.ensures.value ∙ c.requires.ready.text) (c.in_ok-sealed.ensures.stands told)
    (c.in_ok-sealed.ensures.sealed told) _ c.switch.ensures.touches)

pub returns-in_err-switch-clause-touches : goal.returns-in_err-switch-clause-touches
returns-in_err-switch-clause-touches g c =
    switched c.args.store.now.module c.args.store.now.running (manifest_of c.args.store.now)
    (next_of c.args.ready) _ _ c.spare-bank.result c.spare-bank.ensures c.write_manifest.ensures.writes _
    c.switch.ensures.touches

pub returns-clause-moments : goal.returns-clause-moments
returns-clause-moments g c = λ told.
    c.an_install_leaves_old_or_new.ensures.moments told c.args.board.now c.write_manifest.new.board
    c.switch.new.board c.args.store.now.module c.args.store.now.running (manifest_of c.args.store.now)
    (next_of c.args.ready)
    (installs c.args.store.now.module c.args.store.now.running (manifest_of c.args.store.now)
    (next_of c.args.ready) _ _ c.spare-bank.result c.spare-bank.ensures c.write_manifest.ensures.writes told
    (c.requires.holds told) (c.requires.settled told) (next_sequence c.args.store.now c.args.ready c.requires.ready)
    (next_valid c.args.store.now c.args.ready c.requires.ready c.installed_states_are_kept.ensures.kept)
    c.deref.result.now (c.deref.ensures.value ∙ c.requires.ready.text) (c.in_ok-sealed.ensures.stands told)
    (c.in_ok-sealed.ensures.sealed told) _ c.switch.ensures.touches)

pub returns-clause-touches : goal.returns-clause-touches
returns-clause-touches g c =
    switched c.args.store.now.module c.args.store.now.running (manifest_of c.args.store.now)
    (next_of c.args.ready) _ _ c.spare-bank.result c.spare-bank.ensures c.write_manifest.ensures.writes _
    c.switch.ensures.touches

pub returns-clause-holds : goal.returns-clause-holds
returns-clause-holds g c = λ told.
    held_by c.advance.new.store _ c.args.store.now.module c.args.store.now.running c.spare-bank.result
    (next_of c.args.ready) c.advance.ensures.owner c.advance.ensures.running c.spare-bank.ensures
    c.advance.ensures.installed
    (c.an_install_leaves_old_or_new.ensures.installed told c.args.board.now c.write_manifest.new.board
    c.switch.new.board c.args.store.now.module c.args.store.now.running (manifest_of c.args.store.now)
    (next_of c.args.ready)
    (installs c.args.store.now.module c.args.store.now.running (manifest_of c.args.store.now)
    (next_of c.args.ready) _ _ c.spare-bank.result c.spare-bank.ensures c.write_manifest.ensures.writes told
    (c.requires.holds told) (c.requires.settled told) (next_sequence c.args.store.now c.args.ready c.requires.ready)
    (next_valid c.args.store.now c.args.ready c.requires.ready c.installed_states_are_kept.ensures.kept)
    c.deref.result.now (c.deref.ensures.value ∙ c.requires.ready.text) (c.in_ok-sealed.ensures.stands told)
    (c.in_ok-sealed.ensures.sealed told) _ c.switch.ensures.touches)
    (subst (λ (b : Bank). IsOpened (place_of b) (g.B.Board.view c.switch.new.board)) c.spare-bank.ensures
    (c.in_ok-switch.ensures.opened told))).0

pub returns-clause-standing : goal.returns-clause-standing
returns-clause-standing g c = λ told.
    (c.an_install_leaves_old_or_new.ensures.installed told c.args.board.now c.write_manifest.new.board
    c.switch.new.board c.args.store.now.module c.args.store.now.running (manifest_of c.args.store.now)
    (next_of c.args.ready)
    (installs c.args.store.now.module c.args.store.now.running (manifest_of c.args.store.now)
    (next_of c.args.ready) _ _ c.spare-bank.result c.spare-bank.ensures c.write_manifest.ensures.writes told
    (c.requires.holds told) (c.requires.settled told) (next_sequence c.args.store.now c.args.ready c.requires.ready)
    (next_valid c.args.store.now c.args.ready c.requires.ready c.installed_states_are_kept.ensures.kept)
    c.deref.result.now (c.deref.ensures.value ∙ c.requires.ready.text) (c.in_ok-sealed.ensures.stands told)
    (c.in_ok-sealed.ensures.sealed told) _ c.switch.ensures.touches)
    (subst (λ (b : Bank). IsOpened (place_of b) (g.B.Board.view c.switch.new.board)) c.spare-bank.ensures
    (c.in_ok-switch.ensures.opened told))).1
