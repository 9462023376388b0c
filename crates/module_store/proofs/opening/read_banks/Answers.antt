use Rattle.std.proofs.Common.{sym, subst, rules, ℕ, List, Option}
use Rattle.edge_board.proofs.RunLemmas.{touch_then}
use Rattle.bank_layout.specs.declared.bank.Bank.{Bank}
use Rattle.bank_layout.specs.declared.bank.Bank.TheVariants.{Zero, One}
use Rattle.bank_layout.specs.Manifest.{Manifest}
use Rattle.bank_layout.specs.Recovery.{IsInForce}
use Rattle.module_store.specs.Store.{IsOwnedBy, HoldsNoModule}
use Rattle.module_store.proofs.Choices.{IsGate, chosen_in_force, gate_is}
use Rattle.module_store.proofs.Owners.{held_by_none_over, store_in_force}
use Rattle.module_store.proofs.opening.read_banks.Goals as goal

pub returns-in_err-zero-clause-none : goal.returns-in_err-zero-clause-none
returns-in_err-zero-clause-none g c = λ told refused.
    let none = c.in_err-zero.ensures.none told (search rules) in
    held_by_none_over c.one_module_record_each.ensures.unique _ c.args.owner (c.requires.owned told) Zero none.0 none.1

pub returns-in_err-one-clause-none : goal.returns-in_err-one-clause-none
returns-in_err-one-clause-none g c = λ told refused.
    let none = c.in_err-one.ensures.none told (search rules) in
    let same = c.read_bank.ensures.unchanged told in
    subst (λ (l : List ℕ). HoldsNoModule l) same
    (held_by_none_over c.one_module_record_each.ensures.unique _ c.args.owner
    (subst (λ (l : List ℕ). IsOwnedBy l c.args.owner) (sym same) (c.requires.owned told)) One none.0 none.1)

pub returns-in_err-one-clause-touches : goal.returns-in_err-one-clause-touches
returns-in_err-one-clause-touches g c = touch_then _ _ _ c.read_bank.ensures.touches c.read_bank-2.ensures.touches

pub returns-in_err-store_of-clause-touches : goal.returns-in_err-store_of-clause-touches
returns-in_err-store_of-clause-touches g c = touch_then _ _ _ c.read_bank.ensures.touches c.read_bank-2.ensures.touches

pub returns-clause-touches : goal.returns-clause-touches
returns-clause-touches g c = touch_then _ _ _ c.read_bank.ensures.touches c.read_bank-2.ensures.touches

pub returns-clause-store : goal.returns-clause-store
returns-clause-store g c = λ told.
    let cells = (g.B.Board.view c.args.board.now).cells in
    let capacity = c.args.owner.capacity in
    let s = c.in_ok-store_of.field-0 in
    let one = gate_is capacity (g.B.Board.view c.read_bank.new.board).cells One c.in_ok-one.one
    (c.in_ok-one.ensures.over told) (c.in_ok-one.ensures.shut told) in
    store_in_force cells c.args.owner (c.requires.owned told) s c.in_ok-store_of.ensures.owner
    (subst (λ (x : Option Bank × Manifest). IsInForce capacity cells x.0 x.1) (sym c.in_ok-store_of.ensures.chosen)
    (chosen_in_force capacity cells c.in_ok-zero.zero c.in_ok-one.one
    (gate_is capacity cells Zero c.in_ok-zero.zero (c.in_ok-zero.ensures.over told) (c.in_ok-zero.ensures.shut told))
    (subst (λ (l : List ℕ). IsGate capacity l One c.in_ok-one.one) (c.read_bank.ensures.unchanged told) one)))
