use Rattle.std.proofs.Common.{◌≡◌, Option, sym, subst, ap, ◌∙◌}
use Rattle.module_record.specs.declared.module.Module.{Module}
use Rattle.bank_layout.specs.declared.bank.Bank.{Bank}
use Rattle.bank_layout.specs.Manifest.{Manifest, named_blocks}
use Rattle.bank_layout.specs.Recovery.{HoldsModule, standing_of}
use Rattle.module_store.specs.declared.store.Store.{Store}
use Rattle.module_store.specs.Store.{manifest_of}
use Rattle.load_input.specs.Inputs.{IsCounted, ahead}
use Rattle.item_intake.specs.declared.fault.LoadFault.TheVariants as faults
use Rattle.load_item.specs.Answers.{Answers, StoodWith}
use Rattle.load_item.specs.Turns.{FailsItem}
use Rattle.load_item.proofs.JoinLemmas.{answer_fault, broken, counted_then, device_then, emptied, err_is, failed, grown, source_then, turned}
use Rattle.load_item.proofs.ReadLemmas.{stood}
use Rattle.load_item.proofs.item.answer_item.Goals as goal

pub answer-requires-clause-some : goal.answer-requires-clause-some
answer-requires-clause-some g c =
    let s : Store = c.args.store.now in
    let t : Store = c.next_item.new.store in
    let old = g.B.Board.view c.args.board.now in
    let mid = g.B.Board.view c.next_item.new.board in
    let left = ahead c.args.input.now (g.S.Source.supply c.args.source.now) in
    let left' = ahead c.next_item.new.input (g.S.Source.supply c.next_item.new.source) in
    let own : t.module ≡ s.module = c.next_item.ensures.owner in
    let says : manifest_of t ≡ manifest_of s = c.next_item.ensures.says in
    let runs : t.running ≡ s.running = c.next_item.ensures.running in
    let r = c.in_ok-item.ensures.read in
    (s.pool, r.octets, left', r.is, stood s t c.requires.valid c.requires.quiet own runs says)

pub answer-requires-clause-tree : goal.answer-requires-clause-tree
answer-requires-clause-tree g c =
    let s : Store = c.args.store.now in
    let t : Store = c.next_item.new.store in
    let old = g.B.Board.view c.args.board.now in
    let mid = g.B.Board.view c.next_item.new.board in
    let left = ahead c.args.input.now (g.S.Source.supply c.args.source.now) in
    let left' = ahead c.next_item.new.input (g.S.Source.supply c.next_item.new.source) in
    let own : t.module ≡ s.module = c.next_item.ensures.owner in
    let says : manifest_of t ≡ manifest_of s = c.next_item.ensures.says in
    let runs : t.running ≡ s.running = c.next_item.ensures.running in
    c.requires.tree ∙ ap (λ (m : Module). m.key) (sym own)

pub answer-requires-clause-holds : goal.answer-requires-clause-holds
answer-requires-clause-holds g c = λ tells.
    let s : Store = c.args.store.now in
    let t : Store = c.next_item.new.store in
    let old = g.B.Board.view c.args.board.now in
    let mid = g.B.Board.view c.next_item.new.board in
    let left = ahead c.args.input.now (g.S.Source.supply c.args.source.now) in
    let left' = ahead c.next_item.new.input (g.S.Source.supply c.next_item.new.source) in
    let own : t.module ≡ s.module = c.next_item.ensures.owner in
    let says : manifest_of t ≡ manifest_of s = c.next_item.ensures.says in
    let runs : t.running ≡ s.running = c.next_item.ensures.running in
    subst (λ (m : Module). HoldsModule mid.cells m t.running (manifest_of t)) (sym own)
    (subst (λ (o : Option Bank). HoldsModule mid.cells s.module o (manifest_of t)) (sym runs)
    (subst (λ (x : Manifest). HoldsModule mid.cells s.module s.running x) (sym says) (c.next_item.ensures.stays tells).now.0))

pub returns-clause-turn : goal.returns-clause-turn
returns-clause-turn g c =
    let s : Store = c.args.store.now in
    let t : Store = c.next_item.new.store in
    let old = g.B.Board.view c.args.board.now in
    let mid = g.B.Board.view c.next_item.new.board in
    let left = ahead c.args.input.now (g.S.Source.supply c.args.source.now) in
    let left' = ahead c.next_item.new.input (g.S.Source.supply c.next_item.new.source) in
    let own : t.module ≡ s.module = c.next_item.ensures.owner in
    let says : manifest_of t ≡ manifest_of s = c.next_item.ensures.says in
    let runs : t.running ≡ s.running = c.next_item.ensures.running in
    let r = c.in_ok-item.ensures.read in
    let u : Store = c.answer.new.store in
    let new = g.B.Board.view c.answer.new.board in
    let there : StoodWith t s.pool = stood s t c.requires.valid c.requires.quiet own runs says in
    let a : Answers g.B.Board.tells_cells g.B.Board.tells_moments s.module c.args.at (standing_of s.module (manifest_of s) mid.cells)
    (standing_of s.module (manifest_of u) new.cells) r.octets left' mid new c.answer.result =
    subst (λ (m : Module). Answers g.B.Board.tells_cells g.B.Board.tells_moments m c.args.at (standing_of m (manifest_of s) mid.cells)
    (standing_of m (manifest_of u) new.cells) r.octets left' mid new c.answer.result) own
    (subst (λ (x : Manifest). Answers g.B.Board.tells_cells g.B.Board.tells_moments t.module c.args.at (standing_of t.module x mid.cells)
    (standing_of t.module (manifest_of u) new.cells) r.octets left' mid new c.answer.result) says
    (c.answer.ensures.answers s.pool r.octets left' r.is there)) in
    turned s c.args.at old mid left left' c.args.input.now.passed c.next_item.new.input.passed c.next_item.new.input.octets
    (g.met.B.Board.honest c.args.board.now).whole c.next_item.ensures.stays c.next_item.ensures.touches.silent
    t.pool c.in_ok-item.item r c.in_ok-item.ensures.empty new (standing_of s.module (manifest_of u) new.cells) c.answer.result a

pub returns-clause-fails : goal.returns-clause-fails
returns-clause-fails g c =
    let s : Store = c.args.store.now in
    let t : Store = c.next_item.new.store in
    let old = g.B.Board.view c.args.board.now in
    let mid = g.B.Board.view c.next_item.new.board in
    let left = ahead c.args.input.now (g.S.Source.supply c.args.source.now) in
    let left' = ahead c.next_item.new.input (g.S.Source.supply c.next_item.new.source) in
    let own : t.module ≡ s.module = c.next_item.ensures.owner in
    let says : manifest_of t ≡ manifest_of s = c.next_item.ensures.says in
    let runs : t.running ≡ s.running = c.next_item.ensures.running in
    let r = c.in_ok-item.ensures.read in
    let u : Store = c.answer.new.store in
    let new = g.B.Board.view c.answer.new.board in
    let there : StoodWith t s.pool = stood s t c.requires.valid c.requires.quiet own runs says in
    let a : Answers g.B.Board.tells_cells g.B.Board.tells_moments s.module c.args.at (standing_of s.module (manifest_of s) mid.cells)
    (standing_of s.module (manifest_of u) new.cells) r.octets left' mid new c.answer.result =
    subst (λ (m : Module). Answers g.B.Board.tells_cells g.B.Board.tells_moments m c.args.at (standing_of m (manifest_of s) mid.cells)
    (standing_of m (manifest_of u) new.cells) r.octets left' mid new c.answer.result) own
    (subst (λ (x : Manifest). Answers g.B.Board.tells_cells g.B.Board.tells_moments t.module c.args.at (standing_of t.module x mid.cells)
    (standing_of t.module (manifest_of u) new.cells) r.octets left' mid new c.answer.result) says
    (c.answer.ensures.answers s.pool r.octets left' r.is there)) in
    failed s c.args.at old mid left left' c.args.input.now.passed c.next_item.new.input.passed c.next_item.new.input.octets
    (g.met.B.Board.honest c.args.board.now).whole c.next_item.ensures.stays c.next_item.ensures.touches.silent
    t.pool c.in_ok-item.item r c.in_ok-item.ensures.empty new (standing_of s.module (manifest_of u) new.cells) c.answer.result a

pub returns-clause-empty : goal.returns-clause-empty
returns-clause-empty g c =
    let s : Store = c.args.store.now in
    let t : Store = c.next_item.new.store in
    let old = g.B.Board.view c.args.board.now in
    let mid = g.B.Board.view c.next_item.new.board in
    let left = ahead c.args.input.now (g.S.Source.supply c.args.source.now) in
    let left' = ahead c.next_item.new.input (g.S.Source.supply c.next_item.new.source) in
    let own : t.module ≡ s.module = c.next_item.ensures.owner in
    let says : manifest_of t ≡ manifest_of s = c.next_item.ensures.says in
    let runs : t.running ≡ s.running = c.next_item.ensures.running in
    let r = c.in_ok-item.ensures.read in
    let u : Store = c.answer.new.store in
    let new = g.B.Board.view c.answer.new.board in
    let there : StoodWith t s.pool = stood s t c.requires.valid c.requires.quiet own runs says in
    let a : Answers g.B.Board.tells_cells g.B.Board.tells_moments s.module c.args.at (standing_of s.module (manifest_of s) mid.cells)
    (standing_of s.module (manifest_of u) new.cells) r.octets left' mid new c.answer.result =
    subst (λ (m : Module). Answers g.B.Board.tells_cells g.B.Board.tells_moments m c.args.at (standing_of m (manifest_of s) mid.cells)
    (standing_of m (manifest_of u) new.cells) r.octets left' mid new c.answer.result) own
    (subst (λ (x : Manifest). Answers g.B.Board.tells_cells g.B.Board.tells_moments t.module c.args.at (standing_of t.module x mid.cells)
    (standing_of t.module (manifest_of u) new.cells) r.octets left' mid new c.answer.result) says
    (c.answer.ensures.answers s.pool r.octets left' r.is there)) in
    emptied s c.args.at old mid left left' c.args.input.now.passed c.next_item.new.input.passed c.next_item.new.input.octets
    (g.met.B.Board.honest c.args.board.now).whole c.next_item.ensures.stays c.next_item.ensures.touches.silent
    t.pool c.in_ok-item.item r c.in_ok-item.ensures.empty new (standing_of s.module (manifest_of u) new.cells) c.answer.result a

pub returns-clause-grows : goal.returns-clause-grows
returns-clause-grows g c =
    let s : Store = c.args.store.now in
    let t : Store = c.next_item.new.store in
    let old = g.B.Board.view c.args.board.now in
    let mid = g.B.Board.view c.next_item.new.board in
    let left = ahead c.args.input.now (g.S.Source.supply c.args.source.now) in
    let left' = ahead c.next_item.new.input (g.S.Source.supply c.next_item.new.source) in
    let own : t.module ≡ s.module = c.next_item.ensures.owner in
    let says : manifest_of t ≡ manifest_of s = c.next_item.ensures.says in
    let runs : t.running ≡ s.running = c.next_item.ensures.running in
    let r = c.in_ok-item.ensures.read in
    let u : Store = c.answer.new.store in
    let new = g.B.Board.view c.answer.new.board in
    let there : StoodWith t s.pool = stood s t c.requires.valid c.requires.quiet own runs says in
    let a : Answers g.B.Board.tells_cells g.B.Board.tells_moments s.module c.args.at (standing_of s.module (manifest_of s) mid.cells)
    (standing_of s.module (manifest_of u) new.cells) r.octets left' mid new c.answer.result =
    subst (λ (m : Module). Answers g.B.Board.tells_cells g.B.Board.tells_moments m c.args.at (standing_of m (manifest_of s) mid.cells)
    (standing_of m (manifest_of u) new.cells) r.octets left' mid new c.answer.result) own
    (subst (λ (x : Manifest). Answers g.B.Board.tells_cells g.B.Board.tells_moments t.module c.args.at (standing_of t.module x mid.cells)
    (standing_of t.module (manifest_of u) new.cells) r.octets left' mid new c.answer.result) says
    (c.answer.ensures.answers s.pool r.octets left' r.is there)) in
    grown s c.args.at old mid left left' c.args.input.now.passed c.next_item.new.input.passed c.next_item.new.input.octets
    (g.met.B.Board.honest c.args.board.now).whole c.next_item.ensures.stays c.next_item.ensures.touches.silent
    t.pool c.in_ok-item.item r c.in_ok-item.ensures.empty new (standing_of s.module (manifest_of u) new.cells) c.answer.result a

pub returns-in_err-item-clause-fails : goal.returns-in_err-item-clause-fails
returns-in_err-item-clause-fails g c =
    let s : Store = c.args.store.now in
    let old = g.B.Board.view c.args.board.now in
    let mid = g.B.Board.view c.next_item.new.board in
    let left = ahead c.args.input.now (g.S.Source.supply c.args.source.now) in
    let left' = ahead c.next_item.new.input (g.S.Source.supply c.next_item.new.source) in
    err_is (FailsItem g.B.Board.tells_cells g.B.Board.tells_moments s.module c.args.at (standing_of s.module (manifest_of s) old.cells)
    old mid left left' c.args.input.now.passed c.next_item.new.input.passed c.next_item.new.input.octets)
    c.from_residual.result c.in_err-item.field-0.0 c.from_residual.ensures.1
    (broken s c.args.at old mid left left' c.args.input.now.passed c.next_item.new.input.passed c.next_item.new.input.octets
    (g.met.B.Board.honest c.args.board.now).whole c.next_item.ensures.stays c.next_item.ensures.touches.silent
    (c.half_of_the_blocks_are_free.ensures s.pool (named_blocks s.state) s.module.capacity c.requires.quiet c.requires.valid.blocks
    (c.packages_with_room_can_be_prepared.ensures.kept s c.requires.valid).blocks.few) c.in_err-item.field-0.0 c.in_err-item.ensures.breaks)

pub returns-clause-owner : goal.returns-clause-owner
returns-clause-owner g c = c.answer.ensures.keeps.owner ∙ c.next_item.ensures.owner

pub returns-clause-valid : goal.returns-clause-valid
returns-clause-valid g c = c.answer.ensures.keeps.valid

pub returns-clause-quiet : goal.returns-clause-quiet
returns-clause-quiet g c = c.answer.ensures.keeps.quiet

pub returns-clause-settled : goal.returns-clause-settled
returns-clause-settled g c = c.answer.ensures.keeps.settled

pub returns-clause-holds : goal.returns-clause-holds
returns-clause-holds g c = c.answer.ensures.keeps.holds

pub returns-clause-blocks : goal.returns-clause-blocks
returns-clause-blocks g c = c.answer.ensures.keeps.blocks ∙ c.next_item.ensures.touches.blocks

pub returns-clause-counted : goal.returns-clause-counted
returns-clause-counted g c = λ few.
    let s : Store = c.args.store.now in
    let t : Store = c.next_item.new.store in
    let old = g.B.Board.view c.args.board.now in
    let mid = g.B.Board.view c.next_item.new.board in
    let left = ahead c.args.input.now (g.S.Source.supply c.args.source.now) in
    let left' = ahead c.next_item.new.input (g.S.Source.supply c.next_item.new.source) in
    let own : t.module ≡ s.module = c.next_item.ensures.owner in
    let says : manifest_of t ≡ manifest_of s = c.next_item.ensures.says in
    let runs : t.running ≡ s.running = c.next_item.ensures.running in
    let r = c.in_ok-item.ensures.read in
    let u : Store = c.answer.new.store in
    let new = g.B.Board.view c.answer.new.board in
    let there : StoodWith t s.pool = stood s t c.requires.valid c.requires.quiet own runs says in
    let a : Answers g.B.Board.tells_cells g.B.Board.tells_moments s.module c.args.at (standing_of s.module (manifest_of s) mid.cells)
    (standing_of s.module (manifest_of u) new.cells) r.octets left' mid new c.answer.result =
    subst (λ (m : Module). Answers g.B.Board.tells_cells g.B.Board.tells_moments m c.args.at (standing_of m (manifest_of s) mid.cells)
    (standing_of m (manifest_of u) new.cells) r.octets left' mid new c.answer.result) own
    (subst (λ (x : Manifest). Answers g.B.Board.tells_cells g.B.Board.tells_moments t.module c.args.at (standing_of t.module x mid.cells)
    (standing_of t.module (manifest_of u) new.cells) r.octets left' mid new c.answer.result) says
    (c.answer.ensures.answers s.pool r.octets left' r.is there)) in
    counted_then c.answer.result
    (λ n. IsCounted n c.args.input.now c.next_item.new.input (g.S.Source.supply c.args.source.now).taken (g.S.Source.supply c.next_item.new.source).taken)
    a.fault (c.in_ok-item.ensures.counted few)

pub returns-clause-dry : goal.returns-clause-dry
returns-clause-dry g c = λ is.
    let s : Store = c.args.store.now in
    let t : Store = c.next_item.new.store in
    let old = g.B.Board.view c.args.board.now in
    let mid = g.B.Board.view c.next_item.new.board in
    let left = ahead c.args.input.now (g.S.Source.supply c.args.source.now) in
    let left' = ahead c.next_item.new.input (g.S.Source.supply c.next_item.new.source) in
    let own : t.module ≡ s.module = c.next_item.ensures.owner in
    let says : manifest_of t ≡ manifest_of s = c.next_item.ensures.says in
    let runs : t.running ≡ s.running = c.next_item.ensures.running in
    let r = c.in_ok-item.ensures.read in
    let u : Store = c.answer.new.store in
    let new = g.B.Board.view c.answer.new.board in
    let there : StoodWith t s.pool = stood s t c.requires.valid c.requires.quiet own runs says in
    let a : Answers g.B.Board.tells_cells g.B.Board.tells_moments s.module c.args.at (standing_of s.module (manifest_of s) mid.cells)
    (standing_of s.module (manifest_of u) new.cells) r.octets left' mid new c.answer.result =
    subst (λ (m : Module). Answers g.B.Board.tells_cells g.B.Board.tells_moments m c.args.at (standing_of m (manifest_of s) mid.cells)
    (standing_of m (manifest_of u) new.cells) r.octets left' mid new c.answer.result) own
    (subst (λ (x : Manifest). Answers g.B.Board.tells_cells g.B.Board.tells_moments t.module c.args.at (standing_of t.module x mid.cells)
    (standing_of t.module (manifest_of u) new.cells) r.octets left' mid new c.answer.result) says
    (c.answer.ensures.answers s.pool r.octets left' r.is there)) in
    absurd (answer_fault c.answer.result faults.Source a.fault is)

pub returns-clause-whole : goal.returns-clause-whole
returns-clause-whole g c = λ is.
    let s : Store = c.args.store.now in
    let t : Store = c.next_item.new.store in
    let old = g.B.Board.view c.args.board.now in
    let mid = g.B.Board.view c.next_item.new.board in
    let left = ahead c.args.input.now (g.S.Source.supply c.args.source.now) in
    let left' = ahead c.next_item.new.input (g.S.Source.supply c.next_item.new.source) in
    let own : t.module ≡ s.module = c.next_item.ensures.owner in
    let says : manifest_of t ≡ manifest_of s = c.next_item.ensures.says in
    let runs : t.running ≡ s.running = c.next_item.ensures.running in
    let r = c.in_ok-item.ensures.read in
    let u : Store = c.answer.new.store in
    let new = g.B.Board.view c.answer.new.board in
    let there : StoodWith t s.pool = stood s t c.requires.valid c.requires.quiet own runs says in
    let a : Answers g.B.Board.tells_cells g.B.Board.tells_moments s.module c.args.at (standing_of s.module (manifest_of s) mid.cells)
    (standing_of s.module (manifest_of u) new.cells) r.octets left' mid new c.answer.result =
    subst (λ (m : Module). Answers g.B.Board.tells_cells g.B.Board.tells_moments m c.args.at (standing_of m (manifest_of s) mid.cells)
    (standing_of m (manifest_of u) new.cells) r.octets left' mid new c.answer.result) own
    (subst (λ (x : Manifest). Answers g.B.Board.tells_cells g.B.Board.tells_moments t.module c.args.at (standing_of t.module x mid.cells)
    (standing_of t.module (manifest_of u) new.cells) r.octets left' mid new c.answer.result) says
    (c.answer.ensures.answers s.pool r.octets left' r.is there)) in
    absurd (answer_fault c.answer.result faults.TooLong a.fault is)

pub returns-clause-source : goal.returns-clause-source
returns-clause-source g c =
    let s : Store = c.args.store.now in
    let t : Store = c.next_item.new.store in
    let old = g.B.Board.view c.args.board.now in
    let mid = g.B.Board.view c.next_item.new.board in
    let left = ahead c.args.input.now (g.S.Source.supply c.args.source.now) in
    let left' = ahead c.next_item.new.input (g.S.Source.supply c.next_item.new.source) in
    let own : t.module ≡ s.module = c.next_item.ensures.owner in
    let says : manifest_of t ≡ manifest_of s = c.next_item.ensures.says in
    let runs : t.running ≡ s.running = c.next_item.ensures.running in
    let r = c.in_ok-item.ensures.read in
    let u : Store = c.answer.new.store in
    let new = g.B.Board.view c.answer.new.board in
    let there : StoodWith t s.pool = stood s t c.requires.valid c.requires.quiet own runs says in
    let a : Answers g.B.Board.tells_cells g.B.Board.tells_moments s.module c.args.at (standing_of s.module (manifest_of s) mid.cells)
    (standing_of s.module (manifest_of u) new.cells) r.octets left' mid new c.answer.result =
    subst (λ (m : Module). Answers g.B.Board.tells_cells g.B.Board.tells_moments m c.args.at (standing_of m (manifest_of s) mid.cells)
    (standing_of m (manifest_of u) new.cells) r.octets left' mid new c.answer.result) own
    (subst (λ (x : Manifest). Answers g.B.Board.tells_cells g.B.Board.tells_moments t.module c.args.at (standing_of t.module x mid.cells)
    (standing_of t.module (manifest_of u) new.cells) r.octets left' mid new c.answer.result) says
    (c.answer.ensures.answers s.pool r.octets left' r.is there)) in
    source_then (g.S.Source.supply c.args.source.now).faults (g.S.Source.supply c.next_item.new.source).faults c.in_ok-item.item c.answer.result
    c.in_ok-item.ensures.source a.fault

pub returns-clause-device : goal.returns-clause-device
returns-clause-device g c =
    let s : Store = c.args.store.now in
    let t : Store = c.next_item.new.store in
    let old = g.B.Board.view c.args.board.now in
    let mid = g.B.Board.view c.next_item.new.board in
    let left = ahead c.args.input.now (g.S.Source.supply c.args.source.now) in
    let left' = ahead c.next_item.new.input (g.S.Source.supply c.next_item.new.source) in
    let new = g.B.Board.view c.answer.new.board in
    device_then old.faults mid.faults new.faults c.in_ok-item.item c.answer.result c.in_ok-item.ensures.device c.answer.ensures.device
