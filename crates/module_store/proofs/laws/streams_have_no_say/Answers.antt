use Rattle.bank_layout.specs.Layout.{first_image_block}
use Rattle.module_store.proofs.Streams.{stays, unnamed}
use Rattle.module_store.proofs.laws.streams_have_no_say.Goals as goal

pub returns-clause-stream : goal.returns-clause-stream
returns-clause-stream g c = λ told s old new size front after plan valid holds settled planned touches.
    stays told s (g.B.Board.view old) (g.B.Board.view new) holds settled
    (unnamed s plan valid (c.blocks_were_free.ensures first_image_block size front s.pool after plan planned))
    c.unnamed_blocks_have_no_say.ensures.store touches

pub returns-clause-nothing : goal.returns-clause-nothing
returns-clause-nothing g c = λ told s old new holds settled touches.
    stays told s (g.B.Board.view old) (g.B.Board.view new) holds settled (λ i none. absurd none)
    c.unnamed_blocks_have_no_say.ensures.store touches

pub returns-clause-unnamed : goal.returns-clause-unnamed
returns-clause-unnamed g c = λ s size front after plan valid planned.
    unnamed s plan valid (c.blocks_were_free.ensures first_image_block size front s.pool after plan planned)
