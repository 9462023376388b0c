use Rattle.std.proofs.Common.{◌≡◌, List, length}
use Rattle.der_core.specs.Shapes.{listed}
use Rattle.module_record.specs.ModuleReading.{AnchorParts, AreMade, anchor_at}
use Rattle.module_record.proofs.ListLemmas.{behind}
use Rattle.module_record.proofs.anchor_reading.read_anchors.Given as goal

-- the anchors so far are made of the first parts
abbrev pub invariant-loop-items : goal.invariant-loop-items
invariant-loop-items l =
    (done : List AnchorParts) × AreMade l.anchors.items done
    × (listed anchor_at l.contents ≡ behind done (listed anchor_at l.items))

abbrev pub decreases-loop-items : goal.decreases-loop-items
decreases-loop-items l = length l.items
