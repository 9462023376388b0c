use Rattle.std.proofs.Common.{◌≡◌, drop}
use Rattle.std.specs.List.{list_all, list_any}
use Rattle.constraint_meet.specs.Places.{Key}
use Rattle.explain_text.specs.Keys.{is_key}
use Rattle.explain_text.proofs.hardware.one_lists_each.Given as goal

-- one of all places is such exactly where one of those that are left is
abbrev pub invariant-loop-key : goal.invariant-loop-key
invariant-loop-key l =
    list_any (λ (key : Key). list_all (λ id. is_key l.keys id key.1) l.types) l.places
    ≡ list_any (λ (key : Key). list_all (λ id. is_key l.keys id key.1) l.types) (drop l.key-index l.places)
