-- The test by which the number of stale entries after a package is told.
use Rattle.std.specs.Prelude.{Bool, false, is_none}
use Rattle.std.specs.Option.{option_map_or}
use Rattle.config_table.specs.State.{State, Offer, last_stale, stale_of}

-- whether the package makes an entry of an identifier or a legacy name that isn't there
abbrev pub adds_stale_entry : {I : Type 0} → Offer → State I → Bool
adds_stale_entry offer state =
    option_map_or (λ made. is_none (stale_of (last_stale made) state)) offer.makes_stale false
