-- The printed lines of a module's state and of a rehearsal; this project's own.
use Rattle.std.specs.Prelude.{ℕ, List, ◌++◌, codes}
use Rattle.std.specs.Fmt.{decimal}
use Rattle.std.specs.List.{flat_map}
use Rattle.hex.specs.Hex.{encode_lower}
use Rattle.der_core.specs.Condition.{error_of}
use Rattle.der_core.specs.LoadError.{error_number}
use Rattle.der_core.specs.Time.{last_digits}
use Rattle.package_attrs.specs.declared.name.PackageName.{PackageName}
use Rattle.config_table.specs.declared.stale_entry.StaleEntry.{StaleEntry}
use Rattle.config_table.specs.State.{Entry, State, last_stale}
pub use Rattle.config_table.specs.Stored.{lengths}
use Rattle.report_text.specs.Names.{named}

-- a package, with its image's length in octets and its digest: `package NAMED length N sha256 HEX`
abbrev pub package_line : Entry ℕ → List ℕ
package_line installed =
    codes "package " ++ named installed.name ++ codes " length " ++ decimal installed.image ++ codes " sha256 "
    ++ encode_lower installed.digest ++ codes "\n"

-- the last name that an entry makes stale: `stale NAMED`
abbrev pub stale_line : StaleEntry → List ℕ
stale_line entry = codes "stale " ++ named (last_stale entry) ++ codes "\n"

-- the packages in their order, and then the stale entries in theirs
abbrev pub state_lines : State ℕ → List ℕ
state_lines state = flat_map package_line state.packages ++ flat_map stale_line state.stale

-- a package that is accepted: `accepted NAMED`
abbrev pub accepted_line : PackageName → List ℕ
accepted_line name = codes "accepted " ++ named name ++ codes "\n"

-- a condition that fails, and the number of its code: `refused CONDITION CODE`
abbrev pub refused_line : ℕ → List ℕ
refused_line condition =
    codes "refused " ++ decimal condition ++ codes " " ++ decimal (error_number (error_of condition)) ++ codes "\n"

-- the moment of a rehearsal, in its fourteen digits: `rehearsal at YYYYMMDDhhmmss`
abbrev pub rehearsal_head : ℕ → List ℕ
rehearsal_head at = codes "rehearsal at " ++ last_digits 14 at ++ codes "\n"
