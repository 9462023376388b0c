-- The printed lines of a module; this project's own.
use Rattle.std.specs.Prelude.{ℕ, List, ◌++◌, codes}
use Rattle.std.specs.Fmt.{decimal}
use Rattle.hex.specs.Hex.{encode_lower}
use Rattle.lms_sign.specs.PublicKeys.{leaf_count}
use Rattle.module_record.specs.declared.module.Module.{Module}
use Rattle.config_table.specs.State.{State}
use Rattle.report_text.specs.Dotted.{dotted_of}
use Rattle.report_text.specs.Lines.{state_lines}

-- `module HWTYPE SERIAL capacity C`
abbrev pub module_line : Module → List ℕ
module_line m =
    codes "module "
    ++ (dotted_of m.hw_type ++ (codes " " ++ (encode_lower m.serial ++ (codes " capacity " ++ (decimal m.capacity ++ codes "\n")))))

-- `sequence N`, and `spent N of LEAVES`
abbrev pub counts_lines : ℕ → ℕ → ℕ → List ℕ
counts_lines sequence spent leaves =
    codes "sequence " ++ decimal sequence ++ codes "\nspent " ++ decimal spent ++ codes " of " ++ decimal leaves
    ++ codes "\n"

-- the module, its sequence number, the leaves of its key that are spent, and the state
abbrev pub list_lines : Module → ℕ → ℕ → State ℕ → List ℕ
list_lines m sequence spent state =
    module_line m ++ counts_lines sequence spent (leaf_count m.key) ++ state_lines state
