-- An error tells nothing of images.
use Rattle.std.proofs.Common.{◌≡◌, ℕ, List, [], ◌∷◌, ◌++◌, map, Option, refl, ap, if◌then◌else◌}
use Rattle.std.specs.List.{flat_map}
use Rattle.der_core.specs.Condition.{error_of}
use Rattle.der_core.specs.Element.{enc}
use Rattle.der_core.specs.LoadError.{error_number}
use Rattle.der_core.specs.Number.{number_contents}
use Rattle.der_core.specs.Shapes.{text_if}
use Rattle.package_attrs.specs.declared.name.PackageName.{PackageName}
use Rattle.package_attrs.specs.Identifier.{name_text}
use Rattle.config_table.specs.State.{Entry, State, entry_with, state_with}
use Rattle.module_record.specs.ModuleRecord.{number_text}
use Rattle.module_record.specs.declared.module.Module.{Module}
use Rattle.receipt_writer.specs.Answers.{hardware_text, current_text, error_text, tells_config}

same_packages : {I J : Type 0} (f : I → J) (packages : List (Entry I))
    → flat_map current_text (map (entry_with f) packages) ≡ flat_map current_text packages
same_packages f [] = refl
same_packages f (one ∷ more) = ap (λ (l : List ℕ). current_text one ++ l) (same_packages f more)

-- whatever stands for them in the state
pub same_error : {I J : Type 0} (f : I → J) (m : Module) (state : State I) (number : ℕ) (name : Option PackageName)
    → error_text m (state_with f state) number name ≡ error_text m state number name
same_error f m state number name =
    ap (λ (l : List ℕ). enc 0x30 (hardware_text m ++ (enc 0x0A (number_contents (error_number (error_of number)))
    ++ (number_text number ++ (text_if name_text name ++ (if tells_config number then enc 0xA1 l else []))))))
    (same_packages f state.packages)
