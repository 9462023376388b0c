-- The commands and their words; this project's own.
use Rattle.std.specs.Prelude.{◌≡◌, ℕ, List, [], ◌∷◌, map, string_bytes, codes}
use Rattle.std.specs.Global.{Global}
use Rattle.std.specs.declared.string.String.{String}
use Rattle.der_core.specs.Decimal.{moment_digits}
use Rattle.der_core.specs.Moment.{IsMoment}
use Rattle.fwload_top.specs.declared.words.Command.{Command}
use Rattle.fwload_top.specs.declared.words.Command.TheVariants as commands

-- the words of a command, after the flash file's name; a moment is its fourteen digits
abbrev pub words_of : Command → List (List ℕ)
words_of commands.Ident = codes "ident" ∷ []
words_of commands.Sigcheck = codes "sigcheck" ∷ []
words_of commands.KeyNew = codes "key-new" ∷ []
words_of commands.Make = codes "make" ∷ []
words_of commands.List = codes "list" ∷ []
words_of commands.Issue = codes "issue" ∷ []
words_of commands.Pack = codes "pack" ∷ []
words_of (commands.Rehearse at) = codes "rehearse" ∷ moment_digits at ∷ []
words_of (commands.Explain at) = codes "explain" ∷ moment_digits at ∷ []
words_of (commands.Load at) = codes "load" ∷ moment_digits at ∷ []

-- what the command speaks of is in its range
abbrev pub IsCommand : Command → Type 0
IsCommand commands.Ident = Unit {0}
IsCommand commands.Sigcheck = Unit {0}
IsCommand commands.KeyNew = Unit {0}
IsCommand commands.Make = Unit {0}
IsCommand commands.List = Unit {0}
IsCommand commands.Issue = Unit {0}
IsCommand commands.Pack = Unit {0}
IsCommand (commands.Rehearse at) = IsMoment at
IsCommand (commands.Explain at) = IsMoment at
IsCommand (commands.Load at) = IsMoment at

-- these words behind the flash file's name are the command's
abbrev pub Denotes : List (List ℕ) → Command → Type 0
Denotes words c = IsCommand c × (words ≡ words_of c)

-- the words are the flash file's name, which may be anything, and then the command's
abbrev pub Spells : List (List ℕ) → Command → Type 0
Spells words c = (file : List ℕ) × IsCommand c × (words ≡ file ∷ words_of c)

-- the words ask for the command
abbrev pub Asks : List (String Global) → Command → Type 0
Asks words c = Spells (map string_bytes words) c
