-- The printed lines of a path and of a verdict; this project's own.
use Rattle.std.specs.Prelude.{ℕ, List, ◌++◌, Option, Some, None, codes}
use Rattle.std.specs.Fmt.{decimal}
use Rattle.report_text.specs.Lines.{refused_line}

-- how many certificates there are, and the place of the anchor, from 0: `path N anchor P`
abbrev pub path_line : ℕ → ℕ → List ℕ
path_line certificates anchor = codes "path " ++ decimal certificates ++ codes " anchor " ++ decimal anchor ++ codes "\n"

-- `verdict accepted`, or `verdict refused CONDITION CODE`
abbrev pub verdict_line : Option ℕ → List ℕ
verdict_line None = codes "verdict accepted\n"
verdict_line (Some condition) = codes "verdict " ++ refused_line condition
