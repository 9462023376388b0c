-- `ident`: the line of the identifier whose text the whole input is (RFC 4108, section 2.2.3).
use Rattle.std.specs.Prelude.{◌≡◌, List, ℕ, codes}
use Rattle.package_attrs.specs.Identifier.{Named, identifier_text, IsIdentifier}
use Rattle.report_text.specs.Names.{identifier_line}
use Rattle.fwload_top.specs.declared.status.Status.TheVariants.{Done, Refused}
use Rattle.fwload_top.specs.Meaning.{Meaning, Answer, says, any, any_board}
use Rattle.fwload_top.specs.Meaning.Input.{read}

pub data Outcome : Type 0 where
  -- the input is the text of this identifier
  spelled : Named → Outcome
  -- it is no identifier's text
  no_identifier : Outcome

-- the input is the text of this identifier
abbrev pub Spells : Named → List ℕ → Type 0
Spells i input = IsIdentifier i × (input ≡ identifier_text i)

-- it is the text of none
abbrev pub SpellsNone : List ℕ → Type 0
SpellsNone input = (i : Named) → ¬ Spells i input

-- the line of an input that no command reads
abbrev pub refused_input : List ℕ
refused_input = codes "refused input\n"

abbrev pub answer : Outcome → Answer
answer (spelled i) = says Done (identifier_line i) any (read (Spells i))
answer no_identifier = says Refused refused_input any (read SpellsNone)

abbrev pub ident : Meaning
ident = record {
  Outcome = Outcome;
  answer = answer;
  needs = any_board;
  form = λ old input. (i : Named) × Spells i input;
}
