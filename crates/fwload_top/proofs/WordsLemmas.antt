-- The words of a command.
use Rattle.std.proofs.Common.{◌≡◌, ℕ, ◌+◌, ◌<◌, ◌≤◌, List, [], ◌∷◌, length, get_or, map, string_bytes, Option, Some}
use Rattle.std.proofs.Common.{None, refl, ap, ◌∙◌, sym, subst, arith}
use Rattle.std.specs.Prelude.{◌↔◌}
use Rattle.std.proofs.lemmas.Option.{none-some}
use Rattle.std.proofs.lemmas.List.{length-map}
use Rattle.std.specs.declared.string.String.{String}
use Rattle.std.specs.Global.{Global}
use Rattle.fwload_top.specs.declared.words.Command.{Command}
use Rattle.fwload_top.specs.declared.words.Command.TheVariants as commands
use Rattle.fwload_top.specs.Words.{words_of, Denotes, Asks}

-- the found command is the one that the words behind the file's name are of
abbrev pub IsNamed : Option Command → List (List ℕ) → Type 0
IsNamed found words = (c : Command) → (found ≡ Some c) ↔ Denotes words c

same_tail : {a b : List ℕ} {rest others : List (List ℕ)} → a ∷ rest ≡ b ∷ others → rest ≡ others
same_tail e = cc

-- the file's name may be anything
behind_file : (found : Option Command) (words : List (String Global)) (file : List ℕ) (rest : List (List ℕ))
    → map string_bytes words ≡ file ∷ rest → IsNamed found rest
    → (c : Command) → (found ≡ Some c) ↔ Asks words c
behind_file found words file rest is named c = (
  (λ e. let names = (named c).0 e in (file, names.0, is ∙ ap (λ (ws : List (List ℕ)). file ∷ ws) names.1)),
  λ asks. (named c).1 (asks.1, same_tail (sym is ∙ asks.2)),
)

-- two words ask for the command that the second names
pub asks_second : (found : Option Command) (words : List (String Global)) (word : String Global) → 2 ≤ length words
    → length words < 3 → word ≡ get_or words 1 word
    → IsNamed found (string_bytes word ∷ []) → (c : Command) → (found ≡ Some c) ↔ Asks words c
asks_second found [] word least most is names = absurd (omega (arith, least))
asks_second found (a ∷ []) word least most is names = absurd (omega (arith, least))
asks_second found (a ∷ (b ∷ [])) word least most is names =
    behind_file found (a ∷ (b ∷ [])) (string_bytes a) (string_bytes b ∷ []) refl
    (subst (λ (w : String Global). IsNamed found (string_bytes w ∷ [])) is names)
asks_second found (a ∷ (b ∷ (d ∷ ds))) word least most is names = absurd (omega (arith, most))

-- three words ask for the command that the second and the third name
pub asks_third : (found : Option Command) (words : List (String Global)) (word argument : String Global)
    → 3 ≤ length words → length words < 4
    → word ≡ get_or words 1 word → argument ≡ get_or words 2 argument
    → IsNamed found (string_bytes word ∷ string_bytes argument ∷ []) → (c : Command) → (found ≡ Some c) ↔ Asks words c
asks_third found [] word argument least most is also names = absurd (omega (arith, least))
asks_third found (a ∷ []) word argument least most is also names = absurd (omega (arith, least))
asks_third found (a ∷ (b ∷ [])) word argument least most is also names = absurd (omega (arith, least))
asks_third found (a ∷ (b ∷ (d ∷ []))) word argument least most is also names =
    behind_file found (a ∷ (b ∷ (d ∷ []))) (string_bytes a) (string_bytes b ∷ string_bytes d ∷ []) refl
    (subst (λ (w : String Global). IsNamed found (string_bytes b ∷ string_bytes w ∷ [])) also
    (subst (λ (w : String Global). IsNamed found (string_bytes w ∷ string_bytes argument ∷ [])) is names))
asks_third found (a ∷ (b ∷ (d ∷ (e ∷ es)))) word argument least most is also names = absurd (omega (arith, most))

-- other counts of words ask for none
pub asks_none : (words : List (String Global)) → (length words ≡ 2 → ⊥) → (length words ≡ 3 → ⊥) → (c : Command)
    → ◌≡◌ {A = Option Command} None (Some c) ↔ Asks words c
asks_none words two three c = ((λ e. absurd (none-some c e)), λ asks. absurd (other c asks))
  where
    size : (c : Command) → Asks words c → length words ≡ length (words_of c) + 1
    size c asks = omega (
      arith,
      ap (λ (ws : List (List ℕ)). length ws) asks.2,
      length-map words
          (string_bytes {Z = Global}),
    )

    other : (c : Command) → Asks words c → ⊥
    other commands.Ident asks = two (size commands.Ident asks)
    other commands.Sigcheck asks = two (size commands.Sigcheck asks)
    other commands.KeyNew asks = two (size commands.KeyNew asks)
    other commands.Make asks = two (size commands.Make asks)
    other commands.List asks = two (size commands.List asks)
    other commands.Issue asks = two (size commands.Issue asks)
    other commands.Pack asks = two (size commands.Pack asks)
    other (commands.Rehearse at) asks = three (size (commands.Rehearse at) asks)
    other (commands.Explain at) asks = three (size (commands.Explain at) asks)
    other (commands.Load at) asks = three (size (commands.Load at) asks)
