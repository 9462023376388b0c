-- The lines of `key-new` and `make`, and what a format leaves as a part of their run.
use Rattle.std.proofs.Common.{◌≡◌, ◌⊎◌, ℕ, ◌<◌, ◌≤◌, List, [], ◌∷◌, ◌++◌, Result, Ok, Err, codes, string_bytes}
use Rattle.std.proofs.Common.{zero, suc, refl, subst, inl, inr, ⊎_elim, arith}
use Rattle.std.specs.Prelude.{IfOk}
use Rattle.std.proofs.lemmas.Bool.{cases_lt}
use Rattle.std.specs.declared.string.String.{String}
use Rattle.std.specs.Global.{Global}
use Rattle.edge_board.specs.Supply.{Supply}
use Rattle.edge_board.specs.Board.{View, IsSettled, IsHonest, cell}
use Rattle.edge_board.specs.Runs.{LeavesOnly, Touches}
use Rattle.edge_board.proofs.SendLemmas.{sending_none}
use Rattle.bank_store.specs.declared.fault.FormatFault.{FormatFault}
use Rattle.bank_store.specs.declared.fault.FormatFault.TheVariants as faults
use Rattle.bank_store.specs.declared.fault.HolderFault.{HolderFault}
use Rattle.bank_store.specs.declared.fault.HolderFault.TheVariants as holder_faults
use Rattle.bank_store.specs.Formats.{FormatMoment}
use Rattle.recipe_text.proofs.KeyRecipes.{bad_of_ok}
use Rattle.recipe_text.proofs.RecipeLaws.{module_has_no_bad_line}
use Rattle.fwload_top.specs.Input.{WasRead}
use Rattle.fwload_top.specs.Meaning.{WritesNoFlash}
use Rattle.fwload_top.specs.AnswersOnce.{ComesTo, MayRead, CutLeaves}
use Rattle.fwload_top.specs.declared.making.HolderKind.{HolderKind}
use Rattle.fwload_top.specs.declared.making.HolderKind.TheVariants as kinds
use Rattle.fwload_top.specs.declared.making.NewHolder.{NewHolder}
use Rattle.fwload_top.specs.declared.making.NewHolder.TheVariants as holders
use Rattle.fwload_top.specs.Making.{making, answer, IsFree, IsRecipeOf, IsBadAt, InFormat, RecoversToNew, board_blocks}
use Rattle.fwload_top.specs.Making.Outcome.{bad_line, made}
use Rattle.fwload_top.proofs.AnswersOnceLemmas.{Wrote, Poised, has_input}

-- the line of a key, from its word and the texts of its two parts
pub line_of_parts : {E : Type 0} (line : Result (String Global) E) (word x y octets id : List ℕ) → x ≡ octets → y ≡ id
    → IfOk line (λ l. string_bytes l ≡ word ++ (codes " " ++ (x ++ (codes " " ++ (y ++ codes "\n")))))
    → IfOk line (λ l. string_bytes l ≡ word ++ (codes " " ++ (octets ++ (codes " " ++ (id ++ codes "\n")))))
line_of_parts line word x y octets id is_octets is_id text =
    subst (λ (i : List ℕ). IfOk line (λ l.
    string_bytes l ≡ word ++ (codes " " ++ (octets ++ (codes " " ++ (i ++ codes "\n"))))))
    is_id
    (subst (λ (o : List ℕ). IfOk line (λ l.
    string_bytes l ≡ word ++ (codes " " ++ (o ++ (codes " " ++ (y ++ codes "\n"))))))
    is_octets text)

-- a recipe has no bad line
pub no_bad_line : (kind : HolderKind) (input : List ℕ) (holder : NewHolder) (n : ℕ) → IsRecipeOf kind input holder
    → IsBadAt kind input n → ⊥
no_bad_line kinds.Key input (holders.Key key) n recipe bad = (bad_of_ok input key recipe n).1 bad
no_bad_line kinds.Key input (holders.Module m) n recipe bad = recipe
no_bad_line kinds.Module input (holders.Key key) n recipe bad = recipe
no_bad_line kinds.Module input (holders.Module m) n recipe bad = module_has_no_bad_line input m n recipe bad

-- one Err isn't another, and Ok isn't one
pub other_err : {T E : Type 0} (a b : E) → (a ≡ b → ⊥) → ◌≡◌ {A = Result T E} (Err a) (Err b) → ⊥
other_err a b other is = other cc

pub ok_no_err : {T E : Type 0} (x : T) (e : E) → ◌≡◌ {A = Result T E} (Ok x) (Err e) → ⊥
ok_no_err x e is = cc

-- a format that was refused didn't fail
pub held_is_no_fault : (f : FormatFault) → f ≡ faults.AlreadyHeld → f ≡ faults.Fault → ⊥
held_is_no_fault f is fault = cc

pub small_is_no_fault : (f : FormatFault) → f ≡ faults.TooSmall → f ≡ faults.Fault → ⊥
small_is_no_fault f is fault = cc

pub memory_is_no_fault : (f : FormatFault) → f ≡ faults.Memory → f ≡ faults.Fault → ⊥
memory_is_no_fault f is fault = cc

pub no_memory_is_no_fault : (f : HolderFault) → f ≡ holder_faults.Memory → f ≡ holder_faults.Fault → ⊥
no_memory_is_no_fault f is fault = cc

-- the input of a board that nobody holds is read
pub may_read : {tc : Type 0} (kind : HolderKind) (start : View) → (tc → IsFree start.cells)
    → MayRead (making kind) tc start
may_read kind start free = (bad_line 0, tt, free)

-- so many blocks, or fewer
pub few_or_enough : (n most : ℕ) → (n < most) ⊎ (most ≤ n)
few_or_enough n most = cases_lt n most

-- nobody holds a board of one octet
too_short : IsFree (1 ∷ [])
too_short = (
  (λ key holds. omega (arith, holds.size)),
  λ m running manifest holds. omega (arith, holds.size),
)

-- a format writes the board's first octet
writes_first : (holder : NewHolder) → InFormat holder 0
writes_first (holders.Key key) = omega arith
writes_first (holders.Module m) = inl (omega arith)

-- the commands write flash
writes : (kind : HolderKind) → NewHolder → WritesNoFlash (making kind) → ⊥
writes kind holder none =
    differ ((none (made holder) (0 ∷ []) (1 ∷ [])).0 (record { size = refl; each = rest }, too_short))
  where
    rest : (i : ℕ) → (InFormat holder i → ⊥) → cell (1 ∷ []) i ≡ cell (0 ∷ []) i
    rest zero out = absurd (out (writes_first holder))
    rest (suc i) out = refl

    differ : ◌≡◌ {A = List ℕ} (1 ∷ []) (0 ∷ []) → ⊥
    differ same = cc

module _ {tc tm : Type 0} (kind : HolderKind) (source source' : Supply) (start mid : View) (holder : NewHolder)
    (input : List ℕ) (honest : IsHonest tc tm start) (free : tc → IsFree start.cells)
    (room : board_blocks holder ≤ start.blocks) (was : WasRead source source' input)
    (recipe : IsRecipeOf kind input holder) where
  comes : ComesTo (answer kind (made holder)) tc source.left start.cells start.blocks
  comes = record {
    cells = free;
    blocks = room;
    input = has_input source source' input (λ input. IsRecipeOf kind input holder) was recipe;
  }

  -- whatever a format answers
  pub format_wrote : Touches tc (InFormat holder) start mid
      → (tc → IsSettled start
      → LeavesOnly start mid (FormatMoment (InFormat holder) (λ image. RecoversToNew image holder) start))
      → start.faults ≤ mid.faults → Wrote (making kind) tc tm source.left start mid
  format_wrote touches moments count = record {
    blocks = touches.blocks;
    silent = touches.silent;
    flash = λ none told. absurd (writes kind holder none);
    count = count;
    moments = λ told settled.
        let tells = honest.whole told in
        sending_none start mid (FormatMoment (InFormat holder) (λ image. RecoversToNew image holder) start)
        (CutLeaves (making kind) tc source.left start.cells start.blocks) (moments tells settled)
        (λ image s h. (
          h.1,
          inr (
            made holder,
            comes,
            ⊎_elim (λ nobody. inl (refl, (h.0.others, nobody)))
                (λ new. inr ((h.0.others, new), (0, omega arith, refl))) (h.0.free (free tells)),
          ),
        ));
  }

  -- a format that came to its end
  pub format_done : Wrote (making kind) tc tm source.left start mid → Touches tc (InFormat holder) start mid
      → (tc → RecoversToNew mid.cells holder) → (tc → IsSettled mid) → mid.faults ≡ start.faults
      → Poised (making kind) tc tm source source' start mid (made holder)
  format_done wrote touches formatted settled calm = record {
    wrote = wrote;
    comes = comes;
    read = λ is. was.end;
    cells = λ told. (touches.cells told, formatted told);
    settled = λ told s. settled told;
    calm = calm;
  }
