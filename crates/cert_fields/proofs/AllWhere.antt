-- A walk over values that are tested one after the other: those so far are good, so all are exactly where those that are
-- left are.
use Rattle.std.proofs.Common.{◌≡◌, ◌↔◌, List, [], ◌∷◌, IsTrue, true, false, refl, sym, subst}
use Rattle.std.specs.List.{AllByRecursion}
use Rattle.std.proofs.lemmas.Bool.{false≢true}

pub record AllWhere {V : Type 0} (P : V → Type 0) (all left : List V) : Type 0 where
  pub from : AllByRecursion P left → AllByRecursion P all
  pub to : AllByRecursion P all → AllByRecursion P left

pub none_so_far : {V : Type 0} (P : V → Type 0) (all left : List V) → left ≡ all → AllWhere P all left
none_so_far P all left same = record {
  from = λ h. subst (AllByRecursion P) same h;
  to = λ h. subst (AllByRecursion P) (sym same) h;
}

-- the next is good
pub one_further : {V : Type 0} (P : V → Type 0) (all before left : List V) (v : V) → AllWhere P all before
    → before ≡ v ∷ left → P v → AllWhere P all left
one_further P all before left v so_far is good = record {
  from = λ h. so_far.from (subst (AllByRecursion P) (sym is) (good, h));
  to = λ h. (subst (AllByRecursion P) is (so_far.to h)).1;
}

-- the next is not
pub not_all : {V : Type 0} (P : V → Type 0) (all before left : List V) (v : V) → AllWhere P all before
    → before ≡ v ∷ left → (P v → ⊥) → IsTrue false ↔ AllByRecursion P all
not_all P all before left v so_far is never =
    (λ wrong. absurd (false≢true wrong), λ h. absurd (never (subst (AllByRecursion P) is (so_far.to h)).0))

-- none is left
pub all_good : {V : Type 0} (P : V → Type 0) (all left : List V) → AllWhere P all left → left ≡ []
    → IsTrue true ↔ AllByRecursion P all
all_good P all left so_far end = (λ is. so_far.from (subst (AllByRecursion P) (sym end) tt), λ h. refl)
