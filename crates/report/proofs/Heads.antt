-- What First and Next answer, as the head of the lists asked for.
-- Assumes nothing.
use mathlib.Core.Path.{◌≡◌, refl}
use mathlib.Core.List.{List, [], ◌∷◌}
use Prim.Native.Nat.{ℕ}
use lib.ListN.{length}
use Rattle.std.specs.Prelude.{Result, Ok, Err}
use Rattle.spec.specs.Refusals.{reason, Said, refused, is_answered}
use Rattle.spec.specs.Kits.{handed_out, kits, kits_after}
use Rattle.kits.specs.Kit.{IsFull}
use Rattle.kits.proofs.Form.{first_passes, next_passes}
use Rattle.kits.proofs.Says.{first_head, first_empty, next_head, next_empty}
use Rattle.refusals.specs.declared.Refusal.{Refusal}
use Rattle.lists.specs.Answer.{listed_says, FirstDoes, NextDoes}
use Rattle.report.specs.Asking.{Listable, AtHead}

-- 9 is said where there is no list, and the head is written where there is one
head_at : (ls : List (List ℕ)) {said : Said (Unit {0})} {wrote : List ℕ} (answer : Result (Unit {0}) Refusal) → listed_says answer ≡ said →
    (ls ≡ [] → said ≡ refused (reason 9 0)) →
    ((l : List ℕ) (rest : List (List ℕ)) → ls ≡ l ∷ rest → (said ≡ handed_out) × (wrote ≡ l)) →
    AtHead ls (is_answered (listed_says answer)) wrote
head_at [] (Ok _) e none some = let no_list = none refl in cc
head_at [] (Err why) e none some = refl
head_at (l ∷ rest) (Ok _) e none some = let head = some l rest refl in (rest, cc)
head_at (l ∷ rest) (Err why) e none some = let head = some l rest refl in cc

module _ (maker depot sheet kit : List ℕ) (known : Listable maker depot sheet kit) (answer : Result (Unit {0}) Refusal) (left : List ℕ) where
  pub first_at : FirstDoes maker depot sheet kit answer left → AtHead (kits maker depot sheet) (is_answered (listed_says answer)) left
  first_at does =
      let form = first_passes maker depot sheet known.passes kit known.size in
      rw does.writes
      (head_at (kits maker depot sheet) answer does.says (λ none. (first_empty maker depot sheet kit form none).0)
      (first_head maker depot sheet kit form))

  pub next_at : (given : List ℕ) → IsFull (length sheet) given → NextDoes maker depot sheet given kit answer left →
      AtHead (kits_after maker depot sheet given) (is_answered (listed_says answer)) left
  next_at given full does =
      let form = next_passes maker depot sheet known.passes kit known.size given full in
      rw does.writes
      (head_at (kits_after maker depot sheet given) answer does.says (λ none. (next_empty maker depot sheet given kit form none).0)
      (next_head maker depot sheet given kit form))
