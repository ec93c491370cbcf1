-- The pieces between marks, as the library cuts a slice, finds a mark and goes over the pieces, and as a loop counts them.
-- Assumes nothing.
use mathlib.Core.Path.{◌≡◌, refl, sym, ap, subst, ◌∙◌}
use mathlib.Core.Bool.{Bool, true, false, not, cond, ◌&&◌}
use mathlib.Core.List.{List, [], ◌∷◌, ◌++◌}
use Prim.Native.Nat.{ℕ, suc, ◌+◌, ◌-◌, ◌≤◌, ◌<◌}
use mir.Val.{bool_byte}
use native.Mathlib.Omega.{arith}
use native.Mathlib.Numerals.{add-one}
use lib.Dec.{eqb}
use lib.ListN.{length, get_or, take, drop, length-drop, drop_of_length-le}
use lib.Seq.{take_all, drop-cons, length-take-le}
use Rattle.std.specs.List.{slice_split, onto_first, prefix_len, position_or_len, list_all, All, IsFirstMatchOrLen}
use Rattle.std.specs.Bool.{MatchBool}
use Rattle.std.specs.declared.slice.Split.{Split}
use Rattle.std.specs.Slice.Iter.{split_rest, split_done}
use Rattle.std.proofs.lemmas.Grind.{common_steps}
use Rattle.std.proofs.lemmas.List.Splits.{slice_split_none, slice_split_at}
use Rattle.std.proofs.lemmas.List.Sums.{prefix_len-le-length}
use Rattle.std.proofs.lemmas.List.Recursion.{is_position_or_len}
use Rattle.lemmas.specs.Lists.{all}
use Rattle.fields.specs.Cuts.{in_front, cut_at, until}

pub cut_split : (mark : ℕ) (l : List ℕ) → slice_split (λ c. eqb c mark) l ≡ cut_at mark l
cut_split mark [] = refl
cut_split mark (c ∷ l) =
    ap (λ (ps : List (List ℕ)). cond (eqb c mark) ([] ∷ ps) (onto_first c ps)) (cut_split mark l)
    ∙ at (eqb c mark) (cut_at mark l)
  where
    at : (b : Bool) (ps : List (List ℕ)) → cond b ([] ∷ ps) (onto_first c ps) ≡ in_front b c ps
    at true ps = refl
    at false [] = refl
    at false (p ∷ ps) = refl

pub one_more : (n : ℕ) → suc n ≡ 1 + n
one_more n = omega arith

pub until_position : (mark : ℕ) (l : List ℕ) → until mark l ≡ position_or_len (λ c. eqb c mark) l
until_position mark =
    is_position_or_len (until mark) (λ c. eqb c mark) refl (λ c l. ap (cond (eqb c mark) 0) (one_more (until mark l)))

pub until_taken : (mark : ℕ) (l : List ℕ) → length (take (prefix_len (λ c. not (eqb c mark)) l) l) ≡ until mark l
until_taken mark l =
    length-take-le _ l (prefix_len-le-length (λ c. not (eqb c mark)) l) ∙ sym (until_position mark l)

-- there is always a piece
pieces_some : (mark : ℕ) (l : List ℕ) → 0 < length (cut_at mark l)
pieces_some mark [] = omega arith
pieces_some mark (c ∷ l) = front_some (eqb c mark) (cut_at mark l)
  where
    front_some : (b : Bool) (ps : List (List ℕ)) → 0 < length (in_front b c ps)
    front_some true ps = omega arith
    front_some false [] = omega arith
    front_some false (p ∷ ps) = omega arith

-- from i on: the character at i, and those from i + 1 on
next_character : (l : List ℕ) (i : ℕ) → i < length l → drop i l ≡ get_or l i 0 ∷ drop (i + 1) l
next_character l i h = rw (add-one, drop-cons l i 0)

-- a scan over characters, one by one: what is left of the pieces at each place
module _ (mark : ℕ) (l : List ℕ) (i : ℕ) where
  pub pieces_next : i < length l →
      length (cut_at mark (drop i l)) ≡ bool_byte (eqb (get_or l i 0) mark) + length (cut_at mark (drop (i + 1) l))
  pieces_next h = rw (next_character l i h) (at (eqb (get_or l i 0) mark) (cut_at mark (drop (i + 1) l)) (pieces_some mark (drop (i + 1) l)))
    where
      at : (b : Bool) (ps : List (List ℕ)) → 0 < length ps → length (in_front b (get_or l i 0) ps) ≡ bool_byte b + length ps
      at true ps some = omega arith
      at false [] some = absurd (omega arith)
      at false (p ∷ ps) some = omega arith

  pub pieces_end : length l ≤ i → length (cut_at mark (drop i l)) ≡ 1
  pieces_end h = rw (drop_of_length-le l h)

-- the rest of a slice from a place on, as slicing gives it
pub rest_from : (l : List ℕ) (from : ℕ) → take (length l - from) (drop from l) ≡ drop from l
rest_from l from = take_all (length l - from) (drop from l) (omega (arith, length-drop from l))

-- the library's test of all
pub all_list : {A : Type 0} (p : A → Bool) (l : List A) → list_all p l ≡ all p l
all_list p [] = refl
all_list p (a ∷ l) = ap (λ (r : Bool). p a && r) (all_list p l)

-- all characters of the pieces: the marks are none of them
abbrev pub width : List (List ℕ) → ℕ
width [] = 0
width (p ∷ ps) = length p + width ps

pub cut_width : (mark : ℕ) (l : List ℕ) → width (cut_at mark l) ≤ length l
cut_width mark [] = omega arith
cut_width mark (c ∷ l) = at (eqb c mark) (cut_at mark l) (cut_width mark l)
  where
    at : (b : Bool) (ps : List (List ℕ)) → width ps ≤ length l → width (in_front b c ps) ≤ suc (length l)
    at true ps h = omega arith
    at false [] h = omega arith
    at false (p ∷ ps) h = omega arith

-- what the library's iterator over the pieces at the spaces has left
abbrev pub left : Split ℕ (Unit {0}) → List (List ℕ)
left s = cond (split_done s) [] (cut_at 32 (split_rest s))

pub left_start : (s : Split ℕ (Unit {0})) (l : List ℕ) → split_rest s ≡ l → split_done s ≡ false → left s ≡ cut_at 32 l
left_start s l e more = ap (λ (b : Bool). cond b [] (cut_at 32 (split_rest s))) more ∙ ap (cut_at 32) e

abbrev pub space : ℕ → Bool
space y = eqb y 32

pub left_none : (s : Split ℕ (Unit {0})) → split_done s ≡ true → left s ≡ []
left_none s e = ap (λ (b : Bool). cond b [] (cut_at 32 (split_rest s))) e

module _ (s t : Split ℕ (Unit {0})) where
  pub left_some : (x : List ℕ) → split_done s ≡ false →
      MatchBool (split_done t) (split_rest s ≡ x) ((y : ℕ) × (split_rest s ≡ x ++ (y ∷ split_rest t))) →
      IsFirstMatchOrLen space (split_rest s) (length x) → left s ≡ x ∷ left t
  left_some x more cut first =
      ap (λ (b : Bool). cond b [] (cut_at 32 (split_rest s))) more
      ∙ sym (cut_split 32 (split_rest s))
      ∙ at (split_done t) cut
    where
      at : (done : Bool) → MatchBool done (split_rest s ≡ x) ((y : ℕ) × (split_rest s ≡ x ++ (y ∷ split_rest t))) →
          slice_split space (split_rest s) ≡ x ∷ cond done [] (cut_at 32 (split_rest t))
      at true e = ap (slice_split space) e
          ∙ slice_split_none space x (λ k d l. subst (λ (ys : List ℕ). space (get_or ys k d) ≡ false) e (first.0 k d (omega arith) l))
      at false e =
          let front : All (λ z. space z ≡ false) x =
          λ k d l. let a = first.0 k d (omega arith) l in let b = e.1 in grind (arith, common_steps) in
          let hit : space e.0 ≡ true = let b = e.1 in let a = first.1 (grind (arith, common_steps)) e.0 in grind (arith, common_steps) in
          ap (slice_split space) e.1 ∙ slice_split_at space x e.0 (split_rest t) front hit
          ∙ ap (λ (ps : List (List ℕ)). x ∷ ps) (cut_split 32 (split_rest t))
