-- The pieces from a place on: the piece that starts there, and those after the mark at which it ends.
-- Assumes nothing.
use mathlib.Core.Path.{◌≡◌, refl, sym, ◌∙◌, ap}
use mathlib.Core.Bool.{Bool, true, false, cond}
use mathlib.Core.List.{List, [], ◌∷◌, ◌++◌, append-nil}
use Prim.Native.Nat.{ℕ, suc, ◌+◌, ◌≤◌, ◌<◌}
use native.Mathlib.Omega.{arith}
use native.Mathlib.Decide.{dec_lt}
use lib.Dec.{eqb}
use lib.ListN.{length, get_or, take, drop, length-drop}
use lib.Seq.{drop-drop, take_all, length-take-le}
use Rattle.fields.specs.Cuts.{in_front, cut_at, until, piece_from}

module _ (mark : ℕ) where
  pub until_below : (l : List ℕ) → until mark l ≤ length l
  until_below [] = omega arith
  until_below (c ∷ l) = at (eqb c mark) (until_below l)
    where
      at : (b : Bool) → until mark l ≤ length l → cond b 0 (suc (until mark l)) ≤ suc (length l)
      at true h = omega arith
      at false h = omega arith

  -- the first piece ends at a mark, and stays what it is, whatever comes after
  pub pieces_more : (l more : List ℕ) → until mark l < length l →
      cut_at mark (l ++ more) ≡ take (until mark l) l ∷ cut_at mark (drop (suc (until mark l)) l ++ more)
  pieces_more [] more h = absurd (omega arith)
  pieces_more (c ∷ l) more h = at (eqb c mark) (pieces_more l more) h
    where
      at : (b : Bool) → (until mark l < length l → cut_at mark (l ++ more) ≡ take (until mark l) l ∷ cut_at mark (drop (suc (until mark l)) l ++ more)) →
          cond b 0 (suc (until mark l)) < suc (length l) →
          in_front b c (cut_at mark (l ++ more)) ≡ take (cond b 0 (suc (until mark l))) (c ∷ l) ∷ cut_at mark
          (drop (suc (cond b 0 (suc (until mark l)))) (c ∷ l) ++ more)
      at true rest h = refl
      at false rest h = ap (in_front false c) (rest (omega arith))

  -- there is always a first piece
  pieces_some : (l : List ℕ) → cut_at mark l ≡ get_or (cut_at mark l) 0 [] ∷ drop 1 (cut_at mark l)
  pieces_some [] = refl
  pieces_some (c ∷ l) = at (eqb c mark) (cut_at mark l)
    where
      at : (b : Bool) (ps : List (List ℕ)) → in_front b c ps ≡ get_or (in_front b c ps) 0 [] ∷ drop 1 (in_front b c ps)
      at true ps = refl
      at false [] = refl
      at false (p ∷ ps) = refl

  -- the first piece has not ended yet: it goes on with what comes after
  pub pieces_on : (l more : List ℕ) → until mark l ≡ length l →
      cut_at mark (l ++ more) ≡ (l ++ get_or (cut_at mark more) 0 []) ∷ drop 1 (cut_at mark more)
  pieces_on [] more h = pieces_some more
  pieces_on (c ∷ l) more h = at (eqb c mark) (pieces_on l more) h
    where
      at : (b : Bool) → (until mark l ≡ length l → cut_at mark (l ++ more) ≡ (l ++ get_or (cut_at mark more) 0 []) ∷ drop 1 (cut_at mark more)) →
          cond b 0 (suc (until mark l)) ≡ suc (length l) →
          in_front b c (cut_at mark (l ++ more)) ≡ (c ∷ (l ++ get_or (cut_at mark more) 0 [])) ∷ drop 1 (cut_at mark more)
      at true rest h = absurd (omega (arith, h))
      at false rest h = ap (in_front false c) (rest (omega (arith, h)))

  -- the piece that starts at `from` ends at `end`
  module _ (l : List ℕ) (from end : ℕ) (within : from ≤ length l) (stop : end ≡ from + until mark (drop from l)) where
    pub end_below : end ≤ length l
    end_below = omega (arith, until_below (drop from l), length-drop from l)

    split_more : end < length l → cut_at mark (drop from l) ≡ piece_from mark l from ∷ cut_at mark (drop (end + 1) l)
    split_more h =
        let after : from + suc (until mark (drop from l)) ≡ end + 1 = omega arith in
        ap (cut_at mark) (sym (append-nil (drop from l)))
        ∙ pieces_more (drop from l) [] (omega (arith, length-drop from l))
        ∙ ap (λ (r : List ℕ). piece_from mark l from ∷ cut_at mark r)
        (append-nil _ ∙ drop-drop (suc (until mark (drop from l))) from l ∙ ap (λ (k : ℕ). drop k l) after)

    split_last : end ≡ length l → cut_at mark (drop from l) ≡ piece_from mark l from ∷ []
    split_last e =
        let all : until mark (drop from l) ≡ length (drop from l) = omega (arith, length-drop from l) in
        ap (cut_at mark) (sym (append-nil (drop from l)))
        ∙ pieces_on (drop from l) [] all
        ∙ ap (λ (p : List ℕ). p ∷ []) (append-nil (drop from l) ∙ sym (take_all (until mark (drop from l)) (drop from l) (omega arith)))

  module _ (l : List ℕ) (from : ℕ) (within : from ≤ length l) where
    pub piece_length : length (piece_from mark l from) ≡ until mark (drop from l)
    piece_length = length-take-le (until mark (drop from l)) (drop from l) (until_below (drop from l))

    pub first_piece : get_or (cut_at mark (drop from l)) 0 [] ≡ piece_from mark l from
    first_piece = at (dec_lt (from + until mark (drop from l)) (length l))
      where
        at : Dec (from + until mark (drop from l) < length l) → get_or (cut_at mark (drop from l)) 0 [] ≡ piece_from mark l from
        at (yes h) = rw (split_more l from _ within refl h)
        at (no h) = rw (split_last l from _ within refl (omega (arith, end_below l from _ within refl)))

    -- a piece that is not the last is followed by a mark, and the other pieces
    module _ (more : 1 < length (cut_at mark (drop from l))) where
      pub ends_before : from + until mark (drop from l) < length l
      ends_before = at (dec_lt (from + until mark (drop from l)) (length l))
        where
          at : Dec (from + until mark (drop from l) < length l) → from + until mark (drop from l) < length l
          at (yes h) = h
          at (no h) =
              let one = split_last l from _ within refl (omega (arith, end_below l from _ within refl)) in
              absurd (omega (arith, ap length one))

      pub next_pieces : (next : ℕ) → next ≡ from + until mark (drop from l) + 1 →
          cut_at mark (drop from l) ≡ piece_from mark l from ∷ cut_at mark (drop next l)
      next_pieces next e = rw e (split_more l from _ within refl ends_before)
