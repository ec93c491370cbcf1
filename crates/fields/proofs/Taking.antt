-- Fields decoded one after the other into one buffer: their parts stand at its front, and the ends say where.
-- Assumes nothing.
use mathlib.Core.Path.{◌≡◌, refl, sym, ◌∙◌, ap}
use mathlib.Core.Bool.{true, ◌&&◌}
use mathlib.Core.List.{List, [], ◌∷◌, ◌++◌, append_assoc, append-nil}
use Prim.Native.Nat.{ℕ, zero, suc, ◌+◌, ◌*◌, ◌-◌, ◌≤◌, ◌<◌}
use native.Mathlib.Omega.{arith}
use native.Mathlib.Numerals.{add-one}
use native.Mathlib.Decide.{dec_lt, ℕ_discrete}
use lib.Dec.{T}
use lib.ListN.{length, get_or, set, take, drop, length-append, length-drop, length-set, get_or-eq_default}
use lib.Seq.{take_all, length-take-le, get_or-set_same, get_or-set_other}
use Rattle.lemmas.specs.Lists.{all}
use Rattle.lemmas.proofs.Tests.{T_true, true_T, both_left, both_right}
use Rattle.text.specs.Spelling.{spelt}
use Rattle.text.specs.Putting.{Put}
use Rattle.text.proofs.Puts.{put_length, put_front}
use Rattle.fields.specs.Fields.{fields_of, is_field, bytes_in, part}
use Rattle.fields.specs.Ends.{part_in, EndsInOrder, RightFields, PartsTaken}
use Rattle.fields.proofs.Scanning.{width, cut_width}
use Rattle.fields.proofs.Pieces.{bytes_half, piece}

-- the bytes that fields give, one after the other
abbrev pub fields_bytes : List (List ℕ) → List ℕ
fields_bytes fs = spelt bytes_in fs

bytes_append : (fs gs : List (List ℕ)) → fields_bytes (fs ++ gs) ≡ fields_bytes fs ++ fields_bytes gs
bytes_append [] gs = refl
bytes_append (f ∷ fs) gs =
    ap (λ (x : List ℕ). bytes_in f ++ x) (bytes_append fs gs) ∙ sym (append_assoc (bytes_in f) (fields_bytes fs) (fields_bytes gs))

-- where part k starts
unfoldable pub end_of : List (List ℕ) → ℕ → ℕ
end_of fs k = length (fields_bytes (take k fs))

-- part k stands between those before it and those after it
bytes_part : (fs : List (List ℕ)) (k : ℕ) → fields_bytes fs ≡ fields_bytes (take k fs) ++ (part fs k ++ fields_bytes (drop (suc k) fs))
bytes_part [] zero = refl
bytes_part [] (suc k) = refl
bytes_part (f ∷ fs) zero = refl
bytes_part (f ∷ fs) (suc k) =
    ap (λ (x : List ℕ). bytes_in f ++ x) (bytes_part fs k)
    ∙ sym (append_assoc (bytes_in f) (fields_bytes (take k fs)) (part fs k ++ fields_bytes (drop (suc k) fs)))

end_next : (fs : List (List ℕ)) (k : ℕ) → end_of fs (suc k) ≡ end_of fs k + length (part fs k)
unfolding end_of
end_next [] zero = refl
end_next [] (suc k) = refl
end_next (f ∷ fs) zero = omega (arith, length-append (bytes_in f) [])
end_next (f ∷ fs) (suc k) =
    let next : length (fields_bytes (take (suc k) fs)) ≡ length (fields_bytes (take k fs)) + length (part fs k) = end_next fs k in
    omega (
      arith,
      length-append (bytes_in f) (fields_bytes (take (suc k) fs)),
      length-append (bytes_in f) (fields_bytes (take k fs)),
    )

end_below_all : (fs : List (List ℕ)) (k : ℕ) → end_of fs k ≤ length (fields_bytes fs)
unfolding end_of
end_below_all fs k =
    omega (
      arith,
      ap length (bytes_part fs k),
      length-append (fields_bytes (take k fs)) (part fs k ++ fields_bytes (drop (suc k) fs)),
    )

-- what stands at k, and after it
module _ {f : List ℕ} {rest : List (List ℕ)} where
  next_taken : (fs : List (List ℕ)) (k : ℕ) → drop k fs ≡ f ∷ rest → take (suc k) fs ≡ take k fs ++ f ∷ []
  next_taken [] zero e = cc
  next_taken [] (suc k) e = cc
  next_taken (g ∷ fs) zero e = let same : g ≡ f = cc in rw same
  next_taken (g ∷ fs) (suc k) e = ap (λ (l : List (List ℕ)). g ∷ l) (next_taken fs k e)

  next_left : (fs : List (List ℕ)) (k : ℕ) → drop k fs ≡ f ∷ rest → drop (suc k) fs ≡ rest
  next_left [] zero e = cc
  next_left [] (suc k) e = cc
  next_left (g ∷ fs) zero e = cc
  next_left (g ∷ fs) (suc k) e = next_left fs k e

none_taken : (fs : List (List ℕ)) (k : ℕ) → drop k fs ≡ [] → take (suc k) fs ≡ take k fs
none_taken [] zero e = refl
none_taken [] (suc k) e = refl
none_taken (g ∷ fs) zero e = cc
none_taken (g ∷ fs) (suc k) e = ap (λ (l : List (List ℕ)). g ∷ l) (none_taken fs k e)

none_left : (fs : List (List ℕ)) (k : ℕ) → drop k fs ≡ [] → drop (suc k) fs ≡ []
none_left [] zero e = refl
none_left [] (suc k) e = refl
none_left (g ∷ fs) zero e = cc
none_left (g ∷ fs) (suc k) e = none_left fs k e

-- k fields are taken, and `left` are the others: the parts end at `at`
pub record Taking (line : List ℕ) (fs : List (List ℕ)) (size : ℕ) (bytes ends : List ℕ) (left : List (List ℕ)) (at k : ℕ) : Type 0 where
  pub most : k ≤ 8
  pub same : length bytes ≡ size
  pub nine : length ends ≡ 9
  pub rest : drop k fs ≡ left
  pub right : all is_field left ≡ true
  pub before : 2 * at + width left ≤ length line
  pub front : take at bytes ≡ fields_bytes (take k fs)
  pub marks : (j : ℕ) → j ≤ k → get_or ends j 0 ≡ end_of fs j

module _ {line : List ℕ} {from : ℕ} (h : RightFields line from) where
  pub taking_start : (bytes ends : List ℕ) → length ends ≡ 9 → get_or ends 0 0 ≡ 0 →
      Taking line (fields_of (drop from line)) (length bytes) bytes ends (fields_of (drop from line)) 0 0
  unfolding end_of
  taking_start bytes ends nine zeros =
      record {
        most = omega arith;
        same = refl;
        nine = nine;
        rest = refl;
        right = h.right;
        before = omega (arith, cut_width 32 (drop from line), length-drop from line);
        front = refl;
        marks = λ j none. let first : j ≡ 0 = omega arith in rw first zeros;
      }

module _ {line : List ℕ} {fs : List (List ℕ)} {size : ℕ} {bytes ends : List ℕ} {left : List (List ℕ)} {at k : ℕ}
    (t : Taking line fs size bytes ends left at k) (room : length line ≤ 2 * size) where
  place : at ≡ end_of fs k
  unfolding end_of
  place = sym (length-take-le at bytes (omega (arith, t.before, t.same))) ∙ ap length t.front

  -- an end more is noted
  marked : (next : ℕ) → next ≡ end_of fs (suc k) → k < 8 → (j : ℕ) → j ≤ suc k → get_or (set ends (suc k) next) j 0 ≡ end_of fs j
  marked next e more j below = at_mark (ℕ_discrete j (suc k))
    where
      at_mark : Dec (j ≡ suc k) → get_or (set ends (suc k) next) j 0 ≡ end_of fs j
      at_mark (yes last) = rw last (get_or-set_same ends (suc k) next 0 (omega (arith, t.nine)) ∙ e)
      at_mark (no other) = get_or-set_other ends (suc k) j next 0 other ∙ t.marks j (omega arith)

  -- no field is left
  pub taking_none : k < 8 → left ≡ [] → Taking line fs size bytes (set ends (k + 1) at) left at (k + 1)
  unfolding end_of
  taking_none more none =
      rw add-one
      (record {
        most = omega arith;
        same = t.same;
        nine = length-set ends (suc k) at ∙ t.nine;
        rest = none_left fs k (t.rest ∙ none) ∙ sym none;
        right = t.right;
        before = t.before;
        front = t.front ∙ ap fields_bytes (sym (none_taken fs k (t.rest ∙ none)));
        marks = marked at (place ∙ ap (λ (l : List (List ℕ)). length (fields_bytes l)) (sym (none_taken fs k (t.rest ∙ none)))) more;
      })

  -- the next field
  module _ (f : List ℕ) (others : List (List ℕ)) (some : left ≡ f ∷ others) where
    both_right_fields : T (is_field f && all is_field others)
    both_right_fields = T_true (ap (all is_field) (sym some) ∙ t.right)

    pub taking_field : is_field f ≡ true
    taking_field = true_T _ (both_left (is_field f) (all is_field others) both_right_fields)

    wide : 2 * at + (length f + width others) ≤ length line
    wide = omega (arith, t.before, ap width some)

    pub taking_room : 2 * at + length f ≤ 2 * length bytes
    taking_room = omega (arith, wide, t.same)

    pub taking_next : {new : List ℕ} {next : ℕ} → k < 8 → Put bytes at (bytes_in f) new next →
        Taking line fs size new (set ends (k + 1) next) others next (k + 1)
    unfolding end_of
    taking_next {new} {next} more put =
        rw add-one
        (record {
          most = omega arith;
          same = put_length put ∙ t.same;
          nine = length-set ends (suc k) next ∙ t.nine;
          rest = next_left fs k (t.rest ∙ some);
          right = true_T _ (both_right (is_field f) (all is_field others) both_right_fields);
          before = omega (arith, halved, wide);
          front = fronted;
          marks =
              marked next
              (sym (length-take-le next new (omega (arith, halved, wide, put_length put, t.same))) ∙ ap length fronted)
              more;
        })
      where
        halved : 2 * next ≤ 2 * at + length f
        halved = omega (arith, put.after, bytes_half f)

        fronted : take next new ≡ fields_bytes (take (suc k) fs)
        fronted =
            put_front (omega (arith, put.after, halved, wide, t.same)) put
            ∙ ap (λ (l : List ℕ). l ++ bytes_in f) t.front
            ∙ ap (λ (l : List ℕ). fields_bytes (take k fs) ++ l) (sym (append-nil (bytes_in f)))
            ∙ sym (bytes_append (take k fs) (f ∷ []))
            ∙ ap fields_bytes (sym (next_taken fs k (t.rest ∙ some)))

-- eight are taken: those are all
module _ {line : List ℕ} {from : ℕ} (h : RightFields line from) {size : ℕ} {bytes ends : List ℕ} {left : List (List ℕ)} {at : ℕ}
    (t : Taking line (fields_of (drop from line)) size bytes ends left at 8) (room : length line ≤ 2 * size) where
  fs : List (List ℕ)
  fs = fields_of (drop from line)

  whole : take at bytes ≡ fields_bytes fs
  unfolding fs
  whole = t.front ∙ ap fields_bytes (take_all 8 (fields_of (drop from line)) h.few)

  end_suc : (k : ℕ) → k < 8 → get_or ends (k + 1) 0 ≡ get_or ends k 0 + length (part fs k)
  unfolding fs
  end_suc k more =
      rw add-one (t.marks (suc k) (omega arith) ∙ end_next fs k ∙ ap (λ (n : ℕ). n + length (part fs k)) (sym (t.marks k (omega arith))))

  taken_order : EndsInOrder bytes ends
  unfolding fs end_of
  taken_order =
      record {
        order = λ k more. omega (arith, end_suc k more);
        within = λ k most.
            omega (arith, t.marks k most, end_below_all fs k, ap length whole, length-take-le at bytes fits, fits);
      }
    where
      fits : at ≤ length bytes
      fits = omega (arith, t.before, t.same)

  taken_parts : PartsTaken line from bytes ends
  unfolding fs end_of
  taken_parts =
      record {
        ordered = taken_order;
        parts = λ k. at_part k (dec_lt k 8);
        half = omega (arith, t.before, t.marks 8 (omega arith), place t room);
      }
    where
      at_part : (k : ℕ) → Dec (k < 8) → part_in bytes ends k ≡ part (fields_of (drop from line)) k
      at_part k (yes more) =
          piece bytes (fields_bytes (take k fs)) (part fs k) (fields_bytes (drop (suc k) fs)) at (get_or ends k 0) (get_or ends (k + 1) 0)
          (whole ∙ bytes_part fs k) (t.marks k (omega arith)) (end_suc k more)
      at_part k (no past_all) =
          let past : get_or ends (k + 1) 0 ≡ 0 = get_or-eq_default ends 0 (omega (arith, t.nine)) in
          let none : get_or ends (k + 1) 0 - get_or ends k 0 ≡ 0 = omega arith in
          let missing : get_or (fields_of (drop from line)) k [] ≡ [] =
          get_or-eq_default (fields_of (drop from line)) [] (omega (arith, h.few)) in
          rw (none, missing)

pub all_taken : {line : List ℕ} {from size : ℕ} {bytes ends : List ℕ} {left : List (List ℕ)} {at k : ℕ} → RightFields line from →
    Taking line (fields_of (drop from line)) size bytes ends left at k → length line ≤ 2 * size → 8 ≤ k →
    PartsTaken line from bytes ends
all_taken {k} h t room last = let eight : k ≡ 8 = omega (arith, t.most) in taken_parts h (rw eight at t) room
