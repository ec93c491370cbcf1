-- The maker has come to line k: what is written are the first k lines of our list, and the rest follows from the states.
-- Assumes nothing.
use mathlib.Core.Path.{◌≡◌, refl, sym, ap, subst, subst⁻¹, ◌∙◌}
use mathlib.Core.Bool.{true, false}
use mathlib.Core.List.{List, [], ◌∷◌, ◌++◌, append-nil, append_assoc}
use Prim.Native.Nat.{ℕ, suc, ◌+◌, ◌*◌, ◌-◌, ◌≤◌, ◌<◌}
use native.Mathlib.Omega.{arith}
use native.Mathlib.Decide.{ℕ_discrete}
use borrow.Author.Tests.{lt-ltb}
use lib.ListN.{length, get_or, set, length-set, length-append}
use lib.Seq.{get_or-set_same, get_or-set_other}
use Rattle.lemmas.proofs.Reading.{get_d_set}
use Rattle.spec.specs.Records.{record_at, record_count}
use Rattle.spec.specs.Rounds.{code}
use Rattle.text.specs.Putting.{Put}
use Rattle.text.proofs.Puts.{put_none, put_then}
use Rattle.theory.specs.Steps.{IsSheet, Loaded}
use Rattle.theory.proofs.Loading.{loaded_sheet}
use Rattle.engine.specs.Moves.{Cells}
use Rattle.whylists.specs.Lines.{Line, given_by}
use Rattle.whylists.specs.Ours.{next_box, next_line, lines_from, ours, line_bytes, lines_bytes}
use Rattle.why.specs.Next.{LowestGiven, NoneGiven}
use Rattle.why.specs.Made.{Made}
use Rattle.why.proofs.Making.{next_none, next_box_lem, next_record, next_state}

-- one line more
bytes_more : (done : List Line) (a : Line) → lines_bytes (done ++ (a ∷ [])) ≡ lines_bytes done ++ line_bytes a
bytes_more [] a = append-nil (line_bytes a)
bytes_more (b ∷ done) a =
    ap (λ (l : List ℕ). line_bytes b ++ l) (bytes_more done a) ∙ sym (append_assoc (line_bytes b) (lines_bytes done) (line_bytes a))

pub record Making (maker depot sheet out₀ out s : List ℕ) (n k : ℕ) : Type 0 where
  pub done : List Line
  pub t : List ℕ
  pub cells : Cells s
  pub size : length t ≡ n
  pub same : (b : ℕ) → get_or s b 2 ≡ get_or t b 2
  pub lines : length done ≡ k
  pub rest : ours maker depot sheet ≡ done ++ lines_from maker depot (n - k) t
  pub puts : Put out₀ 0 (lines_bytes done) out (8 * k)

module _ (maker depot sheet out₀ : List ℕ) (n : ℕ) where
  pub making_start : {s : List ℕ} → Loaded sheet s → IsSheet sheet → length sheet ≡ n → Making maker depot sheet out₀ out₀ s n 0
  unfolding ours
  making_start loaded sheets e =
      record {
        done = [];
        t = sheet;
        cells = record { size = loaded.size; sheet = loaded_sheet loaded sheets };
        size = e;
        same = loaded.same;
        lines = refl;
        rest = rw (e, whole);
        puts = put_none;
      }
    where
      whole : n - 0 ≡ n
      whole = omega arith

  module _ {out s : List ℕ} {k : ℕ} (so : Making maker depot sheet out₀ out s n k) where
    -- nothing is left
    ended : lines_from maker depot (n - k) so.t ≡ [] → Made maker depot sheet out₀ out k
    ended none =
        let all : ours maker depot sheet ≡ so.done = so.rest ∙ ap (λ (l : List Line). so.done ++ l) none ∙ append-nil so.done in
        record { stored = rw all so.puts.stored; lines = rw all (sym so.lines) }

    pub making_full : k ≡ n → Made maker depot sheet out₀ out n
    making_full e =
        let none_left : n - k ≡ 0 = omega arith in
        subst (λ (m : ℕ). Made maker depot sheet out₀ out m) e (ended (rw none_left))

    left : k < n → n - k ≡ suc (n - (k + 1))
    left below = omega arith

    pub making_none : k < n → NoneGiven maker depot s n (record_count maker depot) → Made maker depot sheet out₀ out k
    making_none below none = ended (rw (left below, next_none maker depot s so.t so.same (rw so.size none)))

    module _ (below : k < n) {b number : ℕ} (low : LowestGiven maker depot s n (record_count maker depot) b number)
        (g : ℕ) (e : g ≡ code (given_by s b false (record_at maker depot number)) (given_by s b true (record_at maker depot number)))
        (small : g ≤ 2) where
      low_t : LowestGiven maker depot s (length so.t) (record_count maker depot) b number
      low_t = subst⁻¹ (λ (m : ℕ). LowestGiven maker depot s m (record_count maker depot) b number) so.size low

      abbrev pub a : Line
      a = record { box = b; state = g; byte3 = 0; number = number; bytes67 = 0 }

      -- the line that the sentence names
      is_line : next_line maker depot so.t ≡ a
      unfolding next_line
      is_line =
          rw (
            next_box_lem maker depot s so.t so.same low_t,
            next_record maker depot s so.t so.same low_t,
            next_state maker depot s so.t so.same low_t g e small,
          )

      one_more : lines_from maker depot (n - k) so.t ≡ a ∷ lines_from maker depot (n - (k + 1)) (set so.t b g)
      one_more =
          rw (
            left below,
            lt-ltb (next_box maker depot so.t) (length so.t) (rw (next_box_lem maker depot s so.t so.same low_t) low_t.within),
            is_line,
            next_box_lem maker depot s so.t so.same low_t,
            next_state maker depot s so.t so.same low_t g e small,
          )

      pub making_next : b < 256 → {out' : List ℕ} {next : ℕ} → Put out (8 * k) (line_bytes a) out' next →
          Making maker depot sheet out₀ out' (set s b g) n (k + 1)
      making_next room {out'} {next} put =
          record {
            done = so.done ++ (a ∷ []);
            t = set so.t b g;
            cells =
                record {
                  size = length-set s b g ∙ so.cells.size;
                  sheet = get_d_set (λ c. c ≤ 2) s b g 2 small so.cells.sheet;
                };
            size = length-set so.t b g ∙ so.size;
            same = λ c. at c (ℕ_discrete c b);
            lines = length-append so.done (a ∷ []) ∙ ap (λ (m : ℕ). m + 1) so.lines;
            rest =
                so.rest
                ∙ ap (λ (l : List Line). so.done ++ l) one_more
                ∙ sym (append_assoc so.done (a ∷ []) (lines_from maker depot (n - (k + 1)) (set so.t b g)));
            puts = both;
          }
        where
          at : (c : ℕ) → Dec (c ≡ b) → get_or (set s b g) c 2 ≡ get_or (set so.t b g) c 2
          at c (yes is) = rw (is, get_or-set_same s b g 2 (omega (arith, so.cells.size)), get_or-set_same so.t b g 2 low_t.within)
          at c (no other) = get_or-set_other s b c g 2 other ∙ so.same c ∙ sym (get_or-set_other so.t b c g 2 other)

          both : Put out₀ 0 (lines_bytes (so.done ++ (a ∷ []))) out' (8 * (k + 1))
          both =
              let joined = put_then so.puts put in
              let end : next ≡ 8 * (k + 1) = put.after ∙ omega arith in
              subst (λ (m : ℕ). Put out₀ 0 (lines_bytes (so.done ++ (a ∷ []))) out' m) end
              (subst⁻¹ (λ (l : List ℕ). Put out₀ 0 l out' next) (bytes_more so.done a) joined)
