-- An input of which a part is at hand: its full lines, whatever is still to come; and a line that is too long.
-- Assumes nothing.
use mathlib.Core.Path.{◌≡◌, refl, sym, ◌∙◌, ap}
use mathlib.Core.Bool.{false, cond}
use mathlib.Core.List.{List, [], ◌∷◌, ◌++◌, append_assoc}
use Prim.Native.Nat.{ℕ, zero, suc, ◌+◌, ◌-◌, ◌≤◌, ◌<◌, min}
use native.Mathlib.Omega.{arith}
use native.Mathlib.Decide.{dec_lt}
use lib.Dec.{eqb}
use lib.ListN.{length, take, drop, length-take, length-drop}
use lib.Seq.{take_all, drop-drop}
use Rattle.text.specs.Putting.{Put}
use Rattle.text.proofs.Puts.{put_length, put_front}
use Rattle.fields.specs.Cuts.{until, piece_from}
use Rattle.calls.specs.Lines.{answer_of, reply_to}
use Rattle.stream.specs.Input.{replies_to, output_for, output_in, Advanced}
use Rattle.fields.proofs.Splitting.{pieces_more}
use Rattle.calls.proofs.Answering.{answer_long}

-- a line that is too long may be cut to any length that is too long
same_reply : (l : List ℕ) (k : ℕ) → 0 < k → answer_of (take k l) ≡ answer_of l → reply_to (take k l) ≡ reply_to l
unfolding reply_to
same_reply [] zero some e = refl
same_reply [] (suc k) some e = refl
same_reply (c ∷ l) zero some e = absurd (omega arith)
same_reply (c ∷ l) (suc k) some e = ap (λ (x : List ℕ). cond (eqb c 35) [] (x ++ 10 ∷ [])) e

pub reply_cut : (l : List ℕ) (k : ℕ) → min 200001 (length l) ≤ k → reply_to (take k l) ≡ reply_to l
reply_cut l k enough = at (dec_lt 200000 (length l))
  where
    at : Dec (200000 < length l) → reply_to (take k l) ≡ reply_to l
    at (yes far) =
        same_reply l k (omega arith) (answer_long (take k l) (omega (arith, length-take k l)) ∙ sym (answer_long l far))
    at (no near) = ap reply_to (take_all k l (omega arith))

-- the first line of what is at hand is full, and is answered
pub output_line : (l more : List ℕ) → until 10 l < length l →
    output_for (l ++ more) ≡ reply_to (take (until 10 l) l) ++ output_for (drop (suc (until 10 l)) l ++ more)
unfolding output_for
output_line l more h = ap replies_to (pieces_more 10 l more h)

-- of the input, the full lines before `from` are answered, and the replies stand at the front of the text
pub record Replying (input : List ℕ) (size : ℕ) (text : List ℕ) (from at : ℕ) : Type 0 where
  pub kept : length text ≡ size
  pub within : from ≤ length input
  pub room : at ≤ length text
  pub writes : (more : List ℕ) → output_for (input ++ more) ≡ take at text ++ output_for (drop from input ++ more)
  pub start : from ≡ 0 → at ≡ 0

pub replying_start : (input text : List ℕ) → Replying input (length text) text 0 0
replying_start input text =
    record { kept = refl; within = omega arith; room = omega arith; writes = λ more. refl; start = λ e. refl }

module _ {input : List ℕ} {size : ℕ} {text : List ℕ} {from at : ℕ} (s : Replying input size text from at) (end : ℕ)
    (stop : end ≡ from + until 10 (drop from input)) (full : end < length input) where
  pub replying_next : (new : List ℕ) (next : ℕ) → next ≤ length text → Put text at (reply_to (take (end - from) (drop from input))) new next →
      Replying input size new (end + 1) next
  replying_next new next room put =
      record {
        kept = put_length put ∙ s.kept;
        within = omega arith;
        room = omega (arith, put_length put);
        writes = λ more.
            s.writes more
            ∙ ap (λ (x : List ℕ). take at text ++ x) (rest more)
            ∙ sym (append_assoc (take at text) (reply_to (piece_from 10 input from)) (output_for (drop (end + 1) input ++ more)))
            ∙ ap (λ (x : List ℕ). take at text ++ reply_to x ++ output_for (drop (end + 1) input ++ more)) piece
            ∙ ap (λ (x : List ℕ). x ++ output_for (drop (end + 1) input ++ more)) (sym (put_front (omega (arith, put.after)) put));
        start = λ none. absurd (omega arith);
      }
    where
      piece : piece_from 10 input from ≡ take (end - from) (drop from input)
      piece = let size : until 10 (drop from input) ≡ end - from = omega arith in ap (λ (k : ℕ). take k (drop from input)) size

      rest : (more : List ℕ) → output_for (drop from input ++ more) ≡ reply_to (piece_from 10 input from) ++ output_for (drop (end + 1) input ++ more)
      rest more =
          let after : from + suc (until 10 (drop from input)) ≡ end + 1 = omega arith in
          output_line (drop from input) more (omega (arith, length-drop from input))
          ∙ ap (λ (x : List ℕ). reply_to (piece_from 10 input from) ++ output_for (x ++ more))
          (drop-drop (suc (until 10 (drop from input))) from input ∙ ap (λ (k : ℕ). drop k input) after)

-- a line is full, so one was answered
pub replying_done : {input : List ℕ} {size : ℕ} {text : List ℕ} {from at : ℕ} → Replying input size text from at → (from ≡ 0 → ⊥) →
    Advanced input false text (record { from = from; at = at; skipping = false })
unfolding output_in
replying_done s some =
    record { within = s.within; room = s.room; writes = s.writes; moves = omega (arith, some) }
