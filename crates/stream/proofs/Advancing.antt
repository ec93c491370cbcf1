-- A line of which only a part is at hand: one already answered is passed over, and one that is too long is answered before its end
-- is seen.
-- Assumes nothing.
use mathlib.Core.Path.{◌≡◌, sym, ◌∙◌, ap}
use mathlib.Core.Bool.{true, false}
use mathlib.Core.List.{List, [], ◌++◌}
use Prim.Native.Nat.{ℕ, suc, ◌+◌, ◌≤◌, ◌<◌}
use native.Mathlib.Omega.{arith}
use lib.ListN.{length, get_or, take, drop}
use lib.Seq.{drop-length, take-append-le}
use Rattle.text.specs.Putting.{PutWithin}
use Rattle.text.proofs.Puts.{put_length, put_front}
use Rattle.fields.specs.Cuts.{cut_at, until}
use Rattle.calls.specs.Lines.{reply_to}
use Rattle.fields.proofs.Splitting.{pieces_more, pieces_on}
use Rattle.stream.specs.Input.{replies_to, output_for, output_in, Advanced}
use Rattle.stream.proofs.Replying.{reply_cut}

module _ (input : List ℕ) where
  -- the line goes on
  pub skip_on : 0 < length input → until 10 input ≡ length input → (end : ℕ) → end ≡ length input → (text : List ℕ) →
      Advanced input true text (record { from = end; at = 0; skipping = true })
  unfolding output_in
  skip_on some open-line end e text =
      record {
        within = omega arith;
        room = omega arith;
        writes = λ more.
            ap (λ (ps : List (List ℕ)). replies_to (drop 1 ps)) (pieces_on 10 input more open-line)
            ∙ ap (λ (l : List ℕ). replies_to (drop 1 (cut_at 10 (l ++ more)))) (sym (rest end e));
        moves = omega arith;
      }
    where
      rest : (end : ℕ) → end ≡ length input → drop end input ≡ []
      rest end e = rw e (drop-length input)

  -- the line ends at `end`
  pub skip_end : until 10 input < length input → (end : ℕ) → end ≡ until 10 input → (text : List ℕ) →
      Advanced input true text (record { from = end + 1; at = 0; skipping = false })
  unfolding output_in output_for
  skip_end full end e text =
      record {
        within = omega arith;
        room = omega arith;
        writes = λ more.
            ap (λ (ps : List (List ℕ)). replies_to (drop 1 ps)) (pieces_more 10 input more full)
            ∙ ap (λ (k : ℕ). replies_to (cut_at 10 (drop k input ++ more))) after;
        moves = omega arith;
      }
    where
      after : suc (until 10 input) ≡ end + 1
      after = omega arith

  -- a line that is too long is answered as soon as that is seen
  pub advance_long : (old text : List ℕ) (at : ℕ) → until 10 input ≡ length input → 200000 < length input → 200102 ≤ length old →
      PutWithin 200102 old 0 (reply_to input) text at → Advanced input false text (record { from = length input; at = at; skipping = true })
  unfolding output_in output_for
  advance_long old text at open-line long room within =
      record {
        within = omega arith;
        room = omega (arith, put_length within.puts, within.short);
        writes = λ more.
            ap replies_to (pieces_on 10 input more open-line)
            ∙ ap (λ (r : List ℕ). r ++ replies_to (drop 1 (cut_at 10 more))) (whole (get_or (cut_at 10 more) 0 []))
            ∙ ap (λ (l : List ℕ). take at text ++ replies_to (drop 1 (cut_at 10 (l ++ more)))) (sym (drop-length input));
        moves = omega arith;
      }
    where
      -- however the line goes on, its reply is the one that is put
      whole : (on : List ℕ) → reply_to (input ++ on) ≡ take at text
      whole on =
          sym (reply_cut (input ++ on) 200001 (omega arith))
          ∙ ap reply_to (take-append-le 200001 input on (omega arith))
          ∙ reply_cut input 200001 (omega arith)
          ∙ sym (put_front (omega (arith, within.puts.after, within.short)) within.puts)
