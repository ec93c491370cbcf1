-- What is left at hand after a turn: the rest of what was, moved to the front; all of it, where nothing could be done; or nothing, where
-- the input has ended.
-- Assumes nothing.
use mathlib.Core.Path.{◌≡◌, refl, sym, ◌∙◌, ap}
use mathlib.Core.Bool.{Bool, true, false, true≢false}
use mathlib.Core.List.{List, [], ◌++◌, append-nil}
use Prim.Native.Nat.{ℕ, ◌-◌, ◌≤◌}
use native.Mathlib.Omega.{arith}
use lib.ListN.{length, take, drop}
use lib.Seq.{length-take-le}
use Rattle.lemmas.proofs.Slices.{drop_take}
use Rattle.text.specs.Putting.{PutWithin}
use Rattle.text.proofs.Puts.{put_length, put_front}
use Rattle.fields.specs.Cuts.{cut_at}
use Rattle.fields.proofs.Splitting.{pieces_on}
use Rattle.calls.specs.Lines.{reply_to}
use Rattle.stream.specs.Input.{replies_to, output_for, output_in, Advanced, Pending, Turned}
use Rattle.stream.specs.declared.Reached.{Reached}

module _ (old : List ℕ) (size : ℕ) (within : size ≤ length old) where
  pub turned_kept : {text : List ℕ} {skipping : Bool} {s : Reached} → Advanced (take size old) skipping text s → (ended : Bool) (new : List ℕ) (rest : ℕ) →
      length new ≡ length old → rest ≡ size - s.from → take (size - s.from) new ≡ take (size - s.from) (drop s.from old) →
      Turned old size skipping ended new text (record { size = rest; skipping = s.skipping; at = s.at; waits = false })
  turned_kept {text} {skipping} {s} advanced ended new rest same e kept =
      record {
        within = omega arith;
        room = advanced.room;
        writes = λ more none.
            advanced.writes more ∙ ap (λ (l : List ℕ). take s.at text ++ output_in s.skipping (l ++ more)) moved;
        goes = λ w. omega (arith, advanced.within, advanced.moves, length-take-le size old within);
        begun = λ w. absurd (true≢false (sym w));
        space = λ w. absurd (true≢false (sym w));
        done = λ w. absurd (true≢false (sym w));
      }
    where
      moved : drop s.from (take size old) ≡ take rest new
      moved = drop_take s.from size old ∙ sym kept ∙ ap (λ (k : ℕ). take k new) (sym e)

  module _ (pending : Pending (take size old)) where
    -- a line that is already answered has not ended
    answered : {skipping : Bool} → skipping ≡ true → output_in skipping (take size old) ≡ []
    unfolding output_in
    answered e =
        ap (λ (b : Bool). output_in b (take size old)) e
        ∙ ap (λ (l : List ℕ). replies_to (drop 1 (cut_at 10 l))) (sym (append-nil (take size old)))
        ∙ ap (λ (ps : List (List ℕ)). replies_to (drop 1 ps)) (pieces_on 10 (take size old) [] pending.begun)

    -- the last line is answered without its line feed
    last_line : output_for (take size old) ≡ reply_to (take size old)
    unfolding output_for
    last_line =
        ap (λ (l : List ℕ). replies_to (cut_at 10 l)) (sym (append-nil (take size old)))
        ∙ ap replies_to (pieces_on 10 (take size old) [] pending.begun)
        ∙ append-nil (reply_to (take size old ++ []))
        ∙ ap reply_to (append-nil (take size old))

    pub turned_waits : {skipping : Bool} (ended : Bool) (put : List ℕ) → (ended ≡ true → skipping ≡ true) →
        Turned old size skipping ended old put (record { size = size; skipping = skipping; at = 0; waits = true })
    turned_waits ended put unanswered =
        record {
          within = within;
          room = omega arith;
          writes = λ more e. refl;
          goes = λ w. absurd (true≢false w);
          begun = λ w. pending.begun;
          space = λ w. omega (arith, pending.short, length-take-le size old within);
          done = λ w e. answered (unanswered e);
        }

    pub turned_ends : {skipping : Bool} (ended : Bool) (text put : List ℕ) (at : ℕ) → ended ≡ true → skipping ≡ false → 200102 ≤ length text →
        PutWithin 200102 text 0 (reply_to (take size old)) put at →
        Turned old size skipping ended old put (record { size = 0; skipping = false; at = at; waits = true })
    unfolding output_in output_for reply_to
    turned_ends {skipping} ended text put at e unanswered room done =
        record {
          within = omega arith;
          room = omega (arith, put_length done.puts, done.short);
          writes = λ more last.
              ap (λ (l : List ℕ). output_in skipping (take size old ++ l)) (last e)
              ∙ ap (output_in skipping) (append-nil (take size old))
              ∙ ap (λ (b : Bool). output_in b (take size old)) unanswered
              ∙ last_line
              ∙ sym (put_front (omega (arith, done.puts.after, done.short)) done.puts)
              ∙ sym (append-nil (take at put))
              ∙ ap (λ (l : List ℕ). take at put ++ output_for l) (sym (last e));
          goes = λ w. absurd (true≢false w);
          begun = λ w. refl;
          space = λ w. omega arith;
          done = λ w d. refl;
        }
