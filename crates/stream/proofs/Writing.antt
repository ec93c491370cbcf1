-- However the input comes, and whatever turns are made: what is written is what the protocol says of the whole input.
-- Assumes nothing.
use mathlib.Core.Path.{◌≡◌, refl, sym, ◌∙◌, ap}
use mathlib.Core.Bool.{Bool, false, true≢false}
use mathlib.Core.List.{List, [], ◌++◌, append_assoc, append-nil}
use Prim.Native.Nat.{ℕ}
use lib.ListN.{take}
use Rattle.stream.specs.Input.{output_for, output_in}
use Rattle.stream.specs.Program.{Writes, turns, reads, finishes, stops, joined}

pub writes_output : {skipping : Bool} {hand written : List ℕ} {coming : List (List ℕ)} → Writes skipping hand coming written →
    output_in skipping (hand ++ joined coming) ≡ written
writes_output {coming} (turns {text} r t rest) =
    t.writes (joined coming) (λ e. absurd (true≢false (sym e))) ∙ ap (λ (l : List ℕ). take r.at text ++ l) (writes_output rest)
writes_output {skipping} {hand} (reads {piece} {coming} rest) =
    ap (output_in skipping) (sym (append_assoc hand piece (joined coming))) ∙ writes_output rest
writes_output (finishes {text} r t rest) = t.writes [] (λ e. refl) ∙ ap (λ (l : List ℕ). take r.at text ++ l) (writes_output rest)
writes_output {skipping} {hand} (stops e) = ap (output_in skipping) (append-nil hand) ∙ e

-- from the start, with nothing at hand
pub run_writes : {written : List ℕ} {coming : List (List ℕ)} → Writes false [] coming written → output_for (joined coming) ≡ written
unfolding output_in
run_writes t = writes_output t
