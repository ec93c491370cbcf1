-- The loop that shows the kits: the first k are put, and the next one is at hand.
-- Assumes nothing.
use mathlib.Core.Path.{◌≡◌, sym, ap, subst, ◌∙◌}
use mathlib.Core.Bool.{Bool, true, false}
use mathlib.Core.List.{List, [], ◌∷◌, ◌++◌}
use Prim.Native.Nat.{ℕ, ◌+◌, ◌*◌, ◌≤◌, ◌<◌}
use native.Mathlib.Omega.{arith}
use native.Mathlib.Nat.{add-zero}
use borrow.Author.Tests.{lt-ltb, le-ltb}
use lib.ListN.{length, take, drop, get_or, take-append-drop, length-drop, length-append}
use lib.Seq.{drop-drop, get_or-drop, take_all}
use Rattle.text.specs.Spelling.{ascii, spelt, digits_of}
use Rattle.text.specs.Putting.{Put, PutWithin}
use Rattle.text.proofs.Puts.{put_then}
use Rattle.text.proofs.Spells.{Spelling, spelling_start, spelling_next, spelling_all}
use Rattle.lemmas.proofs.Reading.{get_d_default}
use Rattle.spec.specs.Kits.{kits, kits_after}
use Rattle.kits.specs.Kit.{IsFull}
use Rattle.kits.proofs.Runs.{kits_behind, kits_full}
use Rattle.report.specs.Listing.{list_line, end_line, last_line, kit_lines, lists_page}
use Rattle.report.specs.Asking.{AtHead}
use Rattle.report.proofs.Digits.{digits_length}

pub line_length : (l : List ℕ) → length (list_line l) ≡ length l + 1
unfolding list_line
line_length l = length-append (digits_of l) (ascii "\n") ∙ ap (λ (n : ℕ). n + 1) (digits_length l)

pub record Showing (ls : List (List ℕ)) (old : List ℕ) (start : ℕ) (kit new : List ℕ) (at k : ℕ) (found : Bool) : Type 0 where
  pub lines : Spelling list_line ls old start new at k
  pub head : AtHead (drop k ls) found kit
  pub room : at ≤ start + 257 * k

pub showing_start : {ls : List (List ℕ)} {old kit : List ℕ} {start : ℕ} {found : Bool} → AtHead ls found kit →
    Showing ls old start kit old start 0 found
showing_start h = record { lines = spelling_start; head = h; room = omega arith }

-- a list is at hand
module _ (maker depot sheet : List ℕ) {old kit new : List ℕ} {start at k : ℕ} {found : Bool}
    (s : Showing (kits maker depot sheet) old start kit new at k found) (handed : found ≡ true) where
  abbrev ls : List (List ℕ)
  ls = kits maker depot sheet

  -- it is the next of the kits
  head : (rest : List (List ℕ)) × (drop k ls ≡ kit ∷ rest)
  head = subst (λ (f : Bool). AtHead (drop k ls) f kit) handed s.head

  split : ls ≡ take k ls ++ kit ∷ head.0
  split = sym (take-append-drop k ls) ∙ ap (λ (x : List (List ℕ)). take k ls ++ x) head.1

  pub showing_full : IsFull (length sheet) kit
  showing_full = kits_full maker depot sheet (take k ls) kit head.0 split

  pub showing_digits : (i : ℕ) → i < length kit → get_or kit i 0 < 10
  showing_digits i h =
      omega (arith, get_d_default kit i 0 2 h, showing_full.bits i (omega (arith, showing_full.boxes)))

  more : k < length ls
  more = omega (arith, length-drop k ls, ap length head.1)

  at_k : get_or ls k [] ≡ kit
  at_k = ap (λ (i : ℕ). get_or ls i []) (sym (add-zero k)) ∙ sym (get_or-drop k ls 0 []) ∙ ap (λ (x : List (List ℕ)). get_or x 0 []) head.1

  behind : drop (k + 1) ls ≡ head.0
  behind = sym (drop-drop 1 k ls) ∙ ap (drop 1) head.1

  -- it is put, and the one after it is asked for
  pub showing_next : {last next-kit : List ℕ} {next : ℕ} {next_found : Bool} → length sheet ≤ 256 →
      Put new at (list_line kit) last next → AtHead (kits_after maker depot sheet kit) next_found next-kit →
      Showing ls old start next-kit last next (k + 1) next_found
  showing_next {last} {next-kit} {next} {next_found} few put h =
      record {
        lines = spelling_next [] s.lines more (subst (λ (l : List ℕ). Put new at (list_line l) last next) (sym at_k) put);
        head =
            subst (λ (x : List (List ℕ)). AtHead x next_found next-kit)
            (kits_behind maker depot sheet (take k ls) kit head.0 split ∙ sym behind)
            h;
        room = omega (arith, s.room, put.after, line_length kit, showing_full.boxes);
      }

  -- 64 are put: a 65th exists
  pub showing_more : {last : List ℕ} {next : ℕ} → k ≡ 64 → Put new at (ascii "more\n") last next →
      PutWithin lists_page old start (kit_lines ls) last next
  unfolding kit_lines last_line
  showing_more {last} {next} full put =
      record {
        puts =
            rw (lt-ltb 64 (length ls) (omega (arith, more)))
            (put_then (subst (λ (i : ℕ). Put old start (spelt list_line (take i ls)) new at) full s.lines.puts) put);
        short = omega (arith, s.room, put.after);
      }

-- none is left
pub showing_end : {ls : List (List ℕ)} {old kit new last : List ℕ} {start at next k n : ℕ} {found : Bool} →
    Showing ls old start kit new at k found → found ≡ false → k ≡ n → n ≤ 64 → PutWithin 25 new at (end_line n) last next →
    PutWithin lists_page old start (kit_lines ls) last next
unfolding kit_lines last_line
showing_end {ls} {old} {kit} {new} {last} {start} {at} {next} {k} s ended is few put =
    let none : drop k ls ≡ [] = subst (λ (f : Bool). AtHead (drop k ls) f kit) ended s.head in
    let count : length ls ≡ k = omega (arith, length-drop k ls, ap length none, s.lines.within) in
    record {
      puts =
          rw (le-ltb 64 (length ls) (omega arith), take_all 64 ls (omega arith), count, is)
          (put_then (spelling_all s.lines (omega arith)) put.puts);
      short = omega (arith, s.room, put.short);
    }
