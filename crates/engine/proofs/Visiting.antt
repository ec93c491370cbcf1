-- A box's chain is gone along: the rules at the entries above have had their step, and what each settled is queued.
-- Assumes nothing.
use mathlib.Core.Path.{◌≡◌, subst⁻¹, ◌∙◌}
use mathlib.Core.Logic.{◌⊎◌, inl, inr, ⊎_elim}
use mathlib.Core.List.{List, [], ◌∷◌, Memᴰ}
use Prim.Native.Nat.{ℕ, ◌*◌, ◌/◌, ◌<◌}
use native.Mathlib.Omega.{arith}
use native.Mathlib.Decide.{ℕ_discrete, dec_lt}
use Rattle.spec.specs.Kinds.{Place, X, Y, Z}
use Rattle.spec.specs.Records.{Rec}
use Rattle.theory.specs.Steps.{IsSheet}
use Rattle.index.specs.Index.{rule_at, packed_rules, entry_of, Held, Top}
use Rattle.engine.specs.Queue.{Fired, Clashed, Waits, rests, Ran, VisitedTo}
use Rattle.index.proofs.Linking.{held_number, below_held, held_member, member_held}
use Rattle.engine.proofs.Waiting.{waits_queued}
use Rattle.engine.proofs.Running.{ran_refl, ran_trans, ran_clash, fired_ran, clash_more}

entry_positive : (j : ℕ) (p : Place) → 0 < entry_of j p
entry_positive j X = omega arith
entry_positive j Y = omega arith
entry_positive j Z = omega arith

held_positive : {packed : List ℕ} {b e : ℕ} → Held packed b e → 0 < e
held_positive h = omega (arith, h.is, entry_positive h.number h.place)

-- the next of a chain is below
pub top_below : {packed : List ℕ} {b bound e : ℕ} → 0 < bound → Top packed b bound e → e < bound
top_below positive top = ⊎_elim (λ e. omega arith) (λ h. h.1) top.found

module _ (packed : List ℕ) (m b : ℕ) where
  abbrev rules : List Rec
  rules = packed_rules packed m

  -- before the rule at entry e: those at the entries above are at rest but for what was settled since
  pub record Above (s t queue queue' : List ℕ) (tail tail' e : ℕ) : Type 0 where
    pub ran : Ran rules s t queue queue' tail tail'
    pub here : (e ≡ 0) ⊎ (Held packed b e × (e < 4 * m))
    pub waits : (d : ℕ) (h : Held packed b d) → d < 4 * m → e < d → Waits (rule_at packed h.number) t queue' tail tail'

  pub visit_start : {s queue : List ℕ} {tail head : ℕ} → IsSheet s → Top packed b (4 * m) head → Above s s queue queue tail tail head
  visit_start sheet top =
      record {
        ran = ran_refl rules sheet;
        here = top.found;
        waits = λ d h l above. absurd (omega (arith, top.highest d h l));
      }

  module _ {s t queue queue' : List ℕ} {tail tail' e : ℕ} (so : Above s t queue queue' tail tail' e) where
    -- the chain has ended
    pub visit_end : e ≡ 0 → VisitedTo rules b s t queue queue' tail tail'
    visit_end end =
        record {
          ran = so.ran;
          waits = λ q member names.
              let entry = member_held packed m names.0 member names.1 names.2 in
              subst⁻¹ (λ (p : Rec). Waits p t queue' tail tail') entry.rule
              (so.waits entry.entry entry.held entry.below (omega (arith, held_positive entry.held)));
        }

    module _ (goes_on : e ≡ 0 → ⊥) where
      pub entry_held : Held packed b e × (e < 4 * m)
      entry_held = ⊎_elim (λ end. absurd (goes_on end)) (λ h. h) so.here

      pub rule_below : e / 4 < m
      rule_below = omega (arith, held_number entry_held.0, below_held {m = m} entry_held.0 entry_held.1)

      member : Memᴰ (rule_at packed (e / 4)) rules
      member = held_member packed rule_below

      pub visit_clash : {queue'' : List ℕ} → Clashed (rule_at packed (e / 4) ∷ []) t queue' queue'' → Clashed rules s queue queue''
      visit_clash clashed =
          record { clash = ran_clash so.ran (clash_more member t clashed.clash); size = clashed.size ∙ so.ran.queued.size }

      pub visit_step : {u queue'' : List ℕ} {tail'' : ℕ} → Fired (rule_at packed (e / 4)) t u queue' queue'' tail' tail'' →
          (after : ℕ) → Top packed b e after → Above s u queue queue'' tail tail'' after
      visit_step {u} {queue''} {tail''} fired after top =
          record {
            ran = ran_trans so.ran (fired_ran member fired);
            here = ⊎_elim (λ end. inl end) (λ h. inr (h.0, omega (arith, h.1, entry_held.1))) top.found;
            waits = λ d h l above. at d h l above (ℕ_discrete d e) (dec_lt d e);
          }
        where
          at : (d : ℕ) (h : Held packed b d) → d < 4 * m → after < d → Dec (d ≡ e) → Dec (d < e) →
              Waits (rule_at packed h.number) u queue'' tail tail''
          at d h l above (yes is) less =
              let same : h.number ≡ e / 4 = omega (arith, held_number h) in
              subst⁻¹ (λ (j : ℕ). Waits (rule_at packed j) u queue'' tail tail'') same (rests fired.stable)
          at d h l above (no ¬is) (yes less) = absurd (omega (arith, top.highest d h less))
          at d h l above (no ¬is) (no more) =
              waits_queued fired.queued (rule_at packed h.number) so.ran.queued.later (so.waits d h l (omega arith))
