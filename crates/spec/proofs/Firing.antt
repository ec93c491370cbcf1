-- The order of firing is of no matter: however the rules are fired, one conclusion at a time, where nothing new can be added
-- the facts are the closure's.
-- Assumes nothing.
use mathlib.Core.Path.{subst⁻¹}
use mathlib.Core.Logic.{◌↔◌, ⊎_elim}
use mathlib.Core.Bool.{Bool}
use mathlib.Core.List.Memᴰ
use mathlib.Core.List.{List}
use Prim.Native.Nat.{ℕ}
use Rattle.spec.specs.Records.{Rec}
use Rattle.spec.specs.Facts.{FactsOf, Closed, Closure, settled, fires}
use Rattle.spec.specs.Firing.{Fact, Listed, Run, start, fire}
use Rattle.spec.proofs.Least.{Inside, closure_unique}

module _ {qs : List Rec} {s : List ℕ} where
  pub run_holds : {fs : List Fact} → Run qs s fs → Inside (FactsOf s) (Listed fs)
  run_holds (start same) b state h = (same b state).1 h
  run_holds (fire run q m r n premises l c) b state h = Memᴰ.tail (run_holds run b state h)

  pub run_derived : {fs : List Fact} → Run qs s fs → Inside (Listed fs) (Closure qs s)
  run_derived (start same) b state h = settled ((same b state).0 h)
  run_derived (fire run q m r n premises l c) b state h =
      ⊎_elim
      (λ e.
      subst⁻¹ (λ (f : Fact). Closure qs s f.box f.state) e
      (fires q m r n (λ p k. run_derived run _ _ (premises p k)) l c))
      (λ k. run_derived run b state k)
      (Memᴰ.cases_cons h)

  -- at rest: every conclusion that could be added is listed
  pub run_rest : {fs : List Fact} → Run qs s fs → Closed qs (Listed fs) → (b : ℕ) (state : Bool) →
      Listed fs b state ↔ Closure qs s b state
  run_rest {fs} run rest = closure_unique qs s (Listed fs) (run_holds run) rest (run_derived run)

  -- two runs to rest end at the same facts
  pub run_order : {fs gs : List Fact} → Run qs s fs → Run qs s gs → Closed qs (Listed fs) → Closed qs (Listed gs) →
      (b : ℕ) (state : Bool) → Listed fs b state ↔ Listed gs b state
  run_order one other rest-one rest-other b state =
      let here = run_rest one rest-one b state in
      let there = run_rest other rest-other b state in
      (λ h. there.1 (here.0 h), λ h. here.1 (there.0 h))
