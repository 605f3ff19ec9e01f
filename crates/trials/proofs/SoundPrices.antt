-- What the trials of prices leave true where they pass.
use Prim.Native.Nat.{ℕ, ◌+◌, ◌-◌, ◌<◌, ◌≤◌}
use mathlib.Core.Path.{◌≡◌, refl}
use mathlib.Core.Bool.{Bool, true, false}
use native.Mathlib.Omega.{arith}
use lib.Dec.{eqb}
use borrow.Author.Tests.{ltb-false, eq-eqb, lt-ltb, le-ltb}
use Rattle.std.specs.Prelude.{if◌then◌else◌}
use Rattle.laws.specs.Trials.{Passes}
use Rattle.laws.proofs.Trials.{passes_row}
use Rattle.night.specs.Night.{Night, node_of, step_price, link_price}
use Rattle.trials.specs.Rules.{most_for_step, most_for_link}
use Rattle.trials.specs.Trials.{price_in, most_in, count_in, trials_of, section}
use Rattle.trials.specs.declared.Section.TheVariants.{Prices}

-- nothing, or at most so much
zero_or : (b : Bool) (m : ℕ) → (if b then 0 else m) ≤ m
zero_or true m = omega arith
zero_or false m = omega arith

module _ (N : Night) (passes : Passes (section N Prices)) where
  -- a price is at most what it may be
  price_most : (i p : ℕ) → i < N.header.nodes + N.header.subjects → p < N.header.subjects → price_in N i p ≤ most_in N i p
  unfolding section count_in trials_of
  price_most i p l m =
      ltb-false (most_in N i p) (price_in N i p)
      (passes_row _ N.header.subjects p m (passes_row (trials_of N Prices) (N.header.nodes + N.header.subjects) i l passes)).0

  step_most : (i p : ℕ) → i < N.header.nodes → p < N.header.subjects → step_price N i p ≤ most_for_step (node_of N i).kind
  unfolding price_in most_in
  step_most i p l m = rw (lt-ltb i N.header.nodes l) at (price_most i p (omega arith) m)

  link_most : (p q : ℕ) → p < N.header.subjects → q < N.header.subjects → link_price N p q ≤ most_for_link p q
  unfolding price_in most_in
  link_most p q l m =
      let n = N.header.nodes in
      let e : n + p - n ≡ p = omega arith in
      rw (le-ltb (n + p) n (omega arith), e) at (price_most (n + p) q (omega arith) m)

  pub step-price : (i p : ℕ) → i < N.header.nodes → p < N.header.subjects → step_price N i p ≤ 1000000
  unfolding most_for_step
  step-price i p l m = omega (arith, step_most i p l m, zero_or (eqb (node_of N i).kind 0) 1000000)

  pub leaf_price : (i p : ℕ) → i < N.header.nodes → p < N.header.subjects → (node_of N i).kind ≡ 0 → step_price N i p ≡ 0
  unfolding most_for_step
  leaf_price i p l m e =
      let h : step_price N i p ≤ 0 = rw (eq-eqb (node_of N i).kind 0 e) at (step_most i p l m) in
      omega arith

  pub link-price : (p q : ℕ) → p < N.header.subjects → q < N.header.subjects → link_price N p q ≤ 1000
  unfolding most_for_link
  link-price p q l m = omega (arith, link_most p q l m, zero_or (eqb p q) 1000)

  pub link_self : (p : ℕ) → p < N.header.subjects → link_price N p p ≡ 0
  unfolding most_for_link
  link_self p l =
      let h : link_price N p p ≤ 0 = rw (eq-eqb p p refl) at (link_most p p l l) in
      omega arith
