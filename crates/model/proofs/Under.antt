-- Every node is the root or a node under it.
use Prim.Native.Nat.{ℕ, zero, suc, ◌+◌, ◌-◌, ◌<◌, ◌≤◌}
use mathlib.Core.Path.{◌≡◌, refl}
use mathlib.Core.Bool.{Bool, true, false}
use mathlib.Core.Logic.{⊎_elim}
use native.Mathlib.Omega.{arith}
use lib.Dec.{ltb}
use borrow.Author.Tests.{ltb-true, ltb-false}
use Rattle.night.specs.Night.{Night, node_of}
use Rattle.night.specs.Promised.{Promised}
use Rattle.night.proofs.Children.{is-child}
use Rattle.model.specs.Tables.{TiedAt, under_left, under_right}
use Rattle.model.specs.OneTest.{Under, here, by_left, by_right}
use Rattle.model.proofs.Parents.{child_lower}

-- what is tied at a node is tied at every node that it is under
pub under_tied : {N : Night} {i k m : ℕ} → Under N i k → TiedAt N k m → TiedAt N i m
under_tied here h = h
under_tied (by_left u w) h = under_left u (under_tied w h)
under_tied (by_right u w) h = under_right u (under_tied w h)

module _ (N : Night) (sound : Promised N) where
  abbrev n : ℕ
  n = N.header.nodes

  -- what is under a node is under the root, from the last node downwards
  under_root : (d i k : ℕ) → i < n → n ≤ d + i → Under N i k → Under N (n - 1) k
  under_root zero i k l q w = absurd (omega arith)
  under_root (suc d) i k l q w = go (ltb (i + 1) n) refl (under_root d)
    where
      go : (b : Bool) → ltb (i + 1) n ≡ b → ((j k : ℕ) → j < n → n ≤ d + j → Under N j k → Under N (n - 1) k) → Under N (n - 1) k
      go true e higher =
          let p = sound.parent i (ltb-true (i + 1) n e) in
          higher p.0 k p.1 (omega (arith, child_lower N sound p.0 i p.1 p.2))
          (⊎_elim (λ x. by_left x.0 (rw x.1 w)) (λ x. by_right x.0 (rw x.1 w)) (is-child (node_of N p.0) i p.2))
      go false e higher =
          let last : n - 1 ≡ i = omega (arith, ltb-false (i + 1) n e) in
          rw last w

  -- every node is under the root
  pub all_under : (k : ℕ) → k < n → Under N (n - 1) k
  all_under k l = under_root n k k l (omega arith) here
