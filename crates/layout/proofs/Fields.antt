-- One field of a record, and a number of any width out of a copy of its bytes.
use Prim.Native.Nat.{ℕ, ◌+◌, ◌*◌, ◌<◌, ◌≤◌}
use native.Mathlib.Nat.{add-zero}
use native.Mathlib.Omega.{arith}
use mathlib.Core.Path.{◌≡◌, ap, sym, ◌∙◌}
use mathlib.Core.List.{List}
use lib.ListN.{get_or}
use Rattle.laws.specs.BigEndian.{be}
use Rattle.laws.proofs.BigEndian.{be_copied}
use Rattle.night.specs.declared.Header.{Header}
use Rattle.night.specs.declared.Node.{Node}
use Rattle.night.specs.Versions.{node_length}
use Rattle.night.specs.Night.{node_of, no_node}
use Rattle.format.specs.Layout.{nodes_from, node_at, night_in}
use Rattle.format.proofs.Sections.{node-at, node_past}

-- a number at the start of p, a copy of w bytes of s from `at` on
pub number_copied : {w v : ℕ} (s : List ℕ) (at : ℕ) (p : List ℕ)
    → ((k : ℕ) → k < w → get_or p k 0 ≡ get_or s (at + k) 0)
    → (n : ℕ) → n ≤ w → v ≡ be p 0 n → v ≡ be s at n
number_copied s at p copied n l there = there ∙ rw (add-zero at) at (be_copied s at p copied 0 n (omega arith))

-- a field of node i: past the nodes, and where it is read at the node's place
module _ (field : Node → ℕ) (s : List ℕ) (h : Header) (i : ℕ) where
  pub field_past : h.nodes ≤ i → field no_node ≡ field (node_of (night_in s h) i)
  field_past l = sym (ap field (node_past s h i l))

  pub field_read : {from v : ℕ}
      → i < h.nodes
      → from ≡ nodes_from h + node_length h.version * i
      → v ≡ field (node_at h.version s from)
      → v ≡ field (node_of (night_in s h) i)
  field_read l from there = there ∙ ap (λ (at : ℕ). field (node_at h.version s at)) from ∙ sym (ap field (node-at s h i l))
