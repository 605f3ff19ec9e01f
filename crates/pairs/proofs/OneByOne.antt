-- The sets that are read together, one by one.
use Prim.Native.Nat.{ℕ, suc, ◌+◌, ◌<◌}
use mathlib.Core.Path.{◌≡◌, refl, sym, ap, ◌∙◌}
use mathlib.Core.Bool.{Bool, true, false, ◌||◌}
use mathlib.Core.List.{List, [], ◌∷◌, map}
use native.Mathlib.Omega.{arith}
use lib.Dec.{eqb}
use lib.ListN.{length, get_or}
use borrow.Author.Tests.{eqb-true, ne_eqb}
use Rattle.std.specs.Prelude.{if◌then◌else◌}
use Rattle.std.specs.List.{list_any, range_with_len}
use Rattle.laws.specs.Choose.{any_of}
use Rattle.laws.specs.Upwards.{each}
use Rattle.laws.proofs.Upwards.{each_at, each_length}
use Rattle.night.specs.declared.Node.{Node}
use Rattle.night.specs.Night.{Night}
use Rattle.night.specs.Kinds.{uses_pairs, its_pair, both_of, pairs_read, reads, read_together}
use Rattle.kinds.specs.Plain.{plain_reads}

-- what a node that names no pairs reads is read off its fields
pub plain : (N : Night) (v : Node) → (v.kind ≡ 9 → ⊥) → plain_reads v.kind v.x v.y v.set ≡ reads N v
unfolding plain_reads reads
plain N v h = rw (ne_eqb v.kind 9 h) refl

-- and one of kind 9 reads its pairs
pub paired : (N : Night) (v : Node) → v.kind ≡ 9 → pairs_read N v ≡ reads N v
unfolding reads
paired N v e = rw e refl

module _ (N : Night) (v : Node) (k : ℕ) where
  -- kind 9: a pair
  its_pairs : uses_pairs v.kind ≡ true → read_together N v ≡ each v.count (λ j. both_of (its_pair N v j))
  unfolding read_together uses_pairs
  its_pairs u =
      let kind = eqb-true v.kind 9 u in
      rw (ne_eqb v.kind 3 (λ e. omega arith), ne_eqb v.kind 5 (λ e. omega arith), ne_eqb v.kind 8 (λ e. omega arith), u) refl

  pub at_pair : uses_pairs v.kind ≡ true → k < length (read_together N v) → get_or (read_together N v) k 0 ≡ both_of (its_pair N v k)
  at_pair u l =
      let many : k < v.count = rw (its_pairs u, each_length (λ j. both_of (its_pair N v j)) v.count) at l in
      rw (its_pairs u) (each_at (λ j. both_of (its_pair N v j)) 0 k v.count many)

  -- any other: all that is read
  pub at_other : uses_pairs v.kind ≡ false → k < length (read_together N v) → get_or (read_together N v) k 0 ≡ reads N v
  unfolding read_together uses_pairs
  at_other u l = rw u (go (eqb v.kind 3) (eqb v.kind 5) (eqb v.kind 8) (rw u at l))
    where
      alone : k < 1 → get_or (reads N v ∷ []) k 0 ≡ reads N v
      alone l =
          let first : k ≡ 0 = omega arith in
          rw first refl

      go : (a b c : Bool) → k < length (if a then reads N v ∷ [] else if b then reads N v ∷ [] else if c then reads N v ∷ [] else [])
          → get_or (if a then reads N v ∷ [] else if b then reads N v ∷ [] else if c then reads N v ∷ [] else []) k 0 ≡ reads N v
      go true b c l = alone l
      go false true c l = alone l
      go false false true l = alone l
      go false false false l = absurd (omega arith)

-- any of a list, asked by its numbers
either : (b y : Bool) → b || y ≡ (if b then true else y)
either true y = refl
either false y = refl

any_numbered : (f : ℕ → Bool) (ts : List ℕ) (g : ℕ → ℕ) (a : ℕ) → ((k : ℕ) → k < length ts → g (a + k) ≡ get_or ts k 0)
    → list_any (λ k. f (g k)) (range_with_len a (length ts)) ≡ any_of (map f ts)
unfolding any_of
any_numbered f [] g a h = refl
any_numbered f (t ∷ ts) g a h =
    let first : a + 0 ≡ a = omega arith in
    let here : g a ≡ t = rw first at (h 0 (omega arith)) in
    let shift : (k : ℕ) → a + suc k ≡ a + 1 + k = λ k. omega arith in
    let more : (k : ℕ) → k < length ts → g (a + 1 + k) ≡ get_or ts k 0 = λ k l. rw (shift k) at (h (suc k) (omega arith)) in
    (λ i. f (here i) || any_numbered f ts g (a + 1) more i) ∙ either (f t) (any_of (map f ts))

pub any_listed : (f : ℕ → Bool) (ts : List ℕ) → list_any (λ k. f (get_or ts k 0)) (range_with_len 0 (length ts)) ≡ any_of (map f ts)
any_listed f ts =
    let shift : (k : ℕ) → k ≡ 0 + k = λ k. omega arith in
    any_numbered f ts (λ k. get_or ts k 0) 0 (λ k l. ap (λ (j : ℕ). get_or ts j 0) (sym (shift k)))
