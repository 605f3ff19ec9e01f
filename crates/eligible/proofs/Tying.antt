-- Sets that are tied one after the other, and whom they put out.
use Prim.Native.Nat.{ℕ, zero, suc, ◌+◌, ◌<◌, ◌≤◌}
use mathlib.Core.Path.{◌≡◌, refl}
use mathlib.Core.List.{List, [], ◌∷◌}
use native.Mathlib.Numerals.{add-one}
use native.Mathlib.Omega.{arith}
use lib.ListN.{length, get_or, drop}
use lib.Seq.{drop-cons}
use Rattle.sets.specs.Sets.{union}
use Rattle.model.specs.Ties.{gathered, tie}
use Rattle.model.specs.Tables.{tie_all}
use Rattle.eligible.specs.Asked.{out_among}
use Rattle.eligible.specs.Walk.{out_tied}

-- the sets from k on: the one at k, and those behind it
module _ (ts : List ℕ) (k : ℕ) (l : k < length ts) (t : List ℕ) where
  pub out_more : (s : ℕ) (clear sealed : List ℕ) (out : ℕ)
      → out_tied (union out (out_among s clear sealed (gathered t (get_or ts k 0) 64))) s clear sealed (tie t (get_or ts k 0)) (drop (k + 1) ts) ≡ out_tied out s clear sealed t (drop k ts)
  out_more s clear sealed out = rw (drop-cons ts k 0 l, add-one) refl

  pub tied_more : tie_all (tie t (get_or ts k 0)) (drop (k + 1) ts) ≡ tie_all t (drop k ts)
  tied_more = rw (drop-cons ts k 0 l, add-one) refl

-- none past the last
pub none_left : (ts : List ℕ) (k : ℕ) → length ts ≤ k → drop k ts ≡ []
none_left [] zero l = refl
none_left [] (suc k) l = refl
none_left (t ∷ ts) zero l = absurd (omega arith)
none_left (t ∷ ts) (suc k) l = none_left ts k (omega arith)
