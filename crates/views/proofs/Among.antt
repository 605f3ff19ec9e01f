-- Grants in a list searched for a pair of relation and subject.
use Prim.Native.Nat.{ℕ, ◌+◌, ◌<◌, ◌≤◌}
use mathlib.Core.Path.{◌≡◌, ◌∙◌, ap, sym}
use mathlib.Core.Bool.{Bool}
use mathlib.Core.List.{List}
use lib.ListN.{get_or, length, take}
use lib.Seq.{length-take-le, get_or-take}
use Rattle.std.specs.Prelude.{Option}
use Rattle.std.specs.Option.{unwrap_or}
use Rattle.std.specs.List.{position}
use Rattle.laws.specs.First.{first}
use Rattle.laws.proofs.First.{first_same}
use Rattle.laws.proofs.Search.{place_or_length}
use Rattle.night.specs.declared.Grant.{Grant}
use Rattle.night.specs.Night.{Night, no_grant, grant_of}
use Rattle.night.specs.Views.{is_for}

-- the grant at k is for the pair
abbrev pub for_pair : List Grant → ℕ → ℕ → ℕ → Bool
for_pair gs r p k = is_for (get_or gs k no_grant) r p

-- the first n of a list, taken out, have the same first
pub first_among : (gs : List Grant) (r p n : ℕ) → n ≤ length gs → first (for_pair (take n gs) r p) (length (take n gs)) ≡ first (for_pair gs r p) n
first_among gs r p n h =
    ap (first (for_pair (take n gs) r p)) (length-take-le n gs h)
    ∙ first_same (for_pair (take n gs) r p) (for_pair gs r p) n (λ k l. ap (λ (g : Grant). is_for g r p) (get_or-take n gs k no_grant l))

-- as `find` says it
pub found_among : {x : Option ℕ} {y : ℕ} (gs : List Grant) (r p n : ℕ) → n ≤ length gs → x ≡ position (λ g. is_for g r p) (take n gs) → y ≡ unwrap_or x n
    → y ≡ first (for_pair gs r p) n
found_among {x} gs r p n h e f =
    let long : length (take n gs) ≡ n = length-take-le n gs h in
    f ∙ ap (unwrap_or x) (sym long) ∙ ap (λ (o : Option ℕ). unwrap_or o (length (take n gs))) e ∙ place_or_length (λ g. is_for g r p) no_grant (take n gs) ∙ first_among gs r p n h

-- grants decoded from number `from` on have the first that the night has there
pub first_decoded : (gs : List Grant) (N : Night) (from n r p : ℕ) → ((k : ℕ) → k < n → get_or gs k no_grant ≡ grant_of N (from + k))
    → first (for_pair gs r p) n ≡ first (λ k. is_for (grant_of N (from + k)) r p) n
first_decoded gs N from n r p h = first_same (for_pair gs r p) (λ k. is_for (grant_of N (from + k)) r p) n (λ k l. ap (λ (g : Grant). is_for g r p) (h k l))
